use mathlib.Core.Path.{sym, ◌∙◌, ap, subst}
use mathlib.Core.List.{[], ◌∷◌}
use lib.ListN.{length}
use lib.IntN.{ℤ}
use mir.Facts.{to_z-of_z}
use Rattle.geometry.specs.Trapezoids.{layer_of}
use Rattle.sources.specs.Sourced.{bearing}
use Rattle.boolean.specs.Operations.{minus_all}
use Rattle.boolean.specs.Space.{one_stages}
use Rattle.bearing_code.specs.Code.{borne, SourcedAs}
use Rattle.bearing_code.proofs.Bearing.{folded_bearing}
use Rattle.difference_code.proofs.one_bearing.Goals as goal

pub returns : goal.returns
returns c =
    let a = c.args in
    let f = c.one_into-f in
    let t = f.new.out in
    let n = length a.out.now in
    let B = layer_of a.layer.now in
    let e = c.bear.ensures ∙ ap (λ (z : ℤ). borne f.result z t) (to_z-of_z c.ranges.sources) in
    record {
      one_bearing =
          subst (SourcedAs n a.room (bearing a.sources (minus_all (a.a.shape ∷ []) B)) (one_stages 0 a.a.shape B) f.result) (sym e)
          (folded_bearing a.sources n a.room (minus_all (a.a.shape ∷ []) B) (one_stages 0 a.a.shape B) f.result t f.ensures.one_written);
      overlays_within = f.ensures.overlays_within;
      blank = f.ensures.blank;
    }
