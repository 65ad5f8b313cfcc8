use mathlib.Core.Path.{sym, ◌∙◌, ap}
use Prim.Native.Nat.{ℕ}
use Rattle.geometry.specs.Trapezoids.{layer_of}
use Rattle.overlay.specs.Overlaps.{first_overlap}
use Rattle.disjoint_code.proofs.Rows.{second_decides}
use Rattle.disjoint_code.proofs.both_disjoint.Goals as goal

pub returns : goal.returns
returns c =
    let b = c.args.b.words.now in
    c.first_overlap-2.ensures ∙ ap (λ (n : ℕ). first_overlap n (layer_of b)) c.count.ensures.value ∙ second_decides c.args.a.words.now b (sym c.in_ok-first_overlap.ensures)
