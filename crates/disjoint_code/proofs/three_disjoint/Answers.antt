use mathlib.Core.Path.{sym, ◌∙◌, ap₂}
use Prim.Native.Nat.{ℕ, ◌+◌}
use Rattle.geometry.specs.Trapezoids.{layer_of}
use Rattle.overlay.specs.Overlaps.{first_overlap}
use Rattle.disjoint_code.proofs.Rows.{third_decides}
use Rattle.disjoint_code.proofs.three_disjoint.Goals as goal

pub returns : goal.returns
returns c =
    let e = c.args.c.words.now in
    c.first_overlap.ensures ∙ ap₂ (λ (m n : ℕ). first_overlap (m + n) (layer_of e)) c.count.ensures.value c.count-2.ensures.value
    ∙ third_decides c.args.a.words.now c.args.b.words.now e (sym c.in_ok-both_disjoint.ensures)
