use mathlib.Core.Path.{◌≡◌, sym, ◌∙◌}
use mathlib.Core.Bool.{true, true≢false}
use Rattle.integer.specs.Fraction.{Fraction, before}
use Rattle.geometry.specs.declared.Trapezoid.{Trapezoid}
use Rattle.geometry.specs.Ranges.{common_left, common_right}
use Rattle.overlaps_code.proofs.Window.{from_start, from_first, from_second}
use Rattle.overlaps_code.proofs.overlapping_by.Goals as goal
use Rattle.overlaps_code.proofs.overlapping_by.Goals.{then-overlap_right, else-overlap_right}

wide : (A B : Trapezoid) {lo hi : Fraction} → lo ≡ common_left A B → hi ≡ common_right A B → before lo hi ≡ true → before (common_left A B) (common_right A B) ≡ true
wide A B e f w = rw (e, f) at w

pub returns-then-overlap_from : goal.returns-then-overlap_from
returns-then-overlap_from c A B h e f w =
    let start = c.overlap_right.ensures A B h ∙ rw e in
    c.if-overlap_from.true
    ∙ elim c.if-overlap_right.branch [
      | then-overlap_right b ↦ from_start A B (wide A B e f w) (sym start ∙ b.if-overlap_right.true)
      | else-overlap_right b ↦ from_first A B (wide A B e f w) (sym start ∙ b.if-overlap_right.false) (sym (b.overlap_from.ensures A B _ _ h h.bottom_top ∙ rw (e, f)) ∙ sym b.value-is ∙ c.if-overlap_from.true)
    ]

pub returns-else-overlap_from : goal.returns-else-overlap_from
returns-else-overlap_from c A B h e f w =
    let start = c.overlap_right.ensures A B h ∙ rw e in
    elim c.if-overlap_right.branch [
      | then-overlap_right b ↦ absurd (true≢false (sym b.if-overlap_right.true ∙ sym b.value-is ∙ c.if-overlap_from.false))
      | else-overlap_right b ↦ from_second A B (wide A B e f w) (sym start ∙ b.if-overlap_right.false)
          (sym (b.overlap_from.ensures A B _ _ h h.bottom_top ∙ rw (e, f)) ∙ sym b.value-is ∙ c.if-overlap_from.false)
          (c.overlap_from-else-overlap_from.ensures A B _ _ h h.top_bottom ∙ rw (e, f))
    ]
