use mathlib.Core.Path.{◌≡◌, sym, ◌∙◌, ap₂}
use mathlib.Core.Bool.{false}
use lib.ListN.{length}
use borrow.Author.Tests.{eq-eqb, ne_eqb}
use Rattle.std.specs.Prelude.{Some}
use Rattle.trapezoids_code.proofs.Writing.{fill_nothing}
use Rattle.integer.specs.Fraction.{before}
use Rattle.geometry.specs.Ranges.{common_left, common_right}
use Rattle.overlay.specs.Overlaps.{overlaps}
use Rattle.geometry_code.proofs.Branches.{answers_left}
use Rattle.overlaps_code.specs.Code.{Opposed}
use Rattle.overlaps_code.proofs.Window.{apart}
use Rattle.overlay_code.proofs.Filling.{overlay_apart}
use Rattle.overlay_code.proofs.overlay_into.Goals as goal
use Rattle.overlay_code.proofs.overlay_into.Goals.{then-is_left+else-overlapping_by, else-is_left}

pub fill_overlapping-requires : goal.fill_overlapping-requires
fill_overlapping-requires c =
    let wide : let s = c.args in before (common_left s.a.shape s.b.shape) (common_right s.a.shape s.b.shape) ≡ c.is_left.result = let lo = c.common_left-lo.ensures in
    let hi = c.common_right-hi.ensures in
    sym (ap₂ before lo.is hi.is) ∙ answers_left lo.small hi.small c.compare.ensures ∙ sym c.is_left.ensures in
    let opposed : let s = c.args in Opposed s.a.shape s.b.shape c.meeting_of-m03.result c.meeting_of-m12.result = record { bottom_top = c.meeting_of-m03.ensures; top_bottom = c.meeting_of-m12.ensures } in
    let told : let s = c.args in c.overlapping_by.result ≡ overlaps s.a.shape s.b.shape = let lo = c.common_left-lo.ensures in
    let hi = c.common_right-hi.ensures in
    c.overlapping_by.ensures _ _ (opposed) lo.is hi.is (ap₂ before lo.is hi.is ∙ wide ∙ c.if-is_left.true) in
    record { pair = (c.requires.0, opposed, c.common_left-lo.ensures, c.common_right-hi.ensures); shape_value = (sym (told) ∙ c.if-overlapping_by.true, c.requires.1, c.requires.2) }

pub returns-then-tag-eq1 : goal.returns-then-tag-eq1
returns-then-tag-eq1 c =
    let s = c.args in
    let lo = c.common_left-lo.ensures in
    let hi = c.common_right-hi.ensures in
    let wide : before (common_left s.a.shape s.b.shape) (common_right s.a.shape s.b.shape) ≡ c.is_left.result = sym (ap₂ before lo.is hi.is) ∙ answers_left lo.small hi.small c.compare.ensures ∙ sym c.is_left.ensures in
    let no_overlap : overlaps s.a.shape s.b.shape ≡ false =
    elim c.if-is_left.branch [
      | then-is_left+else-overlapping_by w ↦
          let opposed : Opposed s.a.shape s.b.shape w.meeting_of-m03.result w.meeting_of-m12.result = record { bottom_top = w.meeting_of-m03.ensures; top_bottom = w.meeting_of-m12.ensures } in
          sym (w.overlapping_by.ensures _ _ opposed lo.is hi.is (ap₂ before lo.is hi.is ∙ wide ∙ w.if-is_left.true)) ∙ w.if-overlapping_by.false
      | else-is_left w ↦ sym (apart s.a.shape s.b.shape (wide ∙ w.if-is_left.false))
    ] in
    overlay_apart s.a.shape s.b.shape s.tag s.room (length s.out.now) c.put.result c.put.new.out no_overlap c.requires.1 (rw (eq-eqb s.tag 1 c.if-tag-eq1.true) c.put.ensures)

pub returns-else-tag-eq1 : goal.returns-else-tag-eq1
returns-else-tag-eq1 c =
    let s = c.args in
    let lo = c.common_left-lo.ensures in
    let hi = c.common_right-hi.ensures in
    let wide : before (common_left s.a.shape s.b.shape) (common_right s.a.shape s.b.shape) ≡ c.is_left.result = sym (ap₂ before lo.is hi.is) ∙ answers_left lo.small hi.small c.compare.ensures ∙ sym c.is_left.ensures in
    let no_overlap : overlaps s.a.shape s.b.shape ≡ false =
    elim c.if-is_left.branch [
      | then-is_left+else-overlapping_by w ↦
          let opposed : Opposed s.a.shape s.b.shape w.meeting_of-m03.result w.meeting_of-m12.result = record { bottom_top = w.meeting_of-m03.ensures; top_bottom = w.meeting_of-m12.ensures } in
          sym (w.overlapping_by.ensures _ _ opposed lo.is hi.is (ap₂ before lo.is hi.is ∙ wide ∙ w.if-is_left.true)) ∙ w.if-overlapping_by.false
      | else-is_left w ↦ sym (apart s.a.shape s.b.shape (wide ∙ w.if-is_left.false))
    ] in
    overlay_apart s.a.shape s.b.shape s.tag s.room (length s.out.now) (Some 0) s.out.now no_overlap c.requires.1 (rw (ne_eqb s.tag 1 c.if-tag-eq1.false) (fill_nothing s.out.now s.room c.requires.2))
