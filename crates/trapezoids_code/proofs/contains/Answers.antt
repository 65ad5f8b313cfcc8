use mathlib.Core.Path.{sym, ◌∙◌, ap}
use mathlib.Core.Bool.{not, true≢false}
use Rattle.lists.proofs.Tests.{true_is, false_is}
use Rattle.trapezoids_code.proofs.Points.{point_at, point_left, point_right, point_before, point_after, point_below, point_top}
use Rattle.trapezoids_code.proofs.contains.Goals as goal
use Rattle.trapezoids_code.proofs.contains.Goals.{then-not-is_left, else-not-is_left, then-is_left, else-is_left}

pub returns-in_default : goal.returns-in_default
returns-in_default c = point_left _ c.args.t (false_is c.in_default.ensures)

pub returns-in_default-ratio_of : goal.returns-in_default-ratio_of
returns-in_default-ratio_of c = point_right _ c.args.t (true_is c.in-Some.ensures.0) (false_is c.in_default-ratio_of.ensures)

pub returns-then-under : goal.returns-then-under
returns-then-under c =
    let t = c.args.t in
    let l = c.in-Some.ensures in
    let r = c.in-Some-ratio_of.ensures in
    let from = point_at t.left c.requires.1 l c.compare.ensures c.is_left.ensures in
    elim c.if-is_left.branch [
      | then-is_left w ↦ elim c.if-not-is_left.branch [
        | then-not-is_left v ↦
            let upto = point_at t.right c.requires.1 r v.compare-then-not-is_left.ensures v.is_left-then-not-is_left.ensures in
            ap not c.under-then-under.ensures
            ∙ point_top _ t (true_is l.0) (true_is r.0) (from ∙ v.if-not-is_left.true) (upto ∙ sym v.value-is ∙ w.if-is_left.true) (sym w.under.ensures ∙ sym w.value-is ∙ c.if-under.true)
        | else-not-is_left v ↦ absurd (true≢false (sym w.if-is_left.true ∙ v.value-is ∙ ap not v.if-not-is_left.false))
      ]
      | else-is_left w ↦ absurd (true≢false (sym c.if-under.true ∙ w.value-is ∙ w.if-is_left.false))
    ]

pub returns-else-under : goal.returns-else-under
returns-else-under c =
    let t = c.args.t in
    let l = c.in-Some.ensures in
    let r = c.in-Some-ratio_of.ensures in
    let from = point_at t.left c.requires.1 l c.compare.ensures c.is_left.ensures in
    elim c.if-not-is_left.branch [
      | then-not-is_left v ↦
          let upto = point_at t.right c.requires.1 r v.compare-then-not-is_left.ensures v.is_left-then-not-is_left.ensures ∙ sym v.value-is in
          elim c.if-is_left.branch [
            | then-is_left w ↦ c.if-under.false ∙ point_below _ t (true_is l.0) (true_is r.0) (from ∙ v.if-not-is_left.true) (upto ∙ w.if-is_left.true) (sym w.under.ensures ∙ sym w.value-is ∙ c.if-under.false)
            | else-is_left w ↦ c.if-under.false ∙ point_after _ t (true_is l.0) (true_is r.0) (from ∙ v.if-not-is_left.true) (upto ∙ w.if-is_left.false)
          ]
      | else-not-is_left v ↦ c.if-under.false ∙ point_before _ t (true_is l.0) (true_is r.0) (from ∙ v.if-not-is_left.false)
    ]
