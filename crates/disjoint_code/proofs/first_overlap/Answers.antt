use Rattle.std.specs.Prelude.{◌≡◌, ℕ, ◌+◌, ◌<◌}
use Rattle.records.specs.Records.{count}
use Rattle.geometry.specs.Trapezoids.{trapezoid_codec}
use mathlib.Core.Path.{sym, ◌∙◌, ap}
use native.Mathlib.Omega.{arith}
use Rattle.geometry.specs.Refusals.{refused_by}
use Rattle.boxes_code.proofs.BoxedLayers.{layer_boxed}
use Rattle.disjoint_code.proofs.Searching.{search_stop, search_found, search_turn, none_start, none_turn, none_skip}
use Rattle.disjoint_code.proofs.first_overlap.Goals as goal
use Rattle.disjoint_code.proofs.first_overlap.Goals.{else-search-test, then-search-test+then-loop-earlier-test+then-overlapping_at}

pub loop-earlier-init : goal.loop-earlier-init
loop-earlier-init c =
    let a = c.args in
    let here : c.search.later < count trapezoid_codec a.layer.words.now = omega (arith, c.search-test.true, c.count-later-end.ensures.value) in
    record {
      before = none_skip a.layer.words.now a.layer.boxes.now (layer_boxed a.layer) c.search.later here c.box_at-e.result (c.box_at-e.ensures ∙ sym (a.layer.each c.search.later here)) (none_start a.layer.words.now c.search.later) c.next_overlapping-earlier.ensures.skipped;
      nothing = c.search.invariant.nothing;
    }

pub loop-earlier-preserved : goal.loop-earlier-preserved
loop-earlier-preserved c =
    let a = c.args in
    let here : c.search.later < count trapezoid_codec a.layer.words.now = omega (arith, c.search-test.true, c.count-later-end.ensures.value) in
    record {
      before = none_skip a.layer.words.now a.layer.boxes.now (layer_boxed a.layer) c.search.later here c.box_at-e.result (c.box_at-e.ensures ∙ sym (a.layer.each c.search.later here))
          (none_turn c.loop-earlier.invariant.before c.loop-earlier-test.true (sym c.overlapping_at.ensures ∙ c.if-overlapping_at.false)) c.next_overlapping-earlier-in-loop-earlier.ensures.skipped;
      nothing = c.loop-earlier.invariant.nothing;
    }

pub search-preserved : goal.search-preserved
search-preserved c =
    let inv = c.loop-earlier.invariant in
    record {
      searching = search_turn c.args.start c.search.invariant.searching (omega (arith, c.search-test.true, c.count-later-end.ensures.value)) (λ k l. inv.before.none k (omega (arith, l, c.loop-earlier-test.false)));
      nothing = inv.nothing;
    }

pub returns-in-None : goal.returns-in-None
returns-in-None c =
    elim c.search-test.branch [
      | else-search-test w ↦ search_stop c.args.start c.search.invariant.searching (omega (arith, w.search-test.false, c.count-later-end.ensures.value))
      | then-search-test+then-loop-earlier-test+then-overlapping_at w ↦ let found = sym c.in-None.is ∙ w.overlapping-is in cc
    ]

pub returns-in-Some : goal.returns-in-Some
returns-in-Some c =
    elim c.search-test.branch [
      | else-search-test w ↦ let none = sym c.in-Some.is ∙ (w.overlapping-is ∙ c.search.invariant.nothing) in cc
      | then-search-test+then-loop-earlier-test+then-overlapping_at w ↦
          let found : c.in-Some.later ≡ c.search.later = let e = sym c.in-Some.is ∙ w.overlapping-is in cc in
          ap (λ (k : ℕ). refused_by 13 (c.args.start + k)) found
          ∙ search_found c.args.start c.search.invariant.searching (omega (arith, w.search-test.true, c.count-later-end.ensures.value)) w.loop-earlier.earlier w.loop-earlier-test.true (sym w.overlapping_at.ensures ∙ w.if-overlapping_at.true)
    ]
