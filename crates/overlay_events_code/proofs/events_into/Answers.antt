use mathlib.Core.Path.{refl, sym, ◌∙◌, ap₂, subst}
use mathlib.Core.List.{List}
use native.Mathlib.Omega.{arith}
use Rattle.integer.specs.Fraction.{before}
use Rattle.geometry.specs.declared.Base.{Base}
use Rattle.geometry.specs.Positions.{position}
use Rattle.geometry_code.proofs.Branches.{answers_left}
use Rattle.sorting_code.specs.Entries.{Names}
use Rattle.overlay_events_code.specs.Events.{named, entry_name}
use Rattle.overlay_events_code.proofs.Adding.{having_none, having_stored, having_room, having_more, having_meeting, having_inside, small_some, all_held}
use Rattle.overlay_events_code.proofs.events_into.Goals as goal

pub add_if-q-requires : goal.add_if-q-requires
unfolding named
add_if-q-requires c =
    let s = c.args in
    let A = s.a.shape in
    let B = s.b.shape in
    let pre = c.requires in
    let h0 = having_none A B s.num.now s.den.now s.name.now pre.4 in
    let h1 = having_meeting A B h0 c.add_if-p.auto.num c.add_if-p.auto.den c.add_if-p.auto.name A.top B.top 7 c.meeting_between-top_top.result pre.2.is pre.3.is pre.1.m13 refl c.meeting_between-top_top.ensures.meeting_between c.add_if-p.ensures in
    (c.meeting_between-top_bottom.ensures.small, having_stored A B h1 (omega arith), having_room A B h1 (omega arith))

pub add_if-r-requires : goal.add_if-r-requires
unfolding named
add_if-r-requires c =
    let s = c.args in
    let A = s.a.shape in
    let B = s.b.shape in
    let pre = c.requires in
    let h0 = having_none A B s.num.now s.den.now s.name.now pre.4 in
    let h1 = having_meeting A B h0 c.add_if-p.auto.num c.add_if-p.auto.den c.add_if-p.auto.name A.top B.top 7 c.meeting_between-top_top.result pre.2.is pre.3.is pre.1.m13 refl c.meeting_between-top_top.ensures.meeting_between c.add_if-p.ensures in
    let h2 = having_meeting A B h1 c.add_if-q.auto.num c.add_if-q.auto.den c.add_if-q.auto.name A.top B.bottom 6 c.meeting_between-top_bottom.result pre.2.is pre.3.is pre.1.m12 refl c.meeting_between-top_bottom.ensures.meeting_between c.add_if-q.ensures in
    (c.meeting_between-bottom_top.ensures.small, having_stored A B h2 (omega arith), having_room A B h2 (omega arith))

pub add_if-s-requires : goal.add_if-s-requires
unfolding named
add_if-s-requires c =
    let s = c.args in
    let A = s.a.shape in
    let B = s.b.shape in
    let pre = c.requires in
    let h0 = having_none A B s.num.now s.den.now s.name.now pre.4 in
    let h1 = having_meeting A B h0 c.add_if-p.auto.num c.add_if-p.auto.den c.add_if-p.auto.name A.top B.top 7 c.meeting_between-top_top.result pre.2.is pre.3.is pre.1.m13 refl c.meeting_between-top_top.ensures.meeting_between c.add_if-p.ensures in
    let h2 = having_meeting A B h1 c.add_if-q.auto.num c.add_if-q.auto.den c.add_if-q.auto.name A.top B.bottom 6 c.meeting_between-top_bottom.result pre.2.is pre.3.is pre.1.m12 refl c.meeting_between-top_bottom.ensures.meeting_between c.add_if-q.ensures in
    let h3 = having_meeting A B h2 c.add_if-r.auto.num c.add_if-r.auto.den c.add_if-r.auto.name A.bottom B.top 5 c.meeting_between-bottom_top.result pre.2.is pre.3.is pre.1.m03 refl c.meeting_between-bottom_top.ensures.meeting_between c.add_if-r.ensures in
    (c.meeting_between-bottom_bottom.ensures.small, having_stored A B h3 (omega arith), having_room A B h3 (omega arith))

pub add_if-t-requires : goal.add_if-t-requires
unfolding named
add_if-t-requires c =
    let s = c.args in
    let A = s.a.shape in
    let B = s.b.shape in
    let pre = c.requires in
    let h0 = having_none A B s.num.now s.den.now s.name.now pre.4 in
    let h1 = having_meeting A B h0 c.add_if-p.auto.num c.add_if-p.auto.den c.add_if-p.auto.name A.top B.top 7 c.meeting_between-top_top.result pre.2.is pre.3.is pre.1.m13 refl c.meeting_between-top_top.ensures.meeting_between c.add_if-p.ensures in
    let h2 = having_meeting A B h1 c.add_if-q.auto.num c.add_if-q.auto.den c.add_if-q.auto.name A.top B.bottom 6 c.meeting_between-top_bottom.result pre.2.is pre.3.is pre.1.m12 refl c.meeting_between-top_bottom.ensures.meeting_between c.add_if-q.ensures in
    let h3 = having_meeting A B h2 c.add_if-r.auto.num c.add_if-r.auto.den c.add_if-r.auto.name A.bottom B.top 5 c.meeting_between-bottom_top.result pre.2.is pre.3.is pre.1.m03 refl c.meeting_between-bottom_top.ensures.meeting_between c.add_if-r.ensures in
    let h4 = having_meeting A B h3 c.add_if-s.auto.num c.add_if-s.auto.den c.add_if-s.auto.name A.bottom B.bottom 4 c.meeting_between-bottom_bottom.result pre.2.is pre.3.is pre.1.m02 refl c.meeting_between-bottom_bottom.ensures.meeting_between c.add_if-s.ensures in
    (small_some c.is_left.result s.b.right c.then_some-ends.ensures pre.0.second.right.small, having_stored A B h4 (omega arith), having_room A B h4 (omega arith))

pub add_if-u-requires : goal.add_if-u-requires
unfolding named
add_if-u-requires c =
    let s = c.args in
    let A = s.a.shape in
    let B = s.b.shape in
    let pre = c.requires in
    let h0 = having_none A B s.num.now s.den.now s.name.now pre.4 in
    let h1 = having_meeting A B h0 c.add_if-p.auto.num c.add_if-p.auto.den c.add_if-p.auto.name A.top B.top 7 c.meeting_between-top_top.result pre.2.is pre.3.is pre.1.m13 refl c.meeting_between-top_top.ensures.meeting_between c.add_if-p.ensures in
    let h2 = having_meeting A B h1 c.add_if-q.auto.num c.add_if-q.auto.den c.add_if-q.auto.name A.top B.bottom 6 c.meeting_between-top_bottom.result pre.2.is pre.3.is pre.1.m12 refl c.meeting_between-top_bottom.ensures.meeting_between c.add_if-q.ensures in
    let h3 = having_meeting A B h2 c.add_if-r.auto.num c.add_if-r.auto.den c.add_if-r.auto.name A.bottom B.top 5 c.meeting_between-bottom_top.result pre.2.is pre.3.is pre.1.m03 refl c.meeting_between-bottom_top.ensures.meeting_between c.add_if-r.ensures in
    let h4 = having_meeting A B h3 c.add_if-s.auto.num c.add_if-s.auto.den c.add_if-s.auto.name A.bottom B.bottom 4 c.meeting_between-bottom_bottom.result pre.2.is pre.3.is pre.1.m02 refl c.meeting_between-bottom_bottom.ensures.meeting_between c.add_if-s.ensures in
    let ends = c.is_left.ensures ∙ sym (answers_left pre.0.second.right.small pre.0.first.right.small c.compare.ensures) ∙ ap₂ before pre.0.second.right.is pre.0.first.right.is in
    let h5 = having_inside A B h4 c.add_if-t.auto.num c.add_if-t.auto.den c.add_if-t.auto.name B.right 3 c.then_some-ends.result ends c.then_some-ends.ensures pre.0.second.right refl c.add_if-t.ensures in
    (small_some c.is_left-2.result s.b.left c.then_some-begins.ensures pre.0.second.left.small, having_stored A B h5 (omega arith), having_room A B h5 (omega arith))

pub add_entry-v-requires : goal.add_entry-v-requires
unfolding named
add_entry-v-requires c =
    let s = c.args in
    let A = s.a.shape in
    let B = s.b.shape in
    let pre = c.requires in
    let h0 = having_none A B s.num.now s.den.now s.name.now pre.4 in
    let h1 = having_meeting A B h0 c.add_if-p.auto.num c.add_if-p.auto.den c.add_if-p.auto.name A.top B.top 7 c.meeting_between-top_top.result pre.2.is pre.3.is pre.1.m13 refl c.meeting_between-top_top.ensures.meeting_between c.add_if-p.ensures in
    let h2 = having_meeting A B h1 c.add_if-q.auto.num c.add_if-q.auto.den c.add_if-q.auto.name A.top B.bottom 6 c.meeting_between-top_bottom.result pre.2.is pre.3.is pre.1.m12 refl c.meeting_between-top_bottom.ensures.meeting_between c.add_if-q.ensures in
    let h3 = having_meeting A B h2 c.add_if-r.auto.num c.add_if-r.auto.den c.add_if-r.auto.name A.bottom B.top 5 c.meeting_between-bottom_top.result pre.2.is pre.3.is pre.1.m03 refl c.meeting_between-bottom_top.ensures.meeting_between c.add_if-r.ensures in
    let h4 = having_meeting A B h3 c.add_if-s.auto.num c.add_if-s.auto.den c.add_if-s.auto.name A.bottom B.bottom 4 c.meeting_between-bottom_bottom.result pre.2.is pre.3.is pre.1.m02 refl c.meeting_between-bottom_bottom.ensures.meeting_between c.add_if-s.ensures in
    let ends = c.is_left.ensures ∙ sym (answers_left pre.0.second.right.small pre.0.first.right.small c.compare.ensures) ∙ ap₂ before pre.0.second.right.is pre.0.first.right.is in
    let h5 = having_inside A B h4 c.add_if-t.auto.num c.add_if-t.auto.den c.add_if-t.auto.name B.right 3 c.then_some-ends.result ends c.then_some-ends.ensures pre.0.second.right refl c.add_if-t.ensures in
    let begins = c.is_left-2.ensures ∙ sym (answers_left pre.0.first.left.small pre.0.second.left.small c.compare-2.ensures) ∙ ap₂ before pre.0.first.left.is pre.0.second.left.is in
    let h6 = having_inside A B h5 c.add_if-u.auto.num c.add_if-u.auto.den c.add_if-u.auto.name B.left 2 c.then_some-begins.result begins c.then_some-begins.ensures pre.0.second.left refl c.add_if-u.ensures in
    (having_stored A B h6 (omega arith), pre.0.first.right.small, having_room A B h6 (omega arith))

pub add_entry-requires : goal.add_entry-requires
unfolding named
add_entry-requires c =
    let s = c.args in
    let A = s.a.shape in
    let B = s.b.shape in
    let pre = c.requires in
    let h0 = having_none A B s.num.now s.den.now s.name.now pre.4 in
    let h1 = having_meeting A B h0 c.add_if-p.auto.num c.add_if-p.auto.den c.add_if-p.auto.name A.top B.top 7 c.meeting_between-top_top.result pre.2.is pre.3.is pre.1.m13 refl c.meeting_between-top_top.ensures.meeting_between c.add_if-p.ensures in
    let h2 = having_meeting A B h1 c.add_if-q.auto.num c.add_if-q.auto.den c.add_if-q.auto.name A.top B.bottom 6 c.meeting_between-top_bottom.result pre.2.is pre.3.is pre.1.m12 refl c.meeting_between-top_bottom.ensures.meeting_between c.add_if-q.ensures in
    let h3 = having_meeting A B h2 c.add_if-r.auto.num c.add_if-r.auto.den c.add_if-r.auto.name A.bottom B.top 5 c.meeting_between-bottom_top.result pre.2.is pre.3.is pre.1.m03 refl c.meeting_between-bottom_top.ensures.meeting_between c.add_if-r.ensures in
    let h4 = having_meeting A B h3 c.add_if-s.auto.num c.add_if-s.auto.den c.add_if-s.auto.name A.bottom B.bottom 4 c.meeting_between-bottom_bottom.result pre.2.is pre.3.is pre.1.m02 refl c.meeting_between-bottom_bottom.ensures.meeting_between c.add_if-s.ensures in
    let ends = c.is_left.ensures ∙ sym (answers_left pre.0.second.right.small pre.0.first.right.small c.compare.ensures) ∙ ap₂ before pre.0.second.right.is pre.0.first.right.is in
    let h5 = having_inside A B h4 c.add_if-t.auto.num c.add_if-t.auto.den c.add_if-t.auto.name B.right 3 c.then_some-ends.result ends c.then_some-ends.ensures pre.0.second.right refl c.add_if-t.ensures in
    let begins = c.is_left-2.ensures ∙ sym (answers_left pre.0.first.left.small pre.0.second.left.small c.compare-2.ensures) ∙ ap₂ before pre.0.first.left.is pre.0.second.left.is in
    let h6 = having_inside A B h5 c.add_if-u.auto.num c.add_if-u.auto.den c.add_if-u.auto.name B.left 2 c.then_some-begins.result begins c.then_some-begins.ensures pre.0.second.left refl c.add_if-u.ensures in
    let h7 = having_more A B h6 c.add_entry-v.auto.num c.add_entry-v.auto.den c.add_entry-v.auto.name A.right 1 s.a.right pre.0.first.right refl c.add_entry-v.ensures in
    (having_stored A B h7 (omega arith), pre.0.first.left.small, having_room A B h7 (omega arith))

pub returns : goal.returns
unfolding named
returns c =
    let s = c.args in
    let A = s.a.shape in
    let B = s.b.shape in
    let pre = c.requires in
    let h0 = having_none A B s.num.now s.den.now s.name.now pre.4 in
    let h1 = having_meeting A B h0 c.add_if-p.auto.num c.add_if-p.auto.den c.add_if-p.auto.name A.top B.top 7 c.meeting_between-top_top.result pre.2.is pre.3.is pre.1.m13 refl c.meeting_between-top_top.ensures.meeting_between c.add_if-p.ensures in
    let h2 = having_meeting A B h1 c.add_if-q.auto.num c.add_if-q.auto.den c.add_if-q.auto.name A.top B.bottom 6 c.meeting_between-top_bottom.result pre.2.is pre.3.is pre.1.m12 refl c.meeting_between-top_bottom.ensures.meeting_between c.add_if-q.ensures in
    let h3 = having_meeting A B h2 c.add_if-r.auto.num c.add_if-r.auto.den c.add_if-r.auto.name A.bottom B.top 5 c.meeting_between-bottom_top.result pre.2.is pre.3.is pre.1.m03 refl c.meeting_between-bottom_top.ensures.meeting_between c.add_if-r.ensures in
    let h4 = having_meeting A B h3 c.add_if-s.auto.num c.add_if-s.auto.den c.add_if-s.auto.name A.bottom B.bottom 4 c.meeting_between-bottom_bottom.result pre.2.is pre.3.is pre.1.m02 refl c.meeting_between-bottom_bottom.ensures.meeting_between c.add_if-s.ensures in
    let ends = c.is_left.ensures ∙ sym (answers_left pre.0.second.right.small pre.0.first.right.small c.compare.ensures) ∙ ap₂ before pre.0.second.right.is pre.0.first.right.is in
    let h5 = having_inside A B h4 c.add_if-t.auto.num c.add_if-t.auto.den c.add_if-t.auto.name B.right 3 c.then_some-ends.result ends c.then_some-ends.ensures pre.0.second.right refl c.add_if-t.ensures in
    let begins = c.is_left-2.ensures ∙ sym (answers_left pre.0.first.left.small pre.0.second.left.small c.compare-2.ensures) ∙ ap₂ before pre.0.first.left.is pre.0.second.left.is in
    let h6 = having_inside A B h5 c.add_if-u.auto.num c.add_if-u.auto.den c.add_if-u.auto.name B.left 2 c.then_some-begins.result begins c.then_some-begins.ensures pre.0.second.left refl c.add_if-u.ensures in
    let h7 = having_more A B h6 c.add_entry-v.auto.num c.add_entry-v.auto.den c.add_entry-v.auto.name A.right 1 s.a.right pre.0.first.right refl c.add_entry-v.ensures in
    let h8 = having_more A B h7 c.add_entry.auto.num c.add_entry.auto.den c.add_entry.auto.name A.left 0 s.a.left pre.0.first.left refl c.add_entry.ensures in
    record {
      names = subst (λ (ks : List Base). Names position (entry_name A B) ks c.add_entry.result c.add_entry.new.num c.add_entry.new.den c.add_entry.new.name) (all_held A B) h8.names;
      few = h8.upto;
    }
