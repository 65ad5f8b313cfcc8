use lib.ListN.{length}
use Rattle.overlaps_code.specs.Code.{MeetingsOf}
use Rattle.overlay_events_code.specs.Events.{Eight}
use Rattle.overlay_code.proofs.Within.{tag_positive}
use Rattle.overlay_code.proofs.Filling.{events_stand, events_ranged, overlay_filled}
use Rattle.overlay_code.proofs.fill_overlapping.Goals as goal

pub fill_columns-requires : goal.fill_columns-requires
fill_columns-requires c =
    let meetings : let s = c.args in MeetingsOf s.a.shape s.b.shape (record { m02 = c.meeting_of.result; m03 = s.m03; m12 = s.m12; m13 = c.meeting_of-2.result }) = let h = c.requires.pair.1 in
    record { m02 = c.meeting_of.ensures; m03 = h.bottom_top; m12 = h.top_bottom; m13 = c.meeting_of-2.ensures } in
    let eight : Eight c.events_into-count.new.num c.events_into-count.new.den c.events_into-count.new.name = record { nums = c.events_into-count.auto.num; dens = c.events_into-count.auto.den; names = c.events_into-count.auto.name } in
    let pair = c.requires.pair.0 in
    let e = c.events_into-count.ensures in
    let tag = c.args.tag in
    record { pair = (pair, meetings, events_stand (eight) e, tag_positive tag c.requires.shape_value.1, c.requires.shape_value.2); ranged = events_ranged pair.first.fit pair.second.fit tag c.requires.shape_value.1 c.requires.shape_value.0 e }

pub returns : goal.returns
returns c =
    let s = c.args in
    let pair = c.requires.pair.0 in
    overlay_filled pair.first.fit pair.second.fit s.tag c.requires.shape_value.1 s.room (length s.out.now) c.fill_columns.result c.fill_columns.new.out c.requires.shape_value.0 c.events_into-count.ensures c.fill_columns.ensures
