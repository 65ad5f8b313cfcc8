use Rattle.overlay_code.proofs.overlapping_into.Goals as goal

pub fill_overlapping-requires : goal.fill_overlapping-requires
fill_overlapping-requires c =
    record {
      pair = (c.requires.0, record { bottom_top = c.meeting_of-m03.ensures; top_bottom = c.meeting_of-m12.ensures }, c.common_left-lo.ensures, c.common_right-hi.ensures);
      shape_value = (c.requires.2, c.requires.1, c.requires.3);
    }
