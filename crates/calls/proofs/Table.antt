-- The table of paper 01: the definitions compute to what each row says.
use mathlib.Core.Path.{refl}
use Rattle.lists.specs.Lists.{cut}
use Rattle.lists.specs.Tests.{keep}
use Rattle.integer.specs.Integer.{◌⊕◌, ◌⊖◌, ◌⊗◌, ⊝◌}
use Rattle.integer.specs.Compare.{order_of}
use Rattle.integer.specs.Fraction.{before, order}
use Rattle.records.specs.Limits.{sized}
use Rattle.records.specs.Records.{record_at, records_from, words_of}
use Rattle.records.specs.Words.{unsigned, signed, word_of, bytes_of}
use Rattle.levels.specs.Levels.{insert, levels}
use Rattle.geometry.specs.Limit.{on_grid}
use Rattle.geometry.specs.Lines.{dx, dy, offset, det, numer}
use Rattle.geometry.specs.Positions.{crosses, ratio, meet, heights, right_of, below}
use Rattle.geometry.specs.Standing.{one_sign, horizontal}
use Rattle.geometry.specs.Points.{orientation, under}
use Rattle.geometry.specs.Trapezoids.{trapezoid_of, trapezoid_words, lies_in}
use Rattle.geometry.specs.Fitness.{line_on_grid, is_line, below_between, shape_verdict, verdict, first_refusal}
use Rattle.geometry.specs.Ranges.{common_left, common_right}
use Rattle.geometry.specs.Polygons.{vertex_on_grid}
use Rattle.sweep.specs.Sums.{sum}
use Rattle.sweep.specs.Segments.{spans, inside, cross_inside}
use Rattle.sweep.specs.Columns.{slabs, up_to, column}
use Rattle.sweep.specs.Sweep.{columns, sweep}
use Rattle.overlay.specs.Overlaps.{crosses_in_common, overlap_right, overlap_from, overlaps, overlap_past}
use Rattle.overlay.specs.Overlay as overlays
use Rattle.boolean.specs.Operations.{minus, minus_all, difference}
use Rattle.boolean.specs.Sources.{sourced_difference}
use Rattle.boolean.specs.Space.{minus_stages, minus_all_stages, difference_stages, space}
use Rattle.connectivity.specs.Touching.{not_above, touches_right, touches_from, touches_along, lower_at, touches_upright, touches}
use Rattle.connectivity.specs.Components.{own_numbers, relabelled, joined_numbers, joined_first, joined_all, owners, touching_at, component_numbers, component_count}
use Rattle.fracture.specs.Polygons.{edge, edges_from, edges}
use Rattle.fracture.specs.Fracture as fractures
use Rattle.files.specs.Formats.{file_sized}
use Rattle.files.specs.Pairs.{next_offset, length_read}
use Rattle.files.specs.Directory.{number_from, count_of, pair_length, end_of, pairs_from, directory_of}
use Rattle.files.specs.Contents.{lengths_from, vertex_of, vertex_words}
use Rattle.files.specs.Rows.{first_off_grid, polygon_file_checked}
use Rattle.calls.specs.Components.{lists_sized, components_checked, components_outcome}
use Rattle.calls.specs.Rows.{point_passes, fracture_checked, combine_checked, equal_checked, contains_checked}
use Rattle.calls.specs.Outcomes.{fracture_outcome, combined, equal_outcome, contains_answer}
use Rattle.calls.specs.Table.{Table}

pub table : Table
unfolding ◌⊕◌ ◌⊖◌ ◌⊗◌ ⊝◌ order_of before sized record_at records_from words_of unsigned signed word_of bytes_of insert levels
    on_grid dx dy offset det numer crosses ratio meet heights right_of below orientation under trapezoid_of trapezoid_words lies_in
    order one_sign horizontal line_on_grid is_line below_between shape_verdict verdict first_refusal keep sum spans inside cross_inside slabs up_to column columns sweep
    common_left common_right crosses_in_common overlap_right overlap_from overlaps overlap_past overlays.sides overlays.side_crossings overlays.overlay_events overlays.fills
    overlays.tag_above overlays.stack overlays.parts overlays.subdivision overlays.overlay overlays.tagged
    not_above touches_right touches_from touches_along lower_at touches_upright touches own_numbers relabelled joined_numbers joined_first joined_all owners
    touching_at component_numbers component_count lists_sized components_checked components_outcome
    minus minus_all difference sourced_difference minus_stages minus_all_stages difference_stages space
    file_sized next_offset length_read number_from count_of pair_length end_of pairs_from directory_of lengths_from cut vertex_of vertex_words vertex_on_grid first_off_grid polygon_file_checked
    edge edges_from edges fractures.mark fractures.marks fractures.edge_crossings_with fractures.edge_crossings fractures.polygon_events
    fractures.trapezoids fractures.fracture fractures.fracture_all
    point_passes fracture_checked combine_checked equal_checked contains_checked fracture_outcome combined equal_outcome contains_answer
table =
    record {
      a_tags = refl;
      b_counts = refl;
      b_space = refl;
      c_counts = refl;
      d_counts = refl;
      e_tags = refl;
      e_components = refl;
      e_corner = refl;
      f_outside = refl;
      f_inside = refl;
      g_counts = refl;
      h_counts = refl;
      i_counts = refl;
      i_beyond_x = refl;
      i_beyond_y = refl;
      j_same = refl;
      j_no_words = refl;
    }
