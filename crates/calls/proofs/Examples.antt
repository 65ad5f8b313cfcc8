-- The definitions compute, where no theorem can see a mistake: the order of the rows, and of the bytes of a word.
use mathlib.Core.Path.{◌≡◌, refl}
use mathlib.Core.List.{List, [], ◌∷◌, ◌++◌}
use Prim.Native.Nat.{ℕ}
use lib.IntN.{ℤ, pos, negsuc}
use Rattle.lists.specs.Lists.{each, cut}
use Rattle.lists.specs.Tests.{keep}
use Rattle.integer.specs.Integer.{◌⊕◌, ◌⊖◌, ◌⊗◌, ⊝◌}
use Rattle.integer.specs.Compare.{order_of}
use Rattle.integer.specs.Fraction.{before, order}
use Rattle.records.specs.Limits.{sized}
use Rattle.records.specs.Records.{record_at, records_from, words_of}
use Rattle.records.specs.Words.{unsigned, signed, word_of, bytes_of, word_codec}
use Rattle.levels.specs.Levels.{insert, levels}
use Rattle.geometry.specs.declared.Trapezoid.{Trapezoid}
use Rattle.geometry.specs.Limit.{on_grid}
use Rattle.geometry.specs.Lines.{dx, dy, offset, det, numer}
use Rattle.geometry.specs.Positions.{crosses, ratio, meet, heights, right_of, below}
use Rattle.geometry.specs.Standing.{one_sign, horizontal}
use Rattle.geometry.specs.Points.{orientation, under}
use Rattle.geometry.specs.Trapezoids.{trapezoid_of, trapezoid_words, lies_in}
use Rattle.geometry.specs.Fitness.{line_on_grid, is_line, below_between, shape_verdict, verdict, first_refusal}
use Rattle.geometry.specs.Polygons.{vertex_on_grid}
use Rattle.sources.specs.Sets.{mask, single, joined}
use Rattle.sources.specs.Sourced.{sourced_codec, sources_at, bearing}
use Rattle.sweep.specs.Sums.{sum}
use Rattle.sweep.specs.Segments.{spans, inside, cross_inside}
use Rattle.sweep.specs.Columns.{slabs, up_to, column}
use Rattle.sweep.specs.Sweep.{columns, sweep}
use Rattle.geometry.specs.Ranges.{common_left, common_right}
use Rattle.overlay.specs.Overlaps.{crosses_in_common, overlap_right, overlap_from, overlaps, overlap_past}
use Rattle.overlay.specs.Overlay as overlays
use Rattle.boolean.specs.Operations.{minus, minus_all, difference, deoverlapped_from}
use Rattle.boolean.specs.Sources.{sourced_difference, sourced_common, sourced_intersection, sourced_deoverlapped_from}
use Rattle.boolean.specs.Space.{minus_stages, minus_all_stages, difference_stages, common_stages, intersection_stages, deoverlapped_stages, space}
use Rattle.connectivity.specs.Touching.{not_above, touches_right, touches_from, touches_along, lower_at, touches_upright, touches}
use Rattle.connectivity.specs.Components.{own_numbers, relabelled, joined_numbers, joined_first, joined_all, touching_at, component_numbers}
use Rattle.extraction.specs.Shapes.{having_number, shape_of, shape_numbers}
use Rattle.extraction.specs.Extraction.{shape_encloses, triples, enclosing_stages}
use Rattle.fracture.specs.Polygons.{edge, edges_from, edges}
use Rattle.fracture.specs.Fracture as fractures
use Rattle.files.specs.declared.Edition.TheVariants.{First, New}
use Rattle.files.specs.Formats.{file_sized}
use Rattle.files.specs.Pairs.{next_offset, length_read}
use Rattle.files.specs.Directory.{number_from, count_of, pair_length, end_of, pairs_from, directory_of}
use Rattle.files.specs.Contents.{lengths_from, vertex_of, vertex_words, file_codec, memory_words, written_words}
use Rattle.files.specs.Rows.{first_off_grid, polygon_file_checked, layers_checked, layer_file_checked}
use Rattle.files.specs.Outcomes as files
use Rattle.files.specs.Outcomes.{refused, done}
use Rattle.calls.specs.Components as connectivity
use Rattle.calls.specs.Answers.{refused_equality, refused_point, yes}
use Rattle.calls.specs.Rows.{plate_limit, point_passes, fracture_checked, combine_checked, deoverlap_checked, equal_checked, contains_checked}
use Rattle.calls.specs.Outcomes.{observed, fracture_outcome, combined, deoverlap_outcome, equal_outcome, contains_answer}
use Rattle.calls.specs.Transistors.{transistors_checked, observed_transistors, transistors_outcome}
use Rattle.calls.specs.Table.{box, Q, R, S, layer, q, lent, cleared, vertex, file_of, square, point}

-- ---- "Rows are checked downward": each input below breaks two rows or more
-- no height (row 11), and beyond the grid (row 7)
abbrev flat : Trapezoid
flat = box 0 1 4 1

abbrev far : Trapezoid
far = box 0 0 2049 4

-- a number of words that is no multiple of 25
abbrev odd : List ℤ
odd = pos 1 ∷ []

-- a success: "Pieces go to the output from its first free record on; the rest is zero, and so is the work area." The union of Q and no trapezoid
abbrev Written : Type 0
Written = combined plate_limit 0 q [] (lent 2) (lent 2) ≡ observed (done 1 0) (q ++ cleared 1) (cleared 2)

-- row 1, then 2, then 7 to 11, then 12 (Q and no room)
abbrev Combined : Type 0
Combined =
    ((combined plate_limit 5 odd (layer (far ∷ [])) [] []).answer ≡ refused 1 0)
    × ((combined plate_limit 5 (layer (far ∷ [])) q [] []).answer ≡ refused 2 0)
    × ((combined plate_limit 0 (layer (far ∷ [])) q [] []).answer ≡ refused 7 0)
    × ((combined plate_limit 0 q q [] []).answer ≡ refused 12 0)

-- "7 to 11 are completed for one piece before the next, A's pieces before B's, numbered on from A"
abbrev Places : Type 0
Places =
    ((combined plate_limit 0 (layer (Q ∷ flat ∷ far ∷ [])) (layer (far ∷ [])) [] []).answer ≡ refused 11 1)
    × ((combined plate_limit 0 q (layer (Q ∷ far ∷ flat ∷ [])) [] []).answer ≡ refused 7 2)
    × ((equal_outcome plate_limit (layer (flat ∷ [])) (layer (far ∷ [])) [] []).answer ≡ refused_equality 11 0)

-- row 1, then 2, then 3, then 7 to 11
abbrev Asked : Type 0
Asked =
    (contains_answer plate_limit (point 0 0 0) odd [] 5 ≡ refused_point 1 0)
    × (contains_answer plate_limit (point 0 0 0) (layer (far ∷ [])) [] 5 ≡ refused_point 2 0)
    × (contains_answer plate_limit (point 0 0 0) (layer (far ∷ [])) [] 0 ≡ refused_point 3 0)
    × (contains_answer plate_limit (point 0 0 1) (layer (far ∷ [])) [] 0 ≡ refused_point 7 0)

-- row 1, then 7 to 11, of the other calls
abbrev Others : Type 0
Others =
    ((deoverlap_outcome plate_limit (layer (far ∷ [])) odd odd).answer ≡ refused 1 0)
    × ((deoverlap_outcome plate_limit (layer (far ∷ [])) [] []).answer ≡ refused 7 0)
    × ((equal_outcome plate_limit (layer (far ∷ [])) [] odd odd).answer ≡ refused_equality 1 0)
    × ((connectivity.components_outcome plate_limit (layer (far ∷ [])) []).answer ≡ connectivity.refused_components 1 0)
    × ((connectivity.components_outcome plate_limit (layer (far ∷ [])) (0 ∷ [])).answer ≡ connectivity.refused_components 7 0)

-- ---- files: row 1, then 4, 5, 6, 7, then 12
abbrev bytes : List ℤ → List ℕ
bytes ws = words_of word_codec ws

-- three bytes; 65 polygons; a length of 2; a vertex beyond the grid
abbrev Polygons : Type 0
Polygons =
    ((fracture_outcome New plate_limit 0 (1 ∷ 2 ∷ 3 ∷ []) odd odd).answer ≡ refused 1 0)
    × ((fracture_outcome New plate_limit 0 (1 ∷ 2 ∷ 3 ∷ []) [] []).answer ≡ refused 4 0)
    × ((fracture_outcome New plate_limit 0 (bytes (pos 65 ∷ pos 1 ∷ [])) [] []).answer ≡ refused 5 0)
    × ((fracture_outcome New plate_limit 0 (bytes (pos 1 ∷ pos 0 ∷ pos 2 ∷ pos 2049 ∷ pos 0 ∷ [])) [] []).answer ≡ refused 6 0)
    × ((fracture_outcome New plate_limit 0 (file_of (vertex 2049 0 ∷ vertex 2 0 ∷ vertex 0 2 ∷ [])) [] []).answer ≡ refused 7 0)
    × ((fracture_outcome New plate_limit 0 (file_of (vertex 0 0 ∷ vertex 2 0 ∷ vertex 0 2 ∷ [])) [] []).answer ≡ refused 12 0)

-- a length left out, before an output that is too short: the older reader, with the first rule, and the new one
abbrev LeftOut : Type 0
LeftOut =
    ((fracture_outcome First plate_limit 0 (bytes (pos 1 ∷ pos 0 ∷ pos 0 ∷ pos 0 ∷ pos 0 ∷ pos 2 ∷ pos 0 ∷ pos 0 ∷ pos 2 ∷ [])) [] []).answer ≡ refused 6 0)
    × ((fracture_outcome New plate_limit 0 (bytes (pos 1 ∷ pos 0 ∷ pos 0 ∷ pos 0 ∷ pos 0 ∷ pos 2 ∷ pos 0 ∷ pos 0 ∷ pos 2 ∷ [])) [] []).answer ≡ refused 12 0)

-- a layer's words on file: 24 for each trapezoid
abbrev on_file : List Trapezoid → List ℤ
on_file ts = words_of file_codec ts

-- 17 layers; an offset of 1; a trapezoid beyond the grid; and an output that is too short for any of them. "in a book they are numbered through all
-- layers": the second layer's first trapezoid is number 1.
abbrev Layers : Type 0
Layers =
    ((files.read_layers plate_limit (1 ∷ 2 ∷ 3 ∷ []) []).answer ≡ files.refused 4 0)
    × ((files.read_layers plate_limit (bytes (pos 17 ∷ pos 1 ∷ [])) []).answer ≡ files.refused 5 0)
    × ((files.read_layers plate_limit (bytes (pos 1 ∷ pos 1 ∷ pos 1 ∷ on_file (far ∷ []))) []).answer ≡ files.refused 6 0)
    × ((files.read_layers plate_limit (bytes (pos 1 ∷ pos 0 ∷ pos 1 ∷ on_file (far ∷ []))) []).answer ≡ files.refused 7 0)
    × ((files.read_layers plate_limit (bytes (pos 1 ∷ pos 0 ∷ pos 1 ∷ on_file (Q ∷ []))) []).answer ≡ files.refused 12 0)
    × ((files.write_layers plate_limit (pos 17 ∷ pos 1 ∷ []) []).answer ≡ files.refused 5 0)
    × ((files.write_layers plate_limit (pos 2 ∷ pos 0 ∷ pos 1 ∷ pos 1 ∷ pos 1 ∷ layer (Q ∷ far ∷ [])) []).answer ≡ files.refused 7 1)
    × ((files.write_layers plate_limit (pos 1 ∷ pos 0 ∷ pos 1 ∷ q) []).answer ≡ files.refused 12 0)

-- ---- "Files are signed 32-bit words, low byte first."
abbrev Bytes : Type 0
Bytes =
    (bytes_of (pos 258) ≡ 2 ∷ 1 ∷ 0 ∷ 0 ∷ [])
    × (bytes_of (negsuc 2047) ≡ 0 ∷ 248 ∷ 255 ∷ 255 ∷ [])
    × (word_of (2 ∷ 1 ∷ 0 ∷ 0 ∷ []) ≡ pos 258)
    × (word_of (0 ∷ 248 ∷ 255 ∷ 255 ∷ []) ≡ negsuc 2047)

examples : Written × Combined × Places × Asked × Others × Polygons × LeftOut × Layers × Bytes
unfolding ◌⊕◌ ◌⊖◌ ◌⊗◌ ⊝◌ order_of before sized record_at records_from words_of unsigned signed word_of bytes_of insert levels
    on_grid dx dy offset det numer crosses ratio meet heights right_of below trapezoid_of trapezoid_words
    order one_sign horizontal line_on_grid is_line below_between shape_verdict verdict first_refusal overlap_past keep sum spans inside cross_inside slabs up_to column columns sweep space difference sourced_difference difference_stages
    file_sized next_offset length_read number_from count_of pair_length end_of pairs_from directory_of lengths_from cut vertex_of vertex_words vertex_on_grid first_off_grid polygon_file_checked
    layers_checked layer_file_checked memory_words written_words files.read_layers files.write_layers
    edge edges_from edges fractures.mark fractures.marks fractures.edge_crossings_with fractures.edge_crossings fractures.polygon_events
    fractures.trapezoids fractures.fracture fractures.fracture_all
    connectivity.lists_sized connectivity.components_checked connectivity.components_outcome
    point_passes fracture_checked combine_checked deoverlap_checked equal_checked contains_checked fracture_outcome combined deoverlap_outcome equal_outcome contains_answer
examples = (
  refl,
  (refl, refl, refl, refl),
  (refl, refl, refl),
  (refl, refl, refl, refl),
  (refl, refl, refl, refl, refl),
  (refl, refl, refl, refl, refl, refl),
  (refl, refl),
  (refl, refl, refl, refl, refl, refl, refl, refl),
  (refl, refl, refl, refl),
)

-- ---- transistors
-- apart from Q, so that Q is number 1 in a layer of both
abbrev apart : Trapezoid
apart = box 8 0 9 1

abbrev both : List ℤ
both = layer (apart ∷ Q ∷ [])

-- row 1, then 7 to 11: "Places are numbered on through collector, base and emitter layers." "12 is met there by the same rule, or by too short a
-- list; all three are then zero. Otherwise the list, of any length, is zero past the triples"
abbrev Listed : Type 0
Listed =
    ((transistors_outcome plate_limit (layer (far ∷ [])) q odd [] [] []).answer ≡ refused 1 0)
    × ((transistors_outcome plate_limit (layer (far ∷ [])) q q [] odd odd).answer ≡ refused 1 0)
    × ((transistors_outcome plate_limit both q (layer (Q ∷ far ∷ flat ∷ [])) [] [] []).answer ≡ refused 7 4)
    × (transistors_outcome plate_limit both q q (9 ∷ 9 ∷ 9 ∷ []) [] [] ≡ observed_transistors (refused 12 0) (0 ∷ 0 ∷ 0 ∷ []) [] [])
    × (transistors_outcome plate_limit both q q (9 ∷ 9 ∷ []) (lent 1) (lent 1) ≡ observed_transistors (refused 12 0) (0 ∷ 0 ∷ []) (cleared 1) (cleared 1))
    × (transistors_outcome plate_limit both q q (9 ∷ 9 ∷ 9 ∷ 9 ∷ []) (lent 1) (lent 1) ≡ observed_transistors (done 1 3) (1 ∷ 0 ∷ 0 ∷ 0 ∷ []) (cleared 1) (cleared 1))

transistor_examples : Listed
unfolding each keep ◌⊕◌ ◌⊖◌ ◌⊗◌ ⊝◌ order_of before sized record_at records_from words_of insert levels
    on_grid dx dy offset det numer crosses ratio meet heights right_of below trapezoid_of trapezoid_words
    order one_sign horizontal line_on_grid is_line below_between shape_verdict verdict first_refusal sum spans inside cross_inside slabs up_to column columns sweep
    common_left common_right crosses_in_common overlap_right overlap_from overlaps overlap_past overlays.sides overlays.side_crossings overlays.overlay_events overlays.fills
    overlays.tag_above overlays.stack overlays.parts overlays.subdivision overlays.overlay overlays.tagged
    not_above touches_right touches_from touches_along lower_at touches_upright touches own_numbers relabelled joined_numbers joined_first joined_all touching_at component_numbers
    minus minus_all difference minus_stages minus_all_stages difference_stages space
    having_number shape_of shape_numbers shape_encloses triples enclosing_stages transistors_checked transistors_outcome
transistor_examples = (refl, refl, refl, refl, refl, refl)

-- ---- row 13, paper 02 (vi): "taken by its later piece and then its earlier"; "13, overlap, place the later piece, checked after 11 and before 12, A before B"
abbrev twice : List ℤ
twice = layer (Q ∷ Q ∷ [])

abbrev Overlapping : Type 0
Overlapping =
    -- two pairs, 1 with 2 and 0 with 3; no room for either
    ((combined plate_limit 0 (layer (Q ∷ S ∷ S ∷ Q ∷ [])) [] [] []).answer ≡ refused 13 2)
    -- both layers have a pair; only B has one
    × ((combined plate_limit 0 (layer (Q ∷ R ∷ [])) (layer (S ∷ Q ∷ R ∷ [])) [] []).answer ≡ refused 13 1)
    × ((combined plate_limit 0 (layer (Q ∷ S ∷ [])) (layer (S ∷ Q ∷ R ∷ [])) [] []).answer ≡ refused 13 4)
    -- row 2 comes before, and so does row 7 of B
    × ((combined plate_limit 5 twice q [] []).answer ≡ refused 2 0)
    × ((combined plate_limit 0 twice (layer (far ∷ [])) [] []).answer ≡ refused 7 2)
    -- nothing changes
    × (combined plate_limit 0 twice q (lent 1) (lent 1) ≡ observed (refused 13 1) (lent 1) (lent 1))
    × (equal_outcome plate_limit q twice (lent 1) (lent 1) ≡ observed (refused_equality 13 2) (lent 1) (lent 1))
    × (connectivity.components_outcome plate_limit twice (7 ∷ 7 ∷ []) ≡ connectivity.observed_components (connectivity.refused_components 13 1) (7 ∷ 7 ∷ []))
    × (transistors_outcome plate_limit q q twice (9 ∷ []) (lent 1) (lent 1) ≡ observed_transistors (refused 13 3) (9 ∷ []) (lent 1) (lent 1))
    × ((transistors_outcome plate_limit q twice twice [] [] []).answer ≡ refused 13 2)

-- "Disjointing and the point question still take overlaps."
abbrev Taken : Type 0
Taken = ((deoverlap_outcome plate_limit twice (lent 1) (lent 1)).answer ≡ done 1 1) × (contains_answer plate_limit (point 0 0 1) twice [] 0 ≡ yes)

overlap_examples : Overlapping × Taken
unfolding keep ◌⊕◌ ◌⊖◌ ◌⊗◌ ⊝◌ order_of before sized record_at records_from words_of insert levels
    on_grid dx dy offset det numer crosses ratio meet heights right_of below orientation under trapezoid_of trapezoid_words lies_in
    order one_sign horizontal line_on_grid is_line below_between shape_verdict verdict first_refusal sum spans inside cross_inside slabs up_to column columns sweep
    common_left common_right crosses_in_common overlap_right overlap_from overlaps overlap_past overlays.sides overlays.side_crossings overlays.overlay_events overlays.fills
    overlays.tag_above overlays.stack overlays.parts overlays.subdivision overlays.overlay overlays.tagged
    minus minus_all difference deoverlapped_from sourced_difference sourced_deoverlapped_from minus_stages minus_all_stages difference_stages deoverlapped_stages space
    connectivity.lists_sized connectivity.components_checked connectivity.components_outcome
    point_passes combine_checked deoverlap_checked equal_checked contains_checked combined deoverlap_outcome equal_outcome contains_answer transistors_checked transistors_outcome
overlap_examples = ((refl, refl, refl, refl, refl, refl, refl, refl, refl, refl), (refl, refl))

-- ---- sets, paper 02 (vii)
-- the words of trapezoids that all have this set
abbrev marked : ℤ → List Trapezoid → List ℤ
marked z ts = words_of sourced_codec (bearing z ts)

-- "Cutting takes a layer number and sets that bit.": bit 31 makes the word negative, and the rest is zero
abbrev FracturedSets : Type 0
FracturedSets =
    ((fracture_outcome New plate_limit 31 (file_of square) (lent 2) (lent 2)).answer ≡ done 1 0)
    × (sources_at (fracture_outcome New plate_limit 31 (file_of square) (lent 2) (lent 2)).out 0 ≡ negsuc 2147483647)
    × (sources_at (fracture_outcome New plate_limit 31 (file_of square) (lent 2) (lent 2)).out 1 ≡ pos 0)
    × (sources_at (fracture_outcome First plate_limit 5 (file_of square) (lent 1) (lent 1)).out 0 ≡ pos 32)

-- "14, layer number not 0 to 31, place 0": below row 1 and above row 4, and nothing changes
abbrev LayerNumbers : Type 0
LayerNumbers =
    (fracture_outcome New plate_limit 32 (file_of square) (lent 1) (lent 1) ≡ observed (refused 14 0) (lent 1) (lent 1))
    × ((fracture_outcome New plate_limit 32 (file_of square) odd odd).answer ≡ refused 1 0)
    × ((fracture_outcome New plate_limit 32 (1 ∷ 2 ∷ 3 ∷ []) [] []).answer ≡ refused 14 0)

-- "an intersection piece has both sets joined bit by bit": 1 and 2, bit 31 and bit 0, and 3 and 1; "A difference or disjointing piece keeps the set of the piece in hand", and so does
-- what a union leaves of B
abbrev CombinedSets : Type 0
CombinedSets =
    (sources_at (combined plate_limit 1 (marked (pos 1) (Q ∷ [])) (marked (pos 2) (R ∷ [])) (lent 1) (lent 1)).out 0 ≡ pos 3)
    × (sources_at (combined plate_limit 1 (marked (negsuc 2147483647) (Q ∷ [])) (marked (pos 1) (R ∷ [])) (lent 1) (lent 1)).out 0 ≡ negsuc 2147483646)
    × (sources_at (combined plate_limit 1 (marked (pos 3) (Q ∷ [])) (marked (pos 1) (R ∷ [])) (lent 1) (lent 1)).out 0 ≡ pos 3)
    × (sources_at (combined plate_limit 2 (marked (pos 1) (Q ∷ [])) (marked (pos 2) (R ∷ [])) (lent 2) (lent 2)).out 1 ≡ pos 1)
    × (sources_at (combined plate_limit 3 (marked (pos 1) (Q ∷ [])) (marked (pos 2) (R ∷ [])) (lent 2) (lent 2)).out 1 ≡ pos 2)
    × (sources_at (combined plate_limit 0 (marked (pos 1) (Q ∷ [])) (marked (pos 2) (R ∷ [])) (lent 3) (lent 3)).out 0 ≡ pos 1)
    × (sources_at (combined plate_limit 0 (marked (pos 1) (Q ∷ [])) (marked (pos 2) (R ∷ [])) (lent 3) (lent 3)).out 2 ≡ pos 2)
    × (sources_at (deoverlap_outcome plate_limit (marked (pos 1) (Q ∷ []) ++ marked (pos 2) (R ∷ [])) (lent 4) (lent 4)).out 0 ≡ pos 1)
    × (sources_at (deoverlap_outcome plate_limit (marked (pos 1) (Q ∷ []) ++ marked (pos 2) (R ∷ [])) (lent 4) (lent 4)).out 2 ≡ pos 2)
    × (sources_at (deoverlap_outcome plate_limit (marked (pos 1) (Q ∷ []) ++ marked (pos 2) (R ∷ [])) (lent 4) (lent 4)).out 3 ≡ pos 0)

set_examples : FracturedSets × LayerNumbers × CombinedSets
unfolding keep ◌⊕◌ ◌⊖◌ ◌⊗◌ ⊝◌ order_of before sized record_at records_from words_of unsigned signed word_of bytes_of insert levels
    on_grid dx dy offset det numer crosses ratio meet heights right_of below trapezoid_of trapezoid_words
    order one_sign horizontal line_on_grid is_line below_between shape_verdict verdict first_refusal sum spans inside cross_inside slabs up_to column columns sweep
    common_left common_right crosses_in_common overlap_right overlap_from overlaps overlap_past overlays.sides overlays.side_crossings overlays.overlay_events overlays.fills
    overlays.tag_above overlays.stack overlays.parts overlays.subdivision overlays.overlay overlays.tagged
    file_sized next_offset length_read number_from count_of pair_length end_of pairs_from directory_of lengths_from cut vertex_of vertex_words vertex_on_grid first_off_grid polygon_file_checked
    edge edges_from edges fractures.mark fractures.marks fractures.edge_crossings_with fractures.edge_crossings fractures.polygon_events
    fractures.trapezoids fractures.fracture fractures.fracture_all
    minus minus_all mask single joined sourced_difference sourced_common sourced_intersection sourced_deoverlapped_from
    minus_stages minus_all_stages difference_stages common_stages intersection_stages deoverlapped_stages space
    fracture_checked combine_checked deoverlap_checked fracture_outcome combined deoverlap_outcome
set_examples = ((refl, refl, refl, refl), (refl, refl, refl), (refl, refl, refl, refl, refl, refl, refl, refl, refl, refl))
