-- The hypotheses can be met: a polygon file with the triangle of paper 01's listing, once fractured and once fractured and deoverlapped; the union of the two is put
-- into a layer file, which is written and read back. The layer number is 3, and what is read back has empty sets.
use mathlib.Core.Path.{◌≡◌, refl}
use mathlib.Core.List.{List, [], ◌∷◌, ◌++◌, map}
use Prim.Native.Nat.{ℕ, ◌≤◌}
use native.Mathlib.Omega.{arith}
use lib.IntN.{ℤ, pos}
use lib.ListN.{replicate}
use Rattle.lists.specs.Lists.{All, cut}
use Rattle.lists.specs.Tests.{keep}
use Rattle.integer.specs.Integer.{◌⊕◌, ◌⊖◌, ◌⊗◌, ⊝◌}
use Rattle.integer.specs.Compare.{order_of}
use Rattle.integer.specs.Fraction.{before, order}
use Rattle.records.specs.Limits.{sized}
use Rattle.records.specs.Records.{record_at, records_from, words_of}
use Rattle.records.specs.Words.{unsigned, signed, word_of, bytes_of, word_codec}
use Rattle.levels.specs.Levels.{insert, levels}
use Rattle.geometry.specs.Limit.{on_grid}
use Rattle.geometry.specs.Lines.{dx, dy, offset, det, numer}
use Rattle.geometry.specs.Positions.{crosses, ratio, meet, heights, right_of, below}
use Rattle.geometry.specs.Standing.{one_sign, horizontal}
use Rattle.geometry.specs.Trapezoids.{trapezoid_of, trapezoid_words}
use Rattle.geometry.specs.Fitness.{line_on_grid, is_line, below_between, shape_verdict, verdict, first_refusal}
use Rattle.geometry.specs.Ranges.{common_left, common_right}
use Rattle.geometry.specs.Polygons.{vertex_on_grid}
use Rattle.sources.specs.Sets.{single}
use Rattle.sweep.specs.Sums.{sum}
use Rattle.sweep.specs.Segments.{spans, inside, cross_inside}
use Rattle.sweep.specs.Columns.{slabs, up_to, column}
use Rattle.sweep.specs.Sweep.{columns, sweep}
use Rattle.overlay.specs.Overlaps.{crosses_in_common, overlap_right, overlap_from, overlaps, overlap_past}
use Rattle.overlay.specs.Overlay as overlays
use Rattle.boolean.specs.Operations.{minus, minus_all, difference, deoverlapped_from}
use Rattle.boolean.specs.Sources.{sourced_difference, sourced_deoverlapped_from}
use Rattle.boolean.specs.Space.{minus_stages, minus_all_stages, difference_stages, deoverlapped_stages, space}
use Rattle.fracture.specs.Polygons.{edge, edges_from, edges}
use Rattle.fracture.specs.Fracture as fractures
use Rattle.files.specs.declared.LayersRead.TheVariants as read
use Rattle.files.specs.declared.LayersWritten.TheVariants as written
use Rattle.files.specs.declared.Edition.TheVariants.{New}
use Rattle.files.specs.Formats.{file_sized}
use Rattle.files.specs.Pairs.{next_offset, length_read}
use Rattle.files.specs.Directory.{number_from, count_of, pair_length, end_of, pairs_from, directory_of}
use Rattle.files.specs.Contents.{lengths_from, vertex_of, vertex_words, memory_words, written_words, pairs_of, layer_file_words}
use Rattle.files.specs.Rows.{first_off_grid, polygon_file_checked, layers_checked, layer_file_checked}
use Rattle.files.specs.Outcomes.{read_layers, write_layers}
use Rattle.files.specs.Statements.{WordsHold}
use Rattle.calls.specs.declared.Fractured.TheVariants as fractured
use Rattle.calls.specs.declared.Deoverlapped.TheVariants as deoverlapped
use Rattle.calls.specs.declared.Combined.TheVariants as combined
use Rattle.calls.specs.Rows.{plate_limit, fracture_checked, combine_checked, deoverlap_checked}
use Rattle.calls.specs.Outcomes.{fracture_outcome, deoverlap_outcome}
use Rattle.calls.specs.Outcomes as outcomes
use Rattle.calls.specs.Table.{lent, cleared, vertex, file_of}
use Rattle.chains.specs.Chains.{Layer, outcome_of, called, Call, held, Contracts}
use Rattle.archive.specs.Calls.{FractureCall, DeoverlapCall, WriteCall, WriteAccepted, bytes_by, ReadCall, ReadRight}
use Rattle.archive.specs.Archive.{Source, polygons, disjoint_polygons, layer_from, Accepted, archive_words}

-- "0 0 1 0 0 0 1 1 0 0 1 0 2 0 3 1 0 0 2 0 0 2 2 0"
abbrev triangle : List ℤ
triangle = map pos (0 ∷ 0 ∷ 1 ∷ 0 ∷ 0 ∷ 0 ∷ 1 ∷ 1 ∷ 0 ∷ 0 ∷ 1 ∷ 0 ∷ 2 ∷ 0 ∷ 3 ∷ 1 ∷ 0 ∷ 0 ∷ 2 ∷ 0 ∷ 0 ∷ 2 ∷ 2 ∷ 0 ∷ [])

-- in memory, with the set of layer 3 and with the empty set
abbrev of_layer_3 : Layer
of_layer_3 = triangle ++ (pos 8 ∷ [])

abbrev of_none : Layer
of_none = triangle ++ (pos 0 ∷ [])

abbrev fracturing : FractureCall
fracturing =
    record {
      edition = New;
      limit = plate_limit;
      layer = 3;
      file = file_of (vertex 0 0 ∷ vertex 2 0 ∷ vertex 0 2 ∷ []);
      out = lent 1;
      scratch = lent 1;
      answer = fractured.Done 1 0;
      out_then = of_layer_3;
      scratch_then = cleared 1;
    }

abbrev deoverlapping : DeoverlapCall
deoverlapping = record { limit = plate_limit; layer = of_layer_3; out = lent 1; scratch = lent 1; answer = deoverlapped.Done 1 0; out_then = of_layer_3; scratch_then = cleared 1 }

abbrev sources : List Source
sources = polygons fracturing ∷ disjoint_polygons fracturing deoverlapping ∷ []

-- layer 0 united with layer 1 is layer 2
abbrev calls : List Call
calls =
    record {
      step = record { limit = plate_limit; code = 0; first = 0; second = 1; out = lent 1; scratch = lent 1 };
      answer = combined.Done 1 1;
      out = of_layer_3;
      scratch = cleared 1;
    }
    ∷ []

-- one layer, its offset 0 and length 1, and its trapezoid: in memory, and on file
abbrev head : List ℤ → List ℤ
head ws = pos 1 ∷ pos 0 ∷ pos 1 ∷ ws

abbrev words : List ℤ
words = head of_layer_3

abbrev bytes : List ℕ
bytes = words_of word_codec (head triangle)

abbrev writing : WriteCall
writing = record { limit = plate_limit; words = words; out = replicate 108 7; answer = written.Done 1 0; out_then = bytes }

abbrev reading : ReadCall
reading = record { limit = plate_limit; file = bytes; out = replicate 28 (pos 7); answer = read.Done 1 0; out_then = head of_none }

examples : All Accepted sources × Contracts (map layer_from sources) calls × (words ≡ archive_words (held (map layer_from sources) calls) (2 ∷ []))
    × WordsHold plate_limit × WriteAccepted writing × (plate_limit ≤ plate_limit) × (reading.file ≡ bytes_by writing) × ReadRight reading
unfolding ◌⊕◌ ◌⊖◌ ◌⊗◌ ⊝◌ order_of before sized record_at records_from words_of unsigned signed word_of bytes_of insert levels
    on_grid dx dy offset det numer crosses ratio meet heights right_of below trapezoid_of trapezoid_words
    order one_sign horizontal line_on_grid is_line below_between shape_verdict verdict first_refusal keep sum spans inside cross_inside slabs up_to column columns sweep
    common_left common_right crosses_in_common overlap_right overlap_from overlaps overlap_past overlays.sides overlays.side_crossings overlays.overlay_events overlays.fills
    overlays.tag_above overlays.stack overlays.parts overlays.subdivision overlays.overlay overlays.tagged
    minus minus_all difference deoverlapped_from single sourced_difference sourced_deoverlapped_from minus_stages minus_all_stages difference_stages deoverlapped_stages space
    file_sized next_offset length_read number_from count_of pair_length end_of pairs_from directory_of lengths_from cut vertex_of vertex_words memory_words written_words pairs_of layer_file_words
    vertex_on_grid first_off_grid polygon_file_checked layers_checked layer_file_checked read_layers write_layers
    edge edges_from edges fractures.mark fractures.marks fractures.edge_crossings_with fractures.edge_crossings fractures.polygon_events
    fractures.trapezoids fractures.fracture fractures.fracture_all
    fracture_checked combine_checked deoverlap_checked fracture_outcome outcomes.combined deoverlap_outcome outcome_of called held Contracts
examples = (
  (record { kept = refl; accepted = tt }, (record { fractured = record { kept = refl; accepted = tt }; lent = refl; deoverlapped = record { kept = refl; accepted = tt } }, tt)),
  (λ f g. refl, tt),
  refl,
  omega arith,
  record { kept = refl; accepted = tt },
  omega arith,
  refl,
  refl,
)
