-- The table of refusals: "Rows are checked downward". Rows 4 to 7 of a polygon file are defined in crates/files/specs/Rows.antt.
use Rattle.std.specs.Prelude.{Bool, true, false, ◌&&◌, List, ◌++◌, ℕ, eqb, length, ℤ, pos, Result, Ok, Err}
use Rattle.std.specs.Int.Signed.{le_z}
use Rattle.integer.specs.Integer.{⊝◌, ◌⊗◌}
use Rattle.records.specs.Limits.{sized}
use Rattle.geometry.specs.Limit.{max_denominator}
use Rattle.geometry.specs.Points.{Point}
use Rattle.geometry.specs.Trapezoids.{layer_of}
use Rattle.geometry.specs.Fitness.{first_refusal}
use Rattle.sources.specs.Sets.{is_source_layer}
use Rattle.overlay.specs.Overlaps.{first_overlap}
use Rattle.boolean.specs.Operations.{is_code}
use Rattle.files.specs.declared.Edition.{Edition}
use Rattle.files.specs.Rows.{polygon_file_checked}
use Rattle.geometry.specs.declared.Refusal.{Refusal}
use Rattle.geometry.specs.Refusals.{refused_by}

-- "A grid coordinate is a whole number from −2,048 to 2,048": the coordinate limit of the plates that the public functions take. Rows 3 and 7 and the mark
-- at the right edge go by the limit L of a call.
abbrev pub plate_limit : ℕ
plate_limit = 2048

-- a row with place 0: it refuses, or the rows below it decide
abbrev pub row : ℕ → Bool → Result (Unit {0}) Refusal → Result (Unit {0}) Refusal
row number true below = below
row number false below = refused_by number 0

-- rows below others: what the upper ones find, or else what the lower ones find
abbrev pub and_then : Result (Unit {0}) Refusal → Result (Unit {0}) Refusal → Result (Unit {0}) Refusal
and_then (Ok u) below = below
and_then (Err refusal) below = Err refusal

-- row 1: "layer, output or work area for pieces not a multiple of 24 words or above 12,288; work area unlike output"; paper 02 (vii): "Lent lengths are
-- then multiples of 25 words, at most 12,800." Of an output and a scratch area of so many words
abbrev pub buffers_sized : ℕ → ℕ → Bool
buffers_sized out scratch = sized out && (sized scratch && eqb scratch out)

-- the point (x/d, y/d)
abbrev pub point_at : ℤ → ℤ → ℤ → Point
point_at x y d = record { X = x; Y = y; D = d }

-- row 3: "D not 1 to 1,024, or X or Y beyond ±2,048 × D", under a limit L ±L × D
abbrev pub within_times : ℕ → ℤ → ℤ → Bool
within_times L z d = le_z (⊝ (pos L ⊗ d)) z && le_z z (pos L ⊗ d)

unfoldable pub point_passes : ℕ → Point → Bool
point_passes L P = (le_z (pos 1) P.D && le_z P.D (pos max_denominator)) && (within_times L P.X P.D && within_times L P.Y P.D)

-- rows 7 to 11: "A's pieces before B's, numbered on from A"
abbrev pub both_checked : ℕ → List ℤ → List ℤ → Result (Unit {0}) Refusal
both_checked L a b = first_refusal L 0 (layer_of a ++ layer_of b)

-- row 13: "checked after 11 and before 12, A before B", numbered on from A. A call that has it puts it below its other rows, in its outcome.
abbrev pub both_disjoint : List ℤ → List ℤ → Result (Unit {0}) Refusal
both_disjoint a b = and_then (first_overlap 0 (layer_of a)) (first_overlap (length (layer_of a)) (layer_of b))

-- ---- rows 1 to 11 of each call, and 14, under a coordinate limit, with an output and a scratch area of so many words
-- paper 02 (vii): "14, layer number not 0 to 31, place 0, checked after 2." A fracture has no row 2 or 3.
unfoldable pub fracture_checked : Edition → ℕ → ℕ → List ℕ → ℕ → ℕ → Result (Unit {0}) Refusal
fracture_checked edition L layer file out scratch = row 1 (buffers_sized out scratch) (row 14 (is_source_layer layer) (polygon_file_checked edition L file))

unfoldable pub combine_checked : ℕ → ℕ → List ℤ → List ℤ → ℕ → ℕ → Result (Unit {0}) Refusal
combine_checked L code a b out scratch = row 1 (sized (length a) && (sized (length b) && buffers_sized out scratch)) (row 2 (is_code code) (both_checked L a b))

unfoldable pub deoverlap_checked : ℕ → List ℤ → ℕ → ℕ → Result (Unit {0}) Refusal
deoverlap_checked L a out scratch = row 1 (sized (length a) && buffers_sized out scratch) (first_refusal L 0 (layer_of a))

unfoldable pub equal_checked : ℕ → List ℤ → List ℤ → ℕ → ℕ → Result (Unit {0}) Refusal
equal_checked L a b out scratch = row 1 (sized (length a) && (sized (length b) && buffers_sized out scratch)) (both_checked L a b)

unfoldable pub contains_checked : ℕ → Point → List ℤ → List ℤ → ℕ → Result (Unit {0}) Refusal
contains_checked L P a b code = row 1 (sized (length a) && sized (length b)) (row 2 (is_code code) (row 3 (point_passes L P) (both_checked L a b)))
