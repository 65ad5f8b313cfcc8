-- Where the starting layers of a chain come from, which points they stand for, and the layer file of a choice of the layers that the chain holds.
use Rattle.std.specs.Prelude.{◌≡◌, Bool, false, not, ◌||◌, List, [], ◌∷◌, map, ◌↔◌, ℕ, ◌<◌, T, ℤ, length, get_or}
use Rattle.lists.specs.Lists.{Any}
use Rattle.geometry.specs.declared.Trapezoid.{Trapezoid}
use Rattle.geometry.specs.Points.{Point}
use Rattle.geometry.specs.Trapezoids.{LiesInLayer, lies_in_layer}
use Rattle.geometry.specs.Polygons.{Polygon}
use Rattle.sources.specs.Sets.{empty, single}
use Rattle.sources.specs.Sourced.{Sourced, sourced_of}
use Rattle.sweep.specs.Columns.{is_zero}
use Rattle.fracture.specs.Polygons.{winding_number}
use Rattle.fracture.specs.Statements.{Wound}
use Rattle.files.specs.Formats.{file_words}
use Rattle.files.specs.Contents.{polygons_of, file_layers_of, layer_words_at, layer_file_words}
use Rattle.chains.specs.Chains.{Layer, layer_at}
use Rattle.chains.specs.Statements.{DisjointLayer}
use Rattle.archive.specs.Calls.{FractureCall, FractureAccepted, fractured_by, DeoverlapCall, DeoverlapAccepted, deoverlapped_by, ReadCall, ReadAccepted, words_by}

-- ---- where a starting layer comes from: a polygon file that was fractured, or fractured and then deoverlapped, or layer number n of a layer file that was read
pub data Source : Type 0 where
  polygons : (f : FractureCall) → Source
  disjoint_polygons : (f : FractureCall) (d : DeoverlapCall) → Source
  archived : (r : ReadCall) (n : ℕ) → Source

-- the layer's words: those that `fracture` or `deoverlap` wrote, or the layer's part of the words that `read_layers` wrote
abbrev pub layer_from : Source → Layer
layer_from (polygons f) = fractured_by f
layer_from (disjoint_polygons f d) = deoverlapped_by d
layer_from (archived r n) = layer_words_at (words_by r) n

-- layer number n of a layer file's bytes
abbrev pub file_layer_at : List ℕ → ℕ → List Trapezoid
file_layer_at file n = get_or (file_layers_of (file_words file)) n []

-- the polygon file was accepted by `fracture`, and what that wrote by `deoverlap`
pub record BothAccepted (f : FractureCall) (d : DeoverlapCall) : Type 0 where
  pub fractured : FractureAccepted f
  pub lent : d.layer ≡ fractured_by f
  pub deoverlapped : DeoverlapAccepted d

-- the layer file was accepted by `read_layers`, and has a layer number n
pub record LayerAccepted (r : ReadCall) (n : ℕ) : Type 0 where
  pub read : ReadAccepted r
  pub within : n < length (file_layers_of (file_words r.file))

abbrev pub Accepted : Source → Type 0
Accepted (polygons f) = FractureAccepted f
Accepted (disjoint_polygons f d) = BothAccepted f d
Accepted (archived r n) = LayerAccepted r n

-- no rational point lies in two trapezoids of the layer; of one that was deoverlapped nothing is asked, for none does
abbrev pub DisjointSource : Source → Type 0
DisjointSource (polygons f) = DisjointLayer (fractured_by f)
DisjointSource (disjoint_polygons f d) = Unit {0}
DisjointSource (archived r n) = DisjointLayer (layer_words_at (words_by r) n)

-- ---- the points that were sent
-- some polygon of the polygon file has a winding number other than zero at P; or P lies in that layer of the layer file
abbrev pub Sent : Point → Source → Type 0
Sent P (polygons f) = Any (Wound P) (polygons_of f.edition (file_words f.file))
Sent P (disjoint_polygons f d) = Any (Wound P) (polygons_of f.edition (file_words f.file))
Sent P (archived r n) = LiesInLayer P (file_layer_at r.file n)

-- the same as a yes or no
abbrev pub any_wound : Point → List Polygon → Bool
any_wound P [] = false
any_wound P (polygon ∷ rest) = not (is_zero (winding_number P polygon)) || any_wound P rest

abbrev pub sent : Point → Source → Bool
sent P (polygons f) = any_wound P (polygons_of f.edition (file_words f.file))
sent P (disjoint_polygons f d) = any_wound P (polygons_of f.edition (file_words f.file))
sent P (archived r n) = lies_in_layer P (file_layer_at r.file n)

-- the test says yes exactly if the point was sent (proofs/Points.antt: `sent_exact`)
abbrev pub SentExact : Type 0
SentExact = (P : Point) (s : Source) → T (sent P s) ↔ Sent P s

-- ---- paper 02 (vii): the set that the trapezoids of a starting layer have: that of the layer number that the polygon file was fractured with, and none where a layer file was read
abbrev pub set_of : Source → ℤ
set_of (polygons f) = single f.layer
set_of (disjoint_polygons f d) = single f.layer
set_of (archived r n) = empty

-- ---- the layers with these numbers, in this order, and the words of the layer file with these layers
abbrev pub chosen : List Layer → List ℕ → List (List Sourced)
chosen layers numbers = map (λ (n : ℕ). sourced_of (layer_at layers n)) numbers

abbrev pub archive_words : List Layer → List ℕ → List ℤ
archive_words layers numbers = layer_file_words (chosen layers numbers)
