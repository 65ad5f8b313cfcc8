-- The starting layers: a point lies in one exactly if it was sent, and those that were deoverlapped are disjoint.
use mathlib.Core.Path.{◌≡◌, refl, sym, ◌∙◌, ap, subst}
use mathlib.Core.List.{List, [], ◌∷◌, map}
use mathlib.Core.Logic.{◌↔◌}
use Prim.Native.Nat.{ℕ, zero, suc, ◌<◌}
use native.Mathlib.Omega.{arith}
use lib.Dec.{T}
use lib.IntN.{ℤ}
use lib.ListN.{length, take, get_or}
use Rattle.lists.specs.Lists.{All, Any, At}
use Rattle.lists.proofs.Tests.{same_test}
use Rattle.geometry.specs.declared.Trapezoid.{Trapezoid}
use Rattle.geometry.specs.Points.{Point, IsPoint}
use Rattle.geometry.specs.Trapezoids.{trapezoid_codec, layer_of, LiesInLayer, lies_in_layer}
use Rattle.geometry.proofs.Layers.{lies_in-layer_exact}
use Rattle.sources.specs.Sets.{empty}
use Rattle.sources.specs.Sourced.{Sourced, sourced_of, bearing}
use Rattle.boolean.specs.Statements.{SamePoints}
use Rattle.fracture.specs.Statements.{Wound}
use Rattle.files.specs.Formats.{file_words, layer_file, layer_words}
use Rattle.files.specs.Pairs.{count_in}
use Rattle.files.specs.Rows.{layers_checked}
use Rattle.files.specs.Contents.{polygons_of, layers_of, file_layers_of, sourced_layers_of, file_codec, memory_words, layer_words_at}
use Rattle.files.specs.Outcomes as files
use Rattle.files.specs.Statements.{words_read}
use Rattle.files.proofs.Pairs.{lists_length}
use Rattle.files.proofs.Bounds.{passes}
use Rattle.files.proofs.Calls.{file_passes}
use Rattle.files.proofs.Widths.{memory_layers, memory_sets}
use Rattle.files.proofs.RoundTrip.{read_passed, read_words}
use Rattle.files.proofs.Words.{layer-at, read_pairs}
use Rattle.files.specs.Outcomes.{Answer, is_done}
use Rattle.calls.specs.Outcomes.{Outcome, records_of}
use Rattle.calls.proofs.Exact.{fracture_file_exact, deoverlap_exact}
use Rattle.chains.specs.Chains.{Layer, layer_at, fed}
use Rattle.chains.specs.Statements.{DisjointLayer}
use Rattle.archive.specs.Calls.{FractureCall, FractureAccepted, fractured_by, DeoverlapCall, deoverlapped_by, ReadCall, words_by}
use Rattle.archive.specs.Archive.{Source, polygons, disjoint_polygons, archived, layer_from, file_layer_at, BothAccepted, LayerAccepted, Accepted, DisjointSource, Sent, sent}
use Rattle.archive.proofs.Points.{sent_exact}
use Rattle.std.specs.Prelude.{Ok}

-- ---- a polygon file, fractured, and then deoverlapped
-- what holds of the layer that the definition gives, where it gives one, holds of the layer that an accepted call wrote
pub by_definition : (R : Layer → Type 0) (seen defined : Outcome Answer) → seen ≡ defined → T (is_done seen.answer)
    → (T (is_done defined.answer) → R (records_of defined.answer defined.out)) → R (records_of seen.answer seen.out)
by_definition R seen defined e t f =
    subst (λ (o : Outcome Answer). T (is_done o.answer) → R (records_of o.answer o.out)) (sym e) f t

fractured_points : (f : FractureCall) → FractureAccepted f → (P : Point) → IsPoint P → LiesInLayer P (layer_of (fractured_by f)) ↔ Any (Wound P) (polygons_of f.edition (file_words f.file))
fractured_points f h P hP =
    by_definition (λ (A : Layer). LiesInLayer P (layer_of A) ↔ Any (Wound P) (polygons_of f.edition (file_words f.file))) _ _ h.kept h.accepted
    (λ t. (fracture_file_exact f.edition f.limit f.layer f.file f.out f.scratch t).1 P hP)

module _ (f : FractureCall) (d : DeoverlapCall) (h : BothAccepted f d) where
  deoverlapped_right : DisjointLayer (deoverlapped_by d) × SamePoints (layer_of (deoverlapped_by d)) (layer_of d.layer)
  deoverlapped_right =
      by_definition (λ (A : Layer). DisjointLayer A × SamePoints (layer_of A) (layer_of d.layer)) _ _ h.deoverlapped.kept h.deoverlapped.accepted
      (λ t. let k = deoverlap_exact d.limit d.layer d.out d.scratch t in (k.0.disjoint, k.1))

  polygons_points : (P : Point) → IsPoint P → LiesInLayer P (layer_of (deoverlapped_by d)) ↔ Any (Wound P) (polygons_of f.edition (file_words f.file))
  polygons_points P hP =
      let k = deoverlapped_right.1 P hP in
      let g = fractured_points f h.fractured P hP in (
        (λ x. g.0 (subst (λ (A : Layer). LiesInLayer P (layer_of A)) h.lent (k.0 x))),
        (λ y. k.1 (subst (λ (A : Layer). LiesInLayer P (layer_of A)) (sym h.lent) (g.1 y))),
      )

-- ---- a layer of a layer file
module _ (r : ReadCall) (n : ℕ) (h : LayerAccepted r n) where
  read_done : T (files.is_done (files.read_layers r.limit r.file r.out).answer)
  read_done = subst (λ (o : files.FileOutcome ℤ). T (files.is_done o.answer)) h.read.kept h.read.accepted

  words_are : words_by r ≡ words_read r.limit r.file r.out
  words_are = ap (λ (o : files.FileOutcome ℤ). take (length (memory_words (file_words r.file))) o.out) h.read.kept

  read_are : words_read r.limit r.file r.out ≡ memory_words (file_words r.file)
  read_are = let p = read_passed r.limit r.file r.out read_done in read_words r.limit r.file r.out p.0 p.1

  checked : layers_checked r.limit layer_file file_codec (file_words r.file) ≡ Ok tt
  checked = (file_passes r.limit r.file (read_passed r.limit r.file r.out read_done).0).1

  layers_are : layers_of (words_read r.limit r.file r.out) ≡ file_layers_of (file_words r.file)
  layers_are = ap layers_of read_are ∙ memory_layers (file_words r.file) (passes r.limit layer_file file_codec (file_words r.file) checked).found

  counted : n < count_in (words_read r.limit r.file r.out)
  counted = omega (arith, h.within, ap length layers_are, lists_length layer_words trapezoid_codec (words_read r.limit r.file r.out))

  layer_is : layer_of (layer_words_at (words_by r) n) ≡ file_layer_at r.file n
  layer_is =
      ap (λ (ws : List ℤ). layer_of (layer_words_at ws n)) words_are
      ∙ (layer-at (words_read r.limit r.file r.out) (count_in (words_read r.limit r.file r.out)) n (read_pairs r.limit r.file r.out read_done) counted).1
      ∙ ap (λ (tss : List (List Trapezoid)). get_or tss n []) layers_are

  -- with their sets, which are empty
  pub layer_sets : sourced_of (layer_words_at (words_by r) n) ≡ get_or (map (bearing empty) (file_layers_of (file_words r.file))) n []
  layer_sets =
      ap (λ (ws : List ℤ). sourced_of (layer_words_at ws n)) words_are
      ∙ (layer-at (words_read r.limit r.file r.out) (count_in (words_read r.limit r.file r.out)) n (read_pairs r.limit r.file r.out read_done) counted).0
      ∙ ap (λ (rss : List (List Sourced)). get_or rss n []) (ap sourced_layers_of read_are ∙ memory_sets (file_words r.file) (passes r.limit layer_file file_codec (file_words r.file) checked).found)

-- ---- any source
source_disjoint : (s : Source) → Accepted s → DisjointSource s → DisjointLayer (layer_from s)
source_disjoint (polygons f) h k = k
source_disjoint (disjoint_polygons f d) h k = (deoverlapped_right f d h).0
source_disjoint (archived r n) h k = k

pub source_points : (P : Point) → IsPoint P → (s : Source) → Accepted s → LiesInLayer P (layer_of (layer_from s)) ↔ Sent P s
source_points P hP (polygons f) h = fractured_points f h P hP
source_points P hP (disjoint_polygons f d) h = polygons_points f d h P hP
source_points P hP (archived r n) h =
    let e = layer_is r n h in ((λ x. subst (LiesInLayer P) e x), (λ y. subst (LiesInLayer P) (sym e) y))

-- the starting layer with the number n
pub starting_disjoint : (sources : List Source) → All Accepted sources → (n : ℕ) → At DisjointSource sources n → DisjointLayer (layer_at (map layer_from sources) n)
starting_disjoint [] h n k = absurd k
starting_disjoint (s ∷ sources) h zero k = source_disjoint s h.0 k
starting_disjoint (s ∷ sources) h (suc n) k = starting_disjoint sources h.1 n k

-- ---- what the evaluation is fed
source_fed : (P : Point) → IsPoint P → (s : Source) → Accepted s → lies_in_layer P (layer_of (layer_from s)) ≡ sent P s
source_fed P hP s h =
    let k = source_points P hP s h in
    let l = lies_in-layer_exact P (layer_of (layer_from s)) in
    same_test (lies_in_layer P (layer_of (layer_from s))) (sent P s) (λ x. (sent_exact P s).1 (k.0 (l.0 x))) (λ y. l.1 (k.1 ((sent_exact P s).0 y)))

pub sources_fed : (P : Point) → IsPoint P → (sources : List Source) → All Accepted sources → fed P (map layer_from sources) ≡ map (sent P) sources
sources_fed P hP [] h = refl
sources_fed P hP (s ∷ sources) h = rw (source_fed P hP s h.0, sources_fed P hP sources h.1) refl
