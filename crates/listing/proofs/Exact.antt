-- What the listing means.
use mathlib.Core.Path.{◌≡◌, refl, sym, ◌∙◌, ap, subst}
use mathlib.Core.Bool.{Bool, true, false, ◌&&◌, and-false}
use mathlib.Core.List.{List, [], ◌∷◌}
use mathlib.Core.Logic.{◌↔◌}
use Prim.Native.Nat.{ℕ, ◌*◌, ◌-◌, ◌%◌, ◌<◌, ◌≤◌}
use native.Mathlib.Omega.{arith}
use lib.Dec.{T, leb, eqb}
use lib.IntN.{ℤ, pos}
use lib.ListN.{length, take, replicate, length-append}
use lib.Seq.{length-take-le, take_all}
use borrow.Author.Tests.{leb-true, leb-false, lt-leb}
use Rattle.lists.specs.Lists.{Any}
use Rattle.lists.proofs.Conjunction.{rest_fails}
use Rattle.lists.proofs.Lists.{all_of}
use Rattle.records.specs.Limits.{memory_width, sized}
use Rattle.records.specs.Records.{records_from, image, words_of}
use Rattle.records.proofs.Records.{length_words}
use Rattle.records.proofs.Buffer.{image_records}
use Rattle.geometry.specs.Points.{Point, IsPoint}
use Rattle.geometry.specs.Trapezoids.{trapezoid_codec, layer_of, LiesInLayer}
use Rattle.sources.specs.Sets.{is_source_layer, single}
use Rattle.sources.specs.Sourced.{Sourced, sourced_codec, sourced_of, shapes, bearing}
use Rattle.sources.proofs.Sourced.{sourced_faithful, shapes-from}
use Rattle.boolean.specs.Operations.{deoverlapped}
use Rattle.boolean.specs.Sources.{sourced_deoverlapped}
use Rattle.boolean.specs.Space.{Stage, Space, enough, no_room, space, addition, deoverlapped_stages}
use Rattle.boolean.proofs.Deoverlapping.{deoverlapped_exact, deoverlapped_disjoint}
use Rattle.boolean.proofs.Kept.{deoverlapped_fit}
use Rattle.boolean.proofs.Forgetting.{deoverlapped_of}
use Rattle.fracture.specs.Statements.{Wound}
use Rattle.files.specs.declared.Edition.TheVariants.{New}
use Rattle.files.specs.Formats.{file_sized, file_words, polygon_file}
use Rattle.files.specs.Directory.{directory_of}
use Rattle.files.specs.Contents.{polygons_of}
use Rattle.files.specs.Rows.{size_row, directory_rows, first_off_grid, polygon_file_checked}
use Rattle.files.specs.Outcomes.{Answer, refused, done, is_done}
use Rattle.calls.specs.Rows.{plate_limit, row, buffers_sized, fracture_checked, deoverlap_checked}
use Rattle.calls.specs.Outcomes.{Outcome, records_of, room_of, written, outcome, fractured_of, fracture_outcome, deoverlap_outcome}
use Rattle.calls.proofs.Success.{deoverlap_accepted}
use Rattle.calls.proofs.Exact.{fracture_file_exact}
use Rattle.calls.proofs.Editions.{fracture_as_before}
use Rattle.listing.specs.Listing.{listing, layer_listing, refusal_line}
use Rattle.listing.specs.Lister.{blank, printed_as, deoverlap_listed, listed_as, listed_by, listed}
use Rattle.listing.specs.Listed.{Lists, Printed, lists, refuses, ListedExact, ListedByStart, ListedAsBefore}
use Rattle.listing.proofs.Layers.{layer-listed}
use Rattle.listing.proofs.Blank.{blank-length}
use Rattle.std.specs.Prelude.{Result, Ok, Err}
use Rattle.geometry.specs.declared.Refusal.{Refusal}
use Rattle.geometry.specs.Refusals.{refused_by}

-- ---- the text of a success lists the trapezoids written, without their sets
module _ (n : ℕ) (rs : List Sourced) where
  image_within : memory_width * length rs ≤ length (image sourced_codec n rs)
  image_within =
      omega (arith, length-append (words_of sourced_codec rs) (replicate (n - memory_width * length rs) (pos 0)), length_words sourced_codec sourced_faithful.readable rs)

  image_shapes : records_from trapezoid_codec (length rs) (image sourced_codec n rs) 0 ≡ shapes rs
  image_shapes =
      sym (shapes-from (length rs) (image sourced_codec n rs) 0)
      ∙ ap shapes (image_records sourced_codec sourced_faithful.readable n rs (all_of (λ (r : Sourced). Unit {0}) (λ r. tt) rs))

  image_listed : listing (length rs) (image sourced_codec n rs) ≡ layer_listing (shapes rs)
  image_listed = layer-listed (length rs) (image sourced_codec n rs) image_within ∙ ap layer_listing image_shapes

written_listed : (n : ℕ) (rs : List Sourced) (s : Space) → T (is_done (written n rs s).answer) → printed_as (written n rs s).answer (written n rs s).out ≡ layer_listing (shapes rs)
written_listed n rs (enough cuts) h = image_listed n rs
written_listed n rs (no_room cuts) h = absurd h

outcome-listed : (c : Result (Unit {0}) Refusal) (rs : List Sourced) (ms : List Stage) → T (is_done (outcome c blank blank rs ms).answer)
    → printed_as (outcome c blank blank rs ms).answer (outcome c blank blank rs ms).out ≡ layer_listing (shapes rs)
outcome-listed (Ok u) rs ms h = written_listed (length blank) rs (space (room_of blank) ms) h
outcome-listed (Err refusal) rs ms h = absurd h

layer-listing : (a : List ℤ) → T (is_done (deoverlap_outcome plate_limit a blank blank).answer) → deoverlap_listed a ≡ layer_listing (deoverlapped (layer_of a))
unfolding deoverlap_listed deoverlap_outcome
layer-listing a h =
    outcome-listed (deoverlap_checked plate_limit a (length blank) (length blank)) (sourced_deoverlapped (sourced_of a)) (deoverlapped_stages [] (layer_of a)) h ∙ ap layer_listing (deoverlapped_of a)

-- ---- the trapezoids listed
module _ (file : List ℕ) where
  abbrev Covers : List ℤ → Type 0
  Covers a = (P : Point) → IsPoint P → LiesInLayer P (layer_of a) ↔ Any (Wound P) (polygons_of New (file_words file))

  layer_refused_text : (a : List ℤ) (number place : ℕ) → listed file ≡ deoverlap_listed a → (deoverlap_outcome plate_limit a blank blank).answer ≡ refused number place
      → listed file ≡ refusal_line number place
  unfolding deoverlap_listed
  layer_refused_text a number place l e = l ∙ ap (λ (x : Answer). printed_as x (deoverlap_outcome plate_limit a blank blank).out) e

  layer_lists : (a : List ℤ) → listed file ≡ deoverlap_listed a → Covers a → T (is_done (deoverlap_outcome plate_limit a blank blank).answer) → Lists file (deoverlapped (layer_of a))
  layer_lists a l p h =
      let k = (deoverlap_accepted plate_limit a blank blank h).layer in
      let s = deoverlapped_exact plate_limit (layer_of a) k in
      record {
        text = l ∙ layer-listing a h;
        fit = deoverlapped_fit plate_limit (layer_of a) k;
        disjoint = deoverlapped_disjoint plate_limit (layer_of a) k;
        points = λ P hP. ((λ x. (p P hP).0 ((s P hP).0 x)), (λ x. (s P hP).1 ((p P hP).1 x)));
      }

  layer_told : (a : List ℤ) → listed file ≡ deoverlap_listed a → Covers a → (x : Answer) → (deoverlap_outcome plate_limit a blank blank).answer ≡ x → Printed file
  layer_told a l p (refused number place) e = refuses (record { number = number; place = place; text = layer_refused_text a number place l e })
  layer_told a l p (done pieces cuts) e = lists (deoverlapped (layer_of a)) (layer_lists a l p (subst (λ (x : Answer). T (is_done x)) (sym e) tt))

  fractured : List ℤ
  fractured = records_of (fracture_outcome New plate_limit 0 file blank blank).answer (fracture_outcome New plate_limit 0 file blank blank).out

  file_text : (x : Answer) → (fracture_outcome New plate_limit 0 file blank blank).answer ≡ x → listed file ≡ listed_as x (fracture_outcome New plate_limit 0 file blank blank).out
  unfolding listed_by
  file_text x e = ap (λ (y : Answer). listed_as y (fracture_outcome New plate_limit 0 file blank blank).out) e

  file_told : (x : Answer) → (fracture_outcome New plate_limit 0 file blank blank).answer ≡ x → Printed file
  file_told (refused number place) e = refuses (record { number = number; place = place; text = file_text (refused number place) e })
  file_told (done pieces cuts) e =
      let o = (fracture_outcome New plate_limit 0 file blank blank).out in
      let r = records_of (done pieces cuts) o in
      let h = (fracture_file_exact New plate_limit 0 file blank blank (subst (λ (x : Answer). T (is_done x)) (sym e) tt)).1 in
      let p = subst (λ (x : Answer). Covers (records_of x o)) e h in
      layer_told r (file_text (done pieces cuts) e) p (deoverlap_outcome plate_limit r blank blank).answer refl

pub listed_exact : ListedExact
listed_exact file = file_told file (fracture_outcome New plate_limit 0 file blank blank).answer refl

-- ---- a long file
long_size : (n : ℕ) → 65532 < n → file_sized n ≡ false
unfolding file_sized
long_size n l = ap (λ (b : Bool). eqb (n % 4) 0 && (leb 4 n && b)) (lt-leb n 65532 l) ∙ rest_fails (eqb (n % 4) 0) (leb 4 n && false) (and-false (leb 4 n))

blank-sized : buffers_sized (length blank) (length blank) ≡ true
unfolding sized
blank-sized = ap (λ (n : ℕ). buffers_sized n n) blank-length

long_checked : (file : List ℕ) → 65532 < length file → fracture_checked New plate_limit 0 file (length blank) (length blank) ≡ refused_by 4 0
unfolding fracture_checked polygon_file_checked
long_checked file l =
    let below = directory_rows (directory_of (polygon_file New) (file_words file)) (first_off_grid plate_limit 0 (polygons_of New (file_words file))) in
    ap (λ (b : Bool). row 1 b (row 14 (is_source_layer 0) (polygon_file_checked New plate_limit file))) blank-sized ∙ ap (λ (b : Bool). size_row b below) (long_size (length file) l)

long_listed : (file : List ℕ) → 65532 < length file → listed file ≡ refusal_line 4 0
unfolding listed_by fracture_outcome
long_listed file l =
    let ts = fractured_of New plate_limit file in
    let rs = bearing (single 0) ts in
    let ms = addition (length ts) ∷ [] in
    ap (λ (c : Result (Unit {0}) Refusal). listed_as (outcome c blank blank rs ms).answer (outcome c blank blank rs ms).out) (long_checked file l)

start_listed : (k : ℕ) (file : List ℕ) → 65532 < k → (b : Bool) → leb (length file) k ≡ b → listed (take k file) ≡ listed file
start_listed k file l true e = ap listed (take_all k file (leb-true (length file) k e))
start_listed k file l false e =
    let m = leb-false (length file) k e in
    let n = length-take-le k file (omega arith) in
    long_listed (take k file) (omega (arith, n)) ∙ sym (long_listed file (omega arith))

pub listed_by_start : ListedByStart
listed_by_start k file l = start_listed k file l (leb (length file) k) refl

-- ---- every length present
pub listed_as-before : ListedAsBefore
unfolding listed_by
listed_as-before file h = ap (λ (o : Outcome Answer). listed_as o.answer o.out) (fracture_as_before plate_limit 0 file blank blank h)
