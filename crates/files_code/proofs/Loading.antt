-- The words of one polygon of a file.
use mathlib.Core.Path.{◌≡◌, refl, sym, ◌∙◌, ap}
use mathlib.Core.List.{List, [], ◌∷◌, ◌++◌}
use Prim.Native.Nat.{ℕ, ◌+◌, ◌*◌, ◌<◌, ◌≤◌}
use native.Mathlib.Omega.{arith}
use lib.ListN.{length, set, take, drop, length-drop}
use lib.Seq.{drop-drop, get_or-drop}
use Rattle.std.proofs.lemmas.List.{take_more, take_more_set}
use lib.IntN.{ℤ, pos}
use Rattle.lists.specs.Lists.{All}
use Rattle.lists.proofs.Lists.{all_of}
use Rattle.records.specs.Records.{Faithful, records_from, words_of}
use Rattle.records.proofs.Records.{words_from}
use Rattle.geometry.specs.declared.Vertex.{Vertex}
use Rattle.geometry.specs.Polygons.{Polygon}
use Rattle.files.specs.declared.Edition.{Edition}
use Rattle.files.specs.declared.Format.{Format}
use Rattle.files.specs.Formats.{file_words, word_at, polygon_file}
use Rattle.files.specs.Pairs.{amount_of, count_in, body_of, offset_at, length_read, length_at}
use Rattle.files.specs.Contents.{vertex_codec, vertex_of, vertex_words}
use Rattle.geometry_code.specs.Polygons.{polygon_of}
use Rattle.directory_code.specs.Code.{Paired}
use Rattle.files_code.specs.Code.{polygon_at}

-- ---- the words of a file from a number on: one more
pub word_more : (out ws : List ℤ) (start i : ℕ) {w : ℤ} → i < length out → start + i < length ws → take i out ≡ take i (drop start ws) → w ≡ word_at ws (start + i) → take (i + 1) (set out i w) ≡ take (i + 1) (drop start ws)
word_more out ws start i {w} l m h e =
    let k : i < length (drop start ws) = simp length-drop (omega arith) in
    take_more_set out i w l ∙ ap (λ (xs : List ℤ). xs ++ (w ∷ [])) h
    ∙ ap (λ (z : ℤ). take i (drop start ws) ++ (z ∷ [])) (e ∙ sym (get_or-drop start ws i (pos 0))) ∙ sym (take_more (drop start ws) i (pos 0) k)

-- ---- the words of one polygon
polygon_words : (vs : Polygon) → polygon_of (words_of vertex_codec vs) ≡ vs
unfolding words_of vertex_words
polygon_words [] = refl
polygon_words (v ∷ vs) = ap (λ (us : Polygon). v ∷ us) (polygon_words vs)

vertex_faithful : Faithful vertex_codec (λ (v : Vertex). Unit {0}) (λ (z : ℤ). Unit {0})
unfolding vertex_words vertex_of
vertex_faithful =
    record {
      readable = record { some = omega arith; encode_length = λ v. refl; decode_encode = λ v g. refl };
      encode_decode = two;
    }
  where
    two : (r : List ℤ) → length r ≡ 2 → All (λ (z : ℤ). Unit {0}) r → vertex_words (vertex_of r) ≡ r
    two (x ∷ y ∷ []) e g = refl
    two [] e g = absurd (omega arith)
    two (x ∷ []) e g = absurd (omega arith)
    two (x ∷ y ∷ z ∷ r) e g = absurd (omega arith)

-- the words past the pairs, from twice an offset on, are the polygon's there
pub polygon_loaded : (bs : List ℕ) (count offset n : ℕ) → Paired bs count → 2 * (offset + n) ≤ length (body_of (file_words bs))
    → polygon_of (take (2 * n) (drop (2 * (count + offset) + 1) (file_words bs))) ≡ records_from vertex_codec n (body_of (file_words bs)) offset
polygon_loaded bs count offset n p l =
    let ws = file_words bs in
    let body : List ℤ = body_of ws in
    let k : 2 * (count + offset) + 1 ≡ 2 * count_in ws + 1 + 2 * offset = omega (arith, p.is) in
    let d : drop (2 * (count + offset) + 1) ws ≡ drop (2 * offset) body = ap (λ (i : ℕ). drop i ws) k ∙ sym (drop-drop (2 * offset) (2 * count_in ws + 1) ws) in
    ap (λ (xs : List ℤ). polygon_of (take (2 * n) xs)) d
    ∙ ap polygon_of (sym (words_from vertex_codec vertex_faithful n body offset l (all_of (λ (z : ℤ). Unit {0}) (λ z. tt) body)))
    ∙ polygon_words (records_from vertex_codec n body offset)

-- the length of polygon number i, as it was read
pub length_is : (edition : Edition) {f : Format} (ws : List ℤ) (i : ℕ) → f ≡ polygon_file edition → {z : ℤ} → z ≡ length_read f ws i → {n : ℕ} → n ≡ amount_of z → n ≡ length_at (polygon_file edition) ws i
length_is edition ws i e p q = q ∙ ap amount_of (p ∙ ap (λ (g : Format). length_read g ws i) e)

-- polygon number i, loaded from its offset
pub loaded_is : (edition : Edition) (ws : List ℤ) (i : ℕ) {o n : ℕ} → o ≡ offset_at ws i → n ≡ length_at (polygon_file edition) ws i → {p : Polygon} → p ≡ records_from vertex_codec n (body_of ws) o → p ≡ polygon_at edition ws i
loaded_is edition ws i e f g = g ∙ (λ t. records_from vertex_codec (f t) (body_of ws) (e t))
