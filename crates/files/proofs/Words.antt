-- The words of a list of layers: they hold these layers, and a writer takes them exactly if they are writable. And the words of one layer of a layer file.
use Rattle.std.specs.Prelude.{Some, Ok}
use mathlib.Core.Path.{◌≡◌, refl, sym, ap, ◌∙◌, subst}
use mathlib.Core.List.{List, [], ◌∷◌, ◌++◌, map}
use Prim.Native.Nat.{ℕ, zero, suc, ◌+◌, ◌*◌, ◌<◌, ◌≤◌}
use native.Mathlib.Nat.{not-suc-le-zero, le_of_suc-le-suc}
use native.Mathlib.Omega.{arith}
use lib.Dec.{T}
use lib.ListN.{length, drop, get_or, length-append, length-map, get_or-map}
use lib.Seq.{drop-drop, get_or-drop}
use lib.IntN.{ℤ, pos}
use borrow.Author.Tests.{eq-eqb}
use Rattle.lists.specs.Lists.{cut, joined}
use Rattle.lists.proofs.Lists.{all_of}
use Rattle.lists.proofs.Parts.{cut_joined}
use Rattle.records.specs.Limits.{memory_width, max_records}
use Rattle.records.specs.Records.{records_from, words_of}
use Rattle.records.specs.Words.{word_codec}
use Rattle.records.proofs.Records.{words_from, records_words, length_words}
use Rattle.geometry.specs.declared.Trapezoid.{Trapezoid}
use Rattle.geometry.specs.Trapezoids.{trapezoid_codec}
use Rattle.geometry.specs.Fitness.{first_refusal}
use Rattle.geometry.proofs.Fitness.{layer_exact}
use Rattle.sources.specs.Sourced.{Sourced, sourced_codec, sourced_of, shapes}
use Rattle.sources.proofs.Sourced.{sourced_faithful, shapes_of, shapes-length}
use Rattle.files.specs.Formats.{word_at, file_words, layer_words}
use Rattle.files.specs.Pairs.{natural_of, amount_of, count_in, body_of, offset_at, length_read, length_at}
use Rattle.files.specs.Directory.{count_of, pair_length, end_of, pairs_from, directory_of, HasPairs, right_with}
use Rattle.files.specs.Contents.{lengths_from, units_of, lists_from, sourced_layers_of, pairs_of, memory_words, written_words, layer_file_words, layer_words_at}
use Rattle.files.specs.Rows.{layer_words_checked}
use Rattle.files.specs.Outcomes.{FileOutcome, is_done, write_layers}
use Rattle.files.specs.Statements.{LayersBack, Writable, WriterAccepts, LayerAt, ReadPairs}
use Rattle.files.proofs.Numbers.{in_range_lem, completed, right_pair}
use Rattle.files.proofs.Lengths.{length_written}
use Rattle.files.proofs.Walk.{count_read, directory_some}
use Rattle.files.proofs.Right.{right, count_in_lem}
use Rattle.files.proofs.Layers.{layers_right}
use Rattle.files.proofs.Bounds.{passes, units_bound}
use Rattle.files.proofs.Widths.{memory_directory, written-length, layer-shapes}
use Rattle.files.proofs.Calls.{file_pairs, length_bytes}
use Rattle.files.proofs.RoundTrip.{write_is, write_passed, read_passed, read_words}
use Rattle.files.proofs.Pairs.{lists_by_offset, pairs_fit}

length_pairs : (before : ℕ) (ns : List ℕ) → length (pairs_of before ns) ≡ 2 * length ns
unfolding pairs_of
length_pairs before [] = refl
length_pairs before (n ∷ ns) = omega (arith, length_pairs (before + n) ns)

-- every trapezoid with its set goes to words and back
sourced_back : (rs : List Sourced) → sourced_of (words_of sourced_codec rs) ≡ rs
sourced_back rs = records_words sourced_codec sourced_faithful.readable rs (all_of (λ (r : Sourced). Unit {0}) (λ r. tt) rs)

-- ---- words that from pair number i on are the pairs of lists of these lengths, with so many units before them, and then the rest
record Listed (ws rest : List ℤ) (i before : ℕ) (ns : List ℕ) : Type 0 where
  is : drop (2 * i + 1) ws ≡ pairs_of before ns ++ rest

module _ {ws rest : List ℤ} {i before n : ℕ} {ns : List ℕ} (h : Listed ws rest i before (n ∷ ns)) where
  word_is : (k : ℕ) → word_at ws (2 * i + 1 + k) ≡ word_at (pairs_of before (n ∷ ns) ++ rest) k
  word_is k = sym (get_or-drop (2 * i + 1) ws k (pos 0)) ∙ ap (λ (s : List ℤ). word_at s k) h.is

  offset_is : word_at ws (2 * i + 1) ≡ pos before
  unfolding pairs_of
  offset_is = let e : 2 * i + 1 ≡ 2 * i + 1 + 0 = omega arith in ap (word_at ws) e ∙ word_is 0

  length_is : length_read layer_words ws i ≡ pos n
  unfolding pairs_of
  length_is = let e : 2 * i + 2 ≡ 2 * i + 1 + 1 = omega arith in length_written layer_words ws i refl ∙ ap (word_at ws) e ∙ word_is 1

  others : Listed ws rest (i + 1) (before + n) ns
  unfolding pairs_of
  others =
      let e : 2 * (i + 1) + 1 ≡ 2 * i + 1 + 2 = omega arith in
      record { is = ap (λ (k : ℕ). drop k ws) e ∙ sym (drop-drop 2 (2 * i + 1) ws) ∙ ap (drop 2) h.is }

lengths_are : {ws rest : List ℤ} {i before : ℕ} (ns : List ℕ) → Listed ws rest i before ns → lengths_from layer_words ws (length ns) i ≡ ns
unfolding lengths_from
lengths_are [] h = refl
lengths_are {ws} {rest} {i} (n ∷ ns) h = let e : length_at layer_words ws i ≡ n = ap amount_of (length_is h) in rw (e, lengths_are {i = i + 1} ns (others h))

rest_is : {ws rest : List ℤ} {i before : ℕ} (ns : List ℕ) → Listed ws rest i before ns → drop (2 * (i + length ns) + 1) ws ≡ rest
unfolding pairs_of
rest_is {ws} {rest} {i} [] h = let e : i + 0 ≡ i = omega arith in rw e h.is
rest_is {ws} {rest} {i} (n ∷ ns) h = let e : i + suc (length ns) ≡ i + 1 + length ns = omega arith in ap (λ (k : ℕ). drop (2 * k + 1) ws) e ∙ rest_is {i = i + 1} ns (others h)

-- row 6 lets them pass
walk_is : {ws rest : List ℤ} {i before : ℕ} (layers : List (List Sourced)) → Listed ws rest i before (map length layers) → before + length (joined layers) ≤ max_records
    → 2 * (i + length layers) + 1 + memory_width * (before + length (joined layers)) ≡ length ws
    → pairs_from layer_words ws (length layers) i before ≡ right_with (i + length layers) (before + length (joined layers))
unfolding pairs_from end_of
walk_is {ws} {rest} {i} {before} [] h t e =
    let u : i + 0 ≡ i = omega arith in
    let v : before + 0 ≡ before = omega arith in
    rw (eq-eqb (2 * i + 1 + memory_width * before) (length ws) (omega arith), u, v)
walk_is {ws} {rest} {i} {before} (layer ∷ layers) h t e =
    let l = length-append layer (joined layers) in
    let u : before + length layer + length (joined layers) ≡ before + length (layer ++ joined layers) = omega (arith, l) in
    let v : i + 1 + length layers ≡ i + suc (length layers) = omega arith in
    let a = in_range_lem before before (word_at ws (2 * i + 1)) (ap natural_of (offset_is h)) (omega arith) (omega arith) in
    let b = in_range_lem 0 max_records (length_read layer_words ws i) (ap natural_of (length_is h)) (omega arith) (omega (arith, l)) in
    let p : pair_length layer_words before (word_at ws (2 * i + 1)) (length_read layer_words ws i) ≡ Some (length layer)
    = sym (right_pair layer_words before (word_at ws (2 * i + 1)) (length_read layer_words ws i) (sym a) (sym b) (omega (arith, l))) in
    rw p (walk_is {i = i + 1} layers (others h) (omega arith) (rw (u, v) e) ∙ rw (u, v))

-- ---- what the words of layers hold
module _ (layers : List (List Sourced)) where
  first_is : word_at (layer_file_words layers) 0 ≡ pos (length layers)
  unfolding layer_file_words
  first_is = refl

  listed : Listed (layer_file_words layers) (words_of sourced_codec (joined layers)) 0 0 (map length layers)
  unfolding layer_file_words
  listed = record { is = refl }

  count_is : count_in (layer_file_words layers) ≡ length layers
  count_is = ap amount_of first_is

  as_many : length (map length layers) ≡ length layers
  as_many = length-map layers length

  units_is : units_of sourced_codec (layer_file_words layers) ≡ joined layers
  units_is =
      let e : count_in (layer_file_words layers) ≡ 0 + length (map length layers) = omega (arith, count_is, as_many) in
      ap sourced_of (ap (λ (k : ℕ). drop (2 * k + 1) (layer_file_words layers)) e ∙ rest_is (map length layers) listed) ∙ sourced_back (joined layers)

  shapes_is : units_of trapezoid_codec (layer_file_words layers) ≡ shapes (joined layers)
  shapes_is = sym (shapes_of (body_of (layer_file_words layers))) ∙ ap shapes units_is

  words_long : length (layer_file_words layers) ≡ 1 + 2 * length layers + memory_width * length (joined layers)
  unfolding layer_file_words
  words_long =
      omega (
        arith,
        length-append (pairs_of 0 (map length layers)) (words_of sourced_codec (joined layers)),
        length_pairs 0 (map length layers),
        as_many,
        length_words sourced_codec sourced_faithful.readable (joined layers),
      )

sourced_layers_back : (layers : List (List Sourced)) → sourced_layers_of (layer_file_words layers) ≡ layers
sourced_layers_back layers =
    (λ j. cut (lengths_from layer_words (layer_file_words layers) (count_is layers j) 0) (units_is layers j))
    ∙ ap (λ (k : ℕ). cut (lengths_from layer_words (layer_file_words layers) k 0) (joined layers)) (sym (as_many layers))
    ∙ ap (λ (ns : List ℕ). cut ns (joined layers)) (lengths_are (map length layers) (listed layers))
    ∙ cut_joined layers

pub layers_back : LayersBack
layers_back layers = let e = sourced_layers_back layers in (e, sym (layer-shapes (layer_file_words layers)) ∙ ap (map shapes) e)

-- ---- when a writer takes them
module _ (L : ℕ) (layers : List (List Sourced)) where
  taken_only : (out : List ℕ) → T (is_done (write_layers L (layer_file_words layers) out).answer) → Writable L layers out
  taken_only out d =
      let p = write_passed L (layer_file_words layers) out d in
      let h = passes L layer_words trapezoid_codec (layer_file_words layers) p.0 in
      let r = right layer_words (layer_file_words layers) h.found in
      record {
        few = omega (arith, r.most, count_in_lem r, count_is layers);
        small = omega (arith, units_bound L layer_words trapezoid_codec (layer_file_words layers) refl (omega arith) p.0, ap length (shapes_is layers), shapes-length (joined layers));
        fit = (layer_exact L 0 (shapes (joined layers))).0 (rw (shapes_is layers) at h.fit);
        room = omega (arith, p.1, length_bytes (written_words (layer_file_words layers)), written-length (layer_file_words layers) h.found, r.end, count_in_lem r, count_is layers, words_long layers);
      }

  module _ (few : length layers ≤ layer_words.count) (small : length (joined layers) ≤ layer_words.total) where
    count_passes : count_of layer_words (layer_file_words layers) ≡ Some (length layers)
    count_passes =
        let n = in_range_lem 0 layer_words.count (word_at (layer_file_words layers) 0) (ap natural_of (first_is layers)) (omega arith) few in
        count_read layer_words (layer_file_words layers) refl refl ∙ sym (completed (length (layer_file_words layers)) (sym n) (omega (arith, words_long layers)))

    directory_passes : directory_of layer_words (layer_file_words layers) ≡ right_with (length layers) (length (joined layers))
    directory_passes =
        let u : 0 + length layers ≡ length layers = omega arith in
        let v : 0 + length (joined layers) ≡ length (joined layers) = omega arith in
        sym (directory_some layer_words (layer_file_words layers) count_passes) ∙ walk_is layers (listed layers) (omega (arith, small)) (omega (arith, words_long layers)) ∙ rw (u, v)

  taken : (out : List ℕ) → Writable L layers out → T (is_done (write_layers L (layer_file_words layers) out).answer)
  taken out h =
      let e : layer_words_checked L (layer_file_words layers) ≡ Ok tt
      = sym (
      layers_right L layer_words trapezoid_codec (layer_file_words layers) (directory_passes h.few h.small)
      {body = body_of (layer_file_words layers)} (ap (λ (k : ℕ). drop (2 * k + 1) (layer_file_words layers)) (count_is layers))
      )
      ∙ ap (first_refusal L 0) (shapes_is layers) ∙ (layer_exact L 0 (shapes (joined layers))).1 h.fit in
      let l : length (words_of word_codec (written_words (layer_file_words layers))) ≤ length out
      = omega (arith, h.room, length_bytes (written_words (layer_file_words layers)), written-length (layer_file_words layers) (directory_passes h.few h.small)) in
      subst (λ (o : FileOutcome ℕ). T (is_done o.answer)) (write_is L (layer_file_words layers) out e l) tt

pub writer_accepts : WriterAccepts
writer_accepts L layers out = (taken_only L layers out, taken L layers out)

-- ---- one layer of a layer file's words
abbrev layer_by : List ℤ → ℕ → List Sourced
layer_by ws i = records_from sourced_codec (length_at layer_words ws i) (body_of ws) (offset_at ws i)

at_lists : (ws : List ℤ) (n i j : ℕ) → j < n → get_or (lists_from layer_words sourced_codec ws n i) j [] ≡ layer_by ws (i + j)
unfolding lists_from
at_lists ws zero i j h = absurd (not-suc-le-zero h)
at_lists ws (suc n) i zero h = let e : i ≡ i + 0 = omega arith in ap (layer_by ws) e
at_lists ws (suc n) i (suc j) h = let e : i + 1 + j ≡ i + suc j = omega arith in at_lists ws n (i + 1) j (le_of_suc-le-suc h) ∙ ap (layer_by ws) e

sourced_layer_at : (ws : List ℤ) (n i : ℕ) → HasPairs layer_words ws n → i < n → sourced_of (layer_words_at ws i) ≡ get_or (sourced_layers_of ws) i []
unfolding layer_words_at
sourced_layer_at ws n i h l =
    let p = pairs_fit layer_words ws n h i l in
    let w = words_from sourced_codec sourced_faithful (length_at layer_words ws i) (body_of ws) (offset_at ws i) p.inside (all_of (λ (z : ℤ). Unit {0}) (λ z. tt) (body_of ws)) in
    let z : i ≡ 0 + i = omega arith in
    ap sourced_of (sym w) ∙ sourced_back (layer_by ws i) ∙ ap (layer_by ws) z ∙ sym (at_lists ws n 0 i l)
    ∙ sym (ap (λ (ls : List (List Sourced)). get_or ls i []) (lists_by_offset Sourced layer_words sourced_codec ws n refl (omega arith) h))

pub layer-at : LayerAt
layer-at ws n i h l =
    let e = sourced_layer_at ws n i h l in (
      e,
      sym (shapes_of (layer_words_at ws i)) ∙ ap shapes e ∙ sym (get_or-map shapes (sourced_layers_of ws) i []) ∙ ap (λ (ls : List (List Trapezoid)). get_or ls i []) (layer-shapes ws),
    )

pub read_pairs : ReadPairs
read_pairs L bs out d =
    let p = read_passed L bs out d in
    let h = file_pairs L bs p.0 in
    let e = memory_directory (file_words bs) h.is in
    subst (λ (ws : List ℤ). HasPairs layer_words ws (count_in ws)) (sym (read_words L bs out p.0 p.1))
    (subst (HasPairs layer_words (memory_words (file_words bs))) (sym (count_in_lem (right layer_words (memory_words (file_words bs)) e))) (record { total = h.total; is = e }))
