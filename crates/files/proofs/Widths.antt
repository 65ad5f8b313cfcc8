-- The words of layers with the trapezoids in another width: the same count and pairs, the same trapezoids, and so the same layers.
use Rattle.std.specs.Prelude.{Some, Ok}
use mathlib.Core.Path.{◌≡◌, refl, sym, ap, ◌∙◌}
use mathlib.Core.List.{List, [], ◌∷◌, ◌++◌, map}
use Prim.Native.Nat.{ℕ, zero, suc, ◌+◌, ◌*◌, ◌<◌, ◌≤◌}
use native.Mathlib.Omega.{arith}
use lib.ListN.{length, take, drop, length-append, length-drop, take-append-drop, get_or-append}
use lib.Seq.{length-take-le, take_at, drop_at, get_or-take}
use lib.IntN.{ℤ, pos}
use borrow.Author.Tests.{eq-eqb}
use Rattle.lists.specs.Lists.{cut}
use Rattle.lists.proofs.Lists.{all_of}
use Rattle.records.specs.Limits.{file_width, memory_width, max_records}
use Rattle.records.specs.Records.{Codec, Readable, Faithful, record_at, records, words_of}
use Rattle.records.proofs.Records.{records_words, words_records, length_words}
use Rattle.geometry.specs.declared.Trapezoid.{Trapezoid}
use Rattle.geometry.specs.Trapezoids.{trapezoid_of, trapezoid_words, trapezoid_codec}
use Rattle.geometry.proofs.Trapezoids.{placed_at, trapezoid_in, words_back, trapezoid_readable}
use Rattle.sources.specs.Sets.{empty}
use Rattle.sources.specs.Sourced.{Sourced, sourced_codec, bearing}
use Rattle.sources.proofs.Sourced.{sourced_faithful, shapes_of, empty_words}
use Rattle.files.specs.Formats.{word_at, layers_in, layer_file, layer_words}
use Rattle.files.specs.Pairs.{natural_of, amount_of, count_in, body_of, length_read}
use Rattle.files.specs.Directory.{count_of, pair_length, end_of, pairs_from, directory_of, right_with}
use Rattle.files.specs.Contents.{lengths_from, units_of, lists_of, file_codec, file_layers_of, layers_of, sourced_layers_of, head_of, memory_words, written_words}
use Rattle.files.specs.Rows.{layers_checked, layer_words_checked}
use Rattle.files.specs.Statements.{LayerShapes}
use Rattle.files.proofs.Numbers.{in_range_lem, completed, right_pair}
use Rattle.files.proofs.Lengths.{length_written}
use Rattle.files.proofs.Walk.{pair, count_read, directory_some}
use Rattle.files.proofs.Right.{next, stops, ends, right, count_in_lem}
use Rattle.files.proofs.Bounds.{passes, units_are}

-- every trapezoid goes to 24 words and back, and every 24 words to a trapezoid and back
pub file_faithful : Faithful file_codec (λ (t : Trapezoid). Unit {0}) (λ (z : ℤ). Unit {0})
unfolding trapezoid_words trapezoid_of
file_faithful =
    record {
      readable = record { some = omega arith; encode_length = λ t. refl; decode_encode = λ t g. refl };
      encode_decode = λ r h g. words_back r h;
    }

-- trapezoid number i of a file's body, by its lines' places
pub file_trapezoid_at : (s : List ℤ) (i : ℕ) → record_at file_codec s i ≡ placed_at s (file_width * i)
unfolding record_at
file_trapezoid_at s i = trapezoid_in file_width (omega arith) s (file_width * i)

-- ---- the count and the pairs of words, and another body past them
module _ (ws rest : List ℤ) (h : 2 * count_in ws + 1 ≤ length ws) where
  head_long : length (head_of ws) ≡ 2 * count_in ws + 1
  head_long = length-take-le (2 * count_in ws + 1) ws h

  long : length (head_of ws ++ rest) ≡ 2 * count_in ws + 1 + length rest
  long = omega (arith, length-append (head_of ws) rest, head_long)

  same_word : (i : ℕ) → i < 2 * count_in ws + 1 → word_at (head_of ws ++ rest) i ≡ word_at ws i
  same_word i l = get_or-append (head_of ws) rest (pos 0) i (omega (arith, head_long)) ∙ get_or-take (2 * count_in ws + 1) ws i (pos 0) l

  same_count : count_in (head_of ws ++ rest) ≡ count_in ws
  same_count = ap amount_of (same_word 0 (omega arith))

  same_head : head_of (head_of ws ++ rest) ≡ head_of ws
  same_head = ap (λ (k : ℕ). take (2 * k + 1) (head_of ws ++ rest)) same_count ∙ take_at (head_of ws) rest (2 * count_in ws + 1) head_long

  body_is : body_of (head_of ws ++ rest) ≡ rest
  body_is = ap (λ (k : ℕ). drop (2 * k + 1) (head_of ws ++ rest)) same_count ∙ drop_at (head_of ws) rest (2 * count_in ws + 1) head_long

  module _ (u w : ℕ) where
    same_length : (i : ℕ) → i < count_in ws → length_read (layers_in w) (head_of ws ++ rest) i ≡ length_read (layers_in u) ws i
    same_length i l = length_written (layers_in w) (head_of ws ++ rest) i refl ∙ same_word (2 * i + 2) (omega arith) ∙ sym (length_written (layers_in u) ws i refl)

    same_lengths : (m i : ℕ) → i + m ≤ count_in ws → lengths_from (layers_in w) (head_of ws ++ rest) m i ≡ lengths_from (layers_in u) ws m i
    unfolding lengths_from
    same_lengths zero i l = refl
    same_lengths (suc m) i l =
        let p = ap amount_of (same_length i (omega arith)) in
        let q = same_lengths m (i + 1) (omega arith) in
        λ j. p j ∷ q j

    -- row 6 lets them pass
    walk_same : {n total : ℕ} → 2 * n + 1 + w * total ≡ length (head_of ws ++ rest) → (m i before : ℕ) → i + m ≤ count_in ws → before ≤ max_records
        → pairs_from (layers_in u) ws m i before ≡ right_with n total → pairs_from (layers_in w) (head_of ws ++ rest) m i before ≡ right_with n total
    unfolding pairs_from end_of
    walk_same {n} {total} r zero i before l b e =
        let s = stops (layers_in u) ws i before e in
        let k : i ≡ n = omega (arith, (ends (layers_in u) ws zero i before b e).pairs) in
        let z = ap (λ (t : ℕ). w * t) s in
        rw (eq-eqb (2 * i + 1 + w * before) (length (head_of ws ++ rest)) (omega (arith, z, k, r))) (λ j. right_with (k j) (s j))
    walk_same r (suc m) i before l b e =
        let vs = head_of ws ++ rest in
        let k = next (layers_in u) ws m i before e in
        let p = pair (layers_in u) before (word_at ws (2 * i + 1)) (length_read (layers_in u) ws i) k.found in
        let x = in_range_lem before before (word_at vs (2 * i + 1)) (ap natural_of (same_word (2 * i + 1) (omega arith) ∙ p.start)) (omega arith) (omega arith) in
        let y = in_range_lem 0 max_records (length_read (layers_in w) vs i) (ap natural_of (same_length i (omega arith) ∙ p.is)) (omega arith) p.high in
        let q : pair_length (layers_in w) before (word_at vs (2 * i + 1)) (length_read (layers_in w) vs i) ≡ Some k.size
        = sym (right_pair (layers_in w) before (word_at vs (2 * i + 1)) (length_read (layers_in w) vs i) (sym x) (sym y) p.total) in
        rw q (walk_same r m (i + 1) (before + k.size) (omega arith) p.total k.rest)

    -- and row 5
    directory_same : {n total : ℕ} → directory_of (layers_in u) ws ≡ right_with n total → length rest ≡ w * total → directory_of (layers_in w) (head_of ws ++ rest) ≡ right_with n total
    directory_same {n} {total} e l =
        let vs = head_of ws ++ rest in
        let r = right (layers_in u) ws e in
        let c : count_in ws ≡ n = count_in_lem r in
        let k = in_range_lem 0 (layers_in w).count (word_at vs 0) (ap natural_of (same_word 0 (omega arith) ∙ r.first)) (omega arith) r.most in
        let count : count_of (layers_in w) vs ≡ Some n = count_read (layers_in w) vs refl refl ∙ sym (completed (length vs) (sym k) (omega (arith, long, c))) in
        sym (directory_some (layers_in w) vs count) ∙ walk_same (omega (arith, long, c, l)) n 0 0 (omega (arith, c)) (omega arith) r.walk

-- ---- the trapezoids of words as another codec has them
abbrev pub converted : Codec ℤ Trapezoid → Codec ℤ Trapezoid → List ℤ → List ℤ
converted C D ws = head_of ws ++ words_of D (units_of C ws)

module _ (C D : Codec ℤ Trapezoid) (some : 0 < C.width) (F : Readable D (λ (t : Trapezoid). Unit {0})) (ws : List ℤ) {n total : ℕ} (e : directory_of (layers_in C.width) ws ≡ right_with n total) where
  there : 2 * count_in ws + 1 ≤ length ws
  there = let r = right (layers_in C.width) ws e in omega (arith, r.fit, count_in_lem r)

  rest_long : length (words_of D (units_of C ws)) ≡ D.width * total
  rest_long = length_words D F (units_of C ws) ∙ ap (λ (k : ℕ). D.width * k) (units_are (layers_in C.width) C ws refl some (right (layers_in C.width) ws e))

  pub units_converted : units_of D (converted C D ws) ≡ units_of C ws
  units_converted = ap (records D) (body_is ws (words_of D (units_of C ws)) there) ∙ records_words D F (units_of C ws) (all_of (λ (t : Trapezoid). Unit {0}) (λ t. tt) (units_of C ws))

  pub directory_converted : directory_of (layers_in D.width) (converted C D ws) ≡ right_with n total
  directory_converted = directory_same ws (words_of D (units_of C ws)) there C.width D.width e rest_long

  lengths_converted : lengths_from (layers_in D.width) (converted C D ws) (count_in (converted C D ws)) 0 ≡ lengths_from (layers_in C.width) ws (count_in ws) 0
  lengths_converted =
      ap (λ (k : ℕ). lengths_from (layers_in D.width) (converted C D ws) k 0) (same_count ws (words_of D (units_of C ws)) there)
      ∙ same_lengths ws (words_of D (units_of C ws)) there C.width D.width (count_in ws) 0 (omega arith)

  pub lists_converted : lists_of (layers_in D.width) D (converted C D ws) ≡ lists_of (layers_in C.width) C ws
  lists_converted = λ j. cut (lengths_converted j) (units_converted j)

  pub length_converted : length (converted C D ws) ≡ 2 * n + 1 + D.width * total
  length_converted = omega (arith, long ws (words_of D (units_of C ws)) there, rest_long, count_in_lem (right (layers_in C.width) ws e))

  -- and back
  pub converted_back : Faithful C (λ (t : Trapezoid). Unit {0}) (λ (z : ℤ). Unit {0}) → converted D C (converted C D ws) ≡ ws
  converted_back G =
      let r = right (layers_in C.width) ws e in
      let l : length (body_of ws) ≡ C.width * total = omega (arith, length-drop (2 * count_in ws + 1) ws, count_in_lem r, r.end) in
      let b = ap (words_of C) units_converted ∙ words_records C G (body_of ws) total l (all_of (λ (z : ℤ). Unit {0}) (λ z. tt) (body_of ws)) in
      let h = same_head ws (words_of D (units_of C ws)) there in
      (λ j. h j ++ b j) ∙ take-append-drop (2 * count_in ws + 1) ws

-- rows 5 to 11 let them pass
pub checked_converted : (C D : Codec ℤ Trapezoid) → 0 < C.width → Readable D (λ (t : Trapezoid). Unit {0}) → (L : ℕ) (ws : List ℤ) → layers_checked L (layers_in C.width) C ws ≡ Ok tt
    → layers_checked L (layers_in D.width) D (converted C D ws) ≡ Ok tt
unfolding layers_checked
checked_converted C D some F L ws e =
    let h = passes L (layers_in C.width) C ws e in
    rw (directory_converted C D some F ws h.found, units_converted C D some F ws h.found) h.fit

-- ---- from a file to memory and back
pub memory_is : (ws : List ℤ) → memory_words ws ≡ converted file_codec trapezoid_codec ws
unfolding memory_words
memory_is ws = ap (λ (t : List ℤ). head_of ws ++ t) (empty_words (units_of file_codec ws))

pub written_is : (ws : List ℤ) → written_words ws ≡ converted trapezoid_codec file_codec ws
unfolding written_words
written_is ws = refl

module _ (ws : List ℤ) {n total : ℕ} where
  module _ (e : directory_of layer_file ws ≡ right_with n total) where
    pub memory_directory : directory_of layer_words (memory_words ws) ≡ right_with n total
    memory_directory = ap (directory_of layer_words) (memory_is ws) ∙ directory_converted file_codec trapezoid_codec (omega arith) trapezoid_readable ws e

    pub memory_units : units_of trapezoid_codec (memory_words ws) ≡ units_of file_codec ws
    memory_units = ap (units_of trapezoid_codec) (memory_is ws) ∙ units_converted file_codec trapezoid_codec (omega arith) trapezoid_readable ws e

    pub memory_layers : layers_of (memory_words ws) ≡ file_layers_of ws
    memory_layers = ap layers_of (memory_is ws) ∙ lists_converted file_codec trapezoid_codec (omega arith) trapezoid_readable ws e

    pub memory_length : length (memory_words ws) ≡ 2 * n + 1 + memory_width * total
    memory_length = ap length (memory_is ws) ∙ length_converted file_codec trapezoid_codec (omega arith) trapezoid_readable ws e

    pub memory_back : written_words (memory_words ws) ≡ ws
    memory_back = ap written_words (memory_is ws) ∙ written_is (converted file_codec trapezoid_codec ws) ∙ converted_back file_codec trapezoid_codec (omega arith) trapezoid_readable ws e file_faithful

  module _ (e : directory_of layer_words ws ≡ right_with n total) where
    pub written_directory : directory_of layer_file (written_words ws) ≡ right_with n total
    written_directory = ap (directory_of layer_file) (written_is ws) ∙ directory_converted trapezoid_codec file_codec (omega arith) file_faithful.readable ws e

    pub written_units : units_of file_codec (written_words ws) ≡ units_of trapezoid_codec ws
    written_units = ap (units_of file_codec) (written_is ws) ∙ units_converted trapezoid_codec file_codec (omega arith) file_faithful.readable ws e

    pub written_layers : file_layers_of (written_words ws) ≡ layers_of ws
    written_layers = ap file_layers_of (written_is ws) ∙ lists_converted trapezoid_codec file_codec (omega arith) file_faithful.readable ws e

    pub written-length : length (written_words ws) ≡ 2 * n + 1 + file_width * total
    written-length = ap length (written_is ws) ∙ length_converted trapezoid_codec file_codec (omega arith) file_faithful.readable ws e

module _ (L : ℕ) (ws : List ℤ) where
  pub memory_checked : layers_checked L layer_file file_codec ws ≡ Ok tt → layer_words_checked L (memory_words ws) ≡ Ok tt
  memory_checked e = ap (layer_words_checked L) (memory_is ws) ∙ checked_converted file_codec trapezoid_codec (omega arith) trapezoid_readable L ws e

  pub written_checked : layer_words_checked L ws ≡ Ok tt → layers_checked L layer_file file_codec (written_words ws) ≡ Ok tt
  written_checked e = ap (layers_checked L layer_file file_codec) (written_is ws) ∙ checked_converted trapezoid_codec file_codec (omega arith) file_faithful.readable L ws e

-- ---- with their sets
module _ {A B : Type 0} (f : A → B) where
  map_take : (n : ℕ) (xs : List A) → take n (map f xs) ≡ map f (take n xs)
  map_take zero xs = refl
  map_take (suc n) [] = refl
  map_take (suc n) (x ∷ xs) = ap (λ (ys : List B). f x ∷ ys) (map_take n xs)

  map_drop : (n : ℕ) (xs : List A) → drop n (map f xs) ≡ map f (drop n xs)
  map_drop zero xs = refl
  map_drop (suc n) [] = refl
  map_drop (suc n) (x ∷ xs) = map_drop n xs

  pub cut_map : (ns : List ℕ) (xs : List A) → cut ns (map f xs) ≡ map (map f) (cut ns xs)
  unfolding cut
  cut_map [] xs = refl
  cut_map (n ∷ ns) xs =
      let p = map_take n xs in
      let q = ap (cut ns) (map_drop n xs) ∙ cut_map ns (drop n xs) in
      λ j. p j ∷ q j

pub layer-shapes : LayerShapes
layer-shapes ws =
    sym (cut_map (λ (r : Sourced). r.shape) (lengths_from layer_words ws (count_in ws) 0) (units_of sourced_codec ws))
    ∙ ap (cut (lengths_from layer_words ws (count_in ws) 0)) (shapes_of (body_of ws))

-- "a read piece has an empty set"
pub memory_sets : (ws : List ℤ) {n total : ℕ} → directory_of layer_file ws ≡ right_with n total → sourced_layers_of (memory_words ws) ≡ map (bearing empty) (file_layers_of ws)
unfolding memory_words
memory_sets ws e =
    let ts = units_of file_codec ws in
    let rest = words_of sourced_codec (bearing empty ts) in
    let h = (let r = right layer_file ws e in let l : 2 * count_in ws + 1 ≤ length ws = omega (arith, r.fit, count_in_lem r) in l) in
    let units = ap (records sourced_codec) (body_is ws rest h) ∙ records_words sourced_codec sourced_faithful.readable (bearing empty ts) (all_of (λ (r : Sourced). Unit {0}) (λ r. tt) (bearing empty ts)) in
    let lengths = ap (λ (k : ℕ). lengths_from layer_words (head_of ws ++ rest) k 0) (same_count ws rest h) ∙ same_lengths ws rest h file_width memory_width (count_in ws) 0 (omega arith) in
    (λ j. cut (lengths j) (units j)) ∙ cut_map (λ (t : Trapezoid). record { shape = t; sources = empty }) (lengths_from layer_file ws (count_in ws) 0) ts
