-- The pairs of a directory that is right, one by one, and the lists that they stand for.
use mathlib.Core.Path.{◌≡◌, refl, sym, ap, ◌∙◌, subst}
use mathlib.Core.List.{List}
use Prim.Native.Nat.{ℕ, zero, suc, ◌+◌, ◌*◌, ◌-◌, ◌/◌, ◌<◌, ◌≤◌}
use native.Mathlib.Nat.{mul-le-mul_left, not-suc-le-zero, le_of_suc-le-suc}
use native.Mathlib.Omega.{arith}
use lib.ListN.{take-append-drop, drop_of_length-le, length, take, drop, length-drop}
use lib.Seq.{drop-drop, get_or-drop}
use lib.IntN.{ℤ, pos}
use Rattle.lists.specs.Lists.{cut, joined}
use Rattle.lists.proofs.Parts.{cut_length}
use Rattle.records.specs.Records.{Codec, record_at, records_from, count}
use Rattle.records.proofs.Records.{length_from}
use Rattle.files.specs.declared.Format.{Format}
use Rattle.files.specs.Formats.{word_at, file_words, polygon_file}
use Rattle.files.specs.Directory.{pairs_from, HasPairs, right_with}
use Rattle.files.specs.Pairs.{amount_of, count_in, body_of, offset_at, length_read, length_at}
use Rattle.files.specs.Contents.{lengths_from, lengths_of, units_of, lists_of, lists_from, vertex_codec}
use Rattle.files.specs.Statements.{ListsByOffset, ListsJoined, PairsFit, CheckedPairs}
use Rattle.files.proofs.Reading.{drop_from, take_from, length_file}
use Rattle.files.proofs.Walk.{pair}
use Rattle.files.proofs.Right.{next, stops, ends, right, count_in_lem}
use Rattle.files.proofs.Bounds.{units_are}
use Rattle.files.proofs.Polygons.{polygon_file_passes, vertex-at}

-- ---- there are as many lists as word 0 counts
lengths_length : (f : Format) (ws : List ℤ) (n i : ℕ) → length (lengths_from f ws n i) ≡ n
unfolding lengths_from
lengths_length f ws zero i = refl
lengths_length f ws (suc n) i = ap suc (lengths_length f ws n (i + 1))

pub lists_length : {A : Type 0} (f : Format) (C : Codec ℤ A) (ws : List ℤ) → length (lists_of f C ws) ≡ count_in ws
lists_length f C ws = cut_length (lengths_of f ws) (units_of C ws) ∙ lengths_length f ws (count_in ws) 0

-- ---- the pairs
-- pair number j lies within so many units
record Fits (f : Format) (ws : List ℤ) (total j : ℕ) : Type 0 where
  least : f.least ≤ length_at f ws j
  most : length_at f ws j ≤ f.most
  inside : offset_at ws j + length_at f ws j ≤ total

module _ (f : Format) (ws : List ℤ) {n total : ℕ} where
  -- ---- the lists by offset
  module _ {A : Type 0} (C : Codec ℤ A) (enough : length (units_of C ws) ≡ total) where
    lists : (m i before : ℕ) → before ≤ f.total → pairs_from f ws m i before ≡ right_with n total → cut (lengths_from f ws m i) (drop before (units_of C ws)) ≡ lists_from f C ws m i
    unfolding lengths_from cut lists_from
    lists zero i before h e = refl
    lists (suc m) i before h e =
        let k = next f ws m i before e in
        let p = pair f before (word_at ws (2 * i + 1)) (length_read f ws i) k.found in
        let o : offset_at ws i ≡ before = ap amount_of p.start in
        let l : length_at f ws i ≡ k.size = ap amount_of p.is in
        let r = ends f ws m (i + 1) (before + k.size) p.total k.rest in
        let u = sym (length_from C (count C (body_of ws)) (body_of ws) 0) ∙ enough in
        let g : k.size ≤ count C (body_of ws) - before = omega (arith, u, r.more) in
        let z : 0 + before ≡ before = omega arith in
        let t : take k.size (drop before (units_of C ws)) ≡ records_from C k.size (body_of ws) before
        = ap (take k.size) (drop_from C before (count C (body_of ws)) (body_of ws) 0)
        ∙ take_from C k.size (count C (body_of ws) - before) (body_of ws) (0 + before) g
        ∙ ap (records_from C k.size (body_of ws)) z in
        rw (l, o, t, drop-drop k.size before (units_of C ws), lists m (i + 1) (before + k.size) p.total k.rest)

    join : (m i before : ℕ) → before ≤ f.total → pairs_from f ws m i before ≡ right_with n total → joined (cut (lengths_from f ws m i) (drop before (units_of C ws))) ≡ drop before (units_of C ws)
    unfolding lengths_from cut
    join zero i before h e = let r = stops f ws i before e in sym (drop_of_length-le (units_of C ws) {i = before} (omega (arith, enough, r)))
    join (suc m) i before h e =
        let k = next f ws m i before e in
        let p = pair f before (word_at ws (2 * i + 1)) (length_read f ws i) k.found in
        let l : length_at f ws i ≡ k.size = ap amount_of p.is in
        rw (l, drop-drop k.size before (units_of C ws), join m (i + 1) (before + k.size) p.total k.rest, ← drop-drop k.size before (units_of C ws))
        (take-append-drop k.size (drop before (units_of C ws)))

  -- ---- one pair
  fits : (m i before : ℕ) → before ≤ f.total → pairs_from f ws m i before ≡ right_with n total → (d : ℕ) → d < m → Fits f ws total (i + d)
  fits zero i before h e d l = absurd (not-suc-le-zero l)
  fits (suc m) i before h e zero l =
      let k = next f ws m i before e in
      let p = pair f before (word_at ws (2 * i + 1)) (length_read f ws i) k.found in
      let r = ends f ws m (i + 1) (before + k.size) p.total k.rest in
      let o : offset_at ws i ≡ before = ap amount_of p.start in
      let s : length_at f ws i ≡ k.size = ap amount_of p.is in
      let z : i ≡ i + 0 = omega arith in
      subst (Fits f ws total) z (record { least = omega (arith, s, p.low); most = omega (arith, s, p.high); inside = omega (arith, s, o, r.more) })
  fits (suc m) i before h e (suc d) l =
      let k = next f ws m i before e in
      let p = pair f before (word_at ws (2 * i + 1)) (length_read f ws i) k.found in
      let z : i + 1 + d ≡ i + suc d = omega arith in
      subst (Fits f ws total) z (fits m (i + 1) (before + k.size) p.total k.rest d (le_of_suc-le-suc l))

pub lists_by_offset : ListsByOffset
lists_by_offset A f C ws n w p h =
    let r = right f ws h.is in
    ap (λ (k : ℕ). cut (lengths_from f ws k 0) (units_of C ws)) (count_in_lem r) ∙ lists f ws C (units_are f C ws w p r) n 0 0 (omega arith) r.walk

pub lists_joined : ListsJoined
lists_joined A f C ws n w p h =
    let r = right f ws h.is in
    ap (λ (k : ℕ). joined (cut (lengths_from f ws k 0) (units_of C ws))) (count_in_lem r) ∙ join f ws C (units_are f C ws w p r) n 0 0 (omega arith) r.walk

pub pairs_fit : PairsFit
pairs_fit f ws n h i l =
    let r = right f ws h.is in
    let t = fits f ws n 0 0 (omega arith) r.walk i l in
    let z : 0 + i ≡ i = omega arith in
    let g = subst (Fits f ws h.total) z t in
    record {
      least = g.least;
      most = g.most;
      small = omega (arith, g.inside, r.units);
      inside = omega (arith, mul-le-mul_left f.unit g.inside, r.end, count_in_lem r, length-drop (2 * count_in ws + 1) ws);
    }

-- ---- a polygon file that passes
pub checked_pairs : CheckedPairs
checked_pairs edition L bs e =
    let h = polygon_file_passes edition L bs e in
    subst (HasPairs (polygon_file edition) (file_words bs)) (sym (count_in_lem (right (polygon_file edition) (file_words bs) h.found))) (record { total = h.total; is = h.found })

-- a vertex of the body
pub body_length : (bs : List ℕ) → length (body_of (file_words bs)) ≡ length bs / 4 - (2 * count_in (file_words bs) + 1)
body_length bs = length-drop (2 * count_in (file_words bs) + 1) (file_words bs) ∙ ap (λ (k : ℕ). k - (2 * count_in (file_words bs) + 1)) (length_file bs)

pub body_vertex : (ws : List ℤ) (k : ℕ) {n : ℕ} → n ≡ count_in ws → record { x = word_at ws (2 * n + 1 + 2 * k); y = word_at ws (2 * n + 1 + 2 * k + 1) } ≡ record_at vertex_codec (body_of ws) k
body_vertex ws k {n} e =
    let d = ap (λ (m : ℕ). 2 * m + 1) e in
    let p : word_at ws (2 * n + 1 + 2 * k) ≡ word_at (body_of ws) (2 * k) = ap (λ (m : ℕ). word_at ws (m + 2 * k)) d ∙ sym (get_or-drop (2 * count_in ws + 1) ws (2 * k) (pos 0)) in
    let a : 2 * n + 1 + 2 * k + 1 ≡ 2 * count_in ws + 1 + (2 * k + 1) = omega (arith, d) in
    let q : word_at ws (2 * n + 1 + 2 * k + 1) ≡ word_at (body_of ws) (2 * k + 1) = ap (word_at ws) a ∙ sym (get_or-drop (2 * count_in ws + 1) ws (2 * k + 1) (pos 0)) in
    (λ j. record { x = p j; y = q j }) ∙ sym (vertex-at (body_of ws) k)
