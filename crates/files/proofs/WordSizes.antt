-- The words of a layer file that rows 5 to 11 let pass are 32-bit words: the count, the pairs and every coordinate are small, and there are no others.
use mathlib.Core.Path.{◌≡◌, refl, sym, ◌∙◌, subst}
use mathlib.Core.Bool.{false}
use mathlib.Core.List.{List, [], ◌∷◌, ◌++◌}
use Prim.Native.Nat.{ℕ, zero, suc, ◌+◌, ◌*◌, ◌<◌, ◌≤◌}
use native.Mathlib.Omega.{arith}
use lib.ListN.{length, drop, length-drop}
use lib.IntN.{ℤ, pos, negsuc, nat_abs}
use Rattle.lists.specs.Lists.{All}
use Rattle.lists.proofs.Lists.{all_of}
use Rattle.records.specs.Limits.{file_width}
use Rattle.records.specs.Records.{words_of}
use Rattle.records.specs.Words.{Word}
use Rattle.records.proofs.Records.{words_records}
use Rattle.geometry.specs.declared.Line.{Line}
use Rattle.geometry.specs.declared.Trapezoid.{Trapezoid}
use Rattle.geometry.specs.Limit.{OnGrid}
use Rattle.geometry.specs.Trapezoids.{line_words, trapezoid_words}
use Rattle.geometry.specs.Fitness.{FitFor}
use Rattle.geometry.proofs.Fitness.{layer_exact}
use Rattle.files.specs.declared.Format.{Format}
use Rattle.files.specs.Formats.{word_at, layer_file}
use Rattle.files.specs.Directory.{pairs_from, right_with}
use Rattle.files.specs.Pairs.{count_in, body_of, length_read}
use Rattle.files.specs.Contents.{units_of, file_codec}
use Rattle.files.specs.Rows.{layers_checked}
use Rattle.files.specs.Statements.{WordsHold}
use Rattle.files.proofs.Lengths.{length_written}
use Rattle.files.proofs.Walk.{pair}
use Rattle.files.proofs.Right.{next, right, count_in_lem}
use Rattle.files.proofs.Bounds.{passes}
use Rattle.files.proofs.Widths.{file_faithful}
use Rattle.std.specs.Prelude.{Ok}

-- ---- coordinates
module _ (L : ℕ) (hold : WordsHold L) where
  small_word : (z : ℤ) → nat_abs z ≤ L → Word z
  small_word (pos n) h = omega arith
  small_word (negsuc n) h = omega arith

  line_words_lem : {l : Line} (ws : List ℤ) → OnGrid L l → All Word ws → All Word (line_words l ++ ws)
  line_words_lem {l} ws h g = (small_word l.x1 h.x1, (small_word l.y1 h.y1, (small_word l.x2 h.x2, (small_word l.y2 h.y2, g))))

  fit_words : (ts : List Trapezoid) → All (FitFor L) ts → All Word (words_of file_codec ts)
  unfolding words_of trapezoid_words
  fit_words [] h = tt
  fit_words (t ∷ ts) h =
      let g = h.0.grid in
      let ws = words_of file_codec ts in
      let u = line_words t.top ++ ws in
      let v = line_words t.bottom ++ u in
      let x = line_words t.right.second ++ v in
      let y = line_words t.right.first ++ x in
      let z = line_words t.left.second ++ y in
      line_words_lem z g.0
      (line_words_lem y g.1.0
      (line_words_lem x g.1.1.0
      (line_words_lem v g.1.1.1.0
      (line_words_lem u g.1.1.1.1.0
      (line_words_lem ws g.1.1.1.1.1.0
      (fit_words ts h.1))))))

-- ---- the words from number k on, one more
one_more : (k : ℕ) (ws : List ℤ) → Word (word_at ws k) → All Word (drop (suc k) ws) → All Word (drop k ws)
one_more zero [] w h = tt
one_more (suc k) [] w h = tt
one_more zero (x ∷ ws) w h = (w, h)
one_more (suc k) (x ∷ ws) w h = one_more k ws w h

-- ---- the pairs
pairs_words : (f : Format) (ws : List ℤ) {n total : ℕ} → f.found ≡ false → f.total < 2147483648 → (m i before : ℕ) → before ≤ f.total → pairs_from f ws m i before ≡ right_with n total → All Word (drop (2 * (i + m) + 1) ws) → All Word (drop (2 * i + 1) ws)
pairs_words f ws w l zero i before h e g = let z : i + 0 ≡ i = omega arith in rw z at g
pairs_words f ws w l (suc m) i before h e g =
    let k = next f ws m i before e in
    let p = pair f before (word_at ws (2 * i + 1)) (length_read f ws i) k.found in
    let z : i + suc m ≡ i + 1 + m = omega arith in
    let s : 2 * (i + 1) + 1 ≡ suc (2 * i + 2) = omega arith in
    let t : 2 * i + 2 ≡ suc (2 * i + 1) = omega arith in
    let r = pairs_words f ws w l m (i + 1) (before + k.size) p.total k.rest (rw z at g) in
    let a : Word (word_at ws (2 * i + 2)) = rw (sym (length_written f ws i w) ∙ p.is) (omega (arith, p.total)) in
    let b : Word (word_at ws (2 * i + 1)) = rw p.start (omega arith) in
    one_more (2 * i + 1) ws b (subst (λ (j : ℕ). All Word (drop j ws)) t (one_more (2 * i + 2) ws a (subst (λ (j : ℕ). All Word (drop j ws)) s r)))

-- ---- all of them
pub words_passed : (L : ℕ) → WordsHold L → (ws : List ℤ) → layers_checked L layer_file file_codec ws ≡ Ok tt → All Word ws
words_passed L hold ws e =
    let h = passes L layer_file file_codec ws e in
    let r = right layer_file ws h.found in
    let l : length (body_of ws) ≡ file_width * h.total = omega (arith, length-drop (2 * count_in ws + 1) ws, count_in_lem r, r.end) in
    let back = words_records file_codec file_faithful (body_of ws) h.total l (all_of (λ (z : ℤ). Unit {0}) (λ z. tt) (body_of ws)) in
    let body : All Word (body_of ws) = subst (All Word) back (fit_words L hold (units_of file_codec ws) ((layer_exact L 0 (units_of file_codec ws)).0 h.fit)) in
    let c : count_in ws ≡ 0 + h.pairs = omega (arith, count_in_lem r) in
    let past = pairs_words layer_file ws refl (omega arith) h.pairs 0 0 (omega arith) r.walk (subst (λ (k : ℕ). All Word (drop (2 * k + 1) ws)) c body) in
    let first : Word (word_at ws 0) = rw r.first (omega (arith, r.most)) in
    one_more 0 ws first past
