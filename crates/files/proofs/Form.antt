-- Rows 5 and 6 answer what the directory's form says.
use Rattle.std.specs.Prelude.{Option, Some, None, Result}
use mathlib.Core.Path.{◌≡◌, refl, sym, ap, ◌∙◌, subst}
use mathlib.Core.Bool.{Bool, true, false}
use mathlib.Core.List.{List}
use mathlib.Core.Logic.{◌⊎◌, inl, inr}
use Prim.Native.Nat.{ℕ, zero, suc, ◌+◌, ◌*◌, ◌<◌, ◌≤◌}
use native.Mathlib.Nat.{eq-or-lt_of_le, not-suc-le-zero}
use native.Mathlib.Numerals.{add-one}
use native.Mathlib.Omega.{arith}
use lib.Dec.{eqb}
use lib.ListN.{length}
use lib.IntN.{ℤ, pos}
use borrow.Author.Tests.{eqb-true, eqb-false}
use Rattle.files.specs.declared.Format.{Format}
use Rattle.files.specs.Formats.{word_at}
use Rattle.files.specs.Pairs.{natural_of, amount_of, offset_at, length_read, length_at}
use Rattle.files.specs.Directory.{count_of, pair_length, at_end, after_pair, end_of, pairs_from, directory_by, directory_of, HasPairs, wrong_by, right_with}
use Rattle.files.specs.Form.{CountRight, end_before, PairRight, EndMet, HasForm, WrongAt, DirectoryExact, CountRefused, PairPlaceExact, OnlyFiveAndSix}
use Rattle.files.proofs.Numbers.{in_range_lem, completed, right_pair}
use Rattle.files.proofs.Walk.{IsPair, pair, count_read, count_is}
use Rattle.geometry.specs.declared.Refusal.{Refusal}
use Rattle.files.proofs.Same.{right_same, wrong_same}
use Rattle.files.specs.declared.Directory.{Directory}

module _ (f : Format) (ws : List ℤ) where
  -- ---- the tests of the count and of a pair
  count_right : {n : ℕ} → count_of f ws ≡ Some n → CountRight f ws n
  count_right e = let h = count_is f ws e in record { is = h.0.is; most = h.0.high; complete = h.1 }

  right_count : {n : ℕ} → CountRight f ws n → count_of f ws ≡ Some n
  right_count h =
      let n = in_range_lem 0 f.count (word_at ws 0) (ap natural_of h.is) (omega arith) h.most in
      count_read f ws refl refl ∙ sym (completed (length ws) (sym n) h.complete)

  abbrev pair_at : ℕ → Option ℕ
  pair_at i = pair_length f (end_before f ws i) (word_at ws (2 * i + 1)) (length_read f ws i)

  pair_of : (i : ℕ) {k : ℕ} → pair_at i ≡ Some k → IsPair f (end_before f ws i) (word_at ws (2 * i + 1)) (length_read f ws i) k
  pair_of i e = pair f (end_before f ws i) (word_at ws (2 * i + 1)) (length_read f ws i) e

  pair_right : (i : ℕ) {k : ℕ} → pair_at i ≡ Some k → PairRight f ws i
  pair_right i {k} e =
      let p = pair_of i e in
      let l : length_at f ws i ≡ k = ap amount_of p.is in
      record {
        offset = p.start;
        size = p.is ∙ ap pos (sym l);
        least = omega (arith, p.low, l);
        most = omega (arith, p.high, l);
        total = omega (arith, p.total, l);
      }

  right_length : (i : ℕ) → PairRight f ws i → pair_at i ≡ Some (length_at f ws i)
  right_length i h =
      let a = in_range_lem (end_before f ws i) (end_before f ws i) (word_at ws (2 * i + 1)) (ap natural_of h.offset) (omega arith) (omega arith) in
      let b = in_range_lem f.least f.most (length_read f ws i) (ap natural_of h.size) h.least h.most in
      sym (right_pair f (end_before f ws i) (word_at ws (2 * i + 1)) (length_read f ws i) (sym a) (sym b) h.total)

  end_next : (i : ℕ) {k : ℕ} → pair_at i ≡ Some k → end_before f ws (i + 1) ≡ end_before f ws i + k
  end_next i {k} e =
      let p = pair_of i e in
      let o : offset_at ws i ≡ end_before f ws i = ap amount_of p.start in
      let l : length_at f ws i ≡ k = ap amount_of p.is in
      ap (end_before f ws) (add-one i) ∙ (λ j. o j + l j)

  -- pairs right up to number i, and that one too
  one_more : (i : ℕ) → ((j : ℕ) → j < i → PairRight f ws j) → PairRight f ws i → (j : ℕ) → j < i + 1 → PairRight f ws j
  one_more i h r j l = elim (eq-or-lt_of_le (let k : j ≤ i = omega arith in k)) [ inl e ↦ subst (PairRight f ws) (sym e) r | inr k ↦ h j k ]

-- ---- what rows 5 and 6 answer, and why
data Answered (f : Format) (ws : List ℤ) (d : Result Directory Refusal) : Type 0 where
  no_count : d ≡ wrong_by 5 0 → ((n : ℕ) → CountRight f ws n → ⊥) → Answered f ws d
  wrong : (i : ℕ) → d ≡ wrong_by 6 i → WrongAt f ws i → Answered f ws d
  formed : (n : ℕ) → d ≡ right_with n (end_before f ws n) → HasForm f ws n → Answered f ws d

module _ (f : Format) (ws : List ℤ) where
  -- past the last pair
  ended : (n : ℕ) → CountRight f ws n → ((j : ℕ) → j < n → PairRight f ws j) → (t : Bool) → eqb (2 * n + 1 + f.unit * end_before f ws n) (length ws) ≡ t
      → Answered f ws (at_end t n (end_before f ws n))
  ended n c h true p = formed n refl (record { count = c; pairs = h; end = eqb-true (2 * n + 1 + f.unit * end_before f ws n) (length ws) p })
  ended n c h false p = wrong n refl (record { pairs = n; count = c; earlier = h; here = inr (refl, eqb-false (2 * n + 1 + f.unit * end_before f ws n) (length ws) p) })

  walked : {n : ℕ} → CountRight f ws n → (m i : ℕ) → i + m ≡ n → ((j : ℕ) → j < i → PairRight f ws j) → Answered f ws (pairs_from f ws m i (end_before f ws i))
  unfolding pairs_from end_of
  walked {n} c zero i e h = let z : n ≡ i = omega arith in ended i (subst (CountRight f ws) z c) h (eqb (2 * i + 1 + f.unit * end_before f ws i) (length ws)) refl
  walked {n} c (suc m) i e h = go (λ r. walked c m (i + 1) (omega arith) (one_more f ws i h r)) (pair_at f ws i) refl
    where
      go : (PairRight f ws i → Answered f ws (pairs_from f ws m (i + 1) (end_before f ws (i + 1)))) → (k : Option ℕ) → pair_at f ws i ≡ k
          → Answered f ws (after_pair k i (λ (s : ℕ). pairs_from f ws m (i + 1) (end_before f ws i + s)))
      go rest (Some s) p = subst (λ (b : ℕ). Answered f ws (pairs_from f ws m (i + 1) b)) (end_next f ws i p) (rest (pair_right f ws i p))
      go rest None p =
          wrong i refl (record {
            pairs = n;
            count = c;
            earlier = h;
            here = inl (omega arith, λ r. let q = right_length f ws i r in let z : ◌≡◌ {A = ℕ} 0 1 = cc in omega arith);
          })

  answered : Answered f ws (directory_of f ws)
  unfolding directory_of
  answered = go (count_of f ws) refl
    where
      go : (k : Option ℕ) → count_of f ws ≡ k → Answered f ws (directory_by f ws k)
      go (Some n) p = walked (count_right f ws p) n 0 (omega arith) (λ j l. absurd (not-suc-le-zero l))
      go None p = no_count refl (λ n c. let q = right_count f ws c in let z : ◌≡◌ {A = ℕ} 0 1 = cc in omega arith)

-- ---- no two answers
module _ {f : Format} {ws : List ℤ} where
  same_count : {m n : ℕ} → CountRight f ws m → CountRight f ws n → m ≡ n
  same_count a b = ap amount_of (sym a.is ∙ b.is)

  form_wrong : {n i : ℕ} → HasForm f ws n → WrongAt f ws i → ⊥
  form_wrong {n} {i} h w =
      let s = same_count h.count w.count in
      elim w.here [ inl p ↦ p.1 (h.pairs i (omega (arith, p.0))) | inr p ↦ p.1 (subst (EndMet f ws) s h.end) ]

  at_most : {i : ℕ} (w : WrongAt f ws i) → i ≤ w.pairs
  at_most w = elim w.here [ inl p ↦ omega (arith, p.0) | inr p ↦ omega (arith, p.0) ]

  not_lower : {i j : ℕ} → WrongAt f ws i → WrongAt f ws j → i < j → ⊥
  not_lower {i} a b l =
      let s = same_count a.count b.count in
      let m = at_most b in
      elim a.here [ inl p ↦ p.1 (b.earlier i l) | inr p ↦ omega (arith, p.0) ]

  same_place : {i j : ℕ} → WrongAt f ws i → WrongAt f ws j → i ≡ j
  same_place a b = let g = not_lower a b in let h = not_lower b a in omega arith

-- ---- so the answer is the one that the form says
pub directory_exact : DirectoryExact
directory_exact f ws n = (there (answered f ws), back (answered f ws))
  where
    there : Answered f ws (directory_of f ws) → HasPairs f ws n → HasForm f ws n
    there (no_count e g) h = let p = h.is in let z : ◌≡◌ {A = ℕ} 0 1 = cc in absurd (omega arith)
    there (wrong i e w) h = let p = h.is in let z : ◌≡◌ {A = ℕ} 0 1 = cc in absurd (omega arith)
    there (formed m e g) h = let p = h.is in let z = right_same {m = m} {t = end_before f ws m} {n = n} {u = h.total} (sym e ∙ p) in subst (HasForm f ws) z.0 g

    back : Answered f ws (directory_of f ws) → HasForm f ws n → HasPairs f ws n
    back (no_count e g) h = absurd (g n h.count)
    back (wrong i e w) h = absurd (form_wrong h w)
    back (formed m e g) h = record { total = end_before f ws m; is = e ∙ ap (λ (k : ℕ). right_with k (end_before f ws m)) (same_count g.count h.count) }

pub count_refused : CountRefused
count_refused f ws = (there (answered f ws), back (answered f ws))
  where
    there : Answered f ws (directory_of f ws) → directory_of f ws ≡ wrong_by 5 0 → (n : ℕ) → CountRight f ws n → ⊥
    there (no_count e g) p = g
    there (wrong i e w) p = let z = wrong_same {m = 5} {i = 0} {n = 6} {k = i} (sym p ∙ e) in absurd (omega (arith, z.0))
    there (formed m e g) p = let z : ◌≡◌ {A = ℕ} 0 1 = cc in absurd (omega arith)

    back : Answered f ws (directory_of f ws) → ((n : ℕ) → CountRight f ws n → ⊥) → directory_of f ws ≡ wrong_by 5 0
    back (no_count e g) h = e
    back (wrong i e w) h = absurd (h w.pairs w.count)
    back (formed m e g) h = absurd (h m g.count)

pub pair_place_exact : PairPlaceExact
pair_place_exact f ws i = (there (answered f ws), back (answered f ws))
  where
    there : Answered f ws (directory_of f ws) → directory_of f ws ≡ wrong_by 6 i → WrongAt f ws i
    there (no_count e g) p = let z = wrong_same {m = 5} {i = 0} {n = 6} {k = i} (sym e ∙ p) in absurd (omega (arith, z.0))
    there (wrong j e w) p = let z = wrong_same {m = 6} {i = j} {n = 6} {k = i} (sym e ∙ p) in subst (WrongAt f ws) z.1 w
    there (formed m e g) p = let z : ◌≡◌ {A = ℕ} 0 1 = cc in absurd (omega arith)

    back : Answered f ws (directory_of f ws) → WrongAt f ws i → directory_of f ws ≡ wrong_by 6 i
    back (no_count e g) h = absurd (g h.pairs h.count)
    back (wrong j e w) h = e ∙ ap (wrong_by 6) (same_place w h)
    back (formed m e g) h = absurd (form_wrong g h)

pub only_five_and_six : OnlyFiveAndSix
only_five_and_six f ws number place p = go (answered f ws)
  where
    go : Answered f ws (directory_of f ws) → ((number ≡ 5) × (place ≡ 0)) ⊎ (number ≡ 6)
    go (no_count e g) = inl (wrong_same {m = number} {i = place} {n = 5} {k = 0} (sym p ∙ e))
    go (wrong i e w) = inr (wrong_same {m = number} {i = place} {n = 6} {k = i} (sym p ∙ e)).0
    go (formed m e g) = let z : ◌≡◌ {A = ℕ} 0 1 = cc in absurd (omega arith)
