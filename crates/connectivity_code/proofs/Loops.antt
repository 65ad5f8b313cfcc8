-- The loops over component numbers: what holds before each turn, that a turn keeps it, and what it says at the end.
use mathlib.Core.Path.{◌≡◌, refl, sym, ◌∙◌, ap}
use mathlib.Core.Bool.{Bool, true, false, cond}
use mathlib.Core.List.{List, [], ◌∷◌, ◌++◌, append_assoc}
use Prim.Native.Nat.{ℕ, zero, suc, ◌+◌, ◌-◌, ◌<◌, ◌≤◌, max, min}
use native.Mathlib.Numerals.{add-one}
use native.Mathlib.Omega.{arith}
use lib.Dec.{T, eqb, eqb→eq}
use Rattle.std.specs.List.{filter, enumerate_from}
use Rattle.std.proofs.lemmas.List.Filters.{length-filter_more}
use Rattle.std.proofs.lemmas.List.FromFn.{length-enumerate_from, get_or-enumerate_from}
use native.Mathlib.Nat.{add-zero, zero-add}
use lib.ListN.{length, set, take, drop}
use lib.Seq.{drop-cons, set_at, take-length}
use borrow.Author.Tests.{eq-eqb, ne_eqb}
use Rattle.connectivity.specs.Components.{number_at, own_numbers, relabelled, joined_numbers, joined_if, joined_first, joined_all, cons_if, owners}
use Rattle.connectivity.proofs.Joining.{length_own}

-- ---- each its own number
pub number_turn : (d₀ d : List ℕ) (i : ℕ) → d ≡ own_numbers i ++ drop i d₀ → i < length d₀ → set d i i ≡ own_numbers (i + 1) ++ drop (i + 1) d₀
unfolding own_numbers
number_turn d₀ d i h l =
    ap (λ (e : List ℕ). set e i i) (h ∙ ap (λ (t : List ℕ). own_numbers i ++ t) (drop-cons d₀ i 0 l))
    ∙ set_at (own_numbers i) (number_at d₀ i) (drop (suc i) d₀) i i (length_own i)
    ∙ sym (append_assoc (own_numbers i) (i ∷ []) (drop (suc i) d₀))
    ∙ ap (λ (k : ℕ). own_numbers k ++ drop k d₀) (sym (add-one i))

-- ---- each `from` becomes `to`
relabel_suc : (from to : ℕ) (d : List ℕ) (i : ℕ) → i < length d
    → let e = relabelled from to (take i d) ++ drop i d in set e i (cond (eqb (number_at e i) from) to (number_at e i)) ≡ relabelled from to (take (suc i) d) ++ drop (suc i) d
unfolding relabelled
relabel_suc from to [] i l = absurd (omega arith)
relabel_suc from to (x ∷ d) zero l = refl
relabel_suc from to (x ∷ d) (suc i) l = ap (λ (t : List ℕ). cond (eqb x from) to x ∷ t) (relabel_suc from to d i (omega arith))

module _ (from to : ℕ) (d₀ d : List ℕ) (i : ℕ) (h : d ≡ relabelled from to (take i d₀) ++ drop i d₀) (l : i < length d₀) where
  relabel_turn : {x : ℕ} → x ≡ cond (eqb (number_at d i) from) to (number_at d i) → set d i x ≡ relabelled from to (take (i + 1) d₀) ++ drop (i + 1) d₀
  relabel_turn e = ap (set d i) e ∙ rw (h, add-one) (relabel_suc from to d₀ i l)

  pub relabel_from : number_at d i ≡ from → set d i to ≡ relabelled from to (take (i + 1) d₀) ++ drop (i + 1) d₀
  relabel_from e = relabel_turn (sym (rw (eq-eqb (number_at d i) from e)))

  pub relabel_other : (number_at d i ≡ from → ⊥) → set d i (number_at d i) ≡ relabelled from to (take (i + 1) d₀) ++ drop (i + 1) d₀
  relabel_other n = relabel_turn (sym (rw (ne_eqb (number_at d i) from n)))

-- ---- two numbers become one
same_label : (b : Bool) (n a : ℕ) → (T b → n ≡ a) → cond b a n ≡ n
same_label true n a f = sym (f tt)
same_label false n a f = refl

relabelled_same : (a : ℕ) (ns : List ℕ) → relabelled a a ns ≡ ns
unfolding relabelled
relabelled_same a [] = refl
relabelled_same a (n ∷ ns) = rw (same_label (eqb n a) n a (eqb→eq n a), relabelled_same a ns)

-- nothing is to be done where the numbers agree
agree_if : (b : Bool) (i j : ℕ) (ns : List ℕ) → number_at ns i ≡ number_at ns j → ns ≡ joined_if b i j ns
unfolding joined_numbers
agree_if true i j ns e =
    let m : max (number_at ns i) (number_at ns j) ≡ number_at ns i = omega arith in
    let o : min (number_at ns i) (number_at ns j) ≡ number_at ns i = omega arith in
    sym (rw (m, o) (relabelled_same (number_at ns i) ns))
agree_if false i j ns e = refl

-- ---- one with those before it
module _ (test : ℕ → ℕ → Bool) where
  pub record Earlier (i : ℕ) (d₀ d : List ℕ) (j : ℕ) : Type 0 where
    pub upto : j ≤ i
    pub is : d ≡ joined_first test i j d₀

  pub earlier_start : (i : ℕ) (d₀ : List ℕ) → Earlier i d₀ d₀ 0
  unfolding joined_first
  earlier_start i d₀ = record { upto = omega arith; is = refl }

  first_suc : (i j : ℕ) (d₀ : List ℕ) → joined_first test i (j + 1) d₀ ≡ joined_if (test i j) i j (joined_first test i j d₀)
  unfolding joined_first
  first_suc i j d₀ = rw add-one

  pub earlier_turn : {i j : ℕ} {d₀ d e : List ℕ} {b : Bool} → Earlier i d₀ d j → j < i → b ≡ test i j → e ≡ joined_if b i j d → Earlier i d₀ e (j + 1)
  earlier_turn {i} {j} {d₀} {d} {e} {b} h l f g =
      record {
        upto = omega arith;
        is = g ∙ ap (λ (t : Bool). joined_if t i j d) f ∙ ap (joined_if (test i j) i j) h.is ∙ sym (first_suc i j d₀);
      }

  pub earlier_agree : {i j : ℕ} {d₀ d e : List ℕ} → Earlier i d₀ d j → j < i → number_at d i ≡ number_at d j → e ≡ d → Earlier i d₀ e (j + 1)
  earlier_agree {i} {j} {d₀} {d} h l f g = earlier_turn h l refl (g ∙ agree_if (test i j) i j d f)

  -- those that the test says no of are passed over
  first_skip : (i j n : ℕ) (d₀ : List ℕ) → ((k : ℕ) → j ≤ k → k < j + n → false ≡ test i k) → joined_first test i (j + n) d₀ ≡ joined_first test i j d₀
  first_skip i j zero d₀ f = let e : j + zero ≡ j = omega arith in ap (λ (k : ℕ). joined_first test i k d₀) e
  first_skip i j (suc n) d₀ f =
      let e : j + suc n ≡ j + n + 1 = omega arith in
      ap (λ (k : ℕ). joined_first test i k d₀) e
      ∙ first_suc i (j + n) d₀
      ∙ ap (λ (b : Bool). joined_if b i (j + n) (joined_first test i (j + n) d₀)) (sym (f (j + n) (omega arith) (omega arith)))
      ∙ first_skip i j n d₀ (λ k l m. f k l (omega (arith, m)))

  pub earlier_skip : {i j r : ℕ} {d₀ d : List ℕ} → Earlier i d₀ d j → j ≤ r → r ≤ i → ((k : ℕ) → j ≤ k → k < r → false ≡ test i k) → Earlier i d₀ d r
  earlier_skip {i} {j} {r} {d₀} {d} h l m f =
      let e : j + (r - j) ≡ r = omega (arith, l) in
      record {
        upto = m;
        is = h.is ∙ sym (ap (λ (k : ℕ). joined_first test i k d₀) (sym e) ∙ first_skip i j (r - j) d₀ (λ k u v. f k u (omega (arith, v, e))));
      }

  -- ---- each in turn
  pub all_suc : (i : ℕ) (d₀ : List ℕ) → joined_all test (i + 1) d₀ ≡ joined_first test i i (joined_all test i d₀)
  unfolding joined_all
  all_suc i d₀ = rw add-one

-- ---- how many have their own number
-- a place with the number there
abbrev pub is_own : ℕ × ℕ → Bool
is_own p = eqb p.1 p.0

length_cons : (b : Bool) (i : ℕ) (ns : List ℕ) → length ns + cond b 1 0 ≡ length (cons_if b i ns)
length_cons true i ns = add-one (length ns)
length_cons false i ns = add-zero (length ns)

own_upto : (ns : List ℕ) (i : ℕ) → i ≤ length ns → length (filter is_own (take i (enumerate_from 0 ns))) ≡ length (owners ns i)
unfolding owners
own_upto ns zero l = refl
own_upto ns (suc i) l =
    rw add-one at (length-filter_more is_own (enumerate_from 0 ns) i (0, 0) (omega (arith, l, length-enumerate_from 0 ns)))
    ∙ ap (λ (p : ℕ × ℕ). length (filter is_own (take i (enumerate_from 0 ns))) + cond (is_own p) 1 0) (get_or-enumerate_from 0 ns i (0, 0) l ∙ ap (λ (k : ℕ). (k, number_at ns i)) (zero-add i))
    ∙ ap (λ (n : ℕ). n + cond (eqb (number_at ns i) i) 1 0) (own_upto ns i (omega arith))
    ∙ length_cons (eqb (number_at ns i) i) i (owners ns i)

pub own_all : (ns : List ℕ) → length (filter is_own (enumerate_from 0 ns)) ≡ length (owners ns (length ns))
own_all ns = ap (λ (ps : List (ℕ × ℕ)). length (filter is_own ps)) (sym (take-all-of ns)) ∙ own_upto ns (length ns) (omega arith)
  where
    take-all-of : (ns : List ℕ) → take (length ns) (enumerate_from 0 ns) ≡ enumerate_from 0 ns
    take-all-of ns = ap (λ (n : ℕ). take n (enumerate_from 0 ns)) (sym (length-enumerate_from 0 ns)) ∙ take-length (enumerate_from 0 ns)
