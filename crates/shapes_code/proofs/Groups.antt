-- Trapezoids by their numbers: how many have a number below k, and where those with the number k stand among them.
use mathlib.Core.Path.{◌≡◌, refl, sym, ◌∙◌, ap}
use mathlib.Core.Bool.{Bool, true, false, cond}
use mathlib.Core.List.{List, [], ◌∷◌, ◌++◌, append_assoc, append-nil}
use mathlib.Core.Logic.{inl, inr}
use Prim.Native.Nat.{ℕ, zero, suc, ◌+◌, ◌-◌, ◌<◌, ◌≤◌}
use native.Mathlib.Omega.{arith}
use lib.Dec.{eqb, ltb}
use lib.ListN.{length, get_or, take, length-append}
use lib.Seq.{take_at, drop_at}
use borrow.Author.Tests.{ltb-true, ltb-false, eqb-true, eqb-false, lt-ltb, le-ltb}
use Rattle.lists.specs.Lists.{All}
use Rattle.lists.specs.Tests.{bit}
use Rattle.lists.proofs.Lists.{all_append}
use Rattle.lists.proofs.Counts.{bit_most}
use Rattle.geometry.specs.declared.Trapezoid.{Trapezoid}
use Rattle.connectivity.proofs.Joining.{less_than, same_or_not}
use Rattle.extraction.specs.Shapes.{having_number}
use Rattle.shapes_code.specs.Code.{groups_below, trapezoids_between}

-- ---- those with the number k
pub with_append : (k : ℕ) (ms ns : List ℕ) (ts us : List Trapezoid) → length ms ≡ length ts → having_number k (ms ++ ns) (ts ++ us) ≡ having_number k ms ts ++ having_number k ns us
unfolding having_number
with_append k [] ns [] us e = refl
with_append k [] ns (t ∷ ts) us e = absurd (omega (arith, e))
with_append k (m ∷ ms) ns [] us e = absurd (omega (arith, e))
with_append k (m ∷ ms) ns (t ∷ ts) us e = go (having_number k (ms ++ ns) (ts ++ us)) (having_number k ms ts) (eqb m k) (with_append k ms ns ts us (omega (arith, e)))
  where
    go : (v w : List Trapezoid) (b : Bool) → v ≡ w ++ having_number k ns us → cond b (t ∷ v) v ≡ cond b (t ∷ w) w ++ having_number k ns us
    go v w true h = ap (λ (x : List Trapezoid). t ∷ x) h
    go v w false h = h

with_cons : (k n : ℕ) (ns : List ℕ) (t : Trapezoid) (ts : List Trapezoid) → length (having_number k (n ∷ ns) (t ∷ ts)) ≡ bit (eqb n k) + length (having_number k ns ts)
unfolding having_number
with_cons k n ns t ts = go (eqb n k)
  where
    go : (b : Bool) → length (cond b (t ∷ having_number k ns ts) (having_number k ns ts)) ≡ bit b + length (having_number k ns ts)
    go true = omega arith
    go false = omega arith

module _ (P : Trapezoid → Type 0) where
  with_all : (k : ℕ) (ns : List ℕ) (ts : List Trapezoid) → All P ts → All P (having_number k ns ts)
  unfolding having_number
  with_all k [] ts h = tt
  with_all k (n ∷ ns) [] h = tt
  with_all k (n ∷ ns) (t ∷ ts) h = go (having_number k ns ts) (eqb n k) (with_all k ns ts h.1)
    where
      go : (w : List Trapezoid) (b : Bool) → All P w → All P (cond b (t ∷ w) w)
      go w true a = (h.0, a)
      go w false a = a

  pub below_fit : (k : ℕ) (ns : List ℕ) (ts : List Trapezoid) → All P ts → All P (groups_below k ns ts)
  unfolding groups_below
  below_fit zero ns ts h = tt
  below_fit (suc k) ns ts h = all_append P (groups_below k ns ts) (having_number k ns ts) (below_fit k ns ts h) (with_all k ns ts h)

-- ---- how many
bit_suc : (n k : ℕ) → bit (ltb n (suc k)) ≡ bit (ltb n k) + bit (eqb n k)
bit_suc n k = go (ltb n k) (eqb n k) refl refl
  where
    go : (s t : Bool) → ltb n k ≡ s → eqb n k ≡ t → bit (ltb n (suc k)) ≡ bit (ltb n k) + bit (eqb n k)
    go true true e f = let a = ltb-true n k e in let b = eqb-true n k f in omega (arith, a, b)
    go true false e f = let a = ltb-true n k e in omega (arith, ap bit (lt-ltb n (suc k) (omega (arith, a))), ap bit e, ap bit f)
    go false true e f = let b = eqb-true n k f in omega (arith, ap bit (lt-ltb n (suc k) (omega (arith, b))), ap bit e, ap bit f)
    go false false e f =
        let a = ltb-false n k e in
        let l = less_than k n (omega (arith, a)) (λ d. eqb-false n k f (sym d)) in
        omega (arith, ap bit (le-ltb n (suc k) l), ap bit e, ap bit f)

below_cons : (k n : ℕ) (ns : List ℕ) (t : Trapezoid) (ts : List Trapezoid) → length (groups_below k (n ∷ ns) (t ∷ ts)) ≡ bit (ltb n k) + length (groups_below k ns ts)
unfolding groups_below
below_cons zero n ns t ts = omega (arith, ap bit (le-ltb n 0 (omega arith)))
below_cons (suc k) n ns t ts =
    omega
    (arith, length-append (groups_below k (n ∷ ns) (t ∷ ts)) (having_number k (n ∷ ns) (t ∷ ts)), length-append (groups_below k ns ts) (having_number k ns ts), with_cons k n ns t ts, bit_suc n k, below_cons k n ns t ts)

below_none : (k : ℕ) (ts : List Trapezoid) → length (groups_below k [] ts) ≡ 0
unfolding groups_below having_number
below_none zero ts = refl
below_none (suc k) ts = ap length (append-nil (groups_below k [] ts)) ∙ below_none k ts

pub below_most : (k : ℕ) (ns : List ℕ) (ts : List Trapezoid) → length ns ≡ length ts → length (groups_below k ns ts) ≤ length ns
below_most k [] ts e = omega (arith, below_none k ts)
below_most k (n ∷ ns) [] e = absurd (omega (arith, e))
below_most k (n ∷ ns) (t ∷ ts) e = omega (arith, below_cons k n ns t ts, bit_most (ltb n k), below_most k ns ts (omega (arith, e)))

pub below_all : (k : ℕ) (ns : List ℕ) (ts : List Trapezoid) → length ns ≡ length ts → ((i : ℕ) → i < length ns → get_or ns i 0 < k) → length (groups_below k ns ts) ≡ length ns
below_all k [] ts e h = below_none k ts
below_all k (n ∷ ns) [] e h = absurd (omega (arith, e))
below_all k (n ∷ ns) (t ∷ ts) e h =
    omega (arith, below_cons k n ns t ts, ap bit (lt-ltb n k (h 0 (omega arith))), below_all k ns ts (omega (arith, e)) (λ i l. h (suc i) (omega (arith, l))))

-- ---- where
-- those with numbers below n begin with those with numbers below k
below_part : (ns : List ℕ) (ts : List Trapezoid) (k n : ℕ) → k ≤ n → (rest : List Trapezoid) × (groups_below n ns ts ≡ groups_below k ns ts ++ rest)
unfolding groups_below
below_part ns ts k zero l = let e : 0 ≡ k = omega (arith, l) in ([], ap (λ (m : ℕ). groups_below m ns ts) e ∙ sym (append-nil (groups_below k ns ts)))
below_part ns ts k (suc n) l =
    elim (same_or_not k (suc n)) [
      | inl e ↦ ([], ap (λ (m : ℕ). groups_below m ns ts) (sym e) ∙ sym (append-nil (groups_below k ns ts)))
      | inr d ↦ (
          let m = less_than k (suc n) (omega (arith, l)) d in
          let r = below_part ns ts k n (omega (arith, m)) in
          (r.0 ++ having_number n ns ts, ap (λ (x : List Trapezoid). x ++ having_number n ns ts) r.1 ∙ append_assoc (groups_below k ns ts) r.0 (having_number n ns ts))
          )
    ]

part_second : (xs ys zs : List Trapezoid) → trapezoids_between (length xs) (length (xs ++ ys)) ((xs ++ ys) ++ zs) ≡ ys
part_second xs ys zs =
    let l : length ys ≡ length (xs ++ ys) - length xs = omega (arith, length-append xs ys) in
    ap (take (length (xs ++ ys) - length xs)) (rw (append_assoc xs ys zs) (drop_at xs (ys ++ zs) (length xs) refl)) ∙ take_at ys zs (length (xs ++ ys) - length xs) l

-- those with the number k stand past those with lower ones
pub below_at : (ns : List ℕ) (ts : List Trapezoid) (k n : ℕ) → k < n → trapezoids_between (length (groups_below k ns ts)) (length (groups_below (suc k) ns ts)) (groups_below n ns ts) ≡ having_number k ns ts
unfolding groups_below
below_at ns ts k n l =
    let r = below_part ns ts (suc k) n l in
    ap (trapezoids_between (length (groups_below k ns ts)) (length (groups_below (suc k) ns ts))) r.1 ∙ part_second (groups_below k ns ts) (having_number k ns ts) r.0

pub below_rises : (k : ℕ) (ns : List ℕ) (ts : List Trapezoid) → length (groups_below k ns ts) ≤ length (groups_below (suc k) ns ts)
unfolding groups_below
below_rises k ns ts = omega (arith, length-append (groups_below k ns ts) (having_number k ns ts))
