-- Numbers joined by a test of two numbers are those of the components of its relation.
use mathlib.Core.Path.{◌≡◌, refl, sym, ◌∙◌, ap, subst}
use mathlib.Core.Bool.{Bool, true, false, cond}
use mathlib.Core.List.{List, [], ◌∷◌}
use mathlib.Core.Logic.{◌⊎◌, inl, inr, ◌↔◌}
use Prim.Native.Nat.{ℕ, zero, suc, ◌<◌, ◌≤◌, max, min}
use native.Mathlib.Omega.{arith}
use lib.Dec.{T, T_not, eqb, ltb, eqb→eq, eqb_refl, ltb→lt, nltb→le}
use lib.ListN.{length, length-append, get_or-append}
use lib.Seq.{get_or_at}
use Rattle.lists.proofs.Tests.{yes_or_no, cond_cases}
use Rattle.connectivity.specs.Paths.{Reachable}
use Rattle.connectivity.specs.Components.{number_at, own_numbers, relabelled, joined_numbers, joined_if, joined_first, joined_all}
use Rattle.connectivity.proofs.Paths.{chain_here, chain_one, chain_on, chain_back, chain_same, chain_keeps}

-- ---- each its own
pub length_own : (n : ℕ) → length (own_numbers n) ≡ n
unfolding own_numbers
length_own zero = refl
length_own (suc n) = let e = length-append (own_numbers n) (n ∷ []) in omega (arith, e, length_own n)

pub less_than : (i n : ℕ) → i < suc n → (i ≡ n → ⊥) → i < n
less_than i n h d = elim (yes_or_no (ltb i n)) [ inl k ↦ ltb→lt i n k | inr k ↦ (let l = nltb→le i n k in let e : i ≡ n = omega arith in absurd (d e)) ]

pub same_or_not : (i n : ℕ) → (i ≡ n) ⊎ (i ≡ n → ⊥)
same_or_not i n = elim (yes_or_no (eqb i n)) [ inl y ↦ inl (eqb→eq i n y) | inr y ↦ inr (λ e. T_not (eqb i n) y (subst (λ (m : ℕ). T (eqb i m)) e (eqb_refl i))) ]

pub own_at : (n i : ℕ) → i < n → number_at (own_numbers n) i ≡ i
unfolding own_numbers
own_at zero i h = absurd (omega arith)
own_at (suc n) i h =
    elim (same_or_not i n) [
      | inl e ↦ get_or_at (own_numbers n) n [] 0 i (length_own n ∙ sym e) ∙ sym e
      | inr d ↦ (let k = less_than i n h d in get_or-append (own_numbers n) (n ∷ []) 0 i (omega (arith, length_own n)) ∙ own_at n i k)
    ]

-- ---- relabelled
-- what becomes of a number where a and b become one
abbrev pub merged : ℕ → ℕ → ℕ → ℕ
merged a b x = cond (eqb x (max a b)) (min a b) x

merged_cases : (P : ℕ → Type 0) (a b x : ℕ) → (x ≡ max a b → P (min a b)) → ((x ≡ max a b → ⊥) → P x) → P (merged a b x)
merged_cases P a b x f g =
    cond_cases P (eqb x (max a b)) (min a b) x (λ y. f (eqb→eq x (max a b) y)) (λ y. g (λ e. T_not (eqb x (max a b)) y (subst (λ (m : ℕ). T (eqb x m)) e (eqb_refl x))))

merged_first : (a b : ℕ) → merged a b a ≡ min a b
merged_first a b = merged_cases (λ (y : ℕ). y ≡ min a b) a b a (λ e. refl) (λ d. elim (yes_or_no (ltb a b)) [ inl k ↦ (let l = ltb→lt a b k in omega arith) | inr k ↦ (let l = nltb→le a b k in let e : a ≡ max a b = omega arith in absurd (d e)) ])

merged_second : (a b : ℕ) → merged a b b ≡ min a b
merged_second a b = merged_cases (λ (y : ℕ). y ≡ min a b) a b b (λ e. refl) (λ d. elim (yes_or_no (ltb b a)) [ inl k ↦ (let l = ltb→lt b a k in omega arith) | inr k ↦ (let l = nltb→le b a k in let e : b ≡ max a b = omega arith in absurd (d e)) ])

merged_most : (a b x : ℕ) → merged a b x ≤ x
merged_most a b x = merged_cases (λ (y : ℕ). y ≤ x) a b x (λ e. omega (arith, e)) (λ d. omega arith)

length-relabelled : (from to : ℕ) (ns : List ℕ) → length (relabelled from to ns) ≡ length ns
unfolding relabelled
length-relabelled from to [] = refl
length-relabelled from to (n ∷ ns) = ap suc (length-relabelled from to ns)

relabelled-at : (from to : ℕ) (ns : List ℕ) (i : ℕ) → i < length ns → number_at (relabelled from to ns) i ≡ cond (eqb (number_at ns i) from) to (number_at ns i)
unfolding relabelled
relabelled-at from to [] i h = absurd (omega arith)
relabelled-at from to (n ∷ ns) zero h = refl
relabelled-at from to (n ∷ ns) (suc i) h = relabelled-at from to ns i (omega arith)

pub length-joined : (i j : ℕ) (ns : List ℕ) → length (joined_numbers i j ns) ≡ length ns
unfolding joined_numbers
length-joined i j ns = length-relabelled _ _ ns

joined_at : (i j : ℕ) (ns : List ℕ) (k : ℕ) → k < length ns → number_at (joined_numbers i j ns) k ≡ merged (number_at ns i) (number_at ns j) (number_at ns k)
unfolding joined_numbers
joined_at i j ns k h = relabelled-at (max (number_at ns i) (number_at ns j)) (min (number_at ns i) (number_at ns j)) ns k h

-- ---- numbers of a relation
-- one for each of n; each leads to its number, which is no greater
pub record Numbered (R : ℕ → ℕ → Type 0) (n : ℕ) (ns : List ℕ) : Type 0 where
  pub long : length ns ≡ n
  pub reach : (i : ℕ) → i < n → Reachable R i (number_at ns i)
  pub low : (i : ℕ) → i < n → number_at ns i ≤ i

pub own_numbered : (R : ℕ → ℕ → Type 0) (n : ℕ) → Numbered R n (own_numbers n)
own_numbered R n =
    record {
      long = length_own n;
      reach = λ i h. subst (Reachable R i) (sym (own_at n i h)) (chain_here R i);
      low = λ i h. omega (arith, own_at n i h);
    }

-- equal numbers stay equal
abbrev pub Keeps : ℕ → List ℕ → List ℕ → Type 0
Keeps n ns ms = (k l : ℕ) → k < n → l < n → number_at ns k ≡ number_at ns l → number_at ms k ≡ number_at ms l

module _ (R : ℕ → ℕ → Type 0) (n : ℕ) (turn : (i j : ℕ) → R i j → R j i) where
  module _ (ns : List ℕ) (h : Numbered R n ns) (i j : ℕ) (hi : i < n) (hj : j < n) where
    -- where a path leads from the one number to the other
    between : Reachable R i j → Reachable R (max (number_at ns i) (number_at ns j)) (min (number_at ns i) (number_at ns j))
    between c =
        let a = number_at ns i in
        let b = number_at ns j in
        let d = chain_on (chain_back turn (h.reach i hi)) (chain_on c (h.reach j hj)) in
        elim (yes_or_no (ltb a b)) [
          | inl k ↦ (let l = ltb→lt a b k in let e : b ≡ max a b = omega arith in let f : a ≡ min a b = omega arith in subst (λ (x : ℕ). Reachable R x (min a b)) e (subst (Reachable R b) f (chain_back turn d)))
          | inr k ↦ (let l = nltb→le a b k in let e : a ≡ max a b = omega arith in let f : b ≡ min a b = omega arith in subst (λ (x : ℕ). Reachable R x (min a b)) e (subst (Reachable R a) f d))
        ]

    pub join_numbered : R i j → Numbered R n (joined_numbers i j ns)
    join_numbered r =
        let a = number_at ns i in
        let b = number_at ns j in
        record {
          long = length-joined i j ns ∙ h.long;
          reach = λ k l. subst (Reachable R k) (sym (joined_at i j ns k (omega (arith, h.long)))) (merged_cases (Reachable R k) a b (number_at ns k) (λ e. chain_on (subst (Reachable R k) e (h.reach k l)) (between (chain_one R i j r))) (λ d. h.reach k l));
          low = λ k l. omega (arith, joined_at i j ns k (omega (arith, h.long)), merged_most a b (number_at ns k), h.low k l);
        }

    pub join_keeps : Keeps n ns (joined_numbers i j ns)
    join_keeps k l hk hl e = joined_at i j ns k (omega (arith, h.long)) ∙ ap (merged (number_at ns i) (number_at ns j)) e ∙ sym (joined_at i j ns l (omega (arith, h.long)))

    pub join_joins : number_at (joined_numbers i j ns) i ≡ number_at (joined_numbers i j ns) j
    join_joins =
        let a = number_at ns i in
        let b = number_at ns j in
        joined_at i j ns i (omega (arith, h.long)) ∙ merged_first a b ∙ sym (joined_at i j ns j (omega (arith, h.long)) ∙ merged_second a b)

  -- ---- by a test
  module _ (test : ℕ → ℕ → Bool) (yes : (i j : ℕ) → j < i → i < n → T (test i j) → R i j) where
    pub record First (i j : ℕ) (ns ms : List ℕ) : Type 0 where
      pub numbered : Numbered R n ms
      pub keeps : Keeps n ns ms
      pub same : (k : ℕ) → k < j → T (test i k) → number_at ms i ≡ number_at ms k

    first_step : (i j : ℕ) (ns ms : List ℕ) → j < i → i < n → First i j ns ms → (b : Bool) → test i j ≡ b → First i (suc j) ns (joined_if b i j ms)
    first_step i j ns ms l m h true e =
        let r = yes i j l m (subst T (sym e) tt) in
        record {
          numbered = join_numbered ms h.numbered i j m (omega arith) r;
          keeps = λ k o hk ho f. join_keeps ms h.numbered i j m (omega arith) k o hk ho (h.keeps k o hk ho f);
          same = λ k o t.
              elim (same_or_not k j) [
                | inl f ↦ subst (λ (x : ℕ). number_at (joined_numbers i j ms) i ≡ number_at (joined_numbers i j ms) x) (sym f) (join_joins ms h.numbered i j m (omega arith))
                | inr d ↦ join_keeps ms h.numbered i j m (omega arith) i k m (omega arith) (h.same k (less_than k j o d) t)
              ];
        }
    first_step i j ns ms l m h false e =
        record {
          numbered = h.numbered;
          keeps = h.keeps;
          same = λ k o t. elim (same_or_not k j) [ inl f ↦ absurd (subst T (ap (test i) f ∙ e) t) | inr d ↦ h.same k (less_than k j o d) t ];
        }

    pub first : (i j : ℕ) (ns : List ℕ) → j ≤ i → i < n → Numbered R n ns → First i j ns (joined_first test i j ns)
    unfolding joined_first
    first i zero ns l m h = record { numbered = h; keeps = λ k o hk ho e. e; same = λ k o t. absurd (omega arith) }
    first i (suc j) ns l m h = first_step i j ns (joined_first test i j ns) (omega arith) m (first i j ns (omega arith) m h) (test i j) refl

    pub record Until (i : ℕ) (ms : List ℕ) : Type 0 where
      pub numbered : Numbered R n ms
      pub same : (k l : ℕ) → l < k → k < i → T (test k l) → number_at ms k ≡ number_at ms l

    pub until : (i : ℕ) (ns : List ℕ) → i ≤ n → Numbered R n ns → Until i (joined_all test i ns)
    unfolding joined_all
    until zero ns h k = record { numbered = k; same = λ k l a b t. absurd (omega arith) }
    until (suc i) ns h k =
        let u = until i ns (omega arith) k in
        let f = first i i (joined_all test i ns) (omega arith) (omega arith) u.numbered in
        record {
          numbered = f.numbered;
          same = λ k l a b t.
              elim (same_or_not k i) [
                | inl e ↦ subst (λ (x : ℕ). number_at (joined_first test i i (joined_all test i ns)) x ≡ number_at (joined_first test i i (joined_all test i ns)) l) (sym e) (f.same l (omega (arith, e)) (subst (λ (x : ℕ). T (test x l)) e t))
                | inr d ↦ f.keeps k l (omega arith) (omega arith) (u.same k l a (less_than k i b d) t)
              ];
        }

    -- ---- all joined: the numbers are those of the paths, and the lowest of them
    pub record Components (ms : List ℕ) : Type 0 where
      pub numbered : Numbered R n ms
      pub exact : (i j : ℕ) → i < n → j < n → (number_at ms i ≡ number_at ms j) ↔ Reachable R i j
      pub lowest : (i j : ℕ) → i < n → Reachable R i j → number_at ms i ≤ j

    module _ (within : (i j : ℕ) → R i j → (i < n) × (j < n)) (no : (i j : ℕ) → j < i → R i j → T (test i j)) where
      done : Until n (joined_all test n (own_numbers n))
      done = until n (own_numbers n) (omega arith) (own_numbered R n)

      abbrev number : ℕ → ℕ
      number i = number_at (joined_all test n (own_numbers n)) i

      related_same : (i j : ℕ) → R i j → number i ≡ number j
      related_same i j r =
          elim (same_or_not i j) [
            | inl e ↦ ap number e
            | inr d ↦ elim (yes_or_no (ltb j i)) [
              | inl k ↦ (let l = ltb→lt j i k in done.same i j l (within i j r).0 (no i j l r))
              | inr k ↦ (let l = nltb→le j i k in let m : i < j = less_than i j (omega arith) d in sym (done.same j i m (within i j r).1 (no j i m (turn i j r))))
            ]
          ]

      pub components : Components (joined_all test n (own_numbers n))
      components =
          record {
            numbered = done.numbered;
            exact = λ i j hi hj. (
              (λ e. chain_on (done.numbered.reach i hi) (subst (λ (x : ℕ). Reachable R x j) (sym e) (chain_back turn (done.numbered.reach j hj)))),
              (λ c. chain_same number related_same c),
            );
            lowest = λ i j hi c. (
                let hj = chain_keeps (λ (k : ℕ). k < n) (λ k l r. (within k l r).1) c hi in
                let e = chain_same number related_same c in
                omega (arith, e, done.numbered.low j hj)
                );
          }
