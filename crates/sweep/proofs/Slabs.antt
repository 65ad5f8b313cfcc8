-- How many slabs of a list of groups hold a point, if the groups at or below it are a first part of the list.
use mathlib.Core.Path.{◌≡◌, refl, ◌∙◌, ap}
use mathlib.Core.Bool.{Bool, true, false, not}
use mathlib.Core.List.{List, [], ◌∷◌}
use mathlib.Core.Option.{Option, none, some}
use mathlib.Core.Logic.{inl, inr}
use Prim.Native.Nat.{ℕ, zero, suc}
use native.Mathlib.Nat.{zero-add}
use lib.Dec.{T}
use lib.IntN.{ℤ, pos, negsuc}
use Rattle.lists.specs.Lists.{All, Pairs}
use Rattle.lists.specs.Tests.{always, bit, count_if}
use Rattle.lists.proofs.Tests.{true_is, false_is, yes_or_no, cond_cases, cond_no}
use Rattle.sweep.specs.Columns.{is_zero, Slab, holds, slabs}
use Rattle.sweep.proofs.Prefix.{Prefix, value}

pub zero_is : (z : ℤ) → T (is_zero z) → z ≡ pos 0
zero_is (pos zero) h = refl
zero_is (pos (suc n)) h = absurd h
zero_is (negsuc n) h = absurd h

-- 1 where the number is not zero
abbrev one_if_nonzero : ℤ → ℕ
one_if_nonzero z = bit (not (is_zero z))

-- to prove something of the slabs of g and the rest: the sum is zero up to g, or is not
module _ {A : Type 0} (W : A → ℤ) (R : List (Slab A) → Type 0) (g : A) (gs : List A) where
  outside_cases : (W g ≡ pos 0 → R (slabs W none gs)) → (T (not (is_zero (W g))) → R (slabs W (some g) gs)) → R (slabs W none (g ∷ gs))
  unfolding slabs
  outside_cases stays leaves = cond_cases R (is_zero (W g)) (slabs W none gs) (slabs W (some g) gs) (λ z. stays (zero_is (W g) z)) leaves

  inside_cases : (b : A) → (W g ≡ pos 0 → R (record { bottom = b; top = g } ∷ slabs W none gs)) → (T (not (is_zero (W g))) → R (slabs W (some b) gs)) → R (slabs W (some b) (g ∷ gs))
  unfolding slabs
  inside_cases b returns stays = cond_cases R (is_zero (W g)) (record { bottom = b; top = g } ∷ slabs W none gs) (slabs W (some b) gs) (λ z. returns (zero_is (W g) z)) stays

module _ {A : Type 0} (W : A → ℤ) (f : A → Bool) where
  value_none : (z : ℤ) (gs : List A) → All (λ (g : A). T (not (f g))) gs → value f W z gs ≡ z
  value_none z [] a = refl
  value_none z (g ∷ gs) a = cond_no (f g) (value f W (W g) gs) z a.0

  abbrev holding : List (Slab A) → ℕ
  holding ss = count_if (holds f) ss

  abbrev Outside : Option A → Type 0
  Outside none = Unit {0}
  Outside (some b) = T (not (f b))

  -- no slab holds the point if no group is at or below it
  slabs_none : (o : Option A) (gs : List A) → Outside o → All (λ (g : A). T (not (f g))) gs → holding (slabs W o gs) ≡ 0
  unfolding count_if slabs
  slabs_none none [] d a = refl
  slabs_none (some b) [] d a = refl
  slabs_none none (g ∷ gs) d a = let h = slabs_none none gs tt a.1 in let k = slabs_none (some g) gs a.0 a.1 in outside_cases W (λ (ss : List (Slab A)). holding ss ≡ 0) g gs (λ z. h) (λ z. k)
  slabs_none (some b) (g ∷ gs) d a =
      let h = slabs_none none gs tt a.1 in
      let k = slabs_none (some b) gs d a.1 in
      let e : f b ≡ false = false_is d in
      inside_cases W (λ (ss : List (Slab A)). holding ss ≡ 0) g gs b (λ z. rw (e, h)) (λ z. k)

  -- before the rest: outside a slab the sum is zero, inside it is not
  abbrev State : Option A → ℤ → Type 0
  State none z = z ≡ pos 0
  State (some b) z = T (f b) × T (not (is_zero z))

  pub slabs_count : (gs : List A) (o : Option A) (z : ℤ) → State o z → Prefix f gs → value always W z gs ≡ pos 0 → holding (slabs W o gs) ≡ one_if_nonzero (value f W z gs)
  unfolding count_if slabs
  slabs_count [] none z s p e = rw s
  slabs_count [] (some b) z s p e = absurd (rw e at s.1)
  slabs_count (g ∷ gs) none z s p e =
      let h : W g ≡ pos 0 → holding (slabs W none gs) ≡ one_if_nonzero (value f W (W g) gs) = λ k. slabs_count gs none (W g) k p.1 e in
      let k : T (f g) → T (not (is_zero (W g))) → holding (slabs W (some g) gs) ≡ one_if_nonzero (value f W (W g) gs) = λ b n. slabs_count gs (some g) (W g) (b, n) p.1 e in
      elim (yes_or_no (f g)) [
        | inl b ↦ (let i : f g ≡ true = true_is b in rw i (outside_cases W (λ (ss : List (Slab A)). holding ss ≡ one_if_nonzero (value f W (W g) gs)) g gs h (k b)))
        | inr b ↦ (
            let i : f g ≡ false = false_is b in
            rw (i, s) (outside_cases W (λ (ss : List (Slab A)). holding ss ≡ 0) g gs (λ y. slabs_none none gs tt (p.0 b)) (λ y. slabs_none (some g) gs b (p.0 b)))
            )
      ]
  slabs_count (g ∷ gs) (some c) z s p e =
      let h : W g ≡ pos 0 → holding (slabs W none gs) ≡ one_if_nonzero (value f W (W g) gs) = λ k. slabs_count gs none (W g) k p.1 e in
      let k : T (not (is_zero (W g))) → holding (slabs W (some c) gs) ≡ one_if_nonzero (value f W (W g) gs) = λ n. slabs_count gs (some c) (W g) (s.0, n) p.1 e in
      let j : f c ≡ true = true_is s.0 in
      elim (yes_or_no (f g)) [
        | inl b ↦ (
            let i : f g ≡ true = true_is b in
            rw i (inside_cases W (λ (ss : List (Slab A)). holding ss ≡ one_if_nonzero (value f W (W g) gs)) g gs c (λ y. rw (j, i) (zero-add (holding (slabs W none gs)) ∙ h y)) k)
            )
        | inr b ↦ (
            let i : f g ≡ false = false_is b in
            let u : is_zero z ≡ false = false_is s.1 in
            rw (i, u) (inside_cases W (λ (ss : List (Slab A)). holding ss ≡ 1) g gs c
            (λ y. rw (j, i, slabs_none none gs tt (p.0 b)))
            (λ y. let v : is_zero (W g) ≡ false = false_is y in k y ∙ ap one_if_nonzero (value_none (W g) gs (p.0 b)) ∙ ap (λ (t : Bool). bit (not t)) v))
            )
      ]

-- ---- what holds of each two groups holds of each slab
module _ {A : Type 0} (W : A → ℤ) (R : A → A → Type 0) where
  abbrev Slabs : List (Slab A) → Type 0
  Slabs ss = All (λ (s : Slab A). R s.bottom s.top) ss

  abbrev Opened : Option A → List A → Type 0
  Opened none gs = Unit {0}
  Opened (some b) gs = All (R b) gs

  pub slabs_all : (o : Option A) (gs : List A) → Opened o gs → Pairs R gs → Slabs (slabs W o gs)
  unfolding slabs
  slabs_all none [] a r = tt
  slabs_all (some b) [] a r = tt
  slabs_all none (g ∷ gs) a r = let h = slabs_all none gs tt r.1 in let k = slabs_all (some g) gs r.0 r.1 in outside_cases W Slabs g gs (λ z. h) (λ z. k)
  slabs_all (some b) (g ∷ gs) a r = let h = slabs_all none gs tt r.1 in let k = slabs_all (some b) gs a.1 r.1 in inside_cases W Slabs g gs b (λ z. (a.0, h)) (λ z. k)
