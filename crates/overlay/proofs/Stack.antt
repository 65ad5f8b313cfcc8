-- The parts of a column: what holds of them, and how many hold a point, if the groups at or below it are a first part.
use mathlib.Core.Path.{◌≡◌, refl, ◌∙◌, ap}
use mathlib.Core.Bool.{Bool, true, false, not, ◌&&◌}
use mathlib.Core.List.{List, [], ◌∷◌}
use mathlib.Core.Logic.{inl, inr}
use Prim.Native.Nat.{ℕ, suc, ◌≤◌, pred, zero-le}
use native.Mathlib.Nat.{zero-add, add-zero}
use native.Mathlib.Omega.{arith}
use lib.Dec.{T, eqb, eqb→eq}
use lib.ListN.{length}
use Rattle.lists.specs.Lists.{All, Neighbours}
use Rattle.lists.specs.Tests.{always, bit, count_if}
use Rattle.lists.proofs.Tests.{true_is, false_is, yes_or_no, cond_cases}
use Rattle.lists.proofs.Neighbours.{neighbours_map, neighbours_of}
use Rattle.lists.proofs.Counts.{count_none}
use Rattle.geometry.specs.declared.Base.{Base}
use Rattle.geometry.specs.declared.Trapezoid.{Trapezoid}
use Rattle.geometry.specs.Positions.{position}
use Rattle.sweep.specs.Segments.{Segment}
use Rattle.sweep.proofs.Prefix.{Prefix, value}
use Rattle.levels.specs.Levels.{levels}
use Rattle.sweep.specs.Columns.{lower}
use Rattle.overlay.specs.Overlay.{Part, segment_line, tag_above, part, stack, parts}

-- the parts between the groups of the sides that divide a column. (Said once, so that parts of other groups are told apart at once.)
pub parts_stack : (A B : Trapezoid) (p q : Base) (ss : List Segment) → parts A B p q ss ≡ stack A B p q (levels (lower segment_line (position p)) ss)
unfolding parts
parts_stack A B p q ss = refl

module _ (A B : Trapezoid) (p q : Base) where
  -- to prove something of the parts: what is above the lowest group is dropped, or is the first part
  pub stack_cases : (R : List Part → Type 0) (g h : Segment) (gs : List Segment)
      → (tag_above A B (position p) g ≡ 0 → R (stack A B p q (h ∷ gs)))
      → (T (not (eqb (tag_above A B (position p) g) 0)) → R (part A B p q g h ∷ stack A B p q (h ∷ gs)))
      → R (stack A B p q (g ∷ h ∷ gs))
  unfolding stack
  stack_cases R g h gs dropped first =
      cond_cases R (eqb (tag_above A B (position p) g) 0) (stack A B p q (h ∷ gs)) (part A B p q g h ∷ stack A B p q (h ∷ gs)) (λ z. dropped (eqb→eq (tag_above A B (position p) g) 0 z)) first

  -- what holds between each two neighbouring groups holds of each part
  pub stack_all : (R : Part → Type 0) (gs : List Segment) → Neighbours (λ (g h : Segment). R (part A B p q g h)) gs → All R (stack A B p q gs)
  unfolding stack
  stack_all R [] n = tt
  stack_all R (g ∷ []) n = tt
  stack_all R (g ∷ h ∷ gs) n = let k = stack_all R (h ∷ gs) n.1 in stack_cases (All R) g h gs (λ z. k) (λ z. (n.0, k))

  -- none has the tag 0
  pub stack_tags : (gs : List Segment) → All (λ (s : Part). T (not (eqb s.tag 0))) (stack A B p q gs)
  unfolding stack
  stack_tags [] = tt
  stack_tags (g ∷ []) = tt
  stack_tags (g ∷ h ∷ gs) = let k = stack_tags (h ∷ gs) in stack_cases (All (λ (s : Part). T (not (eqb s.tag 0)))) g h gs (λ z. k) (λ z. (z, k))

  -- they are fewer than the groups
  pub stack_length : (gs : List Segment) → length (stack A B p q gs) ≤ pred (length gs)
  unfolding stack
  stack_length [] = zero-le
  stack_length (g ∷ []) = zero-le
  stack_length (g ∷ h ∷ gs) = let k = stack_length (h ∷ gs) in stack_cases (λ (ss : List Part). length ss ≤ suc (length gs)) g h gs (λ z. omega arith) (λ z. omega arith)

  -- ---- f says which groups are at or below the point, t which tags are asked for
  module _ (f : Segment → Bool) (t : ℕ → Bool) (t0 : t 0 ≡ false) (hit : Part → Bool) (reads : (g h : Segment) → hit (part A B p q g h) ≡ f g && not (f h) && t (tag_above A B (position p) g)) where
    abbrev W : Segment → ℕ
    W = tag_above A B (position p)

    stack_none : (gs : List Segment) → All (λ (g : Segment). T (not (f g))) gs → count_if hit (stack A B p q gs) ≡ 0
    stack_none gs a = count_none hit (stack A B p q gs) (stack_all (λ (s : Part). hit s ≡ false) gs (neighbours_map miss gs (neighbours_of (λ (g : Segment). T (not (f g))) gs a)))
      where
        miss : (g h : Segment) → T (not (f g)) × T (not (f h)) → hit (part A B p q g h) ≡ false
        miss g h n = let e : f g ≡ false = false_is n.0 in reads g h ∙ ap (λ (u : Bool). u && not (f h) && t (W g)) e

    -- the one part that holds the point has its tag
    pub stack_count : (gs : List Segment) → Prefix f gs → value always W 0 gs ≡ 0 → count_if hit (stack A B p q gs) ≡ bit (t (value f W 0 gs))
    unfolding count_if
    stack_count [] k e = stack_none [] tt ∙ rw t0
    stack_count (g ∷ []) k e =
        elim (yes_or_no (f g)) [
          | inl b ↦ (let i : f g ≡ true = true_is b in empty ∙ rw (i, e, t0))
          | inr b ↦ (let i : f g ≡ false = false_is b in empty ∙ rw (i, t0))
        ]
      where
        empty : count_if hit (stack A B p q (g ∷ [])) ≡ 0
        empty = unfold stack in refl
    stack_count (g ∷ h ∷ gs) k e =
        let ih = stack_count (h ∷ gs) k.1 e in
        elim (yes_or_no (f g)) [
          | inr b ↦ (let i : f g ≡ false = false_is b in stack_none (g ∷ h ∷ gs) (b, k.0 b) ∙ rw (i, t0))
          | inl b ↦ elim (yes_or_no (f h)) [
            | inl c ↦ (
                let i : f g ≡ true = true_is b in
                let j : f h ≡ true = true_is c in
                let ih' = rw j at ih in
                stack_cases (λ (ss : List Part). count_if hit ss ≡ bit (t (value f W 0 (g ∷ h ∷ gs)))) g h gs
                (λ z. rw (i, j) ih')
                (λ z. rw (reads g h, i, j) (zero-add (count_if hit (stack A B p q (h ∷ gs))) ∙ ih'))
                )
            | inr c ↦ (
                let i : f g ≡ true = true_is b in
                let j : f h ≡ false = false_is c in
                let n = stack_none (h ∷ gs) (c, k.1.0 c) in
                stack_cases (λ (ss : List Part). count_if hit ss ≡ bit (t (value f W 0 (g ∷ h ∷ gs)))) g h gs (λ z. rw (i, j, z, t0) n) (λ z. rw (reads g h, i, j, n) (add-zero (bit (t (W g)))))
                )
          ]
        ]
