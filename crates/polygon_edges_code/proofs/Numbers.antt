-- Edges by number, listed.
use mathlib.Core.Path.{◌≡◌, refl, ◌∙◌, ap, ap₂}
use mathlib.Core.List.{List, [], ◌∷◌, ◌++◌}
use Prim.Native.Nat.{ℕ, zero, suc, ◌+◌, ◌-◌, ◌<◌, ◌≤◌}
use native.Mathlib.Omega.{arith}
use lib.ListN.{length}
use Rattle.fracture.specs.Polygons.{Edge}
use Rattle.polygon_edges_code.specs.Edges.{numbered, edges_from_number}

pub numbered-length : (edge : ℕ → Edge) (m i : ℕ) → length (numbered edge m i) ≡ m
unfolding numbered
numbered-length edge zero i = refl
numbered-length edge (suc m) i = ap suc (numbered-length edge m (i + 1))

pub numbered_same : (edge edge' : ℕ → Edge) (m i : ℕ) → ((k : ℕ) → k < i + m → edge k ≡ edge' k) → numbered edge m i ≡ numbered edge' m i
unfolding numbered
numbered_same edge edge' zero i h = refl
numbered_same edge edge' (suc m) i h = ap₂ (λ (e : Edge) (es : List Edge). e ∷ es) (h i (omega arith)) (numbered_same edge edge' m (i + 1) (λ k l. h k (omega arith)))

numbered_last : (edge : ℕ → Edge) (m i : ℕ) → numbered edge (suc m) i ≡ numbered edge m i ++ (edge (i + m) ∷ [])
unfolding numbered
numbered_last edge zero i = let e : i ≡ i + zero = omega arith in ap (λ (k : ℕ). edge k ∷ []) e
numbered_last edge (suc m) i =
    let e : i + 1 + m ≡ i + suc m = omega arith in
    ap (λ (es : List Edge). edge i ∷ es) (numbered_last edge m (i + 1) ∙ ap (λ (k : ℕ). numbered edge m (i + 1) ++ (edge k ∷ [])) e)

-- number n after the first n
pub numbered_more : (edge : ℕ → Edge) (n : ℕ) → edges_from_number edge (n + 1) 0 ≡ edges_from_number edge n 0 ++ (edge n ∷ [])
numbered_more edge n =
    let d : n + 1 - 0 ≡ suc n = omega arith in
    let e : n - 0 ≡ n = omega arith in
    let f : 0 + n ≡ n = omega arith in
    rw (d, e) (numbered_last edge n 0 ∙ ap (λ (k : ℕ). numbered edge n 0 ++ (edge k ∷ [])) f)

module _ (edge : ℕ → Edge) (n : ℕ) where
  pub from_length : (i : ℕ) → length (edges_from_number edge n i) ≡ n - i
  from_length i = numbered-length edge (n - i) i

  pub from_next : (i : ℕ) → i < n → edges_from_number edge n i ≡ edge i ∷ edges_from_number edge n (i + 1)
  unfolding numbered
  from_next i l = let e : n - i ≡ suc (n - (i + 1)) = omega arith in ap (λ (m : ℕ). numbered edge m i) e

  pub from_last : (i : ℕ) → n ≤ i → edges_from_number edge n i ≡ []
  unfolding numbered
  from_last i l = let e : n - i ≡ zero = omega arith in ap (λ (m : ℕ). numbered edge m i) e
