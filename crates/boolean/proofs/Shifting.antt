-- k trapezoids more in the result so far are as much as room for k fewer.
use mathlib.Core.Path.{◌≡◌, refl, sym, ◌∙◌, ap}
use mathlib.Core.Bool.{Bool, true, false}
use mathlib.Core.List.{List, [], ◌∷◌, ◌++◌, map}
use Prim.Native.Nat.{ℕ, ◌+◌}
use native.Mathlib.Omega.{arith}
use lib.Dec.{ltb}
use lib.ListN.{length}
use borrow.Author.Tests.{lt-ltb, le-ltb, ltb-true, ltb-false}
use Rattle.geometry.specs.declared.Trapezoid.{Trapezoid}
use Rattle.overlay.specs.Overlay.{overlay, tagged}
use Rattle.boolean.specs.Operations.{minus, minus_all}
use Rattle.boolean.specs.Space.{Stage, overlaid, addition, size_of, overlays_of, space, minus_stages, minus_all_stages, one_stages, common_stages}

-- the size is k more
abbrev raise : ℕ → Stage → Stage
raise k (overlaid n) = overlaid (k + n)
raise k (addition n) = addition (k + n)

raise_size : (k : ℕ) (m : Stage) → size_of (raise k m) ≡ k + size_of m
raise_size k (overlaid n) = refl
raise_size k (addition n) = refl

raise_overlays : (k : ℕ) (m : Stage) → overlays_of (raise k m) ≡ overlays_of m
raise_overlays k (overlaid n) = refl
raise_overlays k (addition n) = refl

test_shift : (room k free x : ℕ) → k + free ≡ room → ltb room (k + x) ≡ ltb free x
test_shift room k free x l = go (ltb free x) refl
  where
    go : (t : Bool) → ltb free x ≡ t → ltb room (k + x) ≡ t
    go true e = let u = ltb-true free x e in lt-ltb room (k + x) (omega (arith, u, l))
    go false e = let u = ltb-false free x e in le-ltb room (k + x) (omega (arith, u, l))

space_raise : (room k free : ℕ) (ms : List Stage) → k + free ≡ room → space room (map (raise k) ms) ≡ space free ms
unfolding space
space_raise room k free [] l = refl
space_raise room k free (m ∷ ms) l =
    let t : ltb room (size_of (raise k m)) ≡ ltb free (size_of m) = ap (ltb room) (raise_size k m) ∙ test_shift room k free (size_of m) l in
    rw (t, raise_overlays k m, space_raise room k free ms l) refl

raise_append : (k : ℕ) (ms ns : List Stage) → map (raise k) (ms ++ ns) ≡ map (raise k) ms ++ map (raise k) ns
raise_append k [] ns = refl
raise_append k (m ∷ ms) ns = ap (λ (us : List Stage). raise k m ∷ us) (raise_append k ms ns)

-- stages that go with the number in the result so far
module _ (stages : ℕ → List Stage) (raised : (k : ℕ) → stages (k + 0) ≡ map (raise k) (stages 0)) where
  shift : (room k free : ℕ) → k + free ≡ room → space room (stages k) ≡ space free (stages 0)
  shift room k free l =
      let e : k ≡ k + 0 = omega arith in
      ap (λ (x : ℕ). space room (stages x)) e ∙ ap (space room) (raised k) ∙ space_raise room k free (stages 0) l

-- ---- one overlay
pub overlaid_shift : (room k free n : ℕ) → k + free ≡ room → space room (overlaid (k + n) ∷ []) ≡ space free (overlaid n ∷ [])
overlaid_shift room k free n l = space_raise room k free (overlaid n ∷ []) l

-- ---- the parts common to one trapezoid and each of a list
common_raise : (k j : ℕ) (a : Trapezoid) (bs : List Trapezoid) → common_stages (k + j) a bs ≡ map (raise k) (common_stages j a bs)
unfolding common_stages
common_raise k j a [] = refl
common_raise k j a (b ∷ bs) =
    let n = length (tagged 3 (overlay a b)) in
    let e : k + j + n ≡ k + (j + n) = omega arith in
    rw (e, common_raise k (j + n) a bs) refl

pub common_shift : (room k free : ℕ) (a : Trapezoid) (bs : List Trapezoid) → k + free ≡ room → space room (common_stages k a bs) ≡ space free (common_stages 0 a bs)
common_shift room k free a bs l = shift (λ (x : ℕ). common_stages x a bs) (λ k. common_raise k 0 a bs) room k free l

-- ---- the stages of the remainder, and of one trapezoid in hand
minus_raise : (k j : ℕ) (rs : List Trapezoid) (b : Trapezoid) → minus_stages (k + j) rs b ≡ map (raise k) (minus_stages j rs b)
unfolding minus_stages
minus_raise k j [] b = refl
minus_raise k j (r ∷ rs) b =
    let n = length (tagged 1 (overlay r b)) in
    let e : k + j + n + length rs ≡ k + (j + n + length rs) = omega arith in
    let f : k + j + n ≡ k + (j + n) = omega arith in
    rw (e, f, minus_raise k (j + n) rs b) refl

pub minus_shift : (room k free : ℕ) (rs : List Trapezoid) (b : Trapezoid) → k + free ≡ room → space room (minus_stages k rs b) ≡ space free (minus_stages 0 rs b)
minus_shift room k free rs b l = shift (λ (x : ℕ). minus_stages x rs b) (λ k. minus_raise k 0 rs b) room k free l

all_raise : (k j : ℕ) (rs bs : List Trapezoid) → minus_all_stages (k + j) rs bs ≡ map (raise k) (minus_all_stages j rs bs)
unfolding minus_all_stages
all_raise k j rs [] = refl
all_raise k j rs (b ∷ bs) =
    rw (minus_raise k j rs b, all_raise k j (minus rs b) bs) (sym (raise_append k (minus_stages j rs b) (minus_all_stages j (minus rs b) bs)))

one_raise : (k : ℕ) (a : Trapezoid) (B : List Trapezoid) → one_stages (k + 0) a B ≡ map (raise k) (one_stages 0 a B)
one_raise k a B =
    let n = length (minus_all (a ∷ []) B) in
    let e : k + 0 + n ≡ k + (0 + n) = omega arith in
    rw (all_raise k 0 (a ∷ []) B, e) (sym (raise_append k (minus_all_stages 0 (a ∷ []) B) (addition (0 + n) ∷ [])))

pub one_shift : (room k free : ℕ) (a : Trapezoid) (B : List Trapezoid) → k + free ≡ room → space room (one_stages k a B) ≡ space free (one_stages 0 a B)
one_shift room k free a B l = shift (λ (x : ℕ). one_stages x a B) (λ k. one_raise k a B) room k free l
