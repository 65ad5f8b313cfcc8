-- Shapes apart: no trapezoid of the one overlaps one of the other. The difference leaves the one whole, and makes an overlay for each two trapezoids.
use mathlib.Core.Path.{◌≡◌, refl, sym, ◌∙◌, ap}
use mathlib.Core.Bool.{false}
use mathlib.Core.List.{List, [], ◌∷◌, ◌++◌}
use mathlib.Core.Logic.{inl, inr}
use Prim.Native.Nat.{ℕ, ◌+◌, ◌*◌, ◌<◌, ◌≤◌}
use native.Mathlib.Omega.{arith}
use lib.Dec.{T, ltb, ltb→lt, nltb→le}
use lib.ListN.{length}
use borrow.Author.Tests.{le-ltb}
use Rattle.lists.specs.Lists.{All, Any}
use Rattle.lists.proofs.Tests.{false_is, yes_or_no}
use Rattle.lists.proofs.Lists.{all_with}
use Rattle.geometry.specs.declared.Trapezoid.{Trapezoid}
use Rattle.geometry.specs.Fitness.{FitFor}
use Rattle.overlay.specs.Overlaps.{overlaps}
use Rattle.overlay.proofs.Overlaps.{apart_exact}
use Rattle.boolean.specs.Operations.{a_minus_b, minus, minus_all, difference}
use Rattle.boolean.specs.Space.{Stage, overlaid, addition, size_of, enough, plus, space, minus_stages, minus_all_stages, one_stages, difference_stages}
use Rattle.boolean.specs.Counts.{Exceeds, is_no_room, last_size}
use Rattle.boolean.proofs.Layers.{Away, away_all}
use Rattle.boolean.proofs.Space.{space_enough}
use Rattle.boolean.proofs.Stages.{space_exact, no_room_exact, last_stage}
use Rattle.boolean.proofs.Counts.{difference_overlays}
use Rattle.boolean.proofs.Apart.{part_apart}
use Rattle.extraction.specs.Statements.{ApartOverlays}

-- a overlaps none of B
abbrev pub NoneOf : List Trapezoid → Trapezoid → Type 0
NoneOf B a = All (λ (b : Trapezoid). overlaps a b ≡ false) B

-- ---- what is left
one_left : (a : Trapezoid) (B : List Trapezoid) → NoneOf B a → minus_all (a ∷ []) B ≡ a ∷ []
unfolding minus minus_all
one_left a [] h = refl
one_left a (b ∷ B) h = ap (λ (ts : List Trapezoid). minus_all (ts ++ []) B) (part_apart a b h.0) ∙ one_left a B h.1

pub apart_difference : (A B : List Trapezoid) → All (NoneOf B) A → difference A B ≡ A
unfolding difference
apart_difference [] B h = refl
apart_difference (a ∷ A) B h = rw (one_left a B h.0, apart_difference A B h.1) refl

-- ---- enough room
all_enough : (room k : ℕ) (a : Trapezoid) (B : List Trapezoid) → NoneOf B a → k + 1 ≤ room → space room (minus_all_stages k (a ∷ []) B) ≡ enough (length B)
unfolding minus minus_stages minus_all_stages space
all_enough room k a [] h l = refl
all_enough room k a (b ∷ B) h l =
    ap (λ (ts : List Trapezoid). space room (overlaid (k + length ts + 0) ∷ minus_all_stages k (ts ++ []) B)) (part_apart a b h.0)
    ∙ rw (le-ltb room (k + 1 + 0) (omega (arith, l)), all_enough room k a B h.1 l) (ap enough (omega arith))

one_enough : (room k : ℕ) (a : Trapezoid) (B : List Trapezoid) → NoneOf B a → k + 1 ≤ room → space room (one_stages k a B) ≡ enough (length B)
unfolding space
one_enough room k a B h l =
    space_enough room (length B) (minus_all_stages k (a ∷ []) B) (addition (k + length (minus_all (a ∷ []) B)) ∷ []) (all_enough room k a B h l)
    ∙ rw (one_left a B h, le-ltb room (k + 1) l) (ap enough (omega arith))

stages_enough : (room k : ℕ) (A B : List Trapezoid) → All (NoneOf B) A → k + length A ≤ room → space room (difference_stages k A B) ≡ enough (length A * length B)
unfolding difference_stages space
stages_enough room k [] B h l = ap enough (omega arith)
stages_enough room k (a ∷ A) B h l =
    space_enough room (length B) (one_stages k a B) (difference_stages (k + length (minus_all (a ∷ []) B)) A B) (one_enough room k a B h.0 (omega (arith, l)))
    ∙ ap (λ (ts : List Trapezoid). plus (length B) (space room (difference_stages (k + length ts) A B))) (one_left a B h.0)
    ∙ ap (plus (length B)) (stages_enough room (k + 1) A B h.1 (omega (arith, l)))
    ∙ ap enough (omega arith)

pub apart_enough : (room : ℕ) (A B : List Trapezoid) → All (NoneOf B) A → length A ≤ room → space room (difference_stages 0 A B) ≡ enough (length A * length B)
apart_enough room A B h l = stages_enough room 0 A B h (omega (arith, l))

-- ---- no room
-- the last stage exceeds the room: some stage does
last_exceeds : (room n : ℕ) (ms : List Stage) → n ≤ room → room < last_size n ms → Any (Exceeds room) ms
last_exceeds room n [] l h = omega (arith, l, h)
last_exceeds room n (m ∷ ms) l h =
    elim (yes_or_no (ltb room (size_of m))) [
      | inl t ↦ inl (ltb→lt room (size_of m) t)
      | inr t ↦ inr (last_exceeds room (size_of m) ms (nltb→le room (size_of m) t) h)
    ]

pub apart_no_room : (room : ℕ) (A B : List Trapezoid) → All (NoneOf B) A → room < length A → T (is_no_room (space room (difference_stages 0 A B)))
apart_no_room room A B h l =
    let e = last_stage a_minus_b A B ∙ ap length (apart_difference A B h) in
    (no_room_exact room (difference_stages 0 A B)).1 (last_exceeds room 0 (difference_stages 0 A B) (omega arith) (omega (arith, l, e)))

-- ---- overlays
-- shapes that no rational point has in common are apart
none_overlap : (L : ℕ) (A B : List Trapezoid) → All (FitFor L) A → All (FitFor L) B → Away A B → All (NoneOf B) A
none_overlap L A B hA hB d = all_with (λ a ha h. all_with (λ b hb k. false_is ((apart_exact L a b ha hb).1 k)) B hB h) A hA (away_all A B d)

pub apart_overlays : ApartOverlays
apart_overlays L A B hA hB d =
    let e = apart_enough (length A) A B (none_overlap L A B hA hB d) (omega arith) in
    sym (difference_overlays 0 A B) ∙ sym ((space_exact (length A) (difference_stages 0 A B) (length A * length B)).1.0 e).1
