-- What is proved of the stages: when there is no room and with how many overlays, what the last stage says, and how many overlays each operation
-- makes. Each statement is proved under its name in lower case.
use Rattle.std.specs.Prelude.{◌≡◌, Bool, true, false, List, [], ◌∷◌, ◌++◌, ◌↔◌, ℕ, zero, suc, ◌+◌, ◌*◌, ◌<◌, ◌≤◌, T, length, take, drop}
use Rattle.lists.specs.Lists.{All, Any}
use Rattle.lists.specs.Tests.{total}
use Rattle.geometry.specs.declared.Trapezoid.{Trapezoid}
use Rattle.boolean.specs.Operations.{Code, union, intersect, a_minus_b, b_minus_a, symmetric_difference, minus_all, difference, result, deoverlapped}
use Rattle.boolean.specs.Space.{Stage, size_of, overlays_of, Space, enough, no_room, space, stages, difference_stages, deoverlapped_stages, equality_stages}

-- ---- sums
-- over the numbers below n: f 0 + f 1 + ..
abbrev pub sum_below : ℕ → (ℕ → ℕ) → ℕ
sum_below zero f = 0
sum_below (suc n) f = f 0 + sum_below n (λ i. f (suc i))

-- the overlays among stages
abbrev pub all_overlays : List Stage → ℕ
all_overlays ms = total overlays_of ms

-- ---- space
-- "the result so far plus the pieces in hand exceed the output", which has room for so many; and the contrary
abbrev pub Exceeds : ℕ → Stage → Type 0
Exceeds room m = room < size_of m

abbrev pub Within : ℕ → Stage → Type 0
Within room m = size_of m ≤ room

-- the first stage that exceeds the room, with what stands before and after it: up to it and with it there are n overlays
pub record FirstPast (room : ℕ) (ms : List Stage) (n : ℕ) : Type 0 where
  pub before : List Stage
  pub first : Stage
  pub after : List Stage
  pub split : ms ≡ before ++ (first ∷ after)
  pub within : All (Within room) before
  pub exceeds : Exceeds room first
  pub overlays : n ≡ all_overlays (before ++ (first ∷ []))

-- there is no room, with n overlays, exactly if some first stage exceeds the room, and n are made up to it; it is enough exactly if every stage is
-- within the room, and all overlays are made
abbrev pub SpaceExact : Type 0
SpaceExact =
    (room : ℕ) (ms : List Stage) (n : ℕ)
    → (space room ms ≡ no_room n ↔ FirstPast room ms n) × (space room ms ≡ enough n ↔ All (Within room) ms × (n ≡ all_overlays ms))

abbrev pub is_no_room : Space → Bool
is_no_room (enough n) = false
is_no_room (no_room n) = true

-- "12 occurs if, and only if, after some cut or addition of the definition, the result so far plus the pieces in hand exceed the output"
abbrev pub NoRoomExact : Type 0
NoRoomExact = (room : ℕ) (ms : List Stage) → T (is_no_room (space room ms)) ↔ Any (Exceeds room) ms

-- ---- the last stage
-- the size at the last stage, and n if there is none
abbrev pub last_size : ℕ → List Stage → ℕ
last_size n [] = n
last_size n (m ∷ ms) = last_size (size_of m) ms

-- the last stage of each set operation is the number of trapezoids of its result, and so is that of deoverlapping (paper 01: disjointing); where
-- there is no stage the result is empty
abbrev pub LastStage : Type 0
LastStage = (c : Code) (A B : List Trapezoid) → last_size 0 (stages c A B) ≡ length (result c A B)

abbrev pub DeoverlappedLastStage : Type 0
DeoverlappedLastStage = (A : List Trapezoid) → last_size 0 (deoverlapped_stages [] A) ≡ length (deoverlapped A)

-- ---- the number of overlays
-- an intersection makes one for each a and each b, whether they overlap or not
abbrev pub IntersectionOverlays : Type 0
IntersectionOverlays = (A B : List Trapezoid) → all_overlays (stages intersect A B) ≡ length A * length B

-- for one trapezoid a minus the trapezoids of B in turn: before number i the remainder is a minus the first i of B, and each trapezoid of the
-- remainder (paper 01: in hand) makes one
abbrev pub count_minus : Trapezoid → List Trapezoid → ℕ
count_minus a B = sum_below (length B) (λ i. length (minus_all (a ∷ []) (take i B)))

-- "each a is in hand"
abbrev pub count_difference : List Trapezoid → List Trapezoid → ℕ
count_difference A B = total (λ a. count_minus a B) A

-- whatever the number k of trapezoids in the result before
abbrev pub DifferenceOverlays : Type 0
DifferenceOverlays = (k : ℕ) (A B : List Trapezoid) → all_overlays (difference_stages k A B) ≡ count_difference A B

-- "Code 0 union: A, then B−A", and so on
abbrev pub count_result : Code → List Trapezoid → List Trapezoid → ℕ
count_result union A B = count_difference B A
count_result intersect A B = length A * length B
count_result a_minus_b A B = count_difference A B
count_result b_minus_a A B = count_difference B A
count_result symmetric_difference A B = count_difference A B + count_difference B A

abbrev pub CodeOverlays : Type 0
CodeOverlays = (c : Code) (A B : List Trapezoid) → all_overlays (stages c A B) ≡ count_result c A B

-- deoverlapping makes, for each number i, those of trapezoid i alone minus the result of the i trapezoids before it
abbrev pub DeoverlappedOverlays : Type 0
DeoverlappedOverlays =
    (A : List Trapezoid)
    → all_overlays (deoverlapped_stages [] A) ≡ sum_below (length A) (λ i. count_difference (take 1 (drop i A)) (deoverlapped (take i A)))

-- "Sameness: A−B, and B−A only if that was empty."
abbrev pub EqualityOverlays : Type 0
EqualityOverlays =
    (A B : List Trapezoid)
    → (difference A B ≡ [] → all_overlays (equality_stages A B) ≡ count_difference A B + count_difference B A)
    × (¬ (difference A B ≡ []) → all_overlays (equality_stages A B) ≡ count_difference A B)
