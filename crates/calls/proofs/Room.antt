-- Where the space is enough, the result has room: its size is that of the last stage.
use mathlib.Core.Path.{◌≡◌, refl, subst}
use mathlib.Core.Bool.{Bool, true, false}
use mathlib.Core.List.{List, [], ◌∷◌}
use Prim.Native.Nat.{ℕ, ◌≤◌}
use native.Mathlib.Omega.{arith}
use lib.Dec.{T}
use lib.ListN.{length}
use Rattle.lists.specs.Lists.{All}
use Rattle.geometry.specs.declared.Trapezoid.{Trapezoid}
use Rattle.boolean.specs.Operations.{Code, result, deoverlapped}
use Rattle.boolean.specs.Space.{Stage, size_of, addition, Space, enough, no_room, space, stages, deoverlapped_stages}
use Rattle.boolean.specs.Counts.{Within, last_size}
use Rattle.boolean.proofs.Stages.{space_exact, last_stage, deoverlapped_last_stage}

abbrev pub is_enough : Space → Bool
is_enough (enough cuts) = true
is_enough (no_room cuts) = false

within_last : (room n : ℕ) (ms : List Stage) → n ≤ room → All (Within room) ms → last_size n ms ≤ room
within_last room n [] h a = h
within_last room n (m ∷ ms) h a = within_last room (size_of m) ms a.0 a.1

last_room : (room : ℕ) (ms : List Stage) → T (is_enough (space room ms)) → last_size 0 ms ≤ room
last_room room ms h = within_last room 0 ms (omega arith) (go (space room ms) refl h)
  where
    go : (s : Space) → space room ms ≡ s → T (is_enough s) → All (Within room) ms
    go (enough n) e h = ((space_exact room ms n).1.0 e).0
    go (no_room n) e h = absurd h

pub addition_room : (room k : ℕ) → T (is_enough (space room (addition k ∷ []))) → k ≤ room
addition_room room k h = last_room room (addition k ∷ []) h

pub result_room : (room : ℕ) (c : Code) (A B : List Trapezoid) → T (is_enough (space room (stages c A B))) → length (result c A B) ≤ room
result_room room c A B h = subst (λ (n : ℕ). n ≤ room) (last_stage c A B) (last_room room (stages c A B) h)

pub deoverlapped_room : (room : ℕ) (A : List Trapezoid) → T (is_enough (space room (deoverlapped_stages [] A))) → length (deoverlapped A) ≤ room
deoverlapped_room room A h = subst (λ (n : ℕ). n ≤ room) (deoverlapped_last_stage A) (last_room room (deoverlapped_stages [] A) h)
