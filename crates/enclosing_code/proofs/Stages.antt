-- The stages of those numbers below n that pass a test.
use mathlib.Core.Path.{◌≡◌, refl, sym, ◌∙◌, ap, subst}
use mathlib.Core.Bool.{Bool, true, false, cond}
use mathlib.Core.List.{List, [], ◌∷◌, ◌++◌, append_assoc, append-nil}
use mathlib.Core.Logic.{⊎_elim}
use Prim.Native.Nat.{ℕ, zero, suc, ◌+◌, ◌<◌}
use native.Mathlib.Numerals.{add-one}
use native.Mathlib.Omega.{arith}
use lib.Dec.{T}
use Rattle.lists.specs.Lists.{each}
use Rattle.lists.specs.Tests.{keep}
use Rattle.boolean.specs.Space.{Stage, Space, enough, no_room, plus, space}
use Rattle.boolean.specs.Counts.{is_no_room}
use Rattle.boolean.proofs.Space.{after, space_append, space_enough}
use Rattle.connectivity.specs.Components.{own_numbers}
use Rattle.connectivity.proofs.Joining.{less_than, same_or_not}
use Rattle.enclosure_code.specs.Code.{only_if}

no_room_plus : (m : ℕ) (s : Space) → T (is_no_room s) → T (is_no_room (plus m s))
no_room_plus m (enough c) h = h
no_room_plus m (no_room c) h = h

no_room_after : (s t : Space) → T (is_no_room s) → T (is_no_room (after s t))
no_room_after (enough c) t h = absurd h
no_room_after (no_room c) t h = h

module _ (test : ℕ → Bool) (f : ℕ → List Stage) where
  abbrev pub stages_below : ℕ → List Stage
  stages_below n = each f (keep test (own_numbers n))

  each_last : (ns : List ℕ) (n : ℕ) → each f (keep test (ns ++ (n ∷ []))) ≡ each f (keep test ns) ++ only_if (test n) (f n)
  unfolding each keep
  each_last [] n = go (test n)
    where
      go : (b : Bool) → each f (cond b (n ∷ []) []) ≡ only_if b (f n)
      go true = append-nil (f n)
      go false = refl
  each_last (m ∷ ns) n = go (test m) (each_last ns n)
    where
      go : (b : Bool) → each f (keep test (ns ++ (n ∷ []))) ≡ each f (keep test ns) ++ only_if (test n) (f n)
          → each f (cond b (m ∷ keep test (ns ++ (n ∷ []))) (keep test (ns ++ (n ∷ [])))) ≡ each f (cond b (m ∷ keep test ns) (keep test ns)) ++ only_if (test n) (f n)
      go true e = ap (λ (ms : List Stage). f m ++ ms) e ∙ sym (append_assoc (f m) (each f (keep test ns)) (only_if (test n) (f n)))
      go false e = e

  stages_more : (n : ℕ) → stages_below (suc n) ≡ stages_below n ++ only_if (test n) (f n)
  unfolding own_numbers
  stages_more n = each_last (own_numbers n) n

  pub stages_none : (room : ℕ) → space room (stages_below 0) ≡ enough 0
  unfolding own_numbers keep each space
  stages_none room = refl

  pub stages_enough : (room j : ℕ) {made c : ℕ} → space room (stages_below j) ≡ enough made → space room (only_if (test j) (f j)) ≡ enough c → space room (stages_below (j + 1)) ≡ enough (made + c)
  stages_enough room j {made} {c} h k =
      ap (λ (n : ℕ). space room (stages_below n)) (add-one j)
      ∙ ap (space room) (stages_more j)
      ∙ space_enough room made (stages_below j) (only_if (test j) (f j)) h
      ∙ ap (plus made) k

  -- where it lacks at number j, it lacks for all
  pub stages_no_room : (room n j : ℕ) {made : ℕ} → space room (stages_below j) ≡ enough made → T (is_no_room (space room (only_if (test j) (f j)))) → j < n → T (is_no_room (space room (stages_below n)))
  stages_no_room room zero j h k l = absurd (omega arith)
  stages_no_room room (suc n) j {made} h k l =
      let piece : ℕ → Space = λ i. space room (only_if (test i) (f i)) in
      subst (λ (s : Space). T (is_no_room s)) (sym (ap (space room) (stages_more n) ∙ space_append room (stages_below n) (only_if (test n) (f n))))
      (⊎_elim
      (λ s. subst (λ (i : ℕ). T (is_no_room (after (space room (stages_below i)) (piece i)))) s (subst (λ (r : Space). T (is_no_room (after r (piece j)))) (sym h) (no_room_plus made (piece j) k)))
      (λ s. no_room_after (space room (stages_below n)) (piece n) (stages_no_room room n j h k (less_than j n l s)))
      (same_or_not j n))
