-- The trapezoids in hand minus one more, as a fold.
use Rattle.std.specs.Prelude.{Option, Some, None, Result}
use mathlib.Core.Path.{◌≡◌, refl, sym, ◌∙◌, ap, subst}
use mathlib.Core.List.{List, [], ◌∷◌, ◌++◌}
use Prim.Native.Nat.{ℕ, ◌+◌, ◌-◌, ◌<◌, ◌≤◌}
use native.Mathlib.Omega.{arith}
use lib.ListN.{length}
use lib.IntN.{ℤ}
use Rattle.lists.specs.Lists.{All}
use Rattle.records.specs.Records.{record_at, count}
use Rattle.geometry.specs.declared.Trapezoid.{Trapezoid}
use Rattle.geometry.specs.Limit.{coordinate_limit}
use Rattle.geometry.specs.Fitness.{FitFor}
use Rattle.geometry.specs.Trapezoids.{trapezoid_codec, layer_of}
use Rattle.overlay.specs.Overlay.{overlay, tagged}
use Rattle.boolean.specs.Operations.{minus}
use Rattle.boolean.specs.declared.Folded.{Folded}
use Rattle.boolean.specs.Space.{overlaid, enough, no_room, space, minus_stages}
use Rattle.boolean.proofs.Shifting.{overlaid_shift}
use Rattle.boolean.specs.declared.NoRoom.{NoRoom}
use Rattle.boolean.specs.Folds.{folded, no_room_after}
use Rattle.trapezoids_code.specs.Tails.{Borrowed, FilledAs}
use Rattle.trapezoids_code.proofs.Writing.{plain, tail}
use Rattle.remainder_code.specs.Code.{FoldedAs, once}
use Rattle.remainder_code.proofs.Answers.{once_folded}
use Rattle.remainder_code.proofs.Folding.{Fold, Steps, Folding, blank_start, fold_no_room, fold_next, Part, Turned, fill_turn, appending, appending_steps}

pub minus_none : (b : Trapezoid) → minus [] b ≡ []
unfolding minus
minus_none b = refl

pub minus_one : (r b : Trapezoid) (rs : List Trapezoid) → minus (r ∷ rs) b ≡ tagged 1 (overlay r b) ++ minus rs b
unfolding minus
minus_one r b rs = refl

pub stages_none : (room k : ℕ) (b : Trapezoid) → space room (minus_stages k [] b) ≡ enough 0
unfolding space minus_stages
stages_none room k b = refl

pub stages_one : (k : ℕ) (r b : Trapezoid) (rs : List Trapezoid) → minus_stages k (r ∷ rs) b ≡ (overlaid (k + length (tagged 1 (overlay r b)) + length rs) ∷ []) ++ minus_stages (k + length (tagged 1 (overlay r b))) rs b
unfolding minus_stages
stages_one k r b rs = refl

-- one for each trapezoid in hand
pub stages-length : (k : ℕ) (rs : List Trapezoid) (b : Trapezoid) → length (minus_stages k rs b) ≡ length rs
unfolding minus_stages
stages-length k [] b = refl
stages-length k (r ∷ rs) b = let h = stages-length (k + length (tagged 1 (overlay r b))) rs b in omega (arith, h)

module _ (b : Trapezoid) where
  abbrev pub minus_fold : Fold Trapezoid Trapezoid
  minus_fold =
      appending plain plain (λ rs. minus rs b) (λ k rs. minus_stages k rs b) (λ r. tagged 1 (overlay r b)) (λ k r left. overlaid (k + length (tagged 1 (overlay r b)) + left) ∷ [])

  pub minus_steps : Steps minus_fold
  minus_steps =
      appending_steps plain plain (λ rs. minus rs b) (λ k rs. minus_stages k rs b) (λ r. tagged 1 (overlay r b)) (λ k r left. overlaid (k + length (tagged 1 (overlay r b)) + left) ∷ [])
      (minus_none b) (λ r rs. minus_one r b rs) (λ room k. stages_none room k b) (λ k r rs. stages_one k r b rs)

  -- those not yet reached count against the room
  pub minus_part : {room k left : ℕ} {done : List Trapezoid} (r : Trapezoid) (free : ℕ) → k ≡ length done → k + left + free ≡ room
      → Part minus_fold room done r left free (tagged 1 (overlay r b)) (overlaid (length (tagged 1 (overlay r b))) ∷ [])
  minus_part {room} {k} {left} {done} r free n l =
      let m = length (tagged 1 (overlay r b)) in
      let e : length done + m + left ≡ k + left + m = omega (arith, n) in
      record { next = refl; same = ap (λ (x : ℕ). space room (overlaid x ∷ [])) e ∙ overlaid_shift room (k + left) free m l; within = omega (arith, n, l) }

  -- ---- one turn, whose overlay answers f, when the tail comes back as t
  module _ (room : ℕ) {W : ℕ} {layer out : List ℤ} {k i : ℕ} (h : Folding minus_fold W room (minus (layer_of layer) b) (minus_stages 0 (layer_of layer) b) layer out k i i) (few : k + (count trapezoid_codec layer - i) ≤ room)
      (l : i < count trapezoid_codec layer) (a : Trapezoid) (is : a ≡ record_at trapezoid_codec layer i) where
    pub minus_turn : (f : Option ℕ) (t : List ℤ) → FilledAs (length (tail out k)) (room - k - (count trapezoid_codec layer - i - 1)) (tagged 1 (overlay a b)) f t
        → Turned h (room - k - (count trapezoid_codec layer - i - 1)) (once f) t
    minus_turn f t g = fill_turn h l a is (minus_part a (room - k - (count trapezoid_codec layer - i - 1)) h.size (omega (arith, few, l))) f t g

  -- ---- the first turn: nothing stands yet, a is the first trapezoid, and t comes back as the whole buffer
  module _ (room : ℕ) (layer d : List ℤ) (w : Borrowed d room) (fit : All (FitFor coordinate_limit) (layer_of layer)) (few : count trapezoid_codec layer ≤ room + 1) (l : 0 < count trapezoid_codec layer) (a : Trapezoid) (is : a ≡ record_at trapezoid_codec layer 0)
      (f : Option ℕ) (t : List ℤ) (g : FilledAs (length d) (room - (count trapezoid_codec layer - 1)) (tagged 1 (overlay a b)) f t) where
    abbrev free : ℕ
    free = room - (count trapezoid_codec layer - 1)

    abbrev parts : List Trapezoid
    parts = tagged 1 (overlay a b)

    start : Folding minus_fold (length d) room (minus (layer_of layer) b) (minus_stages 0 (layer_of layer) b) layer d 0 0 0
    start = blank_start minus_fold minus_steps room layer d (minus_stages 0 (layer_of layer) b) refl w fit

    part : Part minus_fold room start.done a (count trapezoid_codec layer - 1) free parts (overlaid (length parts) ∷ [])
    part = minus_part a free start.size (omega (arith, few, l))

    known : (r : Result Folded NoRoom) → once f ≡ r → FoldedAs (length d) free parts (overlaid (length parts) ∷ []) r t
    known r e = subst (λ (x : Result Folded NoRoom). FoldedAs (length d) free parts (overlaid (length parts) ∷ []) x t) e (once_folded (length d) free parts f t g)

    pub first_full : f ≡ None → space room (minus_stages 0 (layer_of layer) b) ≡ no_room 1
    first_full e = fold_no_room start l a is 1 (part.same ∙ (known (no_room_after 1) (ap once e)).0)

    pub first_keeps : (m : ℕ) → f ≡ Some m → Folding minus_fold (length t) room (minus (layer_of layer) b) (minus_stages 0 (layer_of layer) b) layer t m 1 1 × (m + (count trapezoid_codec layer - 1) ≤ room)
    first_keeps m e =
        let k = known (folded m 1) (ap once e) in
        let y : start.done ++ parts ≡ parts = ap (λ (ts : List Trapezoid). ts ++ parts) (none start.done start.size) in
        let n = fold_next start l a is m 1 t (part.same ∙ k.0) (subst (λ (ts : List Trapezoid). FilledAs (length d) room ts (Some m) t) (sym y) (k.1.0, omega (arith, k.1.1), k.1.2)) in (
          subst (λ (W : ℕ). Folding minus_fold W room (minus (layer_of layer) b) (minus_stages 0 (layer_of layer) b) layer t m 1 1) (sym n.long) n,
          omega (arith, k.1.0, k.1.1, few),
        )
      where
        none : (ts : List Trapezoid) → 0 ≡ length ts → ts ≡ []
        none [] e = refl
        none (t ∷ ts) e = absurd (omega (arith, e))
