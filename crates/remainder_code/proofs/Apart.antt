-- Trapezoids before the first that overlaps: they stand whole.
use mathlib.Core.Path.{◌≡◌, refl, sym, ◌∙◌, ap}
use mathlib.Core.Bool.{Bool, true, false, cond}
use mathlib.Core.List.{List, [], ◌∷◌, ◌++◌}
use Prim.Native.Nat.{ℕ, suc, ◌+◌, ◌-◌, ◌≤◌}
use native.Mathlib.Omega.{arith}
use lib.ListN.{length, take, drop}
use Rattle.lists.specs.Lists.{All}
use Rattle.geometry.specs.declared.Trapezoid.{Trapezoid}
use Rattle.overlay.specs.Overlaps.{overlaps}
use Rattle.overlay.specs.Overlay.{overlay, tagged}
use Rattle.boolean.specs.Operations.{minus, minus_all}
use Rattle.boolean.specs.Space.{overlaid, plus, space, minus_stages, minus_all_stages}
use Rattle.boolean.proofs.Space.{plus_none, plus-plus, space_enough}
use Rattle.boolean.proofs.Shifting.{minus_shift}
use Rattle.boolean.proofs.Apart.{part_apart}
use Rattle.remainder_code.specs.Code.{before_first}
use Rattle.remainder_code.proofs.Reducing.{all_one, all-stages_one}
use Rattle.remainder_code.proofs.MinusFold.{minus_none, minus_one, stages_none, stages_one}
use Rattle.remainder_code.proofs.Answers.{space_overlaid}

-- ---- how many come before the first that overlaps
pub before_upto : (test : Trapezoid → Bool) (ts : List Trapezoid) → before_first test ts ≤ length ts
before_upto test [] = omega arith
before_upto test (t ∷ ts) = go (test t) (before_upto test ts)
  where
    go : (b : Bool) → before_first test ts ≤ length ts → cond b 0 (suc (before_first test ts)) ≤ suc (length ts)
    go true h = omega arith
    go false h = omega (arith, h)

pub before_none : (test : Trapezoid → Bool) (ts : List Trapezoid) → All (λ (t : Trapezoid). test t ≡ false) ts → before_first test ts ≡ length ts
before_none test [] h = refl
before_none test (t ∷ ts) h = ap (λ (b : Bool). cond b 0 (suc (before_first test ts))) h.0 ∙ ap suc (before_none test ts h.1)

-- ---- minus b: those before the first that overlaps it stand
stands : (r b : Trapezoid) (rs : List Trapezoid) → overlaps r b ≡ false → minus (r ∷ rs) b ≡ r ∷ minus rs b
stands r b rs e = minus_one r b rs ∙ ap (λ (ts : List Trapezoid). ts ++ minus rs b) (part_apart r b e)

stands_stage : (room : ℕ) (r b : Trapezoid) (rs : List Trapezoid) → overlaps r b ≡ false → 1 + length rs ≤ room → space room (minus_stages 0 (r ∷ rs) b) ≡ plus 1 (space (room - 1) (minus_stages 0 rs b))
stands_stage room r b rs e l =
    let m = 0 + length (tagged 1 (overlay r b)) in
    let n : m ≡ 1 = omega (arith, ap length (part_apart r b e)) in
    ap (space room) (stages_one 0 r b rs) ∙ space_enough room 1 (overlaid (m + length rs) ∷ []) (minus_stages m rs b) (space_overlaid room (m + length rs) (omega (arith, n, l)))
    ∙ ap (plus 1) (minus_shift room m (room - 1) rs b (omega (arith, n, l)))

module _ (b : Trapezoid) where
  abbrev apart : List Trapezoid → ℕ
  apart rs = before_first (λ t. overlaps t b) rs

  pub minus_apart : (rs : List Trapezoid) → minus rs b ≡ take (before_first (λ t. overlaps t b) rs) rs ++ minus (drop (before_first (λ t. overlaps t b) rs) rs) b
  minus_apart [] = refl
  minus_apart (r ∷ rs) = go (overlaps r b) refl (minus_apart rs)
    where
      go : (t : Bool) → overlaps r b ≡ t → minus rs b ≡ take (apart rs) rs ++ minus (drop (apart rs) rs) b
          → minus (r ∷ rs) b ≡ take (cond t 0 (suc (apart rs))) (r ∷ rs) ++ minus (drop (cond t 0 (suc (apart rs))) (r ∷ rs)) b
      go true e h = refl
      go false e h = stands r b rs e ∙ ap (λ (ts : List Trapezoid). r ∷ ts) h

  none_apart : (room : ℕ) (rs : List Trapezoid) → space room (minus_stages 0 rs b) ≡ plus 0 (space (room - 0) (minus_stages 0 rs b))
  none_apart room rs = let z : room ≡ room - 0 = omega arith in ap (λ (x : ℕ). space x (minus_stages 0 rs b)) z ∙ sym (plus_none (space (room - 0) (minus_stages 0 rs b)))

  -- and there is room for them
  pub stages_apart : (room : ℕ) (rs : List Trapezoid) → length rs ≤ room
      → space room (minus_stages 0 rs b) ≡ plus (before_first (λ t. overlaps t b) rs) (space (room - before_first (λ t. overlaps t b) rs) (minus_stages 0 (drop (before_first (λ t. overlaps t b) rs) rs) b))
  stages_apart room [] l = none_apart room []
  stages_apart room (r ∷ rs) l = go (overlaps r b) refl (stages_apart (room - 1) rs (omega (arith, l)))
    where
      go : (t : Bool) → overlaps r b ≡ t → space (room - 1) (minus_stages 0 rs b) ≡ plus (apart rs) (space (room - 1 - apart rs) (minus_stages 0 (drop (apart rs) rs) b))
          → space room (minus_stages 0 (r ∷ rs) b) ≡ plus (cond t 0 (suc (apart rs))) (space (room - cond t 0 (suc (apart rs))) (minus_stages 0 (drop (cond t 0 (suc (apart rs))) (r ∷ rs)) b))
      go true e h = none_apart room (r ∷ rs)
      go false e h =
          let rest = minus_stages 0 (drop (apart rs) rs) b in
          let z : 1 + apart rs ≡ suc (apart rs) = omega arith in
          let y : room - 1 - apart rs ≡ room - suc (apart rs) = omega arith in
          stands_stage room r b rs e (omega (arith, l)) ∙ ap (plus 1) h ∙ plus-plus 1 (apart rs) (space (room - 1 - apart rs) rest) ∙ (λ j. plus (z j) (space (y j) rest))

-- ---- a alone is in hand: those before the first that it overlaps leave it whole
module _ (a : Trapezoid) where
  alone : (b : Trapezoid) → overlaps a b ≡ false → minus (a ∷ []) b ≡ a ∷ []
  alone b e = stands a b [] e ∙ ap (λ (ts : List Trapezoid). a ∷ ts) (minus_none b)

  pub all_apart : (B : List Trapezoid) → minus_all (a ∷ []) B ≡ minus_all (a ∷ []) (drop (before_first (overlaps a) B) B)
  all_apart [] = refl
  all_apart (b ∷ bs) = go (overlaps a b) refl (all_apart bs)
    where
      go : (t : Bool) → overlaps a b ≡ t → minus_all (a ∷ []) bs ≡ minus_all (a ∷ []) (drop (before_first (overlaps a) bs) bs)
          → minus_all (a ∷ []) (b ∷ bs) ≡ minus_all (a ∷ []) (drop (cond t 0 (suc (before_first (overlaps a) bs))) (b ∷ bs))
      go true e h = refl
      go false e h = all_one (a ∷ []) bs b ∙ ap (λ (ts : List Trapezoid). minus_all ts bs) (alone b e) ∙ h

  pub all_stages_apart : (room : ℕ) → 1 ≤ room → (B : List Trapezoid) → space room (minus_all_stages 0 (a ∷ []) B) ≡ plus (before_first (overlaps a) B) (space room (minus_all_stages 0 (a ∷ []) (drop (before_first (overlaps a) B) B)))
  all_stages_apart room l [] = sym (plus_none (space room (minus_all_stages 0 (a ∷ []) [])))
  all_stages_apart room l (b ∷ bs) = go (overlaps a b) refl (all_stages_apart room l bs)
    where
      go : (t : Bool) → overlaps a b ≡ t → space room (minus_all_stages 0 (a ∷ []) bs) ≡ plus (before_first (overlaps a) bs) (space room (minus_all_stages 0 (a ∷ []) (drop (before_first (overlaps a) bs) bs)))
          → space room (minus_all_stages 0 (a ∷ []) (b ∷ bs)) ≡ plus (cond t 0 (suc (before_first (overlaps a) bs))) (space room (minus_all_stages 0 (a ∷ []) (drop (cond t 0 (suc (before_first (overlaps a) bs))) (b ∷ bs))))
      go true e h = sym (plus_none (space room (minus_all_stages 0 (a ∷ []) (b ∷ bs))))
      go false e h =
          let rest = space room (minus_all_stages 0 (a ∷ []) (drop (before_first (overlaps a) bs) bs)) in
          let z : 1 + before_first (overlaps a) bs ≡ suc (before_first (overlaps a) bs) = omega arith in
          ap (space room) (all-stages_one 0 (a ∷ []) bs b)
          ∙ space_enough room 1 (minus_stages 0 (a ∷ []) b) (minus_all_stages 0 (minus (a ∷ []) b) bs) (stands_stage room a b [] e (omega (arith, l)) ∙ ap (plus 1) (stages_none (room - 1) 0 b))
          ∙ ap (λ (ts : List Trapezoid). plus 1 (space room (minus_all_stages 0 ts bs))) (alone b e)
          ∙ ap (plus 1) h
          ∙ plus-plus 1 (before_first (overlaps a) bs) rest
          ∙ ap (λ (m : ℕ). plus m rest) z
