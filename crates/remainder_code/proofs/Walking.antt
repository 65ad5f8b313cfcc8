-- A walk over the trapezoids of a layer. Before turn i: what is sought of the whole layer is what i and the rest of the layer give.
use mathlib.Core.Path.{◌≡◌, sym, ◌∙◌, ap}
use mathlib.Core.Bool.{Bool, true, false, cond, ◌||◌}
use mathlib.Core.List.{List, [], ◌∷◌}
use Prim.Native.Nat.{ℕ, suc, ◌+◌, ◌<◌, ◌≤◌}
use native.Mathlib.Omega.{arith}
use lib.IntN.{ℤ}
use Rattle.records.specs.Records.{record_at, count}
use Rattle.records.proofs.Records.{from_start, from_step, from_none}
use Rattle.geometry.specs.declared.Trapezoid.{Trapezoid}
use Rattle.geometry.specs.Trapezoids.{trapezoid_codec, layer_of}
use Rattle.remainder_code.specs.Code.{from, before_first}

pub record Walking {A : Type 0} (value : ℕ → List Trapezoid → A) (layer : List ℤ) (i : ℕ) : Type 0 where
  pub same : value 0 (layer_of layer) ≡ value i (from layer i)
  pub upto : i ≤ count trapezoid_codec layer

pub walk_start : {A : Type 0} (value : ℕ → List Trapezoid → A) (layer : List ℤ) → Walking value layer 0
walk_start value layer = record { same = ap (value 0) (sym (from_start trapezoid_codec (count trapezoid_codec layer) layer)); upto = omega arith }

module _ {A : Type 0} {value : ℕ → List Trapezoid → A} {layer : List ℤ} {i : ℕ} (h : Walking value layer i) where
  pub walk_stop : count trapezoid_codec layer ≤ i → value 0 (layer_of layer) ≡ value i []
  walk_stop l = h.same ∙ ap (value i) (from_none trapezoid_codec (count trapezoid_codec layer) layer i l)

  -- t is number i
  module _ (l : i < count trapezoid_codec layer) (t : Trapezoid) (is : t ≡ record_at trapezoid_codec layer i) where
    pub walk_here : value 0 (layer_of layer) ≡ value i (t ∷ from layer (i + 1))
    walk_here = h.same ∙ ap (value i) (from_step trapezoid_codec (count trapezoid_codec layer) layer i l) ∙ ap (λ (u : Trapezoid). value i (u ∷ from layer (i + 1))) (sym is)

    pub walk_turn : value i (t ∷ from layer (i + 1)) ≡ value (i + 1) (from layer (i + 1)) → Walking value layer (i + 1)
    walk_turn e = record { same = walk_here ∙ e; upto = omega (arith, l) }

-- ---- whether some trapezoid passes a test
-- none of the first i does, and the rest decides
abbrev pub Searching : (List Trapezoid → Bool) → List ℤ → ℕ → Type 0
Searching any layer i = Walking (λ j ts. any ts) layer i

module _ (any : List Trapezoid → Bool) (test : Trapezoid → Bool) (one : (t : Trapezoid) (ts : List Trapezoid) → any (t ∷ ts) ≡ test t || any ts)
    {layer : List ℤ} {i : ℕ} (h : Searching any layer i) (l : i < count trapezoid_codec layer) (t : Trapezoid) (is : t ≡ record_at trapezoid_codec layer i) where
  rest : (b : Bool) → test t ≡ b → any (t ∷ from layer (i + 1)) ≡ b || any (from layer (i + 1))
  rest b e = one t (from layer (i + 1)) ∙ ap (λ (x : Bool). x || any (from layer (i + 1))) e

  pub search_found : test t ≡ true → true ≡ any (layer_of layer)
  search_found e = sym (walk_here h l t is ∙ rest true e)

  pub search_turn : test t ≡ false → Searching any layer (i + 1)
  search_turn e = walk_turn h l t is (rest false e)

-- ---- the first trapezoid that passes a test
-- it is none of the first i
abbrev pub Passing : (Trapezoid → Bool) → List ℤ → ℕ → Type 0
Passing test layer i = Walking (λ j ts. j + before_first test ts) layer i

module _ (test : Trapezoid → Bool) where
  pub pass_start : (layer : List ℤ) → Passing test layer 0
  pass_start layer = walk_start (λ j ts. j + before_first test ts) layer

  module _ {layer : List ℤ} {i : ℕ} (h : Passing test layer i) where
    pub pass_stop : count trapezoid_codec layer ≤ i → i ≡ before_first test (layer_of layer)
    pass_stop l = omega (arith, walk_stop h l)

    module _ (l : i < count trapezoid_codec layer) (t : Trapezoid) (is : t ≡ record_at trapezoid_codec layer i) where
      next : (b : Bool) → test t ≡ b → i + before_first test (t ∷ from layer (i + 1)) ≡ i + cond b 0 (suc (before_first test (from layer (i + 1))))
      next b e = ap (λ (x : Bool). i + cond x 0 (suc (before_first test (from layer (i + 1))))) e

      pub pass_found : test t ≡ true → i ≡ before_first test (layer_of layer)
      pass_found e = omega (arith, walk_here h l t is, next true e)

      pub pass_turn : test t ≡ false → Passing test layer (i + 1)
      pass_turn e = walk_turn h l t is (omega (arith, next false e))
