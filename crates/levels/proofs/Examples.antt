-- The definition computes: four pairs of a key and a name, ordered by the key, two of them level.
use mathlib.Core.Path.{◌≡◌, refl}
use mathlib.Core.Bool.{Bool}
use mathlib.Core.List.{List, [], ◌∷◌}
use Prim.Native.Nat.{ℕ}
use lib.Dec.{ltb}
use Rattle.levels.specs.Levels.{insert, levels}

abbrev Entry : Type 0
Entry = ℕ × ℕ

abbrev less : Entry → Entry → Bool
less x y = ltb x.0 y.0

-- the names 7 and 9 are level at the key 2
abbrev entries : List Entry
entries = (2, 7) ∷ (1, 8) ∷ (2, 9) ∷ (3, 6) ∷ []

-- the keys rise, and of the two level ones 7 is kept, which comes first
abbrev kept : List Entry
kept = (1, 8) ∷ (2, 7) ∷ (3, 6) ∷ []

ordered : levels less entries ≡ kept
unfolding insert levels
ordered = refl
