-- The definitions of rows 5 and 6 compute, where no theorem can see a mistake: lengths left out, found and refused.
use mathlib.Core.Path.{◌≡◌, refl}
use mathlib.Core.List.{List, [], ◌∷◌, ◌++◌}
use Prim.Native.Nat.{ℕ}
use lib.IntN.{ℤ, pos, negsuc}
use lib.ListN.{replicate}
use Rattle.integer.specs.Integer.{◌⊖◌}
use Rattle.files.specs.declared.Edition.TheVariants.{First, New}
use Rattle.files.specs.Formats.{polygon_file, layer_file}
use Rattle.files.specs.Pairs.{next_offset, length_read}
use Rattle.files.specs.Directory.{number_from, count_of, pair_length, end_of, pairs_from, directory_of, wrong_by, right_with}
use Rattle.files.specs.Contents.{lengths_from, lengths_of}
use Rattle.files.specs.Editions.{pairs_filled_in, filled_in}

-- a body of n words
abbrev body : ℕ → List ℤ
body n = replicate n (pos 7)

-- one polygon with a directory of offset and length, or two, and n words
abbrev one : ℤ → ℤ → ℕ → List ℤ
one o l n = pos 1 ∷ o ∷ l ∷ body n

abbrev two : ℤ → ℤ → ℤ → ℤ → ℕ → List ℤ
two o l p m n = pos 2 ∷ o ∷ l ∷ p ∷ m ∷ body n

-- "the polygon runs to the next offset, or to the end of the body": 3 vertices and 4, with either length left out, or both; and the lengths written in
abbrev Found : Type 0
Found =
    (directory_of (polygon_file New) (two (pos 0) (pos 0) (pos 3) (pos 0) 14) ≡ right_with 2 7)
    × (lengths_of (polygon_file New) (two (pos 0) (pos 0) (pos 3) (pos 0) 14) ≡ 3 ∷ 4 ∷ [])
    × (directory_of (polygon_file New) (two (pos 0) (pos 0) (pos 3) (pos 4) 14) ≡ right_with 2 7)
    × (directory_of (polygon_file New) (two (pos 0) (pos 3) (pos 3) (pos 0) 14) ≡ right_with 2 7)
    × (filled_in (two (pos 0) (pos 0) (pos 3) (pos 0) 14) ≡ two (pos 0) (pos 3) (pos 3) (pos 4) 14)

-- the older reader refuses them at the first pair that carries 0; a layer file's length 0 is an empty layer's
abbrev NotFound : Type 0
NotFound =
    (directory_of (polygon_file First) (two (pos 0) (pos 0) (pos 3) (pos 0) 14) ≡ wrong_by 6 0)
    × (directory_of (polygon_file First) (two (pos 0) (pos 3) (pos 3) (pos 0) 14) ≡ wrong_by 6 1)
    × (directory_of (polygon_file First) (two (pos 0) (pos 3) (pos 3) (pos 4) 14) ≡ right_with 2 7)
    × (directory_of layer_file (one (pos 0) (pos 0) 0) ≡ right_with 1 0)

-- "The length so found must be 3 to 32, else number 6 at that pair": 2, 3, 32 and 33 vertices, to the next offset and to the end
abbrev Range : Type 0
Range =
    (directory_of (polygon_file New) (two (pos 0) (pos 0) (pos 2) (pos 3) 10) ≡ wrong_by 6 0)
    × (directory_of (polygon_file New) (two (pos 0) (pos 0) (pos 33) (pos 3) 72) ≡ wrong_by 6 0)
    × (directory_of (polygon_file New) (two (pos 0) (pos 0) (pos 32) (pos 3) 70) ≡ right_with 2 35)
    × (directory_of (polygon_file New) (one (pos 0) (pos 0) 4) ≡ wrong_by 6 0)
    × (directory_of (polygon_file New) (one (pos 0) (pos 0) 6) ≡ right_with 1 3)
    × (directory_of (polygon_file New) (one (pos 0) (pos 0) 64) ≡ right_with 1 32)
    × (directory_of (polygon_file New) (one (pos 0) (pos 0) 66) ≡ wrong_by 6 0)

-- "A last half vertex counts for no length and is still 6 at the end": of 3 vertices and a half, and of 2 and a half
abbrev Half : Type 0
Half = (directory_of (polygon_file New) (one (pos 0) (pos 0) 7) ≡ wrong_by 6 1) × (directory_of (polygon_file New) (one (pos 0) (pos 0) 5) ≡ wrong_by 6 0)

-- next offsets that are negative, smaller, enormous or wrong; and a wrong offset from which 3 vertices would be found
abbrev Offsets : Type 0
Offsets =
    (directory_of (polygon_file New) (two (pos 0) (pos 0) (negsuc 2147483647) (pos 3) 12) ≡ wrong_by 6 0)
    × (directory_of (polygon_file New) (two (pos 0) (pos 3) (pos 2) (pos 0) 12) ≡ wrong_by 6 1)
    × (directory_of (polygon_file New) (two (pos 0) (pos 0) (pos 2147483647) (pos 3) 12) ≡ wrong_by 6 0)
    × (directory_of (polygon_file New) (two (pos 0) (pos 0) (pos 4) (pos 3) 12) ≡ wrong_by 6 2)
    × (directory_of (polygon_file New) (one (pos 1) (pos 0) 8) ≡ wrong_by 6 0)
    × (directory_of (polygon_file New) (two (negsuc 2147483647) (pos 0) (negsuc 2147483644) (pos 0) 12) ≡ wrong_by 6 0)

examples : Found × NotFound × Range × Half × Offsets
unfolding ◌⊖◌ next_offset length_read number_from count_of pair_length end_of pairs_from directory_of lengths_from pairs_filled_in filled_in
examples = (
  (refl, refl, refl, refl, refl),
  (refl, refl, refl, refl),
  (refl, refl, refl, refl, refl, refl, refl),
  (refl, refl),
  (refl, refl, refl, refl, refl, refl),
)
