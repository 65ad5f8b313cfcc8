-- Texts by computation.
use mathlib.Core.Path.{◌≡◌, refl}
use mathlib.Core.List.{List, [], ◌∷◌}
use lib.IntN.{ℤ, pos, negsuc}
use Rattle.listing.specs.Listing.{digits, decimal, decimal_word, words_line, numbered, lines_from, listing, refusal_line}

-- `0`, `10` and `-2147483648`
zero_text : decimal_word (pos 0) ≡ 48 ∷ []
unfolding digits decimal decimal_word
zero_text = refl

ten_text : decimal_word (pos 10) ≡ 49 ∷ 48 ∷ []
unfolding digits decimal decimal_word
ten_text = refl

least_text : decimal_word (negsuc 2147483647) ≡ 45 ∷ 50 ∷ 49 ∷ 52 ∷ 55 ∷ 52 ∷ 56 ∷ 51 ∷ 54 ∷ 52 ∷ 56 ∷ []
unfolding digits decimal decimal_word
least_text = refl

-- "Words 1 0 3 0 0 2 0 0 2 give:" the piece 0 0 1 0 0 0 1 1 0 0 1 0 2 0 3 1 0 0 2 0 0 2 2 0; in memory with a set, here of all source layers
triangle : List ℤ
triangle =
    pos 0 ∷ pos 0 ∷ pos 1 ∷ pos 0 ∷ pos 0 ∷ pos 0 ∷ pos 1 ∷ pos 1
    ∷ pos 0 ∷ pos 0 ∷ pos 1 ∷ pos 0 ∷ pos 2 ∷ pos 0 ∷ pos 3 ∷ pos 1
    ∷ pos 0 ∷ pos 0 ∷ pos 2 ∷ pos 0 ∷ pos 0 ∷ pos 2 ∷ pos 2 ∷ pos 0 ∷ negsuc 0 ∷ []

-- `pieces 1` and the line of its 24 words
paper : listing 1 triangle ≡
    112 ∷ 105 ∷ 101 ∷ 99 ∷ 101 ∷ 115 ∷ 32 ∷ 49 ∷ 10
    ∷ 48 ∷ 32 ∷ 48 ∷ 32 ∷ 49 ∷ 32 ∷ 48 ∷ 32 ∷ 48 ∷ 32 ∷ 48 ∷ 32 ∷ 49 ∷ 32 ∷ 49 ∷ 32
    ∷ 48 ∷ 32 ∷ 48 ∷ 32 ∷ 49 ∷ 32 ∷ 48 ∷ 32 ∷ 50 ∷ 32 ∷ 48 ∷ 32 ∷ 51 ∷ 32 ∷ 49 ∷ 32
    ∷ 48 ∷ 32 ∷ 48 ∷ 32 ∷ 50 ∷ 32 ∷ 48 ∷ 32 ∷ 48 ∷ 32 ∷ 50 ∷ 32 ∷ 50 ∷ 32 ∷ 48 ∷ 10 ∷ []
unfolding digits decimal decimal_word words_line numbered lines_from listing triangle
paper = refl

-- `refused 12 place 3`
refused : refusal_line 12 3 ≡
    114 ∷ 101 ∷ 102 ∷ 117 ∷ 115 ∷ 101 ∷ 100 ∷ 32 ∷ 49 ∷ 50 ∷ 32 ∷ 112 ∷ 108 ∷ 97 ∷ 99 ∷ 101 ∷ 32 ∷ 51 ∷ 10 ∷ []
unfolding digits decimal numbered
refused = refl
