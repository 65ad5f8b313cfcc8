-- What is proved of the text.
use Rattle.std.specs.Prelude.{◌≡◌, true, false, List, [], ◌∷◌, ℕ, ◌+◌, ◌*◌, ◌-◌, ◌≤◌, ◌<◌, eqb, ℤ, pos, length, get_or}
use Rattle.lists.specs.Lists.{All}
use Rattle.integer.specs.Integer.{⊝◌}
use Rattle.records.specs.Limits.{memory_width}
use Rattle.records.specs.Records.{records_from}
use Rattle.geometry.specs.Trapezoids.{trapezoid_codec}
use Rattle.listing.specs.Listing.{decimal, decimal_word, listing, layer_listing}

-- the number that the digits cs after those of the number n stand for
unfoldable pub read_from : ℕ → List ℕ → ℕ
read_from n [] = n
read_from n (c ∷ cs) = read_from (10 * n + (c - 48)) cs

abbrev pub IsDigit : ℕ → Type 0
IsDigit c = (48 ≤ c) × (c < 58)

-- the text of a number is digits, which read back as the number, and the first is 0 only of the number 0
pub record Exact (n : ℕ) : Type 0 where
  pub all_digits : All IsDigit (decimal n)
  pub reads_back : read_from 0 (decimal n) ≡ n
  pub no_leading_zero : 0 < n → 48 < get_or (decimal n) 0 0

-- proofs/Decimal.antt: `decimal_exact`
abbrev pub DecimalExact : Type 0
DecimalExact = (n : ℕ) → Exact n

-- a minus sign, and the number after it
unfoldable pub read_word : List ℕ → ℤ
read_word [] = pos 0
read_word (c ∷ cs) = elim (eqb c 45) [ true ↦ ⊝ pos (read_from 0 cs) | false ↦ pos (read_from 0 (c ∷ cs)) ]

-- a word's text reads back as the word (proofs/Decimal.antt: `word_exact`)
abbrev pub WordExact : Type 0
WordExact = (w : ℤ) → read_word (decimal_word w) ≡ w

-- the listing of words is that of the trapezoids that they hold (proofs/Layers.antt: `layer-listed`)
abbrev pub LayerListed : Type 0
LayerListed = (n : ℕ) (s : List ℤ) → memory_width * n ≤ length s → listing n s ≡ layer_listing (records_from trapezoid_codec n s 0)
