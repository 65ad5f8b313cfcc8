-- "Files are signed 32-bit words, low byte first."
use Rattle.std.specs.Prelude.{cond, List, [], ◌∷◌, ℕ, ◌+◌, ◌*◌, ◌-◌, ◌/◌, ◌%◌, ◌<◌, ltb, ℤ, pos, negsuc, get_or}
use Rattle.std.specs.Int.Signed.{mag}
use Rattle.records.specs.Records.{Codec, Faithful}

abbrev pub Byte : ℕ → Type 0
Byte b = b < 256

-- −2³¹ to 2³¹ − 1: `mag` is n of n and of −(n + 1)
abbrev pub Word : ℤ → Type 0
Word z = mag z < 2147483648

-- the number of four bytes, the low one first
unfoldable pub unsigned : ℕ → ℕ → ℕ → ℕ → ℕ
unsigned b₀ b₁ b₂ b₃ = b₀ + 256 * b₁ + 65536 * b₂ + 16777216 * b₃

-- two's complement: a number from 2³¹ on stands for itself less 2³²
unfoldable pub signed : ℕ → ℤ
signed n = cond (ltb n 2147483648) (pos n) (negsuc (4294967295 - n))

-- and back: a negative number's is its sum with 2³²
abbrev pub pattern : ℤ → ℕ
pattern (pos n) = n
pattern (negsuc n) = 4294967295 - n

unfoldable pub word_of : List ℕ → ℤ
word_of bs = signed (unsigned (get_or bs 0 0) (get_or bs 1 0) (get_or bs 2 0) (get_or bs 3 0))

unfoldable pub bytes_of : ℤ → List ℕ
bytes_of z = pattern z % 256 ∷ pattern z / 256 % 256 ∷ pattern z / 65536 % 256 ∷ pattern z / 16777216 % 256 ∷ []

-- a file's words as records of four bytes
abbrev pub word_codec : Codec ℕ ℤ
word_codec = record { width = 4; blank = 0; encode = bytes_of; decode = word_of }

-- every word goes to four bytes and back, and every four bytes to a word and back (proofs/Words.antt: `words_faithful`)
abbrev pub WordsFaithful : Type 0
WordsFaithful = Faithful word_codec Word Byte
