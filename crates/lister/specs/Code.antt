-- A text put into a buffer.
use Rattle.std.specs.Prelude.{◌≡◌, List, ◌++◌, ℕ, length, drop}

-- a function that puts a text at the start of d leaves e, and answers the text's length
abbrev pub Put : List ℕ → List ℕ → ℕ → List ℕ → Type 0
Put text d r e = (r ≡ length text) × (e ≡ text ++ drop r d)
