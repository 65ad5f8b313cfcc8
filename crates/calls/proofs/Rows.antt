-- What row 1 says of a length.
use mathlib.Core.Path.{◌≡◌}
use mathlib.Core.Bool.{true}
use Prim.Native.Nat.{ℕ, ◌≤◌, ◌%◌}
use lib.Dec.{eqb, leb}
use borrow.Author.Tests.{eqb-true, leb-true}
use Rattle.lists.proofs.Conjunction.{and_left, and_right}
use Rattle.records.specs.Limits.{sized, memory_width, max_words}

-- ---- what row 1 says of a length
pub sized_most : (n : ℕ) → sized n ≡ true → n ≤ max_words
unfolding sized
sized_most n e = leb-true n max_words (and_right (eqb (n % memory_width) 0) (leb n max_words) e)

pub sized-whole : (n : ℕ) → sized n ≡ true → n % memory_width ≡ 0
unfolding sized
sized-whole n e = eqb-true (n % memory_width) 0 (and_left (eqb (n % memory_width) 0) (leb n max_words) e)
