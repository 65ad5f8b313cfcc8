-- Two layers of at most 16 trapezoids each.
use mathlib.Core.Path.{◌≡◌}
use mathlib.Core.Bool.{true}
use mathlib.Core.List.{List}
use Prim.Native.Nat.{◌≤◌}
use lib.ListN.{length}
use lib.Dec.{leb}
use lib.IntN.{ℤ}
use borrow.Author.Tests.{leb-true}
use Rattle.lists.proofs.Conjunction.{and_left, and_right}
use Rattle.boxes_code.specs.Code.{small_words, both_small}

pub small_words_lem : (s t : List ℤ) → both_small s t ≡ true → (length s ≤ small_words) × (length t ≤ small_words)
small_words_lem s t e = (leb-true (length s) small_words (and_left (leb (length s) small_words) (leb (length t) small_words) e), leb-true (length t) small_words (and_right (leb (length s) small_words) (leb (length t) small_words) e))
