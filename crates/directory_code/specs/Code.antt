-- Words whose count is n, with the pairs complete, and few enough for the functions.
use Rattle.std.specs.Prelude.{◌≡◌, List, ℕ, ◌+◌, ◌*◌, ◌/◌, ◌≤◌, ℤ, length}
use Rattle.files.specs.Formats.{file_words}
use Rattle.files.specs.Pairs.{count_in}

-- `size` is how many words there are
pub record Complete (ws : List ℤ) (size n : ℕ) : Type 0 where
  pub is : count_in ws ≡ n
  pub few : n ≤ 64
  pub complete : 2 * n + 1 ≤ size

-- a file's
abbrev pub Paired : List ℕ → ℕ → Type 0
Paired file n = Complete (file_words file) (length file / 4) n
