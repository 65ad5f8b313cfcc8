-- Equal answers on a directory have equal numbers.
use Rattle.std.specs.Prelude.{◌≡◌, ℕ, Result, Ok, Err}
use mathlib.Core.Path.{ap}
use Rattle.geometry.specs.declared.Refusal.{Refusal}
use Rattle.files.specs.Directory.{wrong_by, right_with}
use Rattle.files.specs.declared.Directory.{Directory}

first_number : Result Directory Refusal → ℕ
first_number (Ok directory) = directory.count
first_number (Err refusal) = refusal.number

second_number : Result Directory Refusal → ℕ
second_number (Ok directory) = directory.total
second_number (Err refusal) = refusal.place

pub right_same : {m t n u : ℕ} → right_with m t ≡ right_with n u → (m ≡ n) × (t ≡ u)
unfolding first_number second_number
right_same e = (ap first_number e, ap second_number e)

pub wrong_same : {m i n k : ℕ} → wrong_by m i ≡ wrong_by n k → (m ≡ n) × (i ≡ k)
unfolding first_number second_number
wrong_same e = (ap first_number e, ap second_number e)
