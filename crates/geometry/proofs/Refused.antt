-- Equal refusals have equal numbers and places.
use Rattle.std.specs.Prelude.{◌≡◌, ℕ, Result, Ok, Err}
use mathlib.Core.Path.{ap}
use Rattle.geometry.specs.declared.Refusal.{Refusal}
use Rattle.geometry.specs.Refusals.{refused_by}

number_in : Result (Unit {0}) Refusal → ℕ
number_in (Ok u) = 0
number_in (Err r) = r.number

place_in : Result (Unit {0}) Refusal → ℕ
place_in (Ok u) = 0
place_in (Err r) = r.place

pub refused_same : {m i n k : ℕ} → refused_by m i ≡ refused_by n k → (m ≡ n) × (i ≡ k)
unfolding number_in place_in
refused_same e = (ap number_in e, ap place_in e)
