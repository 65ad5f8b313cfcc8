-- A refusal, as a check answers it.
use Rattle.std.specs.Prelude.{ℕ, Result, Err}
use Rattle.geometry.specs.declared.Refusal.{Refusal}

-- the check ends with this number and place
abbrev pub refused_by : ℕ → ℕ → Result (Unit {0}) Refusal
refused_by number place = Err (record { number = number; place = place })
