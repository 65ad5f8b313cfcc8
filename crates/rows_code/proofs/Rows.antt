-- Rows one below the other, as `?` takes them.
use Rattle.std.specs.Prelude.{◌≡◌, Bool, true, false, ℕ, Result, Ok, Err}
use mathlib.Core.Path.{sym, ◌∙◌, refl}
use Rattle.geometry.specs.declared.Refusal.{Refusal}
use Rattle.calls.specs.Rows.{row}

-- a row that lets pass has a test that holds
pub row_true : (number : ℕ) {b : Bool} {u : Unit {0}} → Ok u ≡ row number b (Ok tt) → b ≡ true
row_true number {b} {u} f = go b f
  where
    go : (b : Bool) → Ok u ≡ row number b (Ok tt) → b ≡ true
    go true f = refl
    go false f = cc

-- and below it the rows below decide
pub row_passes : (number : ℕ) {b t : Bool} {u : Unit {0}} (below : Result (Unit {0}) Refusal) → b ≡ t → Ok u ≡ row number b (Ok tt) → below ≡ row number t below
row_passes number {b} {t} {u} below e f = rw (sym e ∙ row_true number f)

-- a row that refuses refuses whatever is below
pub row_refuses : (number : ℕ) {b t : Bool} {r : Refusal} (below : Result (Unit {0}) Refusal) → b ≡ t → Err r ≡ row number b (Ok tt) → Err r ≡ row number t below
row_refuses number {b} {t} {r} below e f = go b e f
  where
    go : (b : Bool) → b ≡ t → Err r ≡ row number b (Ok tt) → Err r ≡ row number t below
    go true e f = cc
    go false e f = f ∙ rw (sym e)
