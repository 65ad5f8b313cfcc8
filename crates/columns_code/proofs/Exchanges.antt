-- Four numbers put in order by five exchanges.
use mathlib.Core.Bool.{Bool, true, false}
use mathlib.Core.List.{List, [], ◌∷◌}
use Prim.Native.Nat.{ℕ}

pub record Four : Type 0 where
  pub first : ℕ
  pub second : ℕ
  pub third : ℕ
  pub fourth : ℕ

abbrev pub four_list : Four → List ℕ
four_list x = x.first ∷ x.second ∷ x.third ∷ x.fourth ∷ []

-- the two at the places in the name change places if the test says so
abbrev pub exchange01 : Bool → Four → Four
exchange01 true x = record { first = x.second; second = x.first; third = x.third; fourth = x.fourth }
exchange01 false x = x

abbrev pub exchange23 : Bool → Four → Four
exchange23 true x = record { first = x.first; second = x.second; third = x.fourth; fourth = x.third }
exchange23 false x = x

abbrev pub exchange02 : Bool → Four → Four
exchange02 true x = record { first = x.third; second = x.second; third = x.first; fourth = x.fourth }
exchange02 false x = x

abbrev pub exchange13 : Bool → Four → Four
exchange13 true x = record { first = x.first; second = x.fourth; third = x.third; fourth = x.second }
exchange13 false x = x

abbrev pub exchange12 : Bool → Four → Four
exchange12 true x = record { first = x.first; second = x.third; third = x.second; fourth = x.fourth }
exchange12 false x = x

module _ (less : ℕ → ℕ → Bool) where
  -- the lesser of the two to the lower place
  unfoldable pub sort01 : Four → Four
  sort01 x = exchange01 (less x.second x.first) x

  unfoldable pub sort23 : Four → Four
  sort23 x = exchange23 (less x.fourth x.third) x

  unfoldable pub sort02 : Four → Four
  sort02 x = exchange02 (less x.third x.first) x

  unfoldable pub sort13 : Four → Four
  sort13 x = exchange13 (less x.fourth x.second) x

  unfoldable pub sort12 : Four → Four
  sort12 x = exchange12 (less x.third x.second) x

  unfoldable pub network : Four → Four
  network x = sort12 (sort13 (sort02 (sort23 (sort01 x))))
