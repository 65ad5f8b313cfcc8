-- The events of an overlay in the range of the first trapezoid, in arrays, in order.
use Rattle.std.specs.Prelude.{◌≡◌, Bool, cond, List, ◌∷◌, ℕ, ◌≤◌, eqb, length, ℤ, Option, Some, None}
use Rattle.lists.specs.Tests.{keep}
use Rattle.integer.specs.Fraction.{before}
use Rattle.geometry.specs.declared.Base.{Base}
use Rattle.geometry.specs.declared.Trapezoid.{Trapezoid}
use Rattle.geometry.specs.declared.Position.{Position}
use Rattle.geometry.specs.Positions.{position}
use Rattle.geometry.specs.Ranges.{crossing}
use Rattle.overlay.specs.Overlaps.{crosses_in_common}
use Rattle.overlay.specs.Overlay.{side_crossings}
use Rattle.sorting_code.specs.Entries.{Entry, entry_of, Names, Grown}

-- the place of an event in the order of names: A left, A right, B left, B right, bottom-bottom, A bottom with B top, A top with B bottom, top-top
unfoldable pub named : Trapezoid → Trapezoid → ℕ → Base
named A B k =
    cond (eqb k 0) A.left
    (cond (eqb k 1) A.right
    (cond (eqb k 2) B.left
    (cond (eqb k 3) B.right
    (cond (eqb k 4) (crossing A.bottom B.bottom)
    (cond (eqb k 5) (crossing A.bottom B.top) (cond (eqb k 6) (crossing A.top B.bottom) (crossing A.top B.top)))))))

abbrev pub entry_name : Trapezoid → Trapezoid → Entry → Base
entry_name A B e = named A B e.name

-- x in front of xs, if t says so
abbrev pub front_if : Bool → Base → List Base → List Base
front_if t x xs = cond t (x ∷ xs) xs

-- `overlay_events` without those bases of B that are not strictly inside the range of A
unfoldable pub events_within : Trapezoid → Trapezoid → List Base
events_within A B =
    A.left ∷ A.right
    ∷ front_if (before (position A.left) (position B.left)) B.left
    (front_if (before (position B.right) (position A.right)) B.right (keep (crosses_in_common A B) (side_crossings A B)))

-- ---- in arrays
pub record Eight (a b : List ℤ) (c : List ℕ) : Type 0 where
  pub nums : length a ≡ 8
  pub dens : length b ≡ 8
  pub names : length c ≡ 8

pub record EventsWithin (A B : Trapezoid) (n : ℕ) (a b : List ℤ) (c : List ℕ) : Type 0 where
  pub names : Names position (entry_name A B) (events_within A B) n a b c
  pub few : n ≤ 8

-- a position with a name, if there is one, has been put in
abbrev pub AddedIf : Option Position → ℕ → ℕ → List ℤ → List ℤ → List ℕ → ℕ → List ℤ → List ℤ → List ℕ → Type 0
AddedIf None id n a b c r a' b' c' = (r ≡ n) × (a' ≡ a) × (b' ≡ b) × (c' ≡ c)
AddedIf (Some p) id n a b c r a' b' c' = Grown n a b c (entry_of p id) r a' b' c'
