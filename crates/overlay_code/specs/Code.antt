-- Parts of the first trapezoid, and columns between events in arrays.
use Rattle.std.specs.Prelude.{◌≡◌, Bool, true, not, ◌&&◌, List, [], ◌∷◌, ℕ, ◌≤◌, eqb, length, ℤ}
use Rattle.lists.specs.Lists.{All}
use Rattle.geometry.specs.declared.Base.{Base}
use Rattle.geometry.specs.declared.Trapezoid.{Trapezoid}
use Rattle.geometry.specs.Positions.{position}
use Rattle.sweep.specs.Segments.{Segment}
use Rattle.sweep.specs.Sweep.{columns}
use Rattle.overlay.specs.Overlay.{Part, sides, parts, in_range}
use Rattle.sorting_code.specs.Entries.{stored, Stands}
use Rattle.overlay_events_code.specs.Events.{entry_name}

-- what has the tag lies in the first trapezoid
unfoldable pub of_first : ℕ → Bool
of_first tag = not (eqb 0 tag) && not (eqb 2 tag)

-- the parts of the columns between neighbours of a list of events
abbrev pub columns_of : Trapezoid → Trapezoid → List Base → List Part
columns_of A B ks = columns (λ (s : Segment). s) position (parts A B) (sides A B) ks

-- the first n entries stand where the events do that they name
pub record Standing (A B : Trapezoid) (n : ℕ) (a b : List ℤ) (c : List ℕ) : Type 0 where
  pub stand : All (Stands position (entry_name A B)) (stored n a b c)
  pub nums : n ≤ length a
  pub dens : n ≤ length b
  pub names : n ≤ length c

-- all but the last lie in the range of A
abbrev pub Ranged : Trapezoid → List Base → Type 0
Ranged A [] = Unit {0}
Ranged A (k ∷ []) = Unit {0}
Ranged A (k ∷ l ∷ ks) = (in_range (position k) A ≡ true) × Ranged A (l ∷ ks)
