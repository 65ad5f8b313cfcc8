-- What the functions answer, by the definitions.
use Rattle.std.specs.Prelude.{◌≡◌, Bool, true, false, ◌&&◌, List, [], ℕ, ◌≤◌, T, set, ℤ, Option, Some, None}
use Rattle.lists.specs.Tests.{all}
use Rattle.geometry.specs.declared.Trapezoid.{Trapezoid}
use Rattle.boolean.specs.Space.{Stage, enough, space, difference_stages}
use Rattle.boolean.specs.Counts.{is_no_room}
use Rattle.connectivity.specs.Components.{own_numbers}
use Rattle.boxes.specs.declared.Box.{Box}
use Rattle.boxes.specs.Boxes.{boxes_disjoint}
use Rattle.extraction.specs.declared.Enclosure.{Enclosure}
use Rattle.extraction.specs.Shapes.{is_some}
use Rattle.extraction.specs.Extraction.{shape_encloses}
use Rattle.boxes_code.specs.Code.{box_at}

-- ---- boxes
-- a box is disjoint from each of the first n boxes of d
unfoldable pub disjoint_from : Box → List ℤ → ℕ → Bool
disjoint_from e d n = all (λ j. boxes_disjoint e (box_at d j)) (own_numbers n)

-- each of the first m boxes of c is
unfoldable pub all_disjoint : List ℤ → ℕ → List ℤ → ℕ → Bool
all_disjoint c m d n = all (λ i. disjoint_from (box_at c i) d n) (own_numbers m)

-- ---- one difference
-- whether the shape A encloses B, in a room
abbrev pub EnclosureIs : ℕ → List Trapezoid → List Trapezoid → Option Enclosure → Type 0
EnclosureIs room A B None = T (is_no_room (space room (difference_stages 0 B A)))
EnclosureIs room A B (Some e) = (space room (difference_stages 0 B A) ≡ enough e.overlays) × (shape_encloses A B ≡ e.encloses)

abbrev pub EnclosureWithin : ℕ → Option Enclosure → Type 0
EnclosureWithin m None = Unit {0}
EnclosureWithin m (Some e) = e.overlays ≤ m

-- ---- stages, answers and marks of one or many
-- these stages, if there is something to do
abbrev pub only_if : Bool → List Stage → List Stage
only_if true ms = ms
only_if false ms = []

-- the shape A with B, if that has trapezoids
abbrev pub stages_of : List Trapezoid → List Trapezoid → List Stage
stages_of A B = only_if (is_some B) (difference_stages 0 B A)

abbrev pub EnclosedAs : ℕ → List Stage → Option ℕ → Type 0
EnclosedAs room ms None = T (is_no_room (space room ms))
EnclosedAs room ms (Some overlays) = space room ms ≡ enough overlays

abbrev pub EnclosedWithin : ℕ → Option ℕ → Type 0
EnclosedWithin m None = Unit {0}
EnclosedWithin m (Some overlays) = overlays ≤ m

-- what holds of the marks where there was room for all
abbrev pub Marking : Option ℕ → Type 0 → Type 0
Marking None X = Unit {0}
Marking (Some overlays) X = X

-- a shape with trapezoids encloses another
abbrev pub some_encloses : List Trapezoid → List Trapezoid → Bool
some_encloses A B = is_some B && shape_encloses A B

-- the marks d, and that of number j set to i if the test says so
abbrev pub marked_if : Bool → List ℕ → ℕ → ℕ → List ℕ
marked_if true d j i = set d j i
marked_if false d j i = d
