-- What the functions answer and write, by the definitions, of families of shapes: F has the shapes with numbers below n, some of them empty.
use Rattle.std.specs.Prelude.{◌≡◌, cond, ◌&&◌, List, ℕ, zero, suc, ◌<◌, length, get_or}
use Rattle.lists.specs.Lists.{each}
use Rattle.lists.specs.Tests.{keep}
use Rattle.records.specs.Limits.{max_records}
use Rattle.geometry.specs.declared.Trapezoid.{Trapezoid}
use Rattle.boolean.specs.Space.{Stage, difference_stages}
use Rattle.connectivity.specs.Components.{own_numbers}
use Rattle.extraction.specs.Shapes.{is_some}
use Rattle.enclosure_code.specs.Code.{only_if, some_encloses}

module _ (G : ℕ → List Trapezoid) where
  -- the numbers below n whose shapes have trapezoids
  abbrev pub some_below : ℕ → List ℕ
  some_below n = keep (λ k. is_some (G k)) (own_numbers n)

  -- the shape A with each of G
  unfoldable pub row_stages : List Trapezoid → ℕ → List Stage
  row_stages A n = each (λ j. difference_stages 0 (G j) A) (some_below n)

  -- if it has trapezoids itself
  abbrev pub row_of : List Trapezoid → ℕ → List Stage
  row_of A n = only_if (is_some A) (row_stages A n)

-- each shape of F with each of G
unfoldable pub family_stages : (F : ℕ → List Trapezoid) (m : ℕ) (G : ℕ → List Trapezoid) (n : ℕ) → List Stage
family_stages F m G n = each (λ i. row_stages G (F i) n) (some_below F m)

-- ---- marks: for each shape of G the number of the shape that encloses it
-- the mark of a shape that none encloses
abbrev pub unmarked : ℕ
unmarked = max_records

-- the marks d, and those of the shapes that A encloses, if it has trapezoids, set to the number i
pub record RowMarked (A : List Trapezoid) (i : ℕ) (G : ℕ → List Trapezoid) (d₀ d : List ℕ) : Type 0 where
  pub same : length d ≡ length d₀
  pub each : (j : ℕ) → j < length d₀ → get_or d j 0 ≡ cond (is_some A && some_encloses A (G j)) i (get_or d₀ j 0)

-- of the shapes of F with numbers below m the last that encloses B
unfoldable pub last_mark : (ℕ → List Trapezoid) → ℕ → List Trapezoid → ℕ
last_mark F zero B = unmarked
last_mark F (suc i) B = cond (is_some (F i) && some_encloses (F i) B) i (last_mark F i B)

pub record FamilyMarked (F : ℕ → List Trapezoid) (m : ℕ) (G : ℕ → List Trapezoid) (n : ℕ) (d : List ℕ) : Type 0 where
  pub one_each : length d ≡ n
  pub each : (j : ℕ) → j < n → get_or d j 0 ≡ last_mark F m (G j)
