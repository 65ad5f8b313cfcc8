-- The four sides of trapezoids A and B by number: 0 is A's bottom, 1 A's top, 2 B's bottom and 3 B's top. Their vertical order right of a
-- position, and by that order the trapezoids of a column that have one tag.
use Rattle.std.specs.Prelude.{◌≡◌, Bool, true, false, cond, List, [], ◌∷◌, ℕ, eqb, ltb}
use Rattle.lists.specs.Lists.{All, Any}
use Rattle.std.specs.declared.cmp.Ordering.{Ordering}
use Rattle.std.specs.declared.cmp.Ordering.TheVariants.{Less, Equal, Greater}
use Rattle.integer.specs.Fraction.{Fraction}
use Rattle.levels.specs.Levels.{levels}
use Rattle.geometry.specs.declared.Line.{Line}
use Rattle.geometry.specs.declared.Base.{Base}
use Rattle.geometry.specs.declared.Trapezoid.{Trapezoid}
use Rattle.geometry.specs.Positions.{position, right_of, below}
use Rattle.overlay.specs.Overlay.{tag_of}
use Rattle.trapezoids_code.specs.Tails.{in_front}

abbrev pub side_numbers : List ℕ
side_numbers = 0 ∷ 1 ∷ 2 ∷ 3 ∷ []

-- each of them is in the list: a list of four is then a permutation of them
abbrev pub HasSides : List ℕ → Type 0
HasSides ys = All (λ (k : ℕ). Any (λ (y : ℕ). k ≡ y) ys) side_numbers

unfoldable pub line_of_side : Trapezoid → Trapezoid → ℕ → Line
line_of_side A B i = cond (eqb i 0) A.bottom (cond (eqb i 1) A.top (cond (eqb i 2) B.bottom B.top))

-- fa and fb say whether the column lies in the range of A and of B
unfoldable pub present_by : Bool → Bool → ℕ → Bool
present_by fa fb i = cond (ltb i 2) fa fb

-- ---- the order
-- of lines in the order o, and of coinciding ones as the test t says
abbrev pub less_by : Ordering → Bool → Bool
less_by Less t = true
less_by Equal t = t
less_by Greater t = false

-- of sides that are present or not: present ones come first; s if both are, and t if neither is
abbrev pub present_first : Bool → Bool → Bool → Bool → Bool
present_first true true s t = s
present_first true false s t = true
present_first false true s t = false
present_first false false s t = t

module _ (A B : Trapezoid) (p : Fraction) (fa fb : Bool) where
  -- by presence, then by the lines right of p, then by number
  unfoldable pub number_less : ℕ → ℕ → Bool
  number_less i j = present_first (present_by fa fb i) (present_by fa fb j) (less_by (right_of p (line_of_side A B i) (line_of_side A B j)) (ltb i j)) (ltb i j)

  unfoldable pub order_at : List ℕ
  order_at = levels number_less side_numbers

-- ---- the trapezoids of a column
-- whether one is in a trapezoid with the sides b and t, after passing the side z
abbrev pub passing : ℕ → ℕ → ℕ → Bool → Bool
passing b t z f = cond (eqb z b) true (cond (eqb z t) false f)

unfoldable pub enter_a : ℕ → Bool → Bool
enter_a z ina = passing 0 1 z ina

unfoldable pub enter_b : ℕ → Bool → Bool
enter_b z inb = passing 2 3 z inb

-- from the event p to the event q, and from the side i to the side j
abbrev pub strip : Trapezoid → Trapezoid → Base → Base → ℕ → ℕ → Trapezoid
strip A B p q i j = record { left = p; right = q; bottom = line_of_side A B i; top = line_of_side A B j }

-- those with the tag n
module _ (n : ℕ) (A B : Trapezoid) (p q : Base) (fa fb : Bool) where
  -- rep is the first side of the current group; ina and inb say whether what is above the sides so far lies in A and in B
  unfoldable pub strips_from : ℕ → Bool → Bool → List ℕ → List Trapezoid
  strips_from rep ina inb [] = []
  strips_from rep ina inb (z ∷ zs) =
      cond (present_by fa fb z)
      (cond (below (position p) (line_of_side A B rep) (line_of_side A B z))
      (in_front (eqb (tag_of ina inb) n) (strip A B p q rep z) (strips_from z (enter_a z ina) (enter_b z inb) zs))
      (strips_from rep (enter_a z ina) (enter_b z inb) zs))
      []

  unfoldable pub strips : List ℕ → List Trapezoid
  strips [] = []
  strips (z ∷ zs) = cond (present_by fa fb z) (strips_from z (enter_a z false) (enter_b z false) zs) []
