-- The number of overlays that an operation makes, and the space that it needs on the way.
use Rattle.std.specs.Prelude.{cond, List, [], ◌∷◌, ◌++◌, ℕ, ◌+◌, ltb, length}
use Rattle.geometry.specs.declared.Trapezoid.{Trapezoid}
use Rattle.overlay.specs.Overlay.{overlay, tagged}
use Rattle.boolean.specs.Operations.{Code, union, intersect, a_minus_b, b_minus_a, symmetric_difference, minus, minus_all, difference, common}

-- "after some cut or addition of the definition, the result so far plus the pieces in hand": a stage for each cut (overlay) and each addition, in
-- order, with that sum after it
pub data Stage : Type 0 where
  overlaid : ℕ → Stage
  addition : ℕ → Stage

abbrev pub size_of : Stage → ℕ
size_of (overlaid n) = n
size_of (addition n) = n

abbrev pub overlays_of : Stage → ℕ
overlays_of (overlaid n) = 1
overlays_of (addition n) = 0

-- ---- the stages of each operation; k is the number of trapezoids in the result so far
-- the remainder minus b: new ones so far are counted in k, and the old ones not yet reached are still in the remainder (paper 01: in hand)
unfoldable pub minus_stages : ℕ → List Trapezoid → Trapezoid → List Stage
minus_stages k [] b = []
minus_stages k (r ∷ rs) b = overlaid (k + length (tagged 1 (overlay r b)) + length rs) ∷ minus_stages (k + length (tagged 1 (overlay r b))) rs b

unfoldable pub minus_all_stages : ℕ → List Trapezoid → List Trapezoid → List Stage
minus_all_stages k rs [] = []
minus_all_stages k rs (b ∷ bs) = minus_stages k rs b ++ minus_all_stages k (minus rs b) bs

-- one trapezoid as the remainder, and what is left of it added
abbrev pub one_stages : ℕ → Trapezoid → List Trapezoid → List Stage
one_stages k a B = minus_all_stages k (a ∷ []) B ++ (addition (k + length (minus_all (a ∷ []) B)) ∷ [])

unfoldable pub difference_stages : ℕ → List Trapezoid → List Trapezoid → List Stage
difference_stages k [] B = []
difference_stages k (a ∷ A) B = one_stages k a B ++ difference_stages (k + length (minus_all (a ∷ []) B)) A B

-- there is no remainder
unfoldable pub common_stages : ℕ → Trapezoid → List Trapezoid → List Stage
common_stages k a [] = []
common_stages k a (b ∷ bs) = overlaid (k + length (tagged 3 (overlay a b))) ∷ common_stages (k + length (tagged 3 (overlay a b))) a bs

unfoldable pub intersection_stages : ℕ → List Trapezoid → List Trapezoid → List Stage
intersection_stages k [] B = []
intersection_stages k (a ∷ A) B = common_stages k a B ++ intersection_stages (k + length (common a B)) A B

abbrev pub stages : Code → List Trapezoid → List Trapezoid → List Stage
stages union A B = addition (length A) ∷ difference_stages (length A) B A
stages intersect A B = intersection_stages 0 A B
stages a_minus_b A B = difference_stages 0 A B
stages b_minus_a A B = difference_stages 0 B A
stages symmetric_difference A B = difference_stages 0 A B ++ difference_stages (length (difference A B)) B A

unfoldable pub deoverlapped_stages : List Trapezoid → List Trapezoid → List Stage
deoverlapped_stages done [] = []
deoverlapped_stages done (a ∷ A) = one_stages (length done) a done ++ deoverlapped_stages (done ++ minus_all (a ∷ []) done) A

-- "Sameness: A−B, and B−A only if that was empty."
abbrev pub only_if_empty : List Trapezoid → List Stage → List Stage
only_if_empty [] ms = ms
only_if_empty (t ∷ ts) ms = []

abbrev pub equality_stages : List Trapezoid → List Trapezoid → List Stage
equality_stages A B = difference_stages 0 A B ++ only_if_empty (difference A B) (difference_stages 0 B A)

-- ---- in a space of `room` trapezoids
-- enough, with all overlays made; or not, with those up to the first stage past the room
pub data Space : Type 0 where
  enough : ℕ → Space
  no_room : ℕ → Space

abbrev pub plus : ℕ → Space → Space
plus n (enough m) = enough (n + m)
plus n (no_room m) = no_room (n + m)

unfoldable pub space : ℕ → List Stage → Space
space room [] = enough 0
space room (m ∷ ms) = cond (ltb room (size_of m)) (no_room (overlays_of m)) (plus (overlays_of m) (space room ms))
