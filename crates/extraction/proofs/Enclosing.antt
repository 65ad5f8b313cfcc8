-- Shapes that enclose others: the test says what is meant, and no two shapes of one layer enclose one shape.
use mathlib.Core.Path.{◌≡◌, refl, sym, ◌∙◌, subst}
use mathlib.Core.Bool.{not}
use mathlib.Core.List.{List, [], ◌∷◌}
use mathlib.Core.Logic.{inl}
use Prim.Native.Nat.{ℕ}
use lib.Dec.{T}
use Rattle.lists.specs.Lists.{All, At}
use Rattle.lists.proofs.Members.{at_range, at_with}
use Rattle.geometry.specs.declared.Trapezoid.{Trapezoid}
use Rattle.geometry.specs.Points.{Point, IsPoint}
use Rattle.geometry.specs.Trapezoids.{lies_in, LiesInLayer}
use Rattle.geometry.specs.Fitness.{FitFor}
use Rattle.geometry.proofs.Fitness.{fit_holds_point}
use Rattle.boolean.specs.Operations.{difference}
use Rattle.boolean.proofs.Equality.{empty_in, in_empty}
use Rattle.connectivity.specs.Touching.{Touch}
use Rattle.connectivity.specs.Paths.{TouchAt}
use Rattle.connectivity.proofs.Touches.{common_touch}
use Rattle.connectivity.proofs.Paths.{chain_one}
use Rattle.connectivity.proofs.Exact.{components_exact}
use Rattle.extraction.specs.Shapes.{shape_of, is_some}
use Rattle.extraction.specs.Extraction.{shape_encloses, encloses_at}
use Rattle.extraction.specs.Statements.{IsShape, EnclosesExact, OneEncloses}
use Rattle.extraction.proofs.Shapes.{some_shape, shape_fit, shape_at}

-- ---- the test
none_left : (ts : List Trapezoid) → T (not (is_some ts)) → ts ≡ []
none_left [] h = refl
none_left (t ∷ ts) h = absurd h

pub encloses_exact : EnclosesExact
unfolding shape_encloses
encloses_exact L A B hA hB = (
  (λ h. empty_in L B A hB hA (none_left (difference B A) h)),
  (λ f. subst (λ (ts : List Trapezoid). T (not (is_some ts))) (sym (in_empty L B A hB hA f)) tt),
)

-- ---- two shapes with a common point are one
-- two trapezoids of a layer that a point lies in touch
touch_at : (L : ℕ) (ts : List Trapezoid) → All (FitFor L) ts → (P : Point) → IsPoint P → (i j : ℕ) → At (λ (t : Trapezoid). T (lies_in P t)) ts i → At (λ (t : Trapezoid). T (lies_in P t)) ts j → TouchAt ts i j
touch_at L ts fit P hP i j h k =
    at_with (λ (t : Trapezoid). T (lies_in P t)) (λ (t : Trapezoid). At (Touch t) ts j)
    (λ t ft a. at_with (λ (u : Trapezoid). T (lies_in P u)) (Touch t) (λ u fu b. common_touch L t u ft fu (P, hP, a, b)) ts fit j k) ts fit i h

pub one_shape : (L : ℕ) (ts : List Trapezoid) → All (FitFor L) ts → (i j : ℕ) (P : Point) → IsPoint P → LiesInLayer P (shape_of ts i) → LiesInLayer P (shape_of ts j) → i ≡ j
one_shape L ts fit i j P hP h k =
    let inside : Trapezoid → Type 0 = λ t. T (lies_in P t) in
    let a = shape_at inside ts i h in
    let b = shape_at inside ts j k in
    let r = chain_one (TouchAt ts) a.0 b.0 (touch_at L ts fit P hP a.0 b.0 a.2 b.2) in
    sym a.1 ∙ ((components_exact L ts fit).exact a.0 b.0 (at_range inside ts a.0 a.2) (at_range inside ts b.0 b.2)).1 r ∙ b.1

-- ---- and a shape has a point
some_point : (L : ℕ) (ts : List Trapezoid) → All (FitFor L) ts → T (is_some ts) → (P : Point) × IsPoint P × LiesInLayer P ts
some_point L [] h s = absurd s
some_point L (t ∷ ts) h s = let k = fit_holds_point L t h.0 in (k.0, k.1, inl k.2)

pub one_encloses : OneEncloses
one_encloses L ts us hts hus i j k m f g =
    let p = some_point L (shape_of us k) (shape_fit L us hus k) ((some_shape us k).1 m) in
    one_shape L ts hts i j p.0 p.1 (f p.0 p.1 p.2) (g p.0 p.1 p.2)

-- the same of the tests
pub one_test : (L : ℕ) (ts us : List Trapezoid) → All (FitFor L) ts → All (FitFor L) us → (i j k : ℕ) → IsShape us k → T (encloses_at ts us i k) → T (encloses_at ts us j k) → i ≡ j
one_test L ts us hts hus i j k m s t =
    one_encloses L ts us hts hus i j k m
    ((encloses_exact L (shape_of ts i) (shape_of us k) (shape_fit L ts hts i) (shape_fit L us hus k)).0 s)
    ((encloses_exact L (shape_of ts j) (shape_of us k) (shape_fit L ts hts j) (shape_fit L us hus k)).0 t)
