-- A result without its sets is that of the layers without their sets.
use mathlib.Core.Path.{◌≡◌, refl, ap, ◌∙◌}
use mathlib.Core.List.{List, [], ◌∷◌, ◌++◌}
use lib.IntN.{ℤ}
use Rattle.geometry.specs.declared.Trapezoid.{Trapezoid}
use Rattle.geometry.specs.Trapezoids.{layer_of}
use Rattle.sources.specs.Sets.{joined}
use Rattle.sources.specs.Sourced.{Sourced, sourced_of, shapes, bearing}
use Rattle.sources.proofs.Sourced.{shapes_of, shapes_append, shapes-bearing}
use Rattle.overlay.specs.Overlay.{overlay, tagged}
use Rattle.boolean.specs.Operations.{Code, union, intersect, a_minus_b, b_minus_a, symmetric_difference, minus_all, difference, common, intersection, result, deoverlapped_from, deoverlapped}
use Rattle.boolean.specs.Sources.{sourced_difference, sourced_common, sourced_intersection, sourced_result, sourced_deoverlapped_from, sourced_deoverlapped, ResultForgets, DeoverlappedForgets}

pub difference_forgets : (A : List Sourced) (B : List Trapezoid) → shapes (sourced_difference A B) ≡ difference (shapes A) B
unfolding sourced_difference difference
difference_forgets [] B = refl
difference_forgets (a ∷ A) B =
    let one = minus_all (a.shape ∷ []) B in
    shapes_append (bearing a.sources one) (sourced_difference A B) ∙ (λ j. shapes-bearing a.sources one j ++ difference_forgets A B j)

pub common_forgets : (a : Sourced) (bs : List Sourced) → shapes (sourced_common a bs) ≡ common a.shape (shapes bs)
unfolding sourced_common common
common_forgets a [] = refl
common_forgets a (b ∷ bs) =
    let z = joined a.sources b.sources in
    let both = tagged 3 (overlay a.shape b.shape) in
    shapes_append (bearing z both) (sourced_common a bs) ∙ (λ j. shapes-bearing z both j ++ common_forgets a bs j)

pub intersection_forgets : (A B : List Sourced) → shapes (sourced_intersection A B) ≡ intersection (shapes A) (shapes B)
unfolding sourced_intersection intersection
intersection_forgets [] B = refl
intersection_forgets (a ∷ A) B = shapes_append (sourced_common a B) (sourced_intersection A B) ∙ (λ j. common_forgets a B j ++ intersection_forgets A B j)

pub result_forgets : ResultForgets
result_forgets union A B = shapes_append A (sourced_difference B (shapes A)) ∙ ap (λ (ts : List Trapezoid). shapes A ++ ts) (difference_forgets B (shapes A))
result_forgets intersect A B = intersection_forgets A B
result_forgets a_minus_b A B = difference_forgets A (shapes B)
result_forgets b_minus_a A B = difference_forgets B (shapes A)
result_forgets symmetric_difference A B =
    shapes_append (sourced_difference A (shapes B)) (sourced_difference B (shapes A)) ∙ (λ j. difference_forgets A (shapes B) j ++ difference_forgets B (shapes A) j)

-- what deoverlapping holds after one more
pub added_forgets : (done : List Sourced) (a : Sourced)
    → shapes (done ++ bearing a.sources (minus_all (a.shape ∷ []) (shapes done))) ≡ shapes done ++ minus_all (a.shape ∷ []) (shapes done)
added_forgets done a =
    let one = minus_all (a.shape ∷ []) (shapes done) in
    shapes_append done (bearing a.sources one) ∙ ap (λ (ts : List Trapezoid). shapes done ++ ts) (shapes-bearing a.sources one)

pub deoverlapped_from_forgets : (done A : List Sourced) → shapes (sourced_deoverlapped_from done A) ≡ deoverlapped_from (shapes done) (shapes A)
unfolding sourced_deoverlapped_from deoverlapped_from
deoverlapped_from_forgets done [] = refl
deoverlapped_from_forgets done (a ∷ A) =
    deoverlapped_from_forgets (done ++ bearing a.sources (minus_all (a.shape ∷ []) (shapes done))) A
    ∙ ap (λ (ts : List Trapezoid). deoverlapped_from ts (shapes A)) (added_forgets done a)

pub deoverlapped_forgets : DeoverlappedForgets
deoverlapped_forgets A = deoverlapped_from_forgets [] A

-- ---- of the words of layers
pub result_of : (c : Code) (a b : List ℤ) → shapes (sourced_result c (sourced_of a) (sourced_of b)) ≡ result c (layer_of a) (layer_of b)
result_of c a b = result_forgets c (sourced_of a) (sourced_of b) ∙ (λ j. result c (shapes_of a j) (shapes_of b j))

pub deoverlapped_of : (a : List ℤ) → shapes (sourced_deoverlapped (sourced_of a)) ≡ deoverlapped (layer_of a)
deoverlapped_of a = deoverlapped_forgets (sourced_of a) ∙ ap deoverlapped (shapes_of a)
