-- A layer beside its boxes, as the definitions take it.
use Rattle.std.specs.Prelude.{◌≡◌, List, ℕ, ℤ, Ok, Err, Result, T, is_ok}
use mathlib.Core.Path.{refl}
use Rattle.lists.specs.Lists.{All}
use Rattle.lists.proofs.Lists.{all_exact}
use Rattle.geometry.specs.declared.Trapezoid.{Trapezoid}
use Rattle.geometry.specs.Limit.{coordinate_limit}
use Rattle.geometry.specs.Fitness.{FitFor, verdict}
use Rattle.geometry.proofs.Fitness.{fit_exact}
use Rattle.geometry.specs.Trapezoids.{layer_of}
use Rattle.boxes_code.specs.declared.Layer.{Layer}
use Rattle.boxes_code.specs.Code.{BoxedLayer}
use Rattle.boxes_code.specs.Layers.{all_fit}

is_fit : (t : Trapezoid) → T (is_ok (verdict coordinate_limit t)) → FitFor coordinate_limit t
is_fit t h = (fit_exact coordinate_limit t).0 (go (verdict coordinate_limit t) h)
  where
    go : (v : Result (Unit {0}) ℕ) → T (is_ok v) → v ≡ Ok tt
    go (Ok u) k = refl
    go (Err n) k = absurd k

fits : (t : Trapezoid) → FitFor coordinate_limit t → T (is_ok (verdict coordinate_limit t))
fits t h = rw ((fit_exact coordinate_limit t).1 h) tt

pub fit_all : (s : List ℤ) → T (all_fit s) → All (FitFor coordinate_limit) (layer_of s)
fit_all s h = (all_exact (λ (t : Trapezoid). is_ok (verdict coordinate_limit t)) (FitFor coordinate_limit) (λ t. (is_fit t, fits t)) (layer_of s)).0 h

pub all_fits : (s : List ℤ) → All (FitFor coordinate_limit) (layer_of s) → T (all_fit s)
all_fits s h = (all_exact (λ (t : Trapezoid). is_ok (verdict coordinate_limit t)) (FitFor coordinate_limit) (λ t. (is_fit t, fits t)) (layer_of s)).1 h

-- what holds of every value of the type
pub layer_boxed : (l : Layer) → BoxedLayer l.words.now l.boxes.now
layer_boxed l = record { layer = record { fit = fit_all l.words.now l.fit; few = l.few }; boxes = record { room = l.room; each = l.each } }
