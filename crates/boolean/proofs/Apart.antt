-- Trapezoids that do not overlap: the overlay leaves them whole.
use mathlib.Core.Path.{◌≡◌, refl}
use mathlib.Core.Bool.{false}
use mathlib.Core.List.{[], ◌∷◌}
use Rattle.geometry.specs.declared.Trapezoid.{Trapezoid}
use Rattle.overlay.specs.Overlaps.{overlaps}
use Rattle.overlay.specs.Overlay.{overlay, tagged}

pub part_apart : (a b : Trapezoid) → overlaps a b ≡ false → tagged 1 (overlay a b) ≡ a ∷ []
unfolding overlay tagged
part_apart a b e = rw e refl

pub common_apart : (a b : Trapezoid) → overlaps a b ≡ false → tagged 3 (overlay a b) ≡ []
unfolding overlay tagged
common_apart a b e = rw e refl
