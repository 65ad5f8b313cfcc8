-- What holds of a layer of fit trapezoids beside the box of each, as facts that have at most one proof.
use Rattle.std.specs.Prelude.{◌≡◌, Bool, List, ℕ, ◌<◌, ℤ, is_ok}
use Rattle.std.specs.Coded.{Π_prop, Coded-set}
use Rattle.lists.specs.Tests.{all}
use Rattle.records.specs.Records.{record_at, count}
use Rattle.geometry.specs.declared.Trapezoid.{Trapezoid}
use Rattle.geometry.specs.Limit.{coordinate_limit}
use Rattle.geometry.specs.Fitness.{verdict}
use Rattle.geometry.specs.Trapezoids.{trapezoid_codec, layer_of}
use Rattle.boxes.specs.declared.Box.{Box}
use Rattle.boxes.specs.contracts.Box as box
use Rattle.boxes.specs.Boxes.{box_of}
use Rattle.boxes_code.specs.Code.{box_at}

-- every trapezoid of the words is fit
abbrev pub all_fit : List ℤ → Bool
all_fit s = all (λ (t : Trapezoid). is_ok (verdict coordinate_limit t)) (layer_of s)

-- d holds the box of each
abbrev pub BoxEach : List ℤ → List ℤ → Type 0
BoxEach s d = (i : ℕ) → i < count trapezoid_codec s → box_at d i ≡ box_of (record_at trapezoid_codec s i)

Box-set : IsSet Box
Box-set = Coded-set (box.the_row).coded

pub BoxEach-prop : (s d : List ℤ) → IsProp (BoxEach s d)
BoxEach-prop s d = Π_prop (λ i. Π_prop (λ l. Box-set (box_at d i) (box_of (record_at trapezoid_codec s i))))
