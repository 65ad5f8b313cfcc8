-- The boxes of a layer: where box number i is disjoint from another, trapezoid number i overlaps nothing that the other encloses.
use mathlib.Core.Path.{◌≡◌, sym, ◌∙◌, ap, ap₂}
use mathlib.Core.Bool.{true, false}
use mathlib.Core.List.{List}
use Prim.Native.Nat.{ℕ, ◌+◌, ◌*◌, ◌<◌, ◌≤◌}
use native.Mathlib.Omega.{arith}
use lib.ListN.{length}
use lib.IntN.{ℤ}
use Rattle.lists.specs.Lists.{All}
use Rattle.lists.proofs.Tests.{is_true}
use Rattle.records.specs.Records.{record_at, count}
use Rattle.geometry.specs.declared.Trapezoid.{Trapezoid}
use Rattle.geometry.specs.declared.Placed.{Placed}
use Rattle.geometry.specs.Limit.{coordinate_limit}
use Rattle.geometry.specs.Fitness.{FitFor}
use Rattle.geometry.specs.Trapezoids.{trapezoid_codec}
use Rattle.geometry.proofs.Layers.{all_record}
use Rattle.overlay.specs.Overlaps.{overlaps}
use Rattle.boxes.specs.declared.Box.{Box}
use Rattle.boxes.specs.Boxes.{box_of, boxes_disjoint, Encloses}
use Rattle.boxes.proofs.Rejecting.{no_overlap, none_overlaps}
use Rattle.trapezoids_code.specs.Placed.{PlacedAs}
use Rattle.trapezoids_code.proofs.Placed.{placed_own}
use Rattle.boxes_code.specs.Code.{box_width, box_at, FirstBoxes, BoxedAs, BoxedLayer}

-- box number i has its words
pub box_room : (n : ℕ) (s d : List ℤ) (i : ℕ) → FirstBoxes n s d → i < count trapezoid_codec s → box_width * i + box_width ≤ length d
box_room n s d i h l = omega (arith, h.room, l)

module _ (s d : List ℤ) (h : BoxedLayer s d) (i : ℕ) (l : i < count trapezoid_codec s) where
  fit : FitFor coordinate_limit (record_at trapezoid_codec s i)
  fit = all_record (FitFor coordinate_limit) s i h.layer.fit l

  -- a trapezoid loaded from the layer, and its box from the slice
  pub box_loaded : (a : Placed) (e : Box) → PlacedAs (record_at trapezoid_codec s i) a → e ≡ box_at d i → BoxedAs a e
  box_loaded a e p q = record { placed = placed_own p; box = q ∙ h.boxes.each i l ∙ ap box_of (sym p.shape) }

  -- a does not overlap it
  pub apart_at_lem : (a : Placed) (e : Box) → BoxedAs a e → boxes_disjoint e (box_at d i) ≡ true → overlaps a.shape (record_at trapezoid_codec s i) ≡ false
  apart_at_lem a e b t = no_overlap coordinate_limit (omega arith) a.shape (record_at trapezoid_codec s i) b.placed.fit fit (is_true (sym (ap₂ boxes_disjoint b.box (h.boxes.each i l)) ∙ t))

  -- nor does what e encloses
  pub none_at : (e : Box) (ts : List Trapezoid) → Encloses e ts → All (FitFor coordinate_limit) ts → boxes_disjoint e (box_at d i) ≡ true → All (λ (t : Trapezoid). overlaps t (record_at trapezoid_codec s i) ≡ false) ts
  none_at e ts w hs t = none_overlaps coordinate_limit (omega arith) e ts (record_at trapezoid_codec s i) w hs fit (is_true (sym (ap (boxes_disjoint e) (h.boxes.each i l)) ∙ t))
