-- The range of a trapezoid, the common range of two, and a point of a trapezoid by its range and sides.
use mathlib.Core.Path.{◌≡◌, sym}
use mathlib.Core.Bool.{true, not, ◌&&◌, and_assoc}
use lib.Dec.{T}
use mir.Facts.{and_yes, yes_and}
use Rattle.lists.proofs.Tests.{true_is}
use Rattle.integer.specs.Fraction.{Proper, before}
use Rattle.geometry.specs.declared.Base.{Base}
use Rattle.geometry.specs.declared.Trapezoid.{Trapezoid}
use Rattle.geometry.specs.Positions.{crosses, position}
use Rattle.geometry.specs.Points.{Point, at, under}
use Rattle.geometry.specs.Trapezoids.{based, lies_in}
use Rattle.geometry.specs.Ranges.{common_left, common_right}
use Rattle.geometry.proofs.Meet.{meet_proper}
use Rattle.sweep.specs.Segments.{spans}
use Rattle.overlay.specs.Overlaps.{crosses_in_common}
use Rattle.overlay.specs.Overlay.{in_range}

-- ---- a trapezoid
-- where the point stands: in the range, at or above the bottom and below the top
pub record Lies (P : Point) (t : Trapezoid) : Type 0 where
  pub from : T (not (before (at P) (position t.left)))
  pub to : T (before (at P) (position t.right))
  pub bottom : T (under P t.bottom)
  pub top : T (not (under P t.top))

pub from_lies : (P : Point) (t : Trapezoid) → T (lies_in P t) → Lies P t
unfolding lies_in
from_lies P t h =
    let a = and_yes (based t) (not (before (at P) (position t.left)) && (before (at P) (position t.right) && (under P t.bottom && not (under P t.top)))) h in
    let b = and_yes (not (before (at P) (position t.left))) (before (at P) (position t.right) && (under P t.bottom && not (under P t.top))) a.1 in
    let c = and_yes (before (at P) (position t.right)) (under P t.bottom && not (under P t.top)) b.1 in
    let d = and_yes (under P t.bottom) (not (under P t.top)) c.1 in
    record { from = b.0; to = c.0; bottom = d.0; top = d.1 }

-- the test, where the bases' lines cross
pub lies_is : (P : Point) (t : Trapezoid) → T (based t) → lies_in P t ≡ in_range (at P) t && (under P t.bottom && not (under P t.top))
unfolding lies_in spans
lies_is P t h =
    let e : based t ≡ true = true_is h in
    rw e (sym (and_assoc (not (before (at P) (position t.left))) (before (at P) (position t.right)) (under P t.bottom && not (under P t.top))))

pub to_lies : (P : Point) (t : Trapezoid) → T (based t) → Lies P t → T (lies_in P t)
unfolding spans
to_lies P t h k =
    rw (lies_is P t h)
    (yes_and (in_range (at P) t) (under P t.bottom && not (under P t.top))
    (yes_and (not (before (at P) (position t.left))) (before (at P) (position t.right)) k.from k.to)
    (yes_and (under P t.bottom) (not (under P t.top)) k.bottom k.top))

-- ---- two lines that cross strictly inside the common range
pub record Crossing (A B : Trapezoid) (k : Base) : Type 0 where
  pub cross : T (crosses k.first k.second)
  pub after : T (before (common_left A B) (position k))
  pub by : T (before (position k) (common_right A B))

pub from-crossing : (A B : Trapezoid) (k : Base) → T (crosses_in_common A B k) → Crossing A B k
unfolding crosses_in_common
from-crossing A B k h =
    let a = and_yes (crosses k.first k.second) (before (common_left A B) (position k) && before (position k) (common_right A B)) h in
    let b = and_yes (before (common_left A B) (position k)) (before (position k) (common_right A B)) a.1 in
    record { cross = a.0; after = b.0; by = b.1 }

pub to_crossing : (A B : Trapezoid) (k : Base) → Crossing A B k → T (crosses_in_common A B k)
unfolding crosses_in_common
to_crossing A B k c =
    yes_and (crosses k.first k.second) (before (common_left A B) (position k) && before (position k) (common_right A B)) c.cross
    (yes_and (before (common_left A B) (position k)) (before (position k) (common_right A B)) c.after c.by)

pub crossing_proper : (A B : Trapezoid) (k : Base) → T (crosses_in_common A B k) → Proper (position k)
crossing_proper A B k h = meet_proper k.first k.second (from-crossing A B k h).cross
