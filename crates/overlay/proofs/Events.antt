-- The events are enough: the bases of A and B, and each crossing of a side of A with a side of B strictly inside both.
use mathlib.Core.Path.{◌≡◌, refl, ap, subst}
use mathlib.Core.Bool.{◌&&◌}
use mathlib.Core.List.{List}
use mathlib.Core.Logic.{inl, inr}
use Prim.Native.Nat.{ℕ}
use lib.Dec.{T}
use mir.Facts.{and_yes}
use Rattle.lists.specs.Lists.{All, Any}
use Rattle.lists.specs.Tests.{keep}
use Rattle.lists.proofs.Lists.{any_map, all_of}
use Rattle.lists.proofs.Kept.{keep_all, keep_any}
use Rattle.integer.specs.Fraction.{Proper, before}
use Rattle.integer.proofs.Linear.{zarith}
use Rattle.levels.specs.Levels.{levels}
use Rattle.geometry.specs.declared.Line.{Line}
use Rattle.geometry.specs.declared.Base.{Base}
use Rattle.geometry.specs.declared.Trapezoid.{Trapezoid}
use Rattle.geometry.specs.Positions.{crosses, meet, position}
use Rattle.geometry.specs.Fitness.{FitFor}
use Rattle.geometry.specs.Ranges.{crossing}
use Rattle.geometry.proofs.Meet.{meet_proper, meet-gap}
use Rattle.geometry.proofs.Fitness.{left_proper, right_proper, bottom_line, top_line}
use Rattle.geometry.proofs.Ranges.{after_left, to_right}
use Rattle.sweep.specs.Segments.{Segment, inside, cross_inside, spanning}
use Rattle.sweep.specs.Columns.{lower}
use Rattle.sweep.specs.Sweep.{Complete, Column}
use Rattle.overlay.specs.Overlaps.{crosses_in_common}
use Rattle.overlay.specs.Overlay.{along, sides, side_crossings, overlay_events, segment_line}
use Rattle.overlay.proofs.Ranges.{to_crossing, crossing_proper}

-- what is known of the column from p to q of the subdivision of A and B
abbrev pub Cell : Trapezoid → Trapezoid → Base → Base → Type 0
Cell A B p q = Column (λ (s : Segment). s) position (sides A B) (overlay_events A B) p q

-- the sides that divide the column from p on, and their groups
abbrev pub dividers : Trapezoid → Trapezoid → Base → List Segment
dividers A B p = spanning (λ (s : Segment). s) (position p) (sides A B)

abbrev pub groups : Trapezoid → Trapezoid → Base → List Segment
groups A B p = levels (lower segment_line (position p)) (dividers A B p)

-- ---- where two segments cross strictly inside both
pub record Inside (s t : Segment) : Type 0 where
  pub cross : T (crosses s.line t.line)
  pub from_first : T (before s.from (meet s.line t.line))
  pub to_first : T (before (meet s.line t.line) s.to)
  pub from_second : T (before t.from (meet s.line t.line))
  pub to_second : T (before (meet s.line t.line) t.to)

pub cross_inside_lem : (s t : Segment) → T (cross_inside s t) → Inside s t
unfolding cross_inside inside
cross_inside_lem s t h =
    let m = meet s.line t.line in
    let a = and_yes (crosses s.line t.line) (inside m s && inside m t) h in
    let b = and_yes (inside m s) (inside m t) a.1 in
    let c = and_yes (before s.from m) (before m s.to) b.0 in
    let d = and_yes (before t.from m) (before m t.to) b.1 in
    record { cross = a.0; from_first = c.0; to_first = c.1; from_second = d.0; to_second = d.1 }

-- the two sides of a trapezoid do not
pub own_sides : {L : ℕ} {t : Trapezoid} → FitFor L t → T (cross_inside (along t t.bottom) (along t t.top)) → ⊥
own_sides {L} {t} h c =
    let i = cross_inside_lem (along t t.bottom) (along t t.top) c in
    let g = h.sides (meet t.bottom t.top) (meet_proper t.bottom t.top i.cross) i.from_first i.to_first in
    omega (zarith, meet-gap t.bottom t.top)

-- ---- the events
module _ {L : ℕ} {A B : Trapezoid} (ha : FitFor L A) (hb : FitFor L B) where
  pub crosses_in_common_lem : (l m : Line) → T (cross_inside (along A l) (along B m)) → T (crosses_in_common A B (crossing l m))
  crosses_in_common_lem l m c =
      let i = cross_inside_lem (along A l) (along B m) c in
      let hr = meet_proper l m i.cross in
      to_crossing A B (crossing l m) (record {
        cross = i.cross;
        after = after_left ha hb (meet l m) hr i.from_first i.from_second;
        by = to_right ha hb (meet l m) hr i.to_first i.to_second;
      })

  crossing_event : (l m : Line) → T (cross_inside (along A l) (along B m)) → Any (λ (k : Base). crossing l m ≡ k) (side_crossings A B) → Any (λ (k : Base). meet l m ≡ position k) (overlay_events A B)
  unfolding overlay_events
  crossing_event l m c i =
      let kept : Any (λ (k : Base). (meet l m ≡ position k) × T (crosses_in_common A B k)) (side_crossings A B)
      = any_map (λ k e. (ap position e, subst (λ (k : Base). T (crosses_in_common A B k)) e (crosses_in_common_lem l m c))) (side_crossings A B) i in
      inr (inr (inr (inr (keep_any (crosses_in_common A B) (λ (k : Base). meet l m ≡ position k) (side_crossings A B) kept))))

  crossings_proper : All (λ (k : Base). Proper (position k)) (keep (crosses_in_common A B) (side_crossings A B))
  crossings_proper = keep_all (crosses_in_common A B) (λ k u h. crossing_proper A B k h) (side_crossings A B) (all_of (λ (k : Base). Unit {0}) (λ k. tt) (side_crossings A B))

  pub complete : Complete (λ (s : Segment). s) position (sides A B) (overlay_events A B)
  unfolding sides overlay_events side_crossings
  complete =
      record {
        proper = (left_proper ha, (right_proper ha, (left_proper hb, (right_proper hb, crossings_proper))));
        lines = (bottom_line ha, (top_line ha, (bottom_line hb, (top_line hb, tt))));
        from = (inl refl, (inl refl, (inr (inr (inl refl)), (inr (inr (inl refl)), tt))));
        to = (inr (inl refl), (inr (inl refl), (inr (inr (inr (inl refl))), (inr (inr (inr (inl refl))), tt))));
        meets = (
          ((λ c. absurd (own_sides ha c)), ((λ c. crossing_event A.bottom B.bottom c (inl refl)), ((λ c. crossing_event A.bottom B.top c (inr (inl refl))), tt))),
          (
            ((λ c. crossing_event A.top B.bottom c (inr (inr (inl refl)))), ((λ c. crossing_event A.top B.top c (inr (inr (inr (inl refl))))), tt)),
            (((λ c. absurd (own_sides hb c)), tt), (tt, tt)),
          ),
        );
      }
