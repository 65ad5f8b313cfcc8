-- Tests and remainders, by boxes.
use mathlib.Core.List.{List, [], ◌∷◌}
use mathlib.Core.Logic.{inl, inr}
use Prim.Native.Nat.{ℕ}
use lib.Dec.{not_T}
use Rattle.lists.specs.Lists.{All}
use Rattle.lists.proofs.Tests.{false_is}
use Rattle.geometry.specs.declared.Trapezoid.{Trapezoid}
use Rattle.geometry.specs.Fitness.{FitFor}
use Rattle.geometry.proofs.Fitness.{fit_more}
use Rattle.overlay.proofs.Overlaps.{apart_exact}
use Rattle.boolean.specs.Operations.{minus, minus_all}
use Rattle.boolean.proofs.Difference.{minus_all_in}
use Rattle.connectivity.specs.Touching.{touches}
use Rattle.connectivity.proofs.Touches.{touches_exact}
use Rattle.boxes.specs.declared.Box.{Box}
use Rattle.boxes.specs.Boxes.{largest_limit, box_of, Encloses}
use Rattle.boxes.specs.Statements.{NoTouch, NoOverlap, BoxEncloses, RemainderInBox, NoneOverlaps}
use Rattle.boxes.proofs.Holds.{lies_inside}
use Rattle.boxes.proofs.Apart.{box_ends, not_inside_both, boxes_apart_lem, boxes_disjoint_lem}

-- ---- two trapezoids
pub no_touch : NoTouch
no_touch L hL A B ha hb h =
    false_is (not_T (touches A B) (λ t. let c = (touches_exact L A B ha hb).0 t in boxes_apart_lem L hL A B ha hb h c.one c.one_shared.0 c.one_shared.1 c.one_shared.2))

pub no_overlap : NoOverlap
no_overlap L hL A B ha hb h = false_is ((apart_exact L A B ha hb).1 (boxes_disjoint_lem L hL A B ha hb h))

-- ---- a list of trapezoids in a box
pub box_encloses : BoxEncloses
box_encloses L hL A ha =
    record {
      ends = box_ends (fit_more L largest_limit A hL ha);
      points = λ P hP h. elim h [ inl k ↦ lies_inside ha P hP k | inr k ↦ absurd k ];
    }

-- a box encloses what is left of a list that it encloses
pub encloses_minus_all : (L : ℕ) (e : Box) (rs Bs : List Trapezoid) → All (FitFor L) rs → All (FitFor L) Bs → Encloses e rs → Encloses e (minus_all rs Bs)
encloses_minus_all L e rs Bs hs hb w = record { ends = w.ends; points = λ P hP h. w.points P hP (minus_all_in L P hP rs Bs hs hb h).0 }

-- after one trapezoid
pub encloses_minus : (L : ℕ) (e : Box) (rs : List Trapezoid) (b : Trapezoid) → All (FitFor L) rs → FitFor L b → Encloses e rs → Encloses e (minus rs b)
unfolding minus_all
encloses_minus L e rs b hs hb w = encloses_minus_all L e rs (b ∷ []) hs (hb, tt) w

pub remainder_in_box : RemainderInBox
remainder_in_box L hL A Bs ha hb = encloses_minus_all L (box_of A) (A ∷ []) Bs (ha, tt) hb (box_encloses L hL A ha)

pub none_overlaps : NoneOverlaps
none_overlaps L hL e [] B w hs hb d = tt
none_overlaps L hL e (t ∷ ts) B w hs hb d = (
  false_is ((apart_exact L t B hs.0 hb).1 (λ P hP k m. not_inside_both P hP e (box_of B) w.ends (box_ends (fit_more L largest_limit B hL hb)) d (w.points P hP (inl k)) (lies_inside hb P hP m))),
  none_overlaps L hL e ts B (record { ends = w.ends; points = λ P hP h. w.points P hP (inr h) }) hs.1 hb d,
)
