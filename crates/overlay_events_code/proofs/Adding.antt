-- Events put into the arrays one by one.
use Rattle.std.specs.Prelude.{Option, Some, None}
use Rattle.std.specs.Bool.{then_some}
use mathlib.Core.Path.{◌≡◌, refl, sym, ◌∙◌, ap, subst}
use mathlib.Core.Bool.{Bool, true, false}
use mathlib.Core.List.{List, [], ◌∷◌}
use Prim.Native.Nat.{ℕ, ◌+◌, ◌<◌, ◌≤◌}
use native.Mathlib.Omega.{arith}
use lib.ListN.{length}
use lib.IntN.{ℤ}
use Rattle.integer.specs.Fraction.{Fraction, before}
use Rattle.geometry.specs.declared.Line.{Line}
use Rattle.geometry.specs.declared.Base.{Base}
use Rattle.geometry.specs.declared.Trapezoid.{Trapezoid}
use Rattle.geometry.specs.declared.Meeting.{Meeting}
use Rattle.geometry.specs.declared.Position.{Position}
use Rattle.geometry.specs.Positions.{position}
use Rattle.geometry.specs.Ranges.{crossing, common_left, common_right}
use Rattle.lists.specs.Tests.{keep}
use Rattle.overlay.specs.Overlaps.{crosses_in_common}
use Rattle.overlay.specs.Overlay.{side_crossings}
use Rattle.geometry_code.specs.Code.{MeetingOf, SmallPosition, SmallCrossing, PositionOf}
use Rattle.sorting_code.specs.Entries.{entry_of, Stored, Room, Names, Grown}
use Rattle.sorting_code.proofs.Naming.{none_named, named_stored, named_more}
use Rattle.overlaps_code.specs.Code.{cross_between, CrossingBetween, MeetingBetween}
use Rattle.overlay_events_code.specs.Events.{named, entry_name, front_if, events_within, Eight, AddedIf}

-- at most j events, which name the levels of ks
pub record Having (A B : Trapezoid) (ks : List Base) (j n : ℕ) (a b : List ℤ) (c : List ℕ) : Type 0 where
  pub names : Names position (entry_name A B) ks n a b c
  pub upto : n ≤ j
  pub eight : Eight a b c

-- the event k is put in if t says so: x is where it stands
abbrev StandsIf : Bool → Base → Option Position → Type 0
StandsIf t k None = t ≡ false
StandsIf t k (Some p) = (t ≡ true) × PositionOf k p

module _ (A B : Trapezoid) where
  pub having_none : (a b : List ℤ) (c : List ℕ) → Eight a b c → Having A B [] 0 0 a b c
  having_none a b c e = record { names = none_named position (entry_name A B) a b c; upto = omega arith; eight = e }

  module _ {ks : List Base} {j n : ℕ} {a b : List ℤ} {c : List ℕ} (h : Having A B ks j n a b c) where
    module _ (l : j < 8) where
      pub having_stored : Stored n a b
      having_stored =
          let e = h.eight in
          named_stored position (entry_name A B) ks n a b c h.names (omega (arith, h.upto, e.nums)) (omega (arith, h.upto, e.dens)) (omega (arith, h.upto, e.names))

      pub having_room : Room n a b c
      having_room =
          let e = h.eight in
          record { nums = omega (arith, h.upto, e.nums); dens = omega (arith, h.upto, e.dens); names = omega (arith, h.upto, e.names) }

    -- the arrays keep their lengths
    module _ {a' b' : List ℤ} {c' : List ℕ} (nums : length a' ≡ length a) (dens : length b' ≡ length b) (names : length c' ≡ length c) where
      kept : Eight a' b' c'
      kept = record { nums = nums ∙ h.eight.nums; dens = dens ∙ h.eight.dens; names = names ∙ h.eight.names }

      pub having_more : {r : ℕ} (k : Base) (id : ℕ) (p : Position) → PositionOf k p → named A B id ≡ k → Grown n a b c (entry_of p id) r a' b' c' → Having A B (k ∷ ks) (j + 1) r a' b' c'
      having_more {r} k id p s i g =
          record {
            names = subst (λ (q : Base). Names position (entry_name A B) (q ∷ ks) r a' b' c') i
                (named_more position (entry_name A B) ks n a b c h.names (entry_of p id)
                (record { is = s.is ∙ ap position (sym i); small = record { num_small = s.small.comparable.num_small; den_small = s.small.comparable.den_small; proper = s.small.proper } })
                r a' b' c' g);
            upto = omega (arith, g.upto, h.upto);
            eight = kept;
          }

      having_if : {r : ℕ} (t : Bool) (k : Base) (id : ℕ) (x : Option Position) → StandsIf t k x → named A B id ≡ k → AddedIf x id n a b c r a' b' c' → Having A B (front_if t k ks) (j + 1) r a' b' c'
      having_if {r} t k id None s i g =
          subst (λ (q : Bool). Having A B (front_if q k ks) (j + 1) r a' b' c') (sym s)
          (record { names = rw (g.0, g.1, g.2, g.3) h.names; upto = omega (arith, g.0, h.upto); eight = kept })
      having_if {r} t k id (Some p) s i g = subst (λ (q : Bool). Having A B (front_if q k ks) (j + 1) r a' b' c') (sym s.0) (having_more k id p s.1 i g)

      -- a crossing
      pub having_meeting : {r : ℕ} {lo hi : Fraction} (l m : Line) {k : Meeting} (id : ℕ) (x : Option Position) → lo ≡ common_left A B → hi ≡ common_right A B → MeetingOf l m k → named A B id ≡ crossing l m → MeetingBetween lo hi k x → AddedIf x id n a b c r a' b' c'
          → Having A B (front_if (crosses_in_common A B (crossing l m)) (crossing l m) ks) (j + 1) r a' b' c'
      having_meeting {r} {lo} {hi} l m id x el eh o i between g =
          subst (λ (t : Bool). Having A B (front_if t (crossing l m) ks) (j + 1) r a' b' c') same (having_if (cross_between lo hi (crossing l m)) (crossing l m) id x (stands x (between l m o)) i g)
        where
          same : cross_between lo hi (crossing l m) ≡ crosses_in_common A B (crossing l m)
          same = unfold cross_between crosses_in_common in rw (el, eh)

          stands : (x : Option Position) → CrossingBetween lo hi l m x → StandsIf (cross_between lo hi (crossing l m)) (crossing l m) x
          stands None z = z
          stands (Some p) z = z

      -- a base that may lie outside the range
      pub having_inside : {r : ℕ} {t w : Bool} (k : Base) (id : ℕ) {p : Position} (x : Option Position) → t ≡ w → x ≡ then_some t p → PositionOf k p → named A B id ≡ k → AddedIf x id n a b c r a' b' c' → Having A B (front_if w k ks) (j + 1) r a' b' c'
      having_inside {r} {t} {w} k id {p} x e f s i g =
          subst (λ (q : Bool). Having A B (front_if q k ks) (j + 1) r a' b' c') e (having_if t k id (then_some t p) (go t) i (subst (λ (y : Option Position). AddedIf y id n a b c r a' b' c') f g))
        where
          go : (t : Bool) → StandsIf t k (then_some t p)
          go true = (refl, s)
          go false = refl

-- ---- what is held after each step, the last name first
module _ (A B : Trapezoid) where
  abbrev crossed : Base → List Base → List Base
  crossed k ks = front_if (crosses_in_common A B k) k ks

  abbrev pub held1 : List Base
  held1 = crossed (crossing A.top B.top) []

  abbrev pub held2 : List Base
  held2 = crossed (crossing A.top B.bottom) held1

  abbrev pub held3 : List Base
  held3 = crossed (crossing A.bottom B.top) held2

  abbrev pub held4 : List Base
  held4 = crossed (crossing A.bottom B.bottom) held3

  abbrev pub held5 : List Base
  held5 = front_if (before (position B.right) (position A.right)) B.right held4

  abbrev pub held6 : List Base
  held6 = front_if (before (position A.left) (position B.left)) B.left held5

  pub all_held : A.left ∷ A.right ∷ held6 ≡ events_within A B
  unfolding events_within keep side_crossings
  all_held = refl

-- what may be put in
pub small_some : (t : Bool) (p : Position) {x : Option Position} → x ≡ then_some t p → SmallPosition p → SmallCrossing x
small_some t p e s = subst SmallCrossing (sym e) (go t)
  where
    go : (t : Bool) → SmallCrossing (then_some t p)
    go true = s
    go false = tt
