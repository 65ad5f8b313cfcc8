-- A column in which A and B do not overlap has at most two parts.
use mathlib.Core.Path.{◌≡◌, refl, sym, ap₂, subst}
use mathlib.Core.Bool.{Bool, true, false, not, cond, and-false}
use mathlib.Core.List.{List, [], ◌∷◌}
use mathlib.Core.Logic.{inl, inr}
use Prim.Native.Nat.{ℕ, ◌≤◌}
use native.Mathlib.Omega.{arith}
use lib.Dec.{T, T_not, eqb}
use lib.IntN.{pos}
use lib.ListN.{length}
use mir.Facts.{and_yes, and_no, yes_eqb}
use Rattle.lists.specs.Tests.{keep}
use Rattle.lists.proofs.Tests.{true_is, false_is, yes_or_no, cond_cases}
use Rattle.integer.specs.Fraction.{Fraction, Proper, before, mediant}
use Rattle.integer.proofs.Linear.{zarith}
use Rattle.integer.proofs.Fraction.{at_most_before_trans, mediant_proper, mediant_after, mediant-before}
use Rattle.levels.specs.Levels.{StrictWeakOrder, insert, levels}
use Rattle.levels.proofs.Order.{at_most_refl, less_at_most, at_most_less, less_trans}
use Rattle.geometry.specs.declared.Line.{Line}
use Rattle.geometry.specs.declared.Base.{Base}
use Rattle.geometry.specs.declared.Trapezoid.{Trapezoid}
use Rattle.geometry.specs.Lines.{IsLine, det}
use Rattle.geometry.specs.Positions.{gap, position, below}
use Rattle.geometry.specs.Fitness.{FitFor, BelowBetween}
use Rattle.geometry.proofs.Heights.{coincide, coincide_everywhere}
use Rattle.geometry.proofs.Between.{order_from}
use Rattle.geometry.proofs.Fitness.{left_proper, right_proper, bottom_line, top_line}
use Rattle.sweep.specs.Segments.{Segment, spans}
use Rattle.sweep.specs.Columns.{lower}
use Rattle.sweep.proofs.Column.{lower_order}
use Rattle.overlay.specs.Overlaps.{overlap_right}
use Rattle.overlay.specs.Overlay.{Part, tag_of, along, in_range, sides, segment_line, fills, tag_above, stack, parts}
use Rattle.overlay.proofs.Events.{dividers}
use Rattle.overlay.proofs.Count.{fill_top}
use Rattle.overlay.proofs.Stack.{parts_stack, stack_cases, stack_length}

-- ---- two pairs w < x and y < z with x at most y, put in order: y z w x and w x y z
module _ {S : Type 0} {less : S → S → Bool} {Good : S → Type 0} (o : StrictWeakOrder less Good) (w x y z : S) (gw : Good w) (gx : Good x) (gy : Good y) (gz : Good z)
    (wx : T (less w x)) (xy : T (not (less y x))) (yz : T (less y z)) where
  wy : T (less w y)
  wy = less_at_most less o w x y gw gx gy wx xy

  xz : T (less x z)
  xz = at_most_less less o x y z gx gy gz xy yz

  wz : T (less w z)
  wz = less_trans less o w x z gw gx gz wx xz

  -- all tests of two of them, but of x and y
  record InOrder : Type 0 where
    w_x : less w x ≡ true
    x_w : less x w ≡ false
    w_y : less w y ≡ true
    y_w : less y w ≡ false
    w_z : less w z ≡ true
    z_w : less z w ≡ false
    x_z : less x z ≡ true
    z_x : less z x ≡ false
    y_z : less y z ≡ true
    z_y : less z y ≡ false
    y_x : less y x ≡ false

  in_order : InOrder
  in_order =
      record {
        w_x = true_is wx;
        x_w = false_is (o.asymmetric w x wx);
        w_y = true_is wy;
        y_w = false_is (o.asymmetric w y wy);
        w_z = true_is wz;
        z_w = false_is (o.asymmetric w z wz);
        x_z = true_is xz;
        z_x = false_is (o.asymmetric x z xz);
        y_z = true_is yz;
        z_y = false_is (o.asymmetric y z yz);
        y_x = false_is xy;
      }

  later_first : levels less (y ∷ z ∷ w ∷ x ∷ []) ≡ cond (less x y) (w ∷ x ∷ y ∷ z ∷ []) (w ∷ y ∷ z ∷ [])
  unfolding levels insert
  later_first = go (less x y) refl in_order
    where
      go : (b : Bool) → less x y ≡ b → InOrder → levels less (y ∷ z ∷ w ∷ x ∷ []) ≡ cond b (w ∷ x ∷ y ∷ z ∷ []) (w ∷ y ∷ z ∷ [])
      go true e c = cc
      go false e c = cc

  earlier_first : levels less (w ∷ x ∷ y ∷ z ∷ []) ≡ cond (less x y) (w ∷ x ∷ y ∷ z ∷ []) (w ∷ x ∷ z ∷ [])
  unfolding levels insert
  earlier_first = go (less x y) refl in_order
    where
      go : (b : Bool) → less x y ≡ b → InOrder → levels less (w ∷ x ∷ y ∷ z ∷ []) ≡ cond b (w ∷ x ∷ y ∷ z ∷ []) (w ∷ x ∷ z ∷ [])
      go true e c = cc
      go false e c = cc

-- ---- four groups, of which what is above the second is dropped
stack_two : (A B : Trapezoid) (p q : Base) (w x y z : Segment) → tag_above A B (position p) x ≡ 0 → length (stack A B p q (w ∷ x ∷ y ∷ z ∷ [])) ≤ 2
stack_two A B p q w x y z e =
    let one : length (stack A B p q (x ∷ y ∷ z ∷ [])) ≤ 1
    = stack_cases A B p q (λ (ss : List Part). length ss ≤ 1) x y (z ∷ []) (λ d. stack_length A B p q (y ∷ z ∷ [])) (λ n. absurd (T_not (eqb (tag_above A B (position p) x) 0) n (yes_eqb e))) in
    stack_cases A B p q (λ (ss : List Part). length ss ≤ 2) w x (y ∷ z ∷ []) (λ d. omega arith) (λ n. omega arith)

-- ---- tags right of p
module _ (p : Fraction) where
  -- what is just above the top of t does not lie in t, and what is just above a line below the bottom does not either
  above_top : (t : Trapezoid) → fills p t t.top ≡ false
  above_top t = fill_top p t t.top (λ r. true_is (at_most_refl (below p) (lower_order (λ (l : Line). l) p) t.top))

  under_bottom : (t : Trapezoid) (g : Line) → T (below p g t.bottom) → fills p t g ≡ false
  unfolding fills
  under_bottom t g h = let e : below p g t.bottom ≡ true = true_is h in rw (e, and-false (in_range p t))

-- the bottom of a trapezoid is below its top right of each position of its range
in_turn : {L : ℕ} {t : Trapezoid} → FitFor L t → (p : Fraction) → Proper p → T (in_range p t) → T (below p t.bottom t.top)
unfolding spans
in_turn {L} {t} h p hp s =
    elim (yes_or_no (below p t.bottom t.top)) [
      | inl b ↦ b
      | inr b ↦ absurd (coincident (coincide p t.bottom t.top b (order_from p q t.bottom t.top hp (right_proper h) pq sides)))
    ]
  where
    q : Fraction
    q = position t.right

    k : T (not (before p (position t.left))) × T (before p (position t.right))
    k = and_yes (not (before p (position t.left))) (before p (position t.right)) s

    pq : T (before p q)
    pq = k.1

    sides : BelowBetween p q t.bottom t.top
    sides x hx u v = h.sides x hx (at_most_before_trans (position t.left) p x (left_proper h) hp hx k.0 u) v

    coincident : (gap t.bottom t.top p ≡ pos 0) × (det t.bottom t.top ≡ pos 0) → ⊥
    coincident c =
        let x = mediant p q in
        let g = sides x (mediant_proper p q hp (right_proper h)) (mediant_after p q pq) (mediant-before p q pq) in
        let z = coincide_everywhere p x t.bottom t.top hp c.0 c.1 in
        omega (zarith, z)

-- ---- the column
module _ {L : ℕ} {A B : Trapezoid} (ha : FitFor L A) (hb : FitFor L B) (p q : Base) (hp : Proper (position p)) (uA : T (in_range (position p) A)) (uB : T (in_range (position p) B)) where
  all_divide : dividers A B p ≡ sides A B
  unfolding keep sides spans
  all_divide = let u : in_range (position p) A ≡ true = true_is uA in let v : in_range (position p) B ≡ true = true_is uB in rw (u, v)

  order : StrictWeakOrder (lower segment_line (position p)) (λ (s : Segment). IsLine s.line)
  order = lower_order segment_line (position p)

  -- B at or below A
  second_first : T (not (below (position p) A.bottom B.top)) → length (stack A B p q (levels (lower segment_line (position p)) (sides A B))) ≤ 2
  unfolding sides tag_above
  second_first h =
      let w = along B B.bottom in
      let x = along B B.top in
      let y = along A A.bottom in
      let z = along A A.top in
      rw (later_first order w x y z (bottom_line hb) (top_line hb) (bottom_line ha) (top_line ha) (in_turn hb (position p) hp uB) h (in_turn ha (position p) hp uA))
      (cond_cases (λ (gs : List Segment). length (stack A B p q gs) ≤ 2) (below (position p) B.top A.bottom) (w ∷ x ∷ y ∷ z ∷ []) (w ∷ y ∷ z ∷ [])
      (λ k. stack_two A B p q w x y z (ap₂ tag_of (under_bottom (position p) A B.top k) (above_top (position p) B)))
      (λ k. stack_length A B p q (w ∷ y ∷ z ∷ [])))

  -- A at or below B
  first_first : T (not (below (position p) B.bottom A.top)) → length (stack A B p q (levels (lower segment_line (position p)) (sides A B))) ≤ 2
  unfolding sides tag_above
  first_first h =
      let w = along A A.bottom in
      let x = along A A.top in
      let y = along B B.bottom in
      let z = along B B.top in
      rw (earlier_first order w x y z (bottom_line ha) (top_line ha) (bottom_line hb) (top_line hb) (in_turn ha (position p) hp uA) h (in_turn hb (position p) hp uB))
      (cond_cases (λ (gs : List Segment). length (stack A B p q gs) ≤ 2) (below (position p) A.top B.bottom) (w ∷ x ∷ y ∷ z ∷ []) (w ∷ x ∷ z ∷ [])
      (λ k. stack_two A B p q w x y z (ap₂ tag_of (above_top (position p) A) (under_bottom (position p) B A.top k)))
      (λ k. stack_length A B p q (w ∷ x ∷ z ∷ [])))

  pub two_parts : T (not (overlap_right A B (position p))) → length (parts A B p q (dividers A B p)) ≤ 2
  unfolding overlap_right
  two_parts h =
      subst (λ (ss : List Part). length ss ≤ 2) (sym (parts_stack A B p q (dividers A B p)))
      (rw all_divide (elim (and_no (below (position p) A.bottom B.top) (below (position p) B.bottom A.top) h) [ inl k ↦ second_first k | inr k ↦ first_first k ]))
