-- Marks, spans and crossings, branch by branch as the functions take them.
use Rattle.std.specs.Prelude.{None}
use Rattle.std.specs.Bool.{then_some}
use native.Mathlib.Omega.{arith}
use mathlib.Core.Path.{◌≡◌, sym, ◌∙◌, ap, subst}
use mathlib.Core.Bool.{Bool, true, false}
use Prim.Native.Nat.{ℕ, ◌≤◌}
use lib.IntN.{ℤ, pos, nat_abs}
use lib.Signed.{lt_z}
use Rattle.integer.specs.Fraction.{Fraction, before}
use Rattle.integer.specs.Integer.{◌⊕◌, ◌⊖◌}
use Rattle.integer.proofs.Tests.{lt_yes, lt_no}
use Rattle.integer.proofs.Linear.{zarith, parts}
use Rattle.geometry.specs.declared.Line.{Line}
use Rattle.geometry.specs.declared.Base.{Base}
use Rattle.geometry.specs.declared.Position.{Position}
use Rattle.geometry.specs.Positions.{crosses, meet, position}
use Rattle.sweep.specs.Segments.{spans, inside, cross_inside}
use Rattle.fracture.specs.declared.Span.{Span}
use Rattle.fracture.specs.Polygons.{whole}
use Rattle.fracture.specs.Fracture.{axis, line_by, mark}
use Rattle.fracture.proofs.Marks.{mark_cases, mark-position}
use Rattle.geometry_code.specs.Code.{fraction_of, SmallPosition}
use Rattle.polygon_events_code.specs.Code.{PlacedAt, MarkOf, SpanOf, line_segment, CrossingInside}

-- ---- marks
module _ (L : ℕ) (k : ℤ) where
  pub mark_rising : (a b : ℤ) → a ≡ k → b ≡ k ⊕ pos 1 → lt_z k (pos L) ≡ true → line_by a (pos 0) b (pos 1) ≡ (mark L k).second
  mark_rising a b ea eb e =
      let l = lt_yes k (pos L) e in
      mark_cases (λ (m : Base). line_by a (pos 0) b (pos 1) ≡ m.second) L k
      (λ h. absurd (omega (zarith, l, h)))
      (λ h. rw (ea, eb))

  pub mark_falling : (a b : ℤ) → a ≡ k ⊖ pos 1 → b ≡ k → lt_z k (pos L) ≡ false → nat_abs k ≤ L → line_by a (pos 1) b (pos 0) ≡ (mark L k).second
  mark_falling a b ea eb e n =
      let l = lt_no k (pos L) e in
      mark_cases (λ (m : Base). line_by a (pos 1) b (pos 0) ≡ m.second) L k
      (λ h. rw (ea, eb))
      (λ h. absurd (h (omega (zarith, l, n, parts k))))

  marked : (l : Line) → l ≡ (mark L k).second → ◌≡◌ {A = Base} (record { first = axis; second = l }) (mark L k)
  marked l e = mark_cases (λ (m : Base). l ≡ m.second → ◌≡◌ {A = Base} (record { first = axis; second = l }) m) L k (λ h d. λ i. record { first = axis; second = d i }) (λ h d. λ i. record { first = axis; second = d i }) e

  pub mark_event : (l : Line) (p : Position) → l ≡ (mark L k).second → PlacedAt (whole k) p → MarkOf L k (record { base = record { first = axis; second = l }; at = p })
  mark_event l p e h = let b = marked l e in record { base = b; event = record { is = h.is ∙ sym (mark-position L k) ∙ sym (ap position b); small = h.small } }

-- ---- spans
pub span_placed : {j k : ℤ} {p : Position} → j ≡ k → PlacedAt (whole j) p → PlacedAt (whole k) p
span_placed {p = p} e h = subst (λ (z : ℤ). PlacedAt (whole z) p) e h

module _ (p : Position) (l : Line) (s : Span) (h : SpanOf l s) where
  abbrev x : Fraction
  x = fraction_of p

  from_before : before (whole l.x1) x ≡ before (fraction_of s.from) x
  from_before = ap (λ (y : Fraction). before y x) (sym h.from.is)

  before_from : before x (whole l.x1) ≡ before x (fraction_of s.from)
  before_from = ap (before x) (sym h.from.is)

  before_to : before x (whole l.x2) ≡ before x (fraction_of s.to)
  before_to = ap (before x) (sym h.to.is)

  pub inside_no : before (fraction_of s.from) x ≡ false → false ≡ inside x (line_segment l)
  unfolding inside
  inside_no e = rw (from_before ∙ e)

  pub inside_yes : {r : Bool} → before (fraction_of s.from) x ≡ true → r ≡ before x (fraction_of s.to) → r ≡ inside x (line_segment l)
  unfolding inside
  inside_yes e f = rw (from_before ∙ e) (f ∙ sym before_to)

  pub spans_no : before x (fraction_of s.from) ≡ true → false ≡ spans x (line_segment l)
  unfolding spans
  spans_no e = rw (before_from ∙ e)

  pub spans_yes : {r : Bool} → before x (fraction_of s.from) ≡ false → r ≡ before x (fraction_of s.to) → r ≡ spans x (line_segment l)
  unfolding spans
  spans_yes e f = rw (before_from ∙ e) (f ∙ sym before_to)

-- ---- crossings
module _ (l m : Line) where
  pub cross_parallel : crosses l m ≡ false → CrossingInside l m None
  unfolding cross_inside
  cross_parallel e = rw e

  module _ (p : Position) (h : (crosses l m ≡ true) × (fraction_of p ≡ meet l m) × SmallPosition p) where
    at_first : inside (meet l m) (line_segment l) ≡ inside (fraction_of p) (line_segment l)
    at_first = ap (λ (x : Fraction). inside x (line_segment l)) (sym h.1)

    at_second : inside (meet l m) (line_segment m) ≡ inside (fraction_of p) (line_segment m)
    at_second = ap (λ (x : Fraction). inside x (line_segment m)) (sym h.1)

    cross_yes : inside (fraction_of p) (line_segment l) ≡ true → inside (fraction_of p) (line_segment m) ≡ true → cross_inside (line_segment l) (line_segment m) ≡ true
    unfolding cross_inside
    cross_yes e f = rw (h.0, at_first ∙ e, at_second ∙ f)

    -- strictly inside the first span, the second decides
    pub cross_second : inside (fraction_of p) (line_segment l) ≡ true → {t u : Bool} → t ≡ u → u ≡ inside (fraction_of p) (line_segment m) → CrossingInside l m (then_some t p)
    unfolding cross_inside
    cross_second e {t = true} g f = (cross_yes e (sym f ∙ sym g), record { is = h.1; small = h.2 })
    cross_second e {t = false} g f = rw (h.0, at_first ∙ e, at_second ∙ sym f ∙ sym g)

    pub cross_first : inside (fraction_of p) (line_segment l) ≡ false → {t : Bool} → t ≡ false → CrossingInside l m (then_some t p)
    unfolding cross_inside
    cross_first e {t = false} g = rw (h.0, at_first ∙ e)
    cross_first e {t = true} g = let z : ◌≡◌ {A = ℕ} 0 1 = cc in absurd (omega arith)
