-- Between two positions with no event strictly between them no segment begins or ends, and no two cross.
use mathlib.Core.Path.{◌≡◌, sym, ap₂, subst}
use mathlib.Core.Bool.{Bool, not, ◌&&◌}
use mathlib.Core.List.{List}
use mathlib.Core.Logic.{◌⊎◌, inl, inr}
use lib.Dec.{T, T_not}
use lib.IntN.{pos}
use mir.Facts.{and_yes, yes_and}
use Rattle.lists.specs.Lists.{All}
use Rattle.lists.proofs.Tests.{yes_or_no, same_test}
use Rattle.lists.proofs.Lists.{all_map, all_with, any_elim, all_both, all_pairs}
use Rattle.lists.proofs.Kept.{keep_all}
use Rattle.integer.specs.Fraction.{Fraction, Proper, before}
use Rattle.integer.proofs.Linear.{zarith, neg_zero}
use Rattle.integer.proofs.Fraction.{cross_turn, cross→at_most, before_at_most_trans, at_most_before_trans}
use Rattle.geometry.specs.declared.Line.{Line}
use Rattle.geometry.specs.Positions.{gap, crosses, meet}
use Rattle.geometry.specs.Orders.{Uncrossed}
use Rattle.geometry.proofs.Identities.{det_same}
use Rattle.geometry.proofs.Between.{uncrossed_turn}
use Rattle.geometry.proofs.Meet.{not_crosses→det, meet_proper, meet-only}
use Rattle.sweep.specs.Segments.{Segment, spans, inside, cross_inside, spanning}
use Rattle.sweep.specs.Columns.{Clear}
use Rattle.sweep.specs.Sweep.{IsEvent, Complete}

-- a position where two lines meet is level with their crossing
pub meet_level : (l m : Line) (x : Fraction) → gap l m x ≡ pos 0 → T (not (before (meet l m) x)) × T (not (before x (meet l m)))
meet_level l m x e =
    let z = meet-only l m x e in
    let y = neg_zero (cross_turn x (meet l m)) z in
    (cross→at_most x (meet l m) (omega (zarith, z)), cross→at_most (meet l m) x (omega (zarith, y)))

-- x is not strictly between p and q
abbrev pub Outside : Fraction → Fraction → Fraction → Type 0
Outside p q x = T (not (before p x)) ⊎ T (not (before x q))

module _ (p q : Fraction) (hp : Proper p) (hq : Proper q) where
  abbrev Fixed : Fraction → Type 0
  Fixed x = Proper x × Outside p q x

  -- both ends of it are so
  abbrev Ends : Segment → Type 0
  Ends s = Fixed s.from × Fixed s.to

  -- p and any x of [p, q) are on the same side of k
  same_side : (x : Fraction) → Proper x → T (not (before x p)) → T (before x q) → (k : Fraction) → Fixed k → before p k ≡ before x k
  same_side x hx l r k h = same_test (before p k) (before x k) (later h.1) (at_most_before_trans p x k hp hx h.0 l)
    where
      later : Outside p q k → T (before p k) → T (before x k)
      later (inl n) j = absurd (T_not (before p k) n j)
      later (inr n) j = before_at_most_trans x q k hx hq h.0 r n

  same_spans : (x : Fraction) → Proper x → T (not (before x p)) → T (before x q) → (s : Segment) → Ends s → spans p s ≡ spans x s
  unfolding spans
  same_spans x hx l r s h = ap₂ (λ (u v : Bool). not u && v) (same_side x hx l r s.from h.0) (same_side x hx l r s.to h.1)

  -- what is level with a position strictly between is strictly inside a segment that spans p
  level_inside : (x m : Fraction) → Proper x → Proper m → T (before p x) → T (before x q) → T (not (before m x)) → T (not (before x m)) → (s : Segment) → Ends s → T (spans p s) → T (inside m s)
  unfolding spans inside
  level_inside x m hx hm l r ge le s h t =
      let k = and_yes (not (before p s.from)) (before p s.to) t in
      yes_and (before s.from m) (before m s.to)
      (before_at_most_trans s.from x m h.0.0 hx hm (at_most_before_trans s.from p x h.0.0 hp hx k.0 l) ge)
      (at_most_before_trans m x s.to hm hx h.1.0 le (past k.1 h.1.1))
    where
      past : T (before p s.to) → Outside p q s.to → T (before x s.to)
      past k (inl n) = absurd (T_not (before p s.to) n k)
      past k (inr n) = before_at_most_trans x q s.to hx hq h.1.0 r n

  clear : (s t : Segment) → Ends s → Ends t → (T (cross_inside s t) → Outside p q (meet s.line t.line)) → T (spans p s) → T (spans p t) → Uncrossed p q s.line t.line
  unfolding cross_inside
  clear s t hs ht n ps pt x hx l r e = elim (yes_or_no (crosses s.line t.line)) [ inl h ↦ absurd (crossing h) | inr h ↦ not_crosses→det s.line t.line h ]
    where
      m : Fraction
      m = meet s.line t.line

      ge : T (not (before m x))
      ge = (meet_level s.line t.line x e).0

      le : T (not (before x m))
      le = (meet_level s.line t.line x e).1

      crossing : T (crosses s.line t.line) → ⊥
      crossing h =
          out (n (yes_and (crosses s.line t.line) (inside m s && inside m t) h
          (yes_and (inside m s) (inside m t) (level_inside x m hx hm l r ge le s hs ps) (level_inside x m hx hm l r ge le t ht pt))))
        where
          hm : Proper m
          hm = meet_proper s.line t.line h

          out : Outside p q m → ⊥
          out (inl k) = T_not (before p m) k (before_at_most_trans p x m hp hx hm l ge)
          out (inr k) = T_not (before m q) k (at_most_before_trans m x q hm hx hq le r)

  module _ {A K : Type 0} (segment : A → Segment) (position : K → Fraction) (es : List A) (ks : List K) (c : Complete segment position es ks)
      (outside : All (λ (k : K). Outside p q (position k)) ks) where
    fixed : (x : Fraction) → IsEvent segment position es ks x → Fixed x
    fixed x a = any_elim (λ k h e. subst Fixed (sym e) h) ks (all_both (λ (k : K). Proper (position k)) (λ (k : K). Outside p q (position k)) ks c.proper outside) a

    ends : All (λ (e : A). Ends (segment e)) es
    ends = all_with (λ e h k. (fixed (segment e).from h, fixed (segment e).to k)) es c.from c.to

    abbrev Free : A → A → Type 0
    Free d e = T (spans p (segment d)) → T (spans p (segment e)) → Uncrossed p q (segment d).line (segment e).line

    free : All (λ (d : A). All (Free d) es) es
    free = all_pairs (λ (e : A). Ends (segment e)) (λ (d e : A). T (cross_inside (segment d) (segment e)) → IsEvent segment position es ks (meet (segment d).line (segment e).line)) Free
        (λ d s t x hx l r e. det_same (segment d).line)
        (λ d e f s t. uncrossed_turn p q (segment d).line (segment e).line (f t s))
        (λ d e hd he n. clear (segment d) (segment e) hd he (λ h. (fixed (meet (segment d).line (segment e).line) (n h)).1))
        es ends c.meets

    -- ---- what the sweep says of the column
    pub clear_column : Clear (λ (e : A). (segment e).line) p q (spanning segment p es)
    clear_column =
        record {
          left = hp;
          right = hq;
          lines = keep_all (λ (e : A). spans p (segment e)) (λ e h t. h) es c.lines;
          uncrossed = keep_all (λ (e : A). spans p (segment e)) (λ d h s. keep_all (λ (e : A). spans p (segment e)) (λ e k t. k s t) es h) es free;
        }

    pub same_spanning : (x : Fraction) → Proper x → T (not (before x p)) → T (before x q) → All (λ (e : A). spans p (segment e) ≡ spans x (segment e)) es
    same_spanning x hx l r = all_map (λ e h. same_spans x hx l r (segment e) h) es ends
