-- How many parts of the overlay with a tag asked for hold a point: one if the point's own tag is asked for, and none if not.
use mathlib.Core.Path.{◌≡◌, refl, sym, ◌∙◌, ap, ap₂}
use mathlib.Core.Bool.{Bool, true, false, not, ◌&&◌}
use mathlib.Core.List.{List, [], ◌∷◌}
use mathlib.Core.Logic.{◌⊎◌, inl, inr}
use Prim.Native.Nat.{ℕ, ◌+◌}
use native.Mathlib.Nat.{zero-add, add-zero}
use lib.Dec.{T, T_not, not_T}
use mir.Facts.{yes_and}
use Rattle.lists.specs.Lists.{All}
use Rattle.lists.specs.Tests.{always, bit, count_if}
use Rattle.lists.proofs.Tests.{true_is, false_is, is_true, cond_cases}
use Rattle.lists.proofs.Neighbours.{neighbours_every}
use Rattle.lists.proofs.Kept.{keep_each}
use Rattle.lists.proofs.Counts.{count_none}
use Rattle.integer.specs.Fraction.{Fraction, before}
use Rattle.levels.specs.Levels.{AtMost, StrictWeakOrder, levels}
use Rattle.geometry.specs.declared.Line.{Line}
use Rattle.geometry.specs.declared.Base.{Base}
use Rattle.geometry.specs.declared.Trapezoid.{Trapezoid}
use Rattle.geometry.specs.Positions.{crosses, position, below}
use Rattle.geometry.specs.Points.{Point, IsPoint, at, under}
use Rattle.geometry.specs.Trapezoids.{lies_in, Apart}
use Rattle.geometry.specs.Fitness.{FitFor}
use Rattle.geometry.proofs.Meet.{proper_crosses}
use Rattle.geometry.proofs.Ranges.{fit_based}
use Rattle.sweep.specs.Segments.{Segment, spans}
use Rattle.sweep.specs.Columns.{lower}
use Rattle.sweep.proofs.Prefix.{value, prefix, Decided, decided, nothing, up_to_lem}
use Rattle.sweep.proofs.Column.{Good, goods, ordered, groups_good, groups_rising, under_lower}
use Rattle.sweep.proofs.Sweep.{sweep_count}
use Rattle.overlay.specs.Overlaps.{overlaps}
use Rattle.overlay.specs.Overlay.{Part, tag_of, in_range, sides, overlay_events, segment_line, fills, tag_above, part, stack, parts, subdivision, overlay}
use Rattle.overlay.proofs.Ranges.{from_lies, lies_is}
use Rattle.overlay.proofs.Overlaps.{apart_exact}
use Rattle.overlay.proofs.Events.{Cell, dividers, groups, complete}
use Rattle.overlay.proofs.Stack.{parts_stack, stack_all, stack_count}

-- a part that the point lies in and whose tag is asked for
abbrev pub hit : Point → (ℕ → Bool) → Part → Bool
hit P t s = lies_in P s.trapezoid && t s.tag

-- ---- what is just above the group g right of x, and where the point is
-- it is above the top
pub fill_top : (x : Fraction) (t : Trapezoid) (g : Line) → (T (in_range x t) → not (below x g t.top) ≡ true) → fills x t g ≡ false
unfolding fills
fill_top x t g = go (in_range x t) (below x g t.bottom) (below x g t.top)
  where
    go : (r b c : Bool) → (T r → not c ≡ true) → r && (not b && c) ≡ false
    go true b true f = absurd (is_true (f tt))
    go true true false f = refl
    go true false false f = refl
    go false b c f = refl

module _ {L : ℕ} {t : Trapezoid} (h : FitFor L t) (P : Point) (x : Fraction) (same : in_range x t ≡ in_range (at P) t) where
  -- the sides at or below it are those at or below the point
  fill_point : (g : Line) → (T (in_range x t) → not (below x g t.bottom) ≡ under P t.bottom) → (T (in_range x t) → not (below x g t.top) ≡ under P t.top) → fills x t g ≡ lies_in P t
  unfolding fills
  fill_point g f k = go (in_range x t) (in_range (at P) t) (below x g t.bottom) (below x g t.top) (under P t.bottom) (under P t.top) same f k ∙ sym (lies_is P t (fit_based h))
    where
      double : (b c : Bool) → not b && c ≡ not b && not (not c)
      double true c = refl
      double false true = refl
      double false false = refl

      go : (r s b c u v : Bool) → r ≡ s → (T r → not b ≡ u) → (T r → not c ≡ v) → r && (not b && c) ≡ s && (u && not v)
      go true s b c u v e f g = rw (← e, ← f tt, ← g tt) (double b c)
      go false s b c u v e f g = rw (← e)

  -- the bottom is not at or below the point
  fill_none : (T (in_range x t) → T (not (under P t.bottom))) → lies_in P t ≡ false
  fill_none f = lies_is P t (fit_based h) ∙ go (in_range x t) (in_range (at P) t) (under P t.bottom) same f
    where
      go : (r s u : Bool) → r ≡ s → (T r → T (not u)) → s && (u && not (under P t.top)) ≡ false
      go true s u e f = let k : u ≡ false = false_is (f tt) in rw (← e, k)
      go false s u e f = rw (← e)

-- ---- a column
module _ {L : ℕ} {A B : Trapezoid} (ha : FitFor L A) (hb : FitFor L B) where
  -- what is above the highest group lies in neither
  top_tag : (p q : Base) → Cell A B p q → value always (tag_above A B (position p)) 0 (groups A B p) ≡ 0
  unfolding tag_above sides spans
  top_tag p q c = go (decided o always (λ d e gd ge l u. tt) W 0 (dividers A B p) (goods segment_line c.clear))
    where
      x : Fraction
      x = position p

      W : Segment → ℕ
      W = tag_above A B (position p)

      o : StrictWeakOrder (lower segment_line (position p)) (Good segment_line c.clear)
      o = ordered segment_line c.clear

      go : Decided o always (λ d e gd ge l u. tt) W 0 (dividers A B p) → value always W 0 (groups A B p) ≡ 0
      go (nothing v a) = v
      go (up_to_lem g hg v a) =
          let k = keep_each (spans x) (λ (s : Segment). not (below x g.line s.line) ≡ true) (sides A B) a in
          v ∙ ap₂ tag_of (fill_top x A g.line k.1.0) (fill_top x B g.line k.1.1.1.0)

  module _ (P : Point) (hP : IsPoint P) where
    -- the tag of the point
    abbrev own : ℕ
    own = tag_of (lies_in P A) (lies_in P B)

    abbrev at_or_below : Segment → Bool
    at_or_below s = under P s.line

    module _ (p q : Base) (c : Cell A B p q) (l : T (not (before (at P) (position p)))) (r : T (before (at P) (position q))) where
      o : StrictWeakOrder (lower segment_line (position p)) (Good segment_line c.clear)
      o = ordered segment_line c.clear

      down : (d e : Segment) → Good segment_line c.clear d → Good segment_line c.clear e → AtMost (lower segment_line (position p)) d e → T (under P e.line) → T (under P d.line)
      down = under_lower segment_line c.clear P hP l r

      -- what is above the last group at or below the point has the point's tag
      point_tag : value at_or_below (tag_above A B (position p)) 0 (groups A B p) ≡ own
      unfolding tag_above sides spans
      point_tag = go (decided o at_or_below down W 0 (dividers A B p) (goods segment_line c.clear))
        where
          x : Fraction
          x = position p

          W : Segment → ℕ
          W = tag_above A B (position p)

          same : All (λ (s : Segment). spans (position p) s ≡ spans (at P) s) (sides A B)
          same = c.same (at P) hP l r

          go : Decided o at_or_below down W 0 (dividers A B p) → value at_or_below W 0 (groups A B p) ≡ own
          go (nothing v a) =
              let k = keep_each (spans x) (λ (s : Segment). T (not (under P s.line))) (sides A B) a in
              v ∙ sym (ap₂ tag_of (fill_none ha P x same.0 k.0) (fill_none hb P x same.1.1.0 k.1.1.0))
          go (up_to_lem g hg v a) =
              let k = keep_each (spans x) (λ (s : Segment). not (below x g.line s.line) ≡ under P s.line) (sides A B) a in
              v ∙ ap₂ tag_of (fill_point ha P x same.0 g.line k.0 k.1.0) (fill_point hb P x same.1.1.0 g.line k.1.1.0 k.1.1.1.0)

      -- a part of the column holds the point exactly if its bottom and not its top is at or below it
      part_lies : (g h : Segment) → lies_in P (part A B p q g h).trapezoid ≡ at_or_below g && not (at_or_below h)
      unfolding spans
      part_lies g h =
          let s = (part A B p q g h).trapezoid in
          let first = proper_crosses p.first p.second c.clear.left in
          let second = proper_crosses q.first q.second c.clear.right in
          let i : in_range (at P) s ≡ true = true_is (yes_and (not (before (at P) (position p))) (before (at P) (position q)) l r) in
          lies_is P s (yes_and (crosses p.first p.second) (crosses q.first q.second) first second) ∙ ap (λ (u : Bool). u && (at_or_below g && not (at_or_below h))) i

      column_count : (t : ℕ → Bool) → t 0 ≡ false → count_if (hit P t) (parts A B p q (dividers A B p)) ≡ bit (t own)
      column_count t t0 =
          let first_part = prefix o at_or_below down (groups A B p) (groups_good segment_line c.clear) (groups_rising segment_line c.clear) in
          let reads : (g h : Segment) → hit P t (part A B p q g h) ≡ at_or_below g && not (at_or_below h) && t (tag_above A B (position p) g)
          = λ g h. ap (λ (u : Bool). u && t (tag_above A B (position p) g)) (part_lies g h) in
          ap (count_if (hit P t)) (parts_stack A B p q (dividers A B p))
          ∙ stack_count A B p q at_or_below t t0 (hit P t) reads (groups A B p) first_part (top_tag p q c) ∙ ap (λ (n : ℕ). bit (t n)) point_tag

    -- ---- the columns
    module _ (t : ℕ → Bool) (t0 : t 0 ≡ false) where
      elsewhere : (p q : Base) (ss : List Segment) → T (before (at P) (position p)) ⊎ T (not (before (at P) (position q))) → count_if (hit P t) (parts A B p q ss) ≡ 0
      elsewhere p q ss o =
          let gs = levels (lower segment_line (position p)) ss in
          ap (count_if (hit P t)) (parts_stack A B p q ss)
          ∙ count_none (hit P t) (stack A B p q gs) (stack_all A B p q (λ (s : Part). hit P t s ≡ false) gs (neighbours_every (λ (g h : Segment). hit P t (part A B p q g h) ≡ false) miss gs))
        where
          out : (s : Trapezoid) → T (before (at P) (position s.left)) ⊎ T (not (before (at P) (position s.right))) → T (lies_in P s) → ⊥
          out s (inl b) k = T_not (before (at P) (position s.left)) (from_lies P s k).from b
          out s (inr b) k = T_not (before (at P) (position s.right)) b (from_lies P s k).to

          miss : (g h : Segment) → hit P t (part A B p q g h) ≡ false
          miss g h = let s = part A B p q g h in let e : lies_in P s.trapezoid ≡ false = false_is (not_T (lies_in P s.trapezoid) (out s.trapezoid o)) in ap (λ (u : Bool). u && t s.tag) e

      nowhere : All (λ (s : Segment). T (not (spans (at P) s))) (sides A B) → bit (t own) ≡ 0
      unfolding sides
      nowhere a =
          let i : in_range (at P) A ≡ false = false_is a.0 in
          let j : in_range (at P) B ≡ false = false_is a.1.1.0 in
          rw (lies_is P A (fit_based ha), lies_is P B (fit_based hb), i, j, t0)

      pub subdivision_count : count_if (hit P t) (subdivision A B) ≡ bit (t own)
      unfolding subdivision
      subdivision_count =
          sweep_count (λ (s : Segment). s) position (sides A B) (overlay_events A B) (parts A B) (at P) (hit P t) (bit (t own)) (complete ha hb) hP elsewhere nowhere
          (λ p q c l r. column_count p q c l r t t0)

-- ---- the whole
-- A tagged 1 and B tagged 2, where the point does not lie in both
whole-count : (t : ℕ → Bool) → t 0 ≡ false → (u v : Bool) → (T u → T v → ⊥) → bit (u && t 1) + (bit (v && t 2) + 0) ≡ bit (t (tag_of u v))
whole-count t t0 true true n = absurd (n tt tt)
whole-count t t0 true false n = add-zero (bit (t 1))
whole-count t t0 false true n = zero-add (bit (t 2) + 0) ∙ add-zero (bit (t 2))
whole-count t t0 false false n = rw t0

module _ {L : ℕ} {A B : Trapezoid} (ha : FitFor L A) (hb : FitFor L B) where
  -- to prove something of the overlay: the two trapezoids are subdivided, or are apart and whole
  pub overlay_cases : (R : List Part → Type 0) → R (subdivision A B) → (Apart A B → R (record { tag = 1; trapezoid = A } ∷ record { tag = 2; trapezoid = B } ∷ [])) → R (overlay A B)
  unfolding overlay
  overlay_cases R h k =
      cond_cases R (overlaps A B) (subdivision A B) (record { tag = 1; trapezoid = A } ∷ record { tag = 2; trapezoid = B } ∷ []) (λ o. h) (λ o. k ((apart_exact L A B ha hb).0 o))

  pub overlay_count : (P : Point) → IsPoint P → (t : ℕ → Bool) → t 0 ≡ false → count_if (hit P t) (overlay A B) ≡ bit (t (tag_of (lies_in P A) (lies_in P B)))
  unfolding count_if
  overlay_count P hP t t0 =
      overlay_cases (λ (ss : List Part). count_if (hit P t) ss ≡ bit (t (tag_of (lies_in P A) (lies_in P B))))
      (subdivision_count ha hb P hP t t0)
      (λ n. whole-count t t0 (lies_in P A) (lies_in P B) (n P hP))
