-- Each part of the overlay: its tag is not 0, its lines are lines of A or B, and it is fit.
use mathlib.Core.Path.{◌≡◌, sym, subst}
use mathlib.Core.Bool.{not}
use mathlib.Core.List.{List, ◌++◌}
use Prim.Native.Nat.{ℕ}
use lib.Dec.{T, eqb}
use Rattle.lists.specs.Lists.{All, Member}
use Rattle.lists.proofs.Lists.{all_append, all_map, any_left, any_right}
use Rattle.lists.proofs.Members.{all_member, members}
use Rattle.lists.proofs.Neighbours.{neighbours_map, pairs_neighbours}
use Rattle.lists.proofs.Kept.{keep_all}
use Rattle.geometry.specs.declared.Line.{Line}
use Rattle.geometry.specs.declared.Base.{Base}
use Rattle.geometry.specs.declared.Trapezoid.{Trapezoid}
use Rattle.geometry.specs.Limit.{OnGrid}
use Rattle.geometry.specs.Lines.{IsLine}
use Rattle.geometry.specs.Positions.{position}
use Rattle.geometry.specs.Trapezoids.{lines_of}
use Rattle.geometry.specs.Fitness.{FitFor}
use Rattle.geometry.proofs.Meet.{proper_crosses}
use Rattle.geometry.proofs.Fitness.{base_exact}
use Rattle.geometry.proofs.Standing.{left_of_exact}
use Rattle.sweep.specs.Segments.{Segment, spans}
use Rattle.sweep.specs.Columns.{Below}
use Rattle.sweep.proofs.Column.{groups_ordered}
use Rattle.sweep.proofs.Sweep.{sweep_all}
use Rattle.overlay.specs.Overlaps.{crosses_in_common}
use Rattle.overlay.specs.Overlay.{Part, sides, side_crossings, overlay_events, segment_line, part, parts, subdivision, overlay}
use Rattle.overlay.specs.Statements.{PartsFit, PartsLines}
use Rattle.overlay.proofs.Events.{Cell, dividers, groups, complete}
use Rattle.overlay.proofs.Stack.{parts_stack, stack_all, stack_tags}
use Rattle.overlay.proofs.Count.{overlay_cases}

-- ---- lines
module _ (A B : Trapezoid) where
  -- a line of A or of B
  abbrev Ours : Line → Type 0
  Ours l = Member l (lines_of A ++ lines_of B)

  ours_first : All Ours (lines_of A)
  ours_first = all_map (λ l m. any_left (λ (k : Line). l ≡ k) (lines_of A) (lines_of B) m) (lines_of A) (members (lines_of A))

  ours_second : All Ours (lines_of B)
  ours_second = all_map (λ l m. any_right (λ (k : Line). l ≡ k) (lines_of A) (lines_of B) m) (lines_of B) (members (lines_of B))

  side_lines : All (λ (s : Segment). Ours s.line) (sides A B)
  unfolding sides
  side_lines = let a = ours_first in let b = ours_second in (a.1.1.1.1.0, (a.1.1.1.1.1.0, (b.1.1.1.1.0, (b.1.1.1.1.1.0, tt))))

  abbrev OursBoth : Base → Type 0
  OursBoth k = Ours k.first × Ours k.second

  crossing_lines : All OursBoth (side_crossings A B)
  unfolding side_crossings
  crossing_lines =
      let a = ours_first in
      let b = ours_second in
      let ab = a.1.1.1.1.0 in
      let at = a.1.1.1.1.1.0 in
      let bb = b.1.1.1.1.0 in
      let bt = b.1.1.1.1.1.0 in
      ((ab, bb), ((ab, bt), ((at, bb), ((at, bt), tt))))

  event_lines : All OursBoth (overlay_events A B)
  unfolding overlay_events
  event_lines =
      let a = ours_first in
      let b = ours_second in
      ((a.0, a.1.0), ((a.1.1.0, a.1.1.1.0), ((b.0, b.1.0), ((b.1.1.0, b.1.1.1.0), keep_all (crosses_in_common A B) (λ k h t. h) (side_crossings A B) crossing_lines))))

module _ {L : ℕ} {A B : Trapezoid} (ha : FitFor L A) (hb : FitFor L B) where
  divider_lines : (p : Base) → All (λ (s : Segment). Ours A B s.line) (dividers A B p)
  divider_lines p = keep_all (spans (position p)) (λ s h t. h) (sides A B) (side_lines A B)

  -- what holds of the part between each two groups of each column, of which the one is below the other, holds of each part
  each_part : (R : Part → Type 0) → ((p q : Base) → Cell A B p q → (g h : Segment) → Below segment_line (position p) (position q) (dividers A B p) g h → R (part A B p q g h)) → All R (subdivision A B)
  unfolding subdivision
  each_part R f = sweep_all (λ (s : Segment). s) position (sides A B) (overlay_events A B) (parts A B) R (complete ha hb) column
    where
      column : (p q : Base) → Cell A B p q → All R (parts A B p q (dividers A B p))
      column p q c =
          let below = pairs_neighbours (Below segment_line (position p) (position q) (dividers A B p)) (groups A B p) (groups_ordered segment_line c.clear) in
          subst (All R) (sym (parts_stack A B p q (dividers A B p)))
          (stack_all A B p q R (groups A B p) (neighbours_map (f p q c) (groups A B p) below))

  part_lines : (p q : Base) → Cell A B p q → (g h : Segment) → Below segment_line (position p) (position q) (dividers A B p) g h → All (Ours A B) (lines_of (part A B p q g h).trapezoid)
  part_lines p q c g h b =
      let u = all_member (OursBoth A B) p (overlay_events A B) (event_lines A B) c.first in
      let v = all_member (OursBoth A B) q (overlay_events A B) (event_lines A B) c.last in
      let line : (s : Segment) → Member s (dividers A B p) → Ours A B s.line = λ s m. all_member (λ (s : Segment). Ours A B s.line) s (dividers A B p) (divider_lines p) m in
      (u.0, (u.1, (v.0, (v.1, (line g b.bottom, (line h b.top, tt))))))

  -- what holds of each line of A and of B
  of_ours : (R : Line → Type 0) → All R (lines_of A) → All R (lines_of B) → (ls : List Line) → All (Ours A B) ls → All R ls
  of_ours R a b ls h = all_map (λ l m. all_member R l (lines_of A ++ lines_of B) (all_append R (lines_of A) (lines_of B) a b) m) ls h

  part_fit : (p q : Base) → Cell A B p q → (g h : Segment) → Below segment_line (position p) (position q) (dividers A B p) g h → FitFor L (part A B p q g h).trapezoid
  part_fit p q c g h b =
      let t = (part A B p q g h).trapezoid in
      let ours = part_lines p q c g h b in
      let lines = of_ours IsLine ha.lines hb.lines (lines_of t) ours in
      let cp = proper_crosses p.first p.second c.clear.left in
      let cq = proper_crosses q.first q.second c.clear.right in
      record {
        grid = of_ours (OnGrid L) ha.grid hb.grid (lines_of t) ours;
        lines = lines;
        left = (base_exact p.first p.second lines.0 lines.1.0).0 cp;
        right = (base_exact q.first q.second lines.1.1.0 lines.1.1.1.0).0 cq;
        bases = (left_of_exact p q cp cq).0 c.wide;
        sides = b.between;
      }

  subdivision_tags : All (λ (s : Part). T (not (eqb s.tag 0))) (subdivision A B)
  unfolding subdivision
  subdivision_tags =
      sweep_all (λ (s : Segment). s) position (sides A B) (overlay_events A B) (parts A B) (λ (s : Part). T (not (eqb s.tag 0))) (complete ha hb) (λ p q c. subst (All (λ (s : Part). T (not (eqb s.tag 0)))) (sym (parts_stack A B p q (dividers A B p))) (stack_tags A B p q (groups A B p)))

  pub overlay_tags : All (λ (s : Part). T (not (eqb s.tag 0))) (overlay A B)
  overlay_tags = overlay_cases ha hb (All (λ (s : Part). T (not (eqb s.tag 0)))) subdivision_tags (λ n. (tt, (tt, tt)))

pub parts_lines : PartsLines
parts_lines L A B ha hb =
    let Right : Part → Type 0 = λ s. All (Ours A B) (lines_of s.trapezoid) in
    overlay_cases ha hb (All Right) (each_part ha hb Right (part_lines ha hb)) (λ n. (ours_first A B, (ours_second A B, tt)))

pub parts_fit : PartsFit
parts_fit L A B ha hb = overlay_cases ha hb (All (λ (s : Part). FitFor L s.trapezoid)) (each_part ha hb (λ (s : Part). FitFor L s.trapezoid) (part_fit ha hb)) (λ n. (ha, (hb, tt)))
