-- How many trapezoids of a polygon hold a point: one if its winding number is not zero there, and none if it is.
use mathlib.Core.Path.{◌≡◌, refl, ◌∙◌, ap, ap₂}
use mathlib.Core.Bool.{Bool, true, false, not, ◌&&◌, and-true}
use mathlib.Core.List.{List, [], ◌∷◌, map}
use mathlib.Core.Logic.{◌⊎◌, inl, inr}
use Prim.Native.Nat.{ℕ, ◌+◌}
use lib.Dec.{T}
use lib.IntN.{ℤ, pos}
use Rattle.lists.specs.Lists.{All}
use Rattle.lists.specs.Tests.{always, bit, count_if}
use Rattle.lists.proofs.Tests.{true_is, false_is}
use Rattle.lists.proofs.Lists.{all_of, all_map}
use Rattle.integer.specs.Fraction.{Fraction, Proper, before}
use Rattle.geometry.specs.declared.Base.{Base}
use Rattle.geometry.specs.Positions.{crosses, position}
use Rattle.geometry.specs.Points.{Point, at, under}
use Rattle.geometry.specs.Trapezoids.{based, lies_in}
use Rattle.geometry.specs.Polygons.{Polygon}
use Rattle.geometry.proofs.Meet.{proper_crosses}
use Rattle.sweep.specs.Sums.{sum}
use Rattle.sweep.specs.Segments.{spans, spanning}
use Rattle.sweep.specs.Columns.{is_zero, Slab, holds, column, winding}
use Rattle.sweep.specs.Sweep.{Column}
use Rattle.sweep.proofs.Sums.{sum_same, sum_none, sum_keep}
use Rattle.sweep.proofs.Column.{column_winding}
use Rattle.sweep.proofs.Sweep.{sweep_count}
use Rattle.fracture.specs.Polygons.{Edge, line_of, direction_of, edges, segment, passes_under, winding_number}
use Rattle.fracture.specs.Fracture.{polygon_events, trapezoid, trapezoids, fracture}
use Rattle.fracture.specs.Statements.{FractureCount}
use Rattle.fracture.proofs.Edges.{directions_sum}
use Rattle.fracture.proofs.Events.{complete}

-- what is known of the column from p to q of a polygon
abbrev pub Cell : ℕ → Polygon → Base → Base → Type 0
Cell L polygon p q = Column segment position (edges polygon) (polygon_events L polygon) p q

-- the edges that span the position of p
abbrev pub spanning_edges : Polygon → Base → List Edge
spanning_edges polygon p = spanning segment (position p) (edges polygon)

-- ---- the trapezoids of a column are its slabs
module _ (P : Point) (p q : Base) where
  abbrev pub at_or_below : Edge → Bool
  at_or_below e = under P e.line

  -- those of the column that the point is in
  slabs_in : T (crosses p.first p.second) → T (crosses q.first q.second) → T (not (before (at P) (position p))) → T (before (at P) (position q)) → (ss : List (Slab Edge))
      → count_if (lies_in P) (map (trapezoid p q) ss) ≡ count_if (holds at_or_below) ss
  unfolding count_if lies_in
  slabs_in cp cq l r [] = refl
  slabs_in cp cq l r (s ∷ ss) =
      let a : crosses p.first p.second ≡ true = true_is cp in
      let b : crosses q.first q.second ≡ true = true_is cq in
      let c : before (at P) (position p) ≡ false = false_is l in
      let d : before (at P) (position q) ≡ true = true_is r in
      let e : lies_in P (trapezoid p q s) ≡ holds at_or_below s = rw (a, b, c, d) in
      ap₂ (λ (t : Bool) (n : ℕ). bit t + n) e (slabs_in cp cq l r ss)

  -- those of any other column
  slabs_out : T (before (at P) (position p)) ⊎ T (not (before (at P) (position q))) → (ss : List (Slab Edge)) → count_if (lies_in P) (map (trapezoid p q) ss) ≡ 0
  unfolding count_if lies_in
  slabs_out o [] = refl
  slabs_out o (s ∷ ss) =
      let t = trapezoid p q s in
      let e : lies_in P t ≡ false = go (based t) (before (at P) (position p)) (before (at P) (position q)) (holds at_or_below s) o in
      ap₂ (λ (t : Bool) (n : ℕ). bit t + n) e (slabs_out o ss)
    where
      go : (b u v w : Bool) → T u ⊎ T (not v) → b && (not u && (v && w)) ≡ false
      go false u v w o = refl
      go true true v w o = refl
      go true false false w o = refl
      go true false true w (inl h) = absurd h
      go true false true w (inr h) = absurd h

-- ---- sums over the spanning edges
module _ (polygon : Polygon) where
  spanning_sum : (x : Fraction) → Proper x → sum direction_of always (spanning segment x (edges polygon)) ≡ pos 0
  spanning_sum x hx =
      let over : Edge → Bool = λ e. spans x (segment e) in
      sum_keep over direction_of always (edges polygon)
      ∙ sum_same (λ (e : Edge). over e && true) direction_of over (edges polygon) (all_of (λ (e : Edge). over e && true ≡ over e) (λ e. and-true (over e)) (edges polygon))
      ∙ directions_sum x hx polygon

  -- where the same edges span x and the point
  spanning_winding : (P : Point) (x : Fraction) → All (λ (e : Edge). spans x (segment e) ≡ spans (at P) (segment e)) (edges polygon)
      → winding line_of direction_of P (spanning segment x (edges polygon)) ≡ winding_number P polygon
  unfolding winding winding_number
  spanning_winding P x h =
      let over : Edge → Bool = λ e. spans x (segment e) in
      let low : Edge → Bool = λ e. under P e.line in
      sum_keep over direction_of low (edges polygon)
      ∙ sum_same (λ (e : Edge). over e && low e) direction_of (passes_under P) (edges polygon) (all_map (λ e k. ap (λ (t : Bool). t && low e) k) (edges polygon) h)

  nothing_wound : (P : Point) → All (λ (e : Edge). T (not (spans (at P) (segment e)))) (edges polygon) → winding_number P polygon ≡ pos 0
  unfolding winding_number
  nothing_wound P h = sum_none (passes_under P) direction_of (edges polygon) (all_map (λ e k. let n : spans (at P) (segment e) ≡ false = false_is k in ap (λ (t : Bool). t && under P e.line) n) (edges polygon) h)

-- ---- the statement
pub fracture-count : FractureCount
unfolding fracture trapezoids
fracture-count L polygon P hP =
    sweep_count segment position (edges polygon) (polygon_events L polygon) trapezoids (at P) (lies_in P) wound (complete L polygon) hP
    (λ p q es o. slabs_out P p q o (column line_of direction_of (position p) es))
    (λ a. ap (λ (z : ℤ). bit (not (is_zero z))) (nothing_wound polygon P a))
    inner
  where
    wound : ℕ
    wound = bit (not (is_zero (winding_number P polygon)))

    inner : (p q : Base) → Cell L polygon p q → T (not (before (at P) (position p))) → T (before (at P) (position q))
        → count_if (lies_in P) (map (trapezoid p q) (column line_of direction_of (position p) (spanning_edges polygon p))) ≡ wound
    inner p q c l r =
        let es = spanning_edges polygon p in
        slabs_in P p q (proper_crosses p.first p.second c.clear.left) (proper_crosses q.first q.second c.clear.right) l r (column line_of direction_of (position p) es)
        ∙ column_winding line_of direction_of (position p) (position q) es P c.clear hP l r (spanning_sum polygon (position p) c.clear.left)
        ∙ ap (λ (z : ℤ). bit (not (is_zero z))) (spanning_winding polygon P (position p) (c.same (at P) hP l r))
