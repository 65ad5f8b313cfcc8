-- The trapezoids of the fracture: their sides are edges of the polygon, their bases its events, and they are fit.
use mathlib.Core.Path.{ap}
use mathlib.Core.List.{List, [], ◌∷◌, map}
use mathlib.Core.Logic.{inl, inr}
use Prim.Native.Nat.{ℕ, ◌≤◌}
use Rattle.lists.specs.Lists.{All, Member}
use Rattle.lists.proofs.Lists.{all_append, all_map, any_map}
use Rattle.lists.proofs.Members.{all_member, members}
use Rattle.lists.proofs.Kept.{keep_all}
use Rattle.geometry.specs.declared.Line.{Line}
use Rattle.geometry.specs.declared.Base.{Base}
use Rattle.geometry.specs.declared.Trapezoid.{Trapezoid}
use Rattle.geometry.specs.Limit.{OnGrid}
use Rattle.geometry.specs.Lines.{IsLine}
use Rattle.geometry.specs.Positions.{position}
use Rattle.geometry.specs.Fitness.{FitFor}
use Rattle.geometry.specs.declared.Vertex.{Vertex}
use Rattle.geometry.specs.Polygons.{VertexOnGrid, Polygon, PolygonOnGrid}
use Rattle.geometry.proofs.Meet.{proper_crosses}
use Rattle.geometry.proofs.Fitness.{base_exact}
use Rattle.geometry.proofs.Standing.{left_of_exact}
use Rattle.sweep.specs.Segments.{spans}
use Rattle.sweep.specs.Columns.{Slab, Below, column}
use Rattle.sweep.proofs.Column.{column_open}
use Rattle.sweep.proofs.Sweep.{sweep_all}
use Rattle.fracture.specs.Polygons.{Edge, line_of, direction_of, edges, segment}
use Rattle.fracture.specs.Fracture.{mark, polygon_events, trapezoid, trapezoids, fracture, fracture_all}
use Rattle.fracture.specs.Statements.{FractureFit, IsEdgeLine, FractureSides, SidesOfOne, FractureAllSides, IsBase, FractureBases}
use Rattle.fracture.proofs.Edges.{edges_ends}
use Rattle.fracture.proofs.Marks.{mark_on_grid, mark_lines}
use Rattle.fracture.proofs.Events.{events_all, crossings_all, complete}
use Rattle.fracture.proofs.Count.{Cell, spanning_edges}

-- ---- each trapezoid lies between two edges of its polygon, the one below the other, and between two of its events
pub record Between (L : ℕ) (polygon : Polygon) (p q : Base) (d e : Edge) : Type 0 where
  pub cell : Cell L polygon p q
  pub bottom : Member d (edges polygon)
  pub top : Member e (edges polygon)
  pub below : Below line_of (position p) (position q) (spanning_edges polygon p) d e

module _ (L : ℕ) (polygon : Polygon) where
  -- an edge that spans p is an edge
  spanning_member : (p : Base) (e : Edge) → Member e (spanning_edges polygon p) → Member e (edges polygon)
  spanning_member p e m =
      all_member (λ (e : Edge). Member e (edges polygon)) e (spanning_edges polygon p) (keep_all (λ (e : Edge). spans (position p) (segment e)) (λ e h t. h) (edges polygon) (members (edges polygon))) m

  slabs_map : (R : Trapezoid → Type 0) (p q : Base) (ss : List (Slab Edge)) → All (λ (s : Slab Edge). R (trapezoid p q s)) ss → All R (map (trapezoid p q) ss)
  slabs_map R p q [] h = tt
  slabs_map R p q (s ∷ ss) h = (h.0, slabs_map R p q ss h.1)

  each_trapezoid : (R : Trapezoid → Type 0) → ((p q : Base) (s : Slab Edge) → Between L polygon p q s.bottom s.top → R (trapezoid p q s)) → All R (fracture L polygon)
  unfolding fracture trapezoids
  each_trapezoid R f = sweep_all segment position (edges polygon) (polygon_events L polygon) trapezoids R (complete L polygon) column_all
    where
      column_all : (p q : Base) → Cell L polygon p q → All R (map (trapezoid p q) (column line_of direction_of (position p) (spanning_edges polygon p)))
      column_all p q c =
          let es = spanning_edges polygon p in
          let ss = column line_of direction_of (position p) es in
          slabs_map R p q ss
          (all_map (λ s b. f p q s (record { cell = c; bottom = spanning_member p s.bottom b.bottom; top = spanning_member p s.top b.top; below = b }))
          ss (column_open line_of direction_of (position p) (position q) es c.clear))

-- ---- words
pub fracture-sides : FractureSides
fracture-sides L polygon = each_trapezoid L polygon (λ (t : Trapezoid). IsEdgeLine polygon t.bottom × IsEdgeLine polygon t.top) (λ p q s b. (edge_line s.bottom b.bottom, edge_line s.top b.top))
  where
    edge_line : (e : Edge) → Member e (edges polygon) → IsEdgeLine polygon e.line
    edge_line e m = any_map (λ d k. ap line_of k) (edges polygon) m

pub fracture-all_sides : FractureAllSides
unfolding fracture_all
fracture-all_sides L [] = tt
fracture-all_sides L (polygon ∷ polygons) =
    let Sides = SidesOfOne (polygon ∷ polygons) in
    all_append Sides (fracture L polygon) (fracture_all L polygons)
    (all_map {P = λ (t : Trapezoid). IsEdgeLine polygon t.bottom × IsEdgeLine polygon t.top} {Q = Sides} (λ t h. inl h) (fracture L polygon) (fracture-sides L polygon))
    (all_map {P = SidesOfOne polygons} {Q = Sides} (λ t h. inr h) (fracture_all L polygons) (fracture-all_sides L polygons))

pub fracture_bases : FractureBases
fracture_bases L polygon = each_trapezoid L polygon (λ (t : Trapezoid). IsBase L polygon t.left × IsBase L polygon t.right) (λ p q s b. (b.cell.first, b.cell.last))

-- ---- fitness
abbrev Sound : ℕ → Line → Type 0
Sound L l = OnGrid L l × IsLine l

abbrev SoundBase : ℕ → Base → Type 0
SoundBase L k = Sound L k.first × Sound L k.second

module _ (L : ℕ) (polygon : Polygon) (one : 1 ≤ L) (grid : PolygonOnGrid L polygon) where
  edges_sound : All (λ (e : Edge). Sound L e.line) (edges polygon)
  edges_sound =
      all_map (λ e h. (record { x1 = h.low.x; y1 = h.low.y; x2 = h.high.x; y2 = h.high.y }, h.proper)) (edges polygon) (edges_ends (VertexOnGrid L) polygon grid)

  mark_sound : (v : Vertex) → VertexOnGrid L v → SoundBase L (mark L v.x)
  mark_sound v h = let g = mark_on_grid L v.x one h.x in let l = mark_lines L v.x in ((g.0, l.0), (g.1, l.1))

  events_sound : All (SoundBase L) (polygon_events L polygon)
  events_sound = events_all L polygon (SoundBase L) (all_map mark_sound polygon grid) (crossings_all (λ (e : Edge). Sound L e.line) (SoundBase L) (λ d e hd he c. (hd, he)) (edges polygon) edges_sound)

  trapezoid_fit : (p q : Base) (s : Slab Edge) → Between L polygon p q s.bottom s.top → FitFor L (trapezoid p q s)
  trapezoid_fit p q s b =
      let c = b.cell in
      let u = all_member (SoundBase L) p (polygon_events L polygon) events_sound c.first in
      let v = all_member (SoundBase L) q (polygon_events L polygon) events_sound c.last in
      let d = all_member (λ (e : Edge). Sound L e.line) s.bottom (edges polygon) edges_sound b.bottom in
      let e = all_member (λ (e : Edge). Sound L e.line) s.top (edges polygon) edges_sound b.top in
      let cp = proper_crosses p.first p.second c.clear.left in
      let cq = proper_crosses q.first q.second c.clear.right in
      record {
        grid = (u.0.0, (u.1.0, (v.0.0, (v.1.0, (d.0, (e.0, tt))))));
        lines = (u.0.1, (u.1.1, (v.0.1, (v.1.1, (d.1, (e.1, tt))))));
        left = (base_exact p.first p.second u.0.1 u.1.1).0 cp;
        right = (base_exact q.first q.second v.0.1 v.1.1).0 cq;
        bases = (left_of_exact p q cp cq).0 c.wide;
        sides = b.below.between;
      }

  pub polygon_fit : All (FitFor L) (fracture L polygon)
  polygon_fit = each_trapezoid L polygon (FitFor L) trapezoid_fit

pub fracture_fit : FractureFit
unfolding fracture_all
fracture_fit L [] one h = tt
fracture_fit L (polygon ∷ polygons) one h = all_append (FitFor L) (fracture L polygon) (fracture_all L polygons) (polygon_fit L polygon one h.0) (fracture_fit L polygons one h.1)
