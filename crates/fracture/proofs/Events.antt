-- The events of a polygon: which crossings there are, and that the events are enough for the edges.
use mathlib.Core.Path.{◌≡◌, sym, ◌∙◌, ap, subst}
use mathlib.Core.Bool.{Bool, true, false, cond, ◌&&◌}
use mathlib.Core.List.{List, [], ◌∷◌, ◌++◌}
use mathlib.Core.Logic.{◌⊎◌, inl, inr}
use Prim.Native.Nat.{ℕ}
use lib.Dec.{T}
use mir.Facts.{and_yes}
use Rattle.lists.specs.Lists.{All, Any, Pairs, Member, SomePair}
use Rattle.lists.proofs.Tests.{cond_cases}
use Rattle.lists.proofs.Lists.{all_of, all_append, all_left, all_right, all_map, any_map, any_left, any_right, any_split, any_elim, some_pair}
use Rattle.lists.proofs.Members.{members}
use Rattle.integer.specs.Fraction.{Fraction, Proper}
use Rattle.geometry.specs.declared.Base.{Base}
use Rattle.geometry.specs.Positions.{crosses, meet, position}
use Rattle.geometry.specs.declared.Vertex.{Vertex}
use Rattle.geometry.specs.Polygons.{Polygon}
use Rattle.geometry.proofs.Meet.{meet_proper}
use Rattle.sweep.specs.Segments.{inside, cross_inside}
use Rattle.sweep.specs.Sweep.{Complete}
use Rattle.fracture.specs.Polygons.{Edge, edges, whole, segment}
use Rattle.fracture.specs.Fracture.{mark, marks, edge_crossing, edges_cross, edge_crossings_with, edge_crossings, polygon_events}
use Rattle.fracture.specs.Statements.{CrossAt, EventsExact}
use Rattle.fracture.proofs.Edges.{Ends, edges_ends}
use Rattle.fracture.proofs.Marks.{mark-position, mark_proper}

-- ---- crossings
-- what holds where two edges with M cross strictly inside both spans holds of each crossing of edges with M
module _ (M : Edge → Type 0) (N : Base → Type 0) (f : (d e : Edge) → M d → M e → T (edges_cross d e) → N (edge_crossing d e)) where
  with_all : (d : Edge) (es : List Edge) → M d → All M es → All N (edge_crossings_with d es)
  unfolding edge_crossings_with
  with_all d [] m h = tt
  with_all d (e ∷ es) m h =
      let k = with_all d es m h.1 in
      cond_cases (All N) (edges_cross d e) (edge_crossing d e ∷ edge_crossings_with d es) (edge_crossings_with d es) (λ t. (f d e m h.0 t, k)) (λ t. k)

  pub crossings_all : (es : List Edge) → All M es → All N (edge_crossings es)
  unfolding edge_crossings
  crossings_all [] h = tt
  crossings_all (e ∷ es) h = all_append N (edge_crossings_with e es) (edge_crossings es) (with_all e es h.0 h.1) (crossings_all es h.1)

-- and what holds of each crossing holds of each two edges that cross so
module _ (N : Base → Type 0) where
  with_each : (d : Edge) (es : List Edge) → All N (edge_crossings_with d es) → All (λ (e : Edge). T (edges_cross d e) → N (edge_crossing d e)) es
  unfolding edge_crossings_with
  with_each d [] h = tt
  with_each d (e ∷ es) h = go (edges_cross d e) h (with_each d es)
    where
      Each : Type 0
      Each = All (λ (e : Edge). T (edges_cross d e) → N (edge_crossing d e)) es

      go : (t : Bool) → All N (cond t (edge_crossing d e ∷ edge_crossings_with d es) (edge_crossings_with d es)) → (All N (edge_crossings_with d es) → Each) → (T t → N (edge_crossing d e)) × Each
      go true h k = ((λ c. h.0), k h.1)
      go false h k = ((λ c. absurd c), k h)

  pub crossings_pairs : (es : List Edge) → All N (edge_crossings es) → Pairs (λ (d e : Edge). T (edges_cross d e) → N (edge_crossing d e)) es
  unfolding edge_crossings
  crossings_pairs [] h = tt
  crossings_pairs (e ∷ es) h = (with_each e es (all_left N (edge_crossings_with e es) (edge_crossings es) h), crossings_pairs es (all_right N (edge_crossings_with e es) (edge_crossings es) h))

-- ---- the events are enough
inside-crosses : (d e : Edge) → T (edges_cross d e) → T (crosses d.line e.line)
unfolding cross_inside
inside-crosses d e h = let m = meet d.line e.line in (and_yes (crosses d.line e.line) (inside m (segment d) && inside m (segment e)) h).0

module _ (L : ℕ) where
  -- x is the position of one of ks
  abbrev Stands : List Base → Fraction → Type 0
  Stands ks x = Any (λ (k : Base). x ≡ position k) ks

  marks_all : (N : Base → Type 0) (polygon : Polygon) → All (λ (v : Vertex). N (mark L v.x)) polygon → All N (marks L polygon)
  unfolding marks
  marks_all N [] h = tt
  marks_all N (v ∷ vs) h = (h.0, marks_all N vs h.1)

  -- each vertex has its mark
  marks_stand : (polygon : Polygon) → All (λ (v : Vertex). Stands (marks L polygon) (whole v.x)) polygon
  unfolding marks
  marks_stand [] = tt
  marks_stand (v ∷ vs) = (inl (sym (mark-position L v.x)), all_map (λ w h. inr h) vs (marks_stand vs))

  module _ (polygon : Polygon) where
    -- what holds of each mark and of each crossing
    pub events_all : (N : Base → Type 0) → All (λ (v : Vertex). N (mark L v.x)) polygon → All N (edge_crossings (edges polygon)) → All N (polygon_events L polygon)
    unfolding polygon_events
    events_all N h k = all_append N (marks L polygon) (edge_crossings (edges polygon)) (marks_all N polygon h) k

    vertices_stand : All (λ (v : Vertex). Stands (polygon_events L polygon) (whole v.x)) polygon
    unfolding polygon_events
    vertices_stand = all_map (λ v h. any_left (λ (k : Base). whole v.x ≡ position k) (marks L polygon) (edge_crossings (edges polygon)) h) polygon (marks_stand polygon)

    crossings_stand : All (λ (c : Base). Stands (polygon_events L polygon) (position c)) (edge_crossings (edges polygon))
    unfolding polygon_events
    crossings_stand =
        let es = edge_crossings (edges polygon) in
        all_map (λ c m. any_right (λ (k : Base). position c ≡ position k) (marks L polygon) es (any_map (λ k e. ap position e) es m)) es (members es)

    events_proper : All (λ (k : Base). Proper (position k)) (polygon_events L polygon)
    events_proper =
        events_all (λ (k : Base). Proper (position k))
        (all_of (λ (v : Vertex). Proper (position (mark L v.x))) (λ v. mark_proper L v.x) polygon)
        (crossings_all (λ (e : Edge). Member e (edges polygon)) (λ (k : Base). Proper (position k)) (λ d e m n c. meet_proper d.line e.line (inside-crosses d e c)) (edges polygon) (members (edges polygon)))

    edges_stand : All (Ends (λ (v : Vertex). Stands (polygon_events L polygon) (whole v.x))) (edges polygon)
    edges_stand = edges_ends (λ (v : Vertex). Stands (polygon_events L polygon) (whole v.x)) polygon vertices_stand

    pub complete : Complete segment position (edges polygon) (polygon_events L polygon)
    complete =
        record {
          proper = events_proper;
          lines = all_map (λ e h. h.proper) (edges polygon) edges_stand;
          from = all_map (λ e h. h.low) (edges polygon) edges_stand;
          to = all_map (λ e h. h.high) (edges polygon) edges_stand;
          meets = crossings_pairs (λ (k : Base). Stands (polygon_events L polygon) (position k)) (edges polygon) crossings_stand;
        }

-- ---- and no more than the vertices and the crossings
module _ (x : Fraction) where
  -- a mark that stands at x is that of a vertex there
  marks_vertex : (L : ℕ) (polygon : Polygon) → Any (λ (k : Base). x ≡ position k) (marks L polygon) → Any (λ (v : Vertex). x ≡ whole v.x) polygon
  unfolding marks
  marks_vertex L [] h = h
  marks_vertex L (v ∷ vs) (inl h) = inl (h ∙ mark-position L v.x)
  marks_vertex L (v ∷ vs) (inr h) = inr (marks_vertex L vs h)

  with_some : (d : Edge) (es : List Edge) → Any (λ (k : Base). x ≡ position k) (edge_crossings_with d es) → Any (CrossAt x d) es
  unfolding edge_crossings_with
  with_some d [] h = h
  with_some d (e ∷ es) h = go (edges_cross d e) (λ t. t) h (with_some d es)
    where
      At : List Base → Type 0
      At ks = Any (λ (k : Base). x ≡ position k) ks

      go : (t : Bool) → (T t → T (cross_inside (segment d) (segment e))) → At (cond t (edge_crossing d e ∷ edge_crossings_with d es) (edge_crossings_with d es)) → (At (edge_crossings_with d es) → Any (CrossAt x d) es)
          → CrossAt x d e ⊎ Any (CrossAt x d) es
      go true f (inl h) k = inl (f tt, h)
      go true f (inr h) k = inr (k h)
      go false f h k = inr (k h)

  crossings_some : (es : List Edge) → Any (λ (k : Base). x ≡ position k) (edge_crossings es) → SomePair (CrossAt x) es
  unfolding edge_crossings
  crossings_some [] h = h
  crossings_some (e ∷ es) h = elim (any_split (λ (k : Base). x ≡ position k) (edge_crossings_with e es) (edge_crossings es) h) [ inl k ↦ inl (with_some e es k) | inr k ↦ inr (crossings_some es k) ]

pub events_exact : EventsExact
unfolding polygon_events
events_exact L polygon x = (there, back)
  where
    there : Any (λ (k : Base). x ≡ position k) (marks L polygon ++ edge_crossings (edges polygon)) → Any (λ (v : Vertex). x ≡ whole v.x) polygon ⊎ SomePair (CrossAt x) (edges polygon)
    there h = elim (any_split (λ (k : Base). x ≡ position k) (marks L polygon) (edge_crossings (edges polygon)) h) [ inl k ↦ inl (marks_vertex x L polygon k) | inr k ↦ inr (crossings_some x (edges polygon) k) ]

    back : Any (λ (v : Vertex). x ≡ whole v.x) polygon ⊎ SomePair (CrossAt x) (edges polygon) → Any (λ (k : Base). x ≡ position k) (marks L polygon ++ edge_crossings (edges polygon))
    back (inl h) = any_elim (λ v s e. subst (Stands L (polygon_events L polygon)) (sym e) s) polygon (vertices_stand L polygon) h
    back (inr h) = some_pair (λ d e s c. subst (Stands L (polygon_events L polygon)) (sym c.1) (s c.0)) (edges polygon) (complete L polygon).meets h
