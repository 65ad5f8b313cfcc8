-- The edges of a polygon: the directions of those that span a position add up to 0, and what holds of the vertices holds of the edges' ends.
use mathlib.Core.Path.{◌≡◌, refl, ◌∙◌, ap, ap₂}
use mathlib.Core.Bool.{Bool, true, false, not, cond, ◌&&◌}
use mathlib.Core.List.{List, [], ◌∷◌}
use lib.Dec.{T}
use lib.IntN.{ℤ, pos, negsuc}
use lib.Signed.{lt_z, ◌<ℤ◌}
use Rattle.lists.specs.Lists.{All}
use Rattle.lists.proofs.Lists.{all_append}
use Rattle.integer.specs.Integer.{◌⊕◌, ◌⊖◌}
use Rattle.integer.specs.Fraction.{Fraction, Proper, before}
use Rattle.integer.proofs.Laws.{mul_one}
use Rattle.integer.proofs.Ring.{ring, ◌⊞◌, ◌⊟◌, con, ◌≗◌}
use Rattle.integer.proofs.Order.{antisymm}
use Rattle.integer.proofs.Linear.{zarith}
use Rattle.integer.proofs.Tests.{lt_yes, lt_no}
use Rattle.integer.proofs.Fraction.{before_trans}
use Rattle.geometry.specs.Lines.{IsLine}
use Rattle.geometry.specs.declared.Vertex.{Vertex}
use Rattle.geometry.specs.Polygons.{Polygon}
use Rattle.sweep.specs.Sums.{sum}
use Rattle.sweep.specs.Segments.{spans}
use Rattle.sweep.proofs.Sums.{sum_append}
use Rattle.fracture.specs.Polygons.{Edge, direction_of, through, edge, edges_from, edges, whole, segment}

-- ---- whole positions
pub whole_proper : (k : ℤ) → Proper (whole k)
whole_proper k = omega zarith

whole_before : (a b : ℤ) → a <ℤ b → T (before (whole a) (whole b))
unfolding before
whole_before a b h = rw (mul_one a, mul_one b) h.lt

-- ---- an edge from a to b counts [x < b] − [x < a], which adds up to 0 round the polygon
module _ (x : Fraction) (hx : Proper x) where
  -- 1 where x is left of k
  abbrev ahead : ℤ → ℤ
  ahead k = cond (before x (whole k)) (pos 1) (pos 0)

  abbrev over : Edge → Bool
  over e = spans x (segment e)

  further : (j k : ℤ) → j <ℤ k → T (before x (whole j)) → T (before x (whole k))
  further j k h t = before_trans x (whole j) (whole k) hx (whole_proper j) (whole_proper k) t (whole_before j k h)

  rightward : (s t : Bool) → (T s → T t) → cond (not s && t) (pos 1) (pos 0) ⊕ pos 0 ≡ cond t (pos 1) (pos 0) ⊖ cond s (pos 1) (pos 0)
  unfolding ◌⊕◌ ◌⊖◌
  rightward true true f = refl
  rightward true false f = absurd (f tt)
  rightward false true f = refl
  rightward false false f = refl

  leftward : (s t : Bool) → (T t → T s) → cond (not t && s) (negsuc 0) (pos 0) ⊕ pos 0 ≡ cond t (pos 1) (pos 0) ⊖ cond s (pos 1) (pos 0)
  unfolding ◌⊕◌ ◌⊖◌
  leftward true true f = refl
  leftward true false f = refl
  leftward false true f = absurd (f tt)
  leftward false false f = refl

  edge_sum : (a b : Vertex) → sum direction_of over (edge a b) ≡ ahead b.x ⊖ ahead a.x
  unfolding sum edge spans
  edge_sum a b = go (lt_z a.x b.x) (lt_z b.x a.x) refl refl
    where
      go : (s t : Bool) → lt_z a.x b.x ≡ s → lt_z b.x a.x ≡ t
          → sum direction_of over (cond s (record { line = through a b; direction = pos 1 } ∷ []) (cond t (record { line = through b a; direction = negsuc 0 } ∷ []) []))
          ≡ ahead b.x ⊖ ahead a.x
      go true t e f = rightward (before x (whole a.x)) (before x (whole b.x)) (further a.x b.x (lt_yes a.x b.x e))
      go false true e f = leftward (before x (whole a.x)) (before x (whole b.x)) (further b.x a.x (lt_yes b.x a.x f))
      go false false e f =
          ring 1 (λ z. con (pos 0) ≗ z ⊟ z) tt (ahead b.x)
          ∙ ap (λ (k : ℤ). ahead b.x ⊖ ahead k) (antisymm (lt_no a.x b.x e) (lt_no b.x a.x f))

  from_sum : (first v : Vertex) (ws : List Vertex) → sum direction_of over (edges_from first v ws) ≡ ahead first.x ⊖ ahead v.x
  unfolding edges_from
  from_sum first v [] = edge_sum v first
  from_sum first v (w ∷ ws) =
      sum_append over direction_of (edge v w) (edges_from first w ws)
      ∙ ap₂ ◌⊕◌ (edge_sum v w) (from_sum first w ws)
      ∙ ring 3 (λ a b c. (b ⊟ c) ⊞ (a ⊟ b) ≗ a ⊟ c) tt (ahead first.x) (ahead w.x) (ahead v.x)

  pub directions_sum : (polygon : Polygon) → sum direction_of over (edges polygon) ≡ pos 0
  unfolding edges sum
  directions_sum [] = refl
  directions_sum (v ∷ vs) = from_sum v v vs ∙ ring 1 (λ z. z ⊟ z ≗ con (pos 0)) tt (ahead v.x)

-- ---- what holds of the vertices holds of an edge's ends
pub record Ends (N : Vertex → Type 0) (e : Edge) : Type 0 where
  pub proper : IsLine e.line
  pub low : N (record { x = e.line.x1; y = e.line.y1 })
  pub high : N (record { x = e.line.x2; y = e.line.y2 })

module _ (N : Vertex → Type 0) where
  edge_ends : (a b : Vertex) → N a → N b → All (Ends N) (edge a b)
  unfolding edge
  edge_ends a b ha hb = go (lt_z a.x b.x) (lt_z b.x a.x) refl refl
    where
      go : (s t : Bool) → lt_z a.x b.x ≡ s → lt_z b.x a.x ≡ t
          → All (Ends N) (cond s (record { line = through a b; direction = pos 1 } ∷ []) (cond t (record { line = through b a; direction = negsuc 0 } ∷ []) []))
      go true t e f = (record { proper = record { rightward = lt_yes a.x b.x e }; low = ha; high = hb }, tt)
      go false true e f = (record { proper = record { rightward = lt_yes b.x a.x f }; low = hb; high = ha }, tt)
      go false false e f = tt

  from_ends : (first v : Vertex) (ws : List Vertex) → N first → N v → All N ws → All (Ends N) (edges_from first v ws)
  unfolding edges_from
  from_ends first v [] hf hv h = edge_ends v first hv hf
  from_ends first v (w ∷ ws) hf hv h = all_append (Ends N) (edge v w) (edges_from first w ws) (edge_ends v w hv h.0) (from_ends first w ws hf h.0 h.1)

  pub edges_ends : (polygon : Polygon) → All N polygon → All (Ends N) (edges polygon)
  unfolding edges
  edges_ends [] h = tt
  edges_ends (v ∷ vs) h = from_ends v v vs h.0 h.0 h.1
