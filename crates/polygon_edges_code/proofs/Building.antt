-- The edges of a polygon built one by one.
use mathlib.Core.Path.{◌≡◌, refl, sym, ◌∙◌, ap, ap₂, subst}
use mathlib.Core.Bool.{Bool, true, false}
use mathlib.Core.List.{List, [], ◌∷◌, ◌++◌, append-nil, append_assoc}
use Prim.Native.Nat.{ℕ, zero, suc, ◌+◌, ◌*◌, ◌-◌, ◌<◌, ◌≤◌, zero-le}
use native.Mathlib.Nat.{le_trans}
use native.Mathlib.Omega.{arith}
use lib.Dec.{ltb, ltb→lt, nltb→le}
use lib.ListN.{length, get_or, drop}
use lib.Seq.{drop-cons, drop-nil}
use lib.IntN.{ℤ, pos, negsuc, nat_abs}
use lib.Signed.{lt_z}
use Rattle.lists.proofs.Lists.{all_map}
use Rattle.lists.proofs.Tests.{is_true, is_false}
use Rattle.geometry.specs.declared.Line.{Line}
use Rattle.geometry.specs.Limit.{coordinate_limit, OnGrid}
use Rattle.geometry.specs.declared.Vertex.{Vertex}
use Rattle.geometry.specs.Polygons.{Polygon, VertexOnGrid, PolygonOnGrid}
use Rattle.fracture.specs.Polygons.{Edge, through, edge, edges_from, edges}
use Rattle.geometry_code.specs.Code.{CoefficientsOf}
use Rattle.geometry_code.specs.Polygons.{polygon_of}
use Rattle.polygon_edges_code.specs.Edges.{line_number, terms_number, direction_number, edge_number, stored_edges, EdgesHeld, EdgesOf, EdgePut, vertex_at, Lengthened}
use Rattle.polygon_edges_code.proofs.Numbers.{numbered_same, numbered_more, from_last}

-- ---- words of vertices
pub two_words : (ws : List ℤ) (k : ℕ) → k + 1 < length ws → drop k ws ≡ get_or ws k (pos 0) ∷ get_or ws (k + 1) (pos 0) ∷ drop (k + 2) ws
two_words ws k l =
    let e : k + 1 ≡ suc k = omega arith in
    let f : k + 2 ≡ suc (suc k) = omega arith in
    rw (e, f) (drop-cons ws k (pos 0) (omega arith) ∙ ap (λ (vs : List ℤ). get_or ws k (pos 0) ∷ vs) (drop-cons ws (suc k) (pos 0) (omega arith)))

pub few_words : (ws : List ℤ) (k : ℕ) → length ws ≤ k + 1 → polygon_of (drop k ws) ≡ []
few_words [] k l = ap polygon_of (drop-nil k)
few_words (x ∷ []) zero l = refl
few_words (x ∷ y ∷ ws) zero l = absurd (omega arith)
few_words (x ∷ ws) (suc k) l = few_words ws k (omega arith)

pub grid_through : {L : ℕ} (a b : Vertex) (l : Line) → VertexOnGrid L a → VertexOnGrid L b → l ≡ through a b → OnGrid L l
grid_through a b l ha hb e = rw e (record { x1 = ha.x; y1 = ha.y; x2 = hb.x; y2 = hb.y })

-- ---- one edge
module _ {n : ℕ} {ls ts : List ℤ} (h : EdgesHeld n ls ts) (room : n < 32) where
  module _ {l : Line} {d : ℤ} {ls' ts' : List ℤ} (p : EdgePut n l d ls ts ls' ts') (hl : length ls' ≡ 128) (ht : length ts' ≡ 128) (grid : OnGrid coordinate_limit l) (light : nat_abs d ≤ 1) where
    -- what holds of number n and of those before it holds of those before number n + 1
    each : (P : ℕ → Type 0) → P n → ((k : ℕ) → k < n → P k) → (k : ℕ) → k < n + 1 → P k
    each P last before k lk = go (ltb k n) refl
      where
        go : (t : Bool) → ltb k n ≡ t → P k
        go true z = before k (ltb→lt k n (is_true z))
        go false z = let m = nltb→le k n (is_false z) in let e : n ≡ k = omega (arith, m, lk) in subst P e last

    terms_last : CoefficientsOf (line_number ls' n) (terms_number ts' n)
    terms_last = rw p.line p.terms

    held : EdgesHeld (n + 1) ls' ts'
    held =
        record {
          lines = record {
            long = hl;
            few = omega (arith, room);
            grid = each (λ (k : ℕ). OnGrid coordinate_limit (line_number ls' k)) (subst (OnGrid coordinate_limit) (sym p.line) grid) (λ k lk. subst (OnGrid coordinate_limit) (sym (p.kept_line k lk)) (h.lines.grid k lk));
          };
          long = ht;
          terms = each (λ (k : ℕ). CoefficientsOf (line_number ls' k) (terms_number ts' k)) terms_last (λ k lk. rw (p.kept_line k lk, p.kept_terms k lk) (h.terms k lk));
          light = each (λ (k : ℕ). nat_abs (direction_number ts' k) ≤ 1) (rw p.direction light) (λ k lk. rw (p.kept_direction k lk) (h.light k lk));
        }

    same_edge : {l m : Line} {d e : ℤ} → l ≡ m → d ≡ e → ◌≡◌ {A = Edge} (record { line = l; direction = d }) (record { line = m; direction = e })
    same_edge a b = λ i. record { line = a i; direction = b i }

    pub longer_line : Lengthened n ls ts (record { line = l; direction = d } ∷ []) (n + 1) ls' ts'
    longer_line =
        record {
          held = held;
          is = numbered_more (edge_number ls' ts') n ∙ ap₂ (λ (es : List Edge) (e : Edge). es ++ (e ∷ [])) (numbered_same (edge_number ls' ts') (edge_number ls ts) (n - 0) 0 (λ k lk. same_edge (p.kept_line k (omega (arith, lk))) (p.kept_direction k (omega (arith, lk))))) (same_edge p.line p.direction);
          count = omega arith;
        }

  module _ (a b : Vertex) where
    pub longer_right : (l : Line) (d : ℤ) → l ≡ through a b → d ≡ pos 1 → lt_z a.x b.x ≡ true → (r : ℕ) (ls' ts' : List ℤ) → Lengthened n ls ts (record { line = l; direction = d } ∷ []) r ls' ts' → Lengthened n ls ts (edge a b) r ls' ts'
    longer_right l d e f t r ls' ts' k = subst (λ (es : List Edge). Lengthened n ls ts es r ls' ts') is k
      where
        is : ◌≡◌ {A = List Edge} (record { line = l; direction = d } ∷ []) (edge a b)
        is = unfold edge in rw t (λ i. record { line = e i; direction = f i } ∷ [])

    pub longer_left : (l : Line) (d : ℤ) → l ≡ through b a → d ≡ negsuc 0 → lt_z a.x b.x ≡ false → lt_z b.x a.x ≡ true → (r : ℕ) (ls' ts' : List ℤ) → Lengthened n ls ts (record { line = l; direction = d } ∷ []) r ls' ts' → Lengthened n ls ts (edge a b) r ls' ts'
    longer_left l d e f s t r ls' ts' k = subst (λ (es : List Edge). Lengthened n ls ts es r ls' ts') is k
      where
        is : ◌≡◌ {A = List Edge} (record { line = l; direction = d } ∷ []) (edge a b)
        is = unfold edge in rw (s, t) (λ i. record { line = e i; direction = f i } ∷ [])

    pub longer_flat : lt_z a.x b.x ≡ false → lt_z b.x a.x ≡ false → Lengthened n ls ts (edge a b) n ls ts
    longer_flat s t = record { held = h; is = sym (append-nil (stored_edges n ls ts)) ∙ ap (λ (es : List Edge). stored_edges n ls ts ++ es) is; count = omega arith }
      where
        is : [] ≡ edge a b
        is = unfold edge in rw (s, t)

-- ---- all of them
pub held_none : (ls ts : List ℤ) → length ls ≡ 128 → length ts ≡ 128 → EdgesHeld 0 ls ts
held_none ls ts hl ht =
    record {
      lines = record { long = hl; few = zero-le; grid = λ k l. absurd (omega (arith, l)) };
      long = ht;
      terms = λ k l. absurd (omega (arith, l));
      light = λ k l. absurd (omega (arith, l));
    }

-- the edges up to the vertex whose words start at k are there, m of them
pub record Building (ws ls ts : List ℤ) (m k : ℕ) : Type 0 where
  pub held : EdgesHeld m ls ts
  pub is : edges (polygon_of ws) ≡ stored_edges m ls ts ++ edges_from (vertex_at ws 0) (vertex_at ws k) (polygon_of (drop (k + 2) ws))
  pub count : 2 * m ≤ k
  pub within : k + 1 < length ws
  pub few : length ws ≤ 64
  pub first : VertexOnGrid coordinate_limit (vertex_at ws 0)
  pub grid : PolygonOnGrid coordinate_limit (polygon_of (drop k ws))

module _ (ws ls ts : List ℤ) (hl : length ls ≡ 128) (ht : length ts ≡ 128) where
  pub no_vertices : length ws < 2 → EdgesOf (polygon_of ws) 0 ls ts
  no_vertices l = record { held = held_none ls ts hl ht; is = rw (few_words ws 0 (omega arith)) (unfold edges in from_last (edge_number ls ts) 0 0 zero-le) }

  pub building_start : 2 ≤ length ws → length ws ≤ 64 → PolygonOnGrid coordinate_limit (polygon_of ws) → Building ws ls ts 0 0
  building_start l f g =
      let two = two_words ws 0 (omega arith) in
      record {
        held = held_none ls ts hl ht;
        is = ap (λ (vs : List ℤ). edges (polygon_of vs)) two ∙ (unfold edges in ap (λ (es : List Edge). es ++ edges_from (vertex_at ws 0) (vertex_at ws 0) (polygon_of (drop 2 ws))) (sym (from_last (edge_number ls ts) 0 0 zero-le)));
        count = omega arith;
        within = omega arith;
        few = f;
        first = (subst (λ (vs : List ℤ). PolygonOnGrid coordinate_limit (polygon_of vs)) two g).0;
        grid = g;
      }

module _ (ws ls ts : List ℤ) (m k : ℕ) (h : Building ws ls ts m k) where
  here_grid : PolygonOnGrid coordinate_limit (polygon_of (get_or ws k (pos 0) ∷ get_or ws (k + 1) (pos 0) ∷ drop (k + 2) ws))
  here_grid = subst (λ (vs : List ℤ). PolygonOnGrid coordinate_limit (polygon_of vs)) (two_words ws k h.within) h.grid

  pub building_grid : VertexOnGrid coordinate_limit (vertex_at ws k)
  building_grid = here_grid.0

  pub building_room : m < 32
  building_room = omega (arith, h.count, h.within, h.few)

  module _ (l : k + 2 + 1 < length ws) where
    next_grid : PolygonOnGrid coordinate_limit (polygon_of (get_or ws (k + 2) (pos 0) ∷ get_or ws (k + 2 + 1) (pos 0) ∷ drop (k + 2 + 2) ws))
    next_grid = subst (λ (vs : List ℤ). PolygonOnGrid coordinate_limit (polygon_of vs)) (two_words ws (k + 2) l) here_grid.1

    pub building_next_grid : VertexOnGrid coordinate_limit (vertex_at ws (k + 2))
    building_next_grid = next_grid.0

    from_next : edges_from (vertex_at ws 0) (vertex_at ws k) (polygon_of (drop (k + 2) ws)) ≡ edge (vertex_at ws k) (vertex_at ws (k + 2)) ++ edges_from (vertex_at ws 0) (vertex_at ws (k + 2)) (polygon_of (drop (k + 2 + 2) ws))
    from_next = ap (λ (vs : List ℤ). edges_from (vertex_at ws 0) (vertex_at ws k) (polygon_of vs)) (two_words ws (k + 2) l) ∙ (unfold edges_from in refl)

    pub building_next : (r : ℕ) (ls' ts' : List ℤ) → Lengthened m ls ts (edge (vertex_at ws k) (vertex_at ws (k + 2))) r ls' ts' → Building ws ls' ts' r (k + 2)
    building_next r ls' ts' j =
        let rest = edges_from (vertex_at ws 0) (vertex_at ws (k + 2)) (polygon_of (drop (k + 2 + 2) ws)) in
        record {
          held = j.held;
          is = h.is ∙ ap (λ (es : List Edge). stored_edges m ls ts ++ es) from_next ∙ sym (append_assoc (stored_edges m ls ts) (edge (vertex_at ws k) (vertex_at ws (k + 2))) rest) ∙ ap (λ (es : List Edge). es ++ rest) (sym j.is);
          count = omega (arith, j.count, h.count);
          within = l;
          few = h.few;
          first = h.first;
          grid = here_grid.1;
        }

  pub building_last : length ws ≤ k + 2 + 1 → (r : ℕ) (ls' ts' : List ℤ) → Lengthened m ls ts (edge (vertex_at ws k) (vertex_at ws 0)) r ls' ts' → EdgesOf (polygon_of ws) r ls' ts'
  building_last l r ls' ts' j =
      record {
        held = j.held;
        is = j.is
            ∙ sym (h.is
            ∙ ap (λ (vs : List Vertex). stored_edges m ls ts ++ edges_from (vertex_at ws 0) (vertex_at ws k) vs) (few_words ws (k + 2) l)
            ∙ (unfold edges_from in refl));
      }

-- a greater limit lets the same polygons pass
pub grid_wider : (L : ℕ) (polygon : Polygon) → L ≤ coordinate_limit → PolygonOnGrid L polygon → PolygonOnGrid coordinate_limit polygon
grid_wider L polygon l h = all_map (λ v k. record { x = le_trans k.x l; y = le_trans k.y l }) polygon h
