-- The marks put into the arrays, from the last vertex to the first.
use mathlib.Core.Path.{◌≡◌, ◌∙◌, ap, subst}
use mathlib.Core.List.{List, [], ◌∷◌, ◌++◌}
use Prim.Native.Nat.{ℕ, zero, suc, ◌+◌, ◌*◌, ◌-◌, ◌/◌, ◌<◌, ◌≤◌, zero-le}
use native.Mathlib.Omega.{arith}
use native.Mathlib.Nat.{div-add-mod, mod-lt}
use lib.ListN.{length, get_or, drop, length-append, length-drop}
use lib.Seq.{drop-nil}
use lib.IntN.{ℤ, pos, nat_abs}
use Rattle.lists.specs.Lists.{All}
use Rattle.geometry.specs.declared.Position.{Position}
use Rattle.geometry.specs.declared.Vertex.{Vertex}
use Rattle.geometry.specs.Polygons.{PolygonOnGrid}
use Rattle.fracture.specs.Polygons.{whole}
use Rattle.fracture.specs.Fracture.{mark, marks}
use Rattle.geometry_code.specs.Polygons.{polygon_of}
use Rattle.sorting_code.specs.Entries.{entry_of, Stored, Room, Grown}
use Rattle.polygon_edges_code.specs.Edges.{LinesHeld}
use Rattle.polygon_edges_code.proofs.Building.{two_words, few_words}
use Rattle.polygon_events_code.specs.Code.{PlacedAt}
use Rattle.stored_events_code.specs.Events.{Wide, Events, Crossed, crossings_from}
use Rattle.stored_events_code.proofs.Entering.{listed_stored, events_room, events_grow, valid_mark}
use Rattle.stored_events_code.proofs.Crossings.{crossings_most}

polygon_drop : (P : Vertex → Type 0) (k : ℕ) (ws : List ℤ) → All P (polygon_of ws) → All P (polygon_of (drop (2 * k) ws))
polygon_drop P zero ws h = h
polygon_drop P (suc k) [] h = rw (drop-nil {A = ℤ} (2 * suc k)) tt
polygon_drop P (suc k) (x ∷ []) h = let e : 2 * suc k ≡ suc (suc (2 * k)) = omega arith in rw e tt
polygon_drop P (suc k) (x ∷ y ∷ ws) h = let e : 2 * suc k ≡ suc (suc (2 * k)) = omega arith in rw e (polygon_drop P k ws h.1)

marks_few : (L : ℕ) (ws : List ℤ) → 2 * length (marks L (polygon_of ws)) ≤ length ws
unfolding marks
marks_few L [] = zero-le
marks_few L (x ∷ []) = zero-le
marks_few L (x ∷ y ∷ ws) = let h = marks_few L ws in omega arith

-- the marks of the vertices from number k on, and all crossings, are there
pub record Marking (L : ℕ) (ws : List ℤ) (count : ℕ) (ls : List ℤ) (n : ℕ) (a b : List ℤ) (c : List ℕ) (k : ℕ) : Type 0 where
  pub events : Events L ls (marks L (polygon_of (drop (2 * k) ws)) ++ crossings_from count ls 0) n a b c
  pub high : 2 * k ≤ length ws
  pub few : length ws ≤ 64
  pub held : LinesHeld count ls
  pub grid : PolygonOnGrid L (polygon_of ws)

module _ (L : ℕ) (ws : List ℤ) (count : ℕ) (ls : List ℤ) where
  marking_from : (n : ℕ) (a b : List ℤ) (c : List ℕ) (k : ℕ) → Crossed ls (crossings_from count ls 0) n a b c → 2 * k ≤ length ws → length ws ≤ 2 * k + 1 → length ws ≤ 64 → LinesHeld count ls → PolygonOnGrid L (polygon_of ws) → Marking L ws count ls n a b c k
  unfolding marks
  marking_from n a b c k h l m f w g = record { events = rw (few_words ws (2 * k) m) (h L); high = l; few = f; held = w; grid = g }

  pub marking_start : (n : ℕ) (a b : List ℤ) (c : List ℕ) → Crossed ls (crossings_from count ls 0) n a b c → length ws ≤ 64 → LinesHeld count ls → PolygonOnGrid L (polygon_of ws) → Marking L ws count ls n a b c (length ws / 2)
  marking_start n a b c h f w g = let d = div-add-mod (length ws) 2 in let m = mod-lt (length ws) {m = 2} (omega arith) in marking_from n a b c (length ws / 2) h (omega (arith, d)) (omega (arith, d, m)) f w g

  module _ (n : ℕ) (a b : List ℤ) (c : List ℕ) (k : ℕ) (h : Marking L ws count ls n a b c k) (l : 0 < k) where
    marking_few : length (marks L (polygon_of (drop (2 * k) ws)) ++ crossings_from count ls 0) < 528
    marking_few =
        let f = marks_few L (drop (2 * k) ws) in
        let t = crossings_most count ls h.held.few in
        omega (arith, f, t, length-drop (2 * k) ws, h.few, h.high, length-append (marks L (polygon_of (drop (2 * k) ws))) (crossings_from count ls 0))

    pub marking_stored : Stored n a b
    marking_stored = listed_stored h.events.listed

    pub marking_room : Room n a b c
    marking_room = events_room h.events marking_few

    here : drop (2 * (k - 1)) ws ≡ get_or ws (2 * (k - 1)) (pos 0) ∷ get_or ws (2 * (k - 1) + 1) (pos 0) ∷ drop (2 * k) ws
    here = let e : 2 * (k - 1) + 2 ≡ 2 * k = omega arith in two_words ws (2 * (k - 1)) (omega (arith, h.high)) ∙ ap (λ (m : ℕ). get_or ws (2 * (k - 1)) (pos 0) ∷ get_or ws (2 * (k - 1) + 1) (pos 0) ∷ drop m ws) e

    module _ (x : ℤ) (ex : x ≡ get_or ws (2 * (k - 1)) (pos 0)) where
      pub marking_within : nat_abs x ≤ L
      marking_within = rw ex (subst (λ (vs : List ℤ). PolygonOnGrid L (polygon_of vs)) here (polygon_drop _ (k - 1) ws h.grid)).0.x

      pub marking_next : (p : Position) (r : ℕ) (a' b' : List ℤ) (c' : List ℕ) → PlacedAt (whole x) p → Grown n a b c (entry_of p 1024) r a' b' c' → Wide a' b' c' → Marking L ws count ls r a' b' c' (k - 1)
      marking_next p r a' b' c' q g w =
          let m = valid_mark L ls x p marking_within q in
          record {
            events = unfold marks in rw (here, ← ex) (events_grow h.events (mark L x) (entry_of p 1024) r a' b' c' marking_few g w m.1 m.0);
            high = omega (arith, h.high);
            few = h.few;
            held = h.held;
            grid = h.grid;
          }

  pub marking_end : (n : ℕ) (a b : List ℤ) (c : List ℕ) (k : ℕ) → Marking L ws count ls n a b c k → k ≤ 0 → Events L ls (marks L (polygon_of ws) ++ crossings_from count ls 0) n a b c
  marking_end n a b c k h l = let e : k ≡ 0 = omega arith in subst (λ (m : ℕ). Events L ls (marks L (polygon_of (drop (2 * m) ws)) ++ crossings_from count ls 0) n a b c) e h.events
