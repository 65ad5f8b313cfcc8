-- An edge put among the groups, if it spans the position.
use mathlib.Core.Path.{◌≡◌, refl, sym, ◌∙◌, ap, subst}
use mathlib.Core.Bool.{true, false}
use mathlib.Core.List.{List, [], ◌∷◌, map}
use Prim.Native.Nat.{ℕ, zero, suc, ◌+◌, ◌<◌, ◌≤◌}
use native.Mathlib.Omega.{arith}
use lib.ListN.{length, get_or, set, take, drop, length-map}
use lib.Seq.{length-take-le, get_or-take, take-set-lt}
use lib.IntN.{ℤ, pos, nat_abs}
use Rattle.lists.specs.Lists.{All}
use Rattle.lists.proofs.Lists.{all_at, all_append, all_take, all_drop, all_map}
use Rattle.integer.specs.Integer.{◌⊕◌}
use Rattle.integer.specs.Fraction.{Fraction}
use Rattle.integer.proofs.Ring.{ring, ◌⊞◌, ◌≗◌}
use Rattle.geometry.specs.declared.Line.{Line}
use Rattle.geometry.specs.Positions.{below}
use Rattle.sweep.specs.Segments.{spans}
use Rattle.sweep.specs.Columns.{lower}
use Rattle.std.specs.Prelude.{Result, Ok, Err}
use Rattle.sorting.specs.Sorted.{inserted, merged, Lands}
use Rattle.sorting.specs.Weighed.{Weighed, joined, lighter}
use Rattle.sorting.proofs.Merging.{merge_before, merge_level, same_within}
use Rattle.fracture.specs.Polygons.{Edge, line_of}
use Rattle.polygon_edges_code.specs.Edges.{line_number, direction_number, edge_number}
use Rattle.polygon_events_code.specs.Code.{line_segment}
use Rattle.groups_code.specs.Groups.{Fits, AddedAt, Comparables, TermsOf, gathered, groups_in, EdgeHeld, Numbered, Held, alone, Widened}

-- ---- lists side by side
module _ (ls ts : List ℤ) where
  abbrev group : ℕ → ℤ → Weighed Edge
  group k w = record { item = edge_number ls ts k; weight = w }

  gathered_lines : (ks : List ℕ) (ws : List ℤ) → length ks ≡ length ws → map (λ (g : Weighed Edge). g.item.line) (gathered ls ts ks ws) ≡ map (line_number ls) ks
  gathered_lines [] ws e = refl
  gathered_lines (k ∷ ks) [] e = absurd (omega arith)
  gathered_lines (k ∷ ks) (w ∷ ws) e = ap (λ (r : List Line). line_number ls k ∷ r) (gathered_lines ks ws (omega arith))

  pub gathered_length : (ks : List ℕ) (ws : List ℤ) → length ks ≡ length ws → length (gathered ls ts ks ws) ≡ length ks
  gathered_length [] ws e = refl
  gathered_length (k ∷ ks) [] e = absurd (omega arith)
  gathered_length (k ∷ ks) (w ∷ ws) e = ap suc (gathered_length ks ws (omega arith))

  pub gathered_at : (ks : List ℕ) (ws : List ℤ) (i : ℕ) (g : Weighed Edge) → i < length ks → length ks ≡ length ws → get_or (gathered ls ts ks ws) i g ≡ record { item = edge_number ls ts (get_or ks i 0); weight = get_or ws i (pos 0) }
  gathered_at [] ws i g l e = absurd (omega arith)
  gathered_at (k ∷ ks) [] i g l e = absurd (omega arith)
  gathered_at (k ∷ ks) (w ∷ ws) zero g l e = refl
  gathered_at (k ∷ ks) (w ∷ ws) (suc i) g l e = gathered_at ks ws i g (omega arith) (omega arith)

  pub gathered_weights : (P : ℤ → Type 0) (ks : List ℕ) (ws : List ℤ) → length ks ≡ length ws → All (λ (g : Weighed Edge). P g.weight) (gathered ls ts ks ws) → All P ws
  gathered_weights P [] [] e h = tt
  gathered_weights P [] (w ∷ ws) e h = absurd (omega arith)
  gathered_weights P (k ∷ ks) [] e h = tt
  gathered_weights P (k ∷ ks) (w ∷ ws) e h = (h.0, gathered_weights P ks ws (omega arith) h.1)

  module _ (n : ℕ) (z : ℤ) where
    gathered_inserted : (i : ℕ) (ks : List ℕ) (ws : List ℤ) → i ≤ length ks → length ks ≡ length ws → gathered ls ts (inserted i n ks) (inserted i z ws) ≡ inserted i (group n z) (gathered ls ts ks ws)
    gathered_inserted zero ks ws l e = refl
    gathered_inserted (suc i) [] ws l e = absurd (omega arith)
    gathered_inserted (suc i) (k ∷ ks) [] l e = absurd (omega arith)
    gathered_inserted (suc i) (k ∷ ks) (w ∷ ws) l e = ap (λ (r : List (Weighed Edge)). group k w ∷ r) (gathered_inserted i ks ws (omega arith) (omega arith))

    gathered_set : (i : ℕ) (ks : List ℕ) (ws : List ℤ) → length ks ≡ length ws → gathered ls ts (set ks i n) (set ws i z) ≡ set (gathered ls ts ks ws) i (group n z)
    gathered_set i [] ws e = refl
    gathered_set i (k ∷ ks) [] e = absurd (omega arith)
    gathered_set zero (k ∷ ks) (w ∷ ws) e = refl
    gathered_set (suc i) (k ∷ ks) (w ∷ ws) e = ap (λ (r : List (Weighed Edge)). group k w ∷ r) (gathered_set i ks ws (omega arith))

all_set : {A : Type 0} (P : A → Type 0) (xs : List A) (i : ℕ) (x : A) → All P xs → P x → All P (set xs i x)
all_set P [] i x h p = tt
all_set P (y ∷ ys) zero x h p = (p, h.1)
all_set P (y ∷ ys) (suc i) x h p = (h.0, all_set P ys i x h.1 p)

-- ---- at a place
pub weight_light : (m : ℕ) (ws : List ℤ) → All (λ (w : ℤ). nat_abs w ≤ 64) (take m ws) → m ≤ length ws → (i : ℕ) → i < m → nat_abs (get_or ws i (pos 0)) ≤ 64
weight_light m ws a n i l = subst (λ (w : ℤ). nat_abs w ≤ 64) (get_or-take m ws i (pos 0) l) (all_at (λ (w : ℤ). nat_abs w ≤ 64) (take m ws) i (pos 0) a (omega (arith, l, length-take-le m ws n)))

module _ (p : Result ℕ ℕ) (i m : ℕ) (h : Fits p m) where
  pub fits_before : p ≡ Err i → i ≤ m
  fits_before e = subst (λ (q : Result ℕ ℕ). Fits q m) e h

  pub fits_level : p ≡ Ok i → i < m
  fits_level e = subst (λ (q : Result ℕ ℕ). Fits q m) e h

module _ (p : Result ℕ ℕ) (i k : ℕ) (w : ℤ) (m : ℕ) (ks : List ℕ) (ws : List ℤ) (ks' : List ℕ) (ws' : List ℤ) where
  pub added_before : p ≡ Err i → take (m + 1) ks' ≡ inserted i k (take m ks) → take (m + 1) ws' ≡ inserted i w (take m ws) → AddedAt p k w m ks ws (m + 1) ks' ws'
  added_before e a b = subst (λ (q : Result ℕ ℕ). AddedAt q k w m ks ws (m + 1) ks' ws') (sym e) (refl, a, b)

  pub added_level : p ≡ Ok i → (u s : ℤ) → u ≡ get_or ws i (pos 0) → s ≡ u ⊕ w → ks' ≡ set ks i k → ws' ≡ set ws i s → AddedAt p k w m ks ws m ks' ws'
  added_level e u s eu es a b = subst (λ (q : Result ℕ ℕ). AddedAt q k w m ks ws m ks' ws') (sym e) (refl, a, b ∙ ap (set ws i) (es ∙ ap (λ (z : ℤ). z ⊕ w) eu))

module _ {ls ts : List ℤ} {m : ℕ} {ks : List ℕ} {ws : List ℤ} (h : Held ls ts m ks ws) where
  pub held_comparables : Comparables ts m ks
  held_comparables = record { long = h.terms; upto = h.numbered.upto; all = all_map (λ k e. (e.within, e.terms.small)) (take m ks) h.numbered.all }

  pub held_terms : TermsOf ls ts m ks
  held_terms = all_map (λ k e. e.terms) (take m ks) h.numbered.all

module _ {ls ts : List ℤ} {m : ℕ} {ks : List ℕ} {ws : List ℤ} (h : Held ls ts m ks ws) (x : Fraction) (k : ℕ) (edge : EdgeHeld ls ts k) (lm : m < 32) where
  abbrev gs : List (Weighed Edge)
  gs = groups_in ls ts m ks ws

  abbrev line_in : Weighed Edge → Line
  line_in g = g.item.line

  m_k : length (take m ks) ≡ m
  m_k = length-take-le m ks h.numbered.upto

  m_w : length (take m ws) ≡ m
  m_w = length-take-le m ws (omega (arith, h.weights, lm))

  keys : map (line_number ls) (take m ks) ≡ map line_in gs
  keys = sym (gathered_lines ls ts (take m ks) (take m ws) (m_k ∙ sym m_w))

  m_lines : length (map (line_number ls) (take m ks)) ≡ m
  m_lines = length-map (take m ks) (line_number ls) ∙ m_k

  pub fits : (r : Result ℕ ℕ) → Lands (below x) (line_number ls k) (map (line_number ls) (take m ks)) r → Fits r m
  fits (Err i) lands = omega (arith, lands.0.upto, m_lines)
  fits (Ok i) lands = let n = same_within {A = Line} (λ (y : Line). y) (below x) (λ (a b : Line). a) (line_number ls k) (map (line_number ls) (take m ks)) (line_number ls k) i lands.1 in omega (arith, n, m_lines)

  abbrev joined_in : List (Weighed Edge)
  joined_in = merged (lighter (lower line_of x)) joined (alone ls ts k) gs

  joined_at : (p : Result ℕ ℕ) (r : ℕ) (ks' : List ℕ) (ws' : List ℤ) → length ks' ≡ 32 → Lands (below x) (line_number ls k) (map line_in gs) p → Fits p m → AddedAt p k (direction_number ts k) m ks ws r ks' ws'
      → (groups_in ls ts r ks' ws' ≡ joined_in) × Numbered ls ts r ks'
  joined_at (Err i) r ks' ws' l lands f (er, ek, ew) =
      rw er (
        (rw (ek, ew) (gathered_inserted ls ts k (direction_number ts k) i (take m ks) (take m ws) (omega (arith, f, m_k)) (m_k ∙ sym m_w))
            ∙ sym (merge_before line_in (below x) joined (alone ls ts k) gs i lands.0 lands.1)),
        record {
          upto = omega (arith, l, lm);
          all = rw ek (all_append (EdgeHeld ls ts) (take i (take m ks)) (k ∷ drop i (take m ks)) (all_take (EdgeHeld ls ts) i (take m ks) h.numbered.all) (edge, all_drop (EdgeHeld ls ts) i (take m ks) h.numbered.all));
        },
      )
  joined_at (Ok i) r ks' ws' l lands f (er, ek, ew) =
      let d = direction_number ts k in
      let z = get_or ws i (pos 0) ⊕ d in
      let old : (get_or gs i (alone ls ts k)).weight ≡ get_or ws i (pos 0) = ap (λ (g : Weighed Edge). g.weight) (gathered_at ls ts (take m ks) (take m ws) i (alone ls ts k) (omega (arith, m_k, f)) (m_k ∙ sym m_w)) ∙ get_or-take m ws i (pos 0) f in
      let e : z ≡ d ⊕ (get_or gs i (alone ls ts k)).weight = ring 2 (λ a b. a ⊞ b ≗ b ⊞ a) tt (get_or ws i (pos 0)) d ∙ ap (λ (y : ℤ). d ⊕ y) (sym old) in
      rw er (
        (rw (ek, ew, take-set-lt m ks i k f, take-set-lt m ws i z f) (gathered_set ls ts k z i (take m ks) (take m ws) (m_k ∙ sym m_w))
            ∙ ap (λ (y : ℤ). set gs i (record { item = edge_number ls ts k; weight = y })) e
            ∙ sym (merge_level line_in (below x) joined (alone ls ts k) gs i (alone ls ts k) lands.0 lands.1)),
        record { upto = omega (arith, l, lm); all = rw (ek, take-set-lt m ks i k f) (all_set (EdgeHeld ls ts) (take m ks) i k h.numbered.all edge) },
      )

  module _ (l : Line) (el : l ≡ line_number ls k) where
    spans_is : spans x (line_segment l) ≡ spans x (line_segment (line_number ls k))
    spans_is = ap (λ (y : Line). spans x (line_segment y)) el

    pub widened_yes : spans x (line_segment l) ≡ true → (p : Result ℕ ℕ) (id : ℕ) (w : ℤ) (r : ℕ) (ks' : List ℕ) (ws' : List ℤ) → id ≡ k → w ≡ direction_number ts k → length ks' ≡ 32
        → Lands (below x) (line_number ls k) (map (line_number ls) (take m ks)) p → AddedAt p id w m ks ws r ks' ws' → Widened ls ts x k m ks ws r ks' ws'
    widened_yes e p id w r ks' ws' ei ew lk lands a =
        let b : AddedAt p k (direction_number ts k) m ks ws r ks' ws' = subst (λ (j : ℕ). AddedAt p j (direction_number ts k) m ks ws r ks' ws') ei (subst (λ (v : ℤ). AddedAt p id v m ks ws r ks' ws') ew a) in
        let j = joined_at p r ks' ws' lk (subst (λ (ys : List Line). Lands (below x) (line_number ls k) ys p) keys lands) (fits p lands) b in
        record { is = rw (sym spans_is ∙ e) j.0; numbered = j.1 }

    pub widened_no : spans x (line_segment l) ≡ false → Widened ls ts x k m ks ws m ks ws
    widened_no e = record { is = rw (sym spans_is ∙ e); numbered = h.numbered }
