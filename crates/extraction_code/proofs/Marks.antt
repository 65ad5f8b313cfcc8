-- The triples by the marks are the triples of the definition.
use mathlib.Core.Path.{◌≡◌, refl, sym, ◌∙◌, ap}
use mathlib.Core.Bool.{Bool, true, false, cond, ◌&&◌}
use mathlib.Core.List.{List, []}
use Prim.Native.Nat.{ℕ, ◌<◌}
use lib.Dec.{eqb, eqb→eq}
use lib.ListN.{length, get_or}
use borrow.Author.Tests.{eq-eqb}
use Rattle.lists.specs.Lists.{each}
use Rattle.lists.specs.Tests.{keep}
use Rattle.lists.proofs.Lists.{all_of, all_map}
use Rattle.lists.proofs.Tests.{is_true, same_test}
use Rattle.lists.proofs.Each.{each_none, each_same, each_keep, each_cond}
use Rattle.geometry.specs.declared.Trapezoid.{Trapezoid}
use Rattle.connectivity.specs.Components.{own_numbers}
use Rattle.extraction.specs.Shapes.{shape_of, is_some, shape_numbers}
use Rattle.extraction.specs.Extraction.{Triple, encloses_at, triple_if, triples}
use Rattle.extraction.proofs.Shapes.{own_below}
use Rattle.triples_code.specs.Code.{emitter_triples, base_triples, marked_triples}
use Rattle.marking_code.specs.Code.{shapes_enclose, MarkedAs}

-- a mark is i exactly if shape i encloses
mark_test : {ts us : List Trapezoid} {d : List ℕ} → MarkedAs ts us d → (i j : ℕ) → i < length ts → j < length us → eqb (get_or d j 0) i ≡ shapes_enclose ts us i j
mark_test {ts} {us} {d} m i j a b =
    same_test (eqb (get_or d j 0) i) (shapes_enclose ts us i j) (λ t. (m.each i j a b).0 (eqb→eq (get_or d j 0) i t)) (λ t. is_true (eq-eqb (get_or d j 0) i ((m.each i j a b).1 t)))

-- ---- by tests alone: p, q and r say which shapes have trapezoids, x and y which enclose which
module _ (c b : ℕ) where
  -- an emitter
  one_is : (s t : Bool) (e : ℕ) → triple_if (s && t) c b e ≡ cond s (triple_if t c b e) []
  one_is true t e = refl
  one_is false t e = refl

  -- a base with its emitters
  row_is : (p q : Bool) (r : ℕ → Bool) (x : Bool) (y : ℕ → Bool) (es : List ℕ)
      → cond (p && (q && x)) (each (λ (e : ℕ). triple_if (q && (r e && y e)) c b e) es) [] ≡ cond p (cond q (each (λ (e : ℕ). triple_if (x && y e) c b e) (keep r es)) []) []
  row_is p q r x y es = go p q x
    where
      made : each (λ (e : ℕ). triple_if (r e && y e) c b e) es ≡ each (λ (e : ℕ). triple_if (y e) c b e) (keep r es)
      made =
          each_same (λ (e : ℕ). triple_if (r e && y e) c b e) (λ (e : ℕ). cond (r e) (triple_if (y e) c b e) []) es (all_of (λ (e : ℕ). triple_if (r e && y e) c b e ≡ cond (r e) (triple_if (y e) c b e) []) (λ e. one_is (r e) (y e) e) es)
          ∙ sym (each_keep r (λ (e : ℕ). triple_if (y e) c b e) es)

      go : (p q x : Bool)
          → cond (p && (q && x)) (each (λ (e : ℕ). triple_if (q && (r e && y e)) c b e) es) [] ≡ cond p (cond q (each (λ (e : ℕ). triple_if (x && y e) c b e) (keep r es)) []) []
      go true true true = made
      go true true false = sym (each_none (λ (e : ℕ). []) (keep r es) (λ e. refl))
      go true false x = refl
      go false q x = refl

module _ {C B E : List Trapezoid} {ds es : List ℕ} (m : MarkedAs C B ds) (n : MarkedAs B E es) where
  abbrev some : List Trapezoid → ℕ → Bool
  some ts k = is_some (shape_of ts k)

  -- the triples of a collector and a base, by the definition
  abbrev row : ℕ → ℕ → List Triple
  row c b = each (λ (e : ℕ). triple_if (encloses_at C B c b && encloses_at B E b e) c b e) (keep (some E) (own_numbers (length E)))

  emitters_are : (c b : ℕ) → b < length B
      → emitter_triples es c b ≡ each (λ (e : ℕ). triple_if (some B b && (some E e && encloses_at B E b e)) c b e) (own_numbers (length E))
  unfolding emitter_triples
  emitters_are c b k =
      ap (λ (l : ℕ). each (λ (e : ℕ). triple_if (eqb (get_or es e 0) b) c b e) (own_numbers l)) n.one_each
      ∙ each_same (λ (e : ℕ). triple_if (eqb (get_or es e 0) b) c b e) (λ (e : ℕ). triple_if (shapes_enclose B E b e) c b e) (own_numbers (length E))
      (all_map (λ e l. ap (λ (t : Bool). triple_if t c b e) (mark_test n b e k l)) (own_numbers (length E)) (own_below (length E)))

  bases_are : (c : ℕ) → c < length C → base_triples ds es c ≡ cond (some C c) (each (row c) (keep (some B) (own_numbers (length B)))) []
  unfolding base_triples
  bases_are c k =
      ap (λ (l : ℕ). each (λ (b : ℕ). cond (eqb (get_or ds b 0) c) (emitter_triples es c b) []) (own_numbers l)) m.one_each
      ∙ each_same (λ (b : ℕ). cond (eqb (get_or ds b 0) c) (emitter_triples es c b) []) (λ (b : ℕ). cond (some C c) (cond (some B b) (row c b) []) []) (own_numbers (length B))
      (all_map (λ b l.
      ap (λ (t : Bool). cond t (emitter_triples es c b) []) (mark_test m c b k l)
      ∙ ap (λ (ts : List Triple). cond (shapes_enclose C B c b) ts []) (emitters_are c b l)
      ∙ row_is c b (some C c) (some B b) (some E) (encloses_at C B c b) (encloses_at B E b) (own_numbers (length E)))
      (own_numbers (length B)) (own_below (length B)))
      ∙ sym (each_cond (some C c) (λ (b : ℕ). cond (some B b) (row c b) []) (own_numbers (length B)))
      ∙ ap (λ (ts : List Triple). cond (some C c) ts []) (sym (each_keep (some B) (row c) (own_numbers (length B))))

  pub marked_triples_lem : marked_triples (length C) ds es ≡ triples C B E
  unfolding marked_triples triples shape_numbers
  marked_triples_lem =
      each_same (base_triples ds es) (λ (c : ℕ). cond (some C c) (each (row c) (keep (some B) (own_numbers (length B)))) []) (own_numbers (length C)) (all_map (λ c l. bases_are c l) (own_numbers (length C)) (own_below (length C)))
      ∙ sym (each_keep (some C) (λ (c : ℕ). each (row c) (keep (some B) (own_numbers (length B)))) (own_numbers (length C)))
