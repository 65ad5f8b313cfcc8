-- The loops over shapes: what holds before each turn, that a turn keeps it, and what it says at the end.
use mathlib.Core.Path.{◌≡◌, refl, sym, ◌∙◌, ap, subst}
use mathlib.Core.Bool.{Bool, true, false, cond, ◌&&◌}
use mathlib.Core.List.{List}
use mathlib.Core.Logic.{⊎_elim}
use Prim.Native.Nat.{ℕ, ◌+◌, ◌*◌, ◌<◌, ◌≤◌}
use native.Mathlib.Numerals.{add-one}
use native.Mathlib.Omega.{arith}
use lib.Dec.{T}
use lib.ListN.{length, get_or, replicate, length-set, length-replicate, get_or-replicate}
use lib.Seq.{get_or-set_same, get_or-set_other}
use Rattle.records.specs.Limits.{max_records}
use Rattle.geometry.specs.declared.Trapezoid.{Trapezoid}
use Rattle.boolean.specs.Space.{enough, space, difference_stages}
use Rattle.boolean.specs.Counts.{is_no_room}
use Rattle.connectivity.proofs.Joining.{less_than, same_or_not}
use Rattle.extraction.specs.Shapes.{is_some}
use Rattle.remainder_code.specs.Code.{overlays_of_layer}
use Rattle.shapes_code.specs.Code.{start_of, trapezoids_between, group_at}
use Rattle.enclosure_code.specs.Code.{stages_of, some_encloses, marked_if}
use Rattle.enclosing_code.specs.Code.{row_stages, row_of, family_stages, unmarked, RowMarked, last_mark, FamilyMarked}
use Rattle.enclosing_code.proofs.Stages.{stages_none, stages_enough, stages_no_room}

-- ---- the group with number k
pub group_at_lem : (ends : List ℕ) (ts : List Trapezoid) (k start : ℕ) → start ≡ start_of ends k → group_at ends ts k ≡ trapezoids_between start (get_or ends k 0) ts
unfolding group_at
group_at_lem ends ts k start e = ap (λ (a : ℕ). trapezoids_between a (get_or ends k 0) ts) (sym e)

-- the next begins where it ends
pub start_next : (ends : List ℕ) (k : ℕ) → get_or ends k 0 ≡ start_of ends (k + 1)
start_next ends k = sym (ap (start_of ends) (add-one k))

-- ---- marks
module _ (b : Bool) (d : List ℕ) (j i : ℕ) where
  mark_length : length (marked_if b d j i) ≡ length d
  mark_length = go b
    where
      go : (t : Bool) → length (marked_if t d j i) ≡ length d
      go true = length-set d j i
      go false = refl

  mark_here : j < length d → get_or (marked_if b d j i) j 0 ≡ cond b i (get_or d j 0)
  mark_here l = go b
    where
      go : (t : Bool) → get_or (marked_if t d j i) j 0 ≡ cond t i (get_or d j 0)
      go true = get_or-set_same d j i 0 l
      go false = refl

  mark_other : (k : ℕ) → (k ≡ j → ⊥) → get_or (marked_if b d j i) k 0 ≡ get_or d k 0
  mark_other k n = go b
    where
      go : (t : Bool) → get_or (marked_if t d j i) k 0 ≡ get_or d k 0
      go true = get_or-set_other d j k i 0 n
      go false = refl

-- ---- the shape A, with the number i, tried with the groups with numbers below j
pub record Trying (room : ℕ) (A : List Trapezoid) (i : ℕ) (G : ℕ → List Trapezoid) (d₀ d : List ℕ) (made j : ℕ) : Type 0 where
  pub upto : j ≤ length d₀
  pub had : space room (row_stages G A j) ≡ enough made
  pub few : made ≤ overlays_of_layer * j
  pub same : length d ≡ length d₀
  pub done : (k : ℕ) → k < j → get_or d k 0 ≡ cond (is_some A && some_encloses A (G k)) i (get_or d₀ k 0)
  pub later : (k : ℕ) → j ≤ k → get_or d k 0 ≡ get_or d₀ k 0

pub try_start : (room : ℕ) (A : List Trapezoid) (i : ℕ) (G : ℕ → List Trapezoid) (d : List ℕ) → Trying room A i G d d 0 0
unfolding row_stages
try_start room A i G d =
    record {
      upto = omega arith;
      had = stages_none (λ k. is_some (G k)) (λ k. difference_stages 0 (G k) A) room;
      few = omega arith;
      same = refl;
      done = λ k l. absurd (omega (arith, l));
      later = λ k l. refl;
    }

module _ {room i made j : ℕ} {A : List Trapezoid} {G : ℕ → List Trapezoid} {d₀ d : List ℕ} (h : Trying room A i G d₀ d made j) where
  abbrev MarkedAt : List ℕ → ℕ → Type 0
  MarkedAt e k = get_or e k 0 ≡ cond (is_some A && some_encloses A (G k)) i (get_or d₀ k 0)

  -- the group with number j is B
  module _ (B : List Trapezoid) (is : G j ≡ B) (l : j < length d₀) where
    pub try_turn : is_some A ≡ true → (c : ℕ) (e : List ℕ) → space room (stages_of A B) ≡ enough c → c ≤ overlays_of_layer → e ≡ marked_if (some_encloses A B) d j i → Trying room A i G d₀ e (made + c) (j + 1)
    unfolding row_stages
    try_turn some c e k m f =
        record {
          upto = omega (arith, l);
          had = stages_enough (λ k. is_some (G k)) (λ k. difference_stages 0 (G k) A) room j h.had (ap (λ (ts : List Trapezoid). space room (stages_of A ts)) is ∙ k);
          few = omega (arith, m, h.few);
          same = ap length f ∙ mark_length (some_encloses A B) d j i ∙ h.same;
          done = λ k n. ⊎_elim (λ s. subst (MarkedAt e) (sym s) here) (λ s. before k (less_than k j (omega (arith, n)) s) s) (same_or_not k j);
          later = λ k n. ap (λ (x : List ℕ). get_or x k 0) f ∙ mark_other (some_encloses A B) d j i k (λ s. omega (arith, n, s)) ∙ h.later k (omega (arith, n));
        }
      where
        here : MarkedAt e j
        here =
            ap (λ (x : List ℕ). get_or x j 0) f
            ∙ mark_here (some_encloses A B) d j i (omega (arith, l, h.same))
            ∙ ap (λ (x : ℕ). cond (some_encloses A B) i x) (h.later j (omega arith))
            ∙ sym (λ x. cond (some x && some_encloses A (is x)) i (get_or d₀ j 0))

        before : (k : ℕ) → k < j → (k ≡ j → ⊥) → MarkedAt e k
        before k n s = ap (λ (x : List ℕ). get_or x k 0) f ∙ mark_other (some_encloses A B) d j i k s ∙ h.done k n

    pub try_full : (n : ℕ) → j < n → T (is_no_room (space room (stages_of A B))) → T (is_no_room (space room (row_stages G A n)))
    unfolding row_stages
    try_full n m k =
        stages_no_room (λ k. is_some (G k)) (λ k. difference_stages 0 (G k) A) room n j h.had (subst (λ (ts : List Trapezoid). T (is_no_room (space room (stages_of A ts)))) (sym is) k) m

-- ---- the shapes of F with numbers below i tried with the n of G
pub record TryingAll (room : ℕ) (F G : ℕ → List Trapezoid) (m n : ℕ) (d : List ℕ) (made i : ℕ) : Type 0 where
  pub upto : i ≤ m
  pub had : space room (family_stages F i G n) ≡ enough made
  pub few : made ≤ max_records * overlays_of_layer * i
  pub marked : FamilyMarked F i G n d

pub all_start : (room : ℕ) (F G : ℕ → List Trapezoid) (m n : ℕ) (d : List ℕ) → d ≡ replicate n unmarked → TryingAll room F G m n d 0 0
unfolding family_stages last_mark
all_start room F G m n d e =
    record {
      upto = omega arith;
      had = stages_none (λ k. is_some (F k)) (λ k. row_stages G (F k) n) room;
      few = omega arith;
      marked = record { one_each = ap length e ∙ length-replicate n unmarked; each = λ j l. ap (λ (x : List ℕ). get_or x j 0) e ∙ get_or-replicate n j unmarked 0 l };
    }

last_more : (F : ℕ → List Trapezoid) (i : ℕ) (B : List Trapezoid) → cond (is_some (F i) && some_encloses (F i) B) i (last_mark F i B) ≡ last_mark F (i + 1) B
unfolding last_mark
last_more F i B = sym (ap (λ (k : ℕ). last_mark F k B) (add-one i))

module _ {room m n made i : ℕ} {F G : ℕ → List Trapezoid} {d : List ℕ} (h : TryingAll room F G m n d made i) (A : List Trapezoid) (is : F i ≡ A) (l : i < m) where
  pub all_turn : (c : ℕ) (e : List ℕ) → space room (row_of G A n) ≡ enough c → c ≤ max_records * overlays_of_layer → RowMarked A i G d e → TryingAll room F G m n e (made + c) (i + 1)
  unfolding family_stages
  all_turn c e k f r =
      record {
        upto = omega (arith, l);
        had = stages_enough (λ k. is_some (F k)) (λ k. row_stages G (F k) n) room i h.had (ap (λ (ts : List Trapezoid). space room (row_of G ts n)) is ∙ k);
        few = omega (arith, f, h.few);
        marked = record {
          one_each = r.same ∙ h.marked.one_each;
          each = λ j o.
              r.each j (omega (arith, o, h.marked.one_each))
              ∙ ap (λ (x : ℕ). cond (is_some A && some_encloses A (G j)) i x) (h.marked.each j o)
              ∙ sym (ap (λ (ts : List Trapezoid). cond (is_some ts && some_encloses ts (G j)) i (last_mark F i (G j))) is)
              ∙ last_more F i (G j);
        };
      }

  pub all_full : T (is_no_room (space room (row_of G A n))) → T (is_no_room (space room (family_stages F m G n)))
  unfolding family_stages
  all_full k =
      stages_no_room (λ k. is_some (F k)) (λ k. row_stages G (F k) n) room m i h.had (subst (λ (ts : List Trapezoid). T (is_no_room (space room (row_of G ts n)))) (sym is) k) l
