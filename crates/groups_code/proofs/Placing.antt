-- The place of a line among the groups.
use mathlib.Core.Path.{◌≡◌, refl, sym, ◌∙◌, ap, subst}
use mathlib.Core.List.{List, [], ◌∷◌, map}
use Prim.Native.Nat.{ℕ, zero, suc, ◌+◌, ◌<◌, ◌≤◌}
use native.Mathlib.Omega.{arith}
use lib.ListN.{length, get_or, take, drop, length-map}
use lib.Seq.{length-take-le, get_or-take, drop-cons}
use lib.IntN.{ℤ}
use Rattle.lists.specs.Lists.{All}
use Rattle.lists.proofs.Lists.{all_at}
use Rattle.std.specs.declared.cmp.Ordering.{Ordering}
use Rattle.std.specs.declared.cmp.Ordering.TheVariants.{Less, Equal, Greater}
use Rattle.integer.specs.Fraction.{Fraction}
use Rattle.geometry.specs.declared.Line.{Line}
use Rattle.geometry.specs.declared.Coefficients.{Coefficients}
use Rattle.geometry.specs.declared.Meeting.{Meeting}
use Rattle.geometry.specs.Positions.{right_of, is_less, is_greater, below}
use Rattle.std.specs.Prelude.{Ok, Err}
use Rattle.sorting.specs.Sorted.{Passed, Front, Same}
use Rattle.sorting.proofs.Inserting.{drop_past}
use Rattle.sorting.proofs.Merging.{passed_start, passed_next}
use Rattle.geometry_code.specs.Code.{SmallCoefficients, CoefficientsOf, MeetingBy, order_right}
use Rattle.geometry_code.proofs.Branches.{meeting_by, right_meeting}
use Rattle.geometry.proofs.Heights.{right_tests}
use Rattle.polygon_edges_code.specs.Edges.{line_number, terms_number}
use Rattle.groups_code.specs.Groups.{OrderBy, Comparables, TermsOf, Found}

pub ordered_by : (a b : Coefficients) (k : Meeting) (x : Fraction) (r : Ordering) → MeetingBy a b k → r ≡ order_right k x → OrderBy a b x r
ordered_by a b k x r h e l m hl hm = e ∙ right_meeting l m k x (meeting_by l m a b k hl hm h)

map_at : {A B : Type 0} (f : A → B) (xs : List A) (i : ℕ) (d : A) (e : B) → i < length xs → get_or (map f xs) i e ≡ f (get_or xs i d)
map_at f [] i d e l = absurd (omega arith)
map_at f (x ∷ xs) zero d e l = refl
map_at f (x ∷ xs) (suc i) d e l = map_at f xs i d e (omega arith)

-- ---- finding the place
-- the lines of the first i are below
pub record Searching (a : Coefficients) (x : Fraction) (ts : List ℤ) (m : ℕ) (ks : List ℕ) (i : ℕ) : Type 0 where
  pub passed : (l : Line) (ls : List ℤ) → CoefficientsOf l a → TermsOf ls ts m ks → Passed (below x) l (map (line_number ls) (take m ks)) i

module _ (a : Coefficients) (x : Fraction) (ts : List ℤ) (m : ℕ) (ks : List ℕ) (h : Comparables ts m ks) where
  m_k : length (take m ks) ≡ m
  m_k = length-take-le m ks h.upto

  abbrev ys : List ℤ → List Line
  ys ls = map (line_number ls) (take m ks)

  n_ys : (ls : List ℤ) → length (ys ls) ≡ m
  n_ys ls = length-map (take m ks) (line_number ls) ∙ m_k

  pub search_start : Searching a x ts m ks 0
  search_start = record { passed = λ l ls hl ht. passed_start (below x) l (ys ls) }

  module _ (i : ℕ) (s : Searching a x ts m ks i) where
    pub search_end : m ≤ i → Found a x ts m ks (Err i)
    search_end le l ls hl ht = (s.passed l ls hl ht, subst (Front (below x) l) (sym (drop_past (ys ls) i (omega (arith, n_ys ls)))) tt)

    module _ (lt : i < m) where
      here : (P : ℕ → Type 0) → All P (take m ks) → P (get_or ks i 0)
      here P k = subst P (get_or-take m ks i 0 lt) (all_at P (take m ks) i 0 k (omega (arith, m_k)))

      pub search_held : (get_or ks i 0 < 32) × SmallCoefficients (terms_number ts (get_or ks i 0))
      search_held = here (λ (k : ℕ). (k < 32) × SmallCoefficients (terms_number ts k)) h.all

      line_here : (l : Line) (ls : List ℤ) → get_or (ys ls) i l ≡ line_number ls (get_or ks i 0)
      line_here l ls = map_at (line_number ls) (take m ks) i 0 l (omega (arith, m_k)) ∙ ap (line_number ls) (get_or-take m ks i 0 lt)

      module _ (b : Coefficients) (o : Ordering) (eb : b ≡ terms_number ts (get_or ks i 0)) (e : OrderBy a b x o) where
        order_here : (l : Line) (ls : List ℤ) → CoefficientsOf l a → TermsOf ls ts m ks → o ≡ right_of x l (line_number ls (get_or ks i 0))
        order_here l ls hl ht = e l (line_number ls (get_or ks i 0)) hl (subst (CoefficientsOf (line_number ls (get_or ks i 0))) (sym eb) (here (λ (k : ℕ). CoefficientsOf (line_number ls k) (terms_number ts k)) ht))

        first : (l : Line) (ls : List ℤ) → drop i (ys ls) ≡ line_number ls (get_or ks i 0) ∷ drop (suc i) (ys ls)
        first l ls = drop-cons (ys ls) i l (omega (arith, n_ys ls)) ∙ ap (λ (y : Line). y ∷ drop (suc i) (ys ls)) (line_here l ls)

        pub search_before : o ≡ Less → Found a x ts m ks (Err i)
        search_before f l ls hl ht = (s.passed l ls hl ht, subst (Front (below x) l) (sym (first l ls)) ((right_tests x l _ o (sym (order_here l ls hl ht))).0 ∙ ap is_less f))

        pub search_level : o ≡ Equal → Found a x ts m ks (Ok i)
        search_level f l ls hl ht = (s.passed l ls hl ht, subst (Same (below x) l) (sym (first l ls)) (let t = right_tests x l _ o (sym (order_here l ls hl ht)) in (t.0 ∙ ap is_less f, t.1 ∙ ap is_greater f)))

        pub search_next : o ≡ Greater → Searching a x ts m ks (i + 1)
        search_next f =
            record {
              passed = λ l ls hl ht.
                  let t = right_tests x l _ o (sym (order_here l ls hl ht)) in
                  passed_next (below x) l (ys ls) i l (s.passed l ls hl ht) (omega (arith, n_ys ls)) (ap (below x l) (line_here l ls) ∙ t.0 ∙ ap is_less f) (ap (λ (y : Line). below x y l) (line_here l ls) ∙ t.1 ∙ ap is_greater f);
            }
