-- The numbers of the shapes: the component numbers, ascending, and as many as components.
use mathlib.Core.Path.{◌≡◌, refl, sym, ◌∙◌, ap, subst}
use mathlib.Core.Bool.{Bool, true, false, cond}
use mathlib.Core.List.{List, [], ◌∷◌}
use mathlib.Core.Logic.{inl, inr, ◌↔◌}
use Prim.Native.Nat.{ℕ, zero, suc, ◌+◌, ◌<◌, ◌≤◌, max, min}
use native.Mathlib.Omega.{arith}
use lib.Dec.{T, T_not, eqb, eqb→eq, eqb_refl}
use lib.ListN.{length, length-append}
use Rattle.lists.specs.Lists.{All, Any, Member, At, Pairs}
use Rattle.lists.specs.Tests.{keep}
use Rattle.lists.proofs.Tests.{cond_cases, same_test}
use Rattle.lists.proofs.Lists.{all_map, all_append, pairs_append}
use Rattle.lists.proofs.Members.{all_member, at_range}
use Rattle.geometry.specs.declared.Trapezoid.{Trapezoid}
use Rattle.geometry.specs.Fitness.{FitFor}
use Rattle.connectivity.specs.Components.{number_at, own_numbers, relabelled, joined_numbers, joined_if, joined_first, joined_all, cons_if, owners, touching_at, component_numbers, component_count}
use Rattle.connectivity.proofs.Joining.{length_own, own_at, length-joined}
use Rattle.connectivity.proofs.Owners.{entry_at}
use Rattle.connectivity.proofs.Exact.{components_exact}
use Rattle.extraction.specs.Shapes.{having_number, shape_of, is_some, shape_numbers}
use Rattle.extraction.specs.Statements.{IsShape, ShapesExact}
use Rattle.lists.proofs.Each.{keep_append, keep_member, keep_pairs}

-- ---- 0 to n − 1
pub own_below : (n : ℕ) → All (λ (k : ℕ). k < n) (own_numbers n)
unfolding own_numbers
own_below zero = tt
own_below (suc n) = all_append (λ (k : ℕ). k < suc n) (own_numbers n) (n ∷ []) (all_map (λ k h. omega arith) (own_numbers n) (own_below n)) (omega arith, tt)

pub own_ascending : (n : ℕ) → Pairs ◌<◌ (own_numbers n)
unfolding own_numbers
own_ascending zero = tt
own_ascending (suc n) = pairs_append ◌<◌ (own_numbers n) (n ∷ []) (own_ascending n) (tt, tt) (all_map (λ k h. (h, tt)) (own_numbers n) (own_below n))

pub own_member : (n k : ℕ) → k < n → Member k (own_numbers n)
own_member n k h = subst (λ (x : ℕ). Member x (own_numbers n)) (own_at n k h) (entry_at (own_numbers n) k (omega (arith, length_own n)))

-- ---- the component numbers
-- what joining two numbers keeps, joining all keeps
module _ (P : List ℕ → Type 0) (join : (i j : ℕ) (ns : List ℕ) → P ns → P (joined_numbers i j ns)) (test : ℕ → ℕ → Bool) where
  if_keeps : (b : Bool) (i j : ℕ) (ns : List ℕ) → P ns → P (joined_if b i j ns)
  if_keeps true i j ns h = join i j ns h
  if_keeps false i j ns h = h

  first_keeps : (i j : ℕ) (ns : List ℕ) → P ns → P (joined_first test i j ns)
  unfolding joined_first
  first_keeps i zero ns h = h
  first_keeps i (suc j) ns h = if_keeps (test i j) i j (joined_first test i j ns) (first_keeps i j ns h)

  all_keeps : (i : ℕ) (ns : List ℕ) → P ns → P (joined_all test i ns)
  unfolding joined_all
  all_keeps zero ns h = h
  all_keeps (suc i) ns h = first_keeps i i (joined_all test i ns) (all_keeps i ns h)

relabelled-below : (n from to : ℕ) (ns : List ℕ) → to ≤ from → All (λ (k : ℕ). k < n) ns → All (λ (k : ℕ). k < n) (relabelled from to ns)
unfolding relabelled
relabelled-below n from to [] l h = tt
relabelled-below n from to (m ∷ ns) l h = (
  cond_cases (λ (k : ℕ). k < n) (eqb m from) to m (λ t. omega (arith, eqb→eq m from t, h.0)) (λ t. h.0),
  relabelled-below n from to ns l h.1,
)

joined-below : (n i j : ℕ) (ns : List ℕ) → All (λ (k : ℕ). k < n) ns → All (λ (k : ℕ). k < n) (joined_numbers i j ns)
unfolding joined_numbers
joined-below n i j ns h = relabelled-below n (max (number_at ns i) (number_at ns j)) (min (number_at ns i) (number_at ns j)) ns (omega arith) h

module _ (ts : List Trapezoid) where
  pub numbers_length : length (component_numbers ts) ≡ length ts
  unfolding component_numbers
  numbers_length = all_keeps (λ (ns : List ℕ). length ns ≡ length ts) (λ i j ns e. length-joined i j ns ∙ e) (touching_at ts) (length ts) (own_numbers (length ts)) (length_own (length ts))

  pub numbers_below : All (λ (k : ℕ). k < length ts) (component_numbers ts)
  unfolding component_numbers
  numbers_below = all_keeps (All (λ (k : ℕ). k < length ts)) (joined-below (length ts)) (touching_at ts) (length ts) (own_numbers (length ts)) (own_below (length ts))

  -- every component number is the number of a trapezoid
  pub shape_below : (k : ℕ) → IsShape ts k → k < length ts
  shape_below k m = all_member (λ (n : ℕ). n < length ts) k (component_numbers ts) numbers_below m

-- ---- the trapezoids with a number
module _ (k : ℕ) where
  with_some : (ns : List ℕ) (ts : List Trapezoid) → length ns ≡ length ts → T (is_some (having_number k ns ts)) ↔ Member k ns
  unfolding having_number
  with_some [] ts e = ((λ h. h), (λ h. h))
  with_some (n ∷ ns) [] e = absurd (omega arith)
  with_some (n ∷ ns) (t ∷ ts) e =
      let r = with_some ns ts (omega arith) in (
        cond_cases (λ (us : List Trapezoid). T (is_some us) → Member k (n ∷ ns)) (eqb n k) (t ∷ having_number k ns ts) (having_number k ns ts)
            (λ y h. inl (sym (eqb→eq n k y)))
            (λ y h. inr (r.0 h)),
        cond_cases (λ (us : List Trapezoid). Member k (n ∷ ns) → T (is_some us)) (eqb n k) (t ∷ having_number k ns ts) (having_number k ns ts)
            (λ y h. tt)
            (λ y h. elim h [ inl f ↦ absurd (T_not (eqb n k) y (subst (λ (m : ℕ). T (eqb n m)) (sym f) (eqb_refl n))) | inr m ↦ r.1 m ]),
      )

  with_all : (P : Trapezoid → Type 0) (ns : List ℕ) (ts : List Trapezoid) → All P ts → All P (having_number k ns ts)
  unfolding having_number
  with_all P [] ts h = tt
  with_all P (n ∷ ns) [] h = tt
  with_all P (n ∷ ns) (t ∷ ts) h =
      let r = with_all P ns ts h.1 in cond_cases (All P) (eqb n k) (t ∷ having_number k ns ts) (having_number k ns ts) (λ y. (h.0, r)) (λ y. r)

  -- one of them, by its place in the layer
  with_at : (P : Trapezoid → Type 0) (ns : List ℕ) (ts : List Trapezoid) → Any P (having_number k ns ts) → (i : ℕ) × (number_at ns i ≡ k) × At P ts i
  unfolding having_number
  with_at P [] ts h = absurd h
  with_at P (n ∷ ns) [] h = absurd h
  with_at P (n ∷ ns) (t ∷ ts) h =
      let next : Any P (having_number k ns ts) → (i : ℕ) × (number_at (n ∷ ns) i ≡ k) × At P (t ∷ ts) i = (λ a. let r = with_at P ns ts a in (suc r.0, r.1, r.2)) in
      cond_cases (λ (us : List Trapezoid). Any P us → (i : ℕ) × (number_at (n ∷ ns) i ≡ k) × At P (t ∷ ts) i) (eqb n k) (t ∷ having_number k ns ts) (having_number k ns ts)
      (λ y a. elim a [ inl p ↦ (0, eqb→eq n k y, p) | inr b ↦ next b ]) (λ y a. next a) h

pub some_shape : (ts : List Trapezoid) (k : ℕ) → T (is_some (shape_of ts k)) ↔ IsShape ts k
unfolding shape_of
some_shape ts k = with_some k (component_numbers ts) ts (numbers_length ts)

pub shape_fit : (L : ℕ) (ts : List Trapezoid) → All (FitFor L) ts → (k : ℕ) → All (FitFor L) (shape_of ts k)
unfolding shape_of
shape_fit L ts h k = with_all k (FitFor L) (component_numbers ts) ts h

pub shape_at : (P : Trapezoid → Type 0) (ts : List Trapezoid) (k : ℕ) → Any P (shape_of ts k) → (i : ℕ) × (number_at (component_numbers ts) i ≡ k) × At P ts i
unfolding shape_of
shape_at P ts k h = with_at k P (component_numbers ts) ts h

-- ---- how many
owners_few : (ns : List ℕ) (n : ℕ) → length (owners ns n) ≤ n
unfolding owners
owners_few ns zero = omega arith
owners_few ns (suc n) = go (eqb (number_at ns n) n) (owners_few ns n)
  where
    go : (b : Bool) → length (owners ns n) ≤ n → length (cons_if b n (owners ns n)) ≤ suc n
    go true h = omega arith
    go false h = omega arith

pub count_few : (ts : List Trapezoid) → component_count ts ≤ length ts
unfolding component_count
count_few ts = owners_few (component_numbers ts) (length ts)

-- those that pass are as many as the owners, where the test says who owns
kept_owners : (f : ℕ → Bool) (ns : List ℕ) (n : ℕ) → ((k : ℕ) → k < n → f k ≡ eqb (number_at ns k) k) → length (keep f (own_numbers n)) ≡ length (owners ns n)
unfolding own_numbers owners keep
kept_owners f ns zero h = refl
kept_owners f ns (suc n) h =
    ap length (keep_append f (own_numbers n) (n ∷ [])) ∙ length-append (keep f (own_numbers n)) (cond (f n) (n ∷ []) []) ∙ ap (λ (b : Bool). length (keep f (own_numbers n)) + length (cond b (n ∷ []) [])) (h n (omega arith))
    ∙ go (eqb (number_at ns n) n) (kept_owners f ns n (λ k l. h k (omega arith)))
  where
    go : (b : Bool) → length (keep f (own_numbers n)) ≡ length (owners ns n) → length (keep f (own_numbers n)) + length (cond b (n ∷ []) []) ≡ length (cons_if b n (owners ns n))
    go true e = omega arith
    go false e = omega arith

some_any : (us : List Trapezoid) → T (is_some us) → Any (λ (u : Trapezoid). Unit {0}) us
some_any [] h = absurd h
some_any (u ∷ us) h = inl tt

module _ (L : ℕ) (ts : List Trapezoid) (fit : All (FitFor L) ts) where
  -- a component number is that of its own trapezoid
  owned : (k : ℕ) → IsShape ts k → number_at (component_numbers ts) k ≡ k
  owned k m =
      let ns = component_numbers ts in
      let r = shape_at (λ (u : Trapezoid). Unit {0}) ts k (some_any (shape_of ts k) ((some_shape ts k).1 m)) in
      let l = at_range (λ (u : Trapezoid). Unit {0}) ts r.0 r.2 in
      let c = components_exact L ts fit in
      let e = (c.exact r.0 (number_at ns r.0) l (omega (arith, r.1, shape_below ts k m))).1 (c.own r.0 l) in
      subst (λ (x : ℕ). number_at ns x ≡ x) r.1 (sym e)

  own_test : (k : ℕ) → k < length ts → is_some (shape_of ts k) ≡ eqb (number_at (component_numbers ts) k) k
  own_test k l =
      let ns = component_numbers ts in
      same_test (is_some (shape_of ts k)) (eqb (number_at ns k) k)
      (λ t. rw (owned k ((some_shape ts k).0 t)) (eqb_refl k))
      (λ t. (some_shape ts k).1 (subst (IsShape ts) (eqb→eq (number_at ns k) k t) (entry_at ns k (omega (arith, numbers_length ts)))))

pub shapes_exact : ShapesExact
unfolding shape_numbers component_count
shapes_exact L ts fit =
    record {
      exact = λ k. (
        (λ m. (some_shape ts k).0 ((keep_member (λ (n : ℕ). is_some (shape_of ts n)) k (own_numbers (length ts))).0 m).1),
        (λ m. (keep_member (λ (n : ℕ). is_some (shape_of ts n)) k (own_numbers (length ts))).1 (own_member (length ts) k (shape_below ts k m), (some_shape ts k).1 m)),
      );
      ascending = keep_pairs (λ (n : ℕ). is_some (shape_of ts n)) ◌<◌ (own_numbers (length ts)) (own_ascending (length ts));
      many = kept_owners (λ (n : ℕ). is_some (shape_of ts n)) (component_numbers ts) (length ts) (own_test L ts fit);
    }
