-- Which set each trapezoid of a result has, and where the layers in it come from.
use mathlib.Core.Path.{refl, sym, subst}
use mathlib.Core.Bool.{Bool, true, false, ◌||◌}
use mathlib.Core.List.{List, [], ◌∷◌, ◌++◌}
use mathlib.Core.Logic.{◌⊎◌, inl, inr}
use Prim.Native.Nat.{ℕ}
use lib.Dec.{T}
use lib.IntN.{ℤ}
use Rattle.lists.specs.Lists.{All, Any}
use Rattle.lists.proofs.Lists.{all_append, all_map, all_with, any_left, any_right, any_map, any_elim}
use Rattle.geometry.specs.declared.Trapezoid.{Trapezoid}
use Rattle.geometry.specs.Points.{Point, IsPoint}
use Rattle.geometry.specs.Trapezoids.{lies_in, LiesInLayer}
use Rattle.geometry.specs.Fitness.{FitFor}
use Rattle.sources.specs.Sets.{has, joined}
use Rattle.sources.specs.Sourced.{Sourced, shapes, bearing}
use Rattle.sources.proofs.Sets.{has-joined}
use Rattle.overlay.specs.Overlay.{overlay, tagged}
use Rattle.overlay.proofs.Tags.{tag_three}
use Rattle.boolean.specs.Operations.{Code, union, intersect, a_minus_b, b_minus_a, symmetric_difference, minus_all}
use Rattle.boolean.specs.Sources.{sourced_difference, sourced_common, sourced_intersection, sourced_deoverlapped_from, Inside, Keeps, DifferenceSets, DeoverlappedSets, Joins, IntersectionSets, Traced, origin, ResultTraced, DeoverlappedTraced}
use Rattle.boolean.proofs.Kept.{minus_all_fit}
use Rattle.boolean.proofs.Difference.{one_within}
use Rattle.boolean.proofs.Forgetting.{added_forgets}

-- ---- points of parts
inside-through : (s t u : Trapezoid) → Inside s t → Inside t u → Inside s u
inside-through s t u f g P hP h = g P hP (f P hP h)

-- where all points of a layer lie, each of its trapezoids lies
each-inside : (ts : List Trapezoid) (u : Trapezoid) → ((P : Point) → IsPoint P → LiesInLayer P ts → T (lies_in P u)) → All (λ (t : Trapezoid). Inside t u) ts
each-inside [] u f = tt
each-inside (t ∷ ts) u f = ((λ P hP h. f P hP (inl h)), each-inside ts u (λ P hP h. f P hP (inr h)))

-- what holds of each trapezoid with the set z
bearing-all : (Q : Sourced → Type 0) (z : ℤ) (ts : List Trapezoid) → All (λ (t : Trapezoid). Q (record { shape = t; sources = z })) ts → All Q (bearing z ts)
bearing-all Q z [] h = tt
bearing-all Q z (t ∷ ts) h = (h.0, bearing-all Q z ts h.1)

-- ---- differences and deoverlapping: what is kept by each part of a trapezoid with its set
module _ (L : ℕ) (Q : Sourced → Type 0) (part : (r : Sourced) (t : Trapezoid) → Inside t r.shape → Q r → Q (record { shape = t; sources = r.sources })) where
  one_kept : (a : Sourced) (B : List Trapezoid) → FitFor L a.shape → All (FitFor L) B → Q a → All Q (bearing a.sources (minus_all (a.shape ∷ []) B))
  one_kept a B ha hB q =
      let one = minus_all (a.shape ∷ []) B in
      bearing-all Q a.sources one (all_map (λ t w. part a t w q) one (each-inside one a.shape (one_within L a.shape B ha hB)))

  difference_kept : (A : List Sourced) (B : List Trapezoid) → All (FitFor L) (shapes A) → All (FitFor L) B → All Q A → All Q (sourced_difference A B)
  unfolding sourced_difference
  difference_kept [] B hA hB q = tt
  difference_kept (a ∷ A) B hA hB q =
      all_append Q (bearing a.sources (minus_all (a.shape ∷ []) B)) (sourced_difference A B) (one_kept a B hA.0 hB q.0) (difference_kept A B hA.1 hB q.1)

  deoverlapped_kept : (done A : List Sourced) → All (FitFor L) (shapes done) → All (FitFor L) (shapes A) → All Q done → All Q A → All Q (sourced_deoverlapped_from done A)
  unfolding sourced_deoverlapped_from
  deoverlapped_kept done [] hd hA p q = p
  deoverlapped_kept done (a ∷ A) hd hA p q =
      let one = minus_all (a.shape ∷ []) (shapes done) in
      deoverlapped_kept (done ++ bearing a.sources one) A
      (subst (All (FitFor L)) (sym (added_forgets done a)) (all_append (FitFor L) (shapes done) one hd (minus_all_fit L (a.shape ∷ []) (shapes done) (hA.0, tt) hd)))
      hA.1 (all_append Q done (bearing a.sources one) p (one_kept a (shapes done) hA.0 hd q.0)) q.1

-- ---- the set of one of us
own_sets : (rs : List Sourced) → All (Keeps rs) rs
own_sets [] = tt
own_sets (r ∷ rs) = (inl (refl, (λ P hP h. h)), all_map {P = Keeps rs} {Q = Keeps (r ∷ rs)} (λ u h. inr h) rs (own_sets rs))

keeps_part : (us : List Sourced) (r : Sourced) (t : Trapezoid) → Inside t r.shape → Keeps us r → Keeps us (record { shape = t; sources = r.sources })
keeps_part us r t w = any_map (λ u g. (g.0, inside-through t r.shape u.shape w g.1)) us

pub difference_sets : DifferenceSets
difference_sets L A B hA hB = difference_kept L (Keeps A) (keeps_part A) A B hA hB (own_sets A)

pub deoverlapped_sets : DeoverlappedSets
deoverlapped_sets L A hA = deoverlapped_kept L (Keeps A) (keeps_part A) [] A tt hA tt (own_sets A)

-- ---- both sets joined
module _ (L : ℕ) where
  one_joins : (a b : Sourced) → FitFor L a.shape → FitFor L b.shape
      → All (Joins a b) (bearing (joined a.sources b.sources) (tagged 3 (overlay a.shape b.shape)))
  one_joins a b ha hb =
      let both = tagged 3 (overlay a.shape b.shape) in
      bearing-all (Joins a b) (joined a.sources b.sources) both
      (all_with (λ t v w. (refl, v, w)) both
      (each-inside both a.shape (λ P hP h. ((tag_three L a.shape b.shape ha hb P hP).0 h).0))
      (each-inside both b.shape (λ P hP h. ((tag_three L a.shape b.shape ha hb P hP).0 h).1)))

  common_sets : (a : Sourced) (bs : List Sourced) → FitFor L a.shape → All (FitFor L) (shapes bs)
      → All (λ (r : Sourced). Any (λ (b : Sourced). Joins a b r) bs) (sourced_common a bs)
  unfolding sourced_common
  common_sets a [] ha hb = tt
  common_sets a (b ∷ bs) ha hb =
      let one = bearing (joined a.sources b.sources) (tagged 3 (overlay a.shape b.shape)) in
      all_append (λ (r : Sourced). Any (λ (c : Sourced). Joins a c r) (b ∷ bs)) one (sourced_common a bs)
      (all_map {P = Joins a b} {Q = λ (r : Sourced). Any (λ (c : Sourced). Joins a c r) (b ∷ bs)} (λ r j. inl j) one (one_joins a b ha hb.0))
      (all_map {P = λ (r : Sourced). Any (λ (c : Sourced). Joins a c r) bs} {Q = λ (r : Sourced). Any (λ (c : Sourced). Joins a c r) (b ∷ bs)}
      (λ r j. inr j) (sourced_common a bs) (common_sets a bs ha hb.1))

-- r has the sets of one of A and one of B, joined
abbrev JoinsOf : List Sourced → List Sourced → Sourced → Type 0
JoinsOf A B r = Any (λ (a : Sourced). Any (λ (b : Sourced). Joins a b r) B) A

pub intersection_sets : IntersectionSets
unfolding sourced_intersection
intersection_sets L [] B hA hB = tt
intersection_sets L (a ∷ A) B hA hB =
    all_append (JoinsOf (a ∷ A) B) (sourced_common a B) (sourced_intersection A B)
    (all_map {P = λ (r : Sourced). Any (λ (b : Sourced). Joins a b r) B} {Q = JoinsOf (a ∷ A) B} (λ r j. inl j) (sourced_common a B) (common_sets L a B hA.0 hB))
    (all_map {P = JoinsOf A B} {Q = JoinsOf (a ∷ A) B} (λ r j. inr j) (sourced_intersection A B) (intersection_sets L A B hA.1 hB))

-- ---- where the layers in a set come from
-- u has layer k in its set, and all points of t lie in it
abbrev Gives : ℕ → Trapezoid → Sourced → Type 0
Gives k t u = T (has k u.sources) × Inside t u.shape

gives_part : (us : List Sourced) (k : ℕ) (t r : Trapezoid) → Inside t r → Any (Gives k r) us → Any (Gives k t) us
gives_part us k t r w = any_map (λ u g. (g.0, inside-through t r u.shape w g.1)) us

traced_part : (us : List Sourced) (r : Sourced) (t : Trapezoid) → Inside t r.shape → Traced us r → Traced us (record { shape = t; sources = r.sources })
traced_part us r t w h k s = gives_part us k t r.shape w (h k s)

pub own_traced : (rs : List Sourced) → All (Traced rs) rs
own_traced [] = tt
own_traced (r ∷ rs) = ((λ k s. inl (s, (λ P hP h. h))), all_map {P = Traced rs} {Q = Traced (r ∷ rs)} (λ u t k s. inr (t k s)) rs (own_traced rs))

pub traced_left : (us vs rs : List Sourced) → All (Traced us) rs → All (Traced (us ++ vs)) rs
traced_left us vs rs = all_map {P = Traced us} {Q = Traced (us ++ vs)} (λ r t k s. any_left (Gives k r.shape) us vs (t k s)) rs

pub traced_right : (us vs rs : List Sourced) → All (Traced vs) rs → All (Traced (us ++ vs)) rs
traced_right us vs rs = all_map {P = Traced vs} {Q = Traced (us ++ vs)} (λ r t k s. any_right (Gives k r.shape) us vs (t k s)) rs

-- what comes from those that come from us, comes from us
pub traced_through : (us vs rs : List Sourced) → All (Traced us) vs → All (Traced vs) rs → All (Traced us) rs
traced_through us vs rs h =
    all_map {P = Traced vs} {Q = Traced us}
    (λ r t k s.
    any_elim {B = Any (Gives k r.shape) us} {P = Traced us} {Q = Gives k r.shape} (λ v f g. gives_part us k r.shape v.shape g.1 (f k g.0)) vs h (t k s))
    rs

-- of A and B from us and vs
pub origin-through : (c : Code) (us vs A B : List Sourced) → All (Traced us) A → All (Traced vs) B → All (Traced (origin c us vs)) (origin c A B)
origin-through union us vs A B h k = all_append (Traced (us ++ vs)) A B (traced_left us vs A h) (traced_right us vs B k)
origin-through intersect us vs A B h k = all_append (Traced (us ++ vs)) A B (traced_left us vs A h) (traced_right us vs B k)
origin-through a_minus_b us vs A B h k = h
origin-through b_minus_a us vs A B h k = k
origin-through symmetric_difference us vs A B h k = all_append (Traced (us ++ vs)) A B (traced_left us vs A h) (traced_right us vs B k)

-- of two sets joined: from the one or from the other
or_cases : (p q : Bool) → T (p || q) → T p ⊎ T q
or_cases true q h = inl tt
or_cases false q h = inr h

module _ (k : ℕ) (r : Sourced) (s : T (has k r.sources)) where
  joins_cases : (a b : Sourced) → Joins a b r → Gives k r.shape a ⊎ Gives k r.shape b
  joins_cases a b j =
      elim (or_cases (has k a.sources) (has k b.sources) (subst T (has-joined k a.sources b.sources) (subst (λ (z : ℤ). T (has k z)) j.0 s))) [
        | inl h ↦ inl (h, j.1)
        | inr h ↦ inr (h, j.2)
      ]

  some_b : (a : Sourced) (B : List Sourced) → Any (λ (b : Sourced). Joins a b r) B → Gives k r.shape a ⊎ Any (Gives k r.shape) B
  some_b a [] j = absurd j
  some_b a (b ∷ B) (inl j) = elim (joins_cases a b j) [ inl h ↦ inl h | inr h ↦ inr (inl h) ]
  some_b a (b ∷ B) (inr j) = elim (some_b a B j) [ inl h ↦ inl h | inr h ↦ inr (inr h) ]

  some_a : (A B : List Sourced) → JoinsOf A B r → Any (Gives k r.shape) (A ++ B)
  some_a [] B j = absurd j
  some_a (a ∷ A) B (inl j) = elim (some_b a B j) [ inl h ↦ inl h | inr h ↦ any_right (Gives k r.shape) (a ∷ A) B h ]
  some_a (a ∷ A) B (inr j) = inr (some_a A B j)

module _ (L : ℕ) where
  difference_traced : (us A : List Sourced) (B : List Trapezoid) → All (FitFor L) (shapes A) → All (FitFor L) B → All (Traced us) A → All (Traced us) (sourced_difference A B)
  difference_traced us = difference_kept L (Traced us) (traced_part us)

pub result_traced : ResultTraced
result_traced L union A B hA hB =
    all_append (Traced (A ++ B)) A (sourced_difference B (shapes A)) (traced_left A B A (own_traced A))
    (difference_traced L (A ++ B) B (shapes A) hB hA (traced_right A B B (own_traced B)))
result_traced L intersect A B hA hB =
    all_map {P = JoinsOf A B} {Q = Traced (A ++ B)} (λ r j k s. some_a k r s A B j) (sourced_intersection A B) (intersection_sets L A B hA hB)
result_traced L a_minus_b A B hA hB = difference_traced L A A (shapes B) hA hB (own_traced A)
result_traced L b_minus_a A B hA hB = difference_traced L B B (shapes A) hB hA (own_traced B)
result_traced L symmetric_difference A B hA hB =
    all_append (Traced (A ++ B)) (sourced_difference A (shapes B)) (sourced_difference B (shapes A))
    (difference_traced L (A ++ B) A (shapes B) hA hB (traced_left A B A (own_traced A)))
    (difference_traced L (A ++ B) B (shapes A) hB hA (traced_right A B B (own_traced B)))

pub deoverlapped_traced : DeoverlappedTraced
deoverlapped_traced L A hA = deoverlapped_kept L (Traced A) (traced_part A) [] A tt hA tt (own_traced A)
