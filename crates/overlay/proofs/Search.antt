-- Row 13: the search for the first overlapping pair of a list.
use mathlib.Core.Path.{◌≡◌, refl, sym, ◌∙◌, ap, ap₂, subst}
use mathlib.Core.Bool.{Bool, true, false}
use mathlib.Core.List.{List, [], ◌∷◌, ◌++◌, append_assoc, append-nil}
use mathlib.Core.Logic.{inl, inr}
use Prim.Native.Nat.{ℕ, ◌+◌, ◌<◌, ◌≤◌}
use native.Mathlib.Nat.{add-zero}
use native.Mathlib.Omega.{arith}
use lib.ListN.{length}
use Rattle.lists.specs.Lists.{All, Any}
use Rattle.lists.specs.Tests.{any}
use Rattle.lists.proofs.Tests.{yes_or_no, true_is, false_is, is_true}
use Rattle.lists.proofs.Lists.{all_append, all_map, all_with, any_with, any_exact, any_none, pairs_append, pairs_across}
use Rattle.geometry.specs.declared.Trapezoid.{Trapezoid}
use Rattle.geometry.specs.Trapezoids.{Apart, Disjoint}
use Rattle.geometry.specs.Fitness.{FitFor}
use Rattle.geometry.proofs.Refusals.{SmallChecked}
use Rattle.overlay.specs.Overlaps.{Common, overlaps, refuse_overlap, overlap_past, first_overlap, FirstOverlapExact}
use Rattle.overlay.proofs.Overlaps.{overlaps_exact, apart_exact}
use Rattle.std.specs.Prelude.{Result, Ok}
use Rattle.geometry.specs.declared.Refusal.{Refusal}
use Rattle.geometry.specs.Refusals.{refused_by}
use Rattle.geometry.proofs.Refused.{refused_same}

-- ---- one more behind others
apart_turn : (t u : Trapezoid) → Apart t u → Apart u t
apart_turn t u h P hP a b = h P hP b a

module _ (L : ℕ) (earlier : List Trapezoid) (t : Trapezoid) (hs : All (FitFor L) earlier) (ht : FitFor L t) where
  -- the test says no exactly if it is apart from each of them
  none_apart : any (overlaps t) earlier ≡ false → All (λ (u : Trapezoid). Apart u t) earlier
  none_apart e = all_with (λ u h n. apart_turn t u ((apart_exact L t u ht h).0 n)) earlier hs ((any_none (overlaps t) earlier).0 e)

  apart_none : All (λ (u : Trapezoid). Apart u t) earlier → any (overlaps t) earlier ≡ false
  apart_none a = (any_none (overlaps t) earlier).1 (all_with (λ u h k. (apart_exact L t u ht h).1 (apart_turn u t k)) earlier hs a)

  -- and yes exactly if it overlaps one
  some_common : any (overlaps t) earlier ≡ true → Any (Common t) earlier
  some_common e = any_with (λ u h o. (overlaps_exact L t u ht h).0 o) earlier hs ((any_exact (overlaps t) earlier).0 (is_true e))

  common_some : Any (Common t) earlier → any (overlaps t) earlier ≡ true
  common_some c = true_is ((any_exact (overlaps t) earlier).1 (any_with (λ u h k. (overlaps_exact L t u ht h).1 k) earlier hs c))

  grown_fit : All (FitFor L) (earlier ++ (t ∷ []))
  grown_fit = all_append (FitFor L) earlier (t ∷ []) hs (ht, tt)

  grown_disjoint : Disjoint earlier → All (λ (u : Trapezoid). Apart u t) earlier → Disjoint (earlier ++ (t ∷ []))
  grown_disjoint d a = pairs_append Apart earlier (t ∷ []) d (tt, tt) (all_with (λ u x k. (k, tt)) earlier hs a)

-- ---- what the rest of the search says, one by one
pub past_yes : (earlier : List Trapezoid) (i : ℕ) (t : Trapezoid) (ts : List Trapezoid) → any (overlaps t) earlier ≡ true → overlap_past earlier i (t ∷ ts) ≡ refused_by 13 i
unfolding overlap_past
past_yes earlier i t ts e = rw e

pub past_no : (earlier : List Trapezoid) (i : ℕ) (t : Trapezoid) (ts : List Trapezoid) → any (overlaps t) earlier ≡ false → overlap_past earlier i (t ∷ ts) ≡ overlap_past (earlier ++ (t ∷ [])) (i + 1) ts
unfolding overlap_past
past_no earlier i t ts e = rw e

pub past_end : (earlier : List Trapezoid) (i : ℕ) → overlap_past earlier i [] ≡ Ok tt
unfolding overlap_past
past_end earlier i = refl

differ : {n k : ℕ} → (Ok tt) ≡ refused_by n k → ⊥
differ e = let z : ◌≡◌ {A = ℕ} 0 1 = cc in absurd (omega arith)

-- the first that overlaps one before it, of a list behind others
record Past (earlier : List Trapezoid) (i : ℕ) (ts : List Trapezoid) (k : ℕ) : Type 0 where
  first : List Trapezoid
  later : Trapezoid
  rest : List Trapezoid
  split : ts ≡ first ++ (later ∷ rest)
  place : k ≡ i + length first
  disjoint : Disjoint (earlier ++ first)
  overlap : Any (Common later) (earlier ++ first)

past_more : (earlier : List Trapezoid) (i : ℕ) (t : Trapezoid) (ts : List Trapezoid) (k : ℕ) → Past (earlier ++ (t ∷ [])) (i + 1) ts k → Past earlier i (t ∷ ts) k
past_more earlier i t ts k r =
    let e = append_assoc earlier (t ∷ []) r.first in
    record {
      first = t ∷ r.first;
      later = r.later;
      rest = r.rest;
      split = ap (λ (us : List Trapezoid). t ∷ us) r.split;
      place = omega (arith, r.place);
      disjoint = subst Disjoint e r.disjoint;
      overlap = subst (Any (Common r.later)) e r.overlap;
    }

module _ (L : ℕ) where
  -- ---- the whole is disjoint
  passed_disjoint : (earlier : List Trapezoid) (i : ℕ) (ts : List Trapezoid) → All (FitFor L) earlier → All (FitFor L) ts → Disjoint earlier → overlap_past earlier i ts ≡ Ok tt → Disjoint (earlier ++ ts)
  passed_disjoint earlier i [] hs h d e = subst Disjoint (sym (append-nil earlier)) d
  passed_disjoint earlier i (t ∷ ts) hs h d e =
      elim (yes_or_no (any (overlaps t) earlier)) [
        | inl y ↦ absurd (differ (sym e ∙ past_yes earlier i t ts (true_is y)))
        | inr n ↦
            let f = false_is n in
            subst Disjoint (append_assoc earlier (t ∷ []) ts)
            (passed_disjoint (earlier ++ (t ∷ [])) (i + 1) ts (grown_fit L earlier t hs h.0) h.1 (grown_disjoint L earlier t hs h.0 d (none_apart L earlier t hs h.0 f)) (sym (past_no earlier i t ts f) ∙ e))
      ]

  disjoint_passed : (earlier : List Trapezoid) (i : ℕ) (ts : List Trapezoid) → All (FitFor L) earlier → All (FitFor L) ts → Disjoint (earlier ++ ts) → overlap_past earlier i ts ≡ Ok tt
  disjoint_passed earlier i [] hs h d = past_end earlier i
  disjoint_passed earlier i (t ∷ ts) hs h d =
      let a = all_map (λ u k. k.0) earlier (pairs_across Apart earlier (t ∷ ts) d) in
      past_no earlier i t ts (apart_none L earlier t hs h.0 a)
      ∙ disjoint_passed (earlier ++ (t ∷ [])) (i + 1) ts (grown_fit L earlier t hs h.0) h.1 (subst Disjoint (sym (append_assoc earlier (t ∷ []) ts)) d)

  -- ---- some two overlap
  refused_past : (earlier : List Trapezoid) (i : ℕ) (ts : List Trapezoid) → All (FitFor L) earlier → All (FitFor L) ts → Disjoint earlier → (n k : ℕ) → overlap_past earlier i ts ≡ refused_by n k → (n ≡ 13) × Past earlier i ts k
  refused_past earlier i [] hs h d n k e = absurd (differ (sym (past_end earlier i) ∙ e))
  refused_past earlier i (t ∷ ts) hs h d n k e =
      elim (yes_or_no (any (overlaps t) earlier)) [
        | inl y ↦
            let here : refused_by 13 i ≡ refused_by n k = sym (past_yes earlier i t ts (true_is y)) ∙ e in
            let alike = refused_same {m = 13} {i = i} {n = n} {k = k} here in
            let number = alike.0 in
            let place = alike.1 in (
              sym number,
              record {
                first = [];
                later = t;
                rest = ts;
                split = refl;
                place = omega (arith, place);
                disjoint = subst Disjoint (sym (append-nil earlier)) d;
                overlap = subst (Any (Common t)) (sym (append-nil earlier)) (some_common L earlier t hs h.0 (true_is y));
              },
            )
        | inr m ↦
            let f = false_is m in
            let r = refused_past (earlier ++ (t ∷ [])) (i + 1) ts (grown_fit L earlier t hs h.0) h.1 (grown_disjoint L earlier t hs h.0 d (none_apart L earlier t hs h.0 f)) n k (sym (past_no earlier i t ts f) ∙ e) in
            (r.0, past_more earlier i t ts k r.1)
      ]

  past_refused : (earlier : List Trapezoid) (i : ℕ) (first : List Trapezoid) (later : Trapezoid) (rest : List Trapezoid) → All (FitFor L) earlier → All (FitFor L) (first ++ (later ∷ rest))
      → Disjoint (earlier ++ first) → Any (Common later) (earlier ++ first) → overlap_past earlier i (first ++ (later ∷ rest)) ≡ refused_by 13 (i + length first)
  past_refused earlier i [] later rest hs h d c =
      past_yes earlier i later rest (common_some L earlier later hs h.0 (subst (Any (Common later)) (append-nil earlier) c)) ∙ ap (refused_by 13) (sym (add-zero i))
  past_refused earlier i (t ∷ first) later rest hs h d c =
      let a = all_map (λ u k. k.0) earlier (pairs_across Apart earlier (t ∷ first) d) in
      let e = sym (append_assoc earlier (t ∷ []) first) in
      let k : i + 1 + length first ≡ i + length (t ∷ first) = omega arith in
      past_no earlier i t (first ++ (later ∷ rest)) (apart_none L earlier t hs h.0 a)
      ∙ past_refused (earlier ++ (t ∷ [])) (i + 1) first later rest (grown_fit L earlier t hs h.0) h.1 (subst Disjoint e d) (subst (Any (Common later)) e c)
      ∙ ap (refused_by 13) k

-- ---- of a layer
pub first_overlap_exact : FirstOverlapExact
first_overlap_exact L i ts h =
    record {
      passed = (passed_disjoint L [] i ts tt h tt, disjoint_passed L [] i ts tt h);
      refused = λ n k. (
        (λ e.
            let r = refused_past L [] i ts tt h tt n k e in
            let p = r.1 in
            (r.0, record { first = p.first; later = p.later; rest = p.rest; split = p.split; place = p.place; disjoint = p.disjoint; overlap = p.overlap })),
        (λ r.
            let p = r.1 in
            ap (first_overlap i) p.split ∙ past_refused L [] i p.first p.later p.rest tt (subst (All (FitFor L)) p.split h) p.disjoint p.overlap
            ∙ ap₂ refused_by (sym r.0) (sym p.place)),
      );
    }

-- the sizes of its number and place
small_one : (b : Bool) (i : ℕ) (c : Result (Unit {0}) Refusal) → i < 4294967296 → SmallChecked c → SmallChecked (refuse_overlap b i c)
small_one true i c l h = (omega arith, l)
small_one false i c l h = h

small_past : (earlier : List Trapezoid) (i : ℕ) (ts : List Trapezoid) → i + length ts ≤ 4294967296 → SmallChecked (overlap_past earlier i ts)
unfolding overlap_past
small_past earlier i [] l = tt
small_past earlier i (t ∷ ts) l = small_one (any (overlaps t) earlier) i (overlap_past (earlier ++ (t ∷ [])) (i + 1) ts) (omega (arith, l)) (small_past (earlier ++ (t ∷ [])) (i + 1) ts (omega (arith, l)))

pub small_overlap : (i : ℕ) (ts : List Trapezoid) → i + length ts ≤ 4294967296 → SmallChecked (first_overlap i ts)
small_overlap i ts l = small_past [] i ts l
