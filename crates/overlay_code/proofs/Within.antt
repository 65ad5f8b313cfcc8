-- Events outside the range of A can be left out: the columns that they bound have no part in A.
use mathlib.Core.Path.{◌≡◌, refl, sym, ◌∙◌, ap, subst}
use mathlib.Core.Bool.{Bool, true, false, not, cond, ◌&&◌}
use mathlib.Core.List.{List, [], ◌∷◌, ◌++◌}
use mathlib.Core.Logic.{inl, inr}
use Prim.Native.Nat.{ℕ, zero, suc, ◌≤◌}
use native.Mathlib.Omega.{arith}
use lib.Dec.{T, eqb, eqb_refl}
use lib.Seq.{append_snoc}
use mir.Facts.{and_yes, yes_and}
use Rattle.lists.specs.Lists.{All}
use Rattle.lists.specs.Tests.{keep}
use Rattle.lists.proofs.Tests.{true_is, false_is, is_true, is_false, yes_or_no}
use Rattle.lists.proofs.Lists.{all_map, all_of}
use Rattle.lists.proofs.Kept.{keep_all}
use Rattle.integer.specs.Fraction.{Proper, before}
use Rattle.integer.proofs.Fraction.{before→at_most, at_most_refl, before_at_most_trans}
use Rattle.levels.specs.Levels.{insert, levels, Rising}
use Rattle.levels.proofs.Laws.{insert_all, levels_all, levels_rising}
use Rattle.geometry.specs.declared.Base.{Base}
use Rattle.geometry.specs.declared.Trapezoid.{Trapezoid}
use Rattle.geometry.specs.Limit.{coordinate_limit}
use Rattle.geometry.specs.Fitness.{FitFor}
use Rattle.geometry.specs.Positions.{crosses, position}
use Rattle.geometry.specs.Ranges.{common_left, common_right}
use Rattle.geometry.proofs.Fitness.{left_proper, right_proper}
use Rattle.geometry.proofs.Ranges.{common_right_proper, left_after, right_to}
use Rattle.sweep.specs.Segments.{Segment, spans, spanning}
use Rattle.sweep.specs.Sweep.{earlier, columns, sweep}
use Rattle.sweep.proofs.Sweep.{placed_order}
use Rattle.overlay.specs.Overlaps.{crosses_in_common, overlaps}
use Rattle.overlay.specs.Overlay.{Part, tag_of, in_range, sides, side_crossings, overlay_events, parts, subdivision, tagged}
use Rattle.overlay.proofs.Ranges.{crossing_proper}
use Rattle.sorting.proofs.Ends.{Under, first_less, first_level, last_is, last_less, last_level}
use Rattle.overlay_events_code.specs.Events.{front_if, events_within}
use Rattle.columns_code.specs.Order.{order_at}
use Rattle.overlay_code.specs.Code.{of_first, columns_of, Ranged}
use Rattle.strips_code.proofs.Strips.{strips_exact}
use Rattle.strips_code.proofs.Ranges.{first_strips}

pub tagged_append : (n : ℕ) (ss ts : List Part) → tagged n (ss ++ ts) ≡ tagged n ss ++ tagged n ts
unfolding tagged
tagged_append n [] ts = refl
tagged_append n (s ∷ ss) ts = go (eqb s.tag n) (tagged_append n ss ts)
  where
    go : (b : Bool) → tagged n (ss ++ ts) ≡ tagged n ss ++ tagged n ts
        → cond b (s.trapezoid ∷ tagged n (ss ++ ts)) (tagged n (ss ++ ts)) ≡ cond b (s.trapezoid ∷ tagged n ss) (tagged n ss) ++ tagged n ts
    go true e = ap (λ (us : List Trapezoid). s.trapezoid ∷ us) e
    go false e = e

-- ---- the tag
first_and : (s t : Bool) → not s && not t ≡ true → (s ≡ false) × (t ≡ false)
first_and s t e = let k = and_yes (not s) (not t) (is_true e) in (false_is k.0, false_is k.1)

module _ (tag : ℕ) (ht : of_first tag ≡ true) where
  pub neither : (eqb 0 tag ≡ false) × (eqb 2 tag ≡ false)
  unfolding of_first
  neither = first_and (eqb 0 tag) (eqb 2 tag) ht

  first_tags : (inb : Bool) → eqb (tag_of false inb) tag ≡ false
  first_tags true = neither.1
  first_tags false = neither.0

  pub tag_positive : 1 ≤ tag
  tag_positive = go tag neither.0
    where
      go : (n : ℕ) → eqb 0 n ≡ false → 1 ≤ n
      go zero e = let z : T (eqb 0 0) = eqb_refl 0 in absurd (subst T e z)
      go (suc n) e = omega arith

-- ---- columns outside the range of A
module _ {A B : Trapezoid} (ha : FitFor coordinate_limit A) (hb : FitFor coordinate_limit B) (tag : ℕ) (ht : of_first tag ≡ true) where
  abbrev yields : List Base → List Trapezoid
  yields ks = tagged tag (columns_of A B ks)

  outside_parts : (p q : Base) → Proper (position p) → in_range (position p) A ≡ false → tagged tag (parts A B p q (spanning (λ (s : Segment). s) (position p) (sides A B))) ≡ []
  outside_parts p q hp e =
      let fb = in_range (position p) B in
      sym (strips_exact ha hb p q hp tag (tag_positive tag ht) false fb (sym e) refl) ∙ first_strips tag A B p q (first_tags tag ht) fb (order_at A B (position p) false fb)

  skip_first : (p : Base) → Proper (position p) → in_range (position p) A ≡ false → (ks : List Base) → yields (p ∷ ks) ≡ yields ks
  unfolding columns
  skip_first p hp e [] = refl
  skip_first p hp e (q ∷ ks) =
      tagged_append tag (parts A B p q (spanning (λ (s : Segment). s) (position p) (sides A B))) (columns_of A B (q ∷ ks))
      ∙ ap (λ (ts : List Trapezoid). ts ++ yields (q ∷ ks)) (outside_parts p q hp e)

  skip_last : (p q : Base) → Proper (position p) → in_range (position p) A ≡ false → (ks : List Base) → yields (ks ++ p ∷ q ∷ []) ≡ yields (ks ++ p ∷ [])
  unfolding columns
  skip_last p q hp e [] = skip_first p hp e (q ∷ []) ∙ (unfold tagged in refl)
  skip_last p q hp e (k ∷ []) = step (skip_last p q hp e [])
    where
      column : List Part
      column = parts A B k p (spanning (λ (s : Segment). s) (position k) (sides A B))

      step : yields (p ∷ q ∷ []) ≡ yields (p ∷ []) → tagged tag (column ++ columns_of A B (p ∷ q ∷ [])) ≡ tagged tag (column ++ columns_of A B (p ∷ []))
      step f = tagged_append tag column (columns_of A B (p ∷ q ∷ [])) ∙ ap (λ (ts : List Trapezoid). tagged tag column ++ ts) f ∙ sym (tagged_append tag column (columns_of A B (p ∷ [])))
  skip_last p q hp e (k ∷ l ∷ ks) = step (skip_last p q hp e (l ∷ ks))
    where
      column : List Part
      column = parts A B k l (spanning (λ (s : Segment). s) (position k) (sides A B))

      step : yields (l ∷ ks ++ p ∷ q ∷ []) ≡ yields (l ∷ ks ++ p ∷ []) → tagged tag (column ++ columns_of A B (l ∷ ks ++ p ∷ q ∷ [])) ≡ tagged tag (column ++ columns_of A B (l ∷ ks ++ p ∷ []))
      step f = tagged_append tag column (columns_of A B (l ∷ ks ++ p ∷ q ∷ [])) ∙ ap (λ (ts : List Trapezoid). tagged tag column ++ ts) f ∙ sym (tagged_append tag column (columns_of A B (l ∷ ks ++ p ∷ [])))

  -- ---- the events
  abbrev less : Base → Base → Bool
  less = earlier position

  under : (k l : Base) → T (before (position k) (position l)) → Under less k l
  under k l h = (true_is h, false_is (before→at_most (position k) (position l) h))

  module _ (wide : T (before (common_left A B) (common_right A B))) where
    abbrev al : Base
    al = A.left

    abbrev ar : Base
    ar = A.right

    abbrev bl : Base
    bl = B.left

    abbrev br : Base
    br = B.right

    -- both left bases are left of both right bases
    lefts : T (before (position al) (common_right A B)) × T (before (position bl) (common_right A B))
    lefts = left_after ha hb (common_right A B) (common_right_proper ha hb) wide

    al_right : T (before (position al) (position ar)) × T (before (position al) (position br))
    al_right = right_to ha hb (position al) (left_proper ha) lefts.0

    bl_right : T (before (position bl) (position ar)) × T (before (position bl) (position br))
    bl_right = right_to ha hb (position bl) (left_proper hb) lefts.1

    al_ar : Under less al ar
    al_ar = under al ar al_right.0

    al_br : Under less al br
    al_br = under al br al_right.1

    bl_ar : Under less bl ar
    bl_ar = under bl ar bl_right.0

    bl_br : Under less bl br
    bl_br = under bl br bl_right.1

    -- and the crossings are between
    abbrev crossings : List Base
    crossings = keep (crosses_in_common A B) (side_crossings A B)

    pub record Between (k : Base) : Type 0 where
      pub al_under : Under less al k
      pub bl_under : Under less bl k
      pub ar_over : Under less k ar
      pub br_over : Under less k br

    between_one : (k : Base) → Unit {0} → T (crosses_in_common A B k) → Between k
    unfolding crosses_in_common
    between_one k u h =
        let i = and_yes (crosses k.first k.second) (before (common_left A B) (position k) && before (position k) (common_right A B)) h in
        let j = and_yes (before (common_left A B) (position k)) (before (position k) (common_right A B)) i.1 in
        let p = crossing_proper A B k h in
        let from = left_after ha hb (position k) p j.0 in
        let to = right_to ha hb (position k) p j.1 in
        record { al_under = under al k from.0; bl_under = under bl k from.1; ar_over = under k ar to.0; br_over = under k br to.1 }

    between_all : All Between (levels less crossings)
    between_all = levels_all less Between crossings (keep_all (crosses_in_common A B) between_one (side_crossings A B) (all_of (λ (k : Base). Unit {0}) (λ k. tt) (side_crossings A B)))

    -- the right base of B
    abbrev whole : List Base → List Base
    whole rest = insert less al (insert less ar (insert less bl rest))

    ar_outside : in_range (position ar) A ≡ false
    unfolding spans
    ar_outside = let e : before (position ar) (position ar) ≡ false = false_is (at_most_refl (position ar)) in rw e (go (before (position ar) (position al)))
      where
        go : (s : Bool) → not s && false ≡ false
        go true = refl
        go false = refl

    right_out : before (position br) (position ar) ≡ false → yields (whole (insert less br (levels less crossings))) ≡ yields (whole (levels less crossings))
    right_out f = elim (yes_or_no (before (position ar) (position br))) [ inl h ↦ strict (under ar br h) | inr h ↦ ap yields (last_level less al ar bl br al_ar bl_br al_br bl_ar M over_a over_b (false_is h) f) ]
      where
        M : List Base
        M = levels less crossings

        over_a : All (λ (k : Base). Under less k ar) M
        over_a = all_map (λ k h. h.ar_over) M between_all

        over_b : All (λ (k : Base). Under less k br) M
        over_b = all_map (λ k h. h.br_over) M between_all

        N : List Base
        N = insert less al (insert less bl M)

        strict : Under less ar br → yields (whole (insert less br M)) ≡ yields (whole M)
        strict h =
            let last = last_is less al ar bl br al_ar bl_br al_br bl_ar M over_a over_b in
            ap yields (last_less less al ar bl br al_ar bl_br al_br bl_ar M over_a over_b h ∙ ap (λ (ks : List Base). ks ++ (br ∷ [])) last ∙ append_snoc N ar (br ∷ []))
            ∙ skip_last ar br (right_proper ha) ar_outside N
            ∙ ap yields (sym last)

    abbrev rest : Bool → List Base
    rest u = levels less (front_if u br crossings)

    right_end : (u : Bool) → before (position br) (position ar) ≡ u → yields (whole (insert less br (levels less crossings))) ≡ yields (whole (rest u))
    right_end true e = unfold levels in refl
    right_end false e = right_out e

    -- the left base of B
    bl_outside : T (before (position bl) (position al)) → in_range (position bl) A ≡ false
    unfolding spans
    bl_outside h = let e : before (position bl) (position al) ≡ true = true_is h in rw e

    above : (u : Bool) → All (λ (k : Base). Under less al k × Under less bl k) (rest u)
    above true = unfold levels in insert_all less (λ (k : Base). Under less al k × Under less bl k) br (levels less crossings) (al_br, bl_br) (all_map (λ k h. (h.al_under, h.bl_under)) (levels less crossings) between_all)
    above false = all_map (λ k h. (h.al_under, h.bl_under)) (levels less crossings) between_all

    left_out : (u : Bool) → before (position al) (position bl) ≡ false → yields (whole (rest u)) ≡ yields (insert less al (insert less ar (rest u)))
    left_out u f = elim (yes_or_no (before (position bl) (position al))) [ inl h ↦ strict h | inr h ↦ ap yields (first_level less al ar bl br al_ar bl_br al_br bl_ar (rest u) over_b over_a f (false_is h)) ]
      where
        over_a : All (Under less al) (rest u)
        over_a = all_map (λ k h. h.0) (rest u) (above u)

        over_b : All (Under less bl) (rest u)
        over_b = all_map (λ k h. h.1) (rest u) (above u)

        strict : T (before (position bl) (position al)) → yields (whole (rest u)) ≡ yields (insert less al (insert less ar (rest u)))
        strict h =
            ap yields (first_less less al ar bl br al_ar bl_br al_br bl_ar (rest u) over_b (under bl al h))
            ∙ skip_first bl (left_proper hb) (bl_outside h) (insert less al (insert less ar (rest u)))

    left_end : (t u : Bool) → before (position al) (position bl) ≡ t → yields (whole (rest u)) ≡ yields (insert less al (insert less ar (levels less (front_if t bl (front_if u br crossings)))))
    left_end true u e = unfold levels in refl
    left_end false u e = left_out u e

    -- the events within the range of A are enough
    pub within_enough : tagged tag (subdivision A B) ≡ yields (levels less (events_within A B))
    unfolding subdivision sweep levels overlay_events events_within
    within_enough = right_end (before (position br) (position ar)) refl ∙ left_end (before (position al) (position bl)) (before (position br) (position ar)) refl

    -- and all but the last of them lie in it
    abbrev Bounded : Base → Type 0
    Bounded k = Proper (position k) × T (not (before (position k) (position al))) × T (not (before (position ar) (position k)))

    bounded : All Bounded (events_within A B)
    unfolding events_within
    bounded = (
      (left_proper ha, at_most_refl (position al), is_false al_ar.1),
      (
        (right_proper ha, is_false al_ar.1, at_most_refl (position ar)),
        front (before (position al) (position bl)) bl (front_if (before (position br) (position ar)) br crossings) (λ e. (left_proper hb, before→at_most (position al) (position bl) (is_true e), is_false bl_ar.1))
            (front (before (position br) (position ar)) br crossings (λ e. (right_proper hb, is_false al_br.1, before→at_most (position br) (position ar) (is_true e))) inner),
      ),
    )
      where
        front : (t : Bool) (k : Base) (ks : List Base) → (t ≡ true → Bounded k) → All Bounded ks → All Bounded (front_if t k ks)
        front true k ks f h = (f refl, h)
        front false k ks f h = h

        inner : All Bounded crossings
        inner = keep_all (crosses_in_common A B) (λ k u h. let b = between_one k u h in (crossing_proper A B k h, is_false b.al_under.1, is_false b.ar_over.1)) (side_crossings A B) (all_of (λ (k : Base). Unit {0}) (λ k. tt) (side_crossings A B))

    ranged : (ks : List Base) → All Bounded ks → Rising less ks → Ranged A ks
    ranged [] h r = tt
    ranged (k ∷ []) h r = tt
    ranged (k ∷ l ∷ ks) h r = (here, ranged (l ∷ ks) h.1 r.1)
      where
        here : in_range (position k) A ≡ true
        here = unfold spans in true_is (yes_and (not (before (position k) (position al))) (before (position k) (position ar)) h.0.1 (before_at_most_trans (position k) (position l) (position ar) h.0.0 h.1.0.0 (right_proper ha) r.0.0 h.1.0.2))

    pub within_ranged : Ranged A (levels less (events_within A B))
    within_ranged =
        ranged (levels less (events_within A B)) (levels_all less Bounded (events_within A B) bounded)
        (levels_rising less (placed_order position) (events_within A B) (all_map (λ k h. h.0) (events_within A B) bounded))

-- trapezoids that overlap have a common range
pub overlap_wide : (A B : Trapezoid) → overlaps A B ≡ true → T (before (common_left A B) (common_right A B))
unfolding overlaps
overlap_wide A B o = (and_yes (before (common_left A B) (common_right A B)) _ (is_true o)).0

-- the tags that are asked for: of the first alone, and of both
pub of_first_lem : of_first 1 ≡ true
unfolding of_first
of_first_lem = refl

pub of_both : of_first 3 ≡ true
unfolding of_first
of_both = refl
