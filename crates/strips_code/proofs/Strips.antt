-- The trapezoids of a column with one tag, by the order of the side numbers, are those of the overlay.
use mathlib.Core.Path.{◌≡◌, refl, sym, ◌∙◌, ap, ap₂, subst}
use mathlib.Core.Bool.{Bool, true, false, not, cond, ◌&&◌}
use mathlib.Core.List.{List, [], ◌∷◌}
use mathlib.Core.Option.{Option, none, some}
use mathlib.Core.Logic.{◌⊎◌, inl, inr}
use Prim.Native.Nat.{ℕ, ◌≤◌, ◌<◌}
use native.Mathlib.Omega.{arith}
use lib.Dec.{T, T_not, not_T, eqb, ltb, eqb→eq, eqb_refl, ltb→lt}
use Rattle.lists.specs.Lists.{All, Pairs, Member}
use Rattle.lists.specs.Tests.{keep}
use Rattle.lists.proofs.Tests.{true_is, false_is, is_true, is_false, yes_or_no, cond_yes, cond_no, same_test}
use Rattle.lists.proofs.Conjunction.{rest_fails}
use Rattle.lists.proofs.Members.{all_member}
use Rattle.integer.specs.Fraction.{Fraction, Proper, before}
use Rattle.levels.specs.Levels.{AtMost, Level, StrictWeakOrder, insert, levels, Rising}
use Rattle.levels.proofs.Order.{at_most_refl, level_refl, less_at_most, at_most_less, less_trans}
use Rattle.levels.proofs.Laws.{insert_cases, levels_all}
use Rattle.geometry.specs.declared.Base.{Base}
use Rattle.geometry.specs.declared.Trapezoid.{Trapezoid}
use Rattle.geometry.specs.Positions.{position, below}
use Rattle.geometry.specs.Fitness.{FitFor}
use Rattle.geometry.proofs.Heights.{below→not_below, right_trans}
use Rattle.sweep.specs.Segments.{Segment, spans, spanning}
use Rattle.sweep.specs.Columns.{lower}
use Rattle.overlay.specs.Overlay.{tag_of, in_range, sides, segment_line, fills, tag_above, stack, parts, tagged}
use Rattle.trapezoids_code.specs.Tails.{in_front}
use Rattle.columns_code.specs.Order.{side_numbers, HasSides, line_of_side, present_by, number_less, order_at, passing, enter_a, enter_b, strip, strips_from, strips}
use Rattle.columns_code.proofs.NumberOrder.{has_side, own_below, present_less, less_present, below_less, less_not_below, less_below, first_sides, second_sides, side_line, number_ordered, number_total, order_rising, order_members}

-- x is greater than g; every element is above `none`
abbrev above : {A : Type 0} → (A → A → Bool) → Option A → A → Bool
above less none x = true
above less (some g) x = less g x

-- ---- the side with a number
unfoldable side_of : Trapezoid → Trapezoid → ℕ → Segment
side_of A B i = record { line = line_of_side A B i; from = cond (ltb i 2) (position A.left) (position B.left); to = cond (ltb i 2) (position A.right) (position B.right) }

abbrev sides_of : Trapezoid → Trapezoid → List ℕ → List Segment
sides_of A B [] = []
sides_of A B (i ∷ is) = side_of A B i ∷ sides_of A B is

sides-numbered : (A B : Trapezoid) → sides A B ≡ sides_of A B side_numbers
unfolding sides side_of line_of_side
sides-numbered A B = refl

-- it spans the column if its trapezoid's range does
side_spans : (A B : Trapezoid) (x : Fraction) (i : ℕ) → spans x (side_of A B i) ≡ present_by (in_range x A) (in_range x B) i
unfolding spans side_of present_by
side_spans A B x i = go (ltb i 2)
  where
    go : (t : Bool) → not (before x (cond t (position A.left) (position B.left))) && before x (cond t (position A.right) (position B.right)) ≡ cond t (in_range x A) (in_range x B)
    go true = refl
    go false = refl

-- ---- the groups of a column, from the order of the numbers
-- the order of the lines alone
abbrev under : Trapezoid → Trapezoid → Fraction → ℕ → ℕ → Bool
under A B x i j = below x (line_of_side A B i) (line_of_side A B j)

module _ (A B : Trapezoid) (x : Fraction) (fa fb : Bool) where
  -- g is the first side of the group before, if there is one
  groups : Option ℕ → List ℕ → List Segment
  groups g [] = []
  groups g (z ∷ zs) = cond (present_by fa fb z) (cond (above (under A B x) g z) (side_of A B z ∷ groups (some z) zs) (groups g zs)) []

  groups_end : (g : Option ℕ) (z : ℕ) (zs : List ℕ) → T (not (present_by fa fb z)) → groups g (z ∷ zs) ≡ []
  unfolding groups
  groups_end g z zs h = cond_no (present_by fa fb z) _ [] h

  groups_new : (g : Option ℕ) (z : ℕ) (zs : List ℕ) → T (present_by fa fb z) → T (above (under A B x) g z) → groups g (z ∷ zs) ≡ side_of A B z ∷ groups (some z) zs
  unfolding groups
  groups_new g z zs h k = cond_yes (present_by fa fb z) _ [] h ∙ cond_yes (above (under A B x) g z) (side_of A B z ∷ groups (some z) zs) (groups g zs) k

  groups_same : (g : Option ℕ) (z : ℕ) (zs : List ℕ) → T (present_by fa fb z) → T (not (above (under A B x) g z)) → groups g (z ∷ zs) ≡ groups g zs
  unfolding groups
  groups_same g z zs h k = cond_yes (present_by fa fb z) _ [] h ∙ cond_no (above (under A B x) g z) (side_of A B z ∷ groups (some z) zs) (groups g zs) k

-- a side put into groups of which z is the first: before it, in its place or after it
module _ (A B : Trapezoid) (x : Fraction) (y z : ℕ) (gs : List Segment) where
  insert_before : T (under A B x y z) → insert (lower segment_line x) (side_of A B y) (side_of A B z ∷ gs) ≡ side_of A B y ∷ side_of A B z ∷ gs
  unfolding insert side_of
  insert_before h = cond_yes (under A B x y z) _ _ h

  insert_place : T (not (under A B x y z)) → T (not (under A B x z y)) → insert (lower segment_line x) (side_of A B y) (side_of A B z ∷ gs) ≡ side_of A B y ∷ gs
  unfolding insert side_of
  insert_place h k = cond_no (under A B x y z) _ _ h ∙ cond_no (under A B x z y) _ _ k

  insert_after : T (under A B x z y) → insert (lower segment_line x) (side_of A B y) (side_of A B z ∷ gs) ≡ side_of A B z ∷ insert (lower segment_line x) (side_of A B y) gs
  unfolding insert side_of
  insert_after h = cond_no (under A B x y z) _ _ (below→not_below x (line_of_side A B z) (line_of_side A B y) h) ∙ cond_yes (under A B x z y) _ _ h

module _ {L : ℕ} {A B : Trapezoid} (ha : FitFor L A) (hb : FitFor L B) (x : Fraction) (fa fb : Bool) where
  abbrev less : ℕ → ℕ → Bool
  less = number_less A B x fa fb

  abbrev cut : Option ℕ → List ℕ → List Segment
  cut g zs = groups A B x fa fb g zs

  under_ordered : StrictWeakOrder (under A B x) (λ (i : ℕ). Unit {0})
  under_ordered =
      record {
        asymmetric = λ i j. below→not_below x (line_of_side A B i) (line_of_side A B j);
        transitive = λ i j k gi gj gk. right_trans x (line_of_side A B i) (line_of_side A B j) (line_of_side A B k) (side_line ha hb i) (side_line ha hb j) (side_line ha hb k);
      }

  under_at_most : (i j k : ℕ) → T (under A B x i j) → AtMost (under A B x) j k → T (under A B x i k)
  under_at_most i j k h l = less_at_most (under A B x) under_ordered i j k tt tt tt h l

  at_most_under : (i j k : ℕ) → AtMost (under A B x) i j → T (under A B x j k) → T (under A B x i k)
  at_most_under i j k h l = at_most_less (under A B x) under_ordered i j k tt tt tt h l

  above_at_most : (g : Option ℕ) (i j : ℕ) → T (above (under A B x) g i) → AtMost (under A B x) i j → T (above (under A B x) g j)
  above_at_most none i j h l = tt
  above_at_most (some r) i j h l = under_at_most r i j h l

  -- they go by the line of the first side
  groups_level : (r s : ℕ) → Level (under A B x) r s → (zs : List ℕ) → cut (some r) zs ≡ cut (some s) zs
  unfolding groups
  groups_level r s l [] = refl
  groups_level r s l (z ∷ zs) =
      ap₂ (λ (t : Bool) (gs : List Segment). cond (present_by fa fb z) (cond t (side_of A B z ∷ cut (some z) zs) gs) [])
      (same_test (under A B x r z) (under A B x s z) (at_most_under s r z l.1) (at_most_under r s z l.0))
      (groups_level r s l zs)

  -- a side that is not present makes no group
  insert_absent : (y : ℕ) → T (not (present_by fa fb y)) → (g : Option ℕ) (zs : List ℕ) → cut g (insert less y zs) ≡ cut g zs
  unfolding insert groups
  insert_absent y n g [] = groups_end A B x fa fb g y [] n
  insert_absent y n g (z ∷ zs) = insert_cases less (λ (ws : List ℕ). cut g ws ≡ cut g (z ∷ zs)) y z zs before (after (insert_absent y n (some z) zs) (insert_absent y n g zs)) level
    where
      before : T (less y z) → cut g (y ∷ z ∷ zs) ≡ cut g (z ∷ zs)
      before h = groups_end A B x fa fb g y (z ∷ zs) n ∙ sym (groups_end A B x fa fb g z zs (not_T (present_by fa fb z) (λ k. T_not (present_by fa fb y) n (less_present A B x fa fb y z k h))))

      after : cut (some z) (insert less y zs) ≡ cut (some z) zs → cut g (insert less y zs) ≡ cut g zs → T (less z y) → cut g (z ∷ insert less y zs) ≡ cut g (z ∷ zs)
      after e f h = ap₂ (λ (gs hs : List Segment). cond (present_by fa fb z) (cond (above (under A B x) g z) (side_of A B z ∷ gs) hs) []) e f

      level : Level less y z → cut g (y ∷ zs) ≡ cut g (z ∷ zs)
      level l = ap (λ (w : ℕ). cut g (w ∷ zs)) (number_total ha hb x fa fb y z l)

  -- a present side of the least number goes to the same place in the groups as in the order
  insert_present : (y : ℕ) → T (present_by fa fb y) → (g : Option ℕ) → T (above (under A B x) g y) → (zs : List ℕ) → All (λ (z : ℕ). T (ltb y z)) zs → cut g (insert less y zs) ≡ insert (lower segment_line x) (side_of A B y) (cut g zs)
  unfolding insert groups
  insert_present y hy g a [] n = groups_new A B x fa fb g y [] hy a
  insert_present y hy g a (z ∷ zs) n =
      insert_cases less (λ (ws : List ℕ). cut g ws ≡ into (cut g (z ∷ zs))) y z zs
      before
      (after (λ k. insert_present y hy (some z) k zs n.1) (insert_present y hy g a zs n.1))
      (λ l. let e = number_total ha hb x fa fb y z l in let k = ltb→lt y z n.0 in absurd (omega arith))
    where
      into : List Segment → List Segment
      into gs = insert (lower segment_line x) (side_of A B y) gs

      before : T (less y z) → cut g (y ∷ z ∷ zs) ≡ into (cut g (z ∷ zs))
      before h = groups_new A B x fa fb g y (z ∷ zs) hy a ∙ elim (yes_or_no (present_by fa fb z)) [ inl k ↦ here k | inr k ↦ end k ]
        where
          end : T (not (present_by fa fb z)) → side_of A B y ∷ cut (some y) (z ∷ zs) ≡ into (cut g (z ∷ zs))
          end k = ap (λ (gs : List Segment). side_of A B y ∷ gs) (groups_end A B x fa fb (some y) z zs k) ∙ sym (ap into (groups_end A B x fa fb g z zs k))

          here : T (present_by fa fb z) → side_of A B y ∷ cut (some y) (z ∷ zs) ≡ into (cut g (z ∷ zs))
          here k =
              elim (yes_or_no (under A B x y z)) [
                | inl b ↦ ap (λ (gs : List Segment). side_of A B y ∷ gs) (groups_new A B x fa fb (some y) z zs k b) ∙ sym (new ∙ insert_before A B x y z (cut (some z) zs) b)
                | inr b ↦ ap (λ (gs : List Segment). side_of A B y ∷ gs) (groups_same A B x fa fb (some y) z zs k b ∙ groups_level y z (up, b) zs) ∙ sym (new ∙ insert_place A B x y z (cut (some z) zs) b up)
              ]
            where
              up : AtMost (under A B x) y z
              up = less_not_below A B x fa fb y z hy k h

              new : into (cut g (z ∷ zs)) ≡ into (side_of A B z ∷ cut (some z) zs)
              new = ap into (groups_new A B x fa fb g z zs k (above_at_most g y z a up))

      after : (T (under A B x z y) → cut (some z) (insert less y zs) ≡ into (cut (some z) zs)) → cut g (insert less y zs) ≡ into (cut g zs) → T (less z y) → cut g (z ∷ insert less y zs) ≡ into (cut g (z ∷ zs))
      after e f h =
          elim (yes_or_no (above (under A B x) g z)) [
            | inl b ↦ groups_new A B x fa fb g z (insert less y zs) k b ∙ ap (λ (gs : List Segment). side_of A B z ∷ gs) (e u) ∙ sym (ap into (groups_new A B x fa fb g z zs k b) ∙ insert_after A B x y z (cut (some z) zs) u)
            | inr b ↦ groups_same A B x fa fb g z (insert less y zs) k b ∙ f ∙ sym (ap into (groups_same A B x fa fb g z zs k b))
          ]
        where
          k : T (present_by fa fb z)
          k = less_present A B x fa fb z y hy h

          u : T (under A B x z y)
          u = less_below A B x fa fb z y k hy n.0 h

  module _ (ea : fa ≡ in_range x A) (eb : fb ≡ in_range x B) where
    spans_present : (i : ℕ) → spans x (side_of A B i) ≡ present_by fa fb i
    spans_present i = side_spans A B x i ∙ sym (ap₂ (λ (s t : Bool). present_by s t i) ea eb)

    -- in the order of rising numbers
    groups_numbered : (is : List ℕ) → Pairs (λ (i j : ℕ). T (ltb i j)) is → cut none (levels less is) ≡ levels (lower segment_line x) (keep (spans x) (sides_of A B is))
    unfolding levels keep groups
    groups_numbered [] r = refl
    groups_numbered (i ∷ is) r =
        let ih = groups_numbered is r.1 in
        elim (yes_or_no (present_by fa fb i)) [
          | inl k ↦ (
              let e : spans x (side_of A B i) ≡ true = spans_present i ∙ true_is k in
              insert_present i k none tt (levels less is) (levels_all less (λ (j : ℕ). T (ltb i j)) is r.0) ∙ rw (e, ih)
              )
          | inr k ↦ (let e : spans x (side_of A B i) ≡ false = spans_present i ∙ false_is k in insert_absent i k none (levels less is) ∙ rw (e, ih))
        ]

    groups_exact : cut none (order_at A B x fa fb) ≡ levels (lower segment_line x) (spanning (λ (s : Segment). s) x (sides A B))
    unfolding order_at
    groups_exact = groups_numbered side_numbers ((tt, (tt, (tt, tt))), ((tt, (tt, tt)), ((tt, tt), (tt, tt)))) ∙ ap (λ (ss : List Segment). levels (lower segment_line x) (keep (spans x) ss)) (sym (sides-numbered A B))

-- ---- the flags
unequal : (i j : ℕ) → T (not (eqb i j)) → i ≡ j → ⊥
unequal i j n e = T_not (eqb i j) n (subst (λ (k : ℕ). T (eqb i k)) e (eqb_refl i))

module _ {L : ℕ} {A B : Trapezoid} (ha : FitFor L A) (hb : FitFor L B) (x : Fraction) (fa fb : Bool) where
  o : StrictWeakOrder (number_less A B x fa fb) (λ (i : ℕ). Unit {0})
  o = number_ordered ha hb x fa fb

  not_itself : (i : ℕ) → number_less A B x fa fb i i ≡ false
  not_itself i = false_is (at_most_refl (number_less A B x fa fb) o i)

  not_again : (i j : ℕ) → T (number_less A B x fa fb i j) → j ≡ i → ⊥
  not_again i j h e = T_not (number_less A B x fa fb i i) (at_most_refl (number_less A B x fa fb) o i) (subst (λ (k : ℕ). T (number_less A B x fa fb i k)) e h)

  -- whether one is at or above the side b and below the side t after all sides up to z
  abbrev inside : ℕ → ℕ → ℕ → Bool
  inside b t z = not (number_less A B x fa fb z b) && number_less A B x fa fb z t

  passing_is : (b t z : ℕ) (f : Bool) → T (number_less A B x fa fb b t) → ((z ≡ b → ⊥) → (z ≡ t → ⊥) → f ≡ inside b t z) → passing b t z f ≡ inside b t z
  passing_is b t z f h k = go (yes_or_no (eqb z b)) (yes_or_no (eqb z t))
    where
      at_bottom : inside b t b ≡ true
      at_bottom = let e : number_less A B x fa fb b t ≡ true = true_is h in rw (not_itself b, e)

      go : T (eqb z b) ⊎ T (not (eqb z b)) → T (eqb z t) ⊎ T (not (eqb z t)) → passing b t z f ≡ inside b t z
      go (inl e) d = cond_yes (eqb z b) true (cond (eqb z t) false f) e ∙ sym (ap (inside b t) (eqb→eq z b e) ∙ at_bottom)
      go (inr e) (inl d) = cond_no (eqb z b) true (cond (eqb z t) false f) e ∙ cond_yes (eqb z t) false f d ∙ sym (ap (inside b t) (eqb→eq z t d) ∙ rest_fails (not (number_less A B x fa fb t b)) (number_less A B x fa fb t t) (not_itself t))
      go (inr e) (inr d) = cond_no (eqb z b) true (cond (eqb z t) false f) e ∙ cond_no (eqb z t) false f d ∙ k (unequal z b e) (unequal z t d)

  -- zs are the sides after `last`, which is of the group that begins with r
  record Remains (r last : ℕ) (zs : List ℕ) : Type 0 where
    rising : Rising (number_less A B x fa fb) (last ∷ zs)
    rest : (w : ℕ) → w < 4 → T (number_less A B x fa fb last w) → Member w zs
    here : T (present_by fa fb last)
    level : Level (under A B x) r last

  module _ (r last z : ℕ) (zs : List ℕ) (h : Remains r last (z ∷ zs)) where
    -- a side after `last` is z or after it
    after : (w : ℕ) → w < 4 → T (number_less A B x fa fb last w) → (w ≡ z) ⊎ T (number_less A B x fa fb z w)
    after w b l = elim (h.rest w b l) [ inl e ↦ inl e | inr m ↦ inr (all_member (λ (y : ℕ). T (number_less A B x fa fb z y)) w zs h.rising.1.0 m) ]

    same_after : (w : ℕ) → w < 4 → (z ≡ w → ⊥) → number_less A B x fa fb last w ≡ number_less A B x fa fb z w
    same_after w b n = same_test (number_less A B x fa fb last w) (number_less A B x fa fb z w)
        (λ l. elim (after w b l) [ inl e ↦ absurd (n (sym e)) | inr k ↦ k ])
        (λ l. less_trans (number_less A B x fa fb) o last z w tt tt tt h.rising.0.0 l)

    -- passing z
    passing_next : (b t : ℕ) → b < 4 → t < 4 → T (number_less A B x fa fb b t) → passing b t z (inside b t last) ≡ inside b t z
    passing_next b t hb ht l = passing_is b t z (inside b t last) l (λ n m. ap₂ (λ (u v : Bool). not u && v) (same_after b hb n) (same_after t ht m))

    -- what remains after z, whose group begins with s
    remains_rest : T (present_by fa fb z) → (s : ℕ) → Level (under A B x) s z → Remains s z zs
    remains_rest k s l =
        record {
          rising = h.rising.1;
          rest = λ w b j. elim (h.rest w b (less_trans (number_less A B x fa fb) o last z w tt tt tt h.rising.0.0 j)) [ inl e ↦ absurd (not_again z w j e) | inr m ↦ m ];
          here = k;
          level = l;
        }

    -- where z is above the group, the flags say what the group's line fills
    module _ (k : T (present_by fa fb z)) (u : T (under A B x r z)) where
      above_group : (w : ℕ) → w < 4 → T (present_by fa fb w) → number_less A B x fa fb last w ≡ under A B x r w
      above_group w b j = same_test (number_less A B x fa fb last w) (under A B x r w) to from
        where
          to : T (number_less A B x fa fb last w) → T (under A B x r w)
          to l = elim (after w b l) [ inl e ↦ subst (λ (y : ℕ). T (under A B x r y)) (sym e) u | inr i ↦ under_at_most ha hb x fa fb r z w u (less_not_below A B x fa fb z w k j i) ]

          from : T (under A B x r w) → T (number_less A B x fa fb last w)
          from l = below_less A B x fa fb last w h.here j (at_most_under ha hb x fa fb last r w h.level.1 l)

      fill : (b t : ℕ) (f : Bool) → b < 4 → t < 4 → present_by fa fb b ≡ f → present_by fa fb t ≡ f → inside b t last ≡ f && (not (under A B x r b) && under A B x r t)
      fill b t true hb ht eb et = ap₂ (λ (u v : Bool). not u && v) (above_group b hb (is_true eb)) (above_group t ht (is_true et))
      fill b t false hb ht eb et = let e : number_less A B x fa fb last b ≡ true = true_is (present_less A B x fa fb last b h.here (is_false eb)) in rw e

-- ---- the trapezoids
-- of a column's parts with the tag n: the first group and the next
tagged_step : (n : ℕ) (A B : Trapezoid) (p q : Base) → 1 ≤ n → (g h : Segment) (gs : List Segment)
    → tagged n (stack A B p q (g ∷ h ∷ gs)) ≡ in_front (eqb (tag_above A B (position p) g) n) (record { left = p; right = q; bottom = g.line; top = h.line }) (tagged n (stack A B p q (h ∷ gs)))
unfolding stack tagged
tagged_step n A B p q hn g h gs = go (yes_or_no (eqb (tag_above A B (position p) g) 0))
  where
    s : Trapezoid
    s = record { left = p; right = q; bottom = g.line; top = h.line }

    ts : List Trapezoid
    ts = tagged n (stack A B p q (h ∷ gs))

    front : (t : Bool) → cond t (s ∷ ts) ts ≡ in_front t s ts
    front true = refl
    front false = refl

    go : T (eqb (tag_above A B (position p) g) 0) ⊎ T (not (eqb (tag_above A B (position p) g) 0)) → tagged n (stack A B p q (g ∷ h ∷ gs)) ≡ in_front (eqb (tag_above A B (position p) g) n) s ts
    go (inl z) =
        let e = eqb→eq (tag_above A B (position p) g) 0 z in
        let f : eqb (tag_above A B (position p) g) n ≡ false = false_is (not_T (eqb (tag_above A B (position p) g) n) (λ k. let d = eqb→eq (tag_above A B (position p) g) n k in omega arith)) in
        let i : eqb (tag_above A B (position p) g) 0 ≡ true = true_is z in
        rw (f, i)
    go (inr z) = let i : eqb (tag_above A B (position p) g) 0 ≡ false = false_is z in rw i (front (eqb (tag_above A B (position p) g) n))

-- the steps of `strips`
module _ (n : ℕ) (A B : Trapezoid) (p q : Base) (fa fb : Bool) (z : ℕ) (zs : List ℕ) where
  pub strips_none : T (not (present_by fa fb z)) → strips n A B p q fa fb (z ∷ zs) ≡ []
  unfolding strips
  strips_none h = cond_no (present_by fa fb z) _ [] h

  pub strips_first : T (present_by fa fb z) → strips n A B p q fa fb (z ∷ zs) ≡ strips_from n A B p q fa fb z (enter_a z false) (enter_b z false) zs
  unfolding strips
  strips_first h = cond_yes (present_by fa fb z) _ [] h

  module _ (rep : ℕ) (ina inb : Bool) where
    pub strips_end : T (not (present_by fa fb z)) → strips_from n A B p q fa fb rep ina inb (z ∷ zs) ≡ []
    unfolding strips_from
    strips_end h = cond_no (present_by fa fb z) _ [] h

    pub strips_above : T (present_by fa fb z) → T (below (position p) (line_of_side A B rep) (line_of_side A B z))
        → strips_from n A B p q fa fb rep ina inb (z ∷ zs) ≡ in_front (eqb (tag_of ina inb) n) (strip A B p q rep z) (strips_from n A B p q fa fb z (enter_a z ina) (enter_b z inb) zs)
    unfolding strips_from
    strips_above h k = cond_yes (present_by fa fb z) _ [] h ∙ cond_yes (below (position p) (line_of_side A B rep) (line_of_side A B z)) _ _ k

    pub strips_level : T (present_by fa fb z) → T (not (below (position p) (line_of_side A B rep) (line_of_side A B z)))
        → strips_from n A B p q fa fb rep ina inb (z ∷ zs) ≡ strips_from n A B p q fa fb rep (enter_a z ina) (enter_b z inb) zs
    unfolding strips_from
    strips_level h k = cond_yes (present_by fa fb z) _ [] h ∙ cond_no (below (position p) (line_of_side A B rep) (line_of_side A B z)) _ _ k

module _ {L : ℕ} {A B : Trapezoid} (ha : FitFor L A) (hb : FitFor L B) (p q : Base) (hp : Proper (position p)) (n : ℕ) (hn : 1 ≤ n) (fa fb : Bool) (ea : fa ≡ in_range (position p) A) (eb : fb ≡ in_range (position p) B) where
  abbrev x : Fraction
  x = position p

  bottom_top_A : T (number_less A B (position p) fa fb 0 1)
  bottom_top_A = first_sides A B x fa fb (λ t. own_below ha x hp (subst T ea t))

  bottom_top_B : T (number_less A B (position p) fa fb 2 3)
  bottom_top_B = second_sides A B x fa fb (λ t. own_below hb x hp (subst T eb t))

  -- the flags after the sides up to z
  abbrev in_a : ℕ → Bool
  in_a z = inside ha hb (position p) fa fb 0 1 z

  abbrev in_b : ℕ → Bool
  in_b z = inside ha hb (position p) fa fb 2 3 z

  group_tag : (r last z : ℕ) (zs : List ℕ) → Remains ha hb (position p) fa fb r last (z ∷ zs) → T (present_by fa fb z) → T (under A B (position p) r z) → tag_of (in_a last) (in_b last) ≡ tag_above A B (position p) (side_of A B r)
  unfolding tag_above fills line_of_side present_by side_of
  group_tag r last z zs h k u =
      ap₂ tag_of
      (fill ha hb x fa fb r last z zs h k u 0 1 fa (omega arith) (omega arith) refl refl ∙ ap (λ (f : Bool). f && (not (under A B x r 0) && under A B x r 1)) ea)
      (fill ha hb x fa fb r last z zs h k u 2 3 fb (omega arith) (omega arith) refl refl ∙ ap (λ (f : Bool). f && (not (under A B x r 2) && under A B x r 3)) eb)

  -- what the groups that begin with r yield
  abbrev yield : ℕ → List Segment → List Trapezoid
  yield r gs = tagged n (stack A B p q (side_of A B r ∷ gs))

  alone : (r : ℕ) → yield r [] ≡ []
  unfolding stack tagged
  alone r = refl

  first_next : (r z : ℕ) (gs : List Segment) → yield r (side_of A B z ∷ gs) ≡ in_front (eqb (tag_above A B (position p) (side_of A B r)) n) (strip A B p q r z) (yield z gs)
  unfolding side_of
  first_next r z gs = tagged_step n A B p q hn (side_of A B r) (side_of A B z) gs

  from_nothing : (r : ℕ) (ina inb : Bool) → strips_from n A B p q fa fb r ina inb [] ≡ []
  unfolding strips_from
  from_nothing r ina inb = refl

  strips_groups : (r last : ℕ) (zs : List ℕ) → Remains ha hb (position p) fa fb r last zs → strips_from n A B p q fa fb r (in_a last) (in_b last) zs ≡ yield r (groups A B (position p) fa fb (some r) zs)
  unfolding groups
  strips_groups r last [] h = from_nothing r (in_a last) (in_b last) ∙ sym (alone r)
  strips_groups r last (z ∷ zs) h = go (yes_or_no (present_by fa fb z)) (yes_or_no (under A B x r z)) (λ k. strips_groups z z zs k) (λ k. strips_groups r z zs k)
    where
      from : ℕ → Bool → Bool → List Trapezoid
      from s ina inb = strips_from n A B p q fa fb s ina inb zs

      -- the flags after z
      entered : (s : ℕ) → from s (enter_a z (in_a last)) (enter_b z (in_b last)) ≡ from s (in_a z) (in_b z)
      entered s =
          unfold enter_a enter_b in
          ap₂ (from s)
          (passing_next ha hb x fa fb r last z zs h 0 1 (omega arith) (omega arith) bottom_top_A)
          (passing_next ha hb x fa fb r last z zs h 2 3 (omega arith) (omega arith) bottom_top_B)

      go : T (present_by fa fb z) ⊎ T (not (present_by fa fb z)) → T (under A B x r z) ⊎ T (not (under A B x r z))
          → (Remains ha hb x fa fb z z zs → from z (in_a z) (in_b z) ≡ yield z (groups A B x fa fb (some z) zs))
          → (Remains ha hb x fa fb r z zs → from r (in_a z) (in_b z) ≡ yield r (groups A B x fa fb (some r) zs))
          → strips_from n A B p q fa fb r (in_a last) (in_b last) (z ∷ zs) ≡ yield r (groups A B x fa fb (some r) (z ∷ zs))
      go (inr k) u new same = strips_end n A B p q fa fb z zs r (in_a last) (in_b last) k ∙ sym (ap (yield r) (groups_end A B x fa fb (some r) z zs k) ∙ alone r)
      go (inl k) (inl u) new same =
          strips_above n A B p q fa fb z zs r (in_a last) (in_b last) k u
          ∙ ap₂ (λ (m : ℕ) (ts : List Trapezoid). in_front (eqb m n) (strip A B p q r z) ts) (group_tag r last z zs h k u) (entered z ∙ new (remains_rest ha hb x fa fb r last z zs h k z (level_refl (under A B x) (under_ordered ha hb x fa fb) z)))
          ∙ sym (ap (yield r) (groups_new A B x fa fb (some r) z zs k u) ∙ first_next r z (groups A B x fa fb (some z) zs))
      go (inl k) (inr u) new same =
          strips_level n A B p q fa fb z zs r (in_a last) (in_b last) k u
          ∙ entered r
          ∙ same (remains_rest ha hb x fa fb r last z zs h k r (at_most, u))
          ∙ sym (ap (yield r) (groups_same A B x fa fb (some r) z zs k u))
        where
          at_most : AtMost (under A B x) r z
          at_most = (under_ordered ha hb x fa fb).transitive r last z tt tt tt h.level.0 (less_not_below A B x fa fb last z h.here k h.rising.0.0)

  -- a rising list of the four sides
  strips_rising : (ys : List ℕ) → Rising (number_less A B (position p) fa fb) ys → HasSides ys → strips n A B p q fa fb ys ≡ tagged n (stack A B p q (groups A B (position p) fa fb none ys))
  unfolding groups
  strips_rising [] r m = absurd m.0
  strips_rising (z ∷ zs) r m = elim (yes_or_no (present_by fa fb z)) [
    | inl k ↦ strips_first n A B p q fa fb z zs k ∙ entered ∙ strips_groups z z zs (start k) ∙ sym (ap all (groups_new A B x fa fb none z zs k tt))
    | inr k ↦ strips_none n A B p q fa fb z zs k ∙ sym (ap all (groups_end A B x fa fb none z zs k) ∙ nothing)
  ]
    where
      all : List Segment → List Trapezoid
      all gs = tagged n (stack A B p q gs)

      nothing : all [] ≡ []
      nothing = unfold stack tagged in refl

      -- each other side is after z
      later : (w : ℕ) → w < 4 → (z ≡ w → ⊥) → Member w zs
      later w b e = elim (has_side (z ∷ zs) m w b) [ inl d ↦ absurd (e (sym d)) | inr i ↦ i ]

      start : T (present_by fa fb z) → Remains ha hb x fa fb z z zs
      start k =
          record {
            rising = r;
            rest = λ w b l. later w b (λ e. not_again ha hb x fa fb z w l (sym e));
            here = k;
            level = level_refl (under A B x) (under_ordered ha hb x fa fb) z;
          }

      -- the flags after z
      outside : (b t : ℕ) → b < 4 → (z ≡ b → ⊥) → false ≡ inside ha hb x fa fb b t z
      outside b t l e = let d : number_less A B x fa fb z b ≡ true = true_is (all_member (λ (y : ℕ). T (number_less A B x fa fb z y)) b zs r.0 (later b l e)) in rw d

      entered : strips_from n A B p q fa fb z (enter_a z false) (enter_b z false) zs ≡ strips_from n A B p q fa fb z (in_a z) (in_b z) zs
      entered =
          unfold enter_a enter_b in
          ap₂ (λ (ina inb : Bool). strips_from n A B p q fa fb z ina inb zs)
          (passing_is ha hb x fa fb 0 1 z false bottom_top_A (λ e d. outside 0 1 (omega arith) e))
          (passing_is ha hb x fa fb 2 3 z false bottom_top_B (λ e d. outside 2 3 (omega arith) e))

pub strips_exact : {L : ℕ} {A B : Trapezoid} → FitFor L A → FitFor L B → (p q : Base) → Proper (position p) → (n : ℕ) → 1 ≤ n → (fa fb : Bool) → fa ≡ in_range (position p) A → fb ≡ in_range (position p) B
    → strips n A B p q fa fb (order_at A B (position p) fa fb) ≡ tagged n (parts A B p q (spanning (λ (s : Segment). s) (position p) (sides A B)))
unfolding parts
strips_exact {L} {A} {B} ha hb p q hp n hn fa fb ea eb =
    strips_rising ha hb p q hp n hn fa fb ea eb (order_at A B (position p) fa fb) (order_rising ha hb (position p) fa fb) (order_members ha hb (position p) fa fb)
    ∙ ap (λ (gs : List Segment). tagged n (stack A B p q gs)) (groups_exact ha hb (position p) fa fb ea eb)
