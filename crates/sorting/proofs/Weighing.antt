-- The slabs of a column by a running sum over its weighed levels.
use mathlib.Core.Path.{◌≡◌, refl, sym, ◌∙◌, ap, subst}
use mathlib.Core.Bool.{Bool, true, false, not, cond}
use mathlib.Core.List.{List, [], ◌∷◌, map}
use mathlib.Core.Option.{Option, none, some}
use lib.Dec.{T, T_not}
use lib.IntN.{ℤ, pos}
use Rattle.integer.specs.Integer.{◌⊕◌}
use Rattle.lists.proofs.Tests.{true_is, false_is, is_true, is_false}
use Rattle.integer.proofs.Ring.{ring, ◌⊞◌, con, ◌≗◌}
use Rattle.lists.specs.Lists.{All}
use Rattle.lists.proofs.Lists.{all_map, all_with}
use Rattle.levels.specs.Levels.{AtMost, StrictWeakOrder, insert, levels, Rising}
use Rattle.levels.proofs.Laws.{levels_all, levels_rising}
use Rattle.levels.proofs.Order.{at_most_refl}
use Rattle.sweep.specs.Sums.{sum}
use Rattle.sweep.specs.Columns.{is_zero, Slab, slabs}
use Rattle.sorting.specs.Sorted.{merged}
use Rattle.sorting.specs.Weighed.{Weighed, items, joined, lighter, weighed, running}

module _ {A : Type 0} (less : A → A → Bool) where
  -- without the weights they are the levels
  items_merged : (x : Weighed A) (gs : List (Weighed A)) → items (merged (lighter less) joined x gs) ≡ insert less x.item (items gs)
  unfolding merged insert
  items_merged x [] = refl
  items_merged x (g ∷ gs) = go (less x.item g.item) (less g.item x.item) (items_merged x gs)
    where
      go : (s t : Bool) → items (merged (lighter less) joined x gs) ≡ insert less x.item (items gs)
          → items (cond s (x ∷ g ∷ gs) (cond t (g ∷ merged (lighter less) joined x gs) (joined x g ∷ gs))) ≡ cond s (x.item ∷ g.item ∷ items gs) (cond t (g.item ∷ insert less x.item (items gs)) (x.item ∷ items gs))
      go true t e = refl
      go false true e = ap (λ (r : List A). g.item ∷ r) e
      go false false e = refl

  pub items_weighed : (weight : A → ℤ) (xs : List A) → items (weighed less weight xs) ≡ levels less xs
  unfolding weighed levels
  items_weighed weight [] = refl
  items_weighed weight (x ∷ xs) = items_merged (record { item = x; weight = weight x }) (weighed less weight xs) ∙ ap (insert less x) (items_weighed weight xs)

  -- what a group adds to the sum up to h
  abbrev part : A → A → ℤ → ℤ
  part h x w = cond (not (less h x)) w (pos 0)

  abbrev total : A → List (Weighed A) → ℤ
  total h [] = pos 0
  total h (g ∷ gs) = part h g.item g.weight ⊕ total h gs

  module _ {Good : A → Type 0} (o : StrictWeakOrder less Good) where
    -- level ones are tested alike
    alike : (h x y : A) → Good h → Good x → Good y → less x y ≡ false → less y x ≡ false → less h x ≡ less h y
    alike h x y gh gx gy p q = go (less h x) (less h y) refl refl
      where
        go : (s t : Bool) → less h x ≡ s → less h y ≡ t → s ≡ t
        go true true e f = refl
        go false false e f = refl
        go true false e f = absurd (T_not (less h x) (o.transitive x y h gx gy gh (is_false q) (is_false f)) (is_true e))
        go false true e f = absurd (T_not (less h y) (o.transitive y x h gy gx gh (is_false p) (is_false e)) (is_true f))

    total_merged : (h : A) (x : Weighed A) (gs : List (Weighed A)) → Good h → Good x.item → All Good (items gs) → total h (merged (lighter less) joined x gs) ≡ part h x.item x.weight ⊕ total h gs
    unfolding merged
    total_merged h x [] gh gx a = refl
    total_merged h x (g ∷ gs) gh gx a = go (less x.item g.item) (less g.item x.item) refl refl (total_merged h x gs gh gx a.1)
      where
        here : ℤ
        here = part h x.item x.weight

        join : (t : Bool) (w u z : ℤ) → cond t (w ⊕ u) (pos 0) ⊕ z ≡ cond t w (pos 0) ⊕ (cond t u (pos 0) ⊕ z)
        join true w u z = ring 3 (λ w u z. (w ⊞ u) ⊞ z ≗ w ⊞ (u ⊞ z)) tt w u z
        join false w u z = ring 1 (λ z. con (pos 0) ⊞ z ≗ con (pos 0) ⊞ (con (pos 0) ⊞ z)) tt z

        go : (s t : Bool) → less x.item g.item ≡ s → less g.item x.item ≡ t → total h (merged (lighter less) joined x gs) ≡ part h x.item x.weight ⊕ total h gs
            → total h (cond s (x ∷ g ∷ gs) (cond t (g ∷ merged (lighter less) joined x gs) (joined x g ∷ gs))) ≡ part h x.item x.weight ⊕ (part h g.item g.weight ⊕ total h gs)
        go true t p q e = refl
        go false true p q e = ap (λ (z : ℤ). part h g.item g.weight ⊕ z) e ∙ ring 3 (λ a b c. a ⊞ (b ⊞ c) ≗ b ⊞ (a ⊞ c)) tt (part h g.item g.weight) here (total h gs)
        go false false p q e =
            let k = alike h x.item g.item gh gx a.0 p q in
            rw (sym k) (join (not (less h x.item)) x.weight g.weight (total h gs))

    total_weighed : (weight : A → ℤ) (h : A) (xs : List A) → Good h → All Good xs → total h (weighed less weight xs) ≡ sum weight (λ (x : A). not (less h x)) xs
    unfolding weighed sum
    total_weighed weight h [] gh a = refl
    total_weighed weight h (x ∷ xs) gh a =
        total_merged h (record { item = x; weight = weight x }) (weighed less weight xs) gh a.0 (subst (All Good) (sym (items_weighed weight xs)) (levels_all less Good xs a.1))
        ∙ ap (λ (z : ℤ). part h x (weight x) ⊕ z) (total_weighed weight h xs gh a.1)

    -- ---- the running sum
    module _ (W : A → ℤ) where
      abbrev Sums : ℤ → List (Weighed A) → Type 0
      Sums s gs = All (λ (h : A). W h ≡ s ⊕ total h gs) (items gs)

      none_more : (h : A) (gs : List (Weighed A)) → All (λ (x : A). T (less h x)) (items gs) → total h gs ≡ pos 0
      none_more h [] l = refl
      none_more h (g ∷ gs) l = let e : less h g.item ≡ true = true_is l.0 in rw (e, none_more h gs l.1) (ring 0 (con (pos 0) ⊞ con (pos 0) ≗ con (pos 0)) tt)

      sums_here : (s : ℤ) (g : Weighed A) (gs : List (Weighed A)) → Rising less (items (g ∷ gs)) → Sums s (g ∷ gs) → W g.item ≡ s ⊕ g.weight
      sums_here s g gs r h = h.0 ∙ after
        where
          after : s ⊕ total g.item (g ∷ gs) ≡ s ⊕ g.weight
          after = let f : less g.item g.item ≡ false = false_is (at_most_refl less o g.item) in rw (f, none_more g.item gs r.0) (ring 2 (λ s w. s ⊞ (w ⊞ con (pos 0)) ≗ s ⊞ w) tt s g.weight)

      sums_next : (s : ℤ) (g : Weighed A) (gs : List (Weighed A)) → Rising less (items (g ∷ gs)) → Sums s (g ∷ gs) → Sums (s ⊕ g.weight) gs
      sums_next s g gs r h = all_with (λ x l e. step x l e) (items gs) r.0 h.1
        where
          step : (x : A) → T (less g.item x) → W x ≡ s ⊕ total x (g ∷ gs) → W x ≡ s ⊕ g.weight ⊕ total x gs
          step x l e = e ∙ after
            where
              after : s ⊕ total x (g ∷ gs) ≡ s ⊕ g.weight ⊕ total x gs
              after = let f : less x g.item ≡ false = false_is (o.asymmetric g.item x l) in rw f (ring 3 (λ s w z. s ⊞ (w ⊞ z) ≗ (s ⊞ w) ⊞ z) tt s g.weight (total x gs))

      slabs_running : (s : ℤ) (b : Option A) (gs : List (Weighed A)) → Rising less (items gs) → Sums s gs → slabs W b (items gs) ≡ running s b gs
      unfolding slabs running
      slabs_running s none [] r h = refl
      slabs_running s (some b) [] r h = refl
      slabs_running s none (g ∷ gs) r h =
          let n = sums_next s g gs r h in
          rw (sums_here s g gs r h, slabs_running (s ⊕ g.weight) none gs r.1 n, slabs_running (s ⊕ g.weight) (some g.item) gs r.1 n)
      slabs_running s (some b) (g ∷ gs) r h =
          let n = sums_next s g gs r h in
          rw (sums_here s g gs r h, slabs_running (s ⊕ g.weight) none gs r.1 n, slabs_running (s ⊕ g.weight) (some b) gs r.1 n)

    -- the slabs of a list by its sums up to each level are those by a running sum over its weighed levels
    pub running_levels : (weight : A → ℤ) (xs : List A) → All Good xs → slabs (λ (h : A). sum weight (λ (x : A). not (less h x)) xs) none (levels less xs) ≡ running (pos 0) none (weighed less weight xs)
    running_levels weight xs a =
        let W : A → ℤ = λ h. sum weight (λ (x : A). not (less h x)) xs in
        let e = items_weighed weight xs in
        let goods = subst (All Good) (sym e) (levels_all less Good xs a) in
        ap (slabs W none) (sym e)
        ∙ slabs_running W (pos 0) none (weighed less weight xs) (subst (Rising less) (sym e) (levels_rising less o xs a))
        (all_map (λ h gh. sym (total_weighed weight h xs gh a) ∙ ring 1 (λ z. z ≗ con (pos 0) ⊞ z) tt (total h (weighed less weight xs))) (items (weighed less weight xs)) goods)
