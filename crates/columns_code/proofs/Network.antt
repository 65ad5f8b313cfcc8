-- Four numbers that are 0, 1, 2 and 3 in some order, put into the order of the sides by five exchanges.
use mathlib.Core.Path.{◌≡◌, ap, subst}
use mathlib.Core.Bool.{Bool, true, false, not}
use mathlib.Core.List.{List, [], ◌∷◌}
use mathlib.Core.Logic.{◌⊎◌, inl, inr}
use Prim.Native.Nat.{ℕ, zero, suc, ◌+◌, ◌≤◌, ◌<◌}
use native.Mathlib.Omega.{arith}
use lib.Dec.{T, not_T, eqb, ltb, eqb_refl, eqb→eq, ltb→lt, nltb→le}
use Rattle.lists.specs.Lists.{All, Any, Member}
use Rattle.lists.specs.Tests.{bit}
use Rattle.lists.proofs.Tests.{true_is, false_is, yes_or_no}
use Rattle.lists.proofs.Lists.{all_map}
use Rattle.integer.specs.Fraction.{Fraction}
use Rattle.levels.specs.Levels.{AtMost, StrictWeakOrder}
use Rattle.levels.proofs.Order.{less_trans}
use Rattle.geometry.specs.declared.Trapezoid.{Trapezoid}
use Rattle.geometry.specs.Fitness.{FitFor}
use Rattle.columns_code.specs.Order.{side_numbers, HasSides, number_less, order_at}
use Rattle.columns_code.proofs.Exchanges.{Four, four_list, exchange01, exchange23, exchange02, exchange13, exchange12, sort01, sort23, sort02, sort13, sort12, network}
use Rattle.columns_code.proofs.NumberOrder.{number_ordered, number_less_lem, order_unique}

-- ---- four numbers among which are 0, 1, 2 and 3: each is one of these, and no two are equal
hits : ℕ → ℕ
hits x = bit (eqb 0 x) + bit (eqb 1 x) + bit (eqb 2 x) + bit (eqb 3 x)

-- another number is none of them
hits_far : (x : ℕ) → 4 ≤ x → hits x ≡ 0
unfolding hits
hits_far x h = rw (far 0 (omega arith), far 1 (omega arith), far 2 (omega arith), far 3 (omega arith))
  where
    far : (k : ℕ) → k < x → eqb k x ≡ false
    far k l = false_is (not_T (eqb k x) (λ t. let e = eqb→eq k x t in omega arith))

hits_once : (x : ℕ) → hits x ≤ 1
unfolding hits
hits_once zero = omega arith
hits_once (suc zero) = omega arith
hits_once (suc (suc zero)) = omega arith
hits_once (suc (suc (suc zero))) = omega arith
hits_once (suc (suc (suc (suc x)))) = let e = hits_far (suc (suc (suc (suc x)))) (omega arith) in omega arith

hits_below : (x : ℕ) → 1 ≤ hits x → x < 4
hits_below x h = elim (yes_or_no (ltb x 4)) [ inl l ↦ ltb→lt x 4 l | inr l ↦ (let e = hits_far x (nltb→le x 4 l) in absurd (omega arith)) ]

-- how often k is in the list
abbrev times : ℕ → List ℕ → ℕ
times k [] = 0
times k (x ∷ xs) = bit (eqb k x) + times k xs

found : (k : ℕ) (xs : List ℕ) → Member k xs → 1 ≤ times k xs
found k [] m = absurd m
found k (x ∷ xs) (inl e) = let t : eqb k x ≡ true = true_is (subst (λ (z : ℕ). T (eqb k z)) e (eqb_refl k)) in let b = ap bit t in omega arith
found k (x ∷ xs) (inr m) = let h = found k xs m in omega arith

module _ {a b c d : ℕ} (m : HasSides (a ∷ b ∷ c ∷ d ∷ [])) where
  pub four_below : All (λ (y : ℕ). y < 4) (a ∷ b ∷ c ∷ d ∷ [])
  unfolding hits
  four_below =
      let f₀ = found 0 (a ∷ b ∷ c ∷ d ∷ []) m.0 in
      let f₁ = found 1 (a ∷ b ∷ c ∷ d ∷ []) m.1.0 in
      let f₂ = found 2 (a ∷ b ∷ c ∷ d ∷ []) m.1.1.0 in
      let f₃ = found 3 (a ∷ b ∷ c ∷ d ∷ []) m.1.1.1.0 in
      let ha = hits_once a in
      let hb = hits_once b in
      let hc = hits_once c in
      let hd = hits_once d in
      (hits_below a (omega arith), (hits_below b (omega arith), (hits_below c (omega arith), (hits_below d (omega arith), tt))))

  differ : a ≡ b → ⊥
  unfolding hits
  differ e =
      let one : (k : ℕ) → Member k (a ∷ b ∷ c ∷ d ∷ []) → 1 ≤ bit (eqb k b) + (bit (eqb k c) + bit (eqb k d)) = λ k h. (let f = found k (a ∷ b ∷ c ∷ d ∷ []) h in let g = ap (λ (x : ℕ). bit (eqb k x)) e in omega arith) in
      let f₀ = one 0 m.0 in
      let f₁ = one 1 m.1.0 in
      let f₂ = one 2 m.1.1.0 in
      let f₃ = one 3 m.1.1.1.0 in
      let hb = hits_once b in
      let hc = hits_once c in
      let hd = hits_once d in
      omega arith

-- ---- places
-- what holds of one of four numbers holds of one of a list that has them
any_four : (P : ℕ → Type 0) (a b c d : ℕ) (xs : List ℕ) → (P a → Any P xs) → (P b → Any P xs) → (P c → Any P xs) → (P d → Any P xs) → Any P (a ∷ b ∷ c ∷ d ∷ []) → Any P xs
any_four P a b c d xs f g h k (inl m) = f m
any_four P a b c d xs f g h k (inr (inl m)) = g m
any_four P a b c d xs f g h k (inr (inr (inl m))) = h m
any_four P a b c d xs f g h k (inr (inr (inr (inl m)))) = k m
any_four P a b c d xs f g h k (inr (inr (inr (inr m)))) = absurd m

sides_to : (xs ys : List ℕ) → ((k : ℕ) → Member k xs → Member k ys) → HasSides xs → HasSides ys
sides_to xs ys f h = all_map (λ k m. f k m) side_numbers h

module _ (a b c d : ℕ) where
  swap01 : HasSides (a ∷ b ∷ c ∷ d ∷ []) → HasSides (b ∷ a ∷ c ∷ d ∷ [])
  swap01 = sides_to (a ∷ b ∷ c ∷ d ∷ []) (b ∷ a ∷ c ∷ d ∷ []) (λ k. any_four (λ (y : ℕ). k ≡ y) a b c d (b ∷ a ∷ c ∷ d ∷ []) (λ e. inr (inl e)) (λ e. inl e) (λ e. inr (inr (inl e))) (λ e. inr (inr (inr (inl e)))))

  swap23 : HasSides (a ∷ b ∷ c ∷ d ∷ []) → HasSides (a ∷ b ∷ d ∷ c ∷ [])
  swap23 = sides_to (a ∷ b ∷ c ∷ d ∷ []) (a ∷ b ∷ d ∷ c ∷ []) (λ k. any_four (λ (y : ℕ). k ≡ y) a b c d (a ∷ b ∷ d ∷ c ∷ []) (λ e. inl e) (λ e. inr (inl e)) (λ e. inr (inr (inr (inl e)))) (λ e. inr (inr (inl e))))

  swap02 : HasSides (a ∷ b ∷ c ∷ d ∷ []) → HasSides (c ∷ b ∷ a ∷ d ∷ [])
  swap02 = sides_to (a ∷ b ∷ c ∷ d ∷ []) (c ∷ b ∷ a ∷ d ∷ []) (λ k. any_four (λ (y : ℕ). k ≡ y) a b c d (c ∷ b ∷ a ∷ d ∷ []) (λ e. inr (inr (inl e))) (λ e. inr (inl e)) (λ e. inl e) (λ e. inr (inr (inr (inl e)))))

  swap13 : HasSides (a ∷ b ∷ c ∷ d ∷ []) → HasSides (a ∷ d ∷ c ∷ b ∷ [])
  swap13 = sides_to (a ∷ b ∷ c ∷ d ∷ []) (a ∷ d ∷ c ∷ b ∷ []) (λ k. any_four (λ (y : ℕ). k ≡ y) a b c d (a ∷ d ∷ c ∷ b ∷ []) (λ e. inl e) (λ e. inr (inr (inr (inl e)))) (λ e. inr (inr (inl e))) (λ e. inr (inl e)))

  swap12 : HasSides (a ∷ b ∷ c ∷ d ∷ []) → HasSides (a ∷ c ∷ b ∷ d ∷ [])
  swap12 = sides_to (a ∷ b ∷ c ∷ d ∷ []) (a ∷ c ∷ b ∷ d ∷ []) (λ k. any_four (λ (y : ℕ). k ≡ y) a b c d (a ∷ c ∷ b ∷ d ∷ []) (λ e. inl e) (λ e. inr (inr (inl e))) (λ e. inr (inl e)) (λ e. inr (inr (inr (inl e)))))

-- neighbours differ
neighbours_differ : (a b c d : ℕ) → HasSides (a ∷ b ∷ c ∷ d ∷ []) → (a ≡ b → ⊥) × (b ≡ c → ⊥) × (c ≡ d → ⊥)
neighbours_differ a b c d m = (
  differ m,
  differ (swap01 c b a d (swap02 a b c d m)),
  differ (swap13 c b a d (swap02 a b c d m)),
)

-- ---- four in order
module _ {L : ℕ} {A B : Trapezoid} (ha : FitFor L A) (hb : FitFor L B) (p : Fraction) (fa fb : Bool) where
  abbrev less : ℕ → ℕ → Bool
  less = number_less A B p fa fb

  pub order_of_four : (a b c d : ℕ) → HasSides (a ∷ b ∷ c ∷ d ∷ []) → T (number_less A B p fa fb a b) → T (number_less A B p fa fb b c) → T (number_less A B p fa fb c d) → a ∷ b ∷ c ∷ d ∷ [] ≡ order_at A B p fa fb
  order_of_four a b c d m ab bc cd =
      order_unique ha hb p fa fb (a ∷ b ∷ c ∷ d ∷ []) ((ab, (ac, (ad, tt))), ((bc, (bd, tt)), ((cd, tt), (tt, tt)))) m (four_below m)
    where
      trans : (i j k : ℕ) → T (less i j) → T (less j k) → T (less i k)
      trans i j k h l = less_trans less (number_ordered ha hb p fa fb) i j k tt tt tt h l

      ac : T (less a c)
      ac = trans a b c ab bc

      bd : T (less b d)
      bd = trans b c d bc cd

      ad : T (less a d)
      ad = trans a b d ab bd

  -- it is enough that none is less than the one before it
  pub order_of_four_at_most : (a b c d : ℕ) → HasSides (a ∷ b ∷ c ∷ d ∷ []) → T (not (number_less A B p fa fb b a)) → T (not (number_less A B p fa fb c b)) → T (not (number_less A B p fa fb d c)) → a ∷ b ∷ c ∷ d ∷ [] ≡ order_at A B p fa fb
  order_of_four_at_most a b c d m ab bc cd =
      let n = neighbours_differ a b c d m in
      order_of_four a b c d m (number_less_lem ha hb p fa fb a b ab n.0) (number_less_lem ha hb p fa fb b c bc n.1) (number_less_lem ha hb p fa fb c d cd n.2)

-- ---- the exchanges
-- to prove something of what an exchange f yields
by_test : (P : Four → Type 0) (f : Bool → Four → Four) (x : Four) (t : Bool) → (T t → P (f true x)) → (T (not t) → P (f false x)) → P (f t x)
by_test P f x true g h = g tt
by_test P f x false g h = h tt

abbrev Sides : Four → Type 0
Sides x = HasSides (four_list x)

module _ (less : ℕ → ℕ → Bool) where
  -- none is lost
  pub network_sides : (x : Four) → HasSides (four_list x) → HasSides (four_list (network less x))
  unfolding network sort01 sort23 sort02 sort13 sort12
  network_sides x m = go12 (sort13 less (sort02 less (sort23 less (sort01 less x)))) (go13 (sort02 less (sort23 less (sort01 less x))) (go02 (sort23 less (sort01 less x)) (go23 (sort01 less x) (go01 x m))))
    where
      go01 : (x : Four) → Sides x → Sides (sort01 less x)
      go01 x m = by_test Sides exchange01 x (less x.second x.first) (λ t. swap01 x.first x.second x.third x.fourth m) (λ t. m)

      go23 : (x : Four) → Sides x → Sides (sort23 less x)
      go23 x m = by_test Sides exchange23 x (less x.fourth x.third) (λ t. swap23 x.first x.second x.third x.fourth m) (λ t. m)

      go02 : (x : Four) → Sides x → Sides (sort02 less x)
      go02 x m = by_test Sides exchange02 x (less x.third x.first) (λ t. swap02 x.first x.second x.third x.fourth m) (λ t. m)

      go13 : (x : Four) → Sides x → Sides (sort13 less x)
      go13 x m = by_test Sides exchange13 x (less x.fourth x.second) (λ t. swap13 x.first x.second x.third x.fourth m) (λ t. m)

      go12 : (x : Four) → Sides x → Sides (sort12 less x)
      go12 x m = by_test Sides exchange12 x (less x.third x.second) (λ t. swap12 x.first x.second x.third x.fourth m) (λ t. m)

  -- ---- what is known after each exchange
  -- the second
  record InPairs (x : Four) : Type 0 where
    low : AtMost less x.first x.second
    high : AtMost less x.third x.fourth

  -- the third: the first is least, and the third is not the greatest
  record LeastFirst (x : Four) : Type 0 where
    second : AtMost less x.first x.second
    third : AtMost less x.first x.third
    fourth : AtMost less x.first x.fourth
    not_last : AtMost less x.third x.second ⊎ AtMost less x.third x.fourth

  -- the fourth: the last is greatest too
  record Ends (x : Four) : Type 0 where
    first_second : AtMost less x.first x.second
    first_third : AtMost less x.first x.third
    second_fourth : AtMost less x.second x.fourth
    third_fourth : AtMost less x.third x.fourth

  -- the last: they are in order
  pub record InOrder (x : Four) : Type 0 where
    pub first_second : AtMost less x.first x.second
    pub second_third : AtMost less x.second x.third
    pub third_fourth : AtMost less x.third x.fourth

  module _ (o : StrictWeakOrder less (λ (i : ℕ). Unit {0})) where
    trans : (i j k : ℕ) → AtMost less i j → AtMost less j k → AtMost less i k
    trans i j k h l = o.transitive i j k tt tt tt h l

    pairs : (x : Four) → InPairs (sort23 less (sort01 less x))
    unfolding sort01 sort23
    pairs x = two (sort01 less x) (by_test (λ (y : Four). AtMost less y.first y.second) exchange01 x (less x.second x.first) (λ t. o.asymmetric x.second x.first t) (λ t. t))
      where
        two : (x : Four) → AtMost less x.first x.second → InPairs (sort23 less x)
        two x h = by_test InPairs exchange23 x (less x.fourth x.third) (λ t. record { low = h; high = o.asymmetric x.fourth x.third t }) (λ t. record { low = h; high = t })

    least : (x : Four) → InPairs x → LeastFirst (sort02 less x)
    unfolding sort02
    least x h =
        by_test LeastFirst exchange02 x (less x.third x.first)
        (λ t.
        let k = o.asymmetric x.third x.first t in
        record { second = trans x.third x.first x.second k h.low; third = k; fourth = h.high; not_last = inl h.low })
        (λ t. record { second = h.low; third = t; fourth = trans x.first x.third x.fourth t h.high; not_last = inr h.high })

    ends : (x : Four) → LeastFirst x → Ends (sort13 less x)
    unfolding sort13
    ends x h =
        by_test Ends exchange13 x (less x.fourth x.second)
        (λ t. let k = o.asymmetric x.fourth x.second t in record { first_second = h.fourth; first_third = h.third; second_fourth = k; third_fourth = elim h.not_last [ inl l ↦ l | inr l ↦ trans x.third x.fourth x.second l k ] })
        (λ t. record { first_second = h.second; first_third = h.third; second_fourth = t; third_fourth = elim h.not_last [ inl l ↦ trans x.third x.second x.fourth l t | inr l ↦ l ] })

    middle : (x : Four) → Ends x → InOrder (sort12 less x)
    unfolding sort12
    middle x h =
        by_test InOrder exchange12 x (less x.third x.second)
        (λ t. record { first_second = h.first_third; second_third = o.asymmetric x.third x.second t; third_fourth = h.second_fourth })
        (λ t. record { first_second = h.first_second; second_third = t; third_fourth = h.third_fourth })

    pub network_order : (x : Four) → InOrder (network less x)
    unfolding network
    network_order x = middle (sort13 less (sort02 less (sort23 less (sort01 less x)))) (ends (sort02 less (sort23 less (sort01 less x))) (least (sort23 less (sort01 less x)) (pairs x)))

-- ---- the network yields the order of the sides
pub network_exact : {L : ℕ} {A B : Trapezoid} → FitFor L A → FitFor L B → (p : Fraction) (fa fb : Bool) (x : Four) → HasSides (four_list x) → four_list (network (number_less A B p fa fb) x) ≡ order_at A B p fa fb
network_exact {L} {A} {B} ha hb p fa fb x m =
    let y = network (number_less A B p fa fb) x in
    let h = network_order (number_less A B p fa fb) (number_ordered ha hb p fa fb) x in
    order_of_four_at_most ha hb p fa fb y.first y.second y.third y.fourth (network_sides (number_less A B p fa fb) x m) h.first_second h.second_third h.third_fourth
