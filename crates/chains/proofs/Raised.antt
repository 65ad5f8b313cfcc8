-- Raised numbers find in a list what the numbers found before `other` was put in after the starting elements.
use mathlib.Core.Path.{◌≡◌, refl, sym, ◌∙◌, ap}
use mathlib.Core.Bool.{Bool, true, false, not}
use mathlib.Core.List.{List, [], ◌∷◌, ◌++◌, append_assoc}
use Prim.Native.Nat.{ℕ, ◌+◌, ◌-◌, ◌<◌, ◌≤◌}
use native.Mathlib.Nat.{not-le_of_lt}
use native.Mathlib.Omega.{arith}
use lib.Dec.{T, ltb, ltb→lt, nltb→le, lt→ltb}
use lib.ListN.{length, get_or, length-append, get_or-append}
use lib.Seq.{get_or-append-add}
use Rattle.lists.proofs.Tests.{same_test}
use Rattle.chains.specs.Chains.{added, raised}

-- ---- numbers of starting elements stay, those past them are raised
raised_starting : (starting count n : ℕ) → n < starting → raised starting count n ≡ n
raised_starting starting count n h = let e : ltb n starting ≡ true = same_test (ltb n starting) true (λ t. tt) (λ t. lt→ltb n starting h) in rw e refl

raised_past : (starting count n : ℕ) → starting ≤ n → raised starting count n ≡ n + count
raised_past starting count n h = let e : ltb n starting ≡ false = same_test (ltb n starting) false (λ t. not-le_of_lt (ltb→lt n starting t) h) (λ t. absurd t) in rw e refl

module _ {A : Type 0} where
  pub added_append : (b : Bool) (xs ys : List A) (x : A) → added b (xs ++ ys) x ≡ xs ++ added b ys x
  added_append true xs ys x = append_assoc xs ys (x ∷ [])
  added_append false xs ys x = refl

  module _ (start other more : List A) (n : ℕ) where
    -- the element with the raised number
    pub raised_at : (d : A) → get_or ((start ++ other) ++ more) (raised (length start) (length other) n) d ≡ get_or (start ++ more) n d
    raised_at d = go (ltb n (length start)) (ltb→lt n (length start)) (nltb→le n (length start))
      where
        go : (b : Bool) → (T b → n < length start) → (T (not b) → length start ≤ n)
            → get_or ((start ++ other) ++ more) (raised (length start) (length other) n) d ≡ get_or (start ++ more) n d
        go true f g =
            let h = f tt in
            let k : n < length (start ++ other) = omega (arith, length-append start other) in
            ap (λ (i : ℕ). get_or ((start ++ other) ++ more) i d) (raised_starting (length start) (length other) n h)
            ∙ get_or-append (start ++ other) more d n k
            ∙ get_or-append start other d n h
            ∙ sym (get_or-append start more d n h)
        go false f g =
            let h = g tt in
            let e : n ≡ length start + (n - length start) = omega arith in
            let l : n + length other ≡ length (start ++ other) + (n - length start) = omega (arith, length-append start other) in
            ap (λ (i : ℕ). get_or ((start ++ other) ++ more) i d) (raised_past (length start) (length other) n h ∙ l)
            ∙ get_or-append-add (start ++ other) more (n - length start) d
            ∙ sym (ap (λ (i : ℕ). get_or (start ++ more) i d) e ∙ get_or-append-add start more (n - length start) d)

    -- it is a number of the list exactly if the number was
    pub raised_in : ltb (raised (length start) (length other) n) (length ((start ++ other) ++ more)) ≡ ltb n (length (start ++ more))
    raised_in = go (ltb n (length start)) (ltb→lt n (length start)) (nltb→le n (length start))
      where
        go : (b : Bool) → (T b → n < length start) → (T (not b) → length start ≤ n)
            → ltb (raised (length start) (length other) n) (length ((start ++ other) ++ more)) ≡ ltb n (length (start ++ more))
        go true f g =
            let h = f tt in
            let k : n < length ((start ++ other) ++ more) = omega (arith, length-append (start ++ other) more, length-append start other) in
            let l : n < length (start ++ more) = omega (arith, length-append start more) in
            ap (λ (i : ℕ). ltb i (length ((start ++ other) ++ more))) (raised_starting (length start) (length other) n h)
            ∙ same_test (ltb n (length ((start ++ other) ++ more))) (ltb n (length (start ++ more)))
            (λ t. lt→ltb n (length (start ++ more)) l)
            (λ t. lt→ltb n (length ((start ++ other) ++ more)) k)
        go false f g =
            ap (λ (i : ℕ). ltb i (length ((start ++ other) ++ more))) (raised_past (length start) (length other) n (g tt))
            ∙ same_test (ltb (n + length other) (length ((start ++ other) ++ more))) (ltb n (length (start ++ more)))
            (λ t.
            let h = ltb→lt (n + length other) (length ((start ++ other) ++ more)) t in
            let l : n < length (start ++ more) = omega (arith, length-append (start ++ other) more, length-append start other, length-append start more) in
            lt→ltb n (length (start ++ more)) l)
            (λ t.
            let h = ltb→lt n (length (start ++ more)) t in
            let k : n + length other < length ((start ++ other) ++ more)
            = omega (arith, length-append (start ++ other) more, length-append start other, length-append start more) in
            lt→ltb (n + length other) (length ((start ++ other) ++ more)) k)
