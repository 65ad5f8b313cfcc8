-- The numbers that are their own, and the different numbers of a list.
use mathlib.Core.Path.{◌≡◌, refl, sym, ◌∙◌, ap, subst}
use mathlib.Core.Bool.{Bool, true, false}
use mathlib.Core.List.{List, [], ◌∷◌}
use mathlib.Core.Logic.{inl, inr}
use Prim.Native.Nat.{ℕ, zero, suc, ◌<◌}
use native.Mathlib.Omega.{arith}
use lib.Dec.{T, eqb, eqb→eq, eqb_refl}
use lib.ListN.{length}
use Rattle.lists.specs.Lists.{Any, Pairs}
use Rattle.lists.proofs.Lists.{not_any}
use Rattle.connectivity.specs.Components.{number_at, cons_if, owners, Different}
use Rattle.connectivity.proofs.Joining.{same_or_not, less_than}

-- ---- a list's elements by their places
pub entry_at : (ns : List ℕ) (i : ℕ) → i < length ns → Any (λ (m : ℕ). number_at ns i ≡ m) ns
entry_at [] i h = absurd (omega arith)
entry_at (n ∷ ns) zero h = inl refl
entry_at (n ∷ ns) (suc i) h = inr (entry_at ns i (omega arith))

entry_from : (k : ℕ) (ns : List ℕ) → Any (λ (m : ℕ). k ≡ m) ns → (i : ℕ) × (i < length ns) × (k ≡ number_at ns i)
entry_from k [] h = absurd h
entry_from k (n ∷ ns) (inl e) = (0, omega arith, e)
entry_from k (n ∷ ns) (inr h) = let r = entry_from k ns h in let l = r.1 in (suc r.0, omega arith, r.2)

-- ---- the owners
module _ (ns : List ℕ) where
  owner_in : (m k : ℕ) → k < m → number_at ns k ≡ k → Any (λ (x : ℕ). k ≡ x) (owners ns m)
  unfolding owners
  owner_in zero k h e = absurd (omega arith)
  owner_in (suc m) k h e = elim (same_or_not k m) [ inl f ↦ here (eqb (number_at ns m) m) f refl | inr d ↦ there (eqb (number_at ns m) m) (owner_in m k (less_than k m h d) e) ]
    where
      here : (b : Bool) → k ≡ m → eqb (number_at ns m) m ≡ b → Any (λ (x : ℕ). k ≡ x) (cons_if b m (owners ns m))
      here true f g = inl f
      here false f g = let z : number_at ns m ≡ m = ap (number_at ns) (sym f) ∙ e ∙ f in absurd (subst T g (subst (λ (x : ℕ). T (eqb x m)) (sym z) (eqb_refl m)))

      there : (b : Bool) → Any (λ (x : ℕ). k ≡ x) (owners ns m) → Any (λ (x : ℕ). k ≡ x) (cons_if b m (owners ns m))
      there true a = inr a
      there false a = a

  owner_out : (m k : ℕ) → Any (λ (x : ℕ). k ≡ x) (owners ns m) → (k < m) × (number_at ns k ≡ k)
  unfolding owners
  owner_out zero k h = absurd h
  owner_out (suc m) k h = go (eqb (number_at ns m) m) refl (λ a. let r = owner_out m k a in let l = r.0 in (omega arith, r.1)) h
    where
      go : (b : Bool) → eqb (number_at ns m) m ≡ b → (Any (λ (x : ℕ). k ≡ x) (owners ns m) → (k < suc m) × (number_at ns k ≡ k)) → Any (λ (x : ℕ). k ≡ x) (cons_if b m (owners ns m)) → (k < suc m) × (number_at ns k ≡ k)
      go true e past (inl f) = (omega (arith, f), ap (number_at ns) f ∙ eqb→eq (number_at ns m) m (subst T (sym e) tt) ∙ sym f)
      go true e past (inr a) = past a
      go false e past a = past a

  owners_apart : (m : ℕ) → Pairs (λ (a b : ℕ). a ≡ b → ⊥) (owners ns m)
  unfolding owners
  owners_apart zero = tt
  owners_apart (suc m) = go (eqb (number_at ns m) m) (owners_apart m)
    where
      go : (b : Bool) → Pairs (λ (a b : ℕ). a ≡ b → ⊥) (owners ns m) → Pairs (λ (a b : ℕ). a ≡ b → ⊥) (cons_if b m (owners ns m))
      go true h = (not_any (λ (k : ℕ). m ≡ k) (owners ns m) (λ a. let l = (owner_out m m a).0 in omega arith), h)
      go false h = h

  -- where each number is its own number's, the owners are the different numbers
  pub owners_different : (n : ℕ) → length ns ≡ n → ((i : ℕ) → i < n → (number_at ns i < n) × (number_at ns (number_at ns i) ≡ number_at ns i)) → Different ns (length (owners ns n))
  owners_different n e h =
      record {
        list = owners ns n;
        apart = owners_apart n;
        all = λ k. (
          (λ a. let r = owner_out n k a in let l = r.0 in subst (λ (x : ℕ). Any (λ (m : ℕ). x ≡ m) ns) r.1 (entry_at ns k (omega (arith, e)))),
          (λ a. let r = entry_from k ns a in let l = r.1 in let s = h r.0 (omega (arith, e)) in subst (λ (x : ℕ). Any (λ (m : ℕ). x ≡ m) (owners ns n)) (sym r.2) (owner_in n (number_at ns r.0) s.0 s.1)),
        );
        many = refl;
      }
