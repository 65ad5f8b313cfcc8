-- Entry number i, entries that name the levels of a list, and one more of them.
use mathlib.Core.Path.{◌≡◌, refl, sym, ◌∙◌, ap, ap₂, subst}
use mathlib.Core.List.{List, [], ◌∷◌, map}
use Prim.Native.Nat.{ℕ, zero, suc, ◌<◌, ◌≤◌}
use native.Mathlib.Omega.{arith}
use lib.ListN.{length, get_or, take, drop, length-map}
use lib.Seq.{length-take-le, get_or-take, drop-cons}
use lib.IntN.{ℤ, pos}
use Rattle.lists.specs.Lists.{All}
use Rattle.lists.proofs.Lists.{all_at, all_map}
use Rattle.integer.specs.Fraction.{Fraction, before}
use Rattle.levels.specs.Levels.{insert, levels}
use Rattle.sweep.specs.Sweep.{earlier}
use Rattle.levels.proofs.Laws.{insert_all}
use Rattle.sorting.proofs.Merging.{insert_map}
use Rattle.sorting_code.specs.Entries.{Entry, key_of, sooner, stored, entry_at, SmallKey, Stored, Stands, Names, Grown}
use Rattle.sorting_code.proofs.Entries.{zipped_keys, zipped-length, zipped-at}

all_of_map : {A B : Type 0} (f : A → B) (P : B → Type 0) (xs : List A) → All (λ (x : A). P (f x)) xs → All P (map f xs)
all_of_map f P [] h = tt
all_of_map f P (x ∷ xs) h = (h.0, all_of_map f P xs h.1)

map_at : {A B : Type 0} (f : A → B) (xs : List A) (i : ℕ) (d : A) → i < length xs → get_or (map f xs) i (f d) ≡ f (get_or xs i d)
map_at f [] i d l = absurd (omega arith)
map_at f (x ∷ xs) zero d l = refl
map_at f (x ∷ xs) (suc i) d l = map_at f xs i d (omega arith)

-- ---- entry number i
module _ (n : ℕ) (a b : List ℤ) (c : List ℕ) (la : n ≤ length a) (lb : n ≤ length b) (lc : n ≤ length c) where
  n_a : length (take n a) ≡ n
  n_a = length-take-le n a la

  n_b : length (take n b) ≡ n
  n_b = length-take-le n b lb

  n_c : length (take n c) ≡ n
  n_c = length-take-le n c lc

  pub stored_length : length (stored n a b c) ≡ n
  stored_length = zipped-length (take n a) (take n b) (take n c) (n_a ∙ sym n_b) (n_a ∙ sym n_c) ∙ n_a

  pub stored_at : (i : ℕ) (z : Entry) → i < n → get_or (stored n a b c) i z ≡ entry_at a b c i
  stored_at i z l =
      zipped-at (take n a) (take n b) (take n c) i z (omega (arith, n_a)) (n_a ∙ sym n_b) (n_a ∙ sym n_c)
      ∙ rw (get_or-take n a i (pos 0) l, get_or-take n b i (pos 0) l, get_or-take n c i 0 l)

  -- they can be compared
  pub small_stored : All (λ (e : Entry). SmallKey (key_of e)) (stored n a b c) → Stored n a b
  small_stored h = record { nums = la; dens = lb; small = subst (All SmallKey) (zipped_keys (take n a) (take n b) (take n c) (n_a ∙ sym n_b) (n_a ∙ sym n_c)) (all_of_map key_of SmallKey (stored n a b c) h) }

  -- what holds of all
  pub holds_at : (P : Entry → Type 0) → All P (stored n a b c) → (i : ℕ) → i < n → P (entry_at a b c i)
  holds_at P h i l = subst P (stored_at i (entry_at a b c i) l) (all_at P (stored n a b c) i (entry_at a b c i) h (omega (arith, stored_length)))

  -- what they name
  module _ {K : Type 0} (name : Entry → K) where
    pub names_length : length (map name (stored n a b c)) ≡ n
    names_length = length-map (stored n a b c) name ∙ stored_length

    pub names_at : (i : ℕ) → i < n → drop i (map name (stored n a b c)) ≡ name (entry_at a b c i) ∷ drop (suc i) (map name (stored n a b c))
    names_at i l =
        let e = entry_at a b c i in
        drop-cons (map name (stored n a b c)) i (name e) (omega (arith, names_length))
        ∙ ap (λ (k : K). k ∷ drop (suc i) (map name (stored n a b c))) (map_at name (stored n a b c) i e (omega (arith, stored_length)) ∙ ap name (stored_at i e l))

module _ {K : Type 0} (position : K → Fraction) (name : Entry → K) where
  -- no entries
  pub none_named : (a b : List ℤ) (c : List ℕ) → Names position name [] 0 a b c
  none_named a b c = record { is = unfold levels in refl; stand = tt }

  module _ (ks : List K) (n : ℕ) (a b : List ℤ) (c : List ℕ) (h : Names position name ks n a b c) where
    -- they can be compared
    pub named_stored : n ≤ length a → n ≤ length b → n ≤ length c → Stored n a b
    named_stored la lb lc = small_stored n a b c la lb lc (all_map (λ e s. s.small) (stored n a b c) h.stand)

    -- one more
    pub named_more : (e : Entry) → Stands position name e → (r : ℕ) (a' b' : List ℤ) (c' : List ℕ) → Grown n a b c e r a' b' c' → Names position name (name e ∷ ks) r a' b' c'
    unfolding levels
    named_more e s r a' b' c' g =
        record {
          is = ap (map name) g.is
              ∙ insert_map name sooner (earlier position) (Stands position name) (λ x y p q. ap₂ before (sym p.is) (sym q.is)) e (stored n a b c) s h.stand
              ∙ ap (insert (earlier position) (name e)) h.is;
          stand = subst (All (Stands position name)) (sym g.is) (insert_all sooner (Stands position name) e (stored n a b c) s h.stand);
        }
