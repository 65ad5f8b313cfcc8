-- Positions with names in three arrays.
use mathlib.Core.Path.{◌≡◌, refl, sym, ◌∙◌, ap, subst}
use mathlib.Core.Bool.{Bool, true, false}
use mathlib.Core.List.{List, [], ◌∷◌, map}
use Prim.Native.Nat.{ℕ, zero, suc, ◌+◌, ◌<◌, ◌≤◌}
use native.Mathlib.Omega.{arith}
use lib.ListN.{length, get_or, set, take, drop}
use lib.Seq.{length-take-le, get_or-take, drop-cons, take-set-lt}
use lib.IntN.{ℤ, pos}
use Rattle.integer.specs.Compare.{order_by, order_of}
use Rattle.integer.specs.Fraction.{Fraction, Proper, before, order}
use Rattle.lists.proofs.Lists.{all_at}
use Rattle.geometry.specs.declared.Position.{Position}
use Rattle.geometry.specs.declared.Horizontal.{Horizontal}
use Rattle.geometry.specs.declared.Horizontal.TheVariants as standing
use Rattle.geometry.specs.Standing.{across, horizontal}
use Rattle.geometry.proofs.Standing.{agree_positive}
use Rattle.geometry_code.specs.Code.{fraction_of, SmallPosition}
use Rattle.geometry_code.proofs.Branches.{small_position}
use Rattle.std.specs.Prelude.{Ok, Err}
use Rattle.sorting.specs.Sorted.{inserted, Passed, Front, Same, Lands}
use Rattle.sorting_code.specs.Entries.{Entry, key_of, entry_of, sooner, fractions, zipped, stored, SmallKey, Stored, Room, Grown}
use Rattle.sorting.proofs.Inserting.{drop_past}
use Rattle.sorting.proofs.Merging.{passed_next, merge_before, merge_level, same_within, merged_insert}

-- ---- lists side by side
pub fractions-length : (a b : List ℤ) → length a ≡ length b → length (fractions a b) ≡ length a
fractions-length [] b e = refl
fractions-length (n ∷ a) [] e = absurd (omega arith)
fractions-length (n ∷ a) (d ∷ b) e = ap suc (fractions-length a b (omega arith))

pub fractions-at : (a b : List ℤ) (i : ℕ) (z : Fraction) → i < length a → length a ≡ length b → get_or (fractions a b) i z ≡ record { num = get_or a i (pos 0); den = get_or b i (pos 0) }
fractions-at [] b i z l e = absurd (omega arith)
fractions-at (n ∷ a) [] i z l e = absurd (omega arith)
fractions-at (n ∷ a) (d ∷ b) zero z l e = refl
fractions-at (n ∷ a) (d ∷ b) (suc i) z l e = fractions-at a b i z (omega arith) (omega arith)

pub zipped_keys : (a b : List ℤ) (c : List ℕ) → length a ≡ length b → length a ≡ length c → map key_of (zipped a b c) ≡ fractions a b
zipped_keys [] b c e f = refl
zipped_keys (n ∷ a) [] c e f = refl
zipped_keys (n ∷ a) (d ∷ b) [] e f = absurd (omega arith)
zipped_keys (n ∷ a) (d ∷ b) (m ∷ c) e f = ap (λ (r : List Fraction). record { num = n; den = d } ∷ r) (zipped_keys a b c (omega arith) (omega arith))

pub zipped-length : (a b : List ℤ) (c : List ℕ) → length a ≡ length b → length a ≡ length c → length (zipped a b c) ≡ length a
zipped-length [] b c e f = refl
zipped-length (n ∷ a) [] c e f = absurd (omega arith)
zipped-length (n ∷ a) (d ∷ b) [] e f = absurd (omega arith)
zipped-length (n ∷ a) (d ∷ b) (m ∷ c) e f = ap suc (zipped-length a b c (omega arith) (omega arith))

pub zipped-at : (a b : List ℤ) (c : List ℕ) (i : ℕ) (z : Entry) → i < length a → length a ≡ length b → length a ≡ length c → get_or (zipped a b c) i z ≡ record { num = get_or a i (pos 0); den = get_or b i (pos 0); name = get_or c i 0 }
zipped-at [] b c i z l e f = absurd (omega arith)
zipped-at (n ∷ a) [] c i z l e f = absurd (omega arith)
zipped-at (n ∷ a) (d ∷ b) [] i z l e f = absurd (omega arith)
zipped-at (n ∷ a) (d ∷ b) (m ∷ c) zero z l e f = refl
zipped-at (n ∷ a) (d ∷ b) (m ∷ c) (suc i) z l e f = zipped-at a b c i z (omega arith) (omega arith) (omega arith)

module _ (x y : ℤ) (w : ℕ) where
  abbrev new : Entry
  new = record { num = x; den = y; name = w }

  zipped_inserted : (i : ℕ) (a b : List ℤ) (c : List ℕ) → i ≤ length a → length a ≡ length b → length a ≡ length c → zipped (inserted i x a) (inserted i y b) (inserted i w c) ≡ inserted i new (zipped a b c)
  zipped_inserted zero a b c l e f = refl
  zipped_inserted (suc i) [] b c l e f = absurd (omega arith)
  zipped_inserted (suc i) (n ∷ a) [] c l e f = absurd (omega arith)
  zipped_inserted (suc i) (n ∷ a) (d ∷ b) [] l e f = absurd (omega arith)
  zipped_inserted (suc i) (n ∷ a) (d ∷ b) (m ∷ c) l e f = ap (λ (r : List Entry). record { num = n; den = d; name = m } ∷ r) (zipped_inserted i a b c (omega arith) (omega arith) (omega arith))

  zipped_set : (i : ℕ) (a b : List ℤ) (c : List ℕ) → length a ≡ length b → length a ≡ length c → zipped (set a i x) (set b i y) (set c i w) ≡ set (zipped a b c) i new
  zipped_set i [] b c e f = refl
  zipped_set i (n ∷ a) [] c e f = absurd (omega arith)
  zipped_set i (n ∷ a) (d ∷ b) [] e f = absurd (omega arith)
  zipped_set zero (n ∷ a) (d ∷ b) (m ∷ c) e f = refl
  zipped_set (suc i) (n ∷ a) (d ∷ b) (m ∷ c) e f = ap (λ (r : List Entry). record { num = n; den = d; name = m } ∷ r) (zipped_set i a b c (omega arith) (omega arith))

-- ---- what an answer says of two fractions with positive denominators
module _ (x y : Fraction) (px : Proper x) (py : Proper y) where
  go : (s t : Bool) → before x y ≡ s → before y x ≡ t → (h : Horizontal) → h ≡ across (order_by s t)
      → (h ≡ standing.Left → s ≡ true) × (h ≡ standing.Level → (s ≡ false) × (t ≡ false)) × (h ≡ standing.Right → (s ≡ false) × (t ≡ true))
  go true t e f h d = ((λ k. refl), (λ k. let z : ◌≡◌ {A = ℕ} 0 1 = cc in absurd (omega arith)), (λ k. let z : ◌≡◌ {A = ℕ} 0 1 = cc in absurd (omega arith)))
  go false true e f h d = ((λ k. let z : ◌≡◌ {A = ℕ} 0 1 = cc in absurd (omega arith)), (λ k. let z : ◌≡◌ {A = ℕ} 0 1 = cc in absurd (omega arith)), (λ k. (refl, refl)))
  go false false e f h d = ((λ k. let z : ◌≡◌ {A = ℕ} 0 1 = cc in absurd (omega arith)), (λ k. (refl, refl)), (λ k. let z : ◌≡◌ {A = ℕ} 0 1 = cc in absurd (omega arith)))

  answer_tests : (h : Horizontal) → h ≡ horizontal x y
      → (h ≡ standing.Left → before x y ≡ true) × (h ≡ standing.Level → (before x y ≡ false) × (before y x ≡ false)) × (h ≡ standing.Right → (before x y ≡ false) × (before y x ≡ true))
  unfolding order order_of before
  answer_tests h e = go (before x y) (before y x) refl refl h (e ∙ agree_positive x y px py)

-- ---- finding the place
module _ (n : ℕ) (a b : List ℤ) (p : Position) (h : Stored n a b) where
  abbrev x : Fraction
  x = fraction_of p

  abbrev ys : List Fraction
  ys = fractions (take n a) (take n b)

  n_a : length (take n a) ≡ n
  n_a = length-take-le n a h.nums

  n_b : length (take n b) ≡ n
  n_b = length-take-le n b h.dens

  n_ys : length ys ≡ n
  n_ys = fractions-length (take n a) (take n b) (n_a ∙ sym n_b) ∙ n_a

  module _ (i : ℕ) (k : Passed before x ys i) where
    pub place_end : i ≡ n → Lands before x ys (Err n)
    place_end e = (subst (Passed before x ys) e k, subst (Front before x) (sym (drop_past ys n (omega (arith, n_ys)))) tt)

    module _ (l : i < n) (q : Position) (ea : q.num.v ≡ get_or a i (pos 0)) (eb : q.den.v ≡ get_or b i (pos 0)) where
      here : get_or ys i (fraction_of q) ≡ fraction_of q
      here =
          fractions-at (take n a) (take n b) i (fraction_of q) (omega (arith, n_a)) (n_a ∙ sym n_b)
          ∙ rw (get_or-take n a i (pos 0) l, get_or-take n b i (pos 0) l, ← ea, ← eb)

      first : drop i ys ≡ fraction_of q ∷ drop (suc i) ys
      first = drop-cons ys i (fraction_of q) (omega (arith, n_ys)) ∙ ap (λ (y : Fraction). y ∷ drop (suc i) ys) here

      key : SmallKey (fraction_of q)
      key = subst SmallKey here (all_at SmallKey ys i (fraction_of q) h.small (omega (arith, n_ys)))

      pub place_small : SmallPosition q
      place_small = small_position key.num_small key.den_small key.proper

      module _ (small : SmallPosition p) (o : Horizontal) (e : o ≡ horizontal x (fraction_of q)) where
        pub place_before : o ≡ standing.Left → Lands before x ys (Err i)
        place_before f = (k, subst (Front before x) (sym first) ((answer_tests x (fraction_of q) small.proper key.proper o e).0 f))

        pub place_level : o ≡ standing.Level → Lands before x ys (Ok i)
        place_level f = (k, subst (Same before x) (sym first) ((answer_tests x (fraction_of q) small.proper key.proper o e).1 f))

        pub place_next : o ≡ standing.Right → Passed before x ys (i + 1)
        place_next f =
            let t = (answer_tests x (fraction_of q) small.proper key.proper o e).2 f in
            passed_next before x ys i (fraction_of q) k (omega (arith, n_ys)) (ap (before x) here ∙ t.0) (ap (λ (y : Fraction). before y x) here ∙ t.1)

-- ---- putting it there
module _ (n : ℕ) (a b : List ℤ) (c : List ℕ) (p : Position) (m : ℕ) (h : Stored n a b) (s : Room n a b c) where
  m_a : length (take n a) ≡ n
  m_a = length-take-le n a h.nums

  m_b : length (take n b) ≡ n
  m_b = length-take-le n b h.dens

  m_c : length (take n c) ≡ n
  m_c = length-take-le n c (omega (arith, s.names))

  keys : fractions (take n a) (take n b) ≡ map key_of (stored n a b c)
  keys = sym (zipped_keys (take n a) (take n b) (take n c) (m_a ∙ sym m_b) (m_a ∙ sym m_c))

  m_keys : length (fractions (take n a) (take n b)) ≡ n
  m_keys = n_ys n a b p h

  module _ (i : ℕ) (lands : Lands before (fraction_of p) (fractions (take n a) (take n b)) (Err i)) where
    pub before_within : i ≤ n
    before_within = omega (arith, lands.0.upto, m_keys)

    pub grown_before : (a' b' : List ℤ) (c' : List ℕ) → take (n + 1) a' ≡ inserted i p.num.v (take n a) → take (n + 1) b' ≡ inserted i p.den.v (take n b) → take (n + 1) c' ≡ inserted i m (take n c)
        → Grown n a b c (entry_of p m) (n + 1) a' b' c'
    grown_before a' b' c' ea eb ec =
        let l = subst (λ (ys : List Fraction). Passed before (fraction_of p) ys i × Front before (fraction_of p) (drop i ys)) keys lands in
        record {
          is = rw (ea, eb, ec) (zipped_inserted p.num.v p.den.v m i (take n a) (take n b) (take n c) (omega (arith, before_within, m_a)) (m_a ∙ sym m_b) (m_a ∙ sym m_c))
              ∙ sym (merge_before key_of before (λ (a b : Entry). a) (entry_of p m) (stored n a b c) i l.0 l.1)
              ∙ merged_insert sooner (entry_of p m) (stored n a b c);
          upto = omega arith;
        }

  module _ (i : ℕ) (level_lands : Lands before (fraction_of p) (fractions (take n a) (take n b)) (Ok i)) where
    pub level_within : i < n
    level_within = let w = same_within {A = Fraction} (λ (y : Fraction). y) before (λ (a b : Fraction). a) (fraction_of p) (fractions (take n a) (take n b)) (fraction_of p) i level_lands.1 in omega (arith, w, m_keys)

    pub grown_level : (a' b' : List ℤ) (c' : List ℕ) → a' ≡ set a i p.num.v → b' ≡ set b i p.den.v → c' ≡ set c i m → Grown n a b c (entry_of p m) n a' b' c'
    grown_level a' b' c' ea eb ec =
        let l = subst (λ (ys : List Fraction). Passed before (fraction_of p) ys i × Same before (fraction_of p) (drop i ys)) keys level_lands in
        record {
          is = rw (ea, eb, ec, take-set-lt n a i p.num.v level_within, take-set-lt n b i p.den.v level_within, take-set-lt n c i m level_within)
              (zipped_set p.num.v p.den.v m i (take n a) (take n b) (take n c) (m_a ∙ sym m_b) (m_a ∙ sym m_c))
              ∙ sym (merge_level key_of before (λ (a b : Entry). a) (entry_of p m) (stored n a b c) i (entry_of p m) l.0 l.1)
              ∙ merged_insert sooner (entry_of p m) (stored n a b c);
          upto = omega arith;
        }
