-- One event more in the arrays, and the names of crossings and marks.
use mathlib.Core.Path.{◌≡◌, refl, sym, ◌∙◌, ap}
use mathlib.Core.Bool.{true}
use mathlib.Core.List.{List, ◌∷◌, map}
use Prim.Native.Nat.{ℕ, suc, ◌+◌, ◌*◌, ◌/◌, ◌%◌, ◌<◌, ◌≤◌}
use native.Mathlib.Omega.{arith}
use native.Mathlib.Nat.{mul-add-div, mul-add-mod_self_left, mod-eq_of_lt, div-eq_of_lt, add-zero}
use lib.Dec.{ltb}
use lib.ListN.{length, drop, length-map}
use lib.IntN.{ℤ, nat_abs}
use borrow.Author.Tests.{lt-ltb}
use Rattle.lists.proofs.Lists.{all_map}
use Rattle.integer.specs.Fraction.{Fraction}
use Rattle.levels.specs.Levels.{levels}
use Rattle.levels.proofs.Laws.{insert_all, levels_length}
use Rattle.geometry.specs.declared.Base.{Base}
use Rattle.geometry.specs.declared.Position.{Position}
use Rattle.geometry.specs.Positions.{position}
use Rattle.sweep.specs.Sweep.{earlier}
use Rattle.sorting.proofs.Merging.{insert_map}
use Rattle.fracture.specs.Polygons.{whole}
use Rattle.fracture.specs.Fracture.{mark}
use Rattle.fracture.proofs.Marks.{mark-position}
use Rattle.geometry_code.specs.Code.{fraction_of, SmallPosition, PositionOf}
use Rattle.sorting_code.specs.Entries.{Entry, entry_of, sooner, stored, entry_at, SmallKey, Stored, Room, Grown}
use Rattle.sorting_code.proofs.Naming.{stored_length, small_stored, holds_at, names_at}
use Rattle.polygon_edges_code.specs.Edges.{line_number}
use Rattle.polygon_events_code.specs.Code.{PlacedAt, base_of}
use Rattle.stored_events_code.specs.Events.{named, Valid, Wide, Listed, Events}

-- ---- one more
module _ {L : ℕ} {ls : List ℤ} {n : ℕ} {a b : List ℤ} {c : List ℕ} (h : Listed L ls n a b c) where
  la : n ≤ length a
  la = omega (arith, h.few, h.wide.nums)

  lb : n ≤ length b
  lb = omega (arith, h.few, h.wide.dens)

  lc : n ≤ length c
  lc = omega (arith, h.few, h.wide.names)

  pub listed_count : length (stored n a b c) ≡ n
  listed_count = stored_length n a b c la lb lc

  pub listed_stored : Stored n a b
  listed_stored = small_stored n a b c la lb lc (all_map (λ e k. k.small) (stored n a b c) h.valid)

  pub listed_valid : (i : ℕ) → i < n → Valid L ls (entry_at a b c i)
  listed_valid i l = holds_at n a b c la lb lc (Valid L ls) h.valid i l

  pub listed_next : (i : ℕ) → i < n → drop i (map (named L ls) (stored n a b c)) ≡ named L ls (entry_at a b c i) ∷ drop (suc i) (map (named L ls) (stored n a b c))
  listed_next i l = names_at n a b c la lb lc (named L ls) i l

module _ {L : ℕ} {ls : List ℤ} {ks : List Base} {n : ℕ} {a b : List ℤ} {c : List ℕ} (h : Events L ls ks n a b c) where
  upto : n ≤ length ks
  upto = let k = levels_length (earlier position) ks in let e = length-map (stored n a b c) (named L ls) in omega (arith, ap length h.is, e, listed_count h.listed, k)

  pub events_room : length ks < 528 → Room n a b c
  events_room l = let w = h.listed.wide in record { nums = omega (arith, upto, w.nums); dens = omega (arith, upto, w.dens); names = omega (arith, upto, w.names) }

  agree : (e f : Entry) → Valid L ls e → Valid L ls f → earlier position (named L ls e) (named L ls f) ≡ sooner e f
  agree e f he hf = rw (← he.is, ← hf.is)

  pub events_grow : (k : Base) (e : Entry) (r : ℕ) (a' b' : List ℤ) (c' : List ℕ) → length ks < 528 → Grown n a b c e r a' b' c' → Wide a' b' c' → Valid L ls e → named L ls e ≡ k → Events L ls (k ∷ ks) r a' b' c'
  unfolding levels
  events_grow k e r a' b' c' l g w ve d =
      record {
        is = ap (map (named L ls)) g.is ∙ insert_map (named L ls) sooner (earlier position) (Valid L ls) agree e (stored n a b c) ve h.listed.valid ∙ rw (d, h.is);
        listed = record {
          valid = rw g.is (insert_all sooner (Valid L ls) e (stored n a b c) ve h.listed.valid);
          wide = w;
          few = omega (arith, g.upto, upto);
        };
      }

-- ---- names
small_key : (p : Position) → SmallPosition p → SmallKey (fraction_of p)
small_key p h = record { num_small = h.comparable.num_small; den_small = h.comparable.den_small; proper = h.proper }

module _ (L : ℕ) (ls : List ℤ) where
  pub name_cross : (i j : ℕ) (e : Entry) → i < 32 → j < 32 → e.name ≡ 32 * i + j → named L ls e ≡ base_of (line_number ls i) (line_number ls j)
  unfolding named
  name_cross i j e li lj d =
      let t : ltb e.name 1024 ≡ true = lt-ltb e.name 1024 (omega (arith, d)) in
      let q : e.name / 32 ≡ i = ap (λ (m : ℕ). m / 32) d ∙ mul-add-div {m = 32} (omega arith) i j ∙ ap (λ (m : ℕ). i + m) (div-eq_of_lt lj) ∙ add-zero i in
      let r : e.name % 32 ≡ j = ap (λ (m : ℕ). m % 32) d ∙ mul-add-mod_self_left 32 i j ∙ mod-eq_of_lt lj in
      rw (t, q, r)

  name_mark : (e : Entry) → e.name ≡ 1024 → named L ls e ≡ mark L e.num
  unfolding named
  name_mark e d = rw d

  pub valid_cross : (i j : ℕ) (p : Position) (id : ℕ) → i < 32 → j < 32 → id ≡ 32 * i + j → PositionOf (base_of (line_number ls i) (line_number ls j)) p → Valid L ls (entry_of p id)
  valid_cross i j p id li lj d k =
      record {
        is = k.is ∙ ap position (sym (name_cross i j (entry_of p id) li lj d));
        small = small_key p k.small;
        within = λ w. absurd (omega (arith, w, d));
      }

  pub valid_mark : (x : ℤ) (p : Position) → nat_abs x ≤ L → PlacedAt (whole x) p → (named L ls (entry_of p 1024) ≡ mark L x) × Valid L ls (entry_of p 1024)
  valid_mark x p l k =
      let d : p.num.v ≡ x = ap (λ (f : Fraction). f.num) k.is in
      let e : named L ls (entry_of p 1024) ≡ mark L x = name_mark (entry_of p 1024) refl ∙ ap (mark L) d in (
        e,
        record {
          is = k.is ∙ sym (mark-position L x) ∙ ap position (sym e);
          small = small_key p k.small;
          within = λ w. rw d l;
        },
      )
