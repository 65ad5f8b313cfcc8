-- Events found again by their names.
use mathlib.Core.Path.{◌≡◌, refl, sym, ◌∙◌, ap}
use mathlib.Core.Bool.{true, false}
use mathlib.Core.List.{List}
use Prim.Native.Nat.{ℕ, ◌/◌, ◌%◌, ◌<◌, ◌≤◌}
use native.Mathlib.Omega.{arith}
use native.Mathlib.Nat.{div-lt_iff_lt-mul, mod-lt}
use lib.Dec.{ltb}
use lib.IntN.{ℤ, pos, nat_abs}
use borrow.Author.Tests.{lt-ltb, le-ltb}
use Rattle.integer.specs.declared.Int.{Int}
use Rattle.geometry.specs.declared.Line.{Line}
use Rattle.geometry.specs.declared.Base.{Base}
use Rattle.geometry.specs.Positions.{position}
use Rattle.sweep.specs.declared.Event.{Event}
use Rattle.geometry_code.specs.Code.{fraction_of}
use Rattle.geometry_code.proofs.Branches.{small_position}
use Rattle.sorting_code.specs.Entries.{Entry}
use Rattle.polygon_edges_code.specs.Edges.{line_number}
use Rattle.polygon_events_code.specs.Code.{EventOf, MarkOf, base_of}
use Rattle.stored_events_code.specs.Events.{named, Valid}

abbrev named_by : ℤ → ℕ → Entry
named_by x id = record { num = x; den = pos 1; name = id }

pub high_below : (id : ℕ) → id < 1024 → id / 32 < 32
high_below id l = (div-lt_iff_lt-mul {k = 32} {x = id} {y = 32} (omega arith)).1 l

pub low_below : (id : ℕ) → id % 32 < 32
low_below id = mod-lt id {m = 32} (omega arith)

module _ (L : ℕ) (ls : List ℤ) (x : ℤ) (id : ℕ) where
  pub name_pair : (l m : Line) → l ≡ line_number ls (id / 32) → m ≡ line_number ls (id % 32) → id < 1024 → base_of l m ≡ named L ls (named_by x id)
  unfolding named
  name_pair l m el em lt = let t : ltb id 1024 ≡ true = lt-ltb id 1024 lt in rw (t, el, em)

  pub name_single : (e : Event) → MarkOf L x e → 1024 ≤ id → e.base ≡ named L ls (named_by x id)
  unfolding named
  name_single e m l = let t : ltb id 1024 ≡ false = le-ltb id 1024 l in rw t m.base

-- the denominator does not matter
name_any : (L : ℕ) (ls : List ℤ) (x y z : ℤ) (id : ℕ) → named L ls (record { num = x; den = y; name = id }) ≡ named L ls (record { num = x; den = z; name = id })
unfolding named
name_any L ls x y z id = refl

module _ (L : ℕ) (ls : List ℤ) (e : Entry) (h : Valid L ls e) where
  pub event_asks : (x : Int) (id : ℕ) → x.v ≡ e.num → id ≡ e.name → 1024 ≤ id → nat_abs x.v ≤ L
  event_asks x id ex ei l = rw ex (h.within (omega (arith, l, ei)))

  pub event_found : (x y : Int) (id : ℕ) → x.v ≡ e.num → y.v ≡ e.den → id ≡ e.name → (b : Base) → b ≡ named L ls (named_by x.v id) → (r : Event) → r.base ≡ b → r.at ≡ record { num = x; den = y } → (r.base ≡ named L ls e) × EventOf r
  event_found x y id ex ey ei b eb r er ea =
      let n : r.base ≡ named L ls e = er ∙ eb ∙ rw (ex, ei) (name_any L ls e.num (pos 1) e.den e.name) in (
        n,
        record {
          is = ap fraction_of ea ∙ rw (ex, ey) h.is ∙ ap position (sym n);
          small = rw ea (small_position (rw ex h.small.num_small) (rw ey h.small.den_small) (rw ey h.small.proper));
        },
      )
