-- The length of a pair: as it is written, or found where it is left out.
use Rattle.std.specs.Prelude.{Some, None}
use mathlib.Core.Path.{◌≡◌, refl, sym, ap, ◌∙◌}
use mathlib.Core.Bool.{Bool, true, false}
use mathlib.Core.List.{List}
use Prim.Native.Nat.{ℕ, zero, suc, ◌+◌, ◌*◌, ◌/◌, ◌<◌, ◌≤◌}
use native.Mathlib.Omega.{arith}
use lib.IntN.{ℤ, pos, negsuc}
use lib.ListN.{length}
use borrow.Author.Tests.{lt-ltb, le-ltb}
use Rattle.files.specs.declared.Format.{Format}
use Rattle.files.specs.Formats.{word_at}
use Rattle.files.specs.Pairs.{natural_of, count_in, body_of, next_offset, found_length, or_found, length_read}
use Rattle.files.specs.Directory.{number_from}
use Rattle.files.proofs.Numbers.{number, in_range_lem}

-- a length other than 0 is read as it stands
pub not_left_out : (t : Bool) (z found : ℤ) → (z ≡ pos 0 → ⊥) → or_found t z found ≡ z
not_left_out false z found h = refl
not_left_out true (pos zero) found h = absurd (h refl)
not_left_out true (pos (suc n)) found h = refl
not_left_out true (negsuc n) found h = refl

-- whether it is 0, by the number from 0 to 0
pub is_zero : (z : ℤ) {n : ℕ} → number_from 0 0 z ≡ Some n → z ≡ pos 0
is_zero z e = let h = number 0 0 z e in h.is ∙ ap pos (omega (arith, h.high))

pub no_zero : (z : ℤ) → number_from 0 0 z ≡ None → z ≡ pos 0 → ⊥
no_zero z e h = let p = in_range_lem 0 0 z (ap natural_of h) (omega arith) (omega arith) in let q : ◌≡◌ {A = ℕ} 0 1 = cc in omega arith

module _ (f : Format) (ws : List ℤ) (i : ℕ) where
  -- the next offset, or the end of the body
  pub next_there : i + 1 < count_in ws → next_offset f ws i ≡ word_at ws (2 * (i + 1) + 1)
  unfolding next_offset
  next_there l = rw (lt-ltb (i + 1) (count_in ws) l)

  pub next_end : count_in ws ≤ i + 1 → next_offset f ws i ≡ pos (length (body_of ws) / f.unit)
  unfolding next_offset
  next_end l = rw (le-ltb (i + 1) (count_in ws) l)

  -- in a format that leaves none out
  pub length_written : f.found ≡ false → length_read f ws i ≡ word_at ws (2 * i + 2)
  unfolding length_read
  length_written e = rw e

  pub length_there : (word_at ws (2 * i + 2) ≡ pos 0 → ⊥) → length_read f ws i ≡ word_at ws (2 * i + 2)
  unfolding length_read
  length_there h = not_left_out f.found (word_at ws (2 * i + 2)) (found_length f ws i) h

  -- and where it is left out
  pub length_found : f.found ≡ true → word_at ws (2 * i + 2) ≡ pos 0 → length_read f ws i ≡ found_length f ws i
  unfolding length_read
  length_found e h = ap (λ (t : Bool). or_found t (word_at ws (2 * i + 2)) (found_length f ws i)) e ∙ ap (λ (z : ℤ). or_found true z (found_length f ws i)) h
