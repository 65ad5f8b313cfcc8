-- The length of a pair, found from the offsets where it is left out: what holds of the numbers that the functions work out.
use Rattle.std.specs.Prelude.{Option, Some, not}
use Rattle.std.specs.Option.{option_eq}
use mathlib.Core.Path.{◌≡◌, refl, sym, ap, ◌∙◌}
use mathlib.Core.Bool.{Bool, true, false}
use mathlib.Core.List.{List}
use Prim.Native.Nat.{ℕ, ◌+◌, ◌*◌, ◌-◌, ◌/◌, ◌<◌, ◌≤◌}
use native.Mathlib.Nat.{lt_of_le_of_lt, div-le_self}
use native.Mathlib.Omega.{arith}
use lib.IntN.{ℤ, pos, negsuc}
use lib.Dec.{eqb}
use borrow.Author.Tests.{eqb-true}
use lib.ListN.{length, length-drop}
use mir.Syntax.{w64}
use mir.Val.{SFits}
use Rattle.integer.specs.Integer.{◌⊖◌, limit64}
use Rattle.files.specs.declared.Format.{Format}
use Rattle.files.specs.Formats.{file_words, word_at}
use Rattle.files.specs.Pairs.{natural_of, count_in, body_of, next_offset, length_read}
use Rattle.files.specs.Directory.{HasPairs}
use Rattle.files.proofs.Lengths.{next_there, next_end, length_written, length_there, length_found}
use Rattle.files.proofs.Right.{right, count_in_lem, in_file}
use Rattle.directory_code.specs.Code.{Complete, Paired}

-- rows 5 and 6 let n pairs pass
pub paired : {f : Format} (bs : List ℕ) {n : ℕ} → f.count ≤ 64 → HasPairs f (file_words bs) n → Paired bs n
paired {f} bs l h = let r = right f (file_words bs) h.is in record { is = count_in_lem r; few = omega (arith, r.most); complete = in_file bs r }

-- units as a signed word
pub units_fit : (words unit : ℕ) → words < limit64 → SFits w64 (pos (words / unit))
units_fit words unit l = record { sfits = lt_of_le_of_lt (div-le_self words unit) l }

module _ (f : Format) {ws : List ℤ} {size n : ℕ} (h : Complete ws size n) (i : ℕ) where
  abbrev units : ℕ
  units = (size - (2 * n + 1)) / f.unit

  -- the next offset was read, or the units of the body were counted
  pub next_read : i + 1 < n → {z : ℤ} → z ≡ word_at ws (2 * (i + 1) + 1) → z ≡ next_offset f ws i
  next_read l e = e ∙ sym (next_there f ws i (omega (arith, h.is)))

  pub end_counted : length ws ≡ size → n ≤ i + 1 → {z : ℤ} → z ≡ pos units → z ≡ next_offset f ws i
  end_counted k l {z} e =
      let b : length (body_of ws) ≡ size - (2 * n + 1) = omega (arith, length-drop (2 * count_in ws + 1) ws, h.is) in
      e ∙ ap (λ (k : ℕ). pos (k / f.unit)) (sym b) ∙ sym (next_end f ws i (omega (arith, h.is)))

-- ---- whether a length is 0, as the code tests it
not_zero : (z : ℤ) (k : Option ℕ) → k ≡ natural_of z → not (option_eq eqb k (Some 0)) ≡ true → z ≡ pos 0 → ⊥
not_zero z k p t q = let e : k ≡ Some 0 = p ∙ ap natural_of q in let u = ap (λ (o : Option ℕ). not (option_eq eqb o (Some 0))) e in let w : true ≡ false = cc in let x : ◌≡◌ {A = ℕ} 0 1 = cc in omega arith

is_zero : (z : ℤ) (k : Option ℕ) → k ≡ natural_of z → not (option_eq eqb k (Some 0)) ≡ false → z ≡ pos 0
is_zero (pos n) k p t = go n (eqb n 0) refl (sym (ap (λ (o : Option ℕ). not (option_eq eqb o (Some 0))) p) ∙ t)
  where
    go : (n : ℕ) (b : Bool) → eqb n 0 ≡ b → not (eqb n 0) ≡ false → pos n ≡ pos 0
    go n true e t = ap pos (eqb-true n 0 e)
    go n false e t = let x : ◌≡◌ {A = ℕ} 0 1 = cc in absurd (omega arith)
is_zero (negsuc n) k p t = let u = ap (λ (o : Option ℕ). not (option_eq eqb o (Some 0))) p in let x : ◌≡◌ {A = ℕ} 0 1 = cc in absurd (omega arith)

-- ---- the length as it was read, and as it was found
module _ (f : Format) (ws : List ℤ) (i : ℕ) {len : ℤ} (e : len ≡ word_at ws (2 * i + 2)) where
  pub read_written : f.found ≡ false → len ≡ length_read f ws i
  read_written p = e ∙ sym (length_written f ws i p)

  module _ {k : Option ℕ} (q : k ≡ natural_of len) where
    pub read_there : not (option_eq eqb k (Some 0)) ≡ true → len ≡ length_read f ws i
    read_there p = e ∙ sym (length_there f ws i (λ z. not_zero len k q p (e ∙ z)))

    pub read_found : f.found ≡ true → not (option_eq eqb k (Some 0)) ≡ false → {next offset : ℤ} → next ≡ next_offset f ws i → offset ≡ word_at ws (2 * i + 1) → next ⊖ offset ≡ length_read f ws i
    read_found t p r s = (λ j. r j ⊖ s j) ∙ sym (length_found f ws i t (sym e ∙ is_zero len k q p))
