-- The sizes of the numbers and places of refusals.
use Rattle.std.specs.Prelude.{Option, Some, None, Result, Ok, Err}
use mathlib.Core.Path.{◌≡◌, refl, sym, ap, ◌∙◌}
use mathlib.Core.Bool.{Bool, true, false}
use mathlib.Core.List.{List}
use Prim.Native.Nat.{ℕ, zero, suc, ◌+◌, ◌*◌, ◌-◌, ◌/◌, ◌<◌, ◌≤◌}
use native.Mathlib.Nat.{mul-div_cancel_left}
use native.Mathlib.Omega.{arith}
use lib.Dec.{eqb}
use lib.ListN.{length, length-drop}
use lib.IntN.{ℤ}
use Rattle.lists.proofs.Lists.{all_map}
use Rattle.records.specs.Records.{Codec, count}
use Rattle.records.proofs.Records.{length_from}
use Rattle.geometry.specs.declared.Trapezoid.{Trapezoid}
use Rattle.geometry.specs.Fitness.{first_refusal}
use Rattle.geometry.proofs.Fitness.{layer_exact, fit_more}
use Rattle.files.specs.declared.Format.{Format}
use Rattle.files.specs.Formats.{word_at}
use Rattle.files.specs.Directory.{count_of, pair_length, at_end, after_pair, end_of, pairs_from, directory_by, directory_of, wrong_by, right_with}
use Rattle.files.specs.Pairs.{count_in, body_of, length_read}
use Rattle.files.specs.Contents.{units_of}
use Rattle.files.specs.Rows.{directory_rows, layers_checked}
use Rattle.files.proofs.Walk.{count_is}
use Rattle.files.proofs.Same.{wrong_same}
use Rattle.files.proofs.Right.{IsRight, right, count_in_lem}
use Rattle.geometry.specs.declared.Refusal.{Refusal}
use Rattle.files.specs.declared.Directory.{Directory}

-- ---- rows 5 and 6
module _ (f : Format) (ws : List ℤ) where
  end_bound : (t : Bool) (i before : ℕ) {number place : ℕ} → at_end t i before ≡ wrong_by number place → (number < 256) × (place ≡ i)
  end_bound true i before e = let z : ◌≡◌ {A = ℕ} 0 1 = cc in absurd (omega arith)
  end_bound false i before {number} {place} e = let z = wrong_same {m = 6} {i = i} {n = number} {k = place} e in (omega (arith, z.0), sym z.1)

  pairs_bound : (m i before : ℕ) {number place : ℕ} → pairs_from f ws m i before ≡ wrong_by number place → (number < 256) × (place ≤ i + m)
  unfolding pairs_from end_of
  pairs_bound zero i before e = let h = end_bound (eqb (2 * i + 1 + f.unit * before) (length ws)) i before e in (h.0, omega (arith, h.1))
  pairs_bound (suc m) i before {number} {place} e = go (λ s r. pairs_bound m (i + 1) (before + s) r) (pair_length f before (word_at ws (2 * i + 1)) (length_read f ws i)) e
    where
      go : ((s : ℕ) → pairs_from f ws m (i + 1) (before + s) ≡ wrong_by number place → (number < 256) × (place ≤ i + 1 + m)) → (k : Option ℕ) → after_pair k i (λ (s : ℕ). pairs_from f ws m (i + 1) (before + s)) ≡ wrong_by number place → (number < 256) × (place ≤ i + suc m)
      go rest (Some s) e = let h = rest s e in (h.0, omega (arith, h.1))
      go rest None e =
          let z = wrong_same {m = 6} {i = i} {n = number} {k = place} e in
          (omega (arith, z.0), omega (arith, z.1))

  pub directory_bound : {number place : ℕ} → directory_of f ws ≡ wrong_by number place → (number < 256) × (place ≤ f.count)
  unfolding directory_of
  directory_bound {number} {place} e = go (count_of f ws) refl e
    where
      go : (k : Option ℕ) → count_of f ws ≡ k → directory_by f ws k ≡ wrong_by number place → (number < 256) × (place ≤ f.count)
      go (Some n) p e = let h = pairs_bound n 0 0 e in (h.0, omega (arith, h.1, (count_is f ws p).0.high))
      go None p e =
          let z = wrong_same {m = 5} {i = 0} {n = number} {k = place} e in
          (omega (arith, z.0), omega (arith, z.1))

-- ---- layers
-- that pass rows 5 to 11
pub record Passes (L : ℕ) (f : Format) (C : Codec ℤ Trapezoid) (ws : List ℤ) : Type 0 where
  pub pairs : ℕ
  pub total : ℕ
  pub found : directory_of f ws ≡ right_with pairs total
  pub fit : first_refusal L 0 (units_of C ws) ≡ Ok tt

-- the units of the body, from the number of words and the count
pub units_count : {A : Type 0} (C : Codec ℤ A) (ws : List ℤ) {words n : ℕ} → length ws ≡ words → n ≡ count_in ws → (words - (2 * n + 1)) / C.width ≡ length (units_of C ws)
units_count C ws p q = sym (length_from C (count C (body_of ws)) (body_of ws) 0 ∙ ap (λ (k : ℕ). k / C.width) (length-drop (2 * count_in ws + 1) ws) ∙ (λ j. (p j - (2 * sym q j + 1)) / C.width))

-- the units of the body are the directory's
pub units_are : {A : Type 0} (f : Format) (C : Codec ℤ A) (ws : List ℤ) {n total : ℕ} → C.width ≡ f.unit → 0 < f.unit → IsRight f ws n total → length (units_of C ws) ≡ total
units_are f C ws {n} {total} w p h =
    let l : length (body_of ws) ≡ f.unit * total = length-drop (2 * count_in ws + 1) ws ∙ (let e : length ws - (2 * count_in ws + 1) ≡ f.unit * total = omega (arith, h.end, count_in_lem h) in e) in
    length_from C (count C (body_of ws)) (body_of ws) 0 ∙ (λ j. l j / w j) ∙ mul-div_cancel_left total p

module _ (L : ℕ) (f : Format) (C : Codec ℤ Trapezoid) (ws : List ℤ) where
  pub passes : layers_checked L f C ws ≡ Ok tt → Passes L f C ws
  unfolding layers_checked
  passes e = go (directory_of f ws) refl e
    where
      go : (d : Result Directory Refusal) → directory_of f ws ≡ d → directory_rows d (first_refusal L 0 (units_of C ws)) ≡ Ok tt → Passes L f C ws
      go (Err refusal) p e = let z : ◌≡◌ {A = ℕ} 0 1 = cc in absurd (omega arith)
      go (Ok directory) p e = record { pairs = directory.count; total = directory.total; found = p; fit = e }

  -- under a larger limit too
  pub passes_more : layers_checked L f C ws ≡ Ok tt → (M : ℕ) → L ≤ M → layers_checked M f C ws ≡ Ok tt
  unfolding layers_checked
  passes_more e M l =
      let h = passes e in
      let fit = all_map (λ (t : Trapezoid). fit_more L M t l) (units_of C ws) ((layer_exact L 0 (units_of C ws)).0 h.fit) in
      rw h.found ((layer_exact M 0 (units_of C ws)).1 fit)

  module _ (w : C.width ≡ f.unit) (p : 0 < f.unit) where
    pub units_bound : layers_checked L f C ws ≡ Ok tt → length (units_of C ws) ≤ f.total
    units_bound e = let h = passes e in let r = right f ws h.found in omega (arith, units_are f C ws w p r, r.units)
