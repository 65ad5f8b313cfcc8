-- The loop over the pairs of a directory: what holds before each pair, that a turn keeps it, and what it says at each way out.
use Rattle.std.specs.Prelude.{Some, None}
use mathlib.Core.Path.{◌≡◌, sym, ap, ◌∙◌}
use mathlib.Core.List.{List}
use Prim.Native.Nat.{ℕ, suc, ◌+◌, ◌*◌, ◌-◌, ◌<◌, ◌≤◌}
use native.Mathlib.Omega.{arith}
use lib.ListN.{length}
use lib.IntN.{ℤ}
use Rattle.files.specs.declared.Format.{Format}
use Rattle.files.specs.Formats.{word_at}
use Rattle.files.specs.Pairs.{length_read}
use Rattle.files.specs.Directory.{pair_length, end_of, pairs_from, wrong_by}
use Rattle.files.proofs.Walk.{pair}

-- ---- the loop: the first i pairs are right, and the rest decides
pub record Walking (f : Format) (ws : List ℤ) (n i total : ℕ) : Type 0 where
  pub same : pairs_from f ws n 0 0 ≡ pairs_from f ws (n - i) i total
  pub upto : i ≤ n
  pub units : total ≤ f.total

pub walk_start : (f : Format) (ws : List ℤ) (n : ℕ) → Walking f ws n 0 0
walk_start f ws n = let e : n ≡ n - 0 = omega arith in record { same = ap (λ (k : ℕ). pairs_from f ws k 0 0) e; upto = omega arith; units = omega arith }

module _ {f : Format} {ws : List ℤ} {n i total : ℕ} (h : Walking f ws n i total) where
  opened : i < n → pairs_from f ws n 0 0 ≡ pairs_from f ws (suc (n - (i + 1))) i total
  opened l = let e : n - i ≡ suc (n - (i + 1)) = omega arith in h.same ∙ ap (λ (k : ℕ). pairs_from f ws k i total) e

  -- the offset and the length of pair i, as they were read
  module _ (l : i < n) {offset len : ℤ} (p : offset ≡ word_at ws (2 * i + 1)) (q : len ≡ length_read f ws i) where
    pub pair_read : pair_length f total (word_at ws (2 * i + 1)) (length_read f ws i) ≡ pair_length f total offset len
    pair_read = λ j. pair_length f total (sym p j) (sym q j)

    pub walk_turn : {k : ℕ} → pair_length f total offset len ≡ Some k → Walking f ws n (i + 1) (total + k)
    unfolding pairs_from
    walk_turn {k} e = record { same = opened l ∙ rw (pair_read, e); upto = omega arith; units = (pair f total offset len e).total }

    pub walk_wrong : pair_length f total offset len ≡ None → wrong_by 6 i ≡ pairs_from f ws n 0 0
    unfolding pairs_from
    walk_wrong e = sym (opened l ∙ rw (pair_read, e))

  pub walk_end : n ≤ i → end_of f n total (length ws) ≡ pairs_from f ws n 0 0
  unfolding pairs_from
  walk_end l =
      let e : n - i ≡ 0 = omega (arith, h.upto) in
      let d : i ≡ n = omega (arith, h.upto) in
      sym (h.same ∙ ap (λ (k : ℕ). pairs_from f ws k i total) e ∙ ap (λ (k : ℕ). end_of f k total (length ws)) d)
