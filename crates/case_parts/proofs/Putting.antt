-- Loops that put vertices, pairs and squares, one a turn.
use mathlib.Core.Path.{◌≡◌, refl, ap, ◌∙◌}
use mathlib.Core.List.{List}
use Prim.Native.Nat.{ℕ, ◌+◌, ◌*◌, ◌-◌, ◌/◌, ◌%◌, ◌<◌, ◌≤◌}
use native.Mathlib.Numerals.{add-one}
use native.Mathlib.Omega.{arith}
use lib.IntN.{ℤ, pos}
use lib.ListN.{length, get_or, set}
use lib.Seq.{get_or-set_same, get_or-set_other}
use borrow.Author.Count.{below_more}
use Rattle.case_parts.specs.Code.{with_number, stair_x, stair_y, with_stairs, with_pairs, square}

pub stairs_none : (start : ℕ) (file : List ℕ) → file ≡ with_stairs 0 start file
unfolding with_stairs
stairs_none start file = refl

pub stairs_more : (i start : ℕ) (file : List ℕ) {f g h : List ℕ} {x y : ℕ} → f ≡ with_stairs i start file → x ≡ stair_x (i % 32) → y ≡ stair_y (i % 32)
    → g ≡ with_number f (start + 2 * i) x → h ≡ with_number g (start + 2 * i + 1) y → h ≡ with_stairs (i + 1) start file
unfolding with_stairs
stairs_more i start file e p q r s = rw add-one (s ∙ (λ j. with_number ((r ∙ (λ k. with_number (e k) (start + 2 * i) (p k))) j) (start + 2 * i + 1) (q j)))

pub pairs_none : (file : List ℕ) → file ≡ with_pairs 0 file
unfolding with_pairs
pairs_none file = refl

pub pairs_more : (i : ℕ) (file : List ℕ) {f g h : List ℕ} → f ≡ with_pairs i file → g ≡ with_number f (2 * i + 1) (32 * i) → h ≡ with_number g (2 * i + 2) 32 → h ≡ with_pairs (i + 1) file
unfolding with_pairs
pairs_more i file e r s = rw add-one (s ∙ ap (λ (t : List ℕ). with_number t (2 * i + 2) 32) (r ∙ ap (λ (t : List ℕ). with_number t (2 * i + 1) (32 * i)) e))

-- words put from number `start` up to number i
pub record Putting (start width : ℕ) (sources : ℤ) (old new : List ℤ) (i : ℕ) : Type 0 where
  pub kept : (k : ℕ) → k < start → get_or new k (pos 0) ≡ get_or old k (pos 0)
  pub filled : (k : ℕ) → start ≤ k → k < i → get_or new k (pos 0) ≡ get_or (square ((k - start) / width) sources) ((k - start) % width) (pos 0)

pub put_more : {start width i : ℕ} {sources w : ℤ} {old new : List ℤ} → Putting start width sources old new i → start ≤ i → i < length new
    → w ≡ get_or (square ((i - start) / width) sources) ((i - start) % width) (pos 0) → Putting start width sources old (set new i w) (i + 1)
put_more {start} {width} {i} {sources} {w} {old} {new} h low l e =
    record {
      kept = λ k m. get_or-set_other new i k w (pos 0) (omega arith) ∙ h.kept k m;
      filled = λ k from m.
          below_more (λ (k : ℕ). start ≤ k → get_or (set new i w) k (pos 0) ≡ get_or (square ((k - start) / width) sources) ((k - start) % width) (pos 0)) i
          (λ k m from. get_or-set_other new i k w (pos 0) (omega arith) ∙ h.filled k from m)
          (λ from. get_or-set_same new i w (pos 0) l ∙ e)
          k m from;
    }
