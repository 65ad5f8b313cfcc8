-- Row 13: what follows once it lets layers pass or refuses them.
use mathlib.Core.Path.{◌≡◌, refl, sym, ◌∙◌, ap}
use mathlib.Core.List.{List, ◌++◌}
use mathlib.Core.Logic.{◌⊎◌, inl, inr}
use Prim.Native.Nat.{ℕ, ◌+◌, ◌≤◌}
use native.Mathlib.Omega.{arith}
use lib.ListN.{length}
use lib.IntN.{ℤ}
use Rattle.lists.specs.Lists.{All}
use Rattle.records.specs.Limits.{max_records}
use Rattle.geometry.specs.declared.Trapezoid.{Trapezoid}
use Rattle.geometry.specs.Trapezoids.{layer_of, Disjoint}
use Rattle.geometry.specs.Fitness.{FitFor}
use Rattle.geometry.proofs.Refusals.{SmallChecked}
use Rattle.overlay.specs.Overlaps.{first_overlap, FirstOverlap}
use Rattle.overlay.proofs.Search.{first_overlap_exact, small_overlap}
use Rattle.calls.specs.Rows.{and_then, both_disjoint}
use Rattle.calls.specs.Transistors.{three_disjoint}
use Rattle.std.specs.Prelude.{Result, Ok, Err}
use Rattle.geometry.specs.declared.Refusal.{Refusal}
use Rattle.geometry.specs.Refusals.{refused_by}

-- ---- rows below others
pub and_passed : (c d : Result (Unit {0}) Refusal) → and_then c d ≡ Ok tt → (c ≡ Ok tt) × (d ≡ Ok tt)
and_passed (Ok u) d e = (refl, e)
and_passed (Err refusal) d e = let z : ◌≡◌ {A = ℕ} 0 1 = cc in absurd (omega arith)

pub passed_and : {c d : (Result (Unit {0}) Refusal)} → c ≡ Ok tt → d ≡ Ok tt → and_then c d ≡ Ok tt
passed_and e f = rw (e, f)

pub and_refused : (c d : Result (Unit {0}) Refusal) {n k : ℕ} → and_then c d ≡ refused_by n k → (c ≡ refused_by n k) ⊎ ((c ≡ Ok tt) × (d ≡ refused_by n k))
and_refused (Ok u) d e = inr (refl, e)
and_refused (Err refusal) d e = inl e

pub small_and : (c d : Result (Unit {0}) Refusal) → SmallChecked c → SmallChecked d → SmallChecked (and_then c d)
small_and (Ok u) d h k = k
small_and (Err refusal) d h l = h

-- ---- layers of fit trapezoids: row 13 lets them pass exactly if they are disjoint
module _ (L : ℕ) (a b : List ℤ) (ha : All (FitFor L) (layer_of a)) (hb : All (FitFor L) (layer_of b)) where
  pub both_passed : both_disjoint a b ≡ Ok tt → Disjoint (layer_of a) × Disjoint (layer_of b)
  both_passed e =
      let h = and_passed (first_overlap 0 (layer_of a)) (first_overlap (length (layer_of a)) (layer_of b)) e in
      ((first_overlap_exact L 0 (layer_of a) ha).passed.0 h.0, (first_overlap_exact L (length (layer_of a)) (layer_of b) hb).passed.0 h.1)

  pub both_pass : Disjoint (layer_of a) → Disjoint (layer_of b) → both_disjoint a b ≡ Ok tt
  both_pass d f = passed_and ((first_overlap_exact L 0 (layer_of a) ha).passed.1 d) ((first_overlap_exact L (length (layer_of a)) (layer_of b) hb).passed.1 f)

  module _ (c : List ℤ) (hc : All (FitFor L) (layer_of c)) where
    abbrev past : ℕ
    past = length (layer_of a) + length (layer_of b)

    pub three_passed : three_disjoint a b c ≡ Ok tt → Disjoint (layer_of a) × Disjoint (layer_of b) × Disjoint (layer_of c)
    three_passed e =
        let h = and_passed (both_disjoint a b) (first_overlap past (layer_of c)) e in
        let k = both_passed h.0 in
        (k.0, k.1, (first_overlap_exact L past (layer_of c) hc).passed.0 h.1)

    pub three_pass : Disjoint (layer_of a) → Disjoint (layer_of b) → Disjoint (layer_of c) → three_disjoint a b c ≡ Ok tt
    three_pass d f g = passed_and (both_pass d f) ((first_overlap_exact L past (layer_of c) hc).passed.1 g)

-- ---- the sizes of its number and place
module _ (a b : List ℤ) (la : length (layer_of a) ≤ max_records) (lb : length (layer_of b) ≤ max_records) where
  pub small_both : SmallChecked (both_disjoint a b)
  small_both =
      small_and (first_overlap 0 (layer_of a)) (first_overlap (length (layer_of a)) (layer_of b)) (small_overlap 0 (layer_of a) (omega (arith, la)))
      (small_overlap (length (layer_of a)) (layer_of b) (omega (arith, la, lb)))

  pub small_three : (c : List ℤ) → length (layer_of c) ≤ max_records → SmallChecked (three_disjoint a b c)
  small_three c lc = small_and (both_disjoint a b) (first_overlap (length (layer_of a) + length (layer_of b)) (layer_of c)) small_both (small_overlap (length (layer_of a) + length (layer_of b)) (layer_of c) (omega (arith, la, lb, lc)))
