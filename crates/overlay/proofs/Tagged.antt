-- For callers: the trapezoids of a tag have what all parts have.
use mathlib.Core.Path.{◌≡◌}
use mathlib.Core.List.{List, [], ◌∷◌, ◌++◌}
use Prim.Native.Nat.{ℕ, suc, ◌≤◌, zero-le}
use native.Mathlib.Omega.{arith}
use lib.Dec.{eqb}
use lib.ListN.{length}
use Rattle.lists.specs.Lists.{All, Any, Pairs}
use Rattle.lists.proofs.Tests.{cond_cases}
use Rattle.geometry.specs.declared.Line.{Line}
use Rattle.geometry.specs.declared.Trapezoid.{Trapezoid}
use Rattle.geometry.specs.Trapezoids.{lines_of, Apart, Disjoint}
use Rattle.geometry.specs.Fitness.{FitFor}
use Rattle.overlay.specs.Overlay.{Part, overlay, tagged}
use Rattle.overlay.proofs.Parts.{parts_fit, parts_lines}
use Rattle.overlay.proofs.Tags.{parts_apart}
use Rattle.overlay.proofs.Fifteen.{at_most_fifteen}

-- what holds of each part holds of each of them
pub tagged-all : (R : Trapezoid → Type 0) (n : ℕ) (ss : List Part) → All (λ (s : Part). R s.trapezoid) ss → All R (tagged n ss)
unfolding tagged
tagged-all R n [] h = tt
tagged-all R n (s ∷ ss) h = let k = tagged-all R n ss h.1 in cond_cases (All R) (eqb s.tag n) (s.trapezoid ∷ tagged n ss) (tagged n ss) (λ e. (h.0, k)) (λ e. k)

pub tagged_pairs : (R : Trapezoid → Trapezoid → Type 0) (n : ℕ) (ss : List Part) → Pairs (λ (s t : Part). R s.trapezoid t.trapezoid) ss → Pairs R (tagged n ss)
unfolding tagged
tagged_pairs R n [] h = tt
tagged_pairs R n (s ∷ ss) h =
    let k = tagged_pairs R n ss h.1 in
    cond_cases (Pairs R) (eqb s.tag n) (s.trapezoid ∷ tagged n ss) (tagged n ss) (λ e. (tagged-all (R s.trapezoid) n ss h.0, k)) (λ e. k)

pub tagged-length : (n : ℕ) (ss : List Part) → length (tagged n ss) ≤ length ss
unfolding tagged
tagged-length n [] = zero-le
tagged-length n (s ∷ ss) =
    let k = tagged-length n ss in
    cond_cases (λ (ts : List Trapezoid). length ts ≤ suc (length ss)) (eqb s.tag n) (s.trapezoid ∷ tagged n ss) (tagged n ss) (λ e. omega arith) (λ e. omega arith)

module _ {L : ℕ} {A B : Trapezoid} (ha : FitFor L A) (hb : FitFor L B) (n : ℕ) where
  pub tagged_disjoint : Disjoint (tagged n (overlay A B))
  tagged_disjoint = tagged_pairs Apart n (overlay A B) (parts_apart L A B ha hb)

  pub tagged_fit : All (FitFor L) (tagged n (overlay A B))
  tagged_fit = tagged-all (FitFor L) n (overlay A B) (parts_fit L A B ha hb)

  pub tagged_lines : All (λ (t : Trapezoid). All (λ (l : Line). Any (λ (m : Line). l ≡ m) (lines_of A ++ lines_of B)) (lines_of t)) (tagged n (overlay A B))
  tagged_lines = tagged-all (λ (t : Trapezoid). All (λ (l : Line). Any (λ (m : Line). l ≡ m) (lines_of A ++ lines_of B)) (lines_of t)) n (overlay A B) (parts_lines L A B ha hb)

  pub tagged_fifteen : length (tagged n (overlay A B)) ≤ 15
  tagged_fifteen = let i = tagged-length n (overlay A B) in let j = at_most_fifteen L A B ha hb in omega arith
