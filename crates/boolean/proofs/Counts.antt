-- How many overlays each operation makes.
use mathlib.Core.Path.{◌≡◌, refl, ◌∙◌, ap}
use mathlib.Core.List.{List, [], ◌∷◌, ◌++◌}
use Prim.Native.Nat.{ℕ, ◌+◌, ◌*◌}
use native.Mathlib.Omega.{arith}
use lib.ListN.{length, take, drop}
use Rattle.lists.proofs.Counts.{total_append}
use Rattle.geometry.specs.declared.Trapezoid.{Trapezoid}
use Rattle.overlay.specs.Overlay.{overlay, tagged}
use Rattle.boolean.specs.Operations.{union, intersect, a_minus_b, b_minus_a, symmetric_difference, minus, minus_all, difference, common, deoverlapped_from}
use Rattle.boolean.specs.Space.{Stage, addition, overlays_of, minus_stages, minus_all_stages, one_stages, difference_stages, common_stages, intersection_stages, deoverlapped_stages, only_if_empty, equality_stages}
use Rattle.boolean.specs.Counts.{sum_below, all_overlays, IntersectionOverlays, count_minus, count_difference, DifferenceOverlays, CodeOverlays, DeoverlappedOverlays, EqualityOverlays}

overlays_append : (ms ns : List Stage) → all_overlays (ms ++ ns) ≡ all_overlays ms + all_overlays ns
overlays_append ms ns = total_append overlays_of ms ns

-- ---- intersection
common_overlays : (k : ℕ) (a : Trapezoid) (B : List Trapezoid) → all_overlays (common_stages k a B) ≡ length B
unfolding common_stages
common_overlays k a [] = refl
common_overlays k a (b ∷ B) = let h = common_overlays (k + length (tagged 3 (overlay a b))) a B in omega (arith, h)

all_overlays_lem : (k : ℕ) (A B : List Trapezoid) → all_overlays (intersection_stages k A B) ≡ length A * length B
unfolding intersection_stages
all_overlays_lem k [] B = omega arith
all_overlays_lem k (a ∷ A) B =
    let j = k + length (common a B) in
    let s = overlays_append (common_stages k a B) (intersection_stages j A B) in
    let o = common_overlays k a B in
    let h = all_overlays_lem j A B in
    omega (arith, s, o, h)

pub intersection_overlays : IntersectionOverlays
intersection_overlays A B = all_overlays_lem 0 A B

-- ---- differences
minus_overlays : (k : ℕ) (rs : List Trapezoid) (b : Trapezoid) → all_overlays (minus_stages k rs b) ≡ length rs
unfolding minus_stages
minus_overlays k [] b = refl
minus_overlays k (r ∷ rs) b = let h = minus_overlays (k + length (tagged 1 (overlay r b))) rs b in omega (arith, h)

minus-all_overlays : (k : ℕ) (rs B : List Trapezoid) → all_overlays (minus_all_stages k rs B) ≡ sum_below (length B) (λ i. length (minus_all rs (take i B)))
unfolding minus_all minus_all_stages
minus-all_overlays k rs [] = refl
minus-all_overlays k rs (b ∷ B) =
    overlays_append (minus_stages k rs b) (minus_all_stages k (minus rs b) B) ∙ rw (minus_overlays k rs b, minus-all_overlays k (minus rs b) B)

one_overlays : (k : ℕ) (a : Trapezoid) (B : List Trapezoid) → all_overlays (one_stages k a B) ≡ count_minus a B
one_overlays k a B =
    let s = overlays_append (minus_all_stages k (a ∷ []) B) (addition (k + length (minus_all (a ∷ []) B)) ∷ []) in
    let h = minus-all_overlays k (a ∷ []) B in
    omega (arith, s, h)

pub difference_overlays : DifferenceOverlays
unfolding difference_stages
difference_overlays k [] B = refl
difference_overlays k (a ∷ A) B =
    let j = k + length (minus_all (a ∷ []) B) in
    overlays_append (one_stages k a B) (difference_stages j A B) ∙ rw (one_overlays k a B, difference_overlays j A B)

pub code_overlays : CodeOverlays
code_overlays union A B = let h = difference_overlays (length A) B A in omega (arith, h)
code_overlays intersect A B = intersection_overlays A B
code_overlays a_minus_b A B = difference_overlays 0 A B
code_overlays b_minus_a A B = difference_overlays 0 B A
code_overlays symmetric_difference A B =
    let n = length (difference A B) in
    overlays_append (difference_stages 0 A B) (difference_stages n B A) ∙ rw (difference_overlays 0 A B, difference_overlays n B A)

-- ---- deoverlapping and equality
from_overlays : (done A : List Trapezoid) → all_overlays (deoverlapped_stages done A) ≡ sum_below (length A) (λ i. count_difference (take 1 (drop i A)) (deoverlapped_from done (take i A)))
unfolding deoverlapped_from deoverlapped_stages
from_overlays done [] = refl
from_overlays done (a ∷ A) =
    let more = done ++ minus_all (a ∷ []) done in
    let s = overlays_append (one_stages (length done) a done) (deoverlapped_stages more A) in
    let o = one_overlays (length done) a done in
    let h = from_overlays more A in
    omega (arith, s, o, h)

pub deoverlapped_overlays : DeoverlappedOverlays
deoverlapped_overlays A = from_overlays [] A

pub equality_overlays : EqualityOverlays
equality_overlays A B = ((λ e. joined ∙ ap (λ (x : ℕ). count_difference A B + x) (second e)), (λ n. joined ∙ go (difference A B) n))
  where
    joined : all_overlays (equality_stages A B) ≡ count_difference A B + all_overlays (only_if_empty (difference A B) (difference_stages 0 B A))
    joined = overlays_append (difference_stages 0 A B) (only_if_empty (difference A B) (difference_stages 0 B A)) ∙ rw (difference_overlays 0 A B)

    second : difference A B ≡ [] → all_overlays (only_if_empty (difference A B) (difference_stages 0 B A)) ≡ count_difference B A
    second e = ap (λ (ts : List Trapezoid). all_overlays (only_if_empty ts (difference_stages 0 B A))) e ∙ difference_overlays 0 B A

    go : (ts : List Trapezoid) → ¬ (ts ≡ []) → count_difference A B + all_overlays (only_if_empty ts (difference_stages 0 B A)) ≡ count_difference A B
    go [] n = absurd (n refl)
    go (t ∷ ts) n = omega arith
