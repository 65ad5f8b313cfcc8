-- The mark of a vertex position k: its lines cross exactly at k, and are on the grid.
use mathlib.Core.Path.{◌≡◌, sym, ◌∙◌, ap, subst}
use mathlib.Core.Logic.{inl, inr}
use Prim.Native.Nat.{ℕ, ◌≤◌, zero-le}
use native.Mathlib.Nat.{le_refl}
use lib.Dec.{T, T_not}
use lib.IntN.{ℤ, pos, negsuc, nat_abs}
use lib.Signed.{◌<ℤ◌}
use Rattle.lists.proofs.Tests.{cond_cases}
use Rattle.integer.specs.Integer.{◌⊕◌, ◌⊖◌}
use Rattle.integer.specs.Fraction.{Proper}
use Rattle.integer.proofs.Ring.{Expr, ring, ◌⊞◌, ◌⊟◌, ◌⊠◌, con, ◌≗◌, sub_zero}
use Rattle.integer.proofs.Order.{trichotomy}
use Rattle.integer.proofs.Linear.{zarith, sum, difference, parts, one_part}
use Rattle.geometry.specs.declared.Line.{Line}
use Rattle.geometry.specs.declared.Base.{Base}
use Rattle.geometry.specs.Limit.{OnGrid}
use Rattle.geometry.specs.Lines.{IsLine, dx, dy, offset, det, numer}
use Rattle.geometry.specs.Positions.{ratio, meet, position}
use Rattle.geometry.proofs.Meet.{proper_crosses}
use Rattle.sweep.specs.Columns.{is_zero}
use Rattle.sweep.proofs.Slabs.{zero_is}
use Rattle.fracture.specs.Polygons.{whole}
use Rattle.fracture.specs.Fracture.{axis, rising_at, falling_at, mark}
use Rattle.fracture.specs.Statements.{MarkAt, MarkOnGrid}
use Rattle.fracture.proofs.Edges.{whole_proper}

zero_difference : (a b : ℤ) → a ≡ b → T (is_zero (a ⊖ b))
zero_difference a b e = subst (λ (z : ℤ). T (is_zero z)) (sym (ap (λ (z : ℤ). z ⊖ b) e ∙ ring 1 (λ b. b ⊟ b ≗ con (pos 0)) tt b)) tt

-- to prove something of a mark: of either form, where k is not the limit and where it is
pub mark_cases : (R : Base → Type 0) (L : ℕ) (k : ℤ) → (k ≡ pos L → R (record { first = axis; second = falling_at k })) → (¬ (k ≡ pos L) → R (record { first = axis; second = rising_at k })) → R (mark L k)
unfolding mark
mark_cases R L k f g =
    cond_cases (λ (l : Line). R (record { first = axis; second = l })) (is_zero (k ⊖ pos L)) (falling_at k) (rising_at k)
    (λ z. f (sub_zero k (pos L) (zero_is (k ⊖ pos L) z)))
    (λ n. g (λ e. T_not (is_zero (k ⊖ pos L)) n (zero_difference k (pos L) e)))

abbrev o : Expr
o = con (pos 0)

abbrev i : Expr
i = con (pos 1)

rising_det : (k : ℤ) → det axis (rising_at k) ≡ negsuc 0
unfolding det dx dy
rising_det k = ring 1 (λ k. (o ⊟ o) ⊠ (k ⊞ i ⊟ k) ⊟ (i ⊟ o) ⊠ (i ⊟ o) ≗ con (negsuc 0)) tt k

rising_det_turned : (k : ℤ) → det (rising_at k) axis ≡ pos 1
unfolding det dx dy
rising_det_turned k = ring 1 (λ k. (i ⊟ o) ⊠ (i ⊟ o) ⊟ (o ⊟ o) ⊠ (k ⊞ i ⊟ k) ≗ i) tt k

rising_numer : (k : ℤ) → numer (rising_at k) axis ≡ k
unfolding numer dx offset
rising_numer k = ring 1 (λ k. (k ⊞ i ⊟ k) ⊠ (o ⊠ i ⊟ o ⊠ o) ⊟ (i ⊟ o) ⊠ (o ⊠ (k ⊞ i) ⊟ i ⊠ k) ≗ k) tt k

falling_det : (k : ℤ) → det axis (falling_at k) ≡ pos 1
unfolding det dx dy
falling_det k = ring 1 (λ k. (o ⊟ o) ⊠ (k ⊟ (k ⊟ i)) ⊟ (o ⊟ i) ⊠ (i ⊟ o) ≗ i) tt k

falling_numer : (k : ℤ) → numer axis (falling_at k) ≡ k
unfolding numer dx offset
falling_numer k = ring 1 (λ k. (i ⊟ o) ⊠ (i ⊠ k ⊟ o ⊠ (k ⊟ i)) ⊟ (k ⊟ (k ⊟ i)) ⊠ (o ⊠ i ⊟ o ⊠ o) ≗ k) tt k

meet_rising : (k : ℤ) → meet axis (rising_at k) ≡ whole k
unfolding meet ratio
meet_rising k = rw (rising_det k, rising_det_turned k, rising_numer k)

meet_falling : (k : ℤ) → meet axis (falling_at k) ≡ whole k
unfolding meet ratio
meet_falling k = rw (falling_det k, falling_numer k)

pub mark-position : (L : ℕ) (k : ℤ) → position (mark L k) ≡ whole k
mark-position L k = mark_cases (λ (b : Base). position b ≡ whole k) L k (λ e. meet_falling k) (λ n. meet_rising k)

pub mark_proper : (L : ℕ) (k : ℤ) → Proper (position (mark L k))
mark_proper L k = subst Proper (sym (mark-position L k)) (whole_proper k)

pub mark-at : MarkAt
mark-at L k = (proper_crosses (mark L k).first (mark L k).second (mark_proper L k), mark-position L k)

-- ---- the lines of a mark
rising_line : (k : ℤ) → IsLine (rising_at k)
rising_line k = record { rightward = omega (zarith, sum k (pos 1)) }

falling_line : (k : ℤ) → IsLine (falling_at k)
falling_line k = record { rightward = omega (zarith, difference k (pos 1)) }

pub mark_lines : (L : ℕ) (k : ℤ) → IsLine (mark L k).first × IsLine (mark L k).second
mark_lines L k =
    let axis_line : IsLine axis = record { rightward = omega zarith } in
    mark_cases (λ (b : Base). IsLine b.first × IsLine b.second) L k (λ e. (axis_line, falling_line k)) (λ n. (axis_line, rising_line k))

-- ---- the words of a mark
below_limit : (L : ℕ) (k : ℤ) → nat_abs k ≤ L → ¬ (k ≡ pos L) → k <ℤ pos L
below_limit L k h n = elim (trichotomy k (pos L)) [ inl l ↦ l | inr r ↦ elim r [ inl e ↦ absurd (n e) | inr g ↦ absurd (omega (zarith, parts k)) ] ]

next_within : (L : ℕ) (k : ℤ) → nat_abs k ≤ L → k <ℤ pos L → nat_abs (k ⊕ pos 1) ≤ L
next_within L k h l = omega (zarith, parts k, one_part k, sum k (pos 1), parts (k ⊕ pos 1), one_part (k ⊕ pos 1))

last_within : (L : ℕ) → 1 ≤ L → nat_abs (pos L ⊖ pos 1) ≤ L
last_within L one = omega (zarith, difference (pos L) (pos 1), parts (pos L ⊖ pos 1), one_part (pos L ⊖ pos 1))

axis_grid : (L : ℕ) → 1 ≤ L → OnGrid L axis
axis_grid L one = record { x1 = zero-le; y1 = zero-le; x2 = one; y2 = zero-le }

rising_grid : (L : ℕ) (k : ℤ) → 1 ≤ L → nat_abs k ≤ L → ¬ (k ≡ pos L) → OnGrid L (rising_at k)
rising_grid L k one h n = record { x1 = h; y1 = zero-le; x2 = next_within L k h (below_limit L k h n); y2 = one }

falling_grid : (L : ℕ) → 1 ≤ L → OnGrid L (falling_at (pos L))
falling_grid L one = record { x1 = last_within L one; y1 = one; x2 = le_refl L; y2 = zero-le }

pub mark_on_grid : MarkOnGrid
mark_on_grid L k one h =
    let Grid : Base → Type 0 = λ b. OnGrid L b.first × OnGrid L b.second in
    mark_cases Grid L k
    (λ e. (axis_grid L one, subst (λ (z : ℤ). OnGrid L (falling_at z)) (sym e) (falling_grid L one)))
    (λ n. (axis_grid L one, rising_grid L k one h n))
