-- A box's numbers are words. What is fit for a limit is fit for every larger one, so all is said for the largest, 524,288.
use Prim.Native.Nat.{◌≤◌}
use native.Mathlib.Omega.{arith}
use lib.IntN.{pos, nat_abs}
use lib.Signed.{lt_z}
use Rattle.lists.proofs.Tests.{cond_cases}
use Rattle.integer.specs.Fraction.{Fraction}
use Rattle.geometry.specs.declared.Line.{Line}
use Rattle.geometry.specs.Limit.{OnGrid, numer_bound}
use Rattle.geometry.specs.Lines.{det}
use Rattle.geometry.specs.Positions.{ratio, meet}
use Rattle.geometry.proofs.Magnitudes.{meeting_within}
use Rattle.geometry.proofs.Fitness.{fit_more}
use Rattle.boxes.specs.Boxes.{largest_limit, left_end, right_end, box_of}
use Rattle.boxes.specs.Statements.{BoxFits}
use Rattle.boxes.proofs.Whole.{floor_size, ceiling_size}
use Rattle.boxes.proofs.Magnitudes.{lowest_low, highest_high}

-- where two lines cross
meet_size : (l m : Line) → OnGrid largest_limit l → OnGrid largest_limit m → nat_abs (meet l m).num ≤ numer_bound largest_limit
unfolding meet ratio
meet_size l m g k = cond_cases (λ (p : Fraction). nat_abs p.num ≤ numer_bound largest_limit) (lt_z (pos 0) (det l m)) (ratio l m) (ratio m l) (λ t. (meeting_within largest_limit l m g k).1) (λ t. (meeting_within largest_limit m l k g).1)

pub box_fits : BoxFits
unfolding box_of left_end right_end
box_fits L hL t h =
    let f = fit_more L largest_limit t hL h in
    let g = f.grid in
    let p = meet t.left.first t.left.second in
    let q = meet t.right.first t.right.second in
    let a = meet_size t.left.first t.left.second g.0 g.1.0 in
    let b = meet_size t.right.first t.right.second g.1.1.0 g.1.1.1.0 in
    let c = floor_size p.num p.den in
    let d = ceiling_size q.num q.den in
    let u = (lowest_low t.bottom g.1.1.1.1.0 (left_end t) (right_end t)).size in
    let v = (highest_high t.top g.1.1.1.1.1.0 (left_end t) (right_end t)).size in
    record { left = omega (arith, a, c); right = omega (arith, b, d); bottom = omega (arith, u); top = omega (arith, v) }
