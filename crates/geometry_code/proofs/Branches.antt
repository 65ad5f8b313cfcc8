-- What the answers of comparisons and of crossings say, as the functions take them.
use Rattle.std.specs.Prelude.{Option, Some, None}
use mathlib.Core.Path.{◌≡◌, sym, ◌∙◌, ap, ap₂, subst}
use mathlib.Core.Bool.{true, false}
use Prim.Native.Nat.{◌≤◌}
use lib.Dec.{T, not_T}
use lib.IntN.{ℤ, pos, nat_abs}
use Rattle.lists.proofs.Tests.{true_is, false_is}
use Rattle.std.specs.declared.cmp.Ordering.{Ordering}
use Rattle.integer.specs.Integer.{◌⊗◌}
use Rattle.integer.specs.Compare.{HasOrder, order_of}
use Rattle.integer.specs.Fraction.{Fraction, Proper, before, root}
use Rattle.integer.proofs.Fraction.{root_rising}
use Rattle.integer.proofs.Tests.{order_exact}
use Rattle.geometry.specs.declared.Line.{Line}
use Rattle.geometry.specs.declared.Coefficients.{Coefficients}
use Rattle.geometry.specs.declared.Meeting.{Meeting}
use Rattle.geometry.specs.declared.Position.{Position}
use Rattle.geometry.specs.declared.Horizontal.{Horizontal}
use Rattle.geometry.specs.Limit.{coordinate_limit, det_bound, numer_bound}
use Rattle.geometry.specs.Lines.{det, numer}
use Rattle.geometry.specs.Positions.{crosses, ratio, meet, heights, then_by, right_of}
use Rattle.geometry.specs.Standing.{horizontal, is_left, NotZero}
use Rattle.geometry.proofs.Meet.{crosses→det, det→crosses}
use Rattle.geometry.proofs.Standing.{positive_not_zero, left_before, left_root, meet-root}
use Rattle.geometry_code.specs.Code.{CoefficientsOf, MeetingBy, MeetingOf, fraction_of, Comparable, SmallPosition, order_right, RatioOf, CrossingOf}

-- a position that is kept
pub small_position : {p : Position} → nat_abs p.num.v ≤ numer_bound coordinate_limit → nat_abs p.den.v ≤ det_bound coordinate_limit → Proper (fraction_of p) → SmallPosition p
small_position n d h = record { comparable = record { num_small = n; den_small = d; den_not_zero = positive_not_zero h }; proper = h }

-- the order right of a position, where the heights compare as o says
pub order_by-heights : (k : Meeting) (x : Fraction) (o : Ordering) → order_of (x.num ⊗ k.det.v) (k.numer.v ⊗ x.den) ≡ o → order_right k x ≡ then_by o (order_of k.det.v (pos 0))
unfolding order_right
order_by-heights k x o e = rw e

-- how a number stands to 0, by what a comparison with it answers
pub sign_is : {o : Ordering} {z : ℤ} (q : Ordering) (d : ℤ) → z ≡ pos 0 → o ≡ order_of d z → o ≡ q → HasOrder q d (pos 0)
sign_is q d e f g = (order_exact q d (pos 0)).0 (sym (f ∙ ap (order_of d) e) ∙ g)

-- the meeting of two lines by their numbers
pub meeting_by : (l m : Line) (a b : Coefficients) (k : Meeting) → CoefficientsOf l a → CoefficientsOf m b → MeetingBy a b k → MeetingOf l m k
unfolding det numer
meeting_by l m a b k p q h = record { det = h.det ∙ rw (p.dx, p.dy, q.dx, q.dy); numer = h.numer ∙ rw (p.dx, p.offset, q.dx, q.offset); small = h.small }

pub right_meeting : (l m : Line) (k : Meeting) (x : Fraction) → MeetingOf l m k → order_right k x ≡ right_of x l m
unfolding order_right right_of heights
right_meeting l m k x h = rw (h.det, h.numer)

-- ---- crossings as the lines give them
-- what an answer of `ratio_of` says
pub no_ratio : (l m : Line) (r : Option Position) → RatioOf l m r → r ≡ None → crosses l m ≡ false
no_ratio l m r h e = false_is (subst (RatioOf l m) e h)

pub with_ratio : (l m : Line) (r : Option Position) (p : Position) → RatioOf l m r → r ≡ Some p → T (crosses l m) × (fraction_of p ≡ ratio l m) × Comparable p
with_ratio l m r p h e = subst (RatioOf l m) e h

-- and how it is found, by the order of the determinant and 0
pub ratio-at : (l m : Line) (k : Meeting) → MeetingOf l m k → NotZero k.det.v → RatioOf l m (Some (record { num = k.numer; den = k.det }))
unfolding ratio
ratio-at l m k h z =
    (det→crosses l m (λ e. z (h.det ∙ e)), (λ j. record { num = h.numer j; den = h.det j }), record { num_small = h.small.numer_small; den_small = h.small.det_small; den_not_zero = z })

pub ratio_nowhere : (l m : Line) (k : Meeting) → MeetingOf l m k → k.det.v ≡ pos 0 → RatioOf l m None
ratio_nowhere l m k h e = not_T (crosses l m) (λ t. crosses→det l m t (sym h.det ∙ e))

-- the position with a positive denominator
pub ratio-position : {p : Position} (l m : Line) → T (crosses l m) → fraction_of p ≡ ratio l m → root p.den.v p.num.v ≡ meet l m
unfolding ratio
ratio-position l m h e = ap (λ (x : Fraction). root x.den x.num) e ∙ sym (meet-root l m h)

-- ---- crossings with positive denominators
-- what an answer of `crossing_of` says
pub parallel : (l m : Line) (r : Option Position) → CrossingOf l m r → r ≡ None → crosses l m ≡ false
parallel l m r h e = false_is (subst (CrossingOf l m) e h)

pub crossed : (l m : Line) (r : Option Position) (p : Position) → CrossingOf l m r → r ≡ Some p → (crosses l m ≡ true) × (fraction_of p ≡ meet l m) × SmallPosition p
crossed l m r p h e = let k = subst (CrossingOf l m) e h in (true_is k.0, k.1, k.2)

-- ---- comparisons: Left is "before"
-- of two positions with positive denominators
pub answers_left : {p q : Position} {h : Horizontal} → SmallPosition p → SmallPosition q → h ≡ horizontal (fraction_of p) (fraction_of q) → before (fraction_of p) (fraction_of q) ≡ is_left h
answers_left {p} {q} hp hq e = sym (ap is_left e ∙ left_before (fraction_of p) (fraction_of q) hp.proper hq.proper)

-- of such a position and a base as its lines give it
pub answers_base : {p q : Position} {h : Horizontal} (l m : Line) → SmallPosition p → T (crosses l m) × (fraction_of q ≡ ratio l m) × Comparable q → h ≡ horizontal (fraction_of p) (fraction_of q) → before (fraction_of p) (meet l m) ≡ is_left h
answers_base {p} {q} l m hp hq e =
    sym (ap is_left e ∙ left_root (fraction_of p) (fraction_of q) hp.comparable.den_not_zero hq.2.den_not_zero ∙ ap₂ before (root_rising p.den.v p.num.v hp.proper) (ratio-position {p = q} l m hq.0 hq.1))
