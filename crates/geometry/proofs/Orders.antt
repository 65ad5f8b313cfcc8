-- The statements of specs/Orders.antt.
use mathlib.Core.Path.{◌∙◌}
use mathlib.Core.Logic.{inl, inr}
use lib.IntN.{pos}
use lib.Signed.{le_z_yes}
use Rattle.integer.specs.Integer.{◌⊗◌}
use Rattle.integer.proofs.Ring.{ring, ◌⊟◌, ◌⊠◌, con, ◌≗◌, sub_zero}
use Rattle.integer.proofs.Linear.{neg_zero}
use Rattle.integer.proofs.Fraction.{cross, cross_turn, before→at_most, at_most_refl}
use Rattle.geometry.specs.declared.Horizontal.TheVariants.{Level}
use Rattle.geometry.specs.Lines.{dx}
use Rattle.geometry.specs.Points.{at, under}
use Rattle.geometry.specs.Orders.{GapMeans, HeightsTotal, HeightsTransitive, RightTotal, RightTransitive, StayInOrder, UnderTransitive}
use Rattle.geometry.proofs.Standing.{positive_not_zero, horizontal_exact}
use Rattle.geometry.proofs.Heights as Heights
use Rattle.geometry.proofs.Between as Between
use Rattle.geometry.proofs.Points as Points
use Rattle.geometry.proofs.Points.{on, on_point, on_line, on_other, on_cross}

pub gap_means : GapMeans
unfolding cross
gap_means l m x hl hx =
    let P = on l x in
    let real = on_point l x hl hx in
    let level = neg_zero (cross_turn x (at P)) (on_cross l x x ∙ ring 3 (λ a n d. a ⊠ (n ⊠ d ⊟ n ⊠ d) ≗ con (pos 0)) tt (dx l) x.num x.den) in
    (P, real, (horizontal_exact Level (at P) x (positive_not_zero real) (positive_not_zero hx)).1 (sub_zero (P.X ⊗ x.den) (x.num ⊗ P.D) level), on_line l x, on_other l m x)

pub heights-total : HeightsTotal
heights-total x l m = Heights.height_total l m x

pub heights_transitive : HeightsTransitive
heights_transitive x l m k = Heights.height_trans l m k x

pub right_total : RightTotal
right_total p l m hp = elim (Heights.right_total p l m) [ inl h ↦ inl h | inr h ↦ inr (elim h [ inl k ↦ inl (λ x. Heights.coincide_everywhere p x l m hp k.0 k.1) | inr k ↦ inr k ]) ]

pub right_transitive : RightTransitive
right_transitive p l m k = Heights.right_trans p l m k

pub stay_in_order : StayInOrder
stay_in_order p q l m hp hq h clear b = (
  Between.stays p q l m hp hq clear b,
  Between.stays_closed p q l m hp hq clear (Heights.below→not_below p l m b) p hp (at_most_refl p) (before→at_most p q h),
  Between.stays_closed p q l m hp hq clear (Heights.below→not_below p l m b) q hq (before→at_most p q h) (at_most_refl q),
)

pub under_transitive : UnderTransitive
unfolding under
under_transitive l m P hl hm h k = (Points.under_transitive l m P hl hm h (le_z_yes k)).le
