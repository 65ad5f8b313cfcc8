-- The groups of a column: they rise, each is below the next ones strictly inside, and those at or below a point are a first part.
use mathlib.Core.Path.{◌≡◌, refl, sym, ◌∙◌, ap}
use mathlib.Core.Bool.{Bool, not}
use mathlib.Core.List.{List, [], ◌∷◌}
use mathlib.Core.Option.{none}
use lib.Dec.{T}
use lib.IntN.{ℤ, pos}
use Rattle.lists.specs.Lists.{All, Pairs, Member}
use Rattle.lists.specs.Tests.{always, bit}
use Rattle.lists.proofs.Tests.{false_is}
use Rattle.lists.proofs.Lists.{all_map, all_with, all_both}
use Rattle.lists.proofs.Members.{all_member, members}
use Rattle.integer.specs.Fraction.{Fraction, before}
use Rattle.levels.specs.Levels.{AtMost, StrictWeakOrder, levels, Rising}
use Rattle.levels.proofs.Laws.{levels_all, levels_rising}
use Rattle.geometry.specs.declared.Line.{Line}
use Rattle.geometry.specs.Lines.{IsLine}
use Rattle.geometry.specs.Points.{Point, IsPoint, at, under}
use Rattle.geometry.specs.Orders.{Uncrossed}
use Rattle.geometry.proofs.Heights.{below→not_below, right_trans}
use Rattle.geometry.proofs.Between.{stays}
use Rattle.geometry.proofs.Points.{under_down}
use Rattle.sweep.specs.Sums.{sum}
use Rattle.sweep.specs.Columns.{is_zero, lower, Clear, Below, up_to, column, winding, ColumnWinding, ColumnOpen}
use Rattle.sweep.proofs.Sums.{sum_same, sum_none}
use Rattle.sweep.proofs.Prefix.{value, prefix, Decided, decided, nothing, up_to_lem}
use Rattle.sweep.proofs.Slabs.{slabs_count, slabs_all}

-- the order right of a position
pub lower_order : {A : Type 0} (line : A → Line) (p : Fraction) → StrictWeakOrder (lower line p) (λ (e : A). IsLine (line e))
lower_order line p = record { asymmetric = λ d e. below→not_below p (line d) (line e); transitive = λ d e k. right_trans p (line d) (line e) (line k) }

module _ {A : Type 0} (line : A → Line) {p q : Fraction} {es : List A} (c : Clear line p q es) where
  -- of es, and with a line
  abbrev pub Good : A → Type 0
  Good e = IsLine (line e) × Member e es

  pub goods : All Good es
  goods = all_both (λ (e : A). IsLine (line e)) (λ (e : A). Member e es) es c.lines (members es)

  pub ordered : StrictWeakOrder (lower line p) Good
  ordered = let o = lower_order line p in record { asymmetric = o.asymmetric; transitive = λ d e k hd he hk. o.transitive d e k hd.0 he.0 hk.0 }

  pub groups_good : All Good (levels (lower line p) es)
  groups_good = levels_all (lower line p) Good es goods

  pub groups_rising : Rising (lower line p) (levels (lower line p) es)
  groups_rising = levels_rising (lower line p) ordered es goods

  uncrossed_at : (d e : A) → Good d → Good e → Uncrossed p q (line d) (line e)
  uncrossed_at d e hd he =
      let row = all_member (λ (d : A). All (λ (e : A). Uncrossed p q (line d) (line e)) es) d es c.uncrossed hd.1 in
      all_member (λ (e : A). Uncrossed p q (line d) (line e)) e es row he.1

  pub groups_ordered : Pairs (Below line p q es) (levels (lower line p) es)
  groups_ordered = pairs (levels (lower line p) es) groups_good groups_rising
    where
      make : (d e : A) → Good d → Good e → T (lower line p d e) → Below line p q es d e
      make d e hd he l = record { bottom = hd.1; top = he.1; between = stays p q (line d) (line e) c.left c.right (uncrossed_at d e hd he) l }

      pairs : (gs : List A) → All Good gs → Rising (lower line p) gs → Pairs (Below line p q es) gs
      pairs [] h r = tt
      pairs (g ∷ gs) h r = (all_with (λ e he l. make g e h.0 he l) gs h.1 r.0, pairs gs h.1 r.1)

  -- what is at or below a line that is at or below a point of the column is so too
  pub under_lower : (P : Point) → IsPoint P → T (not (before (at P) p)) → T (before (at P) q)
      → (d e : A) → Good d → Good e → AtMost (lower line p) d e → T (under P (line e)) → T (under P (line d))
  under_lower P hP l r d e hd he = under_down p q (line d) (line e) P c.left c.right hd.0 he.0 (uncrossed_at d e hd he) hP l r

-- ---- the slabs
-- W of the last group for which the test holds is the sum of those for which it holds
value_sum : {A : Type 0} {less : A → A → Bool} {Good : A → Type 0} (o : StrictWeakOrder less Good) (f : A → Bool) (down : (x y : A) → Good x → Good y → AtMost less x y → T (f y) → T (f x))
    (weight : A → ℤ) (es : List A) → All Good es → value f (λ (g : A). sum weight (λ (e : A). not (less g e)) es) (pos 0) (levels less es) ≡ sum weight f es
value_sum {A} {less} o f down weight es h = go (decided o f down W (pos 0) es h)
  where
    W : A → ℤ
    W g = sum weight (λ (e : A). not (less g e)) es

    go : Decided o f down W (pos 0) es → value f W (pos 0) (levels less es) ≡ sum weight f es
    go (nothing v a) = v ∙ sym (sum_none f weight es (all_map (λ e n. false_is n) es a))
    go (up_to_lem g hg v a) = v ∙ sum_same (λ (e : A). not (less g e)) weight f es a

module _ {A : Type 0} (line : A → Line) (weight : A → ℤ) where
  pub column_winding : ColumnWinding line weight
  unfolding column up_to winding
  column_winding p q es P c hP l r e =
      let o = ordered line c in
      let h = goods line c in
      let f : A → Bool = λ d. under P (line d) in
      let down = under_lower line c P hP l r in
      slabs_count (up_to line weight p es) f (levels (lower line p) es) none (pos 0) refl (prefix o f down (levels (lower line p) es) (groups_good line c) (groups_rising line c))
      (value_sum o always (λ x y gx gy k t. tt) weight es h ∙ e)
      ∙ ap (λ (z : ℤ). bit (not (is_zero z))) (value_sum o f down weight es h)

  pub column_open : ColumnOpen line weight
  unfolding column
  column_open p q es c = slabs_all (up_to line weight p es) (Below line p q es) none (levels (lower line p) es) tt (groups_ordered line c)
