-- The tests of rows 7 to 11 say what the rows mean, and what fitness gives.
use mathlib.Core.Path.{◌≡◌, refl, sym, ◌∙◌, ap, subst}
use mathlib.Core.Bool.{Bool, true, false, not, ◌&&◌}
use mathlib.Core.List.{List, [], ◌∷◌, ◌++◌}
use mathlib.Core.Logic.{◌↔◌}
use Prim.Native.Nat.{ℕ, ◌+◌, ◌<◌, ◌≤◌}
use native.Mathlib.Nat.{le_trans, add-zero}
use native.Mathlib.Omega.{arith}
use lib.Dec.{T}
use lib.IntN.{ℤ, pos, negsuc, nat_abs}
use lib.ListN.{length}
use lib.Signed.{le_z, ◌≤ℤ◌, le_z_yes, lt_z_yes, clash_ℤ}
use mir.Facts.{and_yes, yes_and}
use Rattle.lists.specs.Lists.{All}
use Rattle.lists.specs.Tests.{all}
use Rattle.lists.proofs.Lists.{all_map, all_exact}
use Rattle.integer.specs.Integer.{◌⊕◌, ◌⊖◌, ◌⊗◌, ⊝◌}
use Rattle.integer.specs.Fraction.{Fraction, Proper, before, mediant}
use Rattle.integer.proofs.Ring.{ring, ◌⊞◌, ◌⊟◌, ◌⊠◌, con, ◌≗◌, sub_zero}
use Rattle.integer.proofs.Order.{eq_by, eq_over, positive_mul}
use Rattle.integer.proofs.Linear.{zarith, minus⁺, minus⁻, parts, one_part, neg_zero}
use Rattle.integer.proofs.Fraction.{cross, cross_turn, before→at_most, mediant_proper, mediant_after, mediant-before}
use Rattle.geometry.specs.declared.Line.{Line}
use Rattle.geometry.specs.declared.Trapezoid.{Trapezoid}
use Rattle.geometry.specs.declared.Horizontal.TheVariants.{Left}
use Rattle.geometry.specs.Limit.{on_grid, OnGrid, coordinate_limit}
use Rattle.geometry.specs.Lines.{dx, dy, offset, IsLine, det}
use Rattle.geometry.specs.Positions.{gap, crosses, meet, position, below}
use Rattle.geometry.specs.Standing.{base_crosses, standing}
use Rattle.geometry.specs.Points.{Point, at, orientation, On, under, SamePoint}
use Rattle.geometry.specs.Trapezoids.{lines_of, based, lies_in}
use Rattle.geometry.specs.Fitness.{CrossInOnePoint, GridRow, LineRow, BaseRow, BasesRow, SidesRow, FitFor, line_on_grid, is_line, left_of, below_between, pass, shape_verdict, verdict, refuse, first_refusal, GridExact, BaseExact, BasesExact, SidesExact, FitExact, LayerExact, RowExact, RefusedAt, PlaceExact, FitMore, FitHoldsPoint}
use Rattle.geometry.proofs.Identities.{dx_positive, orientation-gap}
use Rattle.geometry.proofs.Heights.{coincide_everywhere}
use Rattle.geometry.proofs.Meet.{det→crosses, meet_proper, meet-gap, meet-only}
use Rattle.geometry.proofs.Standing.{left_of_exact, left_exact, standing_exact}
use Rattle.geometry.proofs.Points.{on, on_point, on_line, on_other, on_cross, on_after, on_before, on_under, on_below}
use Rattle.geometry.proofs.Sides as Sides
use Rattle.std.specs.Prelude.{Result, Ok, Err}
use Rattle.geometry.specs.Refusals.{refused_by}
use Rattle.geometry.proofs.Refused.{refused_same}

-- ---- row 7
pub grid_coordinate : (L : ℕ) (z : ℤ) → T (on_grid L z) ↔ (nat_abs z ≤ L)
unfolding on_grid
grid_coordinate L z = (
  (λ t.
      let h = and_yes (le_z (⊝ (pos L)) z) (le_z z (pos L)) t in
      let a : ⊝ (pos L) ≤ℤ z = le_z_yes h.0 in
      let b : z ≤ℤ pos L = le_z_yes h.1 in
      omega (zarith, parts z, one_part z, minus⁺ (pos L), minus⁻ (pos L))),
  (λ h.
      let a : ⊝ (pos L) ≤ℤ z = omega (zarith, parts z, minus⁺ (pos L), minus⁻ (pos L)) in
      let b : z ≤ℤ pos L = omega (zarith, parts z) in
      yes_and (le_z (⊝ (pos L)) z) (le_z z (pos L)) a.le b.le),
)

pub grid_exact : GridExact
unfolding line_on_grid
grid_exact L l = (
  (λ t.
      let h = and_yes (on_grid L l.x1) (on_grid L l.y1 && (on_grid L l.x2 && on_grid L l.y2)) t in
      let k = and_yes (on_grid L l.y1) (on_grid L l.x2 && on_grid L l.y2) h.1 in
      let j = and_yes (on_grid L l.x2) (on_grid L l.y2) k.1 in
      record { x1 = (grid_coordinate L l.x1).0 h.0; y1 = (grid_coordinate L l.y1).0 k.0; x2 = (grid_coordinate L l.x2).0 j.0; y2 = (grid_coordinate L l.y2).0 j.1 }),
  (λ h.
      yes_and (on_grid L l.x1) (on_grid L l.y1 && (on_grid L l.x2 && on_grid L l.y2)) ((grid_coordinate L l.x1).1 h.x1)
      (yes_and (on_grid L l.y1) (on_grid L l.x2 && on_grid L l.y2) ((grid_coordinate L l.y1).1 h.y1)
      (yes_and (on_grid L l.x2) (on_grid L l.y2) ((grid_coordinate L l.x2).1 h.x2) ((grid_coordinate L l.y2).1 h.y2)))),
)

-- ---- row 8
line_exact : (l : Line) → T (is_line l) ↔ IsLine l
unfolding is_line
line_exact l = ((λ t. record { rightward = lt_z_yes t }), (λ h. h.rightward.lt))

-- ---- row 9
-- a point on both lines stands where the gap is 0
both→gap : (l m : Line) (P : Point) → On l P → On m P → gap l m (at P) ≡ pos 0
both→gap l m P h k =
    let z : ⊝ gap l m (at P) ≡ pos 0 = sym (rw (h, k) at (orientation-gap l m P)) ∙ ring 2 (λ a e. e ⊠ con (pos 0) ⊟ a ⊠ con (pos 0) ≗ con (pos 0)) tt (dx l) (dx m) in
    omega (zarith, z, minus⁺ (gap l m (at P)), minus⁻ (gap l m (at P)))

-- two points of a line over one position are one
same_over : (l : Line) (P Q : Point) → IsLine l → On l P → On l Q → cross (at P) (at Q) ≡ pos 0 → SamePoint P Q
unfolding cross orientation
same_over l P Q hl h k e =
    record {
      across = sub_zero (P.X ⊗ Q.D) (Q.X ⊗ P.D) e;
      up = eq_over (dx_positive hl) (sub_zero (dx l ⊗ (P.Y ⊗ Q.D)) (dx l ⊗ (Q.Y ⊗ P.D)) (identity ∙ zero));
    }
  where
    identity : dx l ⊗ (P.Y ⊗ Q.D) ⊖ dx l ⊗ (Q.Y ⊗ P.D) ≡ Q.D ⊗ orientation l P ⊖ P.D ⊗ orientation l Q ⊕ dy l ⊗ cross (at P) (at Q)
    identity =
        ring 9 (λ a b c X Y D S W E. a ⊠ (Y ⊠ E) ⊟ a ⊠ (W ⊠ D) ≗ E ⊠ (a ⊠ Y ⊟ b ⊠ X ⊟ c ⊠ D) ⊟ D ⊠ (a ⊠ W ⊟ b ⊠ S ⊟ c ⊠ E) ⊞ b ⊠ (X ⊠ E ⊟ S ⊠ D)) tt (dx l) (dy l) (offset l) P.X P.Y P.D Q.X Q.Y Q.D

    zero : Q.D ⊗ orientation l P ⊖ P.D ⊗ orientation l Q ⊕ dy l ⊗ cross (at P) (at Q) ≡ pos 0
    zero = (λ j. Q.D ⊗ h j ⊖ P.D ⊗ k j ⊕ dy l ⊗ e j) ∙ ring 3 (λ a b c. a ⊠ con (pos 0) ⊟ b ⊠ con (pos 0) ⊞ c ⊠ con (pos 0) ≗ con (pos 0)) tt Q.D P.D (dy l)

one_point : (l m : Line) → IsLine l → T (crosses l m) → CrossInOnePoint l m
one_point l m hl h =
    record {
      point = on l (meet l m);
      real = on_point l (meet l m) hl (meet_proper l m h);
      on_first = on_line l (meet l m);
      on_second = on_other l m (meet l m) ∙ meet-gap l m;
      only = λ Q hQ a b. same_over l (on l (meet l m)) Q hl (on_line l (meet l m)) a (level Q a b);
    }
  where
    level : (Q : Point) → On l Q → On m Q → cross (at (on l (meet l m))) (at Q) ≡ pos 0
    level Q a b = neg_zero (cross_turn (at Q) (at (on l (meet l m)))) (on_cross l (meet l m) (at Q) ∙ ap (λ (z : ℤ). dx l ⊗ z) (meet-only l m (at Q) (both→gap l m Q a b)) ∙ ring 1 (λ a. a ⊠ con (pos 0) ≗ con (pos 0)) tt (dx l))

-- lines of one slope with a point in common have another
slopes_differ : (l m : Line) → IsLine l → IsLine m → CrossInOnePoint l m → det l m ≡ pos 0 → ⊥
slopes_differ l m hl hm c e =
    -- one further right on both
    let P = c.point in
    let y : Fraction = record { num = P.X ⊕ P.D; den = P.D } in
    let g = coincide_everywhere (at P) y l m c.real (both→gap l m P c.on_first c.on_second) e in
    let same = c.only (on l y) (on_point l y hl c.real) (on_line l y) (on_other l m y ∙ g) in
    let zero : P.D ⊗ dx l ⊗ P.D ≡ pos 0
    = eq_by (negsuc 0) (ring 3 (λ X D a. D ⊠ a ⊠ D ⊟ con (pos 0) ≗ con (negsuc 0) ⊠ (X ⊠ (D ⊠ a) ⊟ (X ⊞ D) ⊠ a ⊠ D)) tt P.X P.D (dx l)) same.across in
    clash_ℤ (positive_mul (positive_mul c.real (dx_positive hl)) c.real) (omega (zarith, zero))

pub base_exact : BaseExact
base_exact l m hl hm = (one_point l m hl, (λ c. det→crosses l m (slopes_differ l m hl hm c)))

-- ---- row 10
pub bases_exact : BasesExact
bases_exact b c hb hc = let k = standing_exact Left b c hb hc in let l = left_exact (standing b c) in ((λ h. k.0 (l.0 h)), (λ h. l.1 (k.1 h)))

-- ---- row 11
pub sides_exact : SidesExact
sides_exact p q l m hp hq h = Sides.sides_exact p q l m hp hq h

-- ---- each row's test is what it asks, of a trapezoid that has what the rows before ask
module _ (L : ℕ) (t : Trapezoid) where
  all_on_grid : T (all (line_on_grid L) (lines_of t)) ↔ GridRow L t
  all_on_grid = all_exact (line_on_grid L) (OnGrid L) (grid_exact L) (lines_of t)

module _ (t : Trapezoid) where
  line_row : T (all is_line (lines_of t)) ↔ LineRow t
  line_row = all_exact is_line IsLine line_exact (lines_of t)

  module _ (lines : LineRow t) where
    left_row : T (base_crosses t.left) ↔ CrossInOnePoint t.left.first t.left.second
    left_row = base_exact t.left.first t.left.second lines.0 lines.1.0

    right_row : T (base_crosses t.right) ↔ CrossInOnePoint t.right.first t.right.second
    right_row = base_exact t.right.first t.right.second lines.1.1.0 lines.1.1.1.0

    base_row : T (base_crosses t.left && base_crosses t.right) ↔ BaseRow t
    base_row = (
      (λ h. let k = and_yes (base_crosses t.left) (base_crosses t.right) h in (left_row.0 k.0, right_row.0 k.1)),
      (λ h. yes_and (base_crosses t.left) (base_crosses t.right) (left_row.1 h.0) (right_row.1 h.1)),
    )

    module _ (crossed : BaseRow t) where
      bases_row : T (left_of t.left t.right) ↔ BasesRow t
      bases_row = bases_exact t.left t.right (left_row.1 crossed.0) (right_row.1 crossed.1)

      sides_row : BasesRow t → T (below_between (position t.left) (position t.right) t.bottom t.top) ↔ SidesRow t
      sides_row h =
          sides_exact (position t.left) (position t.right) t.bottom t.top
          (meet_proper t.left.first t.left.second (left_row.1 crossed.0))
          (meet_proper t.right.first t.right.second (right_row.1 crossed.1))
          ((left_of_exact t.left t.right (left_row.1 crossed.0) (right_row.1 crossed.1)).1 h)

-- ---- the verdict
-- fit, or a number past k and up to 11
abbrev Past : ℕ → Result (Unit {0}) ℕ → Type 0
Past k (Ok u) = Unit {0}
Past k (Err n) = (k < n) × (n ≤ 11)

past_less : (k m : ℕ) (w : Result (Unit {0}) ℕ) → k ≤ m → Past m w → Past k w
past_less k m (Ok u) h p = tt
past_less k m (Err n) h p = (omega (arith, p.0), p.1)

pass_past : (b : Bool) (n k : ℕ) (v : Result (Unit {0}) ℕ) → k < n → n ≤ 11 → Past n v → Past k (pass b n v)
pass_past true n k v h m p = past_less k n v (omega arith) p
pass_past false n k v h m p = (h, m)

not_past : (n : ℕ) (w : Result (Unit {0}) ℕ) → Err n ≡ w → Past n w → ⊥
not_past n w e p = let q = subst (Past n) (sym e) p in omega (arith, q.0)

-- of a row's test b, which says whether X, and the verdict v of the rows below: a later answer comes exactly if X, and they give it
passes : {X W : Type 0} (b : Bool) (n : ℕ) (v w : Result (Unit {0}) ℕ) → Past n w → T b ↔ X → (X → (v ≡ w) ↔ W) → (pass b n v ≡ w) ↔ (X × W)
passes true n v w later exact below = ((λ e. let x = exact.0 tt in (x, (below x).0 e)), (λ h. (below h.0).1 h.1))
passes false n v w later exact below = ((λ e. absurd (not_past n w e later)), (λ h. absurd (exact.1 h.0)))

-- and this row's answer exactly if X fails
stops : {X : Type 0} (b : Bool) (n : ℕ) (v : Result (Unit {0}) ℕ) → Past n v → T b ↔ X → (pass b n v ≡ Err n) ↔ (X → ⊥)
stops true n v later exact = ((λ e. absurd (not_past n v (sym e) later)), (λ h. absurd (h (exact.0 tt))))
stops false n v later exact = ((λ e x. exact.1 x), (λ h. refl))

module _ (t : Trapezoid) where
  abbrev sides_test : Bool
  sides_test = below_between (position t.left) (position t.right) t.bottom t.top

  abbrev bases_test : Bool
  bases_test = left_of t.left t.right

  abbrev base_test : Bool
  base_test = base_crosses t.left && base_crosses t.right

  -- the verdict of the rows from n on
  abbrev from11 : Result (Unit {0}) ℕ
  from11 = pass sides_test 11 (Ok tt)

  abbrev from10 : Result (Unit {0}) ℕ
  from10 = pass bases_test 10 from11

  abbrev from9 : Result (Unit {0}) ℕ
  from9 = pass base_test 9 from10

  abbrev from8 : Result (Unit {0}) ℕ
  from8 = pass (all is_line (lines_of t)) 8 from9

  past11 : Past 10 from11
  past11 = pass_past sides_test 11 10 (Ok tt) (omega arith) (omega arith) tt

  past10 : Past 9 from10
  past10 = pass_past bases_test 10 9 from11 (omega arith) (omega arith) past11

  past9 : Past 8 from9
  past9 = pass_past base_test 9 8 from10 (omega arith) (omega arith) past10

  past8 : Past 7 from8
  past8 = pass_past (all is_line (lines_of t)) 8 7 from9 (omega arith) (omega arith) past9

module _ (L : ℕ) (t : Trapezoid) where
  past7 : Past 6 (verdict L t)
  unfolding verdict shape_verdict
  past7 = pass_past (all (line_on_grid L) (lines_of t)) 7 6 (from8 t) (omega arith) (omega arith) (past8 t)

  -- an answer of the rows past n
  after7 : {W : Type 0} (w : Result (Unit {0}) ℕ) → Past 7 w → (GridRow L t → (from8 t ≡ w) ↔ W) → (verdict L t ≡ w) ↔ (GridRow L t × W)
  unfolding verdict shape_verdict
  after7 w p = passes (all (line_on_grid L) (lines_of t)) 7 (from8 t) w p (all_on_grid L t)

  after8 : {W : Type 0} (w : Result (Unit {0}) ℕ) → Past 8 w → (LineRow t → (from9 t ≡ w) ↔ W) → (verdict L t ≡ w) ↔ (GridRow L t × (LineRow t × W))
  after8 w p below = after7 w (past_less 7 8 w (omega arith) p) (λ g. passes (all is_line (lines_of t)) 8 (from9 t) w p (line_row t) below)

  after9 : {W : Type 0} (w : Result (Unit {0}) ℕ) → Past 9 w → (LineRow t → BaseRow t → (from10 t ≡ w) ↔ W) → (verdict L t ≡ w) ↔ (GridRow L t × (LineRow t × (BaseRow t × W)))
  after9 w p below = after8 w (past_less 8 9 w (omega arith) p) (λ l. passes (base_test t) 9 (from10 t) w p (base_row t l) (below l))

  after10 : {W : Type 0} (w : Result (Unit {0}) ℕ) → Past 10 w → (LineRow t → BaseRow t → BasesRow t → (from11 t ≡ w) ↔ W) → (verdict L t ≡ w) ↔ (GridRow L t × (LineRow t × (BaseRow t × (BasesRow t × W))))
  after10 w p below = after9 w (past_less 9 10 w (omega arith) p) (λ l b. passes (bases_test t) 10 (from11 t) w p (bases_row t l b) (below l b))

  fit_rows : (verdict L t ≡ Ok tt) ↔ (GridRow L t × (LineRow t × (BaseRow t × (BasesRow t × (SidesRow t × Unit {0})))))
  fit_rows = after10 (Ok tt) tt (λ l b o. passes (sides_test t) 11 (Ok tt) (Ok tt) tt (sides_row t l b o) (λ s. ((λ e. tt), (λ u. refl))))

pub fit_exact : FitExact
fit_exact L t = (
  (λ e.
      let h = (fit_rows L t).0 e in
      record { grid = h.0; lines = h.1.0; left = h.1.1.0.0; right = h.1.1.0.1; bases = h.1.1.1.0; sides = h.1.1.1.1.0 }),
  (λ h. (fit_rows L t).1 (h.grid, (h.lines, ((h.left, h.right), (h.bases, (h.sides, tt)))))),
)

pub row_exact : RowExact
unfolding verdict shape_verdict
row_exact L t =
    record {
      grid = stops (all (line_on_grid L) (lines_of t)) 7 (from8 t) (past8 t) (all_on_grid L t);
      line = after7 L t (Err 8) (omega arith, omega arith) (λ g. stops (all is_line (lines_of t)) 8 (from9 t) (past9 t) (line_row t));
      base = after8 L t (Err 9) (omega arith, omega arith) (λ l. stops (base_test t) 9 (from10 t) (past10 t) (base_row t l));
      bases = after9 L t (Err 10) (omega arith, omega arith) (λ l b. stops (bases_test t) 10 (from11 t) (past11 t) (bases_row t l b));
      sides = after10 L t (Err 11) (omega arith, omega arith) (λ l b o. stops (sides_test t) 11 (Ok tt) tt (sides_row t l b o));
      numbers = λ n e. let p = subst (Past 6) e (past7 L t) in (omega (arith, p.0), p.1);
    }

pub layer_exact : LayerExact
unfolding first_refusal
layer_exact L i [] = ((λ e. tt), (λ h. refl))
layer_exact L i (t ∷ ts) = (
  (λ e. let h = there (verdict L t) e in ((fit_exact L t).0 h.0, (layer_exact L (i + 1) ts).0 h.1)),
  (λ h. rw ((fit_exact L t).1 h.0) ((layer_exact L (i + 1) ts).1 h.1)),
)
  where
    there : (v : Result (Unit {0}) ℕ) → refuse v i (first_refusal L (i + 1) ts) ≡ Ok tt → (v ≡ Ok tt) × (first_refusal L (i + 1) ts ≡ Ok tt)
    there (Ok u) e = (refl, e)
    there (Err n) e = let z : ◌≡◌ {A = ℕ} 0 1 = cc in absurd (omega arith)

-- a refusal: after fit ones, the first that gets a row
refused_after : (L i : ℕ) (first : List Trapezoid) (one : Trapezoid) (rest : List Trapezoid) (n : ℕ) → All (FitFor L) first → verdict L one ≡ Err n → first_refusal L i (first ++ (one ∷ rest)) ≡ refused_by n (i + length first)
unfolding first_refusal
refused_after L i [] one rest n h e = rw (e, add-zero i)
refused_after L i (t ∷ first) one rest n h e =
    let k : i + 1 + length first ≡ i + length (t ∷ first) = omega arith in
    rw ((fit_exact L t).1 h.0) (refused_after L (i + 1) first one rest n h.1 e ∙ ap (refused_by n) k)

refused_there : (L i : ℕ) (ts : List Trapezoid) (n k : ℕ) → first_refusal L i ts ≡ refused_by n k → RefusedAt L i ts n k
unfolding first_refusal
refused_there L i [] n k e = let z : ◌≡◌ {A = ℕ} 0 1 = cc in absurd (omega arith)
refused_there L i (t ∷ ts) n k e = go (verdict L t) refl (refused_there L (i + 1) ts n k) e
  where
    go : (v : Result (Unit {0}) ℕ) → verdict L t ≡ v → (first_refusal L (i + 1) ts ≡ refused_by n k → RefusedAt L (i + 1) ts n k) → refuse v i (first_refusal L (i + 1) ts) ≡ refused_by n k → RefusedAt L i (t ∷ ts) n k
    go (Err m) f later e =
        let alike = refused_same {m = m} {i = i} {n = n} {k = k} e in
        let same = alike.0 in
        let here = alike.1 in
        record { first = []; one = t; rest = ts; split = refl; place = omega arith; fit = tt; row = f ∙ ap Err same }
    go (Ok u) f later e =
        let r = later e in
        record {
          first = t ∷ r.first;
          one = r.one;
          rest = r.rest;
          split = ap (λ (us : List Trapezoid). t ∷ us) r.split;
          place = omega (arith, r.place);
          fit = ((fit_exact L t).0 f, r.fit);
          row = r.row;
        }

pub place_exact : PlaceExact
place_exact L i ts n k = (
  refused_there L i ts n k,
  (λ r. ap (first_refusal L i) r.split ∙ refused_after L i r.first r.one r.rest n r.fit r.row ∙ ap (refused_by n) (sym r.place)),
)

-- ---- what fitness gives
pub grid_more : (L M : ℕ) → L ≤ M → (l : Line) → OnGrid L l → OnGrid M l
grid_more L M h l g = record { x1 = le_trans g.x1 h; y1 = le_trans g.y1 h; x2 = le_trans g.x2 h; y2 = le_trans g.y2 h }

pub fit_more : FitMore
fit_more L M t h k =
    record {
      grid = all_map (grid_more L M h) (lines_of t) k.grid;
      lines = k.lines;
      left = k.left;
      right = k.right;
      bases = k.bases;
      sides = k.sides;
    }

-- the tests' facts of a fit trapezoid, as later proofs use them
module _ {L : ℕ} {t : Trapezoid} (h : FitFor L t) where
  pub left_crosses : T (crosses t.left.first t.left.second)
  left_crosses = (left_row t h.lines).1 h.left

  pub right_crosses : T (crosses t.right.first t.right.second)
  right_crosses = (right_row t h.lines).1 h.right

  pub left_proper : Proper (position t.left)
  left_proper = meet_proper t.left.first t.left.second left_crosses

  pub right_proper : Proper (position t.right)
  right_proper = meet_proper t.right.first t.right.second right_crosses

  pub left_before_right : T (before (position t.left) (position t.right))
  left_before_right = (left_of_exact t.left t.right left_crosses right_crosses).1 h.bases

  pub bottom_line : IsLine t.bottom
  bottom_line = h.lines.1.1.1.1.0

  pub top_line : IsLine t.top
  top_line = h.lines.1.1.1.1.1.0

pub fit_holds_point : FitHoldsPoint
unfolding lies_in
fit_holds_point L t h =
    let p = position t.left in
    let q = position t.right in
    let x = mediant p q in
    let hx = mediant_proper p q (left_proper h) (right_proper h) in
    let px = mediant_after p q (left_before_right h) in
    let xq = mediant-before p q (left_before_right h) in
    let P = on t.bottom x in (
      P,
      on_point t.bottom x (bottom_line h) hx,
      yes_and (based t) _ (yes_and (crosses t.left.first t.left.second) (crosses t.right.first t.right.second) (left_crosses h) (right_crosses h))
          (yes_and (not (before (at P) p)) _ (before→at_most p (at P) (on_after t.bottom x p (bottom_line h) px))
          (yes_and (before (at P) q) _ (on_before t.bottom x q (bottom_line h) xq)
          (yes_and (under P t.bottom) (not (under P t.top)) (on_under t.bottom x) (on_below t.bottom t.top x (h.sides x hx px xq))))),
    )

-- ---- the lines of a fit trapezoid are on the grid
module _ {t : Trapezoid} (h : FitFor coordinate_limit t) where
  pub bottom_grid : OnGrid coordinate_limit t.bottom
  bottom_grid = h.grid.1.1.1.1.0

  pub top_grid : OnGrid coordinate_limit t.top
  top_grid = h.grid.1.1.1.1.1.0
