-- What the operands' trapezoids have and the overlay keeps, the results' trapezoids have: to be fit, and to have only lines of the operands.
use mathlib.Core.List.{List, [], ◌∷◌, ◌++◌}
use mathlib.Core.Logic.{inl, inr}
use Prim.Native.Nat.{ℕ}
use Rattle.lists.specs.Lists.{All, Member}
use Rattle.lists.proofs.Lists.{all_append, all_left, all_right, all_map, all_both, all_with}
use Rattle.lists.proofs.Members.{all_member, members}
use Rattle.geometry.specs.declared.Line.{Line}
use Rattle.geometry.specs.declared.Trapezoid.{Trapezoid}
use Rattle.geometry.specs.Trapezoids.{lines_of}
use Rattle.geometry.specs.Fitness.{FitFor}
use Rattle.overlay.specs.Overlay.{overlay, tagged}
use Rattle.overlay.proofs.Tagged.{tagged_fit, tagged_lines}
use Rattle.boolean.specs.Operations.{Code, union, intersect, a_minus_b, b_minus_a, symmetric_difference, minus, minus_all, difference, common, intersection, result, deoverlapped_from, deoverlapped}
use Rattle.boolean.specs.Statements.{ResultFit, ResultLines, LineOf, LinesFrom, DeoverlappedFit, DeoverlappedLines}

module _ (R : Trapezoid → Type 0) (keeps : (n : ℕ) (a b : Trapezoid) → R a → R b → All R (tagged n (overlay a b))) where
  pub minus_kept : (rs : List Trapezoid) (b : Trapezoid) → All R rs → R b → All R (minus rs b)
  unfolding minus
  minus_kept [] b h k = tt
  minus_kept (r ∷ rs) b h k = all_append R (tagged 1 (overlay r b)) (minus rs b) (keeps 1 r b h.0 k) (minus_kept rs b h.1 k)

  pub minus_all_kept : (rs bs : List Trapezoid) → All R rs → All R bs → All R (minus_all rs bs)
  unfolding minus_all
  minus_all_kept rs [] h k = h
  minus_all_kept rs (b ∷ bs) h k = minus_all_kept (minus rs b) bs (minus_kept rs b h k.0) k.1

  pub difference_kept : (A B : List Trapezoid) → All R A → All R B → All R (difference A B)
  unfolding difference
  difference_kept [] B h k = tt
  difference_kept (a ∷ A) B h k = all_append R (minus_all (a ∷ []) B) (difference A B) (minus_all_kept (a ∷ []) B (h.0, tt) k) (difference_kept A B h.1 k)

  common_kept : (a : Trapezoid) (bs : List Trapezoid) → R a → All R bs → All R (common a bs)
  unfolding common
  common_kept a [] h k = tt
  common_kept a (b ∷ bs) h k = all_append R (tagged 3 (overlay a b)) (common a bs) (keeps 3 a b h k.0) (common_kept a bs h k.1)

  intersection_kept : (A B : List Trapezoid) → All R A → All R B → All R (intersection A B)
  unfolding intersection
  intersection_kept [] B h k = tt
  intersection_kept (a ∷ A) B h k = all_append R (common a B) (intersection A B) (common_kept a B h.0 k) (intersection_kept A B h.1 k)

  pub result_kept : (c : Code) (A B : List Trapezoid) → All R A → All R B → All R (result c A B)
  result_kept union A B h k = all_append R A (difference B A) h (difference_kept B A k h)
  result_kept intersect A B h k = intersection_kept A B h k
  result_kept a_minus_b A B h k = difference_kept A B h k
  result_kept b_minus_a A B h k = difference_kept B A k h
  result_kept symmetric_difference A B h k = all_append R (difference A B) (difference B A) (difference_kept A B h k) (difference_kept B A k h)

  pub deoverlapped_from_kept : (done A : List Trapezoid) → All R done → All R A → All R (deoverlapped_from done A)
  unfolding deoverlapped_from
  deoverlapped_from_kept done [] h k = h
  deoverlapped_from_kept done (a ∷ A) h k =
      deoverlapped_from_kept (done ++ minus_all (a ∷ []) done) A (all_append R done (minus_all (a ∷ []) done) h (minus_all_kept (a ∷ []) done (k.0, tt) h)) k.1

-- ---- fit
module _ (L : ℕ) where
  keeps_fit : (n : ℕ) (a b : Trapezoid) → FitFor L a → FitFor L b → All (FitFor L) (tagged n (overlay a b))
  keeps_fit n a b ha hb = tagged_fit ha hb n

  pub minus_fit : (rs : List Trapezoid) (b : Trapezoid) → All (FitFor L) rs → FitFor L b → All (FitFor L) (minus rs b)
  minus_fit = minus_kept (FitFor L) keeps_fit

  pub minus_all_fit : (rs bs : List Trapezoid) → All (FitFor L) rs → All (FitFor L) bs → All (FitFor L) (minus_all rs bs)
  minus_all_fit = minus_all_kept (FitFor L) keeps_fit

  pub difference_fit : (A B : List Trapezoid) → All (FitFor L) A → All (FitFor L) B → All (FitFor L) (difference A B)
  difference_fit = difference_kept (FitFor L) keeps_fit

pub result_fit : ResultFit
result_fit L A B hA hB c = result_kept (FitFor L) (keeps_fit L) c A B hA hB

pub deoverlapped_fit : DeoverlappedFit
deoverlapped_fit L A hA = deoverlapped_from_kept (FitFor L) (keeps_fit L) [] A tt hA

-- ---- lines
-- fit, with lines that have Q
abbrev FitWith : ℕ → (Line → Type 0) → Trapezoid → Type 0
FitWith L Q t = FitFor L t × All Q (lines_of t)

keeps_lines : (L : ℕ) (Q : Line → Type 0) (n : ℕ) (a b : Trapezoid) → FitWith L Q a → FitWith L Q b → All (FitWith L Q) (tagged n (overlay a b))
keeps_lines L Q n a b ha hb =
    all_with
    (λ t f h. (f, all_map (λ l m. all_member Q l (lines_of a ++ lines_of b) (all_append Q (lines_of a) (lines_of b) ha.1 hb.1) m) (lines_of t) h))
    (tagged n (overlay a b))
    (tagged_fit ha.0 hb.0 n)
    (tagged_lines ha.0 hb.0 n)

abbrev HasLines : List Trapezoid → Trapezoid → Type 0
HasLines us t = All (LineOf us) (lines_of t)

-- every layer has the lines that it has
own_lines : (ts : List Trapezoid) → LinesFrom ts ts
own_lines [] = tt
own_lines (t ∷ ts) = (
  all_map {P = λ (l : Line). Member l (lines_of t)} {Q = LineOf (t ∷ ts)} (λ l h. inl h) (lines_of t) (members (lines_of t)),
  all_map {P = HasLines ts} {Q = HasLines (t ∷ ts)} (λ u h. all_map {P = LineOf ts} {Q = LineOf (t ∷ ts)} (λ l k. inr k) (lines_of u) h) ts (own_lines ts),
)

pub result_lines : ResultLines
result_lines L A B hA hB c =
    all_map (λ t h. h.1) (result c A B)
    (result_kept (FitWith L (LineOf (A ++ B))) (keeps_lines L (LineOf (A ++ B))) c A B
    (all_both (FitFor L) (HasLines (A ++ B)) A hA (all_left (HasLines (A ++ B)) A B (own_lines (A ++ B))))
    (all_both (FitFor L) (HasLines (A ++ B)) B hB (all_right (HasLines (A ++ B)) A B (own_lines (A ++ B)))))

pub deoverlapped_lines : DeoverlappedLines
deoverlapped_lines L A hA =
    all_map (λ t h. h.1) (deoverlapped A)
    (deoverlapped_from_kept (FitWith L (LineOf A)) (keeps_lines L (LineOf A)) [] A tt (all_both (FitFor L) (HasLines A) A hA (own_lines A)))
