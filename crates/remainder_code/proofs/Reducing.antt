-- The trapezoids in hand minus a layer, one after the other: a fold that replaces what stands at each turn.
use Rattle.std.specs.Prelude.{Result, Ok, Err}
use mathlib.Core.Path.{◌≡◌, refl, sym, ◌∙◌, ap, subst}
use mathlib.Core.List.{List, [], ◌∷◌, ◌++◌}
use Prim.Native.Nat.{ℕ, ◌+◌, ◌*◌, ◌-◌, ◌<◌, ◌≤◌}
use native.Mathlib.Omega.{arith}
use lib.ListN.{length}
use lib.IntN.{ℤ, pos}
use Rattle.lists.specs.Lists.{All}
use Rattle.lists.proofs.Lists.{all_right}
use Rattle.records.specs.Limits.{max_records}
use Rattle.records.specs.Records.{record_at, records_from, count, Blank}
use Rattle.records.proofs.Records.{from_none, from_append}
use Rattle.geometry.specs.declared.Trapezoid.{Trapezoid}
use Rattle.geometry.specs.Limit.{coordinate_limit}
use Rattle.geometry.specs.Fitness.{FitFor}
use Rattle.geometry.specs.Trapezoids.{trapezoid_codec, layer_of}
use Rattle.boolean.specs.declared.Folded.{Folded}
use Rattle.boolean.specs.Operations.{minus, minus_all}
use Rattle.boolean.specs.Space.{enough, space, minus_stages, minus_all_stages}
use Rattle.boolean.proofs.Kept.{minus_fit}
use Rattle.boolean.specs.declared.NoRoom.{NoRoom}
use Rattle.boolean.specs.Folds.{folded}
use Rattle.trapezoids_code.proofs.Writing.{plain}
use Rattle.remainder_code.specs.Code.{from, leading, with_overlays, OverlaysWithin, Remaining, FoldedAs, ScratchFor}
use Rattle.remainder_code.proofs.Answers.{folded_within, within_least, filled_remaining, leading_filled}
use Rattle.remainder_code.proofs.Folding.{Fold, Steps, Folding, fold_from, fold_leading, fold_stands, fold_fit, fold_no_room, fold_next}
use Rattle.remainder_code.proofs.MinusFold.{stages-length}

-- a layer's trapezoids before number i, and those from there on
pub layer_split : (s : List ℤ) (i : ℕ) → i ≤ count trapezoid_codec s → layer_of s ≡ records_from trapezoid_codec i s 0 ++ from s i
layer_split s i l =
    let n = count trapezoid_codec s in
    let e : i + (n - i) ≡ n = omega (arith, l) in
    let z : 0 + i ≡ i = omega arith in
    ap (λ (m : ℕ). records_from trapezoid_codec m s 0) (sym e) ∙ from_append trapezoid_codec i (n - i) s 0 ∙ ap (λ (m : ℕ). records_from trapezoid_codec i s 0 ++ records_from trapezoid_codec (n - i) s m) z

-- what holds of each trapezoid of a layer holds from number i on, and of number i
pub all_from : (P : Trapezoid → Type 0) (s : List ℤ) (i : ℕ) → All P (layer_of s) → i ≤ count trapezoid_codec s → All P (from s i)
all_from P s i h l = all_right P (records_from trapezoid_codec i s 0) (from s i) (subst (All P) (layer_split s i l) h)

-- ---- the definitions, step by step
pub all_none : (rs : List Trapezoid) → minus_all rs [] ≡ rs
unfolding minus_all
all_none rs = refl

pub all_one : (rs bs : List Trapezoid) (b : Trapezoid) → minus_all rs (b ∷ bs) ≡ minus_all (minus rs b) bs
unfolding minus_all
all_one rs bs b = refl

pub all-stages_none : (room k : ℕ) (rs : List Trapezoid) → space room (minus_all_stages k rs []) ≡ enough 0
unfolding minus_all_stages space
all-stages_none room k rs = refl

pub all-stages_one : (k : ℕ) (rs bs : List Trapezoid) (b : Trapezoid) → minus_all_stages k rs (b ∷ bs) ≡ minus_stages k rs b ++ minus_all_stages k (minus rs b) bs
unfolding minus_all_stages
all-stages_one k rs bs b = refl

-- nothing in hand stays nothing
all-empty : (bs : List Trapezoid) → minus_all [] bs ≡ []
unfolding minus_all minus
all-empty [] = refl
all-empty (b ∷ bs) = all-empty bs

all-stages_empty : (room k : ℕ) (bs : List Trapezoid) → space room (minus_all_stages k [] bs) ≡ enough 0
unfolding minus_all_stages minus_stages minus space
all-stages_empty room k [] = refl
all-stages_empty room k (b ∷ bs) = all-stages_empty room k bs

abbrev pub minus_all_fold : Fold Trapezoid Trapezoid
minus_all_fold = record { kind = plain; items = plain; result = minus_all; stages = λ done ts. minus_all_stages 0 done ts; next = minus; turn = λ done b left. minus_stages 0 done b }

minus-all_steps : Steps minus_all_fold
minus-all_steps = record { none = all_none; one = all_one; no_stages = λ room done. all-stages_none room 0 done; one_stages_lem = λ done ts b. all-stages_one 0 done ts b }

-- ---- the loop
-- from number `start` of the layer on, with what remains of rs in hand
pub record Reducing (W room : ℕ) (layer : List ℤ) (rs : List Trapezoid) (start : ℕ) (out scratch : List ℤ) (k made i : ℕ) : Type 0 where
  pub folding : Folding minus_all_fold W room (minus_all rs (from layer start)) (minus_all_stages 0 rs (from layer start)) layer out k made i
  pub remainder : Remaining out k room
  pub few : made ≤ max_records * (i - start)
  pub some : start ≤ i
  pub scratch_for : ScratchFor out scratch

pub reduce_start : (room : ℕ) (layer out scratch : List ℤ) (k start : ℕ) → Remaining out k room → All (FitFor coordinate_limit) (layer_of layer) → start ≤ count trapezoid_codec layer → ScratchFor out scratch
    → Reducing (length out) room layer (leading out k) start out scratch k 0 start
reduce_start room layer out scratch k start h f l z =
    record {
      folding = fold_from minus_all_fold minus-all_steps room layer out (leading out k) (minus_all_stages 0 (leading out k) (from layer start)) k start (leading_filled out k room h.is h.within) h.wide refl l (all_from (FitFor coordinate_limit) layer start f l);
      remainder = h;
      few = omega arith;
      some = omega arith;
      scratch_for = z;
    }

module _ {W room : ℕ} {layer : List ℤ} {rs : List Trapezoid} {start : ℕ} {out scratch : List ℤ} {k made i : ℕ} (h : Reducing W room layer rs start out scratch k made i) where
  pub reduce_none : k ≡ 0 → FoldedAs W room (minus_all rs (from layer start)) (minus_all_stages 0 rs (from layer start)) (folded k made) out
  reduce_none z =
      let e : h.folding.done ≡ [] = sym (fold_leading h.folding) ∙ ap (λ (m : ℕ). records_from trapezoid_codec m out 0) z ∙ from_none trapezoid_codec 0 out 0 (omega arith) in
      fold_stands h.folding (ap (λ (ts : List Trapezoid). minus_all ts (from layer i)) e ∙ all-empty (from layer i) ∙ sym e)
      (ap (λ (ts : List Trapezoid). space room (minus_all_stages 0 ts (from layer i))) e ∙ all-stages_empty room 0 (from layer i)) made refl

  abbrev F : Folding minus_all_fold W room (minus_all rs (from layer start)) (minus_all_stages 0 rs (from layer start)) layer out k made i
  F = h.folding

  -- what a turn's answer, with the overlays made before, says of the loop, when the buffer comes back as t and the scratch area as w
  pub record Reduced (g : Result Folded NoRoom) (t w : List ℤ) : Type 0 where
    pub full : (r : NoRoom) → g ≡ Err r → FoldedAs W room (minus_all rs (from layer start)) (minus_all_stages 0 rs (from layer start)) (Err r) t
    pub full_few : (r : NoRoom) → g ≡ Err r → r.overlays ≤ max_records * (i + 1 - start)
    pub keeps : (f : Folded) → g ≡ Ok f → Reducing W room layer rs start t w f.trapezoids f.overlays (i + 1)

  module _ (small : room ≤ max_records) (b : Trapezoid) (f : Result Folded NoRoom) (t : List ℤ) (g : FoldedAs (length out) room (minus (leading out k) b) (minus_stages 0 (leading out k) b) f t) where
    known : FoldedAs W room (minus F.done b) (minus_stages 0 F.done b) f t
    known = rw (fold_leading F, F.long) at g

    pub reduce_few : OverlaysWithin max_records f
    reduce_few = within_least (length (minus_stages 0 F.done b)) max_records f (omega (arith, stages-length 0 F.done b, F.size, F.within, small)) (folded_within W room (minus F.done b) (minus_stages 0 F.done b) f t known)

    pub reduce_turn : (l : i < count trapezoid_codec layer) → b ≡ record_at trapezoid_codec layer i → (w : List ℤ) → Blank (pos 0) w → length w ≡ length scratch → Reduced (with_overlays made f) t w
    reduce_turn l is w z n = go f known reduce_few
      where
        go : (f : Result Folded NoRoom) → FoldedAs W room (minus F.done b) (minus_stages 0 F.done b) f t → OverlaysWithin max_records f → Reduced (with_overlays made f) t w
        go (Err r) g few =
            record {
              full = λ q e. subst (λ (x : Result Folded NoRoom). FoldedAs W room (minus_all rs (from layer start)) (minus_all_stages 0 rs (from layer start)) x t) e (fold_no_room F l b is r.overlays g.0, g.1);
              full_few = λ q e. let s : made + r.overlays ≡ q.overlays = cc in omega (arith, h.few, h.some, few, s);
              keeps = λ q e. cc;
            }
        go (Ok r) g few =
            let s = fold_next F l b is r.trapezoids r.overlays t g.0 g.1 in
            let next : Reducing W room layer rs start t w r.trapezoids (made + r.overlays) (i + 1) = record {
              folding = s;
              remainder = filled_remaining W room (minus F.done b) r.trapezoids t g.1 s.long s.wide (minus_fit coordinate_limit F.done b (subst (All (FitFor coordinate_limit)) (fold_leading F) h.remainder.fit) (fold_fit F l b is));
              few = omega (arith, h.few, h.some, few);
              some = omega (arith, h.some);
              scratch_for = (z, n ∙ h.scratch_for.1 ∙ F.long ∙ sym s.long);
            } in
            record {
              full = λ q e. cc;
              full_few = λ q e. cc;
              keeps = λ q e. let u : r.trapezoids ≡ q.trapezoids = cc in let v : made + r.overlays ≡ q.overlays = cc in rw (← u, ← v) next;
            }
