-- What is left of a trapezoid lies in its box: where the box of another is disjoint from that, all of it stands.
use Rattle.std.specs.Prelude.{Some, Result, Ok, Err}
use mathlib.Core.Path.{◌≡◌, refl, sym, ◌∙◌, ap, subst}
use mathlib.Core.Bool.{true}
use mathlib.Core.List.{List, [], ◌∷◌}
use Prim.Native.Nat.{ℕ, ◌<◌}
use native.Mathlib.Omega.{arith}
use lib.ListN.{length}
use lib.IntN.{ℤ}
use Rattle.lists.specs.Lists.{All}
use Rattle.records.specs.Records.{record_at, count}
use Rattle.records.proofs.Records.{length_from}
use Rattle.geometry.specs.declared.Trapezoid.{Trapezoid}
use Rattle.geometry.specs.declared.Placed.{Placed}
use Rattle.geometry.specs.Limit.{coordinate_limit}
use Rattle.geometry.specs.Fitness.{FitFor}
use Rattle.geometry.specs.Trapezoids.{trapezoid_codec}
use Rattle.overlay.specs.Overlaps.{overlaps}
use Rattle.boolean.specs.declared.Folded.{Folded}
use Rattle.boolean.specs.Operations.{minus}
use Rattle.boolean.specs.Space.{minus_stages}
use Rattle.boolean.specs.declared.NoRoom.{NoRoom}
use Rattle.boolean.specs.Folds.{folded}
use Rattle.boxes.specs.declared.Box.{Box}
use Rattle.boxes.specs.Boxes.{boxes_disjoint, Encloses}
use Rattle.boxes.proofs.Rejecting.{box_encloses, encloses_minus}
use Rattle.boxes_code.specs.Code.{box_at, BoxedAs, BoxedLayer}
use Rattle.boxes_code.proofs.Layers.{none_at}
use Rattle.trapezoids_code.specs.Tails.{FilledAs}
use Rattle.remainder_code.specs.Code.{leading, with_overlays, Remaining, FoldedAs, before_first}
use Rattle.remainder_code.proofs.Answers.{filled_leading}
use Rattle.remainder_code.proofs.Apart.{before_none}
use Rattle.remainder_code.proofs.Leading.{front_leading}
use Rattle.remainder_code.proofs.Standing.{stand_all}

-- the n trapezoids of the remainder stand, whatever number i of the layer takes away
pub stand_by_boxes : (out : List ℤ) (n room : ℕ) (s d : List ℤ) (i : ℕ) (e : Box) → Remaining out n room → Encloses e (leading out n) → BoxedLayer s d → i < count trapezoid_codec s → boxes_disjoint e (box_at d i) ≡ true
    → FoldedAs (length out) room (minus (leading out n) (record_at trapezoid_codec s i)) (minus_stages 0 (leading out n) (record_at trapezoid_codec s i)) (folded n n) out
stand_by_boxes out n room s d i e h w b l t =
    let x = record_at trapezoid_codec s i in
    let all : before_first (λ t. overlaps t x) (leading out n) ≡ n = before_none (λ t. overlaps t x) (leading out n) (none_at s d b i l e (leading out n) w h.fit t) ∙ length_from trapezoid_codec n out 0 in
    stand_all out n room h x n (sym (ap (before_first (λ t. overlaps t x)) (front_leading out n room h) ∙ all)) refl

-- the box encloses what a step has left: with its overlays and n more, the step answers r
filled_enclosed : (m room : ℕ) (e : Box) (rs : List Trapezoid) (b : Trapezoid) (t : List ℤ) (p : ℕ) → FilledAs m room (minus rs b) (Some p) t
    → All (FitFor coordinate_limit) rs → FitFor coordinate_limit b → Encloses e rs → Encloses e (leading t p)
filled_enclosed m room e rs b t p g hs hb w = subst (Encloses e) (sym (filled_leading m room (minus rs b) p t g)) (encloses_minus coordinate_limit e rs b hs hb w)

pub left_enclosed : (m room : ℕ) (e : Box) (rs : List Trapezoid) (b : Trapezoid) (f : Result Folded NoRoom) (t : List ℤ) (n : ℕ) (r : Folded) → FoldedAs m room (minus rs b) (minus_stages 0 rs b) f t → with_overlays n f ≡ Ok r
    → All (FitFor coordinate_limit) rs → FitFor coordinate_limit b → Encloses e rs → Encloses e (leading t r.trapezoids)
left_enclosed m room e rs b (Err q) t n r g z hs hb w = cc
left_enclosed m room e rs b (Ok q) t n r g z hs hb w =
    let s : q.trapezoids ≡ r.trapezoids = cc in
    subst (λ (p : ℕ). Encloses e (leading t p)) s (filled_enclosed m room e rs b t q.trapezoids g.1 hs hb w)

-- and of a trapezoid what the first step has left
pub first_enclosed : (m room : ℕ) (e : Box) (a : Placed) (b : Trapezoid) (f : Result Folded NoRoom) (t : List ℤ) (p c : ℕ) → FoldedAs m room (minus (a.shape ∷ []) b) (minus_stages 0 (a.shape ∷ []) b) f t → f ≡ folded p c → BoxedAs a e → FitFor coordinate_limit b
    → Encloses e (leading t p)
first_enclosed m room e a b f t p c g z h hb =
    let k = subst (λ (f : Result Folded NoRoom). FoldedAs m room (minus (a.shape ∷ []) b) (minus_stages 0 (a.shape ∷ []) b) f t) z g in
    filled_enclosed m room e (a.shape ∷ []) b t p k.1 (h.placed.fit, tt) hb (subst (λ (x : Box). Encloses x (a.shape ∷ [])) (sym h.box) (box_encloses coordinate_limit (omega arith) a.shape h.placed.fit))
