-- The parts common to one trapezoid and a layer, and to two layers, as folds.
use Rattle.std.specs.Prelude.{Option, Result}
use mathlib.Core.Path.{◌≡◌, refl, sym, ◌∙◌, ap, subst}
use mathlib.Core.Bool.{false}
use mathlib.Core.List.{List, [], ◌∷◌, ◌++◌, append-nil}
use Prim.Native.Nat.{ℕ, ◌+◌, ◌-◌, ◌<◌, ◌≤◌}
use native.Mathlib.Omega.{arith}
use lib.ListN.{length}
use lib.IntN.{ℤ}
use Rattle.records.specs.Limits.{max_records}
use Rattle.records.specs.Records.{record_at, image, count}
use Rattle.records.proofs.Records.{length_from}
use Rattle.geometry.specs.declared.Trapezoid.{Trapezoid}
use Rattle.geometry.specs.Trapezoids.{trapezoid_codec, layer_of}
use Rattle.sources.specs.Sets.{joined}
use Rattle.sources.specs.Sourced.{Sourced, sourced_codec, sourced_of, shapes, sources_at, bearing}
use Rattle.sources.proofs.Sourced.{sourced_at, shapes_of, shapes-length, bearing-length}
use Rattle.overlay.specs.Overlaps.{overlaps}
use Rattle.overlay.specs.Overlay.{overlay, tagged}
use Rattle.boolean.specs.declared.Folded.{Folded}
use Rattle.boolean.specs.Operations.{common}
use Rattle.boolean.specs.Sources.{sourced_common, sourced_intersection}
use Rattle.boolean.specs.Space.{Stage, overlaid, enough, space, common_stages, intersection_stages}
use Rattle.boolean.proofs.Forgetting.{common_forgets}
use Rattle.boolean.proofs.Shifting.{overlaid_shift, common_shift}
use Rattle.boolean.proofs.Apart.{common_apart}
use Rattle.boolean.specs.declared.NoRoom.{NoRoom}
use Rattle.trapezoids_code.specs.Tails.{FilledBy}
use Rattle.trapezoids_code.proofs.Writing.{tail}
use Rattle.remainder_code.specs.Code.{OverlaysWithin, once}
use Rattle.remainder_code.proofs.Answers.{stages_within, within_least, space_overlaid}
use Rattle.remainder_code.proofs.Folding.{Fold, Steps, Folding, fold_next, Turned, fold_turn, fill_turn, Part, appending, appending_steps}
use Rattle.bearing_code.specs.Code.{SourcedAs}
use Rattle.bearing_code.proofs.Bearing.{sourced}

-- a with its set
abbrev pub owned : Trapezoid → ℤ → Sourced
owned a z = record { shape = a; sources = z }

-- ---- one trapezoid and a layer
module _ (a : Sourced) where
  -- the parts common to a and b, with both sets joined
  abbrev both : Sourced → List Sourced
  both b = bearing (joined a.sources b.sources) (tagged 3 (overlay a.shape b.shape))

  common_none : sourced_common a [] ≡ []
  unfolding sourced_common
  common_none = refl

  common_one : (b : Sourced) (bs : List Sourced) → sourced_common a (b ∷ bs) ≡ both b ++ sourced_common a bs
  unfolding sourced_common
  common_one b bs = refl

  common_no_stages : (room k : ℕ) → space room (common_stages k a.shape []) ≡ enough 0
  unfolding space common_stages
  common_no_stages room k = refl

  common_one_stages : (k : ℕ) (b : Sourced) (bs : List Sourced)
      → common_stages k a.shape (shapes (b ∷ bs)) ≡ (overlaid (k + length (both b)) ∷ []) ++ common_stages (k + length (both b)) a.shape (shapes bs)
  unfolding common_stages
  common_one_stages k b bs =
      ap (λ (n : ℕ). overlaid (k + n) ∷ common_stages (k + n) a.shape (shapes bs)) (sym (bearing-length (joined a.sources b.sources) (tagged 3 (overlay a.shape b.shape))))

  abbrev pub common_fold : Fold Sourced Sourced
  common_fold = appending sourced sourced (sourced_common a) (λ k bs. common_stages k a.shape (shapes bs)) both (λ k b left. overlaid (k + length (both b)) ∷ [])

  pub common_steps : Steps common_fold
  common_steps =
      appending_steps sourced sourced (sourced_common a) (λ k bs. common_stages k a.shape (shapes bs)) both (λ k b left. overlaid (k + length (both b)) ∷ [])
      common_none common_one common_no_stages common_one_stages

  pub common_part : {room k left : ℕ} {done : List Sourced} (b : Sourced) → k ≡ length done → k ≤ room
      → let parts = bearing (joined a.sources b.sources) (tagged 3 (overlay a.shape b.shape)) in Part common_fold room done b left (room - k) parts (overlaid (length parts) ∷ [])
  common_part {room} {k} {left} {done} b n l =
      let m = length (both b) in
      record { next = refl; same = ap (λ (x : ℕ). space room (overlaid (x + m) ∷ [])) (sym n) ∙ overlaid_shift room k (room - k) m (omega (arith, l)); within = omega (arith, n, l) }

-- a turn that passes over a trapezoid which a does not overlap adds nothing, and counts one overlay
pub common_passed : (a : Sourced) {W room : ℕ} {goal : List Sourced} {ms : List Stage} {layer out : List ℤ} {k overlays i : ℕ} → Folding (common_fold a) W room goal ms layer out k overlays i
    → i < count trapezoid_codec layer → overlaps a.shape (record_at trapezoid_codec layer i) ≡ false → Folding (common_fold a) W room goal ms layer out k (overlays + 1) (i + 1)
common_passed a {W} {room} {goal} {ms} {layer} {out} {k} {overlays} {i} h l e =
    let b = record_at sourced_codec layer i in
    let z = joined a.sources b.sources in
    let shape : b.shape ≡ record_at trapezoid_codec layer i = ap (λ (r : Sourced). r.shape) (sourced_at layer i) in
    let none : bearing z (tagged 3 (overlay a.shape b.shape)) ≡ [] = ap (bearing z) (common_apart a.shape b.shape (ap (overlaps a.shape) shape ∙ e)) in
    let parts = bearing z (tagged 3 (overlay a.shape b.shape)) in
    let m : length parts ≡ 0 = ap length none in
    let same : h.done ++ parts ≡ h.done = ap (λ (rs : List Sourced). h.done ++ rs) none ∙ append-nil h.done in
    let n = ap length same in
    fold_next h l b refl k 1 out (space_overlaid room (length h.done + length parts) (omega (arith, m, h.size, h.within)))
    (omega (arith, n, h.size), omega (arith, n, h.size, h.within), h.laid ∙ ap (image sourced_codec W) (sym same))

-- a turn that writes the parts common to a and number i, which has this shape and the set z, with both sets joined
pub common_turn : (a : Sourced) {W room : ℕ} {goal : List Sourced} {ms : List Stage} {layer out : List ℤ} {k overlays i : ℕ} (h : Folding (common_fold a) W room goal ms layer out k overlays i)
    → i < count trapezoid_codec layer → (shape : Trapezoid) → shape ≡ record_at trapezoid_codec layer i → (z : ℤ) → z ≡ sources_at layer i → (y : ℤ) → y ≡ joined a.sources z
    → (f : Option ℕ) (t : List ℤ) → FilledBy sourced_codec (length (tail out k)) (room - k) (bearing y (tagged 3 (overlay a.shape shape))) f t → Turned h (room - k) (once f) t
common_turn a {W} {room} {goal} {ms} {layer} {out} {k} {overlays} {i} h l shape s z q y both f t g =
    let b : Sourced = owned shape z in
    let is : b ≡ record_at sourced_codec layer i = (λ j. record { shape = s j; sources = q j }) ∙ sym (sourced_at layer i) in
    let parts = tagged 3 (overlay a.shape shape) in
    fill_turn h l b is (common_part a b h.size h.within) f t (subst (λ (x : ℤ). FilledBy sourced_codec (length (tail out k)) (room - k) (bearing x parts) f t) both g)

-- one stage for each trapezoid of the layer
stages-length : (a : Trapezoid) (k : ℕ) (bs : List Trapezoid) → length (common_stages k a bs) ≡ length bs
unfolding common_stages
stages-length a k [] = refl
stages-length a k (b ∷ bs) = let h = stages-length a (k + length (tagged 3 (overlay a b))) bs in omega (arith, h)

pub common_few : (a : Trapezoid) (layer : List ℤ) → count trapezoid_codec layer ≤ max_records → (n room : ℕ) (rs : List Sourced) (f : Result Folded NoRoom) (d : List ℤ)
    → SourcedAs n room rs (common_stages 0 a (layer_of layer)) f d → OverlaysWithin max_records f
common_few a layer l n room rs f d g =
    let ms = common_stages 0 a (layer_of layer) in
    within_least (length ms) max_records f (omega (arith, stages-length a 0 (layer_of layer), length_from trapezoid_codec (count trapezoid_codec layer) layer 0, l)) (stages_within sourced_codec n room rs ms f d g)

-- ---- two layers, the second by its words
module _ (second : List ℤ) where
  abbrev B : List Sourced
  B = sourced_of second

  abbrev bs : List Trapezoid
  bs = layer_of second

  common_length : (a : Sourced) → length (sourced_common a B) ≡ length (common a.shape bs)
  common_length a = sym (shapes-length (sourced_common a B)) ∙ ap length (common_forgets a B) ∙ ap (λ (ts : List Trapezoid). length (common a.shape ts)) (shapes_of second)

  intersection_none : sourced_intersection [] B ≡ []
  unfolding sourced_intersection
  intersection_none = refl

  intersection_one : (a : Sourced) (A : List Sourced) → sourced_intersection (a ∷ A) B ≡ sourced_common a B ++ sourced_intersection A B
  unfolding sourced_intersection
  intersection_one a A = refl

  intersection_no_stages : (room k : ℕ) → space room (intersection_stages k [] bs) ≡ enough 0
  unfolding space intersection_stages
  intersection_no_stages room k = refl

  intersection_one_stages : (k : ℕ) (a : Sourced) (A : List Sourced)
      → intersection_stages k (shapes (a ∷ A)) bs ≡ common_stages k a.shape bs ++ intersection_stages (k + length (sourced_common a B)) (shapes A) bs
  unfolding intersection_stages
  intersection_one_stages k a A = ap (λ (n : ℕ). common_stages k a.shape bs ++ intersection_stages (k + n) (shapes A) bs) (sym (common_length a))

  abbrev pub intersection_fold : Fold Sourced Sourced
  intersection_fold = appending sourced sourced (λ A. sourced_intersection A B) (λ k A. intersection_stages k (shapes A) bs) (λ a. sourced_common a B) (λ k a left. common_stages k a.shape bs)

  pub intersection_steps : Steps intersection_fold
  intersection_steps =
      appending_steps sourced sourced (λ A. sourced_intersection A B) (λ k A. intersection_stages k (shapes A) bs) (λ a. sourced_common a B) (λ k a left. common_stages k a.shape bs)
      intersection_none intersection_one intersection_no_stages intersection_one_stages

  pub intersection_part : {room k left : ℕ} {done : List Sourced} (a : Sourced) → k ≡ length done → k ≤ room
      → Part intersection_fold room done a left (room - k) (sourced_common a (sourced_of second)) (common_stages 0 a.shape (layer_of second))
  intersection_part {room} {k} {left} {done} a n l =
      record { next = refl; same = ap (λ (x : ℕ). space room (common_stages x a.shape bs)) (sym n) ∙ common_shift room k (room - k) a.shape bs (omega (arith, l)); within = omega (arith, n, l) }

  -- one turn: `shape` with the set z is number i of the first layer, f answers what it has in common with the second, and t comes back as the tail
  module _ {W room : ℕ} {goal : List Sourced} {ms : List Stage} {first out : List ℤ} {k overlays i : ℕ} (h : Folding intersection_fold W room goal ms first out k overlays i) (l : i < count trapezoid_codec first) where
    pub intersection_turn : (shape : Trapezoid) → shape ≡ record_at trapezoid_codec first i → (z : ℤ) → z ≡ sources_at first i → (f : Result Folded NoRoom) (t : List ℤ)
        → SourcedAs (length (tail out k)) (room - k) (sourced_common (owned shape z) (sourced_of second)) (common_stages 0 shape (layer_of second)) f t → Turned h (room - k) f t
    intersection_turn shape s z q f t g = fold_turn h l (owned shape z) ((λ j. record { shape = s j; sources = q j }) ∙ sym (sourced_at first i)) (intersection_part (owned shape z) h.size h.within) f t g
