-- A layer deoverlapped: a fold that adds each trapezoid minus what stands, with its set.
use Rattle.std.specs.Prelude.{Some, Result}
use mathlib.Core.Path.{◌≡◌, refl, sym, ◌∙◌, ap, subst}
use mathlib.Core.List.{List, [], ◌∷◌, ◌++◌}
use Prim.Native.Nat.{ℕ, ◌+◌, ◌*◌, ◌-◌, ◌<◌, ◌≤◌}
use native.Mathlib.Omega.{arith}
use lib.ListN.{length, take}
use lib.Seq.{take-take}
use lib.IntN.{ℤ, pos}
use Rattle.lists.specs.Lists.{All}
use Rattle.lists.proofs.Lists.{all_append}
use Rattle.records.specs.Limits.{memory_width, max_records}
use Rattle.records.specs.Records.{record_at, count, Blank}
use Rattle.records.proofs.Records.{from_none}
use Rattle.geometry.specs.declared.Trapezoid.{Trapezoid}
use Rattle.geometry.specs.Limit.{coordinate_limit}
use Rattle.geometry.specs.Fitness.{FitFor}
use Rattle.geometry.specs.Trapezoids.{trapezoid_codec, layer_of}
use Rattle.sources.specs.Sourced.{Sourced, sourced_codec, sourced_of, sources_at, shapes, bearing}
use Rattle.sources.proofs.Sourced.{sourced_at, shapes-from, shapes_of, shapes_append, shapes-length, shapes-bearing}
use Rattle.boolean.specs.declared.Folded.{Folded}
use Rattle.boolean.specs.Operations.{minus_all}
use Rattle.boolean.specs.Sources.{sourced_deoverlapped, sourced_deoverlapped_from}
use Rattle.boolean.specs.Space.{enough, no_room, space, one_stages, deoverlapped_stages}
use Rattle.boolean.proofs.Kept.{minus_all_fit}
use Rattle.boolean.proofs.Shifting.{one_shift}
use Rattle.boolean.specs.declared.NoRoom.{NoRoom}
use Rattle.boolean.specs.Folds.{folded, no_room_after}
use Rattle.boxes.specs.Boxes.{box_of}
use Rattle.trapezoids_code.specs.Tails.{Borrowed, FilledBy}
use Rattle.trapezoids_code.proofs.Writing.{tail}
use Rattle.boxes_code.specs.Code.{box_width, FirstBoxes, BoxesOf}
use Rattle.remainder_code.specs.Code.{front, rest, leading, overlays_of_one, max_overlays, OverlaysWithin, ScratchFor}
use Rattle.remainder_code.proofs.Answers.{within_no_room, within_done}
use Rattle.remainder_code.proofs.Leading.{rest_is, back_whole, front_length, front_count}
use Rattle.remainder_code.proofs.Folding.{Fold, Steps, Folding, blank_start, fold_leading, fold_words, fold_borrowed, fold_added, fold_fit, fold_no_room, fold_next}
use Rattle.bearing_code.specs.Code.{SourcedAs, standing, OneBearing}
use Rattle.bearing_code.proofs.Bearing.{sourced, filled_standing}
use Rattle.deoverlap_code.specs.Code.{BlankPast}
use Rattle.deoverlap_code.proofs.Past.{record_take, front-layer_is, front_fits}

-- ---- the definitions, step by step
-- what one adds to those that stand
abbrev added : List Sourced → Sourced → List Sourced
added done a = bearing a.sources (minus_all (a.shape ∷ []) (shapes done))

shapes-added : (done : List Sourced) (a : Sourced) → shapes (done ++ added done a) ≡ shapes done ++ minus_all (a.shape ∷ []) (shapes done)
shapes-added done a = let us = minus_all (a.shape ∷ []) (shapes done) in shapes_append done (added done a) ∙ ap (λ (ts : List Trapezoid). shapes done ++ ts) (shapes-bearing a.sources us)

from_nothing : (done : List Sourced) → sourced_deoverlapped_from done [] ≡ done
unfolding sourced_deoverlapped_from
from_nothing done = refl

from_one : (done A : List Sourced) (a : Sourced) → sourced_deoverlapped_from done (a ∷ A) ≡ sourced_deoverlapped_from (done ++ added done a) A
unfolding sourced_deoverlapped_from
from_one done A a = refl

stages_nothing : (room : ℕ) (done : List Sourced) → space room (deoverlapped_stages (shapes done) (shapes [])) ≡ enough 0
unfolding space deoverlapped_stages
stages_nothing room done = refl

stages_one : (done A : List Sourced) (a : Sourced)
    → deoverlapped_stages (shapes done) (shapes (a ∷ A)) ≡ one_stages (length (shapes done)) a.shape (shapes done) ++ deoverlapped_stages (shapes (done ++ added done a)) (shapes A)
unfolding deoverlapped_stages
stages_one done A a = ap (λ (ts : List Trapezoid). one_stages (length (shapes done)) a.shape (shapes done) ++ deoverlapped_stages ts (shapes A)) (sym (shapes-added done a))

abbrev pub deoverlap_fold : Fold Sourced Sourced
deoverlap_fold =
    record {
      kind = sourced;
      items = sourced;
      result = sourced_deoverlapped_from;
      stages = λ done A. deoverlapped_stages (shapes done) (shapes A);
      next = λ done a. done ++ added done a;
      turn = λ done a left. one_stages (length (shapes done)) a.shape (shapes done);
    }

deoverlap_steps : Steps deoverlap_fold
deoverlap_steps = record { none = from_nothing; one = from_one; no_stages = stages_nothing; one_stages_lem = stages_one }

-- ---- the loop
-- what stands, without its sets
standing-shapes : (d : List ℤ) (n : ℕ) (rs : List Sourced) → standing d n ≡ rs → leading d n ≡ shapes rs
standing-shapes d n rs e = sym (shapes-from n d 0) ∙ ap shapes e

pub record Deoverlapping (W room : ℕ) (layer out scratch : List ℤ) (k sum i : ℕ) : Type 0 where
  pub folding : Folding deoverlap_fold W room (sourced_deoverlapped (sourced_of layer)) (deoverlapped_stages [] (layer_of layer)) layer out k sum i
  pub fit : All (FitFor coordinate_limit) (leading out k)
  pub few : sum ≤ overlays_of_one * i
  pub scratch_for : ScratchFor out scratch

pub deoverlap_start : (room : ℕ) (layer out scratch : List ℤ) → Borrowed out room → All (FitFor coordinate_limit) (layer_of layer) → ScratchFor out scratch → Deoverlapping (length out) room layer out scratch 0 0 0
deoverlap_start room layer out scratch h f z =
    record {
      folding = blank_start deoverlap_fold deoverlap_steps room layer out (deoverlapped_stages [] (layer_of layer)) (ap (deoverlapped_stages []) (sym (shapes_of layer))) h f;
      fit = subst (All (FitFor coordinate_limit)) (sym (from_none trapezoid_codec 0 out 0 (omega arith))) tt;
      few = omega arith;
      scratch_for = z;
    }

module _ {W room : ℕ} {layer out scratch : List ℤ} {k sum i : ℕ} (h : Deoverlapping W room layer out scratch k sum i) where
  abbrev F : Folding deoverlap_fold W room (sourced_deoverlapped (sourced_of layer)) (deoverlapped_stages [] (layer_of layer)) layer out k sum i
  F = h.folding

  pub deoverlap_few : count trapezoid_codec layer ≤ max_records → sum ≤ max_overlays
  deoverlap_few l = omega (arith, h.few, F.upto, l)

  pub deoverlap_past : BlankPast out k room
  deoverlap_past =
      record {
        blank = subst (Blank (pos 0)) (rest_is out k) (fold_borrowed F 0 (omega (arith, F.within))).blank;
        within = F.within;
        wide = omega (arith, F.wide, F.long);
      }

  -- what an answer says of the loop, when the buffer comes back as t and the scratch area as w
  pub record Deoverlapped (f : Result Folded NoRoom) (t w : List ℤ) : Type 0 where
    pub full : (c : ℕ) → f ≡ no_room_after c → space room (deoverlapped_stages [] (layer_of layer)) ≡ no_room (sum + c)
    pub full_few : (c : ℕ) → f ≡ no_room_after c → sum + c ≤ overlays_of_one * (i + 1)
    pub fits : (m c : ℕ) → f ≡ folded m c → k + m ≤ room
    pub keeps : (m c : ℕ) → f ≡ folded m c → Deoverlapping W room layer t w (k + m) (sum + c) (i + 1)

  -- `shape` with the set y is number i of the layer, and f answers it minus what the result holds, past k records of t that stand
  pub deoverlap_turn : (l : i < count trapezoid_codec layer) (shape : Trapezoid) → shape ≡ record_at trapezoid_codec layer i → (y : ℤ) → y ≡ sources_at layer i → (f : Result Folded NoRoom) (t w : List ℤ)
      → OneBearing (rest out k) (room - k) y shape (leading out k) f (rest t k) → OverlaysWithin overlays_of_one f → front t k ≡ front out k
      → Blank (pos 0) w → length w ≡ length scratch → Deoverlapped f t w
  deoverlap_turn l shape e y q f t w g u stands z n = record { full = full; full_few = full_few; fits = fits; keeps = keeps }
    where
      a : Sourced
      a = record { shape = shape; sources = y }

      is : a ≡ record_at sourced_codec layer i
      is = (λ j. record { shape = e j; sources = q j }) ∙ sym (sourced_at layer i)

      before : leading out k ≡ shapes F.done
      before = standing-shapes out k F.done (fold_leading F)

      known : (r : Result Folded NoRoom) → f ≡ r → SourcedAs (length (tail out k)) (room - k) (added F.done a) (one_stages 0 a.shape (shapes F.done)) r (rest t k)
      known r e = rw (rest_is out k) (rw (before, e) at g)

      same : space room (one_stages (length (shapes F.done)) a.shape (shapes F.done)) ≡ space (room - k) (one_stages 0 a.shape (shapes F.done))
      same =
          ap (λ (y : ℕ). space room (one_stages y a.shape (shapes F.done))) (shapes-length F.done ∙ sym F.size)
          ∙ one_shift room k (room - k) a.shape (shapes F.done) (omega (arith, F.within))

      laid : (m c : ℕ) → f ≡ folded m c → FilledBy sourced_codec W room (F.done ++ added F.done a) (Some (k + m)) t
      laid m c e =
          subst (FilledBy sourced_codec W room (F.done ++ added F.done a) (Some (k + m))) (back_whole out k (fold_words F) t stands)
          (fold_added F (room - k) (added F.done a) m (rest t k) (omega (arith, F.within)) (known (folded m c) e).1)

      full : (c : ℕ) → f ≡ no_room_after c → space room (deoverlapped_stages [] (layer_of layer)) ≡ no_room (sum + c)
      full c e = fold_no_room F l a is c (same ∙ (known (no_room_after c) e).0)

      full_few : (c : ℕ) → f ≡ no_room_after c → sum + c ≤ overlays_of_one * (i + 1)
      full_few c e = omega (arith, h.few, within_no_room overlays_of_one c f e u)

      fits : (m c : ℕ) → f ≡ folded m c → k + m ≤ room
      fits m c e = let b = laid m c e in omega (arith, b.0, b.1)

      hand_fit : FitFor coordinate_limit a.shape
      hand_fit = fold_fit F l a.shape (ap (λ (r : Sourced). r.shape) (is ∙ sourced_at layer i))

      keeps : (m c : ℕ) → f ≡ folded m c → Deoverlapping W room layer t w (k + m) (sum + c) (i + 1)
      keeps m c e =
          let b = laid m c e in
          let s = fold_next F l a is (k + m) c t (same ∙ (known (folded m c) e).0) b in
          let y = subst (All (FitFor coordinate_limit)) before h.fit in
          let us = minus_all (a.shape ∷ []) (shapes F.done) in
          let after = standing-shapes t (k + m) (F.done ++ added F.done a) (filled_standing W room (F.done ++ added F.done a) (k + m) t b) ∙ shapes-added F.done a in
          record {
            folding = s;
            fit = subst (All (FitFor coordinate_limit)) (sym after)
                (all_append (FitFor coordinate_limit) (shapes F.done) us y (minus_all_fit coordinate_limit (a.shape ∷ []) (shapes F.done) (hand_fit, tt) y));
            few = omega (arith, h.few, within_done overlays_of_one m c f e u);
            scratch_for = (z, n ∙ h.scratch_for.1 ∙ F.long ∙ sym s.long);
          }

-- ---- the boxes of what the result holds
pub boxes_start : (out boxes : List ℤ) → BoxesOf (front out 0) boxes
boxes_start out boxes = record { room = omega arith; each = λ i l. absurd (omega (arith, l)) }

-- the result is t, with m more past its first k records, whose boxes stand
pub boxes_more : (out t boxes : List ℤ) (k m room : ℕ) → BlankPast out k room → BlankPast t (k + m) room → All (FitFor coordinate_limit) (leading t (k + m)) → front t k ≡ front out k → box_width * room ≤ length boxes
    → BoxesOf (front out k) boxes → All (FitFor coordinate_limit) (layer_of (front t (k + m))) × (k ≤ count trapezoid_codec (front t (k + m))) × FirstBoxes k (front t (k + m)) boxes
boxes_more out t boxes k m room h g fit stands w b =
    let f = front_fits t (k + m) room g in
    let n = front_count t (k + m) f in
    let same : take (memory_width * k) (front t (k + m)) ≡ front out k = take-take (memory_width * k) (memory_width * (k + m)) t (omega arith) ∙ stands in (
      subst (All (FitFor coordinate_limit)) (sym (front-layer_is t (k + m) f)) fit,
      omega (arith, n),
      record {
        room = omega (arith, n, g.within, w);
        each = λ i l. b.each i (omega (arith, front_count out k (front_fits out k room h), l)) ∙ ap (λ (s : List ℤ). box_of (record_at trapezoid_codec s i)) (sym same)
            ∙ ap box_of (record_take (memory_width * k) (front t (k + m)) i (omega (arith, front_length t (k + m) f)) (omega (arith, l)));
      },
    )
