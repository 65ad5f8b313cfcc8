-- What an answer says of the tail and of the number of overlays.
use Rattle.std.specs.Prelude.{Option, Some, None, Result, Ok, Err}
use mathlib.Core.Path.{◌≡◌, refl, sym, ◌∙◌, ap, subst}
use mathlib.Core.Bool.{Bool, true, false, cond}
use mathlib.Core.List.{List, [], ◌∷◌}
use Prim.Native.Nat.{ℕ, ◌+◌, ◌*◌, ◌≤◌}
use native.Mathlib.Omega.{arith}
use lib.Dec.{ltb}
use lib.ListN.{length}
use lib.IntN.{ℤ}
use borrow.Author.Tests.{lt-ltb, le-ltb}
use Rattle.lists.specs.Lists.{All}
use Rattle.lists.proofs.Lists.{all_of}
use Rattle.records.specs.Limits.{memory_width}
use Rattle.records.specs.Records.{Codec, records_from, image}
use Rattle.records.proofs.Records.{length_from}
use Rattle.records.proofs.Buffer.{image_records}
use Rattle.geometry.specs.declared.Trapezoid.{Trapezoid}
use Rattle.geometry.specs.Limit.{coordinate_limit}
use Rattle.geometry.specs.Fitness.{FitFor}
use Rattle.geometry.specs.Trapezoids.{trapezoid_codec}
use Rattle.boolean.specs.declared.Folded.{Folded}
use Rattle.boolean.specs.Space.{Stage, size_of, overlays_of, overlaid, addition, Space, enough, no_room, plus, space}
use Rattle.boolean.specs.declared.NoRoom.{NoRoom}
use Rattle.boolean.specs.Folds.{folded, no_room_after}
use Rattle.trapezoids_code.specs.Tails.{FilledBy, FilledAs}
use Rattle.trapezoids_code.proofs.Writing.{Kind, codec_of, plain}
use Rattle.remainder_code.specs.Code.{with_overlays, OverlaysWithin, Remaining, FoldedBy, FoldedAs, once}
use Rattle.remainder_code.specs.Code as code

-- ---- the number of overlays
abbrev pub overlays_in : Space → ℕ
overlays_in (enough c) = c
overlays_in (no_room c) = c

overlays_plus : (n : ℕ) (s : Space) → overlays_in (plus n s) ≡ n + overlays_in s
overlays_plus n (enough c) = refl
overlays_plus n (no_room c) = refl

stage_one : (m : Stage) → overlays_of m ≤ 1
stage_one (overlaid n) = omega arith
stage_one (addition n) = omega arith

-- at most one for each stage
pub overlays_upto : (room : ℕ) (ms : List Stage) → overlays_in (space room ms) ≤ length ms
unfolding space
overlays_upto room [] = omega arith
overlays_upto room (m ∷ ms) = go (ltb room (size_of m)) (space room ms) (overlays_upto room ms)
  where
    go : (t : Bool) (s : Space) → overlays_in s ≤ length ms → overlays_in (cond t (no_room (overlays_of m)) (plus (overlays_of m) s)) ≤ length (m ∷ ms)
    go true s h = omega (arith, stage_one m)
    go false s h = omega (arith, overlays_plus (overlays_of m) s, stage_one m, h)

pub stages_within : {R : Type 0} (C : Codec ℤ R) (n room : ℕ) (ts : List R) (ms : List Stage) (r : Result Folded NoRoom) (d : List ℤ) → FoldedBy C n room ts ms r d → OverlaysWithin (length ms) r
stages_within C n room ts ms (Err c) d g = let e : overlays_in (space room ms) ≡ c.overlays = ap overlays_in g.0 in omega (arith, e, overlays_upto room ms)
stages_within C n room ts ms (Ok p) d g = let e : overlays_in (space room ms) ≡ p.overlays = ap overlays_in g.0 in omega (arith, e, overlays_upto room ms)

pub folded_within : (n room : ℕ) (ts : List Trapezoid) (ms : List Stage) (r : Result Folded NoRoom) (d : List ℤ) → FoldedAs n room ts ms r d → OverlaysWithin (length ms) r
folded_within = stages_within trapezoid_codec

pub within_least : (m n : ℕ) (r : Result Folded NoRoom) → m ≤ n → OverlaysWithin m r → OverlaysWithin n r
within_least m n (Err c) l h = omega (arith, l, h)
within_least m n (Ok p) l h = omega (arith, l, h)

pub within_more : (m n k : ℕ) (r : Result Folded NoRoom) → k ≤ n → OverlaysWithin m r → OverlaysWithin (n + m) (with_overlays k r)
within_more m n k (Err c) l h = omega (arith, l, h)
within_more m n k (Ok p) l h = omega (arith, l, h)

pub within_no_room : (m c : ℕ) (r : Result Folded NoRoom) → r ≡ no_room_after c → OverlaysWithin m r → c ≤ m
within_no_room m c r e h = subst (OverlaysWithin m) e h

pub within_done : (m p c : ℕ) (r : Result Folded NoRoom) → r ≡ folded p c → OverlaysWithin m r → c ≤ m
within_done m p c r e h = subst (OverlaysWithin m) e h

-- ---- an addition and an overlay that there is room for
pub space-added : (room k : ℕ) → k ≤ room → space room (addition k ∷ []) ≡ enough 0
unfolding space
space-added room k l = rw (le-ltb room k l) refl

pub space_overlaid : (room k : ℕ) → k ≤ room → space room (overlaid k ∷ []) ≡ enough 1
unfolding space
space_overlaid room k l = rw (le-ltb room k l) refl

-- ---- one overlay, as a fold
pub fill_folded : {R : Type 0} (C : Codec ℤ R) (n room : ℕ) (ts : List R) (f : Option ℕ) (d : List ℤ) → FilledBy C n room ts f d → FoldedBy C n room ts (overlaid (length ts) ∷ []) (once f) d
unfolding space
fill_folded C n room ts None d g = (rw (lt-ltb room (length ts) g.0) refl, g.1)
fill_folded C n room ts (Some m) d g = (space_overlaid room (length ts) g.1, g)

pub once_folded : (n room : ℕ) (ts : List Trapezoid) (f : Option ℕ) (d : List ℤ) → FilledAs n room ts f d → FoldedAs n room ts (overlaid (length ts) ∷ []) (once f) d
once_folded = fill_folded trapezoid_codec

-- ---- the tail
pub filled_first : {R : Type 0} (K : Kind R) (n room : ℕ) (ts : List R) (p : ℕ) (t : List ℤ) → FilledBy (codec_of K) n room ts (Some p) t → records_from (codec_of K) p t 0 ≡ ts
filled_first {R} K n room ts p t g =
    ap (λ (q : ℕ). records_from (codec_of K) q t 0) g.0 ∙ ap (λ (u : List ℤ). records_from (codec_of K) (length ts) u 0) g.2
    ∙ image_records (codec_of K) K.readable n ts (all_of (λ (t : R). Unit {0}) (λ t. tt) ts)

pub filled_leading : (n room : ℕ) (ts : List Trapezoid) (p : ℕ) (t : List ℤ) → FilledAs n room ts (Some p) t → code.leading t p ≡ ts
filled_leading = filled_first plain

pub filled_remaining : (n room : ℕ) (ts : List Trapezoid) (p : ℕ) (t : List ℤ) → FilledAs n room ts (Some p) t → length t ≡ n → memory_width * room ≤ n → All (FitFor coordinate_limit) ts → Remaining t p room
filled_remaining n room ts p t g l w f =
    let d = filled_leading n room ts p t g in
    record {
      is = g.2 ∙ (λ j. image trapezoid_codec (sym l j) (sym d j));
      fit = subst (All (FitFor coordinate_limit)) (sym d) f;
      within = omega (arith, g.0, g.1);
      wide = omega (arith, l, w);
    }

-- what it holds at its front
pub leading_filled : (d : List ℤ) (n room : ℕ) → d ≡ image trapezoid_codec (length d) (code.leading d n) → n ≤ room → FilledAs (length d) room (code.leading d n) (Some n) d
leading_filled d n room e l = let m = length_from trapezoid_codec n d 0 in (sym m, omega (arith, m, l), e)
