-- Trapezoids that a function wrote with empty sets, once they have a set.
use Rattle.std.specs.Prelude.{Some, Result, Ok, Err}
use mathlib.Core.Path.{◌≡◌, sym, ◌∙◌, ap, subst}
use mathlib.Core.List.{List, [], ◌∷◌, ◌++◌}
use Prim.Native.Nat.{ℕ}
use native.Mathlib.Omega.{arith}
use lib.ListN.{length, get_or}
use lib.IntN.{ℤ, pos}
use Rattle.records.specs.Limits.{file_width}
use Rattle.records.specs.Records.{image}
use Rattle.records.proofs.Records.{from_none, length_from}
use Rattle.records.proofs.Buffer.{image_none}
use Rattle.geometry.specs.declared.Trapezoid.{Trapezoid}
use Rattle.geometry.specs.Trapezoids.{trapezoid_of, trapezoid_words, trapezoid_codec}
use Rattle.sources.specs.Sourced.{Sourced, sourced_codec, bearing}
use Rattle.sources.proofs.Sourced.{sourced_faithful, bearing-length}
use Rattle.boolean.specs.declared.Folded.{Folded}
use Rattle.boolean.specs.Space.{Stage}
use Rattle.boolean.specs.declared.NoRoom.{NoRoom}
use Rattle.trapezoids_code.specs.Tails.{Borrowed, FilledBy, FilledAs}
use Rattle.trapezoids_code.proofs.Writing.{Kind}
use Rattle.sources_code.specs.Code.{with_sources}
use Rattle.sources_code.proofs.Sources.{with_sources_image}
use Rattle.remainder_code.specs.Code.{FoldedAs}
use Rattle.remainder_code.proofs.Answers.{filled_first}
use Rattle.bearing_code.specs.Code.{borne, SourcedAs, standing, Holding}

-- trapezoids with their sets
abbrev pub sourced : Kind Sourced
sourced =
    record {
      encode = λ r. trapezoid_words r.shape ++ (r.sources ∷ []);
      decode = λ s. record { shape = trapezoid_of s; sources = get_or s file_width (pos 0) };
      readable = sourced_faithful.readable;
    }

pub filled_bearing : (z : ℤ) (n room : ℕ) (ts : List Trapezoid) (p : ℕ) (d : List ℤ) → FilledAs n room ts (Some p) d → FilledBy sourced_codec n room (bearing z ts) (Some p) (with_sources z p d)
filled_bearing z n room ts p d g =
    let l = bearing-length z ts in (
      g.0 ∙ sym l,
      omega (arith, l, g.1),
      ap (with_sources z p) g.2 ∙ ap (λ (q : ℕ). with_sources z q (image trapezoid_codec n ts)) g.0 ∙ with_sources_image z n ts,
    )

pub folded_bearing : (z : ℤ) (n room : ℕ) (ts : List Trapezoid) (ms : List Stage) (f : Result Folded NoRoom) (d : List ℤ) → FoldedAs n room ts ms f d → SourcedAs n room (bearing z ts) ms f (borne f z d)
folded_bearing z n room ts ms (Err r) d g = g
folded_bearing z n room ts ms (Ok p) d g = (g.0, filled_bearing z n room ts p.trapezoids d g.1)

-- by which case the answer is
pub sourced_known : (n room : ℕ) (rs : List Sourced) (ms : List Stage) (f r : Result Folded NoRoom) (d : List ℤ) → f ≡ r → SourcedAs n room rs ms f d → SourcedAs n room rs ms r d
sourced_known n room rs ms f r d e g = subst (λ (x : Result Folded NoRoom). SourcedAs n room rs ms x d) e g

-- ---- buffers that hold trapezoids with their sets
pub standing_filled : (d : List ℤ) (n room : ℕ) → Holding d n room → FilledBy sourced_codec (length d) room (standing d n) (Some n) d
standing_filled d n room h = let m = length_from sourced_codec n d 0 in (sym m, omega (arith, m, h.within), h.is)

pub filled_standing : (n room : ℕ) (rs : List Sourced) (p : ℕ) (t : List ℤ) → FilledBy sourced_codec n room rs (Some p) t → standing t p ≡ rs
filled_standing = filled_first sourced

-- nothing stands in a blank one
module _ (d : List ℤ) (room : ℕ) (h : Borrowed d room) where
  none_standing : standing d 0 ≡ []
  none_standing = from_none sourced_codec 0 d 0 (omega arith)

  pub holding_none : Holding d 0 room
  holding_none =
      record {
        is = h.blank ∙ sym (image_none sourced_codec sourced_faithful.readable (length d)) ∙ ap (image sourced_codec (length d)) (sym none_standing);
        within = omega arith;
        wide = h.wide;
      }

  pub sourced_none : (rs : List Sourced) (ms : List Stage) (r : Result Folded NoRoom) (t : List ℤ) → SourcedAs (length d) room (standing d 0 ++ rs) ms r t → SourcedAs (length d) room rs ms r t
  sourced_none rs ms r t g = subst (λ (us : List Sourced). SourcedAs (length d) room us ms r t) (ap (λ (us : List Sourced). us ++ rs) none_standing) g
