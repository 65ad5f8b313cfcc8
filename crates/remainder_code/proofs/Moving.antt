-- Trapezoids in the output that are moved to the scratch area, so that they can be replaced.
use Rattle.std.specs.Prelude.{Result}
use mathlib.Core.Path.{◌≡◌, sym, ◌∙◌, ap, subst}
use mathlib.Core.Bool.{Bool}
use mathlib.Core.List.{List, ◌++◌}
use Prim.Native.Nat.{ℕ, ◌+◌, ◌*◌, ◌-◌, ◌<◌, ◌≤◌}
use native.Mathlib.Omega.{arith}
use lib.ListN.{length, get_or, take, drop, replicate, length-replicate, replicate-append-replicate}
use lib.Seq.{length-take-le, take_at, drop_at}
use lib.IntN.{ℤ, pos}
use Rattle.lists.specs.Lists.{All}
use Rattle.lists.proofs.Parts.{drop_replicate}
use Rattle.records.specs.Limits.{memory_width}
use Rattle.records.specs.Records.{record_at, count, Blank}
use Rattle.records.proofs.Records.{length_from}
use Rattle.records.proofs.Buffer.{blank_of}
use Rattle.geometry.specs.declared.Trapezoid.{Trapezoid}
use Rattle.geometry.specs.declared.Placed.{Placed}
use Rattle.geometry.specs.Limit.{coordinate_limit}
use Rattle.geometry.specs.Fitness.{FitFor}
use Rattle.geometry.specs.Trapezoids.{trapezoid_codec, layer_of}
use Rattle.boolean.specs.declared.Folded.{Folded}
use Rattle.boolean.specs.Operations.{minus}
use Rattle.boolean.specs.Space.{minus_stages}
use Rattle.boolean.specs.declared.NoRoom.{NoRoom}
use Rattle.trapezoids_code.specs.Placed.{PlacedAs}
use Rattle.trapezoids_code.specs.Tails.{Borrowed}
use Rattle.remainder_code.specs.Code.{leading, Remaining, FoldedAs, FirstPlaced}
use Rattle.remainder_code.proofs.Leading.{first_record, leading_fits, rest_blanks, front_leading}

-- d and w before, d' and w' after the move
module _ (d w d' w' : List ℤ) (n room : ℕ) (h : Remaining d n room) (blank : Blank (pos 0) w) (same : length w ≡ length d)
    (out : d' ≡ replicate (memory_width * n) (pos 0) ++ drop (memory_width * n) d) (scratch : w' ≡ take (memory_width * n) d ++ drop (memory_width * n) w) where
  abbrev end : ℕ
  end = memory_width * n

  pub remainder_words : memory_width * n ≤ length d
  remainder_words = leading_fits d n room h

  first_words : length (take end d) ≡ end
  first_words = length-take-le end d remainder_words

  moved : take end w' ≡ take end d
  moved = ap (take end) scratch ∙ take_at (take end d) (drop end w) end first_words

  pub remainder_length : memory_width * n ≡ length (take (memory_width * n) w')
  remainder_length = sym (ap length moved ∙ first_words)

  pub remainder_layer : layer_of (take (memory_width * n) w') ≡ leading d n
  remainder_layer = ap layer_of moved ∙ front_leading d n room h

  pub remainder_fit : All (FitFor coordinate_limit) (layer_of (take (memory_width * n) w'))
  remainder_fit = subst (All (FitFor coordinate_limit)) (sym remainder_layer) h.fit

  moved_count : count trapezoid_codec (take end w') ≡ n
  moved_count = sym (length_from trapezoid_codec (count trapezoid_codec (take end w')) (take end w') 0) ∙ ap length remainder_layer ∙ length_from trapezoid_codec n d 0

  pub remainder_count : count trapezoid_codec (take (memory_width * n) w') ≤ room + 1
  remainder_count = omega (arith, moved_count, h.within)

  pub remainder_first : (test : Trapezoid → Bool) (first : Placed) → FirstPlaced test d n first → FirstPlaced test (take (memory_width * n) w') (count trapezoid_codec (take (memory_width * n) w')) first
  remainder_first test first f =
      let s = take end w' in
      let z = record_at trapezoid_codec d 0 in
      let l : 0 < count trapezoid_codec s = omega (arith, moved_count, f.some) in
      let e : z ≡ record_at trapezoid_codec s 0 = sym (first_record d n z f.some) ∙ ap (λ (ts : List Trapezoid). get_or ts 0 z) (sym remainder_layer) ∙ first_record s (count trapezoid_codec s) z l in
      record { some = l; placed = subst (λ (t : Trapezoid). PlacedAs t first) e f.placed; passes = f.passes }

  cleared : d' ≡ replicate (length d) (pos 0)
  cleared =
      let e : end + (length d - end) ≡ length d = omega (arith, remainder_words) in
      out ∙ ap (λ (t : List ℤ). replicate end (pos 0) ++ t) (rest_blanks d n room h) ∙ replicate-append-replicate end (length d - end) (pos 0) ∙ ap (λ (m : ℕ). replicate m (pos 0)) e

  pub remainder_out : length d' ≡ length d
  remainder_out = ap length cleared ∙ length-replicate (length d) (pos 0)

  pub remainder_borrowed : Borrowed d' room
  remainder_borrowed = record { blank = blank_of (pos 0) d' (length d) cleared; wide = omega (arith, remainder_out, h.wide) }

  -- the scratch area is cleared again
  pub remainder_back : (t : List ℤ) → t ≡ replicate (length (take (memory_width * n) w')) (pos 0) → Blank (pos 0) (t ++ drop (memory_width * n) w')
  remainder_back t e =
      let f : drop end w' ≡ replicate (length w - end) (pos 0) = ap (drop end) scratch ∙ drop_at (take end d) (drop end w) end first_words ∙ ap (drop end) blank ∙ drop_replicate (pos 0) end (length w) in
      let g : t ≡ replicate end (pos 0) = e ∙ ap (λ (m : ℕ). replicate m (pos 0)) (sym remainder_length) in
      blank_of (pos 0) (t ++ drop end w') (end + (length w - end)) (ap (λ (u : List ℤ). u ++ drop end w') g ∙ ap (λ (u : List ℤ). replicate end (pos 0) ++ u) f ∙ replicate-append-replicate end (length w - end) (pos 0))

  pub remainder_folded : (b : Trapezoid) (r : Result Folded NoRoom) (t : List ℤ)
      → FoldedAs (length d') room (minus (layer_of (take (memory_width * n) w')) b) (minus_stages 0 (layer_of (take (memory_width * n) w')) b) r t
      → FoldedAs (length d) room (minus (leading d n) b) (minus_stages 0 (leading d n) b) r t
  remainder_folded b r t g =
      subst (λ (m : ℕ). FoldedAs m room (minus (leading d n) b) (minus_stages 0 (leading d n) b) r t) remainder_out
      (subst (λ (ts : List Trapezoid). FoldedAs (length d') room (minus ts b) (minus_stages 0 ts b) r t) remainder_layer g)
