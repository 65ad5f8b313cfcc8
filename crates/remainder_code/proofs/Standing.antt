-- The remainder minus b: its trapezoids before the first that overlaps b stand, and those past them are replaced.
use Rattle.std.specs.Prelude.{Some, Result}
use mathlib.Core.Path.{◌≡◌, refl, sym, ◌∙◌, ap, subst}
use mathlib.Core.List.{List, [], ◌∷◌, ◌++◌, append-nil}
use Prim.Native.Nat.{ℕ, ◌+◌, ◌*◌, ◌-◌, ◌<◌, ◌≤◌}
use native.Mathlib.Omega.{arith}
use lib.ListN.{length, get_or, take, drop, replicate, length-append, length-drop, take-append-drop, replicate-append-replicate}
use lib.Seq.{length-take-le, take_at, drop_at, take_all}
use lib.IntN.{ℤ, pos}
use borrow.Rule.Slice.PartMut.{put_mid}
use Rattle.lists.specs.Lists.{All}
use Rattle.lists.proofs.Lists.{all_right}
use Rattle.lists.proofs.Parts.{put_tail}
use Rattle.records.specs.Limits.{memory_width}
use Rattle.records.specs.Records.{record_at, records_from, words_of, image, count}
use Rattle.records.proofs.Records.{from_step, length_from, length_words}
use Rattle.records.proofs.Buffer.{image_append}
use Rattle.geometry.specs.declared.Trapezoid.{Trapezoid}
use Rattle.geometry.specs.Limit.{coordinate_limit}
use Rattle.geometry.specs.Fitness.{FitFor}
use Rattle.geometry.specs.Trapezoids.{trapezoid_codec, layer_of}
use Rattle.geometry.proofs.Trapezoids.{trapezoid_readable}
use Rattle.overlay.specs.Overlaps.{overlaps}
use Rattle.boolean.specs.declared.Folded.{Folded}
use Rattle.boolean.specs.Operations.{minus}
use Rattle.boolean.specs.Space.{enough, plus, space, minus_stages}
use Rattle.boolean.specs.declared.NoRoom.{NoRoom}
use Rattle.boolean.specs.Folds.{folded, no_room_after}
use Rattle.boxes.specs.declared.Found.{Found}
use Rattle.trapezoids_code.specs.Placed.{PlacedAs}
use Rattle.trapezoids_code.specs.Tails.{FilledAs}
use Rattle.trapezoids_code.proofs.Writing.{tail}
use Rattle.remainder_code.specs.Code.{front, from, leading, Remaining, FoldedAs, OverlaysWithin, before_first, FirstFound, FirstPlaced}
use Rattle.remainder_code.proofs.Answers.{folded_within, within_no_room, within_done, filled_leading, filled_remaining, leading_filled}
use Rattle.remainder_code.proofs.MinusFold.{minus_none, stages_none, stages-length}
use Rattle.remainder_code.proofs.Reducing.{layer_split}
use Rattle.remainder_code.proofs.Apart.{before_upto, minus_apart, stages_apart}
use Rattle.remainder_code.proofs.Leading.{rest_is, rest_length, front_length, front_count, first_record, back_front, back_rest, leading_fits, front_leading}

-- d holds the n trapezoids of the remainder, and p of them come before the first that overlaps b
module _ (d : List ℤ) (n room : ℕ) (h : Remaining d n room) (b : Trapezoid) (p : ℕ) (is : p ≡ before_first (λ t. overlaps t b) (layer_of (front d n))) where
  abbrev all : List Trapezoid
  all = leading d n

  abbrev kept : List Trapezoid
  kept = take p all

  abbrev later : List Trapezoid
  later = drop p all

  size : length all ≡ n
  size = length_from trapezoid_codec n d 0

  first : before_first (λ t. overlaps t b) all ≡ p
  first = sym (is ∙ ap (before_first (λ t. overlaps t b)) (front_leading d n room h))

  pub stand_upto : p ≤ n
  stand_upto = omega (arith, first, before_upto (λ t. overlaps t b) all, size)

  pub stand_fits : memory_width * p ≤ length d
  stand_fits = omega (arith, stand_upto, leading_fits d n room h)

  result : minus all b ≡ kept ++ minus later b
  result = minus_apart b all ∙ (λ j. take (first j) all ++ minus (drop (first j) all) b)

  stages : space room (minus_stages 0 all b) ≡ plus p (space (room - p) (minus_stages 0 later b))
  stages = stages_apart b room all (omega (arith, size, h.within)) ∙ (λ j. plus (first j) (space (room - first j) (minus_stages 0 (drop (first j) all) b)))

  -- ---- all stand
  pub stand_all : p ≡ n → FoldedAs (length d) room (minus (leading d n) b) (minus_stages 0 (leading d n) b) (folded n n) d
  stand_all e =
      let none : later ≡ [] = ap (drop p) (sym (append-nil all)) ∙ drop_at all [] p (size ∙ sym e) in
      let y : all ≡ minus all b = sym (result ∙ (λ j. take_all p all (omega (arith, e, size)) j ++ minus (none j) b) ∙ ap (λ (ts : List Trapezoid). all ++ ts) (minus_none b) ∙ append-nil all) in
      let z : p + 0 ≡ n = omega (arith, e) in (
        stages ∙ ap (λ (ts : List Trapezoid). plus p (space (room - p) (minus_stages 0 ts b))) none ∙ ap (plus p) (stages_none (room - p) 0 b) ∙ ap enough z,
        subst (λ (ts : List Trapezoid). FilledAs (length d) room ts (Some n) d) y (leading_filled d n room h.is h.within),
      )

  -- ---- the others are the remainder of the tail
  kept_size : length kept ≡ p
  kept_size = length-take-le p all (omega (arith, stand_upto, size))

  joined : (ts : List Trapezoid) → words_of trapezoid_codec kept ++ image trapezoid_codec (length d - memory_width * p) ts ≡ image trapezoid_codec (length d) (kept ++ ts)
  joined ts = ap (λ (m : ℕ). words_of trapezoid_codec kept ++ image trapezoid_codec (length d - memory_width * m) ts) (sym kept_size) ∙ image_append trapezoid_codec trapezoid_readable (length d) kept ts

  laid : d ≡ words_of trapezoid_codec kept ++ image trapezoid_codec (length d - memory_width * p) later
  laid = h.is ∙ ap (image trapezoid_codec (length d)) (sym (take-append-drop p all)) ∙ sym (joined later)

  words : length (words_of trapezoid_codec kept) ≡ memory_width * p
  words = length_words trapezoid_codec trapezoid_readable kept ∙ ap (λ (m : ℕ). memory_width * m) kept_size

  front_kept : front d p ≡ words_of trapezoid_codec kept
  front_kept = ap (take (memory_width * p)) laid ∙ take_at (words_of trapezoid_codec kept) (image trapezoid_codec (length d - memory_width * p) later) (memory_width * p) words

  tail_long : length (tail d p) ≡ length d - memory_width * p
  tail_long = ap length (rest_is d p) ∙ rest_length d p

  tail_filled : FilledAs (length d - memory_width * p) (room - p) later (Some (n - p)) (tail d p)
  tail_filled =
      let m : length later ≡ n - p = length-drop p all ∙ ap (λ (x : ℕ). x - p) size in
      (sym m, omega (arith, m, h.within), rest_is d p ∙ ap (drop (memory_width * p)) laid ∙ drop_at (words_of trapezoid_codec kept) (image trapezoid_codec (length d - memory_width * p) later) (memory_width * p) words)

  pub stand_remaining : Remaining (tail d p) (n - p) (room - p)
  stand_remaining =
      filled_remaining (length d - memory_width * p) (room - p) later (n - p) (tail d p) tail_filled tail_long (omega (arith, h.wide))
      (all_right (FitFor coordinate_limit) kept later (subst (All (FitFor coordinate_limit)) (sym (take-append-drop p all)) h.fit))

  -- the first of them is number p of all
  pub stand_first : p < n → record_at trapezoid_codec (tail d p) 0 ≡ record_at trapezoid_codec (front d n) p
  stand_first l =
      let s = front d n in
      let z = record_at trapezoid_codec s p in
      let c : count trapezoid_codec s ≡ n = front_count d n (leading_fits d n room h) in
      let e : leading (tail d p) (n - p) ≡ z ∷ from s (p + 1) =
      filled_leading (length d - memory_width * p) (room - p) later (n - p) (tail d p) tail_filled
      ∙ ap (drop p) (sym (front_leading d n room h) ∙ layer_split s p (omega (arith, c, l)))
      ∙ drop_at (records_from trapezoid_codec p s 0) (from s p) p (length_from trapezoid_codec p s 0)
      ∙ from_step trapezoid_codec (count trapezoid_codec s) s p (omega (arith, c, l)) in
      sym (first_record (tail d p) (n - p) z (omega (arith, l))) ∙ ap (λ (ts : List Trapezoid). get_or ts 0 z) e

  -- found as v
  pub stand_placed : (v : Found) → FirstFound (λ t. overlaps t b) (front d n) v → v.before ≡ p → FirstPlaced (λ t. overlaps t b) (tail d p) (n - p) v.placed
  stand_placed v w e =
      let l : p < n = omega (arith, e, w.within, front_count d n (leading_fits d n room h)) in
      record {
        some = omega (arith, l);
        placed = subst (λ (t : Trapezoid). PlacedAs t v.placed) (ap (record_at trapezoid_codec (front d n)) e ∙ sym (stand_first l)) w.placed;
        passes = w.passes;
      }

  -- ---- they are replaced: f answers, and t comes back as the tail
  module _ (f : Result Folded NoRoom) (t : List ℤ) (g : FoldedAs (length (tail d p)) (room - p) (minus (leading (tail d p) (n - p)) b) (minus_stages 0 (leading (tail d p) (n - p)) b) f t) where
    abbrev back : List ℤ
    back = put_mid (memory_width * p) (length d - memory_width * p) d t

    known : (r : Result Folded NoRoom) → f ≡ r → FoldedAs (length d - memory_width * p) (room - p) (minus later b) (minus_stages 0 later b) r t
    known r e = rw (filled_leading (length d - memory_width * p) (room - p) later (n - p) (tail d p) tail_filled, tail_long, e) at g

    few : OverlaysWithin (length later) f
    few = subst (λ (m : ℕ). OverlaysWithin m f) (stages-length 0 later b) (folded_within (length d - memory_width * p) (room - p) (minus later b) (minus_stages 0 later b) f t (known f refl))

    pub full_few : (c : ℕ) → f ≡ no_room_after c → p + c ≤ n
    full_few c e = omega (arith, within_no_room (length later) c f e few, tail_filled.0, stand_upto)

    pub done_few : (m c : ℕ) → f ≡ folded m c → (p + m ≤ room) × (p + c ≤ n)
    done_few m c e = let k = (known (folded m c) e).1 in (omega (arith, k.0, k.1, stand_upto, h.within), omega (arith, within_done (length later) m c f e few, tail_filled.0, stand_upto))

    pub back_length : memory_width * p ≡ length (front (put_mid (memory_width * p) (length d - memory_width * p) d t) p)
    back_length = sym (ap length (back_front d p stand_fits t) ∙ front_length d p stand_fits)

    -- the first p are cleared too, as u
    pub stand_full : (c : ℕ) → f ≡ no_room_after c → (u : List ℤ) → u ≡ replicate (length (front back p)) (pos 0)
        → FoldedAs (length d) room (minus (leading d n) b) (minus_stages 0 (leading d n) b) (no_room_after (p + c)) (u ++ drop (memory_width * p) back)
    stand_full c e u z =
        let k = known (no_room_after c) e in
        let w : memory_width * p + (length d - memory_width * p) ≡ length d = omega (arith, stand_fits) in (
          stages ∙ ap (plus p) k.0,
          (λ j. z j ++ back_rest d p stand_fits t j) ∙ (λ j. replicate (sym back_length j) (pos 0) ++ k.1 j) ∙ replicate-append-replicate (memory_width * p) (length d - memory_width * p) (pos 0) ∙ ap (λ (m : ℕ). replicate m (pos 0)) w,
        )

    pub stand_done : (m c : ℕ) → f ≡ folded m c → FoldedAs (length d) room (minus (leading d n) b) (minus_stages 0 (leading d n) b) (folded (p + m) (p + c)) (put_mid (memory_width * p) (length d - memory_width * p) d t)
    stand_done m c e =
        let k = known (folded m c) e in
        let l = length-append kept (minus later b) in (
          stages ∙ ap (plus p) k.0,
          subst (λ (ts : List Trapezoid). FilledAs (length d) room ts (Some (p + m)) back) (sym result)
              (omega (arith, l, kept_size, k.1.0), omega (arith, l, kept_size, k.1.1, stand_upto, h.within), put_tail (memory_width * p) d t stand_fits ∙ (λ j. front_kept j ++ k.1.2 j) ∙ joined (minus later b)),
        )
