-- One trapezoid in hand minus a layer: added whole, its first overlay, and the rest.
use Rattle.std.specs.Prelude.{Option, Some, Result, Ok, Err}
use mathlib.Core.Path.{◌≡◌, refl, sym, ◌∙◌, ap, subst}
use mathlib.Core.List.{List, [], ◌∷◌, ◌++◌, append-nil}
use Prim.Native.Nat.{ℕ, ◌+◌, ◌*◌, ◌<◌, ◌≤◌}
use native.Mathlib.Omega.{arith}
use lib.ListN.{length, drop}
use lib.Seq.{drop_at}
use lib.IntN.{ℤ, pos}
use Rattle.records.specs.Limits.{memory_width}
use Rattle.records.specs.Records.{record_at, records_from, count}
use Rattle.records.proofs.Records.{from_start, from_step, from_none, length_from}
use Rattle.geometry.specs.declared.Trapezoid.{Trapezoid}
use Rattle.geometry.specs.Limit.{coordinate_limit}
use Rattle.geometry.specs.Fitness.{FitFor}
use Rattle.geometry.specs.Trapezoids.{trapezoid_codec, trapezoid_words, layer_of}
use Rattle.overlay.specs.Overlay.{overlay, tagged}
use Rattle.overlay.specs.Overlaps.{overlaps}
use Rattle.boolean.specs.declared.Folded.{Folded}
use Rattle.boolean.specs.Operations.{minus, minus_all}
use Rattle.boolean.specs.Space.{Stage, overlaid, addition, enough, no_room, plus, space, minus_stages, minus_all_stages, one_stages}
use Rattle.boolean.proofs.Kept.{minus_fit}
use Rattle.boolean.proofs.Space.{after, plus_after, space_append, space_enough, space_no_room}
use Rattle.boolean.specs.declared.NoRoom.{NoRoom}
use Rattle.boolean.specs.Folds.{folded, no_room_after}
use Rattle.trapezoids_code.specs.Tails.{Borrowed, FilledAs}
use Rattle.trapezoids_code.proofs.Writing.{fill_one}
use Rattle.remainder_code.specs.Code.{from, with_overlays, OverlaysWithin, Remaining, FoldedAs, before_first, once}
use Rattle.remainder_code.specs.Code as code
use Rattle.remainder_code.proofs.MinusFold.{minus_none, minus_one}
use Rattle.remainder_code.proofs.Reducing.{layer_split, all_none, all_one, all-stages_one}
use Rattle.remainder_code.proofs.Apart.{before_upto, all_apart, all_stages_apart}
use Rattle.remainder_code.proofs.Answers.{folded_within, filled_leading, filled_remaining, space-added, once_folded}

-- ---- added whole
pub whole_no_room : (room : ℕ) → room ≡ 0 → space room (addition 1 ∷ []) ≡ no_room 0
unfolding space
whole_no_room room e = rw e refl

pub whole_done : (d : List ℤ) (room : ℕ) → Borrowed d room → 1 ≤ room → (t : Trapezoid) → FoldedAs (length d) room (t ∷ []) (addition 1 ∷ []) (folded 1 0) ((trapezoid_words t ++ (pos 0 ∷ [])) ++ drop memory_width d)
whole_done d room h l t = (space-added room 1 l, fill_one d room h t l)

no_stages : (a : Trapezoid) → one_stages 0 a [] ≡ addition 1 ∷ []
unfolding minus_all_stages minus_all
no_stages a = refl

pub one_whole : (n room : ℕ) (a : Trapezoid) (layer : List ℤ) (j : ℕ) (r : Result Folded NoRoom) (d : List ℤ) → count trapezoid_codec layer ≤ j → FoldedAs n room (a ∷ []) (addition 1 ∷ []) r d
    → FoldedAs n room (minus_all (a ∷ []) (from layer j)) (one_stages 0 a (from layer j)) r d
one_whole n room a layer j r d l g =
    let e : from layer j ≡ [] = from_none trapezoid_codec (count trapezoid_codec layer) layer j l in
    subst (λ (B : List Trapezoid). FoldedAs n room (minus_all (a ∷ []) B) (one_stages 0 a B) r d) (sym e)
    (subst (λ (ms : List Stage). FoldedAs n room (minus_all (a ∷ []) []) ms r d) (sym (no_stages a)) (subst (λ (ts : List Trapezoid). FoldedAs n room ts (addition 1 ∷ []) r d) (sym (all_none (a ∷ []))) g))

-- ---- the first overlay
first_stages : (a b : Trapezoid) → minus_stages 0 (a ∷ []) b ≡ overlaid (length (tagged 1 (overlay a b))) ∷ []
unfolding minus_stages
first_stages a b = let e : 0 + length (tagged 1 (overlay a b)) + 0 ≡ length (tagged 1 (overlay a b)) = omega arith in ap (λ (n : ℕ). overlaid n ∷ []) e

first_parts : (a b : Trapezoid) → minus (a ∷ []) b ≡ tagged 1 (overlay a b)
first_parts a b = minus_one a b [] ∙ ap (λ (ts : List Trapezoid). tagged 1 (overlay a b) ++ ts) (minus_none b) ∙ append-nil (tagged 1 (overlay a b))

pub first_folded : (n room : ℕ) (a b : Trapezoid) (f : Option ℕ) (r : Result Folded NoRoom) (d : List ℤ) → FilledAs n room (tagged 1 (overlay a b)) f d → once f ≡ r → FoldedAs n room (minus (a ∷ []) b) (minus_stages 0 (a ∷ []) b) r d
first_folded n room a b f r d g e =
    rw (first_parts a b, first_stages a b) (subst (λ (x : Result Folded NoRoom). FoldedAs n room (tagged 1 (overlay a b)) (overlaid (length (tagged 1 (overlay a b))) ∷ []) x d) e (once_folded n room (tagged 1 (overlay a b)) f d g))

-- n is the buffer's own length, and u is b
pub folded_long : (m n room : ℕ) (ts : List Trapezoid) (ms : List Stage) (r : Result Folded NoRoom) (d : List ℤ) → m ≡ n → FoldedAs m room ts ms r d → FoldedAs n room ts ms r d
folded_long m n room ts ms r d e g = subst (λ (x : ℕ). FoldedAs x room ts ms r d) e g

pub first_at : (n room : ℕ) (a b u : Trapezoid) (r : Result Folded NoRoom) (d : List ℤ) → b ≡ u → length d ≡ n → FoldedAs n room (minus (a ∷ []) b) (minus_stages 0 (a ∷ []) b) r d
    → FoldedAs (length d) room (minus (a ∷ []) u) (minus_stages 0 (a ∷ []) u) r d
first_at n room a b u r d e l g =
    folded_long n (length d) room (minus (a ∷ []) u) (minus_stages 0 (a ∷ []) u) r d (sym l) (subst (λ (x : Trapezoid). FoldedAs n room (minus (a ∷ []) x) (minus_stages 0 (a ∷ []) x) r d) e g)

-- ---- the rest
module _ (n room : ℕ) (a b : Trapezoid) (bs : List Trapezoid) where
  abbrev all : List Trapezoid
  all = minus_all (a ∷ []) (b ∷ bs)

  split : one_stages 0 a (b ∷ bs) ≡ (minus_stages 0 (a ∷ []) b ++ minus_all_stages 0 (minus (a ∷ []) b) bs) ++ (addition (0 + length all) ∷ [])
  split = ap (λ (ms : List Stage). ms ++ (addition (0 + length all) ∷ [])) (all-stages_one 0 (a ∷ []) bs b)

  pub one_no_room : (c : ℕ) (d : List ℤ) → FoldedAs n room (minus (a ∷ []) b) (minus_stages 0 (a ∷ []) b) (no_room_after c) d → FoldedAs n room (minus_all (a ∷ []) (b ∷ bs)) (one_stages 0 a (b ∷ bs)) (no_room_after c) d
  one_no_room c d g =
      let ms = minus_stages 0 (a ∷ []) b in
      let ns = minus_all_stages 0 (minus (a ∷ []) b) bs in
      (ap (space room) split ∙ space_no_room room c (ms ++ ns) (addition (0 + length all) ∷ []) (space_no_room room c ms ns g.0), g.1)

  pub one_rest : (m : ℕ) → space room (minus_stages 0 (a ∷ []) b) ≡ enough m → (g : Result Folded NoRoom) (d : List ℤ)
      → FoldedAs n room (minus_all (minus (a ∷ []) b) bs) (minus_all_stages 0 (minus (a ∷ []) b) bs) g d → FoldedAs n room (minus_all (a ∷ []) (b ∷ bs)) (one_stages 0 a (b ∷ bs)) (with_overlays m g) d
  one_rest m e (Err r) d g =
      let ms = minus_stages 0 (a ∷ []) b in
      let ns = minus_all_stages 0 (minus (a ∷ []) b) bs in
      let c = m + r.overlays in
      let s : space room (ms ++ ns) ≡ no_room c = space_enough room m ms ns e ∙ ap (plus m) g.0 in
      (ap (space room) split ∙ space_no_room room c (ms ++ ns) (addition (0 + length all) ∷ []) s, g.1)
  one_rest m e (Ok r) d g =
      let ms = minus_stages 0 (a ∷ []) b in
      let ns = minus_all_stages 0 (minus (a ∷ []) b) bs in
      let c = m + r.overlays in
      let s : space room (ms ++ ns) ≡ enough c = space_enough room m ms ns e ∙ ap (plus m) g.0 in
      let y : minus_all (minus (a ∷ []) b) bs ≡ all = sym (all_one (a ∷ []) bs b) in
      let f = subst (λ (ts : List Trapezoid). FilledAs n room ts (Some r.trapezoids) d) y g.1 in
      let z : c + 0 ≡ c = omega arith in
      (ap (space room) split ∙ space_enough room c (ms ++ ns) (addition (0 + length all) ∷ []) s ∙ ap (plus c) (space-added room (0 + length all) (omega (arith, f.1))) ∙ ap enough z, f)

-- ---- a layer from number j on
-- b is number j, and f answers its overlay
module _ (n room : ℕ) (a b : Trapezoid) (layer : List ℤ) (j : ℕ) (some : j < count trapezoid_codec layer) (is : b ≡ record_at trapezoid_codec layer j)
    (f : Result Folded NoRoom) (d : List ℤ) (g : FoldedAs n room (minus (a ∷ []) b) (minus_stages 0 (a ∷ []) b) f d) where
  layer_is : from layer j ≡ b ∷ from layer (j + 1)
  layer_is = from_step trapezoid_codec (count trapezoid_codec layer) layer j some ∙ ap (λ (t : Trapezoid). t ∷ from layer (j + 1)) (sym is)

  at_layer : (r : Result Folded NoRoom) (t : List ℤ) → FoldedAs n room (minus_all (a ∷ []) (b ∷ from layer (j + 1))) (one_stages 0 a (b ∷ from layer (j + 1))) r t → FoldedAs n room (minus_all (a ∷ []) (from layer j)) (one_stages 0 a (from layer j)) r t
  at_layer r t h = subst (λ (B : List Trapezoid). FoldedAs n room (minus_all (a ∷ []) B) (one_stages 0 a B) r t) (sym layer_is) h

  known : (r : Result Folded NoRoom) → f ≡ r → FoldedAs n room (minus (a ∷ []) b) (minus_stages 0 (a ∷ []) b) r d
  known r e = subst (λ (x : Result Folded NoRoom). FoldedAs n room (minus (a ∷ []) b) (minus_stages 0 (a ∷ []) b) x d) e g

  pub first_few : OverlaysWithin 1 f
  first_few = subst (λ (m : ℕ). OverlaysWithin m f) (ap length (first_stages a b)) (folded_within n room (minus (a ∷ []) b) (minus_stages 0 (a ∷ []) b) f d g)

  pub one_refused : (c : ℕ) → f ≡ no_room_after c → FoldedAs n room (minus_all (a ∷ []) (from layer j)) (one_stages 0 a (from layer j)) (no_room_after c) d
  one_refused c e = at_layer (no_room_after c) d (one_no_room n room a b (from layer (j + 1)) c d (known (no_room_after c) e))

  module _ (m c : ℕ) (e : f ≡ folded m c) where
    pub one_remaining : length d ≡ n → memory_width * room ≤ n → FitFor coordinate_limit a → FitFor coordinate_limit b → Remaining d m room
    one_remaining l w ha hb = filled_remaining n room (minus (a ∷ []) b) m d (known (folded m c) e).1 l w (minus_fit coordinate_limit (a ∷ []) b (ha, tt) hb)

    pub one_folded : (r : Result Folded NoRoom) (t : List ℤ) → length d ≡ n → FoldedAs (length d) room (minus_all (code.leading d m) (from layer (j + 1))) (minus_all_stages 0 (code.leading d m) (from layer (j + 1))) r t
        → FoldedAs n room (minus_all (a ∷ []) (from layer j)) (one_stages 0 a (from layer j)) (with_overlays c r) t
    one_folded r t l h =
        let k = known (folded m c) e in
        let u = filled_leading n room (minus (a ∷ []) b) m d k.1 in
        let v = subst (λ (ts : List Trapezoid). FoldedAs (length d) room (minus_all ts (from layer (j + 1))) (minus_all_stages 0 ts (from layer (j + 1))) r t) u h in
        let w = folded_long (length d) n room (minus_all (minus (a ∷ []) b) (from layer (j + 1))) (minus_all_stages 0 (minus (a ∷ []) b) (from layer (j + 1))) r t l v in
        at_layer (with_overlays c r) t (one_rest n room a b (from layer (j + 1)) c k.0 r t w)

-- ---- a whole layer
pub one_start : (n room : ℕ) (a : Trapezoid) (layer : List ℤ) (f : Result Folded NoRoom) (d : List ℤ) → FoldedAs n room (minus_all (a ∷ []) (from layer 0)) (one_stages 0 a (from layer 0)) f d
    → FoldedAs n room (minus_all (a ∷ []) (layer_of layer)) (one_stages 0 a (layer_of layer)) f d
one_start n room a layer f d g = subst (λ (B : List Trapezoid). FoldedAs n room (minus_all (a ∷ []) B) (one_stages 0 a B) f d) (from_start trapezoid_codec (count trapezoid_codec layer) layer) g

-- j trapezoids come before the first that overlaps a
module _ (n room : ℕ) (a : Trapezoid) (layer : List ℤ) (j : ℕ) (is : j ≡ before_first (overlaps a) (layer_of layer)) where
  pub skip_upto : j ≤ count trapezoid_codec layer
  skip_upto = omega (arith, is, before_upto (overlaps a) (layer_of layer), length_from trapezoid_codec (count trapezoid_codec layer) layer 0)

  past : drop (before_first (overlaps a) (layer_of layer)) (layer_of layer) ≡ from layer j
  past =
      ap (λ (m : ℕ). drop m (layer_of layer)) (sym is) ∙ ap (drop j) (layer_split layer j skip_upto)
      ∙ drop_at (records_from trapezoid_codec j layer 0) (from layer j) j (length_from trapezoid_codec j layer 0)

  same_all : minus_all (a ∷ []) (layer_of layer) ≡ minus_all (a ∷ []) (from layer j)
  same_all = all_apart a (layer_of layer) ∙ ap (minus_all (a ∷ [])) past

  more_stages : 1 ≤ room → space room (one_stages 0 a (layer_of layer)) ≡ plus j (space room (one_stages 0 a (from layer j)))
  more_stages l =
      let ms = minus_all_stages 0 (a ∷ []) (layer_of layer) in
      let ns = minus_all_stages 0 (a ∷ []) (from layer j) in
      let s : space room ms ≡ plus j (space room ns) = all_stages_apart a room l (layer_of layer) ∙ (λ i. plus (sym is i) (space room (minus_all_stages 0 (a ∷ []) (past i)))) in
      let end = addition (0 + length (minus_all (a ∷ []) (from layer j))) ∷ [] in
      space_append room ms (addition (0 + length (minus_all (a ∷ []) (layer_of layer))) ∷ []) ∙ (λ i. after (s i) (space room (addition (0 + length (same_all i)) ∷ []))) ∙ sym (plus_after j (space room ns) (space room end))
      ∙ ap (plus j) (sym (space_append room ns end))

  pub one_skip : 1 ≤ room → (f : Result Folded NoRoom) (d : List ℤ) → FoldedAs n room (minus_all (a ∷ []) (from layer j)) (one_stages 0 a (from layer j)) f d
      → FoldedAs n room (minus_all (a ∷ []) (layer_of layer)) (one_stages 0 a (layer_of layer)) (with_overlays j f) d
  one_skip l (Err c) d g = (more_stages l ∙ ap (plus j) g.0, g.1)
  one_skip l (Ok p) d g = (more_stages l ∙ ap (plus j) g.0, subst (λ (ts : List Trapezoid). FilledAs n room ts (Some p.trapezoids) d) (sym same_all) g.1)
