-- A fold over the records of a layer, built in a buffer, with any kind of record in each. Before turn i: the buffer holds `done`, the fold of the rest of the layer from
-- there is the goal, and the stages of the rest, past the overlays made, decide the space.
use Rattle.std.specs.Prelude.{Option, Some, Result}
use mathlib.Core.Path.{◌≡◌, refl, sym, ◌∙◌, ap, subst}
use mathlib.Core.List.{List, [], ◌∷◌, ◌++◌, append-nil, append_assoc}
use Prim.Native.Nat.{ℕ, ◌+◌, ◌*◌, ◌-◌, ◌<◌, ◌≤◌}
use native.Mathlib.Omega.{arith}
use lib.ListN.{length, length-append}
use lib.IntN.{ℤ}
use borrow.Rule.Slice.PartMut.{put_mid, same_len_mid}
use Rattle.lists.specs.Lists.{All}
use Rattle.records.specs.Limits.{memory_width}
use Rattle.records.specs.Records.{record_at, records_from, image, count}
use Rattle.records.proofs.Records.{from_start, from_step, from_none, length_from}
use Rattle.records.proofs.Buffer.{length_image}
use Rattle.geometry.specs.declared.Trapezoid.{Trapezoid}
use Rattle.geometry.specs.Limit.{coordinate_limit}
use Rattle.geometry.specs.Fitness.{FitFor}
use Rattle.geometry.specs.Trapezoids.{trapezoid_codec, layer_of}
use Rattle.boolean.specs.declared.Folded.{Folded}
use Rattle.boolean.specs.Space.{Stage, overlaid, enough, no_room, plus, space}
use Rattle.boolean.proofs.Space.{plus_none, plus-plus, space_enough, space_no_room}
use Rattle.boolean.specs.declared.NoRoom.{NoRoom}
use Rattle.boolean.specs.Folds.{folded, no_room_after}
use Rattle.trapezoids_code.specs.Tails.{Borrowed, FilledBy}
use Rattle.trapezoids_code.proofs.Writing.{Kind, codec_of, tail, WritingBy, fill_none, write_stop, write_borrowed, write_turn}
use Rattle.remainder_code.specs.Code.{from, FoldedBy, once}
use Rattle.remainder_code.proofs.Answers.{fill_folded, filled_first}

-- ---- a fold, step by step
-- from what stands, the result and the stages of a list; one turn makes `next` of what stands, and has the stages `turn` with so many trapezoids after it
pub record Fold (R I : Type 0) : Type 0 where
  pub kind : Kind R
  pub items : Kind I
  pub result : List R → List I → List R
  pub stages : List R → List I → List Stage
  pub next : List R → I → List R
  pub turn : List R → I → ℕ → List Stage

pub record Steps {R I : Type 0} (F : Fold R I) : Type 0 where
  pub none : (done : List R) → F.result done [] ≡ done
  pub one : (done : List R) (ts : List I) (t : I) → F.result done (t ∷ ts) ≡ F.result (F.next done t) ts
  pub no_stages : (room : ℕ) (done : List R) → space room (F.stages done []) ≡ enough 0
  pub one_stages_lem : (done : List R) (ts : List I) (t : I) → F.stages done (t ∷ ts) ≡ F.turn done t (length ts) ++ F.stages (F.next done t) ts

-- number i of a layer's records, and those from number i on
abbrev pub item_at : {R I : Type 0} → Fold R I → List ℤ → ℕ → I
item_at F layer i = record_at (codec_of F.items) layer i

abbrev pub items_from : {R I : Type 0} → Fold R I → List ℤ → ℕ → List I
items_from F layer i = records_from (codec_of F.items) (count trapezoid_codec layer - i) layer i

abbrev pub items_of : {R I : Type 0} → Fold R I → List ℤ → List I
items_of F layer = records_from (codec_of F.items) (count trapezoid_codec layer) layer 0

-- ---- the loop
pub record Folding {R I : Type 0} (F : Fold R I) (W room : ℕ) (goal : List R) (ms : List Stage) (layer out : List ℤ) (k overlays i : ℕ) : Type 0 where
  pub steps : Steps F
  pub done : List R
  pub yields : goal ≡ F.result done (items_from F layer i)
  pub stages : space room ms ≡ plus overlays (space room (F.stages done (items_from F layer i)))
  pub upto : i ≤ count trapezoid_codec layer
  pub fit : All (FitFor coordinate_limit) (from layer i)
  pub size : k ≡ length done
  pub within : k ≤ room
  pub laid : out ≡ image (codec_of F.kind) W done
  pub wide : memory_width * room ≤ W
  pub long : length out ≡ W

module _ {R I : Type 0} (F : Fold R I) (steps : Steps F) (room : ℕ) (layer d : List ℤ) where
  -- from number i on
  pub fold_from : (done : List R) (ms : List Stage) (k i : ℕ) → FilledBy (codec_of F.kind) (length d) room done (Some k) d → memory_width * room ≤ length d → ms ≡ F.stages done (items_from F layer i)
      → i ≤ count trapezoid_codec layer → All (FitFor coordinate_limit) (from layer i) → Folding F (length d) room (F.result done (items_from F layer i)) ms layer d k 0 i
  fold_from done ms k i h w e l f =
      record {
        steps = steps;
        done = done;
        yields = refl;
        stages = ap (space room) e ∙ sym (plus_none (space room (F.stages done (items_from F layer i))));
        upto = l;
        fit = f;
        size = h.0;
        within = omega (arith, h.0, h.1);
        laid = h.2;
        wide = w;
        long = refl;
      }

  pub fold_start : (done : List R) (ms : List Stage) (k : ℕ) → FilledBy (codec_of F.kind) (length d) room done (Some k) d → memory_width * room ≤ length d → ms ≡ F.stages done (items_of F layer)
      → All (FitFor coordinate_limit) (layer_of layer) → Folding F (length d) room (F.result done (items_of F layer)) ms layer d k 0 0
  fold_start done ms k h w e f =
      let s : items_of F layer ≡ items_from F layer 0 = sym (from_start (codec_of F.items) (count trapezoid_codec layer) layer) in
      subst (λ (ts : List I). Folding F (length d) room (F.result done ts) ms layer d k 0 0) (sym s)
      (fold_from done ms k 0 h w (e ∙ ap (F.stages done) s) (omega arith) (subst (All (FitFor coordinate_limit)) (sym (from_start trapezoid_codec (count trapezoid_codec layer) layer)) f))

  -- in a blank buffer
  pub blank_start : (ms : List Stage) → ms ≡ F.stages [] (items_of F layer) → Borrowed d room → All (FitFor coordinate_limit) (layer_of layer) → Folding F (length d) room (F.result [] (items_of F layer)) ms layer d 0 0 0
  blank_start ms e h f = fold_start [] ms 0 (fill_none F.kind d room h) h.wide e f

-- ---- one turn
module _ {R I : Type 0} {F : Fold R I} {W room : ℕ} {goal : List R} {ms : List Stage} {layer out : List ℤ} {k overlays i : ℕ} (h : Folding F W room goal ms layer out k overlays i) where
  pub fold_words : memory_width * k ≤ length out
  fold_words = omega (arith, h.within, h.wide, h.long)

  pub fold_leading : records_from (codec_of F.kind) k out 0 ≡ h.done
  fold_leading = filled_first F.kind W room h.done k out (h.size, omega (arith, h.size, h.within), h.laid)

  -- what stands stays
  pub fold_stands : F.result h.done (items_from F layer i) ≡ h.done → space room (F.stages h.done (items_from F layer i)) ≡ enough 0 → (n : ℕ) → overlays ≡ n → FoldedBy (codec_of F.kind) W room goal ms (folded k n) out
  fold_stands e u n is =
      let y : goal ≡ h.done = h.yields ∙ e in
      let z : overlays + 0 ≡ n = omega (arith, is) in
      (h.stages ∙ ap (plus overlays) u ∙ ap enough z, rw y (h.size, omega (arith, h.size, h.within), h.laid))

  pub fold_stop : count trapezoid_codec layer ≤ i → (n : ℕ) → overlays ≡ n → FoldedBy (codec_of F.kind) W room goal ms (folded k n) out
  fold_stop l n is =
      let e : items_from F layer i ≡ [] = from_none (codec_of F.items) (count trapezoid_codec layer) layer i l in
      fold_stands (ap (F.result h.done) e ∙ h.steps.none h.done) (ap (λ (ts : List I). space room (F.stages h.done ts)) e ∙ h.steps.no_stages room h.done) n is

  writing : (more : List R) → WritingBy F.kind W room (h.done ++ more) more out k
  writing more = record { done = h.done; all = refl; laid = h.laid; size = h.size; upto = h.within; wide = h.wide; long = h.long }

  pub fold_borrowed : (free : ℕ) → k + free ≤ room → Borrowed (tail out k) free
  fold_borrowed free l = let b = write_borrowed (writing []) in record { blank = b.blank; wide = omega (arith, b.wide, l) }

  -- t comes back as the tail
  pub fold_added : (free : ℕ) (parts : List R) (m : ℕ) (t : List ℤ) → k + free ≤ room → FilledBy (codec_of F.kind) (length (tail out k)) free parts (Some m) t
      → FilledBy (codec_of F.kind) W room (h.done ++ parts) (Some (k + m)) (put_mid (memory_width * k) (length out - memory_width * k) out t)
  fold_added free parts m t l g = write_stop (write_turn (writing parts) parts [] (sym (append-nil parts)) (Some m) t (g.0, omega (arith, g.1, l), g.2) m refl) refl

  pub fold_long : (t : List ℤ) → length t ≡ length (tail out k) → length (put_mid (memory_width * k) (length out - memory_width * k) out t) ≡ W
  fold_long t e = same_len_mid (memory_width * k) (length out - memory_width * k) out t e ∙ h.long

  rest_fit : i < count trapezoid_codec layer → All (FitFor coordinate_limit) (record_at trapezoid_codec layer i ∷ from layer (i + 1))
  rest_fit l = subst (All (FitFor coordinate_limit)) (from_step trapezoid_codec (count trapezoid_codec layer) layer i l) h.fit

  pub fold_fit : i < count trapezoid_codec layer → (t : Trapezoid) → t ≡ record_at trapezoid_codec layer i → FitFor coordinate_limit t
  fold_fit l t is = subst (FitFor coordinate_limit) (sym is) (rest_fit l).0

  -- a is number i
  module _ (l : i < count trapezoid_codec layer) (a : I) (is : a ≡ item_at F layer i) where
    step : items_from F layer i ≡ a ∷ items_from F layer (i + 1)
    step = from_step (codec_of F.items) (count trapezoid_codec layer) layer i l ∙ ap (λ (t : I). t ∷ items_from F layer (i + 1)) (sym is)

    abbrev pub here : List Stage
    here = F.turn h.done a (count trapezoid_codec layer - (i + 1))

    abbrev later : List Stage
    later = F.stages (F.next h.done a) (items_from F layer (i + 1))

    unrolled : space room ms ≡ plus overlays (space room (here ++ later))
    unrolled =
        h.stages ∙ ap (λ (ts : List I). plus overlays (space room (F.stages h.done ts))) step ∙ ap (λ (ns : List Stage). plus overlays (space room ns)) (h.steps.one_stages_lem h.done (items_from F layer (i + 1)) a)
        ∙ ap (λ (n : ℕ). plus overlays (space room (F.turn h.done a n ++ later))) (length_from (codec_of F.items) (count trapezoid_codec layer - (i + 1)) layer (i + 1))

    pub fold_no_room : (c : ℕ) → space room here ≡ no_room c → space room ms ≡ no_room (overlays + c)
    fold_no_room c e = unrolled ∙ ap (plus overlays) (space_no_room room c here later e)

    pub fold_next : (m c : ℕ) (d : List ℤ) → space room here ≡ enough c → FilledBy (codec_of F.kind) W room (F.next h.done a) (Some m) d → Folding F W room goal ms layer d m (overlays + c) (i + 1)
    fold_next m c d e g =
        record {
          steps = h.steps;
          done = F.next h.done a;
          yields = h.yields ∙ ap (F.result h.done) step ∙ h.steps.one h.done (items_from F layer (i + 1)) a;
          stages = unrolled ∙ ap (plus overlays) (space_enough room c here later e) ∙ plus-plus overlays c (space room later);
          upto = omega (arith, l);
          fit = (rest_fit l).1;
          size = g.0;
          within = omega (arith, g.0, g.1);
          laid = g.2;
          wide = h.wide;
          long = ap length g.2 ∙ length_image (codec_of F.kind) F.kind.readable W (F.next h.done a) (omega (arith, g.1, h.wide));
        }

-- ---- a turn whose parts are appended
-- with room for `free` in the tail, `parts` and the stages `ns` are what the turn adds
pub record Part {R I : Type 0} (F : Fold R I) (room : ℕ) (done : List R) (a : I) (left free : ℕ) (parts : List R) (ns : List Stage) : Type 0 where
  pub next : F.next done a ≡ done ++ parts
  pub same : space room (F.turn done a left) ≡ space free ns
  pub within : length done + free ≤ room

module _ {R I : Type 0} {F : Fold R I} {W room : ℕ} {goal : List R} {ms : List Stage} {layer out : List ℤ} {k overlays i : ℕ} (h : Folding F W room goal ms layer out k overlays i) where
  -- what an answer says of the loop, when the tail comes back as t
  pub record Turned (free : ℕ) (f : Result Folded NoRoom) (t : List ℤ) : Type 0 where
    pub full : (c : ℕ) → f ≡ no_room_after c → space room ms ≡ no_room (overlays + c)
    pub fits : (m c : ℕ) → f ≡ folded m c → m ≤ free
    pub keeps : (m c : ℕ) → f ≡ folded m c → Folding F W room goal ms layer (put_mid (memory_width * k) (length out - memory_width * k) out t) (k + m) (overlays + c) (i + 1)

  pub fold_turn : (l : i < count trapezoid_codec layer) (a : I) → a ≡ item_at F layer i → {free : ℕ} {parts : List R} {ns : List Stage}
      → Part F room h.done a (count trapezoid_codec layer - (i + 1)) free parts ns → (f : Result Folded NoRoom) (t : List ℤ) → FoldedBy (codec_of F.kind) (length (tail out k)) free parts ns f t → Turned free f t
  fold_turn l a is {free} {parts} {ns} p f t g = record { full = full; fits = fits; keeps = keeps }
    where
      known : (r : Result Folded NoRoom) → f ≡ r → FoldedBy (codec_of F.kind) (length (tail out k)) free parts ns r t
      known r e = subst (λ (x : Result Folded NoRoom). FoldedBy (codec_of F.kind) (length (tail out k)) free parts ns x t) e g

      full : (c : ℕ) → f ≡ no_room_after c → space room ms ≡ no_room (overlays + c)
      full c e = fold_no_room h l a is c (p.same ∙ (known (no_room_after c) e).0)

      fits : (m c : ℕ) → f ≡ folded m c → m ≤ free
      fits m c e = let g = (known (folded m c) e).1 in omega (arith, g.0, g.1)

      keeps : (m c : ℕ) → f ≡ folded m c → Folding F W room goal ms layer (put_mid (memory_width * k) (length out - memory_width * k) out t) (k + m) (overlays + c) (i + 1)
      keeps m c e =
          let g = known (folded m c) e in
          let d = put_mid (memory_width * k) (length out - memory_width * k) out t in
          let w = fold_added h free parts m t (omega (arith, p.within, h.size)) g.1 in
          fold_next h l a is (k + m) c d (p.same ∙ g.0) (subst (λ (ts : List R). FilledBy (codec_of F.kind) W room ts (Some (k + m)) d) (sym p.next) w)

  -- the same where the turn is one overlay
  pub fill_turn : (l : i < count trapezoid_codec layer) (a : I) → a ≡ item_at F layer i → {free : ℕ} {parts : List R}
      → Part F room h.done a (count trapezoid_codec layer - (i + 1)) free parts (overlaid (length parts) ∷ []) → (f : Option ℕ) (t : List ℤ) → FilledBy (codec_of F.kind) (length (tail out k)) free parts f t → Turned free (once f) t
  fill_turn l a is {free} {parts} p f t g = fold_turn l a is p (once f) t (fill_folded (codec_of F.kind) (length (tail out k)) free parts f t g)

-- ---- a fold that appends the same parts whatever stands
module _ {R I : Type 0} (kind : Kind R) (items : Kind I) (result : List I → List R) (stages : ℕ → List I → List Stage) (part : I → List R) (turn : ℕ → I → ℕ → List Stage) where
  abbrev pub appending : Fold R I
  appending = record { kind = kind; items = items; result = λ done ts. done ++ result ts; stages = λ done ts. stages (length done) ts; next = λ done t. done ++ part t; turn = λ done t left. turn (length done) t left }

  pub appending_steps : result [] ≡ [] → ((t : I) (ts : List I) → result (t ∷ ts) ≡ part t ++ result ts) → ((room k : ℕ) → space room (stages k []) ≡ enough 0)
      → ((k : ℕ) (t : I) (ts : List I) → stages k (t ∷ ts) ≡ turn k t (length ts) ++ stages (k + length (part t)) ts) → Steps appending
  appending_steps none one no_stages one_stages_lem =
      record {
        none = λ done. ap (λ (ts : List R). done ++ ts) none ∙ append-nil done;
        one = λ done ts t. ap (λ (us : List R). done ++ us) (one t ts) ∙ sym (append_assoc done (part t) (result ts));
        no_stages = λ room done. no_stages room (length done);
        one_stages_lem = λ done ts t. one_stages_lem (length done) t ts ∙ ap (λ (k : ℕ). turn (length done) t (length ts) ++ stages k ts) (sym (length-append done (part t)));
      }
