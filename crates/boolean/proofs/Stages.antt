-- When there is no room, with how many overlays, and what the last stage says.
use mathlib.Core.Path.{◌≡◌, refl, sym, ◌∙◌, ap, subst}
use mathlib.Core.List.{List, [], ◌∷◌, ◌++◌}
use mathlib.Core.Logic.{inl}
use Prim.Native.Nat.{ℕ, ◌+◌}
use native.Mathlib.Omega.{arith}
use lib.Dec.{T, ltb, ltb→lt, nltb→le}
use lib.ListN.{length, length-append}
use borrow.Author.Tests.{lt-ltb, le-ltb}
use Rattle.lists.specs.Lists.{All, Any}
use Rattle.lists.proofs.Tests.{cond_cases}
use Rattle.lists.proofs.Lists.{any_right, any_elim}
use Rattle.lists.proofs.Counts.{total_append}
use Rattle.geometry.specs.declared.Trapezoid.{Trapezoid}
use Rattle.overlay.specs.Overlay.{overlay, tagged}
use Rattle.boolean.specs.Operations.{union, intersect, a_minus_b, b_minus_a, symmetric_difference, minus_all, difference, common, intersection, deoverlapped_from}
use Rattle.boolean.specs.Space.{Stage, size_of, addition, overlays_of, Space, enough, no_room, plus, space, minus_all_stages, one_stages, difference_stages, common_stages, intersection_stages, deoverlapped_stages}
use Rattle.boolean.specs.Counts.{all_overlays, Exceeds, Within, FirstPast, SpaceExact, is_no_room, NoRoomExact, last_size, LastStage, DeoverlappedLastStage}
use Rattle.boolean.proofs.Space.{space_enough}

-- ---- space
module _ (room : ℕ) where
  -- what an answer says of the stages
  abbrev Says : List Stage → Space → Type 0
  Says ms (enough n) = All (Within room) ms × (n ≡ all_overlays ms)
  Says ms (no_room n) = FirstPast room ms n

  says_plus : (m : Stage) (ms : List Stage) (s : Space) → Within room m → Says ms s → Says (m ∷ ms) (plus (overlays_of m) s)
  says_plus m ms (enough n) w h = ((w, h.0), ap (λ (x : ℕ). overlays_of m + x) h.1)
  says_plus m ms (no_room n) w h =
      record {
        before = m ∷ h.before;
        first = h.first;
        after = h.after;
        split = ap (λ (us : List Stage). m ∷ us) h.split;
        within = (w, h.within);
        exceeds = h.exceeds;
        overlays = ap (λ (x : ℕ). overlays_of m + x) h.overlays;
      }

  space_says : (ms : List Stage) → Says ms (space room ms)
  unfolding space
  space_says [] = (tt, refl)
  space_says (m ∷ ms) =
      cond_cases (Says (m ∷ ms)) (ltb room (size_of m)) (no_room (overlays_of m)) (plus (overlays_of m) (space room ms))
      (λ t. record { before = []; first = m; after = ms; split = refl; within = tt; exceeds = ltb→lt room (size_of m) t; overlays = omega arith })
      (λ t. says_plus m ms (space room ms) (nltb→le room (size_of m) t) (space_says ms))

  within_enough : (ms : List Stage) → All (Within room) ms → space room ms ≡ enough (all_overlays ms)
  unfolding space
  within_enough [] h = refl
  within_enough (m ∷ ms) h = rw (le-ltb room (size_of m) h.0, within_enough ms h.1)

  exceeds_no_room : (m : Stage) (ms : List Stage) → Exceeds room m → space room (m ∷ ms) ≡ no_room (overlays_of m)
  unfolding space
  exceeds_no_room m ms h = rw (lt-ltb room (size_of m) h)

  first_no_room : (ms : List Stage) (n : ℕ) → FirstPast room ms n → space room ms ≡ no_room n
  first_no_room ms n h =
      let c = all_overlays h.before in
      let s = total_append overlays_of h.before (h.first ∷ []) in
      let e : c + overlays_of h.first ≡ n = omega (arith, s, h.overlays) in
      ap (space room) h.split ∙ space_enough room c h.before (h.first ∷ h.after) (within_enough h.before h.within)
      ∙ ap (plus c) (exceeds_no_room h.first h.after h.exceeds) ∙ ap no_room e

pub space_exact : SpaceExact
space_exact room ms n = (
  ((λ e. subst (Says room ms) e (space_says room ms)), first_no_room room ms n),
  ((λ e. subst (Says room ms) e (space_says room ms)), (λ h. within_enough room ms h.0 ∙ ap enough (sym h.1))),
)

pub no_room_exact : NoRoomExact
no_room_exact room ms = go (space room ms) (space_says room ms)
  where
    go : (s : Space) → Says room ms s → (T (is_no_room s) → Any (Exceeds room) ms) × (Any (Exceeds room) ms → T (is_no_room s))
    go (enough n) h = ((λ t. absurd t), (λ a. any_elim (λ m w x. omega (arith, w, x)) ms h.0 a))
    go (no_room n) h = ((λ t. subst (Any (Exceeds room)) (sym h.split) (any_right (Exceeds room) h.before (h.first ∷ h.after) (inl h.exceeds))), (λ a. tt))

-- ---- the last stage
last_append : (n : ℕ) (ms ns : List Stage) → last_size n (ms ++ ns) ≡ last_size (last_size n ms) ns
last_append n [] ns = refl
last_append n (m ∷ ms) ns = last_append (size_of m) ms ns

-- whatever came before, one trapezoid ends with what is left of it added
last_one : (n k : ℕ) (a : Trapezoid) (B : List Trapezoid) (ms : List Stage) → last_size n (one_stages k a B ++ ms) ≡ last_size (k + length (minus_all (a ∷ []) B)) ms
last_one n k a B ms =
    last_append n (one_stages k a B) ms
    ∙ ap (λ (x : ℕ). last_size x ms) (last_append n (minus_all_stages k (a ∷ []) B) (addition (k + length (minus_all (a ∷ []) B)) ∷ []))

last_difference : (k : ℕ) (A B : List Trapezoid) → last_size k (difference_stages k A B) ≡ k + length (difference A B)
unfolding difference difference_stages
last_difference k [] B = omega arith
last_difference k (a ∷ A) B =
    let j = k + length (minus_all (a ∷ []) B) in
    let o = last_one k k a B (difference_stages j A B) in
    let h = last_difference j A B in
    let l = length-append (minus_all (a ∷ []) B) (difference A B) in
    omega (arith, o, h, l)

last_common : (k : ℕ) (a : Trapezoid) (B : List Trapezoid) → last_size k (common_stages k a B) ≡ k + length (common a B)
unfolding common common_stages
last_common k a [] = omega arith
last_common k a (b ∷ B) =
    let h = last_common (k + length (tagged 3 (overlay a b))) a B in
    let l = length-append (tagged 3 (overlay a b)) (common a B) in
    omega (arith, h, l)

last_intersection : (k : ℕ) (A B : List Trapezoid) → last_size k (intersection_stages k A B) ≡ k + length (intersection A B)
unfolding intersection intersection_stages
last_intersection k [] B = omega arith
last_intersection k (a ∷ A) B =
    let j = k + length (common a B) in
    let o = last_append k (common_stages k a B) (intersection_stages j A B) ∙ ap (λ (x : ℕ). last_size x (intersection_stages j A B)) (last_common k a B) in
    let h = last_intersection j A B in
    let l = length-append (common a B) (intersection A B) in
    omega (arith, o, h, l)

first_difference : (A B : List Trapezoid) → last_size 0 (difference_stages 0 A B) ≡ length (difference A B)
first_difference A B = let h = last_difference 0 A B in omega (arith, h)

pub last_stage : LastStage
last_stage union A B = last_difference (length A) B A ∙ sym (length-append A (difference B A))
last_stage intersect A B = let h = last_intersection 0 A B in omega (arith, h)
last_stage a_minus_b A B = first_difference A B
last_stage b_minus_a A B = first_difference B A
last_stage symmetric_difference A B =
    let n = length (difference A B) in
    last_append 0 (difference_stages 0 A B) (difference_stages n B A) ∙ ap (λ (x : ℕ). last_size x (difference_stages n B A)) (first_difference A B)
    ∙ last_difference n B A ∙ sym (length-append (difference A B) (difference B A))

last_deoverlapped : (done A : List Trapezoid) → last_size (length done) (deoverlapped_stages done A) ≡ length (deoverlapped_from done A)
unfolding deoverlapped_from deoverlapped_stages
last_deoverlapped done [] = refl
last_deoverlapped done (a ∷ A) =
    let more = minus_all (a ∷ []) done in
    last_one (length done) (length done) a done (deoverlapped_stages (done ++ more) A)
    ∙ ap (λ (x : ℕ). last_size x (deoverlapped_stages (done ++ more) A)) (sym (length-append done more)) ∙ last_deoverlapped (done ++ more) A

pub deoverlapped_last_stage : DeoverlappedLastStage
deoverlapped_last_stage A = last_deoverlapped [] A
