-- A text put piece by piece: d was d₀, and `rest` is still to come of the whole text, from number p on.
use mathlib.Core.Path.{◌≡◌, refl, sym, ap, ◌∙◌}
use mathlib.Core.List.{List, [], ◌∷◌, ◌++◌, append_assoc}
use Prim.Native.Nat.{ℕ, suc, ◌+◌, ◌-◌, ◌<◌, ◌≤◌}
use native.Mathlib.Nat.{sub-zero}
use native.Mathlib.Numerals.{add-one}
use native.Mathlib.Omega.{arith}
use lib.ListN.{length, get_or, drop, length-append}
use lib.IntN.{ℤ, pos}
use lib.Seq.{slice, slice-cons, slice_empty, length-slice}
use Rattle.listing.specs.Listing.{with_text, Room, Wrote, decimal_word, separator, field, words_line, record_line, lines_from, decimal, numbered, head_line, listing}
use Rattle.listing_code.proofs.Writing.{written_nothing, written_append, written-length}

pub record Going (d₀ : List ℕ) (at : ℕ) (whole d : List ℕ) (p : ℕ) (rest : List ℕ) : Type 0 where
  pub same : with_text d p rest ≡ with_text d₀ at whole
  pub total : p + length rest ≡ at + length whole
  pub long : length d ≡ length d₀

pub set_out : (d : List ℕ) (at : ℕ) (whole : List ℕ) → Going d at whole d at whole
set_out d at whole = record { same = refl; total = refl; long = refl }

-- the next piece is put, if it has room
pub onward : {d₀ d whole rest e : List ℕ} {at p q : ℕ} (s t : List ℕ) → Going d₀ at whole d p rest → rest ≡ s ++ t → Room d p s → Wrote d p s q e → Going d₀ at whole e q t
onward {d₀} {d} {whole} {rest} {e} {at} {p} {q} s t h r l w =
    let n : length e ≡ length d = ap length w.1 ∙ written-length d p s l in
    let a : with_text (with_text d p s) (p + length s) t ≡ with_text d p rest = written_append d p s t (omega arith) ∙ ap (with_text d p) (sym r) in
    record {
      same = rw (w.0, w.1) (a ∙ h.same);
      total = omega (arith, h.total, w.0, ap length r, length-append s t);
      long = n ∙ h.long;
    }

-- all is put
pub arrived : {d₀ d whole rest : List ℕ} {at p : ℕ} → Going d₀ at whole d p rest → rest ≡ [] → Wrote d₀ at whole p d
arrived {d₀} {d} {whole} {rest} {at} {p} h e =
    (omega (arith, h.total, ap length e), sym (written_nothing d p) ∙ ap (with_text d p) (sym e) ∙ h.same)

-- the last piece
pub at_last : {d₀ d whole rest e : List ℕ} {at p q : ℕ} → Going d₀ at whole d p rest → Wrote d p rest q e → Wrote d₀ at whole q e
at_last h w = (omega (arith, h.total, w.0), w.1 ∙ h.same)

-- ---- the room for the whole text is known
pub record Writing (d₀ : List ℕ) (at : ℕ) (whole d : List ℕ) (p : ℕ) (rest : List ℕ) : Type 0 where
  pub going : Going d₀ at whole d p rest
  pub room : at + length whole ≤ length d₀

pub begin : (d : List ℕ) (at : ℕ) (whole : List ℕ) → Room d at whole → Writing d at whole d at whole
begin d at whole l = record { going = set_out d at whole; room = l }

-- the next piece has room
pub room_of : {d₀ d whole rest : List ℕ} {at p : ℕ} (s t : List ℕ) → Writing d₀ at whole d p rest → rest ≡ s ++ t → Room d p s
room_of s t h e = omega (arith, h.going.total, h.going.long, h.room, ap length e, length-append s t)

-- the next piece is put
pub further : {d₀ d whole rest e : List ℕ} {at p q : ℕ} (s t : List ℕ) → Writing d₀ at whole d p rest → rest ≡ s ++ t → Wrote d p s q e → Writing d₀ at whole e q t
further s t h r w = record { going = onward s t h.going r (room_of s t h r) w; room = h.room }

-- all is put
pub finish : {d₀ d whole rest : List ℕ} {at p : ℕ} → Writing d₀ at whole d p rest → rest ≡ [] → Wrote d₀ at whole p d
finish h e = arrived h.going e

-- the last piece
pub room_last : {d₀ d whole rest : List ℕ} {at p : ℕ} → Writing d₀ at whole d p rest → Room d p rest
room_last h = omega (arith, h.going.total, h.going.long, h.room)

pub complete : {d₀ d whole rest e : List ℕ} {at p q : ℕ} → Writing d₀ at whole d p rest → Wrote d p rest q e → Wrote d₀ at whole q e
complete h w = at_last h.going w

-- ---- word by word
pub field_is : (s : List ℤ) (j end : ℕ) (t : List ℕ) → t ≡ separator (slice (j + 1) end s) ∷ [] → field s j end ≡ decimal_word (get_or s j (pos 0)) ++ t
unfolding field
field_is s j end t e = ap (λ (x : List ℕ). decimal_word (get_or s j (pos 0)) ++ x) (sym e)

line_cons : (w : ℤ) (ws : List ℤ) → words_line (w ∷ ws) ≡ decimal_word w ++ (separator ws ∷ []) ++ words_line ws
unfolding words_line
line_cons w ws = sym (append_assoc (decimal_word w) (separator ws ∷ []) (words_line ws))

pub next_field : (s : List ℤ) (j end : ℕ) → j < end → end ≤ length s → words_line (slice j end s) ≡ field s j end ++ words_line (slice (j + 1) end s)
unfolding field
next_field s j end h l = ap words_line (rw (add-one) (slice-cons j end s (pos 0) h l)) ∙ line_cons (get_or s j (pos 0)) (slice (j + 1) end s)

pub line_end : (s : List ℤ) (end : ℕ) → words_line (slice end end s) ≡ []
unfolding words_line
line_end s end = ap words_line (slice_empty end s)

separator_of : (ws : List ℤ) (n : ℕ) → length ws ≡ n → 0 < n → separator ws ≡ 32
separator_of [] n e l = absurd (omega arith)
separator_of (w ∷ ws) n e l = refl

pub blank_after : (s : List ℤ) (j end : ℕ) → j + 1 < end → end ≤ length s → separator (slice (j + 1) end s) ≡ 32
blank_after s j end h l = separator_of (slice (j + 1) end s) (end - (j + 1)) (length-slice (j + 1) end s l) (omega arith)

pub newline_after : (s : List ℤ) (j end : ℕ) → j < end → end ≤ j + 1 → separator (slice (j + 1) end s) ≡ 10
newline_after s j end h l = let e : j + 1 ≡ end = omega arith in rw (e, slice_empty end s) refl

-- ---- line by line
pub next_line : (s : List ℤ) (n i : ℕ) → i < n → lines_from (n - i) s i ≡ record_line s i ++ lines_from (n - (i + 1)) s (i + 1)
unfolding lines_from
next_line s n i l = let e : n - i ≡ suc (n - (i + 1)) = omega arith in rw (e) refl

pub lines_end : (s : List ℤ) (n i : ℕ) → n ≤ i → lines_from (n - i) s i ≡ []
unfolding lines_from
lines_end s n i l = let e : n - i ≡ 0 = omega arith in rw (e) refl

pub all_lines : (n : ℕ) (s : List ℤ) → lines_from n s 0 ≡ lines_from (n - 0) s 0
all_lines n s = ap (λ (k : ℕ). lines_from k s 0) (sym (sub-zero n))

-- ---- a text and a number, and the whole listing
pub numbered_is : (t : List ℕ) (n : ℕ) → numbered t n ≡ t ++ decimal n
unfolding numbered
numbered_is t n = refl

pub listing_is : (n : ℕ) (s : List ℤ) → listing n s ≡ head_line n ++ lines_from n s 0
unfolding listing
listing_is n s = refl

-- from the first byte on
pub from_first : (d text : List ℕ) {e : List ℕ} {r : ℕ} → Wrote d 0 text r e → (r ≡ length text) × (e ≡ text ++ drop r d)
unfolding with_text
from_first d text {e} {r} w =
    let n : r ≡ length text = omega (arith, w.0) in
    let k : 0 + length text ≡ r = omega arith in
    (n, w.1 ∙ ap (λ (m : ℕ). text ++ drop m d) k)
