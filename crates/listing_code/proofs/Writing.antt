-- Laws of a text written into a buffer.
use mathlib.Core.Path.{◌≡◌, refl, sym, ap, ◌∙◌}
use mathlib.Core.List.{List, [], ◌++◌, append_assoc}
use Prim.Native.Nat.{ℕ, ◌+◌, ◌-◌, ◌≤◌}
use native.Mathlib.Nat.{add-zero}
use native.Mathlib.Omega.{arith}
use lib.ListN.{length, take, drop, length-append, length-drop, take-append-drop}
use lib.Seq.{length-take-le, take_at, drop_at, drop-drop}
use borrow.Rule.Slice.PartMut.{put_mid}
use Rattle.listing.specs.Listing.{with_text}

-- nothing written
pub written_nothing : (d : List ℕ) (at : ℕ) → with_text d at [] ≡ d
unfolding with_text
written_nothing d at = rw (add-zero) (take-append-drop at d)

-- one text, as a part of the buffer
pub written_part : (d s t : List ℕ) (at : ℕ) → s ≡ t → put_mid at (at + length t - at) d s ≡ with_text d at t
unfolding with_text
written_part d s t at e =
    let k : at + length t - at ≡ length t = omega arith in
    rw (k, drop-drop (length t) at d, e) refl

pub written-length : (d : List ℕ) (at : ℕ) (t : List ℕ) → at + length t ≤ length d → length (with_text d at t) ≡ length d
unfolding with_text
written-length d at t l =
    let e : length (take at d) ≡ at = length-take-le at d (omega arith) in
    let f : length (drop (at + length t) d) ≡ length d - (at + length t) = length-drop (at + length t) d in
    rw (length-append, length-append, e, f) (omega arith)

-- one text, then another past it
pub written_append : (d : List ℕ) (at : ℕ) (s t : List ℕ) → at ≤ length d → with_text (with_text d at s) (at + length s) t ≡ with_text d at (s ++ t)
unfolding with_text
written_append d at s t l =
    let p : List ℕ = take at d in
    let q : List ℕ = drop (at + length s) d in
    let e : length (p ++ s) ≡ at + length s = length-append p s ∙ ap (λ (n : ℕ). n + length s) (length-take-le at d l) in
    let w : p ++ (s ++ q) ≡ (p ++ s) ++ q = sym (append_assoc p s q) in
    let a : take (at + length s) (p ++ (s ++ q)) ≡ p ++ s = ap (take (at + length s)) w ∙ take_at (p ++ s) q (at + length s) e in
    let f : drop (at + length s) (p ++ (s ++ q)) ≡ q = ap (drop (at + length s)) w ∙ drop_at (p ++ s) q (at + length s) e in
    let n : at + length s + length t ≡ at + length (s ++ t) = omega (arith, length-append s t) in
    let b : drop (at + length s + length t) (p ++ (s ++ q)) ≡ drop (at + length (s ++ t)) d = sym (drop-drop (length t) (at + length s) (p ++ (s ++ q))) ∙ ap (drop (length t)) f ∙ drop-drop (length t) (at + length s) d ∙ ap (λ (m : ℕ). drop m d) n in
    rw (a, b) (append_assoc p s (t ++ drop (at + length (s ++ t)) d) ∙ ap (λ (x : List ℕ). p ++ x) (sym (append_assoc s t (drop (at + length (s ++ t)) d))))
