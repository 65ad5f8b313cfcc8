-- A column filled from the bottom up: what holds before each side, that a turn keeps it, and what it says at each way out.
use Rattle.std.specs.Prelude.{Option, Some, None}
use mathlib.Core.Path.{◌≡◌, refl, sym, ◌∙◌, ap, subst}
use mathlib.Core.Bool.{Bool, true, false, cond, ◌&&◌}
use mathlib.Core.List.{List, [], ◌∷◌, ◌++◌}
use Prim.Native.Nat.{ℕ, ◌+◌, ◌*◌, ◌-◌, ◌<◌, ◌≤◌}
use native.Mathlib.Omega.{arith}
use native.Mathlib.Numerals.{add-one}
use lib.Dec.{eqb}
use lib.ListN.{length, get_or, take, drop, drop_of_length-le, length-drop}
use lib.IntN.{ℤ}
use lib.Seq.{drop-cons, get_or-drop}
use Rattle.std.proofs.lemmas.List.{take_rest}
use borrow.Rule.Slice.PartMut.{put_mid}
use Rattle.lists.proofs.Tests.{is_true, is_false}
use Rattle.std.specs.declared.cmp.Ordering.{Ordering}
use Rattle.integer.specs.Fraction.{Fraction}
use Rattle.records.specs.Limits.{memory_width}
use Rattle.geometry.specs.declared.Line.{Line}
use Rattle.geometry.specs.declared.Base.{Base}
use Rattle.geometry.specs.declared.Trapezoid.{Trapezoid}
use Rattle.geometry.specs.Positions.{position, right_of, is_less, below}
use Rattle.overlay.specs.Overlay.{tag_of}
use Rattle.trapezoids_code.specs.Tails.{in_front, Borrowed, FilledAs}
use Rattle.trapezoids_code.proofs.Writing.{tail, Writing, write_start, write_stop, write_full, write_upto, write_turn, fill_nothing}
use Rattle.columns_code.specs.Order.{line_of_side, present_by, passing, enter_a, enter_b, strip, strips_from, strips}
use Rattle.strips_code.proofs.Strips.{strips_none, strips_first, strips_end, strips_above, strips_level}

front : (b : Bool) (t : Trapezoid) (ts : List Trapezoid) → in_front b t ts ≡ in_front b t [] ++ ts
front true t ts = refl
front false t ts = refl

-- whether a side is below another, by their order
pub below_by : (x : Fraction) (l m : Line) {o : Ordering} {r : Bool} → r ≡ is_less o → o ≡ right_of x l m → r ≡ below x l m
unfolding below
below_by x l m e f = e ∙ ap is_less f

-- a choice by a test
module _ {r : Bool} where
  pub both_yes : {t y : Bool} → r ≡ true → y ≡ t → y ≡ r && t
  both_yes e f = rw e f

  pub both_no : (t : Bool) {y : Bool} → r ≡ false → y ≡ r → y ≡ r && t
  both_no t e f = rw e (f ∙ e)

  pub chosen : (y : ℕ) {x z : ℕ} → r ≡ true → z ≡ x → z ≡ cond r x y
  chosen y e f = rw e f

  pub left_alone : (x : ℕ) {y z : ℕ} → r ≡ false → z ≡ y → z ≡ cond r x y
  left_alone x e f = rw e f

-- the sides of an order after the first, as a loop goes over them
abbrev pub rest_of : List ℕ → List ℕ
rest_of order = take (length order - 1) (drop 1 order)

pub rest_count : (order : List ℕ) → length order ≡ 4 → length (rest_of order) ≡ 3
rest_count order l = ap length (take_rest order 1) ∙ length-drop 1 order ∙ (let e : length order - 1 ≡ 3 = omega (arith, l) in e)

pub rest_at : (order : List ℕ) (i : ℕ) → get_or (rest_of order) i 0 ≡ get_or order (i + 1) 0
rest_at order i =
    let e : 1 + i ≡ i + 1 = omega arith in
    ap (λ (s : List ℕ). get_or s i 0) (take_rest order 1) ∙ get_or-drop 1 order i 0 ∙ ap (λ (k : ℕ). get_or order k 0) e

module _ (tag : ℕ) (A B : Trapezoid) (p q : Base) (fa fb : Bool) where
  -- what is left, with sides zs still to come
  abbrev pub left : ℕ → Bool → Bool → List ℕ → List Trapezoid
  left lower ina inb zs = strips_from tag A B p q fa fb lower ina inb zs

  -- the sides up to number k of the order have been passed
  pub record Stacking (W room : ℕ) (order : List ℕ) (out : List ℤ) (lower : ℕ) (ina inb : Bool) (n k : ℕ) : Type 0 where
    pub writing : Writing W room (strips tag A B p q fa fb order) (left lower ina inb (drop k order)) out n
    pub long : length order ≡ 4

  module _ (order : List ℕ) (l : length order ≡ 4) (d : List ℤ) (room : ℕ) (h : Borrowed d room) where
    order_first : order ≡ get_or order 0 0 ∷ drop 1 order
    order_first = drop-cons order 0 0 (omega (arith, l))

    pub stack_none : present_by fa fb (get_or order 0 0) ≡ false → FilledAs (length d) room (strips tag A B p q fa fb order) (Some 0) d
    stack_none e =
        let s : strips tag A B p q fa fb order ≡ [] = ap (strips tag A B p q fa fb) order_first ∙ strips_none tag A B p q fa fb (get_or order 0 0) (drop 1 order) (is_false e) in
        rw s (fill_nothing d room h)

    pub stack_start : present_by fa fb (get_or order 0 0) ≡ true → (ina inb : Bool) → ina ≡ passing 0 1 (get_or order 0 0) false → inb ≡ passing 2 3 (get_or order 0 0) false
        → Stacking (length d) room order d (get_or order 0 0) ina inb 0 1
    unfolding enter_a enter_b
    stack_start e ina inb ea eb =
        let s : strips tag A B p q fa fb order ≡ left (get_or order 0 0) ina inb (drop 1 order)
        = ap (strips tag A B p q fa fb) order_first ∙ strips_first tag A B p q fa fb (get_or order 0 0) (drop 1 order) (is_true e) ∙ rw (ea, eb) in
        record { writing = subst (λ (ts : List Trapezoid). Writing (length d) room (strips tag A B p q fa fb order) ts d 0) s (write_start (strips tag A B p q fa fb order) d room h); long = l }

  module _ {W room : ℕ} {order : List ℕ} {out : List ℤ} {lower : ℕ} {ina inb : Bool} {n k : ℕ} (h : Stacking W room order out lower ina inb n k) where
    pub stack_last : 4 ≤ k → FilledAs W room (strips tag A B p q fa fb order) (Some n) out
    stack_last l = write_stop h.writing (ap (left lower ina inb) (drop_of_length-le order {i = k} (omega (arith, h.long, l))) ∙ (unfold strips_from in refl))

    -- side number k
    module _ (l : k < 4) (z : ℕ) (here : z ≡ get_or order k 0) where
      order_next : drop k order ≡ z ∷ drop (k + 1) order
      order_next = rw (here, add-one) (drop-cons order k 0 (omega (arith, h.long)))

      pub stack_end : present_by fa fb z ≡ false → FilledAs W room (strips tag A B p q fa fb order) (Some n) out
      stack_end e = write_stop h.writing (ap (left lower ina inb) order_next ∙ strips_end tag A B p q fa fb z (drop (k + 1) order) lower ina inb (is_false e))

      -- a side that is present: the trapezoid up to it, if it rises, and what is left after it
      pub stack_turn : present_by fa fb z ≡ true → (rises : Bool) → rises ≡ below (position p) (line_of_side A B lower) (line_of_side A B z)
          → left lower ina inb (drop k order)
          ≡ in_front (rises && eqb (tag_of ina inb) tag) (strip A B p q lower z) [] ++ left (cond rises z lower) (passing 0 1 z ina) (passing 2 3 z inb) (drop (k + 1) order)
      unfolding enter_a enter_b
      stack_turn e true r =
          ap (left lower ina inb) order_next ∙ strips_above tag A B p q fa fb z (drop (k + 1) order) lower ina inb (is_true e) (is_true (sym r)) ∙ front (eqb (tag_of ina inb) tag) (strip A B p q lower z) (left z (passing 0 1 z ina) (passing 2 3 z inb) (drop (k + 1) order))
      stack_turn e false r =
          ap (left lower ina inb) order_next ∙ strips_level tag A B p q fa fb z (drop (k + 1) order) lower ina inb (is_true e) (is_false (sym r))

      -- what the functions answered, for the side with number k
      module _ (e : present_by fa fb z ≡ true) (rises yes : Bool)
          (er : rises ≡ below (position p) (line_of_side A B lower) (line_of_side A B z)) (ey : yes ≡ rises && eqb (tag_of ina inb) tag) (f : Option ℕ) (t : List ℤ)
          (g : FilledAs (length (tail out n)) (room - n) (in_front yes (strip A B p q lower z) []) f t) where
        abbrev more : List Trapezoid
        more = in_front (rises && eqb (tag_of ina inb) tag) (strip A B p q lower z) []

        abbrev later : List Trapezoid
        later = left (cond rises z lower) (passing 0 1 z ina) (passing 2 3 z inb) (drop (k + 1) order)

        filled : FilledAs (length (tail out n)) (room - n) more f t
        filled = subst (λ (b : Bool). FilledAs (length (tail out n)) (room - n) (in_front b (strip A B p q lower z) []) f t) ey g

        turn : left lower ina inb (drop k order) ≡ more ++ later
        turn = stack_turn e rises er

        pub stack_full : f ≡ None → room < length (strips tag A B p q fa fb order)
        stack_full y = write_full h.writing more later turn f t filled y

        pub stack_upto : (m : ℕ) → f ≡ Some m → n + m ≤ room
        stack_upto m y = write_upto h.writing more later turn f t filled m y

        pub stack_next : (m : ℕ) → f ≡ Some m → (lower' : ℕ) (ina' inb' : Bool) → lower' ≡ cond rises z lower → ina' ≡ passing 0 1 z ina → inb' ≡ passing 2 3 z inb
            → Stacking W room order (put_mid (memory_width * n) (length out - memory_width * n) out t) lower' ina' inb' (n + m) (k + 1)
        stack_next m y lower' ina' inb' el ea eb' =
            record {
              writing = subst (λ (ts : List Trapezoid). Writing W room (strips tag A B p q fa fb order) ts (put_mid (memory_width * n) (length out - memory_width * n) out t) (n + m)) (sym (λ i. left (el i) (ea i) (eb' i) (drop (k + 1) order))) (write_turn h.writing more later turn f t filled m y);
              long = h.long;
            }
