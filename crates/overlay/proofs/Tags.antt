-- Which points lie in the trapezoids of a tag, and that none lies in two.
use mathlib.Core.Path.{◌≡◌, refl, ap}
use mathlib.Core.Bool.{Bool, true, false, not, cond, ◌&&◌}
use mathlib.Core.List.{List, [], ◌∷◌}
use mathlib.Core.Logic.{inl, inr, ◌↔◌}
use Prim.Native.Nat.{ℕ, ◌+◌, ◌≤◌, ◌<◌}
use native.Mathlib.Omega.{arith}
use lib.Dec.{T, T_not, eqb}
use mir.Facts.{yes_and}
use Rattle.lists.specs.Lists.{All, Pairs, Member}
use Rattle.lists.specs.Tests.{bit, count_if}
use Rattle.lists.proofs.Tests.{true_is, is_true, is_false}
use Rattle.lists.proofs.Lists.{all_with}
use Rattle.lists.proofs.Members.{all_member, members}
use Rattle.lists.proofs.Counts.{count_some, bit_most}
use Rattle.geometry.specs.declared.Trapezoid.{Trapezoid}
use Rattle.geometry.specs.Points.{Point, IsPoint}
use Rattle.geometry.specs.Trapezoids.{lies_in, LiesInLayer, Apart}
use Rattle.geometry.specs.Fitness.{FitFor}
use Rattle.overlay.specs.Overlay.{Part, tag_of, overlay, tagged}
use Rattle.overlay.specs.Statements.{TagOne, TagTwo, TagThree, PartsApart}
use Rattle.overlay.proofs.Count.{hit, overlay_count}
use Rattle.overlay.proofs.Parts.{overlay_tags}

-- ---- the trapezoids of a tag
-- a point lies in one of them exactly if a part of the tag that it lies in is counted
tagged-count : (P : Point) (n : ℕ) (ss : List Part) → LiesInLayer P (tagged n ss) ↔ (0 < count_if (hit P (λ (m : ℕ). eqb m n)) ss)
unfolding tagged count_if
tagged-count P n [] = ((λ h. absurd h), (λ h. omega arith))
tagged-count P n (s ∷ ss) = go (eqb s.tag n) (lies_in P s.trapezoid) refl (tagged-count P n ss)
  where
    go : (u v : Bool) → lies_in P s.trapezoid ≡ v → LiesInLayer P (tagged n ss) ↔ (0 < count_if (hit P (λ (m : ℕ). eqb m n)) ss)
        → (LiesInLayer P (cond u (s.trapezoid ∷ tagged n ss) (tagged n ss)) ↔ (0 < bit (v && u) + count_if (hit P (λ (m : ℕ). eqb m n)) ss))
    go true true e k = ((λ h. omega arith), (λ h. inl (is_true e)))
    go true false e k = (
      (λ h. elim h [ inl a ↦ absurd (T_not (lies_in P s.trapezoid) (is_false e) a) | inr a ↦ (let j = k.0 a in omega arith) ]),
      (λ h. inr (k.1 (omega arith))),
    )
    go false true e k = ((λ h. let j = k.0 h in omega arith), (λ h. k.1 (omega arith)))
    go false false e k = ((λ h. let j = k.0 h in omega arith), (λ h. k.1 (omega arith)))

-- ---- the statements
-- 1 is the tag of what lies in the first alone, 2 in the second alone, 3 in both
one : (u v : Bool) → (0 < bit (eqb (tag_of u v) 1)) ↔ (T u × T (not v))
one true true = ((λ h. absurd (omega arith)), (λ h. absurd h.1))
one true false = ((λ h. (tt, tt)), (λ h. omega arith))
one false true = ((λ h. absurd (omega arith)), (λ h. absurd h.0))
one false false = ((λ h. absurd (omega arith)), (λ h. absurd h.0))

two : (u v : Bool) → (0 < bit (eqb (tag_of u v) 2)) ↔ (T v × T (not u))
two true true = ((λ h. absurd (omega arith)), (λ h. absurd h.1))
two true false = ((λ h. absurd (omega arith)), (λ h. absurd h.0))
two false true = ((λ h. (tt, tt)), (λ h. omega arith))
two false false = ((λ h. absurd (omega arith)), (λ h. absurd h.0))

three : (u v : Bool) → (0 < bit (eqb (tag_of u v) 3)) ↔ (T u × T v)
three true true = ((λ h. (tt, tt)), (λ h. omega arith))
three true false = ((λ h. absurd (omega arith)), (λ h. absurd h.1))
three false true = ((λ h. absurd (omega arith)), (λ h. absurd h.0))
three false false = ((λ h. absurd (omega arith)), (λ h. absurd h.0))

module _ (L : ℕ) (A B : Trapezoid) (ha : FitFor L A) (hb : FitFor L B) where
  of_tag : (n : ℕ) → eqb 0 n ≡ false → (P : Point) → IsPoint P → LiesInLayer P (tagged n (overlay A B)) ↔ (0 < bit (eqb (tag_of (lies_in P A) (lies_in P B)) n))
  of_tag n n0 P hP =
      let c = tagged-count P n (overlay A B) in
      let e = overlay_count ha hb P hP (λ (m : ℕ). eqb m n) n0 in
      ((λ h. rw (← e) (c.0 h)), (λ h. c.1 (rw e h)))

pub tag_one : TagOne
tag_one L A B ha hb P hP = let c = of_tag L A B ha hb 1 refl P hP in let d = one (lies_in P A) (lies_in P B) in ((λ h. d.0 (c.0 h)), (λ h. c.1 (d.1 h)))

pub tag_two : TagTwo
tag_two L A B ha hb P hP = let c = of_tag L A B ha hb 2 refl P hP in let d = two (lies_in P A) (lies_in P B) in ((λ h. d.0 (c.0 h)), (λ h. c.1 (d.1 h)))

pub tag_three : TagThree
tag_three L A B ha hb P hP = let c = of_tag L A B ha hb 3 refl P hP in let d = three (lies_in P A) (lies_in P B) in ((λ h. d.0 (c.0 h)), (λ h. c.1 (d.1 h)))

-- ---- apart
-- of parts none of which has the tag 0, if no point is counted twice
counted_apart : (ss : List Part) → All (λ (s : Part). T (not (eqb s.tag 0))) ss → ((P : Point) → IsPoint P → count_if (hit P (λ (m : ℕ). not (eqb m 0))) ss ≤ 1)
    → Pairs (λ (s t : Part). Apart s.trapezoid t.trapezoid) ss
unfolding count_if
counted_apart [] h k = tt
counted_apart (s ∷ ss) h k = (all_with later ss (members ss) h.1, counted_apart ss h.1 (λ P hP. let j = k P hP in omega arith))
  where
    asked : ℕ → Bool
    asked m = not (eqb m 0)

    later : (r : Part) → Member r ss → T (not (eqb r.tag 0)) → Apart s.trapezoid r.trapezoid
    later r m n P hP a b =
        let e : hit P asked s ≡ true = true_is (yes_and (lies_in P s.trapezoid) (asked s.tag) a h.0) in
        let f = ap bit e in
        let g = all_member (λ (x : Part). T (hit P asked x) → 0 < count_if (hit P asked) ss) r ss (count_some (hit P asked) ss) m (yes_and (lies_in P r.trapezoid) (asked r.tag) b n) in
        let j = k P hP in
        omega arith

pub parts_apart : PartsApart
parts_apart L A B ha hb = counted_apart (overlay A B) (overlay_tags ha hb) once
  where
    once : (P : Point) → IsPoint P → count_if (hit P (λ (m : ℕ). not (eqb m 0))) (overlay A B) ≤ 1
    once P hP = let e = overlay_count ha hb P hP (λ (m : ℕ). not (eqb m 0)) refl in rw e (bit_most (not (eqb (tag_of (lies_in P A) (lies_in P B)) 0)))
