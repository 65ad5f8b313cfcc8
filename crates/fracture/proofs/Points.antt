-- Which points lie in the fracture, and that none lies in two trapezoids of one polygon.
use mathlib.Core.Path.{◌≡◌, sym, ap, subst}
use mathlib.Core.Bool.{Bool, true, false, not}
use mathlib.Core.List.{List, [], ◌∷◌, ◌++◌}
use mathlib.Core.Logic.{◌⊎◌, inl, inr, ◌↔◌}
use Prim.Native.Nat.{ℕ, ◌+◌, ◌≤◌, ◌<◌}
use native.Mathlib.Omega.{arith}
use lib.Dec.{T}
use lib.IntN.{ℤ, pos}
use Rattle.lists.specs.Lists.{Member}
use Rattle.lists.specs.Tests.{bit, count_if}
use Rattle.lists.proofs.Tests.{true_is}
use Rattle.lists.proofs.Lists.{all_map, any_left, any_right, any_split}
use Rattle.lists.proofs.Members.{all_member, members}
use Rattle.lists.proofs.Counts.{count_some, bit_most}
use Rattle.geometry.specs.declared.Trapezoid.{Trapezoid}
use Rattle.geometry.specs.Points.{Point, IsPoint}
use Rattle.geometry.specs.Trapezoids.{lies_in, LiesInLayer, Apart, Disjoint}
use Rattle.geometry.specs.Polygons.{Polygon}
use Rattle.sweep.specs.Columns.{is_zero}
use Rattle.sweep.proofs.Slabs.{zero_is}
use Rattle.fracture.specs.Polygons.{winding_number}
use Rattle.fracture.specs.Fracture.{fracture, fracture_all}
use Rattle.fracture.specs.Statements.{Wound, FractureExact, PolygonDisjoint}
use Rattle.fracture.proofs.Count.{fracture-count}

-- ---- a point lies in a layer exactly if a trapezoid is counted
lies_count : (P : Point) (ts : List Trapezoid) → LiesInLayer P ts ↔ (0 < count_if (lies_in P) ts)
unfolding count_if
lies_count P [] = ((λ h. absurd h), (λ h. omega arith))
lies_count P (t ∷ ts) = go (lies_in P t) (lies_count P ts)
  where
    go : (b : Bool) → LiesInLayer P ts ↔ (0 < count_if (lies_in P) ts) → ((T b ⊎ LiesInLayer P ts) ↔ (0 < bit b + count_if (lies_in P) ts))
    go true k = ((λ h. omega arith), (λ h. inl tt))
    go false k = ((λ h. elim h [ inl a ↦ absurd a | inr a ↦ (let j = k.0 a in omega arith) ]), (λ h. inr (k.1 (omega arith))))

-- ---- and one is counted exactly if the winding number is not zero
wound_bit : (z : ℤ) → ¬ (z ≡ pos 0) ↔ (0 < bit (not (is_zero z)))
wound_bit z = go (is_zero z) (zero_is z) (λ e. subst (λ (y : ℤ). T (is_zero y)) (sym e) tt)
  where
    go : (b : Bool) → (T b → z ≡ pos 0) → (z ≡ pos 0 → T b) → ¬ (z ≡ pos 0) ↔ (0 < bit (not b))
    go true f g = ((λ n. absurd (n (f tt))), (λ h. absurd (omega arith)))
    go false f g = ((λ n. omega arith), (λ h e. g e))

one_exact : (L : ℕ) (polygon : Polygon) (P : Point) → IsPoint P → LiesInLayer P (fracture L polygon) ↔ Wound P polygon
one_exact L polygon P hP =
    let c = lies_count P (fracture L polygon) in
    let w = wound_bit (winding_number P polygon) in
    let e = fracture-count L polygon P hP in
    ((λ h. w.1 (rw (← e) (c.0 h))), (λ h. c.1 (rw e (w.0 h))))

-- two lists joined
joined_exact : (P : Point) (ts us : List Trapezoid) {A B : Type 0} → LiesInLayer P ts ↔ A → LiesInLayer P us ↔ B → LiesInLayer P (ts ++ us) ↔ (A ⊎ B)
joined_exact P ts us {A} {B} h k = (there, back)
  where
    Lies : Trapezoid → Type 0
    Lies t = T (lies_in P t)

    there : LiesInLayer P (ts ++ us) → A ⊎ B
    there l = elim (any_split Lies ts us l) [ inl a ↦ inl (h.0 a) | inr a ↦ inr (k.0 a) ]

    back : A ⊎ B → LiesInLayer P (ts ++ us)
    back (inl a) = any_left Lies ts us (h.1 a)
    back (inr b) = any_right Lies ts us (k.1 b)

pub fracture_exact : FractureExact
unfolding fracture_all
fracture_exact L [] P hP = ((λ h. h), (λ h. h))
fracture_exact L (polygon ∷ polygons) P hP = joined_exact P (fracture L polygon) (fracture_all L polygons) (one_exact L polygon P hP) (fracture_exact L polygons P hP)

-- ---- trapezoids are apart if no point is counted twice
counted_apart : (ts : List Trapezoid) → ((P : Point) → IsPoint P → count_if (lies_in P) ts ≤ 1) → Disjoint ts
unfolding count_if
counted_apart [] k = tt
counted_apart (t ∷ ts) k = (all_map later ts (members ts), counted_apart ts (λ P hP. let j = k P hP in omega arith))
  where
    later : (u : Trapezoid) → Member u ts → Apart t u
    later u m P hP a b =
        let e : lies_in P t ≡ true = true_is a in
        let f = ap bit e in
        let g = all_member (λ (s : Trapezoid). T (lies_in P s) → 0 < count_if (lies_in P) ts) u ts (count_some (lies_in P) ts) m b in
        let j = k P hP in
        omega arith

pub polygon_disjoint : PolygonDisjoint
polygon_disjoint L polygon = counted_apart (fracture L polygon) (λ P hP. let e = fracture-count L polygon P hP in rw e (bit_most (not (is_zero (winding_number P polygon)))))
