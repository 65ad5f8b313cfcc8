-- Row 13 of the calls that have it: when it refuses and where, that a success was lent disjoint layers, and that what is fit as input passes.
use mathlib.Core.Path.{◌≡◌, refl, sym, ◌∙◌}
use mathlib.Core.List.{List, ◌++◌}
use mathlib.Core.Logic.{◌⊎◌, inl, inr, ◌↔◌}
use Prim.Native.Nat.{ℕ, ◌+◌}
use lib.ListN.{length}
use lib.IntN.{ℤ}
use Rattle.lists.specs.Lists.{All}
use Rattle.lists.proofs.Lists.{all_append, all_left, all_right}
use Rattle.geometry.specs.declared.Trapezoid.{Trapezoid}
use Rattle.geometry.specs.Trapezoids.{layer_of, Disjoint}
use Rattle.geometry.specs.Fitness.{FitFor}
use Rattle.geometry.proofs.Fitness.{layer_exact}
use Rattle.overlay.specs.Overlaps.{first_overlap, OverlapAt}
use Rattle.overlay.proofs.Search.{first_overlap_exact}
use Rattle.calls.specs.Rows.{and_then, both_disjoint}
use Rattle.calls.specs.Transistors.{three_disjoint}
use Rattle.calls.specs.Disjoint.{FirstOfBoth, FirstOfThree, BothDisjointExact, ThreeDisjointExact, LentDisjoint, FitTaken}
use Rattle.calls.proofs.Overlaps.{and_refused, both_passed, both_pass, three_passed, three_pass}
use Rattle.calls.proofs.Success.{combined_accepted}
use Rattle.calls.proofs.Same.{equal_disjoint}
use Rattle.calls.proofs.Components.{components_disjoint}
use Rattle.calls.proofs.Transistors.{transistors_disjoint}
use Rattle.std.specs.Prelude.{Ok}
use Rattle.geometry.specs.Refusals.{refused_by}

-- ---- the place
module _ (L : ℕ) (a b : List ℤ) (ha : All (FitFor L) (layer_of a)) (hb : All (FitFor L) (layer_of b)) where
  both_refused : (n k : ℕ) → (both_disjoint a b ≡ refused_by n k) ↔ ((n ≡ 13) × FirstOfBoth (layer_of a) (layer_of b) k)
  both_refused n k = (there, back)
    where
      first : (first_overlap 0 (layer_of a) ≡ refused_by n k) ↔ ((n ≡ 13) × OverlapAt 0 (layer_of a) k)
      first = (first_overlap_exact L 0 (layer_of a) ha).refused n k

      second : (first_overlap (length (layer_of a)) (layer_of b) ≡ refused_by n k) ↔ ((n ≡ 13) × OverlapAt (length (layer_of a)) (layer_of b) k)
      second = (first_overlap_exact L (length (layer_of a)) (layer_of b) hb).refused n k

      passed : (first_overlap 0 (layer_of a) ≡ Ok tt) ↔ Disjoint (layer_of a)
      passed = (first_overlap_exact L 0 (layer_of a) ha).passed

      there : both_disjoint a b ≡ refused_by n k → (n ≡ 13) × FirstOfBoth (layer_of a) (layer_of b) k
      there e =
          elim (and_refused (first_overlap 0 (layer_of a)) (first_overlap (length (layer_of a)) (layer_of b)) e) [
            | inl f ↦ ((first.0 f).0, inl (first.0 f).1)
            | inr f ↦ ((second.0 f.1).0, inr (passed.0 f.0, (second.0 f.1).1))
          ]

      back : (n ≡ 13) × FirstOfBoth (layer_of a) (layer_of b) k → both_disjoint a b ≡ refused_by n k
      back (m, inl o) = let e = first.1 (m, o) in rw e
      back (m, inr o) = let e = passed.1 o.0 in let f = second.1 (m, o.1) in rw (e, f)

pub both_disjoint_exact : BothDisjointExact
both_disjoint_exact L a b p =
    let f = (layer_exact L 0 (layer_of a ++ layer_of b)).0 p in
    let ha = all_left (FitFor L) (layer_of a) (layer_of b) f in
    let hb = all_right (FitFor L) (layer_of a) (layer_of b) f in
    record {
      passed = (both_passed L a b ha hb, λ d. both_pass L a b ha hb d.0 d.1);
      refused = both_refused L a b ha hb;
    }

module _ (L : ℕ) (c b e : List ℤ) (hc : All (FitFor L) (layer_of c)) (hb : All (FitFor L) (layer_of b)) (he : All (FitFor L) (layer_of e)) where
  abbrev past : ℕ
  past = length (layer_of c) + length (layer_of b)

  three_refused : (n k : ℕ) → (three_disjoint c b e ≡ refused_by n k) ↔ ((n ≡ 13) × FirstOfThree (layer_of c) (layer_of b) (layer_of e) k)
  three_refused n k = (there, back)
    where
      third : (first_overlap past (layer_of e) ≡ refused_by n k) ↔ ((n ≡ 13) × OverlapAt past (layer_of e) k)
      third = (first_overlap_exact L past (layer_of e) he).refused n k

      there : three_disjoint c b e ≡ refused_by n k → (n ≡ 13) × FirstOfThree (layer_of c) (layer_of b) (layer_of e) k
      there x =
          elim (and_refused (both_disjoint c b) (first_overlap past (layer_of e)) x) [
            | inl f ↦ let r = (both_refused L c b hc hb n k).0 f in (r.0, inl r.1)
            | inr f ↦ let d = both_passed L c b hc hb f.0 in let r = third.0 f.1 in (r.0, inr (d.0, d.1, r.1))
          ]

      back : (n ≡ 13) × FirstOfThree (layer_of c) (layer_of b) (layer_of e) k → three_disjoint c b e ≡ refused_by n k
      back (m, inl o) = let x = (both_refused L c b hc hb n k).1 (m, o) in rw x
      back (m, inr o) = let x = both_pass L c b hc hb o.0 o.1 in let y = third.1 (m, o.2) in rw (x, y)

pub three_disjoint_exact : ThreeDisjointExact
three_disjoint_exact L c b e p =
    let f = (layer_exact L 0 (layer_of c ++ (layer_of b ++ layer_of e))).0 p in
    let g = all_right (FitFor L) (layer_of c) (layer_of b ++ layer_of e) f in
    let hc = all_left (FitFor L) (layer_of c) (layer_of b ++ layer_of e) f in
    let hb = all_left (FitFor L) (layer_of b) (layer_of e) g in
    let he = all_right (FitFor L) (layer_of b) (layer_of e) g in
    record {
      passed = (three_passed L c b hc hb e he, λ d. three_pass L c b hc hb e he d.0 d.1 d.2);
      refused = three_refused L c b e hc hb he;
    }

-- ---- a success was lent disjoint layers
pub lent_disjoint : LentDisjoint
lent_disjoint =
    record {
      combine = λ L code a b out scratch h. let k = combined_accepted L code a b out scratch h in (k.first_disjoint, k.second_disjoint);
      equal = equal_disjoint;
      components = components_disjoint;
      transistors = transistors_disjoint;
    }

-- ---- what is fit as input passes
pub fit_taken : FitTaken
fit_taken L a b f g =
    let ha = (layer_exact L 0 (layer_of a)).0 f.formed.rows in
    let hb = (layer_exact L 0 (layer_of b)).0 g.formed.rows in
    ((layer_exact L 0 (layer_of a ++ layer_of b)).1 (all_append (FitFor L) (layer_of a) (layer_of b) ha hb), both_pass L a b ha hb f.disjoint g.disjoint)
