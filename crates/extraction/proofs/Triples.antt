-- The triples: exactly the transistors, in order, and no more than emitters.
use mathlib.Core.Path.{◌≡◌, refl, sym, ◌∙◌, ap, subst}
use mathlib.Core.Bool.{Bool, true, false, ◌&&◌}
use mathlib.Core.List.{List}
use mathlib.Core.Logic.{◌⊎◌, inl, inr}
use Prim.Native.Nat.{ℕ, ◌<◌, ◌≤◌}
use native.Mathlib.Omega.{arith}
use lib.Dec.{T}
use lib.ListN.{length}
use mir.Facts.{and_yes, yes_and}
use Rattle.lists.specs.Lists.{All, Member, Pairs, each}
use Rattle.lists.specs.Tests.{bit, total}
use Rattle.lists.proofs.Lists.{all_of, all_map}
use Rattle.lists.proofs.Members.{members}
use Rattle.lists.proofs.Counts.{bit_most}
use Rattle.geometry.specs.declared.Trapezoid.{Trapezoid}
use Rattle.geometry.specs.Fitness.{FitFor}
use Rattle.extraction.specs.Shapes.{shape_of, shape_numbers}
use Rattle.extraction.specs.Extraction.{encloses_at, Triple, triple_if, triples}
use Rattle.extraction.specs.Statements.{IsShape, ShapesOf, Before, Transistor, TransistorsExact}
use Rattle.lists.proofs.Each.{any_from, member_any, all-across, pairs_map, each_any, each_all, each_none, each_pairs, each_few, total_most, total_ones, total_once, total_swap}
use Rattle.extraction.proofs.Shapes.{shape_fit, shapes_exact, count_few}
use Rattle.extraction.proofs.Enclosing.{encloses_exact, one_test}

-- ---- one triple, if a test says yes
triple_from : (v : Bool) (c b e : ℕ) (t : Triple) → Member t (triple_if v c b e) → T v × (t ≡ record { collector = c; base = b; emitter = e })
triple_from true c b e t (inl h) = (tt, h)
triple_from true c b e t (inr h) = absurd h
triple_from false c b e t h = absurd h

triple_in : (v : Bool) (t : Triple) → T v → Member t (triple_if v t.collector t.base t.emitter)
triple_in true t h = inl refl
triple_in false t h = absurd h

triple_is : (v : Bool) (c b e : ℕ) → All (λ (t : Triple). (t.collector ≡ c) × (t.base ≡ b) × (t.emitter ≡ e)) (triple_if v c b e)
triple_is true c b e = ((refl, refl, refl), tt)
triple_is false c b e = tt

triple_alone : (v : Bool) (c b e : ℕ) → Pairs Before (triple_if v c b e)
triple_alone true c b e = (tt, tt)
triple_alone false c b e = tt

triple_few : (v w : Bool) (c b e : ℕ) → length (triple_if (v && w) c b e) ≤ bit w
triple_few true true c b e = omega arith
triple_few true false c b e = omega arith
triple_few false w c b e = omega arith

-- of two tests that exclude each other one says no
one_no : (v w : Bool) → (T v → T w → ⊥) → (v ≡ false) ⊎ (w ≡ false)
one_no true true h = absurd (h tt tt)
one_no true false h = inr refl
one_no false w h = inl refl

module _ (C B E : List Trapezoid) where
  abbrev cs : List ℕ
  cs = shape_numbers C

  abbrev bs : List ℕ
  bs = shape_numbers B

  abbrev es : List ℕ
  es = shape_numbers E

  abbrev at_emitter : ℕ → ℕ → ℕ → List Triple
  at_emitter c b e = triple_if (encloses_at C B c b && encloses_at B E b e) c b e

  -- those of a collector and a base, and those of a collector
  abbrev of_base : ℕ → ℕ → List Triple
  of_base c b = each (λ e. at_emitter c b e) es

  abbrev of_collector : ℕ → List Triple
  of_collector c = each (λ b. of_base c b) bs

  -- ---- their order
  base_is : (c b : ℕ) → All (λ (t : Triple). (t.collector ≡ c) × (t.base ≡ b)) (of_base c b)
  base_is c b =
      each_all (λ e. at_emitter c b e) (λ (t : Triple). (t.collector ≡ c) × (t.base ≡ b))
      (λ e. all_map (λ t h. (h.0, h.1)) (at_emitter c b e) (triple_is (encloses_at C B c b && encloses_at B E b e) c b e)) es

  collector_is : (c : ℕ) → All (λ (t : Triple). t.collector ≡ c) (of_collector c)
  collector_is c = each_all (λ b. of_base c b) (λ (t : Triple). t.collector ≡ c) (λ b. all_map (λ t h. h.0) (of_base c b) (base_is c b)) bs

  module _ (hC : Pairs ◌<◌ cs) (hB : Pairs ◌<◌ bs) (hE : Pairs ◌<◌ es) where
    base_ascending : (c b : ℕ) → Pairs Before (of_base c b)
    base_ascending c b =
        each_pairs (λ e. at_emitter c b e) ◌<◌ Before (λ e. triple_alone (encloses_at C B c b && encloses_at B E b e) c b e)
        (λ e f l. all-across Before (λ s t h k. inr (h.0 ∙ sym k.0, inr (h.1 ∙ sym k.1, omega (arith, h.2, k.2)))) (at_emitter c b e) (at_emitter c b f) (triple_is (encloses_at C B c b && encloses_at B E b e) c b e) (triple_is (encloses_at C B c b && encloses_at B E b f) c b f))
        es hE

    collector_ascending : (c : ℕ) → Pairs Before (of_collector c)
    collector_ascending c =
        each_pairs (λ b. of_base c b) ◌<◌ Before (base_ascending c)
        (λ a b l. all-across Before (λ s t h k. inr (h.0 ∙ sym k.0, inl (omega (arith, h.1, k.1)))) (of_base c a) (of_base c b) (base_is c a) (base_is c b))
        bs hB

    ascending : Pairs Before (triples C B E)
    unfolding triples
    ascending =
        each_pairs of_collector ◌<◌ Before collector_ascending
        (λ c d l. all-across Before (λ s t h k. inl (omega (arith, h, k))) (of_collector c) (of_collector d) (collector_is c) (collector_is d))
        cs hC

  module _ (L : ℕ) (fC : All (FitFor L) C) (fB : All (FitFor L) B) (fE : All (FitFor L) E) where
    sC : ShapesOf C cs
    sC = shapes_exact L C fC

    sB : ShapesOf B bs
    sB = shapes_exact L B fB

    sE : ShapesOf E es
    sE = shapes_exact L E fE

    -- ---- they are the transistors
    listed_is : (c b e : ℕ) → Member c cs → Member b bs → Member e es → (t : Triple) → Member t (at_emitter c b e) → Transistor C B E t
    listed_is c b e mc mb me t m =
        let h = triple_from (encloses_at C B c b && encloses_at B E b e) c b e t m in
        let k = and_yes (encloses_at C B c b) (encloses_at B E b e) h.0 in
        subst (Transistor C B E) (sym h.1) record {
          collector = (sC.exact c).0 mc;
          base = (sB.exact b).0 mb;
          emitter = (sE.exact e).0 me;
          base_inside = (encloses_exact L (shape_of C c) (shape_of B b) (shape_fit L C fC c) (shape_fit L B fB b)).0 k.0;
          emitter_inside = (encloses_exact L (shape_of B b) (shape_of E e) (shape_fit L B fB b) (shape_fit L E fE e)).0 k.1;
        }

    listed : (t : Triple) → Member t (triples C B E) → Transistor C B E t
    unfolding triples
    listed t m =
        let P : Triple → Type 0 = λ s. t ≡ s in
        let x = any_from (λ (c : ℕ). Member t (of_collector c)) cs ((each_any of_collector P cs).0 m) in
        let y = any_from (λ (b : ℕ). Member t (of_base x.0 b)) bs ((each_any (λ b. of_base x.0 b) P bs).0 x.2) in
        let z = any_from (λ (e : ℕ). Member t (at_emitter x.0 y.0 e)) es ((each_any (λ e. at_emitter x.0 y.0 e) P es).0 y.2) in
        listed_is x.0 y.0 z.0 x.1 y.1 z.1 t z.2

    all_listed : (t : Triple) → Transistor C B E t → Member t (triples C B E)
    unfolding triples
    all_listed t h =
        let c = t.collector in
        let b = t.base in
        let e = t.emitter in
        let P : Triple → Type 0 = λ s. t ≡ s in
        let first = (encloses_exact L (shape_of C c) (shape_of B b) (shape_fit L C fC c) (shape_fit L B fB b)).1 h.base_inside in
        let second = (encloses_exact L (shape_of B b) (shape_of E e) (shape_fit L B fB b) (shape_fit L E fE e)).1 h.emitter_inside in
        let one = triple_in (encloses_at C B c b && encloses_at B E b e) t (yes_and (encloses_at C B c b) (encloses_at B E b e) first second) in
        (each_any of_collector P cs).1 (member_any (λ (x : ℕ). Member t (of_collector x)) c cs ((sC.exact c).1 h.collector)
        ((each_any (λ x. of_base c x) P bs).1 (member_any (λ (x : ℕ). Member t (of_base c x)) b bs ((sB.exact b).1 h.base)
        ((each_any (λ x. at_emitter c b x) P es).1 (member_any (λ (x : ℕ). Member t (at_emitter c b x)) e es ((sE.exact e).1 h.emitter) one)))))

    -- ---- they are no more than emitters: a base is in at most one collector, and an emitter in at most one base
    abbrev in_base : ℕ → ℕ
    in_base b = total (λ (e : ℕ). bit (encloses_at B E b e)) es

    base_once : (b : ℕ) → IsShape B b → total (λ (c : ℕ). length (of_base c b)) cs ≤ in_base b
    base_once b m =
        total_once (λ (c : ℕ). length (of_base c b)) (in_base b) cs
        (all_of (λ (c : ℕ). length (of_base c b) ≤ in_base b) (λ c. each_few (λ e. at_emitter c b e) (λ (e : ℕ). bit (encloses_at B E b e)) (λ e. triple_few (encloses_at C B c b) (encloses_at B E b e) c b e) es) cs)
        (pairs_map {R = ◌<◌} (λ c d l.
        elim (one_no (encloses_at C B c b) (encloses_at C B d b) (λ s t. let e = one_test L C B fC fB c d b m s t in omega arith)) [
          | inl n ↦ inl (none c n)
          | inr n ↦ inr (none d n)
        ]) cs sC.ascending)
      where
        none : (c : ℕ) → encloses_at C B c b ≡ false → length (of_base c b) ≡ 0
        none c n = ap length (each_none (λ e. at_emitter c b e) es (λ e. ap (λ (v : Bool). triple_if (v && encloses_at B E b e) c b e) n))

    emitter_once : (e : ℕ) → IsShape E e → total (λ (b : ℕ). bit (encloses_at B E b e)) bs ≤ 1
    emitter_once e m =
        total_once (λ (b : ℕ). bit (encloses_at B E b e)) 1 bs (all_of (λ (b : ℕ). bit (encloses_at B E b e) ≤ 1) (λ b. bit_most (encloses_at B E b e)) bs)
        (pairs_map {R = ◌<◌} (λ a b l.
        elim (one_no (encloses_at B E a e) (encloses_at B E b e) (λ s t. let f = one_test L B E fB fE a b e m s t in omega arith)) [
          | inl n ↦ inl (ap bit n)
          | inr n ↦ inr (ap bit n)
        ]) bs sB.ascending)

    few : length (triples C B E) ≤ length es
    unfolding triples
    few =
        let a = each_few of_collector (λ (c : ℕ). total (λ (b : ℕ). length (of_base c b)) bs) (λ c. each_few (λ b. of_base c b) (λ (b : ℕ). length (of_base c b)) (λ b. omega arith) bs) cs in
        let b = total_swap (λ (c b : ℕ). length (of_base c b)) cs bs in
        let c = total_most (λ (b : ℕ). total (λ (c : ℕ). length (of_base c b)) cs) in_base bs (all_map (λ b m. base_once b ((sB.exact b).0 m)) bs (members bs)) in
        let d = total_swap (λ (b e : ℕ). bit (encloses_at B E b e)) bs es in
        let e = total_most (λ (e : ℕ). total (λ (b : ℕ). bit (encloses_at B E b e)) bs) (λ (e : ℕ). 1) es (all_map (λ e m. emitter_once e ((sE.exact e).0 m)) es (members es)) in
        omega (arith, a, b, c, d, e, total_ones es)

pub transistors_exact : TransistorsExact
transistors_exact L C B E fC fB fE =
    record {
      exact = λ t. (listed C B E L fC fB fE t, all_listed C B E L fC fB fE t);
      ascending = ascending C B E (shapes_exact L C fC).ascending (shapes_exact L B fB).ascending (shapes_exact L E fE).ascending;
      few = subst (λ (n : ℕ). length (triples C B E) ≤ n) (shapes_exact L E fE).many (few C B E L fC fB fE);
    }

pub triples_few : (L : ℕ) (C B E : List Trapezoid) → All (FitFor L) C → All (FitFor L) B → All (FitFor L) E → length (triples C B E) ≤ length E
triples_few L C B E fC fB fE = omega (arith, (transistors_exact L C B E fC fB fE).few, count_few E)
