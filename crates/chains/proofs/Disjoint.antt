-- A chain begun with disjoint layers never meets row 13.
use mathlib.Core.Path.{◌≡◌, sym, ◌∙◌, ap, subst}
use mathlib.Core.List.{List, [], ◌∷◌}
use Prim.Native.Nat.{ℕ, zero, suc}
use Rattle.lists.specs.Lists.{All}
use Rattle.geometry.specs.Trapezoids.{Disjoint, layer_of}
use Rattle.files.specs.Outcomes.{Answer, refused}
use Rattle.calls.specs.Answers.{EqualityAnswer, combined_answer, equality_answer, refused_equality}
use Rattle.calls.specs.Outcomes.{Outcome}
use Rattle.calls.proofs.Numbers.{disjoint_taken}
use Rattle.chains.specs.Chains.{Layer, layer_at, Step, stepped, Call, steps_of, KeptIfCalled, grown, held, Contracts, Test, Tested}
use Rattle.chains.specs.Statements.{DisjointLayer, NeverRefused, DisjointChain}
use Rattle.chains.proofs.Points.{no_words}
use Rattle.chains.proofs.Steps.{run_disjoint, stepped_disjoint}
use Rattle.chains.proofs.Calls.{grown-stepped, held_runs}

-- the layer with any number, one that is not in the list being empty
pub layer_disjoint : (layers : List Layer) → All DisjointLayer layers → (n : ℕ) → DisjointLayer (layer_at layers n)
layer_disjoint [] h n = subst Disjoint (sym no_words) tt
layer_disjoint (A ∷ layers) h zero = h.0
layer_disjoint (A ∷ layers) h (suc n) = layer_disjoint layers h.1 n

-- ---- calls
never : (layers : List Layer) → All DisjointLayer layers → (calls : List Call) → Contracts layers calls → NeverRefused 13 layers calls
unfolding Contracts NeverRefused
never layers d [] h = tt
never layers d (c ∷ calls) h = (
  (λ f g place e.
      let s = c.step in
      disjoint_taken.combine s.limit s.code (layer_at layers s.first) (layer_at layers s.second) s.out s.scratch
      (layer_disjoint layers d s.first) (layer_disjoint layers d s.second) place
      (sym (ap (λ (o : Outcome Answer). o.answer) (h.0 f g)) ∙ e)),
  never (grown layers c) (subst (All DisjointLayer) (sym (grown-stepped layers c h.0)) (stepped_disjoint layers c.step d)) calls h.1,
)

-- ---- equality tests
test_taken : (A B : Layer) → DisjointLayer A → DisjointLayer B → (t : Test) → Tested A B t → (place : ℕ) → equality_answer t.answer ≡ refused_equality 13 place → ⊥
test_taken A B d f t h place e = disjoint_taken.equal t.limit A B t.out t.scratch d f place (sym (ap (λ (o : Outcome EqualityAnswer). o.answer) h) ∙ e)

pub disjoint_chain : DisjointChain
disjoint_chain start d calls h =
    let now = subst (All DisjointLayer) (sym (held_runs start calls h)) (run_disjoint start (steps_of calls) d) in
    record {
      disjoint = now;
      calls_taken = never start d calls h;
      tests_taken = λ m n. test_taken (layer_at (held start calls) m) (layer_at (held start calls) n) (layer_disjoint (held start calls) now m) (layer_disjoint (held start calls) now n);
    }
