-- The equality test of two layers, where it is not refused.
use mathlib.Core.Path.{◌≡◌, sym, ap, subst}
use mathlib.Core.Bool.{not}
use lib.Dec.{T}
use Rattle.geometry.specs.Trapezoids.{layer_of}
use Rattle.boolean.specs.Statements.{SamePoints}
use Rattle.calls.specs.Answers.{EqualityAnswer, equality_answer, is_refused}
use Rattle.calls.specs.Outcomes.{Outcome, equal_outcome}
use Rattle.calls.specs.Statements.{Compares}
use Rattle.calls.proofs.Exact.{equal_exact}
use Rattle.chains.specs.Chains.{Layer}
use Rattle.chains.specs.Statements.{SameExactly, NeverDiffers}

pub same_exactly : (A B : Layer) → SameExactly A B
same_exactly A B t h k =
    let e : equality_answer t.answer ≡ (equal_outcome t.limit A B t.out t.scratch).answer = ap (λ (o : Outcome EqualityAnswer). o.answer) h in
    subst (λ (answer : EqualityAnswer). Compares answer (layer_of A) (layer_of B)) (sym e)
    (equal_exact t.limit A B t.out t.scratch (subst (λ (answer : EqualityAnswer). T (not (is_refused answer))) e k))

-- layers with the same points
pub never_differs : (A B : Layer) → SamePoints (layer_of A) (layer_of B) → NeverDiffers A B
never_differs A B p t h k = (same_exactly A B t h k).same.1 p
