-- For every list of steps there are calls that keep the contract: those that answer and write what the definition says.
use mathlib.Core.Path.{◌≡◌, refl, sym, ap, subst}
use mathlib.Core.List.{List, [], ◌∷◌}
use Rattle.files.specs.Outcomes.{Answer, refused, done}
use Rattle.calls.specs.declared.Combined.{Combined}
use Rattle.calls.specs.declared.Combined.TheVariants as combined
use Rattle.calls.specs.Answers.{combined_answer}
use Rattle.calls.specs.Outcomes.{observed}
use Rattle.chains.specs.Chains.{Layer, Step, outcome_of, stepped, run, Call, steps_of, Kept, KeptIfCalled, held, Contracts}
use Rattle.chains.specs.Statements.{ChainsPossible}
use Rattle.chains.proofs.Calls.{grown-stepped, held_runs}

-- ---- one call
abbrev enum_of : Answer → Combined
enum_of (refused number place) = combined.Refused number place
enum_of (done pieces overlays) = combined.Done pieces overlays

enum_answer : (a : Answer) → combined_answer (enum_of a) ≡ a
enum_answer (refused number place) = refl
enum_answer (done pieces overlays) = refl

abbrev call_of : List Layer → Step → Call
call_of layers s = let o = outcome_of layers s in record { step = s; answer = enum_of o.answer; out = o.out; scratch = o.scratch }

call_kept : (layers : List Layer) (s : Step) → Kept layers (call_of layers s)
unfolding outcome_of
call_kept layers s = let o = outcome_of layers s in ap (λ (a : Answer). observed a o.out o.scratch) (enum_answer o.answer)

-- ---- a list of them
abbrev calls_of : List Layer → List Step → List Call
calls_of layers [] = []
calls_of layers (s ∷ steps) = call_of layers s ∷ calls_of (stepped layers s) steps

calls_made : (layers : List Layer) (steps : List Step) → steps_of (calls_of layers steps) ≡ steps
calls_made layers [] = refl
calls_made layers (s ∷ steps) = ap (λ (ss : List Step). s ∷ ss) (calls_made (stepped layers s) steps)

calls_keep : (layers : List Layer) (steps : List Step) → Contracts layers (calls_of layers steps)
unfolding Contracts
calls_keep layers [] = tt
calls_keep layers (s ∷ steps) =
    let c = call_of layers s in
    let k : KeptIfCalled layers c = λ f g. call_kept layers s in (
      k,
      subst (λ (now : List Layer). Contracts now (calls_of (stepped layers s) steps)) (sym (grown-stepped layers c k)) (calls_keep (stepped layers s) steps),
    )

pub chains_possible : ChainsPossible
chains_possible start steps =
    let calls = calls_of start steps in
    let k = calls_keep start steps in
    record {
      calls = calls;
      made = calls_made start steps;
      contracts = k;
      ends = subst (λ (ss : List Step). held start calls ≡ run start ss) (calls_made start steps) (held_runs start calls k);
    }
