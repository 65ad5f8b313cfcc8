-- Calls that keep the contract hold the layers that their steps define.
use mathlib.Core.Path.{◌≡◌, refl, sym, ◌∙◌, ap, subst}
use mathlib.Core.Bool.{Bool, true, false, ◌&&◌}
use mathlib.Core.List.{List, [], ◌∷◌, ◌++◌}
use lib.Dec.{T}
use lib.ListN.{length, drop}
use Rattle.files.specs.Outcomes.{Answer, is_done}
use Rattle.calls.specs.Answers.{combined_answer}
use Rattle.calls.specs.Outcomes.{Outcome, records_of}
use Rattle.chains.specs.Chains.{Layer, outcome_of, called, added, result_of, stepped, run, Call, steps_of, Kept, KeptIfCalled, grown, held, results, Contracts}
use Rattle.chains.specs.Statements.{Defined}
use Rattle.chains.proofs.Success.{kept_called}
use Rattle.chains.proofs.Steps.{run_kept}

pub grown-stepped : (layers : List Layer) (c : Call) → KeptIfCalled layers c → grown layers c ≡ stepped layers c.step
unfolding outcome_of
grown-stepped layers c h = go (called layers c.step) (kept_called layers c h)
  where
    go : (b : Bool) → (T b → Kept layers c)
        → added (b && is_done (combined_answer c.answer)) layers (records_of (combined_answer c.answer) c.out) ≡ added (b && is_done (outcome_of layers c.step).answer) layers (result_of layers c.step)
    go true f = ap (λ (o : Outcome Answer). added (is_done o.answer) layers (records_of o.answer o.out)) (f tt)
    go false f = refl

pub held_runs : (layers : List Layer) (calls : List Call) → Contracts layers calls → held layers calls ≡ run layers (steps_of calls)
unfolding Contracts held run
held_runs layers [] h = refl
held_runs layers (c ∷ calls) h =
    held_runs (grown layers c) calls h.1 ∙ ap (λ (now : List Layer). run now (steps_of calls)) (grown-stepped layers c h.0)

pub calls_defined : (layers : List Layer) (calls : List Call) → Contracts layers calls → Defined layers calls
unfolding Contracts Defined
calls_defined layers [] h = tt
calls_defined layers (c ∷ calls) h =
    (h.0, subst (λ (now : List Layer). Defined now calls) (grown-stepped layers c h.0) (calls_defined (grown layers c) calls h.1))

pub held_kept : (start : List Layer) (calls : List Call) → Contracts start calls → held start calls ≡ start ++ results start calls
held_kept start calls h =
    let e = held_runs start calls h in
    e ∙ run_kept start (steps_of calls) ∙ ap (λ (now : List Layer). start ++ drop (length start) now) (sym e)
