-- The calls of two chains as one chain: they keep the contract too, and their steps are the two chains' steps as one.
use mathlib.Core.Path.{◌≡◌, refl, sym, ◌∙◌, ap, subst}
use mathlib.Core.Bool.{◌&&◌}
use mathlib.Core.List.{List, [], ◌∷◌, ◌++◌, map, append-nil}
use Prim.Native.Nat.{ℕ}
use lib.Dec.{T}
use lib.ListN.{length, drop}
use Rattle.files.specs.Outcomes.{is_done}
use Rattle.calls.specs.Answers.{combined_answer}
use Rattle.calls.specs.Outcomes.{records_of}
use Rattle.chains.specs.Chains.{Layer, Step, outcome_of, called, added, Call, steps_of, KeptIfCalled, grown, held, results, Contracts, renumbered_step, renumbered, merged}
use Rattle.chains.proofs.Success.{called_exact, kept_called}
use Rattle.chains.proofs.Calls.{held_runs, held_kept}
use Rattle.chains.proofs.Raised.{added_append}
use Rattle.chains.proofs.Merged.{joined, renamed, renamed_called, renamed_outcome, merged_steps}

-- ---- the contracts
contracts_append : (layers : List Layer) (cs ds : List Call) → Contracts layers cs → Contracts (held layers cs) ds → Contracts layers (cs ++ ds)
unfolding Contracts held
contracts_append layers [] ds h k = k
contracts_append layers (c ∷ cs) ds h k = (h.0, contracts_append (grown layers c) cs ds h.1 k)

-- calls, alone and with the layers `other` put in after the starting layers
module _ (start other : List Layer) where
  abbrev renamed_call : Call → Call
  renamed_call c = renumbered (length start) (length other) c

  -- what a call adds
  abbrev after : List Layer → Call → List Layer
  after more c = added (called (start ++ more) c.step && is_done (combined_answer c.answer)) more (records_of (combined_answer c.answer) c.out)

  grown_with_other : (more : List Layer) (c : Call) → grown (joined start other more) (renamed_call c) ≡ joined start other (after more c)
  grown_with_other more c =
      rw (renamed_called start other more c.step)
      (added_append (called (start ++ more) c.step && is_done (combined_answer c.answer)) (start ++ other) more (records_of (combined_answer c.answer) c.out))

  grown_alone : (more : List Layer) (c : Call) → grown (start ++ more) c ≡ start ++ after more c
  grown_alone more c = added_append (called (start ++ more) c.step && is_done (combined_answer c.answer)) start more (records_of (combined_answer c.answer) c.out)

  renamed_kept : (more : List Layer) (c : Call) → KeptIfCalled (start ++ more) c → KeptIfCalled (joined start other more) (renamed_call c)
  unfolding outcome_of
  renamed_kept more c f first second =
      let t = (called_exact (joined start other more) (renamed start other c.step)).1 (first, second) in
      kept_called (start ++ more) c f (subst T (renamed_called start other more c.step) t) ∙ sym (renamed_outcome start other more c.step)

  renamed_contracts : (more : List Layer) (calls : List Call) → Contracts (start ++ more) calls → Contracts (joined start other more) (map renamed_call calls)
  unfolding Contracts
  renamed_contracts more [] h = tt
  renamed_contracts more (c ∷ calls) h = (
    renamed_kept more c h.0,
    subst (λ (now : List Layer). Contracts now (map renamed_call calls)) (sym (grown_with_other more c))
        (renamed_contracts (after more c) calls (subst (λ (now : List Layer). Contracts now calls) (grown_alone more c) h.1)),
  )

pub merged_contracts : (start : List Layer) (one two : List Call) → Contracts start one → Contracts start two → Contracts start (merged start one two)
merged_contracts start one two h k =
    let other = results start one in
    let e : held start one ≡ joined start other [] = held_kept start one h ∙ sym (append-nil (start ++ other)) in
    contracts_append start one (map (renamed_call start other) two) h
    (subst (λ (now : List Layer). Contracts now (map (renamed_call start other) two)) (sym e)
    (renamed_contracts start other [] two (subst (λ (now : List Layer). Contracts now two) (sym (append-nil start)) k)))

-- ---- the steps
steps_append : (cs ds : List Call) → steps_of (cs ++ ds) ≡ steps_of cs ++ steps_of ds
steps_append [] ds = refl
steps_append (c ∷ cs) ds = ap (λ (steps : List Step). c.step ∷ steps) (steps_append cs ds)

steps_renumbered : (starting count : ℕ) (calls : List Call) → steps_of (map (renumbered starting count) calls) ≡ map (renumbered_step starting count) (steps_of calls)
steps_renumbered starting count [] = refl
steps_renumbered starting count (c ∷ calls) = ap (λ (steps : List Step). renumbered_step starting count c.step ∷ steps) (steps_renumbered starting count calls)

pub merged_steps_lem : (start : List Layer) (one two : List Call) → Contracts start one → steps_of (merged start one two) ≡ merged_steps start (steps_of one) (steps_of two)
merged_steps_lem start one two h =
    let count = length (results start one) in
    steps_append one (map (renumbered (length start) count) two)
    ∙ ap (λ (steps : List Step). steps_of one ++ steps) (steps_renumbered (length start) count two)
    ∙ ap (λ (now : List Layer). steps_of one ++ map (renumbered_step (length start) (length (drop (length start) now))) (steps_of two)) (held_runs start one h)
