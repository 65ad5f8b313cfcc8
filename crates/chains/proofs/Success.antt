-- When a step is called, and what a successful one gives.
use mathlib.Core.List.{List}
use Prim.Native.Nat.{◌<◌}
use lib.Dec.{T, ltb, ltb→lt, lt→ltb}
use lib.ListN.{length}
use mir.Facts.{and_yes, yes_and}
use Rattle.boolean.specs.Operations.{code_at}
use Rattle.calls.proofs.Success.{Accepted, combined_accepted}
use Rattle.chains.specs.Chains.{Layer, layer_at, Step, outcome_of, called, CalledExact, succeeds, result_of, Call, Kept, KeptIfCalled}

pub called_exact : CalledExact
unfolding called
called_exact layers s = (
  (λ t.
      let k = and_yes (ltb s.first (length layers)) (ltb s.second (length layers)) t in
      (ltb→lt s.first (length layers) k.0, ltb→lt s.second (length layers) k.1)),
  (λ h. yes_and (ltb s.first (length layers)) (ltb s.second (length layers)) (lt→ltb s.first (length layers) h.0) (lt→ltb s.second (length layers) h.1)),
)

-- a contract that is kept where the step is called
pub kept_called : (layers : List Layer) (c : Call) → KeptIfCalled layers c → T (called layers c.step) → Kept layers c
kept_called layers c h t = let k = (called_exact layers c.step).0 t in h k.0 k.1

pub record Succeeds (layers : List Layer) (s : Step) : Type 0 where
  pub first : s.first < length layers
  pub second : s.second < length layers
  pub call : Accepted s.limit (code_at s.code) (layer_at layers s.first) (layer_at layers s.second) (result_of layers s)

pub success_gives : (layers : List Layer) (s : Step) → T (succeeds layers s) → Succeeds layers s
unfolding outcome_of
success_gives layers s t =
    let h = and_yes (called layers s) _ t in
    let k = (called_exact layers s).0 h.0 in
    record {
      first = k.0;
      second = k.1;
      call = combined_accepted s.limit s.code (layer_at layers s.first) (layer_at layers s.second) s.out s.scratch h.1;
    }
