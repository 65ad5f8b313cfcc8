-- What the steps of a chain keep.
use mathlib.Core.Path.{◌≡◌, sym, ◌∙◌, ap, subst}
use mathlib.Core.Bool.{Bool, true, false}
use mathlib.Core.List.{List, [], ◌∷◌, ◌++◌, append_assoc, append-nil}
use Prim.Native.Nat.{ℕ}
use lib.Dec.{T}
use lib.ListN.{length, drop}
use lib.Seq.{drop-append_seam}
use Rattle.lists.specs.Lists.{All}
use Rattle.lists.proofs.Lists.{all_append, all_at}
use Rattle.boolean.specs.Operations.{Code, code_at}
use Rattle.calls.specs.Statements.{FitAsInput}
use Rattle.calls.proofs.Success.{Accepted}
use Rattle.chains.specs.Chains.{Layer, layer_at, Step, succeeds, added, result_of, stepped, run, limits}
use Rattle.chains.specs.Statements.{DisjointLayer, Each}
use Rattle.chains.proofs.Success.{success_gives}

-- ---- what holds of each starting layer, and of each result of layers that it holds of, holds of each layer
module _ (R : Layer → Type 0) (keeps : (L : ℕ) (c : Code) (A B C : Layer) → Accepted L c A B C → R A → R B → R C) where
  result_keeps : (layers : List Layer) (s : Step) → All R layers → T (succeeds layers s) → R (result_of layers s)
  result_keeps layers s h t =
      let k = success_gives layers s t in
      keeps s.limit (code_at s.code) (layer_at layers s.first) (layer_at layers s.second) (result_of layers s) k.call (all_at R layers s.first [] h k.first) (all_at R layers s.second [] h k.second)

  pub stepped_keeps : (layers : List Layer) (s : Step) → All R layers → All R (stepped layers s)
  stepped_keeps layers s h = go (succeeds layers s) (result_keeps layers s h)
    where
      go : (b : Bool) → (T b → R (result_of layers s)) → All R (added b layers (result_of layers s))
      go true f = all_append R layers (result_of layers s ∷ []) h (f tt, tt)
      go false f = h

  pub run_keeps : (layers : List Layer) (steps : List Step) → All R layers → All R (run layers steps)
  unfolding run
  run_keeps layers [] h = h
  run_keeps layers (s ∷ steps) h = run_keeps (stepped layers s) steps (stepped_keeps layers s h)

-- a result is disjoint, and so is each layer from disjoint ones
pub stepped_disjoint : (layers : List Layer) (s : Step) → All DisjointLayer layers → All DisjointLayer (stepped layers s)
stepped_disjoint = stepped_keeps DisjointLayer (λ L c A B C h dA dB. h.fit.disjoint)

pub run_disjoint : (start : List Layer) (steps : List Step) → All DisjointLayer start → All DisjointLayer (run start steps)
run_disjoint = run_keeps DisjointLayer (λ L c A B C h dA dB. h.fit.disjoint)

-- ---- the results
-- the layers past the starting ones
abbrev pub found : List Layer → List Step → List Layer
found start steps = drop (length start) (run start steps)

-- layers added to a list under these limits, with all that there are then
record Grown (layers now : List Layer) (under : List ℕ) : Type 0 where
  more : List Layer
  is : now ≡ layers ++ more
  fit : Each FitAsInput under more

run_grows : (layers : List Layer) (steps : List Step) → Grown layers (run layers steps) (limits layers steps)
unfolding run limits
run_grows layers [] = record { more = []; is = sym (append-nil layers); fit = tt }
run_grows layers (s ∷ steps) = go (succeeds layers s) (λ t. (success_gives layers s t).call.fit) (λ b. run_grows (added b layers (result_of layers s)) steps)
  where
    go : (b : Bool) → (T b → FitAsInput s.limit (result_of layers s)) → ((d : Bool) → Grown (added d layers (result_of layers s)) (run (added d layers (result_of layers s)) steps) (limits (added d layers (result_of layers s)) steps))
        → Grown layers (run (added b layers (result_of layers s)) steps) (added b [] s.limit ++ limits (added b layers (result_of layers s)) steps)
    go true f g =
        record {
          more = result_of layers s ∷ (g true).more;
          is = (g true).is ∙ append_assoc layers (result_of layers s ∷ []) (g true).more;
          fit = (f tt, (g true).fit);
        }
    go false f g = g false

found_are : (start : List Layer) (steps : List Step) → found start steps ≡ (run_grows start steps).more
found_are start steps = ap (drop (length start)) (run_grows start steps).is ∙ drop-append_seam start (run_grows start steps).more

pub run_kept : (start : List Layer) (steps : List Step) → run start steps ≡ start ++ found start steps
run_kept start steps = (run_grows start steps).is ∙ ap (λ (more : List Layer). start ++ more) (sym (found_are start steps))

pub found_fit : (start : List Layer) (steps : List Step) → Each FitAsInput (limits start steps) (found start steps)
found_fit start steps = subst (Each FitAsInput (limits start steps)) (sym (found_are start steps)) (run_grows start steps).fit

-- every result is disjoint
each_disjoint : (under : List ℕ) (layers : List Layer) → Each FitAsInput under layers → All DisjointLayer layers
each_disjoint [] [] h = tt
each_disjoint [] (A ∷ layers) h = absurd h
each_disjoint (L ∷ under) [] h = absurd h
each_disjoint (L ∷ under) (A ∷ layers) h = (h.0.disjoint, each_disjoint under layers h.1)

pub found_disjoint : (start : List Layer) (steps : List Step) → All DisjointLayer (found start steps)
found_disjoint start steps = each_disjoint (limits start steps) (found start steps) (found_fit start steps)
