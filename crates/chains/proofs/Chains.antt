-- All that is promised of a chain, and of two chains from one start.
use mathlib.Core.Path.{◌≡◌, sym, ◌∙◌, ap, subst}
use mathlib.Core.Bool.{Bool}
use mathlib.Core.List.{List}
use Prim.Native.Nat.{ℕ}
use lib.Dec.{T}
use lib.ListN.{length, drop, length-map}
use Rattle.lists.specs.Lists.{All}
use Rattle.geometry.specs.Points.{Point, IsPoint}
use Rattle.geometry.specs.Trapezoids.{layer_of, LiesInLayer, lies_in_layer}
use Rattle.sources.specs.Sourced.{sourced_of}
use Rattle.boolean.specs.Statements.{IsYes, SamePoints}
use Rattle.boolean.specs.Sources.{Traced}
use Rattle.calls.specs.Statements.{FitAsInput}
use Rattle.chains.specs.Chains.{Layer, layer_at, run, limits, Step, told, evaluate, Call, steps_of, held, Contracts, entry_at, fed, evaluation, origin_at, origins, merged}
use Rattle.chains.specs.Statements.{DisjointLayer, starting_trapezoids, Each, Agree, NeverDiffers, Promised, Joined, EveryChain}
use Rattle.chains.proofs.Steps.{found_fit, found_disjoint}
use Rattle.chains.proofs.Calls.{held_runs, calls_defined, held_kept}
use Rattle.chains.proofs.Points.{run_points, evaluate-length}
use Rattle.chains.proofs.Sets.{run_sets}
use Rattle.chains.proofs.Lines.{LayerLines, run_lines}
use Rattle.chains.proofs.Merged.{merged_steps, merged_holds, first_layer, second_layer, first_entry, second_entry}
use Rattle.chains.proofs.Contracts.{merged_contracts, merged_steps_lem}
use Rattle.chains.proofs.Same.{same_exactly, never_differs}

-- ---- points
held_points : (start : List Layer) (calls : List Call) → Contracts start calls → (P : Point) → IsPoint P → (n : ℕ)
    → IsYes (entry_at (evaluation (fed P start) start calls) n) (LiesInLayer P (layer_of (layer_at (held start calls) n)))
held_points start calls h P hP n =
    subst (λ (now : List Layer). IsYes (entry_at (evaluation (fed P start) start calls) n) (LiesInLayer P (layer_of (layer_at now n)))) (sym (held_runs start calls h)) (run_points P hP start (steps_of calls) n)

-- layers whose set expressions agree have the same points
agree_points : (start : List Layer) (one two : List Call) → Contracts start one → Contracts start two → (m n : ℕ) → Agree start one two m n
    → SamePoints (layer_of (layer_at (held start one) m)) (layer_of (layer_at (held start two) n))
agree_points start one two h k m n agree P hP =
    let e = agree (fed P start) (length-map start (λ (A : Layer). lies_in_layer P (layer_of A))) in
    let a = held_points start one h P hP m in
    let b = held_points start two k P hP n in
    ((λ x. b.0 (subst T e (a.1 x))), (λ y. a.0 (subst T (sym e) (b.1 y))))

agreed : (start : List Layer) (one two : List Call) → Contracts start one → Contracts start two → (m n : ℕ) → Agree start one two m n
    → NeverDiffers (layer_at (held start one) m) (layer_at (held start two) n)
agreed start one two h k m n agree = never_differs (layer_at (held start one) m) (layer_at (held start two) n) (agree_points start one two h k m n agree)

-- ---- one chain
promised : (start : List Layer) (calls : List Call) → Contracts start calls → Promised start calls
promised start calls h =
    let are = held_runs start calls h in
    record {
      defined = calls_defined start calls h;
      are = are;
      unchanged = held_kept start calls h;
      points = held_points start calls h;
      entries = λ ys e. evaluate-length ys start (steps_of calls) e ∙ ap length (sym are);
      disjoint = subst (λ (now : List Layer). All DisjointLayer (drop (length start) now)) (sym are) (found_disjoint start (steps_of calls));
      lines = subst (All (LayerLines (starting_trapezoids start))) (sym are) (run_lines start (steps_of calls));
      sets = λ n. subst (λ (now : List Layer). All (Traced (origin_at (origins start calls) n)) (sourced_of (layer_at now n))) (sym are) (run_sets start (steps_of calls) n);
      fit = subst (λ (now : List Layer). Each FitAsInput (limits start (steps_of calls)) (drop (length start) now)) (sym are) (found_fit start (steps_of calls));
      same = λ m n. same_exactly (layer_at (held start calls) m) (layer_at (held start calls) n);
      agreed = agreed start calls calls h h;
    }

-- ---- two chains
module _ (start : List Layer) (one two : List Call) (h : Contracts start one) (k : Contracts start two) where
  abbrev both : List Call
  both = merged start one two

  abbrev steps : List Step
  steps = merged_steps start (steps_of one) (steps_of two)

  contracts : Contracts start both
  contracts = merged_contracts start one two h k

  held_one : held start one ≡ run start (steps_of one)
  held_one = held_runs start one h

  held_two : held start two ≡ run start (steps_of two)
  held_two = held_runs start two k

  held_both : held start both ≡ run start steps
  held_both = held_runs start both contracts ∙ ap (run start) (merged_steps_lem start one two h)

  evaluation_both : (ys : List Bool) → evaluation ys start both ≡ evaluate ys (told start steps)
  evaluation_both ys = ap (λ (ss : List Step). evaluate ys (told start ss)) (merged_steps_lem start one two h)

  joined : Joined start one two
  joined =
      record {
        contracts = contracts;
        promised = promised start both contracts;
        holds = rw (held_both, held_one, held_two) (merged_holds start (steps_of one) (steps_of two));
        first_layer = λ n l. rw (held_both, held_one) (first_layer start (steps_of one) (steps_of two) n (rw held_one at l));
        second_layer = λ n. rw (held_both, held_one, held_two) (second_layer start (steps_of one) (steps_of two) n);
        first_entry = λ ys e n l. rw (evaluation_both ys) (first_entry start (steps_of one) (steps_of two) ys e n (rw held_one at l));
        second_entry = λ ys e n. rw (evaluation_both ys, held_one) (second_entry start (steps_of one) (steps_of two) ys e n);
        same = λ m n. same_exactly (layer_at (held start one) m) (layer_at (held start two) n);
        agreed = agreed start one two h k;
      }

pub every_chain : EveryChain
every_chain start = (promised start, joined start)
