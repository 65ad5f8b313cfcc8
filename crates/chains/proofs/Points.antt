-- The evaluation tells of each layer of a chain whether a point lies in it.
use mathlib.Core.Path.{◌≡◌, refl, sym, subst, ◌∙◌, ap}
use mathlib.Core.Bool.{Bool, true, false}
use mathlib.Core.List.{List, [], ◌∷◌}
use Prim.Native.Nat.{ℕ, ◌+◌}
use lib.Dec.{T}
use lib.ListN.{length, length-append}
use Rattle.records.specs.Records.{records_from}
use Rattle.geometry.specs.Points.{Point, IsPoint}
use Rattle.geometry.specs.declared.Trapezoid.{Trapezoid}
use Rattle.geometry.specs.Trapezoids.{layer_of, LiesInLayer}
use Rattle.geometry.proofs.Layers.{lies_in-layer_exact}
use Rattle.boolean.specs.Operations.{code_at}
use Rattle.boolean.specs.Statements.{IsYes}
use Rattle.boolean.proofs.Results.{result_exact}
use Rattle.chains.specs.Chains.{Layer, layer_at, Step, succeeds, added, result_of, stepped, run, told_of, told, entry_at, said, evaluate, fed}
use Rattle.chains.specs.Statements.{Each}
use Rattle.chains.proofs.Each.{each_at, each_added}
use Rattle.chains.proofs.Success.{success_gives}

-- ---- an entry for each layer, that tells whether the point lies in it
abbrev TellsOf : Point → Bool → Layer → Type 0
TellsOf P y A = IsYes y (LiesInLayer P (layer_of A))

abbrev Tells : Point → List Bool → List Layer → Type 0
Tells P ys layers = Each (TellsOf P) ys layers

tells_fed : (P : Point) (layers : List Layer) → Tells P (fed P layers) layers
tells_fed P [] = tt
tells_fed P (A ∷ layers) = (lies_in-layer_exact P (layer_of A), tells_fed P layers)

pub no_words : layer_of [] ≡ []
unfolding records_from
no_words = refl

tells_at : (P : Point) (ys : List Bool) (layers : List Layer) → Tells P ys layers → (n : ℕ) → IsYes (entry_at ys n) (LiesInLayer P (layer_of (layer_at layers n)))
tells_at P = each_at (TellsOf P) false [] ((λ k. absurd k), (λ k. absurd (subst (LiesInLayer P) no_words k)))

module _ (P : Point) (hP : IsPoint P) where
  -- a success's entry tells of its result
  tells_result : (ys : List Bool) (layers : List Layer) (s : Step) → Tells P ys layers → T (succeeds layers s)
      → IsYes (said ys (told_of s (succeeds layers s))) (LiesInLayer P (layer_of (result_of layers s)))
  tells_result ys layers s h t =
      let k = (success_gives layers s t).call in
      subst (λ (ts : List Trapezoid). IsYes (said ys (told_of s (succeeds layers s))) (LiesInLayer P ts)) (sym k.is)
      (result_exact s.limit (layer_of (layer_at layers s.first)) (layer_of (layer_at layers s.second)) k.first k.second P hP (code_at s.code) (entry_at ys s.first) (entry_at ys s.second)
      (tells_at P ys layers h s.first)
      (tells_at P ys layers h s.second))

  tells_run : (ys : List Bool) (layers : List Layer) (steps : List Step) → Tells P ys layers → Tells P (evaluate ys (told layers steps)) (run layers steps)
  unfolding run told evaluate
  tells_run ys layers [] h = h
  tells_run ys layers (s ∷ steps) h =
      tells_run (added (succeeds layers s) ys (said ys (told_of s (succeeds layers s)))) (stepped layers s) steps
      (each_added (TellsOf P) (succeeds layers s) ys layers _ (result_of layers s) h (tells_result ys layers s h))

  pub run_points : (start : List Layer) (steps : List Step) (n : ℕ) → IsYes (entry_at (evaluate (fed P start) (told start steps)) n) (LiesInLayer P (layer_of (layer_at (run start steps) n)))
  run_points start steps n = tells_at P (evaluate (fed P start) (told start steps)) (run start steps) (tells_run (fed P start) start steps (tells_fed P start)) n

-- ---- the evaluation has an entry for each layer
added-length : (b : Bool) (ys : List Bool) (layers : List Layer) (y : Bool) (A : Layer) → length ys ≡ length layers → length (added b ys y) ≡ length (added b layers A)
added-length true ys layers y A e = length-append ys (y ∷ []) ∙ ap (λ (n : ℕ). n + 1) e ∙ sym (length-append layers (A ∷ []))
added-length false ys layers y A e = e

pub evaluate-length : (ys : List Bool) (layers : List Layer) (steps : List Step) → length ys ≡ length layers → length (evaluate ys (told layers steps)) ≡ length (run layers steps)
unfolding run told evaluate
evaluate-length ys layers [] e = e
evaluate-length ys layers (s ∷ steps) e =
    evaluate-length (added (succeeds layers s) ys (said ys (told_of s (succeeds layers s)))) (stepped layers s) steps
    (added-length (succeeds layers s) ys layers _ (result_of layers s) e)
