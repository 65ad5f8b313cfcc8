-- Demand 2 of what the calls answer and write.
use mathlib.Core.Path.{◌≡◌, refl, sym, subst}
use mathlib.Core.Bool.{Bool, true, false}
use mathlib.Core.List.{List}
use mathlib.Core.Logic.{◌↔◌}
use lib.Dec.{T}
use Rattle.lists.specs.Lists.{All, Any}
use Rattle.geometry.specs.declared.Trapezoid.{Trapezoid}
use Rattle.geometry.specs.Trapezoids.{layer_of, LiesInLayer, lies_in_layer}
use Rattle.geometry.proofs.Layers.{lies_in-layer_exact}
use Rattle.boolean.specs.Operations.{code_at, result, says}
use Rattle.boolean.specs.Statements.{IsYes, SamePoints}
use Rattle.boolean.proofs.Results.{result_exact}
use Rattle.boolean.proofs.Deoverlapping.{deoverlapped_exact}
use Rattle.fracture.specs.Statements.{Wound, SidesOfOne}
use Rattle.fracture.proofs.Points.{fracture_exact}
use Rattle.fracture.proofs.Fitness.{fracture-all_sides}
use Rattle.files.specs.Formats.{file_words}
use Rattle.files.specs.Contents.{polygons_of}
use Rattle.calls.specs.Answers.{is_answered, is_yes}
use Rattle.calls.specs.Rows.{contains_checked}
use Rattle.calls.specs.Outcomes.{asked, contains_answer}
use Rattle.calls.specs.Statements.{FractureFileExact, CombineExact, DeoverlapExact, EqualExact, ContainsExact}
use Rattle.calls.proofs.Bounds.{point_real}
use Rattle.calls.proofs.Checks.{contains_ready}
use Rattle.calls.proofs.Success.{combined_accepted, deoverlap_accepted}
use Rattle.calls.proofs.Same.{equal_exactly}
use Rattle.calls.proofs.Fracturing.{fracture_accepted}
use Rattle.std.specs.Prelude.{Result, Ok, Err}
use Rattle.geometry.specs.declared.Refusal.{Refusal}

pub fracture_file_exact : FractureFileExact
fracture_file_exact edition L layer file out scratch h =
    let k = fracture_accepted edition L layer file out scratch h in
    let ps = polygons_of edition (file_words file) in (
      k.fit,
      (λ P hP. subst (λ (ts : List Trapezoid). LiesInLayer P ts ↔ Any (Wound P) ps) (sym k.is) (fracture_exact L ps P hP)),
      subst (λ (ts : List Trapezoid). All (SidesOfOne ps) ts) (sym k.is) (fracture-all_sides L ps),
    )

pub combine_exact : CombineExact
combine_exact L code a b out scratch h =
    let k = combined_accepted L code a b out scratch h in (
      k.fit,
      (λ P hP x y hx hy.
          subst (λ (ts : List Trapezoid). IsYes (says (code_at code) x y) (LiesInLayer P ts)) (sym k.is)
          (result_exact L (layer_of a) (layer_of b) k.first k.second P hP (code_at code) x y hx hy)),
    )

pub deoverlap_exact : DeoverlapExact
deoverlap_exact L a out scratch h =
    let k = deoverlap_accepted L a out scratch h in (
      k.fit,
      subst (λ (ts : List Trapezoid). SamePoints ts (layer_of a)) (sym k.is) (deoverlapped_exact L (layer_of a) k.layer),
    )

pub equal_exact : EqualExact
equal_exact L a b out scratch h = equal_exactly L a b out scratch h

-- ---- the point question
record Asked (c : Result (Unit {0}) Refusal) (b : Bool) : Type 0 where
  passed : c ≡ Ok tt
  answers : is_yes (asked c b) ≡ b

asked_is : (c : Result (Unit {0}) Refusal) (b : Bool) → T (is_answered (asked c b)) → Asked c b
asked_is (Ok u) true h = record { passed = refl; answers = refl }
asked_is (Ok u) false h = record { passed = refl; answers = refl }
asked_is (Err refusal) b h = absurd h

pub contains_exact : ContainsExact
unfolding contains_answer
contains_exact L P a b code h x y hx hy =
    let ts = result (code_at code) (layer_of a) (layer_of b) in
    let k = asked_is (contains_checked L P a b code) (lies_in_layer P ts) h in
    let r = contains_ready L P a b code k.passed in
    let e = result_exact L (layer_of a) (layer_of b) r.first.fit r.second.fit P (point_real L P r.point) (code_at code) x y hx hy in
    let f = lies_in-layer_exact P ts in
    ((λ z. e.1 (f.0 (subst T k.answers z))), (λ z. subst T (sym k.answers) (f.1 (e.0 z))))
