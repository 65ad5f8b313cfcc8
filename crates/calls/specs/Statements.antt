-- Demand 2, of what the calls answer and write, for words of any number and content and under any coordinate limit L. Each statement is proved under its name in lower case in
-- proofs/Exact.antt, and those of the sets in proofs/Sets.antt.
use Rattle.std.specs.Prelude.{◌≡◌, Bool, not, List, ◌↔◌, ℕ, ◌<◌, T, length, ℤ, Ok}
use Rattle.lists.specs.Lists.{All, Any}
use Rattle.records.specs.Limits.{sized}
use Rattle.geometry.specs.declared.Trapezoid.{Trapezoid}
use Rattle.geometry.specs.Points.{Point, IsPoint}
use Rattle.geometry.specs.Trapezoids.{layer_of, LiesInLayer, Disjoint}
use Rattle.geometry.specs.Fitness.{first_refusal}
use Rattle.sources.specs.Sets.{is_source_layer, single}
use Rattle.sources.specs.Sourced.{sourced_of, bearing}
use Rattle.boolean.specs.Operations.{code_at, says}
use Rattle.boolean.specs.Sources.{sourced_result, sourced_deoverlapped}
use Rattle.boolean.specs.Statements.{IsYes, SamePoints, Beyond}
use Rattle.fracture.specs.Statements.{Wound, SidesOfOne}
use Rattle.files.specs.declared.Edition.{Edition}
use Rattle.files.specs.Formats.{file_words}
use Rattle.files.specs.Contents.{polygons_of}
use Rattle.files.specs.Outcomes.{is_done}
use Rattle.calls.specs.Answers.{EqualityAnswer, is_refused, is_same, is_operand, is_answered, is_yes}
use Rattle.calls.specs.Outcomes.{records_of, fracture_outcome, combined, deoverlap_outcome, equal_outcome, contains_answer}
use Rattle.calls.specs.Components.{components_outcome}
use Rattle.calls.specs.Transistors.{transistors_outcome}

-- "row 1 accepts its length and rows 7 to 11 find nothing in its pieces", under the limit of the call that made it or takes it; it may hold overlaps
pub record WellFormed (L : ℕ) (a : List ℤ) : Type 0 where
  pub size : T (sized (length a))
  pub rows : first_refusal L 0 (layer_of a) ≡ Ok tt

-- paper 02 (vi): "to be fit as input is now also to hold no overlap"
pub record FitAsInput (L : ℕ) (a : List ℤ) : Type 0 where
  pub formed : WellFormed L a
  pub disjoint : Disjoint (layer_of a)

-- the words that a success of `fracture`, or of `fracture_first_edition`, wrote
abbrev pub fractured_layer : Edition → ℕ → ℕ → List ℕ → List ℤ → List ℤ → List ℤ
fractured_layer edition L layer file out scratch = records_of (fracture_outcome edition L layer file out scratch).answer (fracture_outcome edition L layer file out scratch).out

-- they are well formed, a rational point lies in them exactly if the winding number of some polygon of the file is not zero there, and every side is a line
-- of an edge of a polygon of the file. Polygons may overlap, and so may what is written.
abbrev pub FractureFileExact : Type 0
FractureFileExact =
    (edition : Edition) (L layer : ℕ) (file : List ℕ) (out scratch : List ℤ) → T (is_done (fracture_outcome edition L layer file out scratch).answer)
    → (0 < L → WellFormed L (fractured_layer edition L layer file out scratch))
    × ((P : Point) → IsPoint P → LiesInLayer P (layer_of (fractured_layer edition L layer file out scratch)) ↔ Any (Wound P) (polygons_of edition (file_words file)))
    × All (SidesOfOne (polygons_of edition (file_words file))) (layer_of (fractured_layer edition L layer file out scratch))

-- paper 02 (vii): "Cutting takes a layer number and sets that bit."
abbrev pub FractureSets : Type 0
FractureSets =
    (edition : Edition) (L layer : ℕ) (file : List ℕ) (out scratch : List ℤ) → T (is_done (fracture_outcome edition L layer file out scratch).answer)
    → T (is_source_layer layer)
    × (sourced_of (fractured_layer edition L layer file out scratch) ≡ bearing (single layer) (layer_of (fractured_layer edition L layer file out scratch)))

-- the words that a success of `combine` wrote
abbrev pub combined_layer : ℕ → ℕ → List ℤ → List ℤ → List ℤ → List ℤ → List ℤ
combined_layer L code a b out scratch = records_of (combined L code a b out scratch).answer (combined L code a b out scratch).out

-- they are fit, and a rational point lies in them exactly if the set words say so
abbrev pub CombineExact : Type 0
CombineExact =
    (L code : ℕ) (a b out scratch : List ℤ) → T (is_done (combined L code a b out scratch).answer)
    → FitAsInput L (combined_layer L code a b out scratch)
    × ((P : Point) → IsPoint P → (x y : Bool) → IsYes x (LiesInLayer P (layer_of a)) → IsYes y (LiesInLayer P (layer_of b))
    → IsYes (says (code_at code) x y) (LiesInLayer P (layer_of (combined_layer L code a b out scratch))))

-- with the sets that the operations give them (crates/boolean/specs/Sources.antt, where it is said what they mean)
abbrev pub CombineSets : Type 0
CombineSets =
    (L code : ℕ) (a b out scratch : List ℤ) → T (is_done (combined L code a b out scratch).answer)
    → sourced_of (combined_layer L code a b out scratch) ≡ sourced_result (code_at code) (sourced_of a) (sourced_of b)

-- the words that a success of `deoverlap` wrote
abbrev pub deoverlapped_layer : ℕ → List ℤ → List ℤ → List ℤ → List ℤ
deoverlapped_layer L a out scratch = records_of (deoverlap_outcome L a out scratch).answer (deoverlap_outcome L a out scratch).out

-- they are fit, and hold the same points
abbrev pub DeoverlapExact : Type 0
DeoverlapExact =
    (L : ℕ) (a out scratch : List ℤ) → T (is_done (deoverlap_outcome L a out scratch).answer)
    → FitAsInput L (deoverlapped_layer L a out scratch) × SamePoints (layer_of (deoverlapped_layer L a out scratch)) (layer_of a)

abbrev pub DeoverlapSets : Type 0
DeoverlapSets = (L : ℕ) (a out scratch : List ℤ) → T (is_done (deoverlap_outcome L a out scratch).answer) → sourced_of (deoverlapped_layer L a out scratch) ≡ sourced_deoverlapped (sourced_of a)

-- what an answer of the equality test says of two layers
pub record Compares (answer : EqualityAnswer) (A B : List Trapezoid) : Type 0 where
  -- same exactly if no rational point lies in one and not in the other
  pub same : IsYes (is_same answer) (SamePoints A B)
  -- "differs with side 0 (A−B)" exactly if some rational point lies in A and not in B
  pub operand_0 : IsYes (is_operand 0 answer) (Beyond A B)
  -- "or 1" exactly if none does, and some lies in B and not in A
  pub operand_1 : IsYes (is_operand 1 answer) ((Beyond A B → ⊥) × Beyond B A)

-- `equal`, where it is not refused, says that of the layers that it is lent, in this order
abbrev pub EqualExact : Type 0
EqualExact =
    (L : ℕ) (a b out scratch : List ℤ) → T (not (is_refused (equal_outcome L a b out scratch).answer)) → Compares (equal_outcome L a b out scratch).answer (layer_of a) (layer_of b)

-- `contains`, where it is not refused, says yes exactly if the set words say that the point lies in the result
abbrev pub ContainsExact : Type 0
ContainsExact =
    (L : ℕ) (P : Point) (a b : List ℤ) (code : ℕ) → T (is_answered (contains_answer L P a b code))
    → (x y : Bool) → IsYes x (LiesInLayer P (layer_of a)) → IsYes y (LiesInLayer P (layer_of b)) → T (is_yes (contains_answer L P a b code)) ↔ T (says (code_at code) x y)

-- ---- paper 02 (vii): "Sets never influence a point, tag or component."
-- the words of two layers that differ at most in their sets
pub record SameTrapezoids (a a' : List ℤ) : Type 0 where
  pub size : length a ≡ length a'
  pub layer : layer_of a ≡ layer_of a'

-- calls on such layers answer the same, and what they write holds the same trapezoids
pub record SetsUnseen : Type 0 where
  pub combine : (L code : ℕ) (a a' b b' out scratch : List ℤ) → SameTrapezoids a a' → SameTrapezoids b b'
      → ((combined L code a b out scratch).answer ≡ (combined L code a' b' out scratch).answer)
      × (layer_of (combined_layer L code a b out scratch) ≡ layer_of (combined_layer L code a' b' out scratch))
  pub deoverlap : (L : ℕ) (a a' out scratch : List ℤ) → SameTrapezoids a a'
      → ((deoverlap_outcome L a out scratch).answer ≡ (deoverlap_outcome L a' out scratch).answer)
      × (layer_of (deoverlapped_layer L a out scratch) ≡ layer_of (deoverlapped_layer L a' out scratch))
  pub equal : (L : ℕ) (a a' b b' out scratch : List ℤ) → SameTrapezoids a a' → SameTrapezoids b b' → equal_outcome L a b out scratch ≡ equal_outcome L a' b' out scratch
  pub contains : (L : ℕ) (P : Point) (a a' b b' : List ℤ) (code : ℕ) → SameTrapezoids a a' → SameTrapezoids b b' → contains_answer L P a b code ≡ contains_answer L P a' b' code
  pub components : (L : ℕ) (a a' : List ℤ) (numbers : List ℕ) → SameTrapezoids a a' → components_outcome L a numbers ≡ components_outcome L a' numbers
  pub transistors : (L : ℕ) (c c' b b' e e' : List ℤ) (list : List ℕ) (out scratch : List ℤ) → SameTrapezoids c c' → SameTrapezoids b b' → SameTrapezoids e e'
      → transistors_outcome L c b e list out scratch ≡ transistors_outcome L c' b' e' list out scratch
