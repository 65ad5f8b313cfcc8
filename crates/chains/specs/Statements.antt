-- Demand 3: what is proved of chains of any length, from any starting layers. The theorem is `every_chain` in proofs/Chains.antt.
use Rattle.std.specs.Prelude.{◌≡◌, Bool, not, List, [], ◌∷◌, ◌++◌, ℕ, ◌<◌, T, length}
use Rattle.lists.specs.Lists.{All}
use Rattle.geometry.specs.declared.Trapezoid.{Trapezoid}
use Rattle.geometry.specs.Points.{Point, IsPoint}
use Rattle.geometry.specs.Trapezoids.{layer_of, LiesInLayer, Disjoint}
use Rattle.sources.specs.Sourced.{sourced_of}
use Rattle.boolean.specs.Statements.{IsYes, LinesFrom}
use Rattle.boolean.specs.Sources.{Traced}
use Rattle.files.specs.Outcomes.{refused}
use Rattle.calls.specs.Answers.{combined_answer, equality_answer, refused_equality, is_refused, is_same}
use Rattle.calls.specs.Statements.{FitAsInput, Compares}
use Rattle.chains.specs.Chains.{Layer, layer_at, Step, stepped, run, limits, Call, steps_of, KeptIfCalled, grown, held, results, Contracts, entry_at, fed, evaluation, origin_at, origins, raised, merged, Test, Tested}

-- of a layer's words: no rational point lies in two of its trapezoids
abbrev pub DisjointLayer : Layer → Type 0
DisjointLayer A = Disjoint (layer_of A)

-- "A starting piece is a piece of a starting layer"
abbrev pub starting_trapezoids : List Layer → List Trapezoid
starting_trapezoids [] = []
starting_trapezoids (A ∷ start) = layer_of A ++ starting_trapezoids start

-- each call that was made answered and wrote what paper 01 defines, on the layers that paper 01 defines
unfoldable pub Defined : List Layer → List Call → Type 0
Defined layers [] = Unit {0}
Defined layers (c ∷ calls) = KeptIfCalled layers c × Defined (stepped layers c.step) calls

-- "The set expressions of two layers agree if the tally ends with equal entries for them whatever yes or no each starting layer is given." Of a layer
-- of one chain and a layer of another, each with its own evaluation
abbrev pub Agree : List Layer → List Call → List Call → ℕ → ℕ → Type 0
Agree start one two m n = (entries : List Bool) → length entries ≡ length start → entry_at (evaluation entries start one) m ≡ entry_at (evaluation entries start two) n

-- of any equality test of two layers: where it is not refused it says same exactly if no rational point lies in one and not in the other, and an operand exactly as
-- `Compares` has it
abbrev pub SameExactly : Layer → Layer → Type 0
SameExactly A B = (t : Test) → Tested A B t → T (not (is_refused (equality_answer t.answer))) → Compares (equality_answer t.answer) (layer_of A) (layer_of B)

-- where it is not refused it says same
abbrev pub NeverDiffers : Layer → Layer → Type 0
NeverDiffers A B = (t : Test) → Tested A B t → T (not (is_refused (equality_answer t.answer))) → T (is_same (equality_answer t.answer))

-- R holds of the first of both lists, of the second of both, and so on; they are equally long
abbrev pub Each : {A B : Type 0} → (A → B → Type 0) → List A → List B → Type 0
Each R [] [] = Unit {0}
Each R [] (y ∷ ys) = ⊥
Each R (x ∷ xs) [] = ⊥
Each R (x ∷ xs) (y ∷ ys) = R x y × Each R xs ys

-- all that is promised of a chain
pub record Promised (start : List Layer) (calls : List Call) : Type 0 where
  -- every call answers and writes what paper 01 defines, and so the layers held are those that it defines
  pub defined : Defined start calls
  pub are : held start calls ≡ run start (steps_of calls)
  -- "no step changes a layer already in the list"
  pub unchanged : held start calls ≡ start ++ results start calls
  -- a point lies in a held layer exactly if the set words say so
  pub points : (P : Point) → IsPoint P → (n : ℕ) → IsYes (entry_at (evaluation (fed P start) start calls) n) (LiesInLayer P (layer_of (layer_at (held start calls) n)))
  -- the evaluation has an entry for each held layer
  pub entries : (entries : List Bool) → length entries ≡ length start → length (evaluation entries start calls) ≡ length (held start calls)
  -- every result is disjoint, whatever the starting layers are: a call lent an overlapping one is refused
  pub disjoint : All DisjointLayer (results start calls)
  -- every line in a held layer is a line of a starting trapezoid, word for word
  pub lines : All (λ (A : Layer). LinesFrom (starting_trapezoids start) (layer_of A)) (held start calls)
  -- what the sets in a held layer say: where a bit is in a trapezoid's set, it is in the set of a starting trapezoid of a layer that this one was made from, and all points of the
  -- trapezoid lie in that one. The converse is false: a union drops the sets of B where A lies.
  pub sets : (n : ℕ) → All (Traced (origin_at (origins start calls) n)) (sourced_of (layer_at (held start calls) n))
  -- no result is unfit as input, under the limit of the call that made it
  pub fit : Each FitAsInput (limits start (steps_of calls)) (results start calls)
  -- the equality test between any two held layers
  pub same : (m n : ℕ) → SameExactly (layer_at (held start calls) m) (layer_at (held start calls) n)
  pub agreed : (m n : ℕ) → Agree start calls calls m n → NeverDiffers (layer_at (held start calls) m) (layer_at (held start calls) n)

-- all that is promised of two chains from one start
pub record Joined (start : List Layer) (one two : List Call) : Type 0 where
  -- they are one chain
  pub contracts : Contracts start (merged start one two)
  pub promised : Promised start (merged start one two)
  -- it holds the layers of the first, and then the results of the second
  pub holds : held start (merged start one two) ≡ held start one ++ results start two
  -- the first's layers and entries are found under their numbers, the second's under the raised numbers
  pub first_layer : (n : ℕ) → n < length (held start one) → layer_at (held start (merged start one two)) n ≡ layer_at (held start one) n
  pub second_layer : (n : ℕ) → layer_at (held start (merged start one two)) (raised (length start) (length (results start one)) n) ≡ layer_at (held start two) n
  pub first_entry : (entries : List Bool) → length entries ≡ length start → (n : ℕ) → n < length (held start one)
      → entry_at (evaluation entries start (merged start one two)) n ≡ entry_at (evaluation entries start one) n
  pub second_entry : (entries : List Bool) → length entries ≡ length start → (n : ℕ)
      → entry_at (evaluation entries start (merged start one two)) (raised (length start) (length (results start one)) n) ≡ entry_at (evaluation entries start two) n
  -- the equality test between a layer of the first and a layer of the second
  pub same : (m n : ℕ) → SameExactly (layer_at (held start one) m) (layer_at (held start two) n)
  pub agreed : (m n : ℕ) → Agree start one two m n → NeverDiffers (layer_at (held start one) m) (layer_at (held start two) n)

-- ---- the theorem: chains of any length from any layers, and any two of them, over whatever the calls answered and wrote
abbrev pub EveryChain : Type 0
EveryChain =
    (start : List Layer)
    → ((calls : List Call) → Contracts start calls → Promised start calls) × ((one two : List Call) → Contracts start one → Contracts start two → Joined start one two)

-- ---- paper 02 (vi): "A chain begun with disjoint layers never meets this refusal"
-- no call that was made is refused with this number
unfoldable pub NeverRefused : ℕ → List Layer → List Call → Type 0
NeverRefused number layers [] = Unit {0}
NeverRefused number layers (c ∷ calls) =
    (c.step.first < length layers → c.step.second < length layers → (place : ℕ) → combined_answer c.answer ≡ refused number place → ⊥) × NeverRefused number (grown layers c) calls

-- every layer held is disjoint, no call is refused with 13, and no equality test between two of the layers is
pub record WithoutOverlap (start : List Layer) (calls : List Call) : Type 0 where
  pub disjoint : All DisjointLayer (held start calls)
  pub calls_taken : NeverRefused 13 start calls
  pub tests_taken : (m n : ℕ) (t : Test) → Tested (layer_at (held start calls) m) (layer_at (held start calls) n) t → (place : ℕ) → equality_answer t.answer ≡ refused_equality 13 place → ⊥

-- (proofs/Disjoint.antt: `disjoint_chain`)
abbrev pub DisjointChain : Type 0
DisjointChain = (start : List Layer) → All DisjointLayer start → (calls : List Call) → Contracts start calls → WithoutOverlap start calls

-- ---- and there are such calls: for every start and every list of steps, calls that keep the contracts, which end in the layers that paper 01 defines
pub record Possible (start : List Layer) (steps : List Step) : Type 0 where
  pub calls : List Call
  pub made : steps_of calls ≡ steps
  pub contracts : Contracts start calls
  pub ends : held start calls ≡ run start steps

-- (proofs/Possible.antt: `chains_possible`)
abbrev pub ChainsPossible : Type 0
ChainsPossible = (start : List Layer) (steps : List Step) → Possible start steps
