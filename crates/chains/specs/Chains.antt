-- Chains: calls of the set operations and what they add to a list of layers, the evaluation of their set words (paper 01: tally), two chains as one, and
-- the equality test (paper 01: sameness test). A layer is here the list of its words, of any number and content.
use Rattle.std.specs.Prelude.{Bool, true, false, ◌&&◌, cond, List, [], ◌∷◌, ◌++◌, map, ◌↔◌, ℕ, ◌+◌, ◌<◌, T, ltb, length, get_or, drop, ℤ}
use Rattle.geometry.specs.Points.{Point}
use Rattle.geometry.specs.Trapezoids.{layer_of, lies_in_layer}
use Rattle.sources.specs.Sourced.{Sourced, sourced_of}
use Rattle.boolean.specs.Operations.{code_at, says}
use Rattle.boolean.specs.Sources.{origin}
use Rattle.files.specs.Outcomes.{Answer, is_done}
use Rattle.calls.specs.declared.Combined.{Combined}
use Rattle.calls.specs.declared.Equality.{Equality}
use Rattle.calls.specs.Answers.{combined_answer}
use Rattle.calls.specs.Outcomes.{Outcome, records_of, combined}
use Rattle.calls.specs.Promises.{CombineKept, EqualKept}

abbrev pub Layer : Type 0
Layer = List ℤ

-- the layer with the number n; empty if the list holds no such number
abbrev pub layer_at : List Layer → ℕ → Layer
layer_at layers n = get_or layers n []

-- "A step is one call of a set operation: a code, the numbers of its layers A and B, which may be equal, and an output and work area of its own."
-- Output and scratch area are the words that they hold before; the limit is the coordinate limit that the call goes by.
pub record Step : Type 0 where
  pub limit : ℕ
  pub code : ℕ
  pub first : ℕ
  pub second : ℕ
  pub out : List ℤ
  pub scratch : List ℤ

-- ---- success, by the definition
-- "It is lent A and B as the list holds them."
unfoldable pub outcome_of : List Layer → Step → Outcome Answer
outcome_of layers s = combined s.limit s.code (layer_at layers s.first) (layer_at layers s.second) s.out s.scratch

-- "A step naming a number not in the list isn't called and adds nothing."
unfoldable pub called : List Layer → Step → Bool
called layers s = ltb s.first (length layers) && ltb s.second (length layers)

-- the test says yes exactly if both numbers are in the list (proofs/Success.antt: `called_exact`)
abbrev pub CalledExact : Type 0
CalledExact = (layers : List Layer) (s : Step) → T (called layers s) ↔ ((s.first < length layers) × (s.second < length layers))

abbrev pub succeeds : List Layer → Step → Bool
succeeds layers s = called layers s && is_done (outcome_of layers s).answer

-- ---- the layers held
-- "A success adds its result to the end of the list"; "A refused step adds nothing"
abbrev pub added : {A : Type 0} → Bool → List A → A → List A
added true xs x = xs ++ (x ∷ [])
added false xs x = xs

-- "the first records of its output, as many as its answer counts pieces"
abbrev pub result_of : List Layer → Step → Layer
result_of layers s = records_of (outcome_of layers s).answer (outcome_of layers s).out

abbrev pub stepped : List Layer → Step → List Layer
stepped layers s = added (succeeds layers s) layers (result_of layers s)

-- the layers that paper 01 defines after a list of steps
unfoldable pub run : List Layer → List Step → List Layer
run layers [] = layers
run layers (s ∷ steps) = run (stepped layers s) steps

-- the limit of each step that adds a result
unfoldable pub limits : List Layer → List Step → List ℕ
limits layers [] = []
limits layers (s ∷ steps) = added (succeeds layers s) [] s.limit ++ limits (stepped layers s) steps

-- ---- calls that were made
-- a step, what its call answered, and the words that its output and scratch area held then
pub record Call : Type 0 where
  pub step : Step
  pub answer : Combined
  pub out : List ℤ
  pub scratch : List ℤ

abbrev pub steps_of : List Call → List Step
steps_of calls = map (λ (c : Call). c.step) calls

-- the contract of `combine`, of a call on these layers
abbrev pub Kept : List Layer → Call → Type 0
Kept layers c =
    CombineKept c.step.limit c.step.code (layer_at layers c.step.first) (layer_at layers c.step.second) c.step.out c.step.scratch c.answer c.out c.scratch

-- where both its numbers are in the list, so that the call was made
abbrev pub KeptIfCalled : List Layer → Call → Type 0
KeptIfCalled layers c = c.step.first < length layers → c.step.second < length layers → Kept layers c

-- what a call adds, by what it answered and wrote
abbrev pub grown : List Layer → Call → List Layer
grown layers c = added (called layers c.step && is_done (combined_answer c.answer)) layers (records_of (combined_answer c.answer) c.out)

-- the layers held after a list of calls
unfoldable pub held : List Layer → List Call → List Layer
held layers [] = layers
held layers (c ∷ calls) = held (grown layers c) calls

-- the results among them: those past the starting layers
abbrev pub results : List Layer → List Call → List Layer
results start calls = drop (length start) (held start calls)

-- each call that was made kept the contract, on the layers held then
unfoldable pub Contracts : List Layer → List Call → Type 0
Contracts layers [] = Unit {0}
Contracts layers (c ∷ calls) = KeptIfCalled layers c × Contracts (grown layers c) calls

-- ---- the evaluation of the set words (paper 01: tally)
-- "each step's code and two numbers, and whether this paper makes the call a success"
pub record Told : Type 0 where
  pub code : ℕ
  pub first : ℕ
  pub second : ℕ
  pub success : Bool

-- what the evaluation is told of a step, and of a chain's steps
abbrev pub told_of : Step → Bool → Told
told_of s success = record { code = s.code; first = s.first; second = s.second; success = success }

unfoldable pub told : List Layer → List Step → List Told
told layers [] = []
told layers (s ∷ steps) = told_of s (succeeds layers s) ∷ told (stepped layers s) steps

-- the entry with the number n; no if there is none
abbrev pub entry_at : List Bool → ℕ → Bool
entry_at entries n = get_or entries n false

-- by "a and b its entries at the two numbers"
abbrev pub said : List Bool → Told → Bool
said entries t = says (code_at t.code) (entry_at entries t.first) (entry_at entries t.second)

-- "It is a list of yes or no, at first those fed." "a success adds one entry"; "Any other step adds nothing."
unfoldable pub evaluate : List Bool → List Told → List Bool
evaluate entries [] = entries
evaluate entries (t ∷ ts) = evaluate (added t.success entries (said entries t)) ts

-- "fed whether it lies in each starting layer"
abbrev pub fed : Point → List Layer → List Bool
fed P start = map (λ (A : Layer). lies_in_layer P (layer_of A)) start

-- the evaluation of a chain, whatever it is fed
abbrev pub evaluation : List Bool → List Layer → List Call → List Bool
evaluation entries start calls = evaluate entries (told start (steps_of calls))

-- ---- paper 02 (vii), which layer was this: the starting trapezoids that the sets of each layer come from
-- those of the layer with the number n; none if there is none
abbrev pub origin_at : List (List Sourced) → ℕ → List Sourced
origin_at origins n = get_or origins n []

-- a success adds those of its two layers, and of a difference those of the layer in hand alone
unfoldable pub origins_by : List (List Sourced) → List Told → List (List Sourced)
origins_by origins [] = origins
origins_by origins (t ∷ ts) = origins_by (added t.success origins (origin (code_at t.code) (origin_at origins t.first) (origin_at origins t.second))) ts

-- of a chain: at first each starting layer's own
abbrev pub origins : List Layer → List Call → List (List Sourced)
origins start calls = origins_by (map sourced_of start) (told start (steps_of calls))

-- ---- two chains from the same layers
-- "each layer number in them past the starting layers raised by the count of the first's results"
abbrev pub raised : ℕ → ℕ → ℕ → ℕ
raised starting count n = cond (ltb n starting) n (n + count)

abbrev pub renumbered_step : ℕ → ℕ → Step → Step
renumbered_step starting count s =
    record { limit = s.limit; code = s.code; first = raised starting count s.first; second = raised starting count s.second; out = s.out; scratch = s.scratch }

abbrev pub renumbered : ℕ → ℕ → Call → Call
renumbered starting count c = record { step = renumbered_step starting count c.step; answer = c.answer; out = c.out; scratch = c.scratch }

-- "Two chains from the same layers are one chain, the second's steps after the first's"
abbrev pub merged : List Layer → List Call → List Call → List Call
merged start one two = one ++ map (renumbered (length start) (length (results start one))) two

-- ---- the equality test
-- "The sameness test has an output and work area of its own too." The coordinate limit that it goes by, what they hold before and then, and what it answered
pub record Test : Type 0 where
  pub limit : ℕ
  pub out : List ℤ
  pub scratch : List ℤ
  pub answer : Equality
  pub out_then : List ℤ
  pub scratch_then : List ℤ

-- the contract of `equal`, of a test of two layers
abbrev pub Tested : Layer → Layer → Test → Type 0
Tested A B t = EqualKept t.limit A B t.out t.scratch t.answer t.out_then t.scratch_then
