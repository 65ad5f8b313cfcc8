-- The definitions compute: two chains from the layers of Q and of R, the squares of the table, and both as one chain.
use mathlib.Core.Path.{◌≡◌, refl}
use mathlib.Core.Bool.{Bool, true, false}
use mathlib.Core.List.{List, [], ◌∷◌, ◌++◌, map}
use Prim.Native.Nat.{ℕ, ◌*◌, ◌<◌}
use native.Mathlib.Omega.{arith}
use lib.ListN.{length}
use lib.IntN.{ℤ}
use Rattle.lists.specs.Tests.{keep}
use Rattle.integer.specs.Integer.{◌⊕◌, ◌⊖◌, ◌⊗◌, ⊝◌}
use Rattle.integer.specs.Compare.{order_of}
use Rattle.integer.specs.Fraction.{before, order}
use Rattle.records.specs.Limits.{sized}
use Rattle.records.specs.Records.{record_at, records_from, words_of}
use Rattle.records.specs.Words.{signed}
use Rattle.levels.specs.Levels.{insert, levels}
use Rattle.geometry.specs.declared.Line.{Line}
use Rattle.geometry.specs.declared.Trapezoid.{Trapezoid}
use Rattle.geometry.specs.Limit.{on_grid}
use Rattle.geometry.specs.Lines.{dx, dy, offset, det, numer}
use Rattle.geometry.specs.Positions.{crosses, ratio, meet, heights, right_of, below}
use Rattle.geometry.specs.Standing.{one_sign, horizontal}
use Rattle.geometry.specs.Trapezoids.{trapezoid_of, trapezoid_words}
use Rattle.geometry.specs.Fitness.{line_on_grid, is_line, below_between, shape_verdict, verdict, first_refusal}
use Rattle.geometry.specs.Ranges.{common_left, common_right}
use Rattle.sources.specs.Sets.{mask, joined}
use Rattle.sources.specs.Sourced.{Sourced}
use Rattle.sweep.specs.Segments.{spans}
use Rattle.sweep.specs.Sweep.{columns, sweep}
use Rattle.overlay.specs.Overlaps.{crosses_in_common, overlap_right, overlap_from, overlaps, overlap_past}
use Rattle.overlay.specs.Overlay.{sides, side_crossings, overlay_events, fills, tag_above, stack, parts, subdivision, overlay, tagged}
use Rattle.boolean.specs.Operations.{minus, minus_all, difference, common, intersection, codes}
use Rattle.boolean.specs.Sources.{sourced_difference, sourced_common, sourced_intersection}
use Rattle.boolean.specs.Space.{minus_stages, minus_all_stages, difference_stages, common_stages, intersection_stages, space}
use Rattle.calls.specs.declared.Combined.{Combined}
use Rattle.calls.specs.declared.Combined.TheVariants.{Refused, Done}
use Rattle.calls.specs.Rows.{plate_limit, combine_checked}
use Rattle.calls.specs.Outcomes.{combined}
use Rattle.calls.specs.Table.{line, base_at, Q, R, layer, q, r, lent, cleared}
use Rattle.chains.specs.Chains.{Layer, Step, outcome_of, called, run, limits, Call, steps_of, held, Contracts, Told, told, evaluate, origins_by, merged}
use Rattle.chains.specs.Memberships.{Membership, memberships, membership_at}

-- layers 0 and 1 are Q and R
abbrev start : List Layer
start = q ∷ r ∷ []

abbrev cell : ℕ → ℕ → Line → Line → Trapezoid
cell a c bottom top = record { left = base_at a; right = base_at c; bottom = bottom; top = top }

-- Q−R: [0, 2) × [0, 4) and [2, 4) × [0, 2)
abbrev q-r : Layer
q-r = layer (cell 0 2 (line 0 0 4 0) (line 0 4 4 4) ∷ cell 2 4 (line 0 0 4 0) (line 2 2 6 2) ∷ [])

-- Q∩R: [2, 4) × [2, 4)
abbrev q∩r : Layer
q∩r = layer (cell 2 4 (line 2 2 6 2) (line 0 4 4 4) ∷ [])

-- code, layers A and B, and space for n trapezoids; then the answer, and the words left in the output and the scratch area
abbrev call : ℕ → ℕ → ℕ → ℕ → Combined → List ℤ → List ℤ → Call
call code a b n answer out scratch =
    record { step = record { limit = plate_limit; code = code; first = a; second = b; out = lent n; scratch = lent n }; answer = answer; out = out; scratch = scratch }

-- there is no code 5
abbrev no_code : Call
no_code = call 5 0 1 2 (Refused 2 0) (lent 2) (lent 2)

-- after that, Q−R is refused for space 1, and is layer 2 with space 2; there is no layer 3, so that the last is not called, whatever stands here
abbrev one : List Call
one = no_code ∷ call 2 0 1 1 (Refused 12 0) (cleared 1) (cleared 1) ∷ call 2 0 1 2 (Done 2 1) q-r (cleared 2) ∷ call 0 0 3 2 (Done 2 1) q-r (lent 2) ∷ []

-- two equal numbers, "which may be equal": Q minus itself is called, and adds a layer of no trapezoids
abbrev itself : Call
itself = call 2 0 0 1 (Done 0 1) (cleared 1) (cleared 1)

-- the first number is not in the list, and the second is not: neither is called, whatever stands here
abbrev no_first : Call
no_first = call 0 2 0 2 (Done 2 1) q-r (lent 2)

abbrev no_second : Call
no_second = call 0 0 2 2 (Done 2 1) q-r (lent 2)

-- Q∩R is layer 2, and Q minus layer 2 is layer 3
abbrev two : List Call
two = call 1 0 1 1 (Done 1 1) q∩r (cleared 1) ∷ call 2 0 2 2 (Done 2 1) q-r (cleared 2) ∷ []

abbrev both : List Call
both = merged start one two

abbrev tell : ℕ → ℕ → ℕ → Bool → Told
tell code a b success = record { code = code; first = a; second = b; success = success }

-- what the evaluation is told of both: layer 2 of the second is layer 3 here
abbrev tells : List Told
tells = tell 5 0 1 false ∷ tell 2 0 1 false ∷ tell 2 0 1 true ∷ tell 0 0 3 false ∷ tell 1 0 1 true ∷ tell 2 0 3 true ∷ []

-- the layers held, by what the calls answered and wrote, and by the definition
abbrev Holds : List Call → List Layer → Type 0
Holds calls results = (held start calls ≡ q ∷ r ∷ results) × (run start (steps_of calls) ≡ q ∷ r ∷ results)

-- the calls keep the contract of `combine`
abbrev Made : Type 0
Made = Contracts start one × Contracts start two

-- the limits of the steps that add a result: those of `one`, and then Q minus itself under the limit 5, which Q's coordinates reach
abbrev Limits : Type 0
Limits = limits start (steps_of one ++ (record { limit = 5; code = 2; first = 0; second = 0; out = lent 1; scratch = lent 1 } ∷ [])) ≡ plate_limit ∷ 5 ∷ []

-- "a call lent an overlapping one is refused": Q and R in one layer, united with Q; the call changes nothing, and adds nothing
abbrev overlapping : List Layer
overlapping = layer (Q ∷ R ∷ []) ∷ q ∷ []

abbrev refusing : Call
refusing = call 0 0 1 2 (Refused 13 1) (lent 2) (lent 2)

abbrev Overlap : Type 0
Overlap = Contracts overlapping (refusing ∷ []) × (held overlapping (refusing ∷ []) ≡ overlapping) × (told overlapping (steps_of (refusing ∷ [])) ≡ tell 0 0 1 false ∷ [])

-- a number that is the length of a list is not in it
absent : (n : ℕ) → n < n → ⊥
absent n h = omega arith

-- a step with two equal numbers, and steps with an absent number
abbrev Numbers : Type 0
Numbers =
    (Contracts start (itself ∷ []) × Contracts start (no_first ∷ []) × Contracts start (no_second ∷ []))
    × (Holds (itself ∷ []) ([] ∷ []) × Holds (no_first ∷ []) [] × Holds (no_second ∷ []) [])
    × (told start (steps_of (itself ∷ [])) ≡ tell 2 0 0 true ∷ [])
    × (told start (steps_of (no_first ∷ no_second ∷ [])) ≡ tell 0 2 0 false ∷ tell 0 0 2 false ∷ [])

chains : Made × Holds one (q-r ∷ []) × Holds two (q∩r ∷ q-r ∷ []) × Holds both (q-r ∷ q∩r ∷ q-r ∷ []) × (told start (steps_of both) ≡ tells) × Limits × Numbers × Overlap
unfolding ◌⊕◌ ◌⊖◌ ◌⊗◌ ⊝◌ order_of before sized record_at records_from words_of insert levels
    on_grid dx dy offset det numer crosses ratio meet heights right_of below trapezoid_of trapezoid_words
    order one_sign horizontal line_on_grid is_line below_between shape_verdict verdict first_refusal keep spans columns sweep
    common_left common_right crosses_in_common overlap_right overlap_from overlaps overlap_past sides side_crossings overlay_events fills tag_above stack parts subdivision overlay tagged
    minus minus_all difference common intersection signed mask joined sourced_difference sourced_common sourced_intersection minus_stages minus_all_stages difference_stages common_stages intersection_stages space
    combine_checked combined outcome_of called run limits held Contracts told
chains = (
  ((λ f g. refl, (λ f g. refl, (λ f g. refl, (λ f g. absurd (absent 3 g), tt)))), (λ f g. refl, (λ f g. refl, tt))),
  (refl, refl),
  (refl, refl),
  (refl, refl),
  refl,
  refl,
  (
    ((λ f g. refl, tt), (λ f g. absurd (absent 2 f), tt), (λ f g. absurd (absent 2 g), tt)),
    ((refl, refl), (refl, refl), (refl, refl)),
    refl,
    refl,
  ),
  ((λ f g. refl, tt), refl, refl),
)

-- the first step alone: no success, and no layer more
refused : (told start (no_code.step ∷ []) ≡ tell 5 0 1 false ∷ []) × (length (run start (no_code.step ∷ [])) ≡ 2)
unfolding sized words_of trapezoid_words combine_checked combined outcome_of called run told
refused = (refl, refl)

-- the second layer number of each step of both
numbered : map (λ (s : Step). s.second) (steps_of both) ≡ 1 ∷ 1 ∷ 1 ∷ 3 ∷ 1 ∷ 3 ∷ []
unfolding called held
numbered = refl

-- the evaluation for a point in Q and not in R
evaluated : evaluate (true ∷ false ∷ []) tells ≡ true ∷ false ∷ true ∷ false ∷ true ∷ []
unfolding evaluate
evaluated = refl

-- where the sets of the layers of both come from: Q−R and Q minus layer 3 have those of Q, and Q∩R those of both
originated : (A B : List Sourced) → origins_by (A ∷ B ∷ []) tells ≡ A ∷ B ∷ A ∷ (A ++ B) ∷ A ∷ []
unfolding origins_by
originated A B = refl

-- ---- the table of the point question
abbrev lying : Bool → Bool → Membership
lying a b = record { first = a; second = b }

-- in neither, in A only, in B only, in both; "five codes by four memberships", "twenty entries"
columns_in_order : (map membership_at (0 ∷ 1 ∷ 2 ∷ 3 ∷ []) ≡ lying false false ∷ lying true false ∷ lying false true ∷ lying true true ∷ []) × (length codes * length memberships ≡ 20)
columns_in_order = (refl, refl)
