-- Each answer as one 64-bit number.
use Rattle.std.specs.Prelude.{ℕ, ◌+◌, ◌*◌, ◌^◌}
use Rattle.files.specs.Outcomes.{Answer, refused, done}
use Rattle.calls.specs.Components as connected
use Rattle.calls.specs.Answers.{EqualityAnswer, refused_equality, same, differs, PointAnswer, refused_point, yes, no}

-- bit 63, the number in bits 32 to 39, the place in bits 0 to 31
abbrev pub refusal : ℕ → ℕ → ℕ
refusal number place = 2 ^ 63 + 2 ^ 32 * number + place

-- the trapezoids in bits 32 to 62, the overlays in bits 0 to 31
abbrev pub success : ℕ → ℕ → ℕ
success pieces overlays = 2 ^ 32 * pieces + overlays

abbrev pub packed : Answer → ℕ
packed (refused number place) = refusal number place
packed (done pieces overlays) = success pieces overlays

-- in the place of the trapezoids: 0 same, 1 differs with operand 0, 2 with operand 1
abbrev pub packed_equality : EqualityAnswer → ℕ
packed_equality (refused_equality number place) = refusal number place
packed_equality (same overlays) = success 0 overlays
packed_equality (differs operand overlays) = success (operand + 1) overlays

-- 1 yes, 0 no, and no overlays
abbrev pub packed_point : PointAnswer → ℕ
packed_point (refused_point number place) = refusal number place
packed_point yes = success 1 0
packed_point no = success 0 0

-- the number of components, and no overlays
abbrev pub packed_count : connected.ComponentsAnswer → ℕ
packed_count (connected.refused_components number place) = refusal number place
packed_count (connected.counted components) = success components 0
