-- Different answers are never packed into one number: C can tell each from every other. The sizes of the numbers in an answer are those that the
-- functions' contracts promise. Each statement is proved in proofs/PackedApart.antt under its name in lower case.
use Rattle.std.specs.Prelude.{◌≡◌}
use Rattle.files.specs.Outcomes.{Answer, SmallAnswer}
use Rattle.calls.specs.Components as connected
use Rattle.calls.specs.Answers.{EqualityAnswer, SmallEqualityAnswer, PointAnswer, SmallPointAnswer}
use Rattle.calls.specs.Packed.{packed, packed_equality, packed_point, packed_count}

abbrev pub PackedApart : Type 0
PackedApart = (a b : Answer) → SmallAnswer a → SmallAnswer b → packed a ≡ packed b → a ≡ b

abbrev pub PackedEqualityApart : Type 0
PackedEqualityApart = (a b : EqualityAnswer) → SmallEqualityAnswer a → SmallEqualityAnswer b → packed_equality a ≡ packed_equality b → a ≡ b

abbrev pub PackedPointApart : Type 0
PackedPointApart = (a b : PointAnswer) → SmallPointAnswer a → SmallPointAnswer b → packed_point a ≡ packed_point b → a ≡ b

abbrev pub PackedCountApart : Type 0
PackedCountApart = (a b : connected.ComponentsAnswer) → connected.SmallComponentsAnswer a → connected.SmallComponentsAnswer b → packed_count a ≡ packed_count b → a ≡ b
