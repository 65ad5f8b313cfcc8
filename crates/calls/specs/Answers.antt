-- What the calls answer, in the paper's numbers. The answer that most of them share is `Answer` of crates/files/specs/Outcomes.antt.
use Rattle.std.specs.Prelude.{Bool, true, false, ℕ, ◌<◌, ◌≤◌, eqb}
use Rattle.geometry.specs.Fitness.{SmallRefusal}
use Rattle.files.specs.Outcomes.{Answer, refused, done}
use Rattle.calls.specs.declared.Fractured.{Fractured}
use Rattle.calls.specs.declared.Fractured.TheVariants as fractured
use Rattle.calls.specs.declared.Combined.{Combined}
use Rattle.calls.specs.declared.Combined.TheVariants as combined
use Rattle.calls.specs.declared.Deoverlapped.{Deoverlapped}
use Rattle.calls.specs.declared.Deoverlapped.TheVariants as deoverlapped
use Rattle.calls.specs.declared.Equality.{Equality}
use Rattle.calls.specs.declared.Equality.TheVariants as equality
use Rattle.calls.specs.declared.Containment.{Containment}
use Rattle.calls.specs.declared.Containment.TheVariants as containment

-- "Answers same, or differs with side 0 (A−B) or 1."
pub data EqualityAnswer : Type 0 where
  refused_equality : (number place : ℕ) → EqualityAnswer
  same : (overlays : ℕ) → EqualityAnswer
  differs : (operand overlays : ℕ) → EqualityAnswer

-- "yes if the point lies in the result"
pub data PointAnswer : Type 0 where
  refused_point : (number place : ℕ) → PointAnswer
  yes : PointAnswer
  no : PointAnswer

-- ---- each enum read as the paper's answer
abbrev pub fractured_answer : Fractured → Answer
fractured_answer (fractured.Refused number place) = refused number place
fractured_answer (fractured.Done pieces overlays) = done pieces overlays

abbrev pub combined_answer : Combined → Answer
combined_answer (combined.Refused number place) = refused number place
combined_answer (combined.Done pieces overlays) = done pieces overlays

abbrev pub deoverlapped_answer : Deoverlapped → Answer
deoverlapped_answer (deoverlapped.Refused number place) = refused number place
deoverlapped_answer (deoverlapped.Done pieces overlays) = done pieces overlays

abbrev pub equality_answer : Equality → EqualityAnswer
equality_answer (equality.Refused number place) = refused_equality number place
equality_answer (equality.Same overlays) = same overlays
equality_answer (equality.Differs operand overlays) = differs operand overlays

abbrev pub point_answer : Containment → PointAnswer
point_answer (containment.Refused number place) = refused_point number place
point_answer containment.Yes = yes
point_answer containment.No = no

-- ---- what an answer says
abbrev pub is_refused : EqualityAnswer → Bool
is_refused (refused_equality number place) = true
is_refused (same overlays) = false
is_refused (differs operand overlays) = false

abbrev pub is_same : EqualityAnswer → Bool
is_same (refused_equality number place) = false
is_same (same overlays) = true
is_same (differs operand overlays) = false

-- it differs with this operand
abbrev pub is_operand : ℕ → EqualityAnswer → Bool
is_operand n (refused_equality number place) = false
is_operand n (same overlays) = false
is_operand n (differs operand overlays) = eqb operand n

abbrev pub is_answered : PointAnswer → Bool
is_answered (refused_point number place) = false
is_answered yes = true
is_answered no = true

abbrev pub is_yes : PointAnswer → Bool
is_yes (refused_point number place) = false
is_yes yes = true
is_yes no = false

-- ---- the sizes of the numbers in an answer
abbrev pub SmallEqualityAnswer : EqualityAnswer → Type 0
SmallEqualityAnswer (refused_equality number place) = SmallRefusal number place
SmallEqualityAnswer (same overlays) = overlays < 4294967296
SmallEqualityAnswer (differs operand overlays) = (operand ≤ 1) × (overlays < 4294967296)

abbrev pub SmallPointAnswer : PointAnswer → Type 0
SmallPointAnswer (refused_point number place) = SmallRefusal number place
SmallPointAnswer yes = Unit {0}
SmallPointAnswer no = Unit {0}
