-- What is swept: a segment is a line over the positions from one, included, to another, excluded.
use Rattle.std.specs.Prelude.{Bool, not, ◌&&◌, List}
use Rattle.lists.specs.Tests.{keep}
use Rattle.integer.specs.Fraction.{Fraction, before}
use Rattle.geometry.specs.declared.Line.{Line}
use Rattle.geometry.specs.Positions.{crosses, meet}

pub record Segment : Type 0 where
  pub line : Line
  pub from : Fraction
  pub to : Fraction

-- x is in the range of s
unfoldable pub spans : Fraction → Segment → Bool
spans x s = not (before x s.from) && before x s.to

-- x is strictly inside it
unfoldable pub inside : Fraction → Segment → Bool
inside x s = before s.from x && before x s.to

-- s and t cross strictly inside both ranges
unfoldable pub cross_inside : Segment → Segment → Bool
cross_inside s t = crosses s.line t.line && (inside (meet s.line t.line) s && inside (meet s.line t.line) t)

-- those whose segments span x
abbrev pub spanning : {A : Type 0} → (A → Segment) → Fraction → List A → List A
spanning {A} segment x es = keep (λ (e : A). spans x (segment e)) es
