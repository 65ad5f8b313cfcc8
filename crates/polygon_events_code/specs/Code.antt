-- How the functions' structs stand for what the definitions speak of.
use Rattle.std.specs.Prelude.{◌≡◌, true, false, ℕ, ℤ, Option, Some, None}
use Rattle.integer.specs.Fraction.{Fraction}
use Rattle.geometry.specs.declared.Line.{Line}
use Rattle.geometry.specs.declared.Base.{Base}
use Rattle.geometry.specs.declared.Position.{Position}
use Rattle.sweep.specs.Segments.{Segment, cross_inside}
use Rattle.sweep.specs.declared.Event.{Event}
use Rattle.fracture.specs.declared.Span.{Span}
use Rattle.fracture.specs.Polygons.{whole}
use Rattle.fracture.specs.Fracture.{mark}
use Rattle.geometry_code.specs.Code.{fraction_of, SmallPosition, PositionOf}

-- p stands for x
pub record PlacedAt (x : Fraction) (p : Position) : Type 0 where
  pub is : fraction_of p ≡ x
  pub small : SmallPosition p

-- an event with the position of its base
abbrev pub EventOf : Event → Type 0
EventOf e = PositionOf e.base e.at

pub record MarkOf (L : ℕ) (k : ℤ) (e : Event) : Type 0 where
  pub base : e.base ≡ mark L k
  pub event : EventOf e

-- ---- lines
-- `segment` of an edge with the line l
abbrev pub line_segment : Line → Segment
line_segment l = record { line = l; from = whole l.x1; to = whole l.x2 }

pub record SpanOf (l : Line) (s : Span) : Type 0 where
  pub from : PlacedAt (whole l.x1) s.from
  pub to : PlacedAt (whole l.x2) s.to

abbrev pub base_of : Line → Line → Base
base_of l m = record { first = l; second = m }

-- where two lines cross strictly inside both spans, or that they do not
abbrev pub CrossingInside : Line → Line → Option Position → Type 0
CrossingInside l m None = cross_inside (line_segment l) (line_segment m) ≡ false
CrossingInside l m (Some p) = (cross_inside (line_segment l) (line_segment m) ≡ true) × PositionOf (base_of l m) p
