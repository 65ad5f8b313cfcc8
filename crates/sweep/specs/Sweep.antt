-- The sweep: events go left to right, equal ones as the first of them, and between each two neighbouring events lies a column, which gets
-- the segments that span it. A is what is swept, K the events, and `yields` says what a column yields.
use Rattle.std.specs.Prelude.{◌≡◌, Bool, not, List, [], ◌∷◌, ◌++◌, ◌⊎◌, ℕ, T}
use Rattle.lists.specs.Lists.{All, Any, Pairs}
use Rattle.lists.specs.Tests.{count_if}
use Rattle.integer.specs.Fraction.{Fraction, Proper, before}
use Rattle.levels.specs.Levels.{levels}
use Rattle.geometry.specs.Lines.{IsLine}
use Rattle.geometry.specs.Positions.{meet}
use Rattle.sweep.specs.Segments.{Segment, spans, cross_inside, spanning}
use Rattle.sweep.specs.Columns.{Clear}

abbrev pub earlier : {K : Type 0} → (K → Fraction) → K → K → Bool
earlier position s t = before (position s) (position t)

module _ {A K X : Type 0} (segment : A → Segment) (position : K → Fraction) (yields : K → K → List A → List X) where
  -- the columns between neighbours of a list of events
  unfoldable pub columns : List A → List K → List X
  columns es [] = []
  columns es (p ∷ []) = []
  columns es (p ∷ q ∷ qs) = yields p q (spanning segment (position p) es) ++ columns es (q ∷ qs)

  unfoldable pub sweep : List A → List K → List X
  sweep es ks = columns es (levels (earlier position) ks)

module _ {A K : Type 0} (segment : A → Segment) (position : K → Fraction) (es : List A) (ks : List K) where
  -- x is the position of an event
  abbrev pub IsEvent : Fraction → Type 0
  IsEvent x = Any (λ (k : K). x ≡ position k) ks

  -- the events are enough: both ends of each segment, and where two segments cross strictly inside both
  pub record Complete : Type 0 where
    pub proper : All (λ (k : K). Proper (position k)) ks
    pub lines : All (λ (e : A). IsLine (segment e).line) es
    pub from : All (λ (e : A). IsEvent (segment e).from) es
    pub to : All (λ (e : A). IsEvent (segment e).to) es
    pub meets : Pairs (λ (d e : A). T (cross_inside (segment d) (segment e)) → IsEvent (meet (segment d).line (segment e).line)) es

  -- what is known of the column from the event p to the event q: the segments that span p span each position of it, and do not cross strictly inside
  pub record Column (p q : K) : Type 0 where
    pub first : Any (λ (k : K). p ≡ k) ks
    pub last : Any (λ (k : K). q ≡ k) ks
    pub wide : T (before (position p) (position q))
    pub clear : Clear (λ (e : A). (segment e).line) (position p) (position q) (spanning segment (position p) es)
    pub same : (x : Fraction) → Proper x → T (not (before x (position p))) → T (before x (position q)) → All (λ (e : A). spans (position p) (segment e) ≡ spans x (segment e)) es

  -- ---- the statements (proofs/Sweep.antt: `sweep_all`, `sweep_count`)
  module _ {X : Type 0} (yields : K → K → List A → List X) where
    -- what holds of all that each column yields holds of all that the sweep yields
    abbrev pub SweepAll : (X → Type 0) → Type 0
    SweepAll R = Complete → ((p q : K) → Column p q → All R (yields p q (spanning segment (position p) es))) → All R (sweep segment position yields es ks)

    -- of what the sweep yields n pass the test f, if n of the column that x is in do, none of any other column, and n is 0 where nothing spans x
    abbrev pub SweepCount : Fraction → (X → Bool) → ℕ → Type 0
    SweepCount x f n =
        Complete → Proper x
        → ((p q : K) (ds : List A) → T (before x (position p)) ⊎ T (not (before x (position q))) → count_if f (yields p q ds) ≡ 0)
        → (All (λ (e : A). T (not (spans x (segment e)))) es → n ≡ 0)
        → ((p q : K) → Column p q → T (not (before x (position p))) → T (before x (position q)) → count_if f (yields p q (spanning segment (position p) es)) ≡ n)
        → count_if f (sweep segment position yields es ks) ≡ n
