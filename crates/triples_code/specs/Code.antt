-- The triples that marks tell, and what the functions write.
use Rattle.std.specs.Prelude.{◌≡◌, cond, List, [], ◌++◌, ℕ, ◌+◌, ◌*◌, ◌<◌, ◌≤◌, eqb, length, get_or, replicate, Option, Some, None}
use Rattle.lists.specs.Lists.{each}
use Rattle.records.specs.Records.{records_from, image}
use Rattle.connectivity.specs.Components.{own_numbers}
use Rattle.extraction.specs.Extraction.{Triple, triple_if, triple_codec}

-- ---- `ds` has for each base the collector that encloses it, `es` for each emitter the base
-- the triples with this collector and base, with this collector, and with each of 0 to n − 1
unfoldable pub emitter_triples : List ℕ → ℕ → ℕ → List Triple
emitter_triples es c b = each (λ e. triple_if (eqb (get_or es e 0) b) c b e) (own_numbers (length es))

unfoldable pub base_triples : List ℕ → List ℕ → ℕ → List Triple
base_triples ds es c = each (λ b. cond (eqb (get_or ds b 0) c) (emitter_triples es c b) []) (own_numbers (length ds))

unfoldable pub marked_triples : ℕ → List ℕ → List ℕ → List Triple
marked_triples n ds es = each (λ c. base_triples ds es c) (own_numbers n)

-- ---- the list
-- its first n triples
abbrev pub leading_triples : List ℕ → ℕ → List Triple
leading_triples d n = records_from triple_codec n d 0

-- it holds n, and is blank past them
pub record HoldsTriples (d : List ℕ) (n : ℕ) : Type 0 where
  pub is : d ≡ image triple_codec (length d) (leading_triples d n)
  pub wide : 3 * n ≤ length d

-- ts added behind the n that it held; where there is no room for all, what it holds is not said
abbrev pub TriplesAdded : List ℕ → ℕ → List Triple → Option ℕ → List ℕ → Type 0
TriplesAdded d₀ n ts None d = length d₀ < 3 * (n + length ts)
TriplesAdded d₀ n ts (Some m) d = (m ≡ n + length ts) × (3 * m ≤ length d₀) × (d ≡ image triple_codec (length d₀) (leading_triples d₀ n ++ ts))

-- a list of so many words has ts and is blank past them; or they do not fit, and it is blank
abbrev pub TriplesFilled : ℕ → List Triple → Option ℕ → List ℕ → Type 0
TriplesFilled n ts None d = (n < 3 * length ts) × (d ≡ replicate n 0)
TriplesFilled n ts (Some m) d = (m ≡ length ts) × (3 * m ≤ n) × (d ≡ image triple_codec n ts)
