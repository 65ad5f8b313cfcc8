-- The auditor's question: are the trapezoids on file the polygons that were sent, to the last point, after all the unions and differences?
use Rattle.std.specs.Prelude.{◌≡◌, List, [], map, ℕ, ◌<◌, ◌≤◌, T, length, get_or}
use Rattle.lists.specs.Lists.{All, Any, At}
use Rattle.geometry.specs.declared.Trapezoid.{Trapezoid}
use Rattle.geometry.specs.Points.{Point, IsPoint}
use Rattle.geometry.specs.Trapezoids.{lies_in, LiesInLayer, Disjoint}
use Rattle.sources.specs.Sets.{has, empty}
use Rattle.sources.specs.Sourced.{Sourced, sourced_of, shapes, bearing}
use Rattle.boolean.specs.Statements.{IsYes}
use Rattle.files.specs.Contents.{layers_of, sourced_layers_of}
use Rattle.files.specs.Statements.{WordsHold}
use Rattle.chains.specs.Chains.{layer_at, Call, held, Contracts, entry_at, evaluation}
use Rattle.archive.specs.Calls.{WriteCall, WriteAccepted, bytes_by, ReadCall, ReadRight, ReadAccepted, words_by}
use Rattle.archive.specs.Archive.{Source, layer_from, Accepted, DisjointSource, Sent, sent, set_of, chosen, archive_words}

-- what is read from the file, of a chain from these sources and of the numbers of the layers that were put into it
pub record OnFile (sources : List Source) (calls : List Call) (numbers : List ℕ) (r : ReadCall) : Type 0 where
  -- the reader accepts the file
  pub read : ReadAccepted r
  -- its layers are those that the chain holds under these numbers, in this order, trapezoid for trapezoid
  pub layers : layers_of (words_by r) ≡ map shapes (chosen (held (map layer_from sources) calls) numbers)
  -- paper 02 (vii): "A written book then reads back as the same layers with every set empty."
  pub sets : sourced_layers_of (words_by r) ≡ map (bearing empty) (map shapes (chosen (held (map layer_from sources) calls) numbers))
  -- a rational point lies in one exactly if the evaluation says so, fed for each starting layer whether the point was sent
  pub points : (P : Point) → IsPoint P → (i : ℕ) → i < length numbers
      → IsYes (entry_at (evaluation (map (sent P) sources) (map layer_from sources) calls) (get_or numbers i 0)) (LiesInLayer P (get_or (layers_of (words_by r)) i []))
  -- and no rational point lies in two trapezoids of one that is a result of the chain, or a starting layer that is disjoint
  pub disjoint : (i : ℕ) → i < length numbers → (get_or numbers i 0 < length sources → At DisjointSource sources (get_or numbers i 0)) → Disjoint (get_or (layers_of (words_by r)) i [])

-- From accepted sources, disjoint or not, by any calls of the set operations, refused ones included, to a file that the writer wrote of any of the layers held, read back by any
-- call with no smaller limit whose output has room (proofs/Archive.antt: `archive_exact`)
abbrev pub ArchiveExact : Type 0
ArchiveExact =
    (sources : List Source) → All Accepted sources
    → (calls : List Call) → Contracts (map layer_from sources) calls
    → (numbers : List ℕ) (w : WriteCall) → WordsHold w.limit → w.words ≡ archive_words (held (map layer_from sources) calls) numbers → WriteAccepted w
    → (r : ReadCall) → w.limit ≤ r.limit → r.file ≡ bytes_by w → ReadRight r → length w.words ≤ length r.out
    → OnFile sources calls numbers r

-- ---- paper 02 (vii): "operators want to see where a piece came from"
-- layer k is in the source's set, and every rational point of t was sent there
abbrev pub CameFrom : ℕ → Trapezoid → Source → Type 0
CameFrom k t s = T (has k (set_of s)) × ((P : Point) → IsPoint P → T (lies_in P t) → Sent P s)

-- From accepted sources by any calls of the set operations: where layer k is in the set of a trapezoid that the chain holds, the trapezoid came from a source with that layer number.
-- The converse is not claimed: a union drops the sets of B where A lies. (proofs/Sets.antt: `sets_sent`)
abbrev pub SetsSent : Type 0
SetsSent =
    (sources : List Source) → All Accepted sources
    → (calls : List Call) → Contracts (map layer_from sources) calls
    → (n : ℕ) → All (λ (r : Sourced). (k : ℕ) → T (has k r.sources) → Any (CameFrom k r.shape) sources) (sourced_of (layer_at (held (map layer_from sources) calls) n))
