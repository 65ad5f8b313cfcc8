-- What folds answer and write, by the definitions.
use Rattle.std.specs.Prelude.{◌≡◌, Bool, true, cond, List, [], ◌∷◌, ℕ, suc, ◌+◌, ◌*◌, ◌-◌, ◌<◌, ◌≤◌, length, take, drop, replicate, ℤ, pos, Option, Some, None, Result, Ok, Err}
use Rattle.lists.specs.Lists.{All}
use Rattle.records.specs.Limits.{memory_width, max_records}
use Rattle.records.specs.Records.{Codec, record_at, records_from, image, count, Blank}
use Rattle.geometry.specs.declared.Trapezoid.{Trapezoid}
use Rattle.geometry.specs.declared.Placed.{Placed}
use Rattle.geometry.specs.Limit.{coordinate_limit}
use Rattle.geometry.specs.Fitness.{FitFor}
use Rattle.geometry.specs.Trapezoids.{trapezoid_codec, layer_of}
use Rattle.boolean.specs.Operations.{minus, minus_all}
use Rattle.boolean.specs.declared.Folded.{Folded}
use Rattle.boolean.specs.Space.{Stage, enough, no_room, space, minus_stages, minus_all_stages, one_stages}
use Rattle.boolean.specs.declared.NoRoom.{NoRoom}
use Rattle.boolean.specs.Folds.{folded, no_room_after}
use Rattle.boxes.specs.declared.Found.{Found}
use Rattle.trapezoids_code.specs.Placed.{PlacedAs}
use Rattle.trapezoids_code.specs.Tails.{FilledBy}

-- of a tail of n words, for a fold with the result rs, kept as C keeps it, and the stages ms: there was no room after so many overlays, and the tail is
-- blank; or the tail holds rs and is blank past them
abbrev pub FoldedBy : {R : Type 0} → Codec ℤ R → ℕ → ℕ → List R → List Stage → Result Folded NoRoom → List ℤ → Type 0
FoldedBy C n room rs ms (Err r) d = (space room ms ≡ no_room r.overlays) × (d ≡ replicate n (pos 0))
FoldedBy C n room rs ms (Ok f) d = (space room ms ≡ enough f.overlays) × FilledBy C n room rs (Some f.trapezoids) d

-- of trapezoids, with empty sets
abbrev pub FoldedAs : ℕ → ℕ → List Trapezoid → List Stage → Result Folded NoRoom → List ℤ → Type 0
FoldedAs n room ts ms r d = FoldedBy trapezoid_codec n room ts ms r d

-- the trapezoids rs minus b, the trapezoids rs minus all of bs, and one trapezoid a minus all of bs and added, written into a tail that was d₀
abbrev pub MinusWritten : List ℤ → ℕ → List Trapezoid → Trapezoid → Result Folded NoRoom → List ℤ → Type 0
MinusWritten d₀ room rs b r d = FoldedAs (length d₀) room (minus rs b) (minus_stages 0 rs b) r d

abbrev pub MinusAllWritten : List ℤ → ℕ → List Trapezoid → List Trapezoid → Result Folded NoRoom → List ℤ → Type 0
MinusAllWritten d₀ room rs bs r d = FoldedAs (length d₀) room (minus_all rs bs) (minus_all_stages 0 rs bs) r d

abbrev pub OneWritten : List ℤ → ℕ → Trapezoid → List Trapezoid → Result Folded NoRoom → List ℤ → Type 0
OneWritten d₀ room a bs r d = FoldedAs (length d₀) room (minus_all (a ∷ []) bs) (one_stages 0 a bs) r d

-- a scratch area that is blank and as long as the output
abbrev pub ScratchFor : List ℤ → List ℤ → Type 0
ScratchFor out scratch = Blank (pos 0) scratch × (length scratch ≡ length out)

-- the first n trapezoids of a buffer
abbrev pub leading : List ℤ → ℕ → List Trapezoid
leading d n = records_from trapezoid_codec n d 0

-- a buffer that takes `room` trapezoids holds n of them, which are fit, and is blank past them
pub record Remaining (d : List ℤ) (n room : ℕ) : Type 0 where
  pub is : d ≡ image trapezoid_codec (length d) (leading d n)
  pub fit : All (FitFor coordinate_limit) (leading d n)
  pub within : n ≤ room
  pub wide : memory_width * room ≤ length d

-- the words of a buffer's first k records, and those past them
abbrev pub front : List ℤ → ℕ → List ℤ
front d k = take (memory_width * k) d

abbrev pub rest : List ℤ → ℕ → List ℤ
rest d k = drop (memory_width * k) d

-- the trapezoids of a layer's words from number i on
abbrev pub from : List ℤ → ℕ → List Trapezoid
from s i = records_from trapezoid_codec (count trapezoid_codec s - i) s i

-- how many trapezoids come before the first that passes a test
abbrev pub before_first : (Trapezoid → Bool) → List Trapezoid → ℕ
before_first test [] = 0
before_first test (t ∷ ts) = cond (test t) 0 (suc (before_first test ts))

-- the first trapezoid of a layer that passes a test
pub record FirstFound (test : Trapezoid → Bool) (layer : List ℤ) (f : Found) : Type 0 where
  pub before : f.before ≡ before_first test (layer_of layer)
  pub within : f.before < count trapezoid_codec layer
  pub placed : PlacedAs (record_at trapezoid_codec layer f.before) f.placed
  pub passes : test f.placed.shape ≡ true

-- that, if some passes; if none does, all of the layer comes before the first
abbrev pub FoundAs : (Trapezoid → Bool) → List ℤ → Option Found → Type 0
FoundAs test layer None = count trapezoid_codec layer ≡ before_first test (layer_of layer)
FoundAs test layer (Some f) = FirstFound test layer f

-- the first of n trapezoids, which passes a test
pub record FirstPlaced (test : Trapezoid → Bool) (d : List ℤ) (n : ℕ) (first : Placed) : Type 0 where
  pub some : 0 < n
  pub placed : PlacedAs (record_at trapezoid_codec d 0) first
  pub passes : test first.shape ≡ true

-- ---- the number of overlays
-- the most that are made for one trapezoid, for a layer of them, and for an operation
abbrev pub overlays_of_one : ℕ
overlays_of_one = max_records * max_records + 1

abbrev pub overlays_of_layer : ℕ
overlays_of_layer = max_records * overlays_of_one

abbrev pub max_overlays : ℕ
max_overlays = 2 * overlays_of_layer

-- one overlay, as a fold
abbrev pub once : Option ℕ → Result Folded NoRoom
once None = no_room_after 1
once (Some n) = folded n 1

-- an answer with n more
abbrev pub with_overlays : ℕ → Result Folded NoRoom → Result Folded NoRoom
with_overlays n (Err r) = no_room_after (n + r.overlays)
with_overlays n (Ok f) = folded f.trapezoids (n + f.overlays)

abbrev pub OverlaysWithin : ℕ → Result Folded NoRoom → Type 0
OverlaysWithin m (Err r) = r.overlays ≤ m
OverlaysWithin m (Ok f) = f.overlays ≤ m
