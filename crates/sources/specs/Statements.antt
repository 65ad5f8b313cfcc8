-- What is proved of sets and of trapezoids with their sets. Each statement is proved under its name in lower case, in proofs/Sets.antt and proofs/Sourced.antt.
use Rattle.std.specs.Prelude.{◌≡◌, ◌||◌, false, List, ℕ, ◌<◌, eqb, ℤ}
use Rattle.records.specs.Records.{Faithful, words_of}
use Rattle.records.specs.Words.{Word, signed}
use Rattle.geometry.specs.declared.Trapezoid.{Trapezoid}
use Rattle.geometry.specs.Trapezoids.{trapezoid_codec, layer_of}
use Rattle.sources.specs.Sets.{source_layers, mask, has, empty, single, joined}
use Rattle.sources.specs.Sourced.{Sourced, sourced_codec, sourced_of, shapes, bearing}

-- ---- sets
-- a word's mask is below 2³², and word and mask go there and back
abbrev pub MaskRange : Type 0
MaskRange = (z : ℤ) → mask z < 4294967296

abbrev pub MaskWord : Type 0
MaskWord = (z : ℤ) → Word z → signed (mask z) ≡ z

abbrev pub WordMask : Type 0
WordMask = (m : ℕ) → m < 4294967296 → mask (signed m) ≡ m

-- which layers are in a joined set, in a set of one, and in the empty set
abbrev pub HasJoined : Type 0
HasJoined = (k : ℕ) (y z : ℤ) → has k (joined y z) ≡ has k y || has k z

abbrev pub HasSingle : Type 0
HasSingle = (j k : ℕ) → k < source_layers → has j (single k) ≡ eqb j k

abbrev pub HasNone : Type 0
HasNone = (k : ℕ) → has k empty ≡ false

-- two words with the same layers are the same
abbrev pub SameSet : Type 0
SameSet = (y z : ℤ) → Word y → Word z → ((k : ℕ) → k < source_layers → has k y ≡ has k z) → y ≡ z

-- ---- trapezoids with their sets
-- every one goes to 25 words and back, and every 25 words to one and back
abbrev pub SourcedFaithful : Type 0
SourcedFaithful = Faithful sourced_codec (λ (r : Sourced). Unit {0}) (λ (w : ℤ). Unit {0})

-- without their sets, those of a layer's words are its trapezoids
abbrev pub ShapesOf : Type 0
ShapesOf = (s : List ℤ) → shapes (sourced_of s) ≡ layer_of s

-- the words of trapezoids with empty sets are those of the trapezoids alone
abbrev pub EmptyWords : Type 0
EmptyWords = (ts : List Trapezoid) → words_of sourced_codec (bearing empty ts) ≡ words_of trapezoid_codec ts
