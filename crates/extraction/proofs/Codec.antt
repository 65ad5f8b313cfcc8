-- A triple as a record of three words: it is read back.
use mathlib.Core.Path.{refl}
use native.Mathlib.Omega.{arith}
use Rattle.records.specs.Records.{Readable}
use Rattle.extraction.specs.Extraction.{Triple, triple_of, triple_codec}

-- every triple
pub triples_readable : Readable triple_codec (λ (t : Triple). Unit {0})
unfolding triple_of
triples_readable = record { some = omega arith; encode_length = λ t. refl; decode_encode = λ t g. refl }
