-- An output or a scratch area of 512 records, all zero.
use mathlib.Core.Path.{◌≡◌}
use lib.IntN.{pos}
use lib.ListN.{length, length-replicate}
use Rattle.records.specs.Limits.{max_words}
use Rattle.listing.specs.Lister.{blank}

pub blank-length : length blank ≡ max_words
blank-length = length-replicate max_words (pos 0)
