-- What a function writes.
use Rattle.std.specs.Prelude.{List, ℕ, zero, suc, ◌+◌, ◌*◌, ℤ, set}
use Rattle.records.specs.Limits.{memory_width, file_width}

-- the words d with z as the set of each of the first n records
unfoldable pub with_sources : ℤ → ℕ → List ℤ → List ℤ
with_sources z zero d = d
with_sources z (suc n) d = set (with_sources z n d) (memory_width * n + file_width) z
