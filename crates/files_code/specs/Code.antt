-- A polygon of a file, and what a function is told of the file that it loads it from.
use Rattle.std.specs.Prelude.{List, ℕ, ◌+◌, ◌*◌, ◌≤◌, ℤ, length}
use Rattle.records.specs.Records.{records_from}
use Rattle.geometry.specs.Polygons.{Polygon}
use Rattle.files.specs.declared.Edition.{Edition}
use Rattle.files.specs.Formats.{file_words, polygon_file}
use Rattle.files.specs.Pairs.{body_of, offset_at, length_at}
use Rattle.files.specs.Contents.{vertex_codec}
use Rattle.directory_code.specs.Code.{Paired}

-- polygon number i of the words of a polygon file of an edition
abbrev pub polygon_at : Edition → List ℤ → ℕ → Polygon
polygon_at edition ws i = records_from vertex_codec (length_at (polygon_file edition) ws i) (body_of ws) (offset_at ws i)

-- a polygon file with `count` polygons, with n vertices of its body from a number on, and words that take them
abbrev pub HasVertices : List ℕ → ℕ → ℕ → ℕ → List ℤ → Type 0
HasVertices file count offset n words = Paired file count × (offset + n ≤ 2048) × (2 * (offset + n) ≤ length (body_of (file_words file))) × (2 * n ≤ length words)
