-- Before turn i: the first i trapezoids stand in `out`, and the rest are as it was.
use Rattle.records.specs.Records.{records}
use Rattle.geometry.specs.Trapezoids.{trapezoid_codec}
use Rattle.files.specs.Formats.{file_words}
use Rattle.files.specs.Contents.{file_codec}
use Rattle.layer_files_code.proofs.Laying.{Stored}
use Rattle.layer_files_code.proofs.decode_body.Given as goal

abbrev pub invariant-loop-i : goal.invariant-loop-i
invariant-loop-i l = Stored trapezoid_codec (records file_codec (file_words l.body)) l.initial.out l.out l.i
