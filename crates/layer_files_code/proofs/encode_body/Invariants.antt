-- Before turn i: the bytes of the first i trapezoids stand in `out`, and the rest are as it was.
use Rattle.geometry.specs.Trapezoids.{layer_of}
use Rattle.layer_files_code.proofs.Laying.{Stored, bytes_codec}
use Rattle.layer_files_code.proofs.encode_body.Given as goal

abbrev pub invariant-loop-i : goal.invariant-loop-i
invariant-loop-i l = Stored bytes_codec (layer_of l.body) l.initial.out l.out l.i
