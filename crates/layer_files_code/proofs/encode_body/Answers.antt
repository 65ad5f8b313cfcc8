use mathlib.Core.Path.{◌≡◌, sym, ◌∙◌, ap}
use mathlib.Core.List.{◌++◌}
use Prim.Native.Nat.{◌+◌, ◌*◌, ◌/◌, ◌≤◌}
use native.Mathlib.Nat.{zero-add}
use native.Mathlib.Omega.{arith}
use lib.ListN.{length, drop}
use Rattle.records.specs.Limits.{file_width, memory_width}
use Rattle.records.specs.Records.{record_at, count}
use Rattle.records.proofs.Records.{length_from}
use Rattle.geometry.specs.Trapezoids.{trapezoid_codec, layer_of}
use Rattle.files.proofs.Reading.{at_from}
use Rattle.layer_files_code.proofs.Laying.{store_start, store_turn, store_stop, bytes_codec, bytes_readable, bytes_words, bytes_part}
use Rattle.layer_files_code.proofs.encode_body.Goals as goal

pub loop-i-init : goal.loop-i-init
loop-i-init c =
    let many : length (layer_of c.args.body.now) ≡ length c.args.body.now / memory_width = let ws = c.args.body.now in length_from trapezoid_codec (count trapezoid_codec ws) ws 0 in
    let s = c.args in
    store_start bytes_codec bytes_readable (layer_of s.body.now) s.out.now (omega (arith, many, c.requires))

pub loop-i-preserved : goal.loop-i-preserved
loop-i-preserved c =
    let many : length (layer_of c.args.body.now) ≡ length c.args.body.now / memory_width = let ws = c.args.body.now in length_from trapezoid_codec (count trapezoid_codec ws) ws 0 in
    let whole : memory_width * c.loop-i.i + memory_width ≤ length c.args.body.now = omega (arith, c.loop-i-test.true) in
    let room : 4 * file_width * c.loop-i.i + 4 * file_width ≤ length c.loop-i.out = omega (arith, c.loop-i.invariant.long, c.requires, c.loop-i-test.true) in
    let ws = c.args.body.now in
    let i = c.loop-i.i in
    let d = c.loop-i.out in
    let l = c.loop-i-test.true in
    let p = at_from trapezoid_codec (count trapezoid_codec ws) ws 0 i (record_at trapezoid_codec ws 0) l ∙ ap (record_at trapezoid_codec ws) (zero-add i) in
    store_turn bytes_codec bytes_readable c.loop-i.invariant (omega (arith, many, l)) (record_at trapezoid_codec ws 0) (sym p)
    (bytes_part ws d i c.encode_words.new.out (whole) (omega (arith, room)) c.encode_words.ensures)

pub returns : goal.returns
returns c =
    let many : length (layer_of c.args.body.now) ≡ length c.args.body.now / memory_width = let ws = c.args.body.now in length_from trapezoid_codec (count trapezoid_codec ws) ws 0 in
    let s = c.args in
    let m : 4 * file_width * length (layer_of s.body.now) ≡ 4 * (file_width * (length s.body.now / memory_width)) = omega (arith, many) in
    store_stop bytes_codec bytes_readable c.loop-i.invariant (omega (arith, many, c.loop-i-test.false))
    ∙ (λ j. bytes_words (layer_of s.body.now) j ++ drop (m j) s.out.now)
