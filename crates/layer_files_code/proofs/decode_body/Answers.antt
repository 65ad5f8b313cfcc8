use mathlib.Core.Path.{◌≡◌, sym, ◌∙◌, ap}
use mathlib.Core.List.{◌++◌}
use Prim.Native.Nat.{ℕ, ◌+◌, ◌*◌, ◌/◌, ◌<◌, ◌≤◌}
use native.Mathlib.Nat.{zero-add}
use native.Mathlib.Omega.{arith}
use lib.ListN.{length, drop}
use Rattle.records.specs.Limits.{file_width, memory_width}
use Rattle.records.specs.Records.{record_at, records, count, words_of}
use Rattle.records.proofs.Records.{length_from}
use Rattle.geometry.specs.Trapezoids.{trapezoid_codec}
use Rattle.geometry.proofs.Trapezoids.{trapezoid_readable}
use Rattle.files.specs.Formats.{file_words}
use Rattle.files.specs.Contents.{file_codec}
use Rattle.files.proofs.Reading.{at_from, length_file}
use Rattle.layer_files_code.proofs.Laying.{store_start, store_turn, store_stop, part_record}
use Rattle.layer_files_code.proofs.decode_body.Goals as goal

pub loop-i-init : goal.loop-i-init
loop-i-init c =
    let many : length (records file_codec (file_words c.args.body.now)) ≡ length c.args.body.now / 4 / file_width = let ws = file_words c.args.body.now in
    length_from file_codec (count file_codec ws) ws 0 ∙ ap (λ (k : ℕ). k / file_width) (length_file c.args.body.now) in
    let s = c.args in
    store_start trapezoid_codec trapezoid_readable (records file_codec (file_words s.body.now)) s.out.now (omega (arith, many, c.requires))

pub loop-i-preserved : goal.loop-i-preserved
loop-i-preserved c =
    let many : length (records file_codec (file_words c.args.body.now)) ≡ length c.args.body.now / 4 / file_width = let ws = file_words c.args.body.now in
    length_from file_codec (count file_codec ws) ws 0 ∙ ap (λ (k : ℕ). k / file_width) (length_file c.args.body.now) in
    let room : memory_width * c.loop-i.i + memory_width ≤ length c.loop-i.out = omega (arith, c.loop-i.invariant.long, c.requires, c.loop-i-test.true) in
    let ws = file_words c.args.body.now in
    let i = c.loop-i.i in
    let d = c.loop-i.out in
    let t = c.load_file_trapezoid-t.result in
    let l : i < count file_codec ws = omega (arith, length_file c.args.body.now, c.size-i-end.ensures.value, c.loop-i-test.true) in
    let p = at_from file_codec (count file_codec ws) ws 0 i (record_at file_codec ws 0) l ∙ ap (record_at file_codec ws) (zero-add i) in
    store_turn trapezoid_codec trapezoid_readable c.loop-i.invariant (omega (arith, many, c.loop-i-test.true)) (record_at file_codec ws 0)
    (c.load_file_trapezoid-t.ensures ∙ sym p)
    (part_record trapezoid_codec d i t c.store.new.s (omega (arith, room)) c.store.ensures)

pub returns : goal.returns
returns c =
    let many : length (records file_codec (file_words c.args.body.now)) ≡ length c.args.body.now / 4 / file_width = let ws = file_words c.args.body.now in
    length_from file_codec (count file_codec ws) ws 0 ∙ ap (λ (k : ℕ). k / file_width) (length_file c.args.body.now) in
    let s = c.args in
    let m = many in
    store_stop trapezoid_codec trapezoid_readable c.loop-i.invariant (omega (arith, m, c.loop-i-test.false))
    ∙ ap (λ (k : ℕ). words_of trapezoid_codec (records file_codec (file_words s.body.now)) ++ drop (memory_width * k) s.out.now) m
