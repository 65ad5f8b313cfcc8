use mathlib.Core.Path.{refl, sym}
use Prim.Native.Nat.{◌≤◌}
use native.Mathlib.Omega.{arith}
use mathlib.Core.List.{◌++◌}
use lib.ListN.{length, drop}
use lib.Seq.{length-take-le}
use Rattle.files.specs.Formats.{file_words}
use Rattle.layer_files_code.proofs.Whole.{file_sizes, front_long, front_loaded, decode_room, decoded}
use Rattle.layer_files_code.proofs.decode.Goals as goal

pub body_start-start-requires : goal.body_start-start-requires
body_start-start-requires c = let z = file_sizes c.args.file.now c.requires.0 refl in (omega (arith, z.words), omega (arith, z.few))

pub slice_bounds-load_words-end : goal.slice_bounds-load_words-end
slice_bounds-load_words-end c = omega (arith, (file_sizes c.args.file.now c.requires.0 c.body_start-start.ensures).memory, c.requires.1)

pub slice_bounds-load_words-end-2 : goal.slice_bounds-load_words-end-2
slice_bounds-load_words-end-2 c =
    let k = c.body_start-start.result in
    sym (length-take-le k c.args.out.now (omega (arith, (file_sizes c.args.file.now c.requires.0 c.body_start-start.ensures).memory, c.requires.1)))

pub load_words-requires : goal.load_words-requires
load_words-requires c =
    let k = c.body_start-start.result in
    let z = file_sizes c.args.file.now c.requires.0 c.body_start-start.ensures in
    omega (arith, length-take-le k c.args.out.now (omega (arith, z.memory, c.requires.1)), z.words)

pub overflow_mul-start : goal.overflow_mul-start
overflow_mul-start c = record { fits = omega (arith, (file_sizes c.args.file.now c.requires.0 c.body_start-start.ensures).few) }

pub offset_bounds-out-start : goal.offset_bounds-out-start
offset_bounds-out-start c = record { fits = omega (arith, (file_sizes c.args.file.now c.requires.0 c.body_start-start.ensures).few) }

pub slice_bounds-decode_body-count : goal.slice_bounds-decode_body-count
slice_bounds-decode_body-count c = omega (arith, (file_sizes c.args.file.now c.requires.0 c.body_start-start.ensures).words)

pub slice_bounds-decode_body-start : goal.slice_bounds-decode_body-start
slice_bounds-decode_body-start c = omega (arith, (file_sizes c.args.file.now c.requires.0 c.body_start-start.ensures).words)

pub slice_bounds-decode_body-count-2 : goal.slice_bounds-decode_body-count-2
slice_bounds-decode_body-count-2 c =
    let bs = c.args.file.now in
    let k = c.body_start-start.result in
    let out = c.args.out.now in
    let l : k ≤ length out = omega (arith, (file_sizes bs c.requires.0 c.body_start-start.ensures).memory, c.requires.1) in
    let long = front_long (file_words bs) out c.load_words.new.out k l c.load_words.auto.out in
    omega (arith, l, long)

pub slice_bounds-decode_body-start-2 : goal.slice_bounds-decode_body-start-2
slice_bounds-decode_body-start-2 c =
    let bs = c.args.file.now in
    let k = c.body_start-start.result in
    let out = c.args.out.now in
    let l : k ≤ length out = omega (arith, (file_sizes bs c.requires.0 c.body_start-start.ensures).memory, c.requires.1) in
    let long = front_long (file_words bs) out c.load_words.new.out k l c.load_words.auto.out in
    omega (arith, l, long)

pub decode_body-requires : goal.decode_body-requires
decode_body-requires c =
    let bs = c.args.file.now in
    let k = c.body_start-start.result in
    let out = c.args.out.now in
    let l : k ≤ length out = omega (arith, (file_sizes bs c.requires.0 c.body_start-start.ensures).memory, c.requires.1) in
    let long = front_long (file_words bs) out c.load_words.new.out k l c.load_words.auto.out in
    decode_room bs c.requires.0 c.body_start-start.ensures out (c.load_words.new.out ++ drop k out) c.requires.1 long

pub returns : goal.returns
returns c =
    let bs = c.args.file.now in
    let k = c.body_start-start.result in
    let out = c.args.out.now in
    let l : k ≤ length out = omega (arith, (file_sizes bs c.requires.0 c.body_start-start.ensures).memory, c.requires.1) in
    decoded bs c.requires.0 c.body_start-start.ensures out (c.load_words.new.out ++ drop k out) c.decode_body.new.out c.requires.1 (front_loaded (file_words bs) out c.load_words.new.out k l c.load_words.ensures) c.decode_body.ensures
