use mathlib.Core.Path.{refl, sym}
use native.Mathlib.Omega.{arith}
use Rattle.layer_files_code.proofs.Whole.{word_sizes, head_long, encode_room, encoded}
use Rattle.layer_files_code.proofs.encode.Goals as goal

pub body_start-start-requires : goal.body_start-start-requires
body_start-start-requires c = let z = word_sizes c.args.words.now c.requires.0 refl in (omega (arith, z.words), omega (arith, z.few))

pub overflow_mul-start : goal.overflow_mul-start
overflow_mul-start c = record { fits = omega (arith, (word_sizes c.args.words.now c.requires.0 c.body_start-start.ensures).few) }

pub offset_bounds-words-start : goal.offset_bounds-words-start
offset_bounds-words-start c = record { fits = omega (arith, (word_sizes c.args.words.now c.requires.0 c.body_start-start.ensures).few) }

pub slice_bounds-encode_words-end : goal.slice_bounds-encode_words-end
slice_bounds-encode_words-end c = sym (head_long c.args.words.now c.requires.0 c.body_start-start.ensures)

pub encode_words-requires : goal.encode_words-requires
encode_words-requires c =
    let e = c.body_start-start.ensures in
    omega (arith, head_long c.args.words.now c.requires.0 e, (word_sizes c.args.words.now c.requires.0 e).written, c.requires.1)

pub slice_bounds-encode_body-count : goal.slice_bounds-encode_body-count
slice_bounds-encode_body-count c = omega (arith, (word_sizes c.args.words.now c.requires.0 c.body_start-start.ensures).words)

pub slice_bounds-encode_body-start : goal.slice_bounds-encode_body-start
slice_bounds-encode_body-start c = omega (arith, (word_sizes c.args.words.now c.requires.0 c.body_start-start.ensures).words)

pub slice_bounds-encode_body-count-2 : goal.slice_bounds-encode_body-count-2
slice_bounds-encode_body-count-2 c = omega (arith, (word_sizes c.args.words.now c.requires.0 c.body_start-start.ensures).written, c.requires.1, c.encode_words.auto.out)

pub slice_bounds-encode_body-start-2 : goal.slice_bounds-encode_body-start-2
slice_bounds-encode_body-start-2 c = omega (arith, (word_sizes c.args.words.now c.requires.0 c.body_start-start.ensures).written, c.requires.1, c.encode_words.auto.out)

pub encode_body-requires : goal.encode_body-requires
encode_body-requires c = encode_room c.args.words.now c.requires.0 c.body_start-start.ensures c.args.out.now c.encode_words.new.out c.requires.1 c.encode_words.auto.out

pub returns : goal.returns
returns c =
    encoded c.args.words.now c.requires.0 c.body_start-start.ensures c.args.out.now c.encode_words.new.out c.encode_body.new.out c.requires.1 c.encode_words.ensures c.encode_body.ensures
