use mathlib.Core.Path.{◌≡◌, sym, ◌∙◌}
use native.Mathlib.Omega.{arith}
use Rattle.files.specs.Rows.{layer_words_checked}
use Rattle.files.specs.Formats.{layer_words}
use Rattle.files.specs.Pairs.{count_in}
use Rattle.files.specs.Directory.{HasPairs}
use Rattle.files.proofs.Calls.{words_pairs}
use Rattle.calls.specs.Rows.{plate_limit}
use Rattle.loxurfa_files.proofs.LayerFiles.{write_refused, write_no_room, write_done}
use Rattle.loxurfa_files.proofs.write_layers.Goals as goal
use Rattle.std.specs.Prelude.{Ok}

pub returns-in-Err : goal.returns-in-Err
returns-in-Err c =
    let s = c.args in
    let both = write_refused plate_limit s.words.now s.out.now (sym c.in-Err.ensures) in
    record { write_kept = both.0; small = both.1 }

pub written_length-requires : goal.written_length-requires
written_length-requires c =
    let passed : layer_words_checked plate_limit c.args.words.now ≡ (Ok tt) = sym c.in_default.ensures in
    let pairs : HasPairs layer_words c.args.words.now (count_in c.args.words.now) = words_pairs plate_limit c.args.words.now (passed) in
    pairs

pub returns-then-out-written_length : goal.returns-then-out-written_length
returns-then-out-written_length c =
    let passed : layer_words_checked plate_limit c.args.words.now ≡ (Ok tt) = sym c.in_default.ensures in
    let s = c.args in
    let both = write_no_room plate_limit s.words.now s.out.now (passed) (c.fill.ensures.after (λ y h. h)) (omega (arith, c.if-out-written_length.true, c.written_length.ensures)) in
    record { write_kept = both.0; small = both.1 }

pub encode-requires : goal.encode-requires
encode-requires c =
    let passed : layer_words_checked plate_limit c.args.words.now ≡ (Ok tt) = sym c.in_default.ensures in
    let pairs : HasPairs layer_words c.args.words.now (count_in c.args.words.now) = words_pairs plate_limit c.args.words.now (passed) in
    (pairs, omega (arith, c.if-out-written_length.false, c.written_length.ensures))

pub words_trapezoids-pieces-requires : goal.words_trapezoids-pieces-requires
words_trapezoids-pieces-requires c =
    let passed : layer_words_checked plate_limit c.args.words.now ≡ (Ok tt) = sym c.in_default.ensures in
    let pairs : HasPairs layer_words c.args.words.now (count_in c.args.words.now) = words_pairs plate_limit c.args.words.now (passed) in
    pairs

pub returns : goal.returns
returns c =
    let passed : layer_words_checked plate_limit c.args.words.now ≡ (Ok tt) = sym c.in_default.ensures in
    let s = c.args in
    let both = write_done plate_limit s.words.now s.out.now (passed) (c.fill.ensures.after (λ y h. h)) (omega (arith, c.if-out-written_length.false, c.written_length.ensures)) c.encode.ensures c.words_trapezoids-pieces.ensures in
    record { write_kept = both.0; small = both.1 }
