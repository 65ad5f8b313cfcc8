use mathlib.Core.Path.{◌≡◌, sym, ◌∙◌}
use native.Mathlib.Omega.{arith}
use Rattle.files.specs.Rows.{layer_file_checked}
use Rattle.files.specs.Formats.{file_words, layer_file}
use Rattle.files.specs.Pairs.{count_in}
use Rattle.files.specs.Directory.{HasPairs}
use Rattle.files.proofs.Calls.{file_pairs}
use Rattle.calls.specs.Rows.{plate_limit}
use Rattle.loxurfa_files.proofs.LayerFiles.{read_refused, read_no_room, read_done}
use Rattle.loxurfa_files.proofs.read_layers.Goals as goal
use Rattle.std.specs.Prelude.{Ok}

pub returns-in-Err : goal.returns-in-Err
returns-in-Err c =
    let s = c.args in
    let both = read_refused plate_limit s.file.now s.out.now (sym c.in-Err.ensures) in
    record { read_kept = both.0; small = both.1 }

pub memory_length-requires : goal.memory_length-requires
memory_length-requires c =
    let passed : layer_file_checked plate_limit c.args.file.now ≡ (Ok tt) = sym c.in_default.ensures in
    let pairs : HasPairs layer_file (file_words c.args.file.now) (count_in (file_words c.args.file.now)) = file_pairs plate_limit c.args.file.now (passed) in
    pairs

pub returns-then-out-memory_length : goal.returns-then-out-memory_length
returns-then-out-memory_length c =
    let passed : layer_file_checked plate_limit c.args.file.now ≡ (Ok tt) = sym c.in_default.ensures in
    let s = c.args in
    let both = read_no_room plate_limit s.file.now s.out.now (passed) (c.fill.ensures.after (λ y h. h)) (omega (arith, c.if-out-memory_length.true, c.memory_length.ensures)) in
    record { read_kept = both.0; small = both.1 }

pub decode-requires : goal.decode-requires
decode-requires c =
    let passed : layer_file_checked plate_limit c.args.file.now ≡ (Ok tt) = sym c.in_default.ensures in
    let pairs : HasPairs layer_file (file_words c.args.file.now) (count_in (file_words c.args.file.now)) = file_pairs plate_limit c.args.file.now (passed) in
    (pairs, omega (arith, c.if-out-memory_length.false, c.memory_length.ensures))

pub file_trapezoids-pieces-requires : goal.file_trapezoids-pieces-requires
file_trapezoids-pieces-requires c =
    let passed : layer_file_checked plate_limit c.args.file.now ≡ (Ok tt) = sym c.in_default.ensures in
    let pairs : HasPairs layer_file (file_words c.args.file.now) (count_in (file_words c.args.file.now)) = file_pairs plate_limit c.args.file.now (passed) in
    pairs

pub returns : goal.returns
returns c =
    let passed : layer_file_checked plate_limit c.args.file.now ≡ (Ok tt) = sym c.in_default.ensures in
    let s = c.args in
    let both = read_done plate_limit s.file.now s.out.now (passed) (c.fill.ensures.after (λ y h. h)) (omega (arith, c.if-out-memory_length.false, c.memory_length.ensures)) c.decode.ensures c.file_trapezoids-pieces.ensures in
    record { read_kept = both.0; small = both.1 }
