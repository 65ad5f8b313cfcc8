use mathlib.Core.Path.{refl}
use native.Mathlib.Omega.{arith}
use Rattle.layer_files_code.proofs.Whole.{word_sizes}
use Rattle.layer_files_code.proofs.written_length.Goals as goal

pub overflow_sub-result : goal.overflow_sub-result
overflow_sub-result c =
    let h = word_sizes c.args.words.now c.requires refl in
    omega (arith, c.words_trapezoids.ensures, h.words, h.units)

pub returns : goal.returns
returns c =
    let h = word_sizes c.args.words.now c.requires refl in
    omega (arith, c.words_trapezoids.ensures, h.words, h.units, h.written)
