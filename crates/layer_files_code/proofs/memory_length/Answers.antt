use mathlib.Core.Path.{refl}
use native.Mathlib.Omega.{arith}
use Rattle.layer_files_code.proofs.Whole.{file_sizes}
use Rattle.layer_files_code.proofs.memory_length.Goals as goal

pub overflow_add-result : goal.overflow_add-result
overflow_add-result c =
    let h = file_sizes c.args.file.now c.requires refl in
    record { fits = omega (arith, c.file_trapezoids.ensures, h.few, h.small, h.words, h.units) }

pub returns : goal.returns
returns c =
    let h = file_sizes c.args.file.now c.requires refl in
    omega (arith, c.file_trapezoids.ensures, h.words, h.units, h.memory)
