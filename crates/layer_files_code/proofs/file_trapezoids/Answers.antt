use mathlib.Core.Path.{refl, ◌∙◌}
use native.Mathlib.Omega.{arith}
use Prim.Native.Nat.{◌-◌, ◌/◌}
use Rattle.files.specs.Contents.{file_codec}
use Rattle.files.specs.Formats.{file_words}
use Rattle.files.proofs.Reading.{length_file}
use Rattle.files.proofs.Bounds.{units_count}
use Rattle.layer_files_code.proofs.Whole.{file_sizes}
use Rattle.layer_files_code.proofs.file_trapezoids.Goals as goal

pub body_start-requires : goal.body_start-requires
body_start-requires c = let z = file_sizes c.args.file.now c.requires refl in (omega (arith, z.words), omega (arith, z.few))

pub overflow_sub-result : goal.overflow_sub-result
overflow_sub-result c = omega (arith, (file_sizes c.args.file.now c.requires c.body_start.ensures).words, c.size.ensures.value)

pub returns : goal.returns
returns c =
    let bs = c.args.file.now in
    (λ j. (c.size.ensures.value j - c.body_start.ensures j) / 24) ∙ units_count file_codec (file_words bs) (length_file bs) refl
