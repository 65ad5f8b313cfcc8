use mathlib.Core.Path.{◌∙◌, ap}
use native.Mathlib.Omega.{arith}
use Rattle.files.specs.Formats.{file_words, polygon_file}
use Rattle.files.specs.Pairs.{amount_of}
use Rattle.files.proofs.Layers.{polygon_modest}
use Rattle.files.proofs.Pairs.{pairs_fit}
use Rattle.directory_code.specs.Code.{Paired}
use Rattle.directory_code.proofs.Finding.{paired}
use Rattle.files_code.proofs.Loading.{length_is}
use Rattle.files_code.proofs.polygon_extent.Goals as goal

pub overflow_mul-i : goal.overflow_mul-i
overflow_mul-i c =
    let in_pairs : Paired c.args.file.now c.args.n = paired c.args.file.now (omega arith) c.requires.0 in
    record { fits = omega (arith, (in_pairs).few, c.requires.1) }

pub overflow_add-i : goal.overflow_add-i
overflow_add-i c =
    let in_pairs : Paired c.args.file.now c.args.n = paired c.args.file.now (omega arith) c.requires.0 in
    record { fits = omega (arith, (in_pairs).few, c.requires.1) }

pub word_at-requires : goal.word_at-requires
word_at-requires c =
    let in_pairs : Paired c.args.file.now c.args.n = paired c.args.file.now (omega arith) c.requires.0 in
    omega (arith, (in_pairs).complete, c.requires.1)

pub length_read-requires : goal.length_read-requires
length_read-requires c =
    let in_pairs : Paired c.args.file.now c.args.n = paired c.args.file.now (omega arith) c.requires.0 in
    (rw c.polygon_format-f.ensures (polygon_modest c.args.edition), in_pairs, c.requires.1)

pub returns : goal.returns
returns c =
    let s = c.args in
    record {
      offset_value = (
        c.amount_of-offset.ensures ∙ ap amount_of c.word_at.ensures.v_value,
        length_is s.edition (file_words s.file.now) s.i c.polygon_format-f.ensures c.length_read.ensures c.amount_of-length.ensures,
      );
      bound = pairs_fit (polygon_file s.edition) (file_words s.file.now) s.n c.requires.0 s.i c.requires.1;
    }
