use Rattle.files.specs.Formats.{file_words}
use Rattle.files.proofs.Widths.{file_trapezoid_at}
use Rattle.files_code.proofs.load_file_trapezoid.Goals as goal

pub returns : goal.returns
returns c =
    let s = c.args in
    cc (file_trapezoid_at (file_words s.body.now) s.i)
