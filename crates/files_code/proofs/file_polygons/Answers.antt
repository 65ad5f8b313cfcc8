use Rattle.files.specs.Formats.{file_words, polygon_file}
use Rattle.files_code.proofs.Directories.{pairs_found}
use Rattle.files_code.proofs.file_polygons.Goals as goal

pub polygons_on_grid-requires : goal.polygons_on_grid-requires
polygons_on_grid-requires c =
    record { total = c.in_ok-d.d.total; is = pairs_found (polygon_file c.args.edition) (file_words c.args.file.now) c.polygon_format.ensures c.in_ok-d.ensures }
