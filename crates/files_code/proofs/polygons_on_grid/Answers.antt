use mathlib.Core.Path.{◌≡◌, sym, ◌∙◌, ap}
use Prim.Native.Nat.{ℕ, ◌+◌, ◌*◌, ◌-◌}
use native.Mathlib.Omega.{arith}
use lib.ListN.{length}
use borrow.Rule.Slice.PartMut.{mid_of}
use borrow.Author.Tests.{not-true, not-false}
use Rattle.files.specs.Formats.{file_words, polygon_file}
use Rattle.files.specs.Pairs.{length_at}
use Rattle.files.proofs.Reading.{length_file}
use Rattle.files.proofs.Layers.{polygon_modest}
use Rattle.files.proofs.Right.{IsRight, right, in_file, file_body}
use Rattle.directory_code.proofs.Finding.{paired}
use Rattle.files_code.proofs.Loading.{length_is}
use Rattle.files_code.proofs.Passing.{cut_start, in_body, cut_turn, cut_off, cut_stop}
use Rattle.files_code.proofs.polygons_on_grid.Goals as goal

pub overflow_mul-start : goal.overflow_mul-start
overflow_mul-start c =
    let is_right : IsRight (polygon_file c.args.edition) (file_words c.args.file.now) c.args.n c.requires.total = right (polygon_file c.args.edition) (file_words c.args.file.now) c.requires.is in
    record { fits = omega (arith, (is_right).most) }

pub overflow_add-start : goal.overflow_add-start
overflow_add-start c =
    let is_right : IsRight (polygon_file c.args.edition) (file_words c.args.file.now) c.args.n c.requires.total = right (polygon_file c.args.edition) (file_words c.args.file.now) c.requires.is in
    record { fits = omega (arith, (is_right).most) }

pub overflow_mul-start-2 : goal.overflow_mul-start-2
overflow_mul-start-2 c =
    let is_right : IsRight (polygon_file c.args.edition) (file_words c.args.file.now) c.args.n c.requires.total = right (polygon_file c.args.edition) (file_words c.args.file.now) c.requires.is in
    record { fits = omega (arith, (is_right).most) }

pub loop-i-init : goal.loop-i-init
loop-i-init c =
    cut_start c.args.edition c.args.limit (file_words c.args.file.now) c.args.n c.requires

pub length_read-requires : goal.length_read-requires
length_read-requires c = (
  rw c.polygon_format-f.ensures (polygon_modest c.args.edition),
  paired c.args.file.now (omega arith) c.requires,
  c.loop-i-test.true,
)

pub slice_bounds-polygon_on_grid-count : goal.slice_bounds-polygon_on_grid-count
slice_bounds-polygon_on_grid-count c =
    let is_right : IsRight (polygon_file c.args.edition) (file_words c.args.file.now) c.args.n c.requires.total = right (polygon_file c.args.edition) (file_words c.args.file.now) c.requires.is in
    omega (arith, in_file c.args.file.now (is_right))

pub slice_bounds-polygon_on_grid-start : goal.slice_bounds-polygon_on_grid-start
slice_bounds-polygon_on_grid-start c =
    let is_right : IsRight (polygon_file c.args.edition) (file_words c.args.file.now) c.args.n c.requires.total = right (polygon_file c.args.edition) (file_words c.args.file.now) c.requires.is in
    omega (arith, in_file c.args.file.now (is_right))

pub polygon_on_grid-requires : goal.polygon_on_grid-requires
polygon_on_grid-requires c =
    let is_right : IsRight (polygon_file c.args.edition) (file_words c.args.file.now) c.args.n c.requires.total = right (polygon_file c.args.edition) (file_words c.args.file.now) c.requires.is in
    let is_length : let s = c.args in c.amount_of.result ≡ length_at (polygon_file s.edition) (file_words s.file.now) c.loop-i.i = let s = c.args in
    length_is s.edition (file_words s.file.now) c.loop-i.i c.polygon_format-f.ensures c.length_read.ensures c.amount_of.ensures in
    let h = c.loop-i.invariant in
    let l = c.loop-i-test.true in
    let e = is_length in
    let b = file_body c.args.file.now (is_right) in
    (omega arith, omega (arith, in_body h l, e, ap length b, length_file (mid_of (4 * (2 * c.args.n + 1)) (length c.args.file.now - 4 * (2 * c.args.n + 1)) c.args.file.now)))

pub returns-then-not-polygon_on_grid : goal.returns-then-not-polygon_on_grid
returns-then-not-polygon_on_grid c =
    let is_right : IsRight (polygon_file c.args.edition) (file_words c.args.file.now) c.args.n c.requires.total = right (polygon_file c.args.edition) (file_words c.args.file.now) c.requires.is in
    let is_length : let s = c.args in c.amount_of.result ≡ length_at (polygon_file s.edition) (file_words s.file.now) c.loop-i.i = let s = c.args in
    length_is s.edition (file_words s.file.now) c.loop-i.i c.polygon_format-f.ensures c.length_read.ensures c.amount_of.ensures in
    let h = c.loop-i.invariant in
    let l = c.loop-i-test.true in
    let e = ap (λ (m : ℕ). c.loop-i.from + m) (is_length) in
    cut_off h l e (file_body c.args.file.now (is_right)) (sym c.polygon_on_grid.ensures ∙ not-true c.polygon_on_grid.result c.if-not-polygon_on_grid.true-raw)

pub loop-i-preserved : goal.loop-i-preserved
loop-i-preserved c =
    let is_right : IsRight (polygon_file c.args.edition) (file_words c.args.file.now) c.args.n c.requires.total = right (polygon_file c.args.edition) (file_words c.args.file.now) c.requires.is in
    let is_length : let s = c.args in c.amount_of.result ≡ length_at (polygon_file s.edition) (file_words s.file.now) c.loop-i.i = let s = c.args in
    length_is s.edition (file_words s.file.now) c.loop-i.i c.polygon_format-f.ensures c.length_read.ensures c.amount_of.ensures in
    let h = c.loop-i.invariant in
    let l = c.loop-i-test.true in
    let e = ap (λ (m : ℕ). c.loop-i.from + m) (is_length) in
    cut_turn h l e (file_body c.args.file.now (is_right)) (sym c.polygon_on_grid.ensures ∙ not-false c.polygon_on_grid.result c.if-not-polygon_on_grid.false-raw)

pub returns : goal.returns
returns c = cut_stop c.loop-i.invariant c.loop-i-test.false
