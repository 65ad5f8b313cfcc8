use mathlib.Core.Path.{◌≡◌, refl, sym, ap, ◌∙◌, subst}
use Prim.Native.Nat.{ℕ, ◌*◌, ◌-◌, ◌<◌}
use native.Mathlib.Omega.{arith}
use lib.ListN.{length, replicate}
use lib.IntN.{pos}
use borrow.Rule.Slice.PartMut.{put_mid, same_len_mid}
use Rattle.records.specs.Limits.{memory_width}
use Rattle.files.specs.Pairs.{count_in}
use Rattle.files.specs.Formats.{file_words, polygon_file}
use Rattle.files.specs.Directory.{HasPairs}
use Rattle.files.proofs.Pairs.{checked_pairs}
use Rattle.directory_code.proofs.Finding.{paired}
use Rattle.trapezoids_code.proofs.Writing.{write_borrowed}
use Rattle.polygons_code.proofs.Cutting.{cutting_start, cutting_stop, cutting_grid, cutting_full, cutting_next}
use Rattle.polygons_code.proofs.fracture_file.Goals as goal

pub polygon_count-count-requires : goal.polygon_count-count-requires
polygon_count-count-requires c =
    paired c.args.file.now (omega arith) (checked_pairs c.args.edition c.args.limit c.args.file.now c.requires.0)

pub loop-i-init : goal.loop-i-init
loop-i-init c =
    (cutting_start c.args.edition c.args.limit c.args.file.now c.args.out.now c.args.room c.requires.0 c.requires.2, record { nums = refl; dens = refl; names = refl })

pub fracture_numbered-requires : goal.fracture_numbered-requires
fracture_numbered-requires c =
    let h = c.loop-i.invariant in
    let less : c.loop-i.i < count_in (file_words c.args.file.now) = omega (arith, c.loop-i-test.true, c.polygon_count-count.ensures.value) in (
      (
        subst (HasPairs (polygon_file c.args.edition) (file_words c.args.file.now)) (sym c.polygon_count-count.ensures.value) (checked_pairs c.args.edition c.args.limit c.args.file.now c.requires.0),
        omega arith,
        cutting_grid h.0 less,
        c.requires.1,
        write_borrowed h.0.writing,
      ),
      h.1,
    )

pub returns-in_default : goal.returns-in_default
returns-in_default c =
    let l = c.loop-i in
    let f = c.fracture_numbered in
    let less : l.i < count_in (file_words c.args.file.now) = omega (arith, c.loop-i-test.true, c.polygon_count-count.ensures.value) in
    let long : length (put_mid (memory_width * l.n) (length l.out - memory_width * l.n) l.out f.new.out) ≡ length c.args.out.now = same_len_mid (memory_width * l.n) (length l.out - memory_width * l.n) l.out f.new.out f.auto.out ∙ l.invariant.0.writing.long in
    (cutting_full l.invariant.0 less _ _ f.ensures c.in_default.is, c.fill.ensures.after (λ y h. h) ∙ ap (λ (k : ℕ). replicate k (pos 0)) long)

pub loop-i-preserved : goal.loop-i-preserved
loop-i-preserved c =
    let l = c.loop-i in
    let f = c.fracture_numbered in
    let w = l.invariant.1 in
    let kept = f.auto in
    let less : l.i < count_in (file_words c.args.file.now) = omega (arith, c.loop-i-test.true, c.polygon_count-count.ensures.value) in
    (cutting_next l.invariant.0 less _ _ f.ensures _ c.in-Some.is, record { nums = kept.num ∙ w.nums; dens = kept.den ∙ w.dens; names = kept.name ∙ w.names })

pub returns : goal.returns
returns c = cutting_stop c.loop-i.invariant.0 (omega (arith, c.loop-i-test.false, c.polygon_count-count.ensures.value))
