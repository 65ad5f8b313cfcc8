use mathlib.Core.Path.{◌≡◌, ◌∙◌, ap}
use Prim.Native.Nat.{ℕ, ◌+◌, ◌*◌}
use native.Mathlib.Omega.{arith}
use lib.Seq.{slice}
use Rattle.records.specs.Limits.{file_width, memory_width}
use Rattle.listing.specs.Listing.{field, words_line}
use Rattle.listing_code.proofs.Texts.{onward, arrived, next_field, line_end}
use Rattle.listing_code.proofs.put_line.Goals as goal

pub loop-j-preserved : goal.loop-j-preserved
loop-j-preserved c =
    let s = c.args.words.now in
    let end = memory_width * c.args.i + file_width in
    let h = c.loop-j.invariant in
    let j = c.loop-j.j in
    let e = next_field s j end c.loop-j-test.true h.1 in
    (onward (field s j end) (words_line (slice (j + 1) end s)) h.0 e (omega (arith, c.loop-j-test.true, h.2, h.0.long, c.requires.1, c.put_field-next.ensures.wrote.0, c.put_field-next.ensures.within)) c.put_field-next.ensures.wrote, h.1, omega (arith, h.2, c.put_field-next.ensures.within))

pub returns : goal.returns
returns c =
    let s = c.args.words.now in
    let end = memory_width * c.args.i + file_width in
    let h = c.loop-j.invariant in
    let k : c.loop-j.j ≡ end = omega arith in
    record { wrote = arrived h.0 (ap (λ (j : ℕ). words_line (slice j end s)) k ∙ line_end s end); within = omega (arith, k, h.2) }
