use mathlib.Core.Path.{◌≡◌, ◌∙◌, ap, subst}
use Prim.Native.Nat.{ℕ, ◌*◌, ◌+◌, ◌<◌}
use native.Mathlib.Omega.{arith}
use mir.Syntax.{w32}
use mir.Val.{to_z, of_z}
use mir.Facts.{to_z-of_z}
use borrow.Author.Rules.{sfits_of}
use lib.IntN.{ℤ}
use lib.ListN.{length, set, take, drop, length-set}
use Rattle.files.specs.Formats.{file_words, word_at}
use Rattle.files.proofs.Pairs.{body_length}
use Rattle.files.proofs.Reading.{length_file}
use Rattle.geometry_code.specs.Polygons.{polygon_of}
use Rattle.files_code.proofs.Loading.{word_more, polygon_loaded}
use Rattle.files_code.proofs.load_polygon.Goals as goal

pub at-requires : goal.at-requires
at-requires c =
    omega (arith, body_length c.args.file.now, c.requires.0.is, c.requires.2, c.loop-k-test.true)

pub at-requires-in-loop-k : goal.at-requires-in-loop-k
at-requires-in-loop-k c =
    omega (arith, body_length c.args.file.now, c.requires.0.is, c.requires.2, c.loop-k-test.true)

pub loop-k-preserved : goal.loop-k-preserved
loop-k-preserved c =
    let ws = file_words c.args.file.now in
    let start = 2 * (c.args.count + c.args.offset) + 1 in
    let k = c.loop-k.k in
    let x = c.at in
    let y = c.at-in-loop-k in
    let out = c.loop-k.words in
    let long = c.loop-k.auto.words in
    let inside : start + (2 * k + 1) < length ws = omega (arith, body_length c.args.file.now, length_file c.args.file.now, c.requires.0.is, c.requires.2, c.loop-k-test.true) in
    let next : start + 2 * k + 1 ≡ start + (2 * k + 1) = omega arith in
    let first : ℤ = to_z w32 (of_z w32 x.result) in
    let second : ℤ = to_z w32 (of_z w32 y.result) in
    let one = word_more out ws start (2 * k) (omega (arith, long, c.requires.3, c.loop-k-test.true)) (omega (arith, inside)) c.loop-k.invariant (to_z-of_z {w = w32} (sfits_of x.type_inv) ∙ x.ensures) in
    let two = word_more (set out (2 * k) first) ws start (2 * k + 1) (omega (arith, length-set out (2 * k) first, long, c.requires.3, c.loop-k-test.true)) inside one (to_z-of_z {w = w32} (sfits_of y.type_inv) ∙ y.ensures ∙ ap (word_at ws) next) in
    let more : 2 * k + 1 + 1 ≡ 2 * (k + 1) = omega arith in
    subst (λ (m : ℕ). take m (set (set out (2 * k) first) (2 * k + 1) second) ≡ take m (drop start ws)) more two

pub returns : goal.returns
returns c =
    let n = c.args.n in
    let e : c.loop-k.k ≡ n = omega (arith, c.loop-k.auto.k-end, c.loop-k-test.false) in
    ap polygon_of (subst (λ (m : ℕ). take (2 * m) c.loop-k.words ≡ take (2 * m) (drop (2 * (c.args.count + c.args.offset) + 1) (file_words c.args.file.now))) e c.loop-k.invariant)
    ∙ polygon_loaded c.args.file.now c.args.count c.args.offset n c.requires.0 c.requires.2
