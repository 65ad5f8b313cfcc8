use mathlib.Core.Path.{◌≡◌, sym, ◌∙◌, ap}
use mathlib.Core.List.{◌++◌}
use Prim.Native.Nat.{◌*◌}
use native.Mathlib.Omega.{arith}
use lib.ListN.{length}
use lib.Seq.{drop_at}
use mir.Syntax.{w32}
use mir.Facts.{to_z-of_z}
use Rattle.records.specs.Limits.{memory_width}
use Rattle.geometry.specs.Trapezoids.{layer_of}
use Rattle.remainder_code.specs.Code.{rest, leading}
use Rattle.remainder_code.proofs.Leading.{rest_is, back_blank, scratch_tail}
use Rattle.deoverlap_code.proofs.Past.{front-layer_is, front_fits}
use Rattle.deoverlap_code.proofs.one_bearing_by_front.Goals as goal

pub one_bearing-requires-clause-scratch_for : goal.one_bearing-requires-clause-scratch_for
one_bearing-requires-clause-scratch_for c =
    let a = c.args in
    let z = scratch_tail a.out.now a.scratch.now a.k c.requires.scratch_for in
    (z.0, z.1 ∙ ap length (rest_is a.out.now a.k ∙ sym c.split_at_mut-done.ensures.back))

pub returns-clause-one_bearing : goal.returns-clause-one_bearing
returns-clause-one_bearing c =
    let a = c.args in
    let s = c.split_at_mut-done in
    let u = c.one_bearing.new.out in
    let written : rest (s.result.0.now ++ u) a.k ≡ u = drop_at s.result.0.now u (memory_width * a.k) s.ensures.front_len in
    let layer : layer_of s.result.0.now ≡ leading a.out.now a.k = ap layer_of s.ensures.front ∙ front-layer_is a.out.now a.k (front_fits a.out.now a.k a.room c.requires.boxed_as.2) in
    rw (written, ← s.ensures.back, ← layer, ← to_z-of_z {w = w32} c.ranges.sources) c.one_bearing.ensures.one_bearing

pub returns-clause-blank : goal.returns-clause-blank
returns-clause-blank c =
    let a = c.args in
    let h = c.requires in
    back_blank a.scratch.now a.k (omega (arith, front_fits a.out.now a.k a.room h.boxed_as.2, h.scratch_for.1)) c.one_bearing.new.scratch h.scratch_for.0 c.one_bearing.ensures.blank
