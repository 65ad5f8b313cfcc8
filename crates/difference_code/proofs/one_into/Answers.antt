use mathlib.Core.Path.{sym, subst}
use mathlib.Core.List.{[], ◌∷◌}
use Prim.Native.Nat.{◌+◌, ◌*◌, ◌-◌}
use native.Mathlib.Omega.{arith}
use lib.ListN.{length}
use Rattle.records.specs.Limits.{max_records}
use Rattle.records.specs.Records.{count}
use Rattle.geometry.specs.Trapezoids.{trapezoid_codec}
use Rattle.boolean.specs.Operations.{minus_all}
use Rattle.boolean.specs.Space.{addition, one_stages}
use Rattle.remainder_code.specs.Code.{from, overlays_of_one, max_overlays, OverlaysWithin}
use Rattle.remainder_code.proofs.Answers.{folded_within, within_least, within_more}
use Rattle.remainder_code.proofs.One.{one_whole, folded_long, one_skip}
use Rattle.difference_code.proofs.one_into.Goals as goal

pub more_overlays-requires : goal.more_overlays-requires
more_overlays-requires c =
    let f = c.add_whole-f in
    let a = c.args in
    (omega (arith, c.requires.boxed_as.1.layer.few), within_least 1 max_overlays f.result (omega arith) (folded_within (length a.out.now) a.room (a.a.shape ∷ []) (addition 1 ∷ []) f.result f.new.out f.ensures))

pub returns-in_default : goal.returns-in_default
returns-in_default c =
    let r = c.more_overlays.ensures in
    let f = c.add_whole-f in
    let a = c.args in
    let j = count trapezoid_codec a.layer.now in
    let n = length a.out.now in
    let t = f.new.out in
    let g = one_skip n a.room a.a.shape a.layer.now j c.in_default.ensures (omega (arith, c.if-room-eq0.false)) f.result t (one_whole n a.room a.a.shape a.layer.now j f.result t (omega arith) f.ensures) in
    let w = within_more 1 j j f.result (omega arith) (folded_within n a.room (a.a.shape ∷ []) (addition 1 ∷ []) f.result t f.ensures) in
    record { one_written = rw r g; overlays_within = within_least (j + 1) overlays_of_one c.more_overlays.result (omega (arith, c.requires.boxed_as.1.layer.few)) (subst (OverlaysWithin (j + 1)) (sym r) w); blank = c.requires.scratch_for.0 }

pub returns : goal.returns
returns c =
    let r = c.more_overlays-2.ensures in
    let f = c.one_rest-g in
    let k = c.cut_into-f in
    let v = c.in-Some in
    let a = c.args in
    let j = v.v.before in
    let n = length a.out.now in
    let t = f.new.out in
    let bs = from a.layer.now j in
    let s = folded_long (length k.new.out) n a.room (minus_all (a.a.shape ∷ []) bs) (one_stages 0 a.a.shape bs) f.result t k.auto.out f.ensures.one_written in
    let g = one_skip n a.room a.a.shape a.layer.now j v.ensures.before (omega (arith, c.if-room-eq0.false)) f.result t s in
    let m = max_records * (max_records - j) + 1 in
    let w = within_more m j j f.result (omega arith) f.ensures.overlays_within in
    record { one_written = rw r g; overlays_within = within_least (j + m) overlays_of_one c.more_overlays-2.result (omega (arith, v.ensures.within, c.requires.boxed_as.1.layer.few)) (subst (OverlaysWithin (j + m)) (sym r) w); blank = f.ensures.blank }
