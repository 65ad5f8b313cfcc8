use mathlib.Core.Path.{◌∙◌}
use Prim.Native.Nat.{◌≤◌}
use native.Mathlib.Omega.{arith}
use Rattle.remainder_code.proofs.One.{whole_no_room, whole_done}
use Rattle.remainder_code.proofs.add_whole.Goals as goal

pub returns-then-room-eq0 : goal.returns-then-room-eq0
returns-then-room-eq0 c =
    (whole_no_room c.args.room c.if-room-eq0.true, c.requires.blank)

pub returns : goal.returns
returns c =
    let f = c.store in
    let l : 1 ≤ c.args.room = omega (arith, c.if-room-eq0.false) in
    let e = whole_done c.args.out.now c.args.room c.requires l c.args.a.shape in
    (e.0, (e.1.0, e.1.1, f.ensures ∙ e.1.2))
