use native.Mathlib.Omega.{arith}
use Prim.Native.Nat.{◌*◌, ◌+◌, ◌≤◌}
use lib.ListN.{length}
use Rattle.triples_code.proofs.Listing.{put_holds}
use Rattle.triples_code.proofs.put_triple.Goals as goal

pub returns : goal.returns
returns c =
    let wide : 3 * (c.args.n + 1) ≤ length c.args.list.now = omega arith in
    let a = c.args in
    (omega arith, wide, put_holds a.list.now a.n (record { collector = a.c; base = a.b; emitter = a.e }) c.requires.0 (wide))
