use Rattle.std.proofs.lemmas.List.{get_or_default}
use mathlib.Core.Path.{refl, ◌≡◌, ◌∙◌}
use Prim.Native.Nat.{◌+◌, ◌-◌}
use native.Mathlib.Omega.{arith}
use lib.ListN.{set}
use Rattle.sorting.proofs.Inserting.{inserting_start, inserting_next, inserting_last}
use Rattle.sorting_code.proofs.insert.Goals as goal

pub loop-k-init : goal.loop-k-init
loop-k-init g c = (inserting_start _ _ _ c.requires.1, c.requires.0)

pub loop-k-preserved : goal.loop-k-preserved
loop-k-preserved g c =
    let h = c.loop-k.invariant.0 in
    let x = c.index-s-k in
    let gap : c.loop-k.k - 1 + 1 ≡ c.loop-k.k = omega (arith, c.loop-k-test.true) in
    let moved = x.is ∙ get_or_default c.loop-k.s (c.loop-k.k - 1) x.result c.args.a (omega (arith, c.loop-k-test.true, h.upto, h.room, h.long)) in
    (inserting_next _ _ _ c.loop-k.s c.loop-k.k _ h (omega (arith, c.loop-k-test.true)) (λ j. set c.loop-k.s (gap j) (moved j)), omega (arith, c.loop-k-test.true))

pub returns : goal.returns
returns g c = inserting_last _ _ _ _ _ _ c.args.a _ c.loop-k.invariant.0 c.loop-k.invariant.1 c.loop-k-test.false refl
