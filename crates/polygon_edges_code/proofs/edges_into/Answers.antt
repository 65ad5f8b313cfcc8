use mathlib.Core.Path.{◌≡◌, subst}
use Prim.Native.Nat.{ℕ, ◌+◌, ◌*◌, ◌-◌, ◌/◌, ◌<◌}
use native.Mathlib.Omega.{arith}
use lib.ListN.{length}
use Rattle.polygon_edges_code.proofs.Building.{Building, no_vertices, building_start, building_grid, building_room, building_next_grid, building_next, building_last}
use Rattle.polygon_edges_code.proofs.edges_into.Goals as goal

pub returns-then-vertices-eq0 : goal.returns-then-vertices-eq0
returns-then-vertices-eq0 c = no_vertices c.args.words.now c.args.lines.now c.args.terms.now c.requires.2 c.requires.3 (omega (arith, c.if-vertices-eq0.true))

pub loop-k-init : goal.loop-k-init
loop-k-init c = building_start c.args.words.now c.args.lines.now c.args.terms.now c.requires.2 c.requires.3 (omega (arith, c.if-vertices-eq0.false)) c.requires.1 c.requires.0

pub add_edge-m-requires : goal.add_edge-m-requires
add_edge-m-requires c =
    let h = c.loop-k.invariant in
    let l : 2 * c.loop-k.k + 2 + 1 < length c.args.words.now = omega (arith, c.loop-k-test.true) in
    record { held = h.held; room = building_room _ _ _ _ _ h; first = h.within; second = l; first_grid = building_grid _ _ _ _ _ h; second_grid = building_next_grid _ _ _ _ _ h l }

pub loop-k-preserved : goal.loop-k-preserved
loop-k-preserved c =
    let l : 2 * c.loop-k.k + 2 + 1 < length c.args.words.now = omega (arith, c.loop-k-test.true) in
    let e : 2 * c.loop-k.k + 2 ≡ 2 * (c.loop-k.k + 1) = omega arith in
    subst (λ (k : ℕ). Building c.args.words.now c.add_edge-m.new.lines c.add_edge-m.new.terms c.add_edge-m.result k) e (building_next _ _ _ _ _ c.loop-k.invariant l _ _ _ c.add_edge-m.ensures)

pub add_edge-requires : goal.add_edge-requires
add_edge-requires c =
    let e : c.loop-k.k ≡ length c.args.words.now / 2 - 1 = omega (arith, c.loop-k-test.false, c.loop-k.auto.k-end) in
    let h = subst (λ (k : ℕ). Building c.args.words.now c.loop-k.lines c.loop-k.terms c.loop-k.m (2 * k)) e c.loop-k.invariant in
    record { held = h.held; room = building_room _ _ _ _ _ h; first = h.within; second = omega (arith, h.within); first_grid = building_grid _ _ _ _ _ h; second_grid = h.first }

pub returns : goal.returns
returns c =
    let e : c.loop-k.k ≡ length c.args.words.now / 2 - 1 = omega (arith, c.loop-k-test.false, c.loop-k.auto.k-end) in
    let h = subst (λ (k : ℕ). Building c.args.words.now c.loop-k.lines c.loop-k.terms c.loop-k.m (2 * k)) e c.loop-k.invariant in
    building_last _ _ _ _ _ h (omega arith) _ _ _ c.add_edge.ensures
