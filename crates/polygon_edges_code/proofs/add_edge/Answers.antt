use mathlib.Core.Path.{sym, ◌∙◌}
use native.Mathlib.Omega.{arith}
use lib.Signed.{lt_z}
use Rattle.polygon_edges_code.specs.Edges.{vertex_at}
use Rattle.polygon_edges_code.proofs.Building.{grid_through, longer_line, longer_right, longer_left, longer_flat}
use Rattle.polygon_edges_code.proofs.add_edge.Goals as goal

pub returns-then-less : goal.returns-then-less
returns-then-less c =
    let k = c.requires in
    let p = c.put_edge in
    let a = vertex_at c.args.words.now c.args.a in
    let b = vertex_at c.args.words.now c.args.b in
    let l = c.line_between-l.ensures in
    let d = c.of.ensures.v_value in
    longer_right k.held k.room a b _ _ l d (sym (c.less.ensures ∙ (λ z. lt_z (c.get-x.ensures.v_value z) (c.get-y.ensures.v_value z))) ∙ c.if-less.true) _ _ _ (longer_line k.held k.room p.ensures (p.auto.lines ∙ k.held.lines.long) (p.auto.terms ∙ k.held.long) (grid_through a b _ k.first_grid k.second_grid l) (rw d (omega arith)))

pub returns-then-less-2 : goal.returns-then-less-2
returns-then-less-2 c =
    let k = c.requires in
    let p = c.put_edge-then-less-2 in
    let a = vertex_at c.args.words.now c.args.a in
    let b = vertex_at c.args.words.now c.args.b in
    let l = c.line_between-l-then-less-2.ensures in
    let d = c.of-then-less-2.ensures.v_value in
    longer_left k.held k.room a b _ _ l d (sym (c.less.ensures ∙ (λ z. lt_z (c.get-x.ensures.v_value z) (c.get-y.ensures.v_value z))) ∙ c.if-less.false) (sym (c.less-else-less.ensures ∙ (λ z. lt_z (c.get-y.ensures.v_value z) (c.get-x.ensures.v_value z))) ∙ c.if-less-2.true) _ _ _ (longer_line k.held k.room p.ensures (p.auto.lines ∙ k.held.lines.long) (p.auto.terms ∙ k.held.long) (grid_through b a _ k.second_grid k.first_grid l) (rw d (omega arith)))

pub returns-else-less-2 : goal.returns-else-less-2
returns-else-less-2 c =
    longer_flat c.requires.held c.requires.room (vertex_at c.args.words.now c.args.a) (vertex_at c.args.words.now c.args.b) (sym (c.less.ensures ∙ (λ z. lt_z (c.get-x.ensures.v_value z) (c.get-y.ensures.v_value z))) ∙ c.if-less.false) (sym (c.less-else-less.ensures ∙ (λ z. lt_z (c.get-y.ensures.v_value z) (c.get-x.ensures.v_value z))) ∙ c.if-less-2.false)
