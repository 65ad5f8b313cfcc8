use mathlib.Core.Path.{refl, sym, ◌∙◌}
use Rattle.geometry_code.specs.Code.{fraction_of}
use Rattle.polygon_edges_code.specs.Edges.{line_number}
use Rattle.groups_code.proofs.Adding.{held_terms, fits, widened_yes}
use Rattle.groups_code.proofs.add_spanning.Goals as goal

pub add_group-requires : goal.add_group-requires
add_group-requires c =
    let h = c.requires.2 in
    let lands = c.place_group-place.ensures (line_number c.args.lines.now c.args.k) c.args.lines.now (rw c.terms_at-a.ensures c.requires.0.terms) (held_terms h) in
    (fits h (fraction_of c.args.at) c.args.k c.requires.0 c.requires.3 c.place_group-place.result lands, c.requires.3, h.keys, h.weights, rw c.get_number-w.ensures c.requires.0.light, h.light)

pub returns-then-is_spanning : goal.returns-then-is_spanning
returns-then-is_spanning c =
    let h = c.requires.2 in
    let lands = c.place_group-place.ensures (line_number c.args.lines.now c.args.k) c.args.lines.now (rw c.terms_at-a.ensures c.requires.0.terms) (held_terms h) in
    widened_yes h (fraction_of c.args.at) c.args.k c.requires.0 c.requires.3 _ c.line_at-l.ensures (sym c.is_spanning.ensures ∙ c.if-is_spanning.true) c.place_group-place.result _ _ _ _ _ refl c.get_number-w.ensures (c.add_group.auto.numbers ∙ h.keys) lands c.add_group.ensures
