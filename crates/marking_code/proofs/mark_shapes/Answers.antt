use Rattle.marking_code.proofs.Shapes.{tried_is, tried_few}
use Rattle.marking_code.proofs.mark_shapes.Goals as goal

pub returns-clause-tried : goal.returns-clause-tried
returns-clause-tried c =
    let h = c.requires in
    let s = h.shapes_at_start in
    let f = c.enclose_all in
    tried_is h.fit.0 h.fit.1 s.0.shapes s.1.shapes c.args.room f.result f.new.marks f.ensures.enclosed_as f.ensures.marking

pub returns-clause-tried_within : goal.returns-clause-tried_within
returns-clause-tried_within c =
    let h = c.requires in
    let s = h.shapes_at_start in
    let f = c.enclose_all in
    tried_few h.fit.0 h.fit.1 s.0.shapes s.1.shapes c.args.room f.result h.borrowed.1 f.ensures.enclosed_as
