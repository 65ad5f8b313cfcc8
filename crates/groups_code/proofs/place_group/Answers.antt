use Rattle.groups_code.proofs.Placing.{search_before, search_level, search_next}
use Rattle.groups_code.proofs.place_group.Goals as goal

pub returns-in-Less : goal.returns-in-Less
returns-in-Less c = search_before _ _ _ _ _ c.requires.0 _ c.loop-i.invariant c.loop-i-test.true _ _ c.terms_at-b.ensures c.order_by.ensures c.in-Less.is

pub returns-in-Equal : goal.returns-in-Equal
returns-in-Equal c = search_level _ _ _ _ _ c.requires.0 _ c.loop-i.invariant c.loop-i-test.true _ _ c.terms_at-b.ensures c.order_by.ensures c.in-Equal.is

pub loop-i-preserved : goal.loop-i-preserved
loop-i-preserved c = search_next _ _ _ _ _ c.requires.0 _ c.loop-i.invariant c.loop-i-test.true _ _ c.terms_at-b.ensures c.order_by.ensures c.in-Greater.is
