use mathlib.Core.Path.{◌∙◌, ap}
use Rattle.std.proofs.Common.{is_eq}
use Rattle.integer.specs.Compare.{order_of}
use Rattle.fracture_code.proofs.Sums.{zero_equal}
use Rattle.fracture_code.proofs.is_zero.Goals as goal

pub returns : goal.returns
returns c = c.is_eq.ensures ∙ ap is_eq (c.compare.ensures ∙ ap (order_of c.args.x.v) c.of.ensures.v_value) ∙ zero_equal c.args.x.v
