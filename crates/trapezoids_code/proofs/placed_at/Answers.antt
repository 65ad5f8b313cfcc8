use mathlib.Core.Path.{sym, subst}
use Rattle.geometry.specs.Limit.{coordinate_limit}
use Rattle.geometry.specs.Fitness.{FitFor}
use Rattle.geometry.proofs.Layers.{all_record}
use Rattle.trapezoids_code.proofs.placed_at.Goals as goal

pub place-requires : goal.place-requires
place-requires c =
    subst (FitFor coordinate_limit) (sym c.load.ensures) (all_record (FitFor coordinate_limit) c.args.layer.now c.args.i c.requires.0 c.requires.1)
