use Rattle.geometry.proofs.Fitness.{left_crosses, right_crosses}
use Rattle.trapezoids_code.proofs.place.Goals as goal

pub position_of-requires : goal.position_of-requires
position_of-requires c = let h = c.requires in (h.grid.0, h.grid.1.0, left_crosses h)

pub position_of-requires-2 : goal.position_of-requires-2
position_of-requires-2 c = let h = c.requires in (h.grid.1.1.0, h.grid.1.1.1.0, right_crosses h)
