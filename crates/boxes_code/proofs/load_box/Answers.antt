use Rattle.boxes_code.specs.Code.{box_at}
use Rattle.boxes_code.proofs.Slices.{same_box}
use Rattle.boxes_code.proofs.load_box.Goals as goal

pub returns : goal.returns
unfolding box_at
returns c =
    same_box c.get_number.ensures c.get_number-2.ensures c.get_number-3.ensures c.get_number-4.ensures
