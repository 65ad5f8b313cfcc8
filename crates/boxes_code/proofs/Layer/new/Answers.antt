use Rattle.boxes_code.proofs.BoxedLayers.{all_fits}
use Rattle.boxes_code.proofs.Layer.new.Goals as goal

pub invariant_of-result : goal.invariant_of-result
invariant_of-result c =
    let h = c.requires in
    record { fit = all_fits c.args.words.now h.layer.fit; few = h.layer.few; room = h.boxes.room; each = h.boxes.each }
