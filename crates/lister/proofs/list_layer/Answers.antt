use Rattle.lister.proofs.Printing.{put_as, layer_refused, layer_done}
use Rattle.lister.proofs.list_layer.Goals as goal

pub returns-in-Refused : goal.returns-in-Refused
returns-in-Refused c =
    let x = c.args in
    let l = layer_refused x.layer.now x.out.now x.scratch.now c.requires.0 c.requires.1 c.deoverlap.result c.deoverlap.new.out c.deoverlap.new.scratch c.deoverlap.ensures.deoverlap_kept _ _ c.in-Refused.is in
    put_as x.text.now c.refuse_into.result c.refuse_into.new.out l (c.refuse_into.ensures.value, c.refuse_into.ensures.out_after)

pub returns-in-Done : goal.returns-in-Done
returns-in-Done c =
    let x = c.args in
    let l = layer_done x.layer.now x.out.now x.scratch.now c.requires.0 c.requires.1 c.deoverlap.result c.deoverlap.new.out c.deoverlap.new.scratch c.deoverlap.ensures.deoverlap_kept _ _ c.in-Done.is in
    put_as x.text.now c.list_into.result c.list_into.new.out l (c.list_into.ensures.value, c.list_into.ensures.out_after)
