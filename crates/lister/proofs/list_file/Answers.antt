use Rattle.lister.proofs.Printing.{put_as, file_refused, file_done}
use Rattle.lister.proofs.list_file.Goals as goal

pub returns-in-Refused : goal.returns-in-Refused
returns-in-Refused c =
    let l = file_refused c.args.file.now c.args.first.now c.args.scratch.now c.requires.0 c.requires.2 c.fracture.result c.fracture.new.out c.fracture.new.scratch c.fracture.ensures.fracture_kept _ _ c.in-Refused.is in
    put_as c.args.text.now c.refuse_into.result c.refuse_into.new.out l (c.refuse_into.ensures.value, c.refuse_into.ensures.out_after)

pub returns-in-Done : goal.returns-in-Done
returns-in-Done c =
    let l = file_done c.args.file.now c.args.first.now c.args.scratch.now c.requires.0 c.requires.2 c.fracture.result c.fracture.new.out c.fracture.new.scratch c.fracture.ensures.fracture_kept _ _ c.in-Done.is in
    put_as c.args.text.now c.list_layer.result c.list_layer.new.text l c.list_layer.ensures
