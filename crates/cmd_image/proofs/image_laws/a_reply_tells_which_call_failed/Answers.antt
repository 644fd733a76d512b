use Rattle.cmd_image.proofs.Counting.{counts_by_reply}
use Rattle.cmd_image.proofs.image_laws.a_reply_tells_which_call_failed.Goals as goal

pub returns : goal.returns
returns g c = λ t old new f cmd reply session applies.
    let counted = counts_by_reply g.S.Blocks.tells g.S.Blocks.state cmd reply old new applies t c.a_tree_in_memory_refuses_for_no_disk.ensures.alone f session in
    record { read_faults = counted.read_faults; faults = counted.faults }
