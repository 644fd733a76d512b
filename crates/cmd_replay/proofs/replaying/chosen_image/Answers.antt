-- A write that isn't pending was named, so the choice can't be made.
use Rattle.std.proofs.Common.{subst}
use Rattle.disk_memory.specs.Choice.{Refuses}
use Rattle.cmd_replay.proofs.CrashImages.{unpending}
use Rattle.cmd_replay.proofs.replaying.chosen_image.Goals as goal

pub returns-in-Err-NotPending-clause-refused : goal.returns-in-Err-NotPending-clause-refused
returns-in-Err-NotPending-clause-refused c =
    let refused = subst (Refuses c.args.choice.now c.args.moment c.args.disk.now.log) c.in-Err-NotPending.field-0-is c.in-Err-NotPending.ensures.image in
    unpending c.args.choice.now c.args.moment c.args.disk.now.log c.in-Err-NotPending.field-0-0 refused.1
