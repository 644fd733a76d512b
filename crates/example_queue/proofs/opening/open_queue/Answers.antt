use Rattle.std.proofs.Common.{None}
use Rattle.example_queue.proofs.opening.open_queue.Goals as goal

pub returns-in-Ok-clause-opened : goal.returns-in-Ok-clause-opened
returns-in-Ok-clause-opened g c = λ told.
    let on = c.in-Ok.ensures.mounted in
    c.open_files.ensures.opened told (g.D.Disk.state c.args.disk) on (c.in-Ok.ensures.begins told _ _ (on.held told).holds)

pub returns-in-Ok-clause-refused : goal.returns-in-Ok-clause-refused
returns-in-Ok-clause-refused g c = λ told. c.open_files.ensures.refused told (g.D.Disk.state c.args.disk) c.in-Ok.ensures.mounted

pub returns-clause-refused : goal.returns-clause-refused
returns-clause-refused g c = λ told. (c.in-Err.ensures.refused None).says told
