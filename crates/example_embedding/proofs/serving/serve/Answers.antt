use Rattle.std.proofs.Common.{None}
use Rattle.example_embedding.proofs.Mounting.{refused_so}
use Rattle.example_embedding.proofs.serving.serve.Goals as goal

pub returns-in-Ok-clause-answered : goal.returns-in-Ok-clause-answered
returns-in-Ok-clause-answered g c = λ told.
    let on = c.in-Ok.ensures.mounted in
    c.serve_store.ensures.answered told (g.D.Disk.state c.args.disk) on (c.in-Ok.ensures.begins told _ _ (on.held told).holds)

pub returns-in-Ok-clause-refused : goal.returns-in-Ok-clause-refused
returns-in-Ok-clause-refused g c = c.serve_store.ensures.refused (g.D.Disk.state c.args.disk) c.in-Ok.ensures.mounted

pub returns-in-Err-clause-refused : goal.returns-in-Err-clause-refused
returns-in-Err-clause-refused g c = refused_so g.D.Disk.tells (g.D.Disk.state c.args.disk) _ _ (c.in-Err.ensures.refused None)
