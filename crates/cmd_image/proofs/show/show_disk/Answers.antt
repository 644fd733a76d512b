use Rattle.std.proofs.Common.{Err, List, subst, sym}
use Rattle.disk_contract.specs.declared.bay.Mark.{Mark}
use Rattle.cmd_image.specs.Mounted.{ShowsDisk}
use Rattle.cmd_image.proofs.show.show_disk.Goals as goal

pub returns-in-Ok-clause-shows : goal.returns-in-Ok-clause-shows
returns-in-Ok-clause-shows g c = c.show_store.ensures.shows (g.D.Disk.state c.args.disk) c.in-Ok.ensures.mounted

pub returns-in-Err-clause-shows : goal.returns-in-Err-clause-shows
returns-in-Err-clause-shows g c =
    subst (λ (ms : List Mark). ShowsDisk {T = Unit {0}} g.D.Disk.tells (g.D.Disk.state c.args.disk) (g.D.Disk.state c.in-Err.disk) ms (g.K.Sink.taken c.args.out.now) (g.K.Sink.taken c.args.out.now) (Err c.in-Err.why)) (sym c.requires.empty)
    (c.in-Err.ensures.refused (g.K.Sink.taken c.args.out.now))
