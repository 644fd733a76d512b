use Rattle.std.proofs.Common.{Result, subst, sym}
use Rattle.cmd_image.specs.declared.show_refusal.ShowRefusal.{ShowRefusal}
use Rattle.cmd_image.specs.Lent.{disk_of}
use Rattle.cmd_image.proofs.ShowBays.{ShowsBay, shows_bay}
use Rattle.cmd_image.proofs.show.show_tree.Given.{Over}
use Rattle.cmd_image.proofs.show.show_tree.Goals as goal
use Rattle.cmd_image.proofs.show.show_tree.Goals.{After-close_shown}

-- all that is said of the disk that was handed out
whole : (g : Over) (c : After-close_shown g) → ShowsBay g.B.Bay.tells c.args.name.now (g.K.Sink.taken c.args.out.now) (g.K.Sink.taken c.show_disk-left.new.out) c.show_disk-left.result.answer c.close_shown.result (g.B.Bay.state c.args.bay.now) (g.B.Bay.state c.close_shown.new.bay)
whole g c =
    let close = c.close_shown.ensures in
    subst (λ (r : Result (Unit {0}) ShowRefusal). ShowsBay g.B.Bay.tells c.args.name.now (g.K.Sink.taken c.args.out.now) (g.K.Sink.taken c.show_disk-left.new.out) c.show_disk-left.result.answer r (g.B.Bay.state c.args.bay.now) (g.B.Bay.state c.close_shown.new.bay)) (sym close.2)
    (shows_bay (λ lent. g.B.D.Disk.state (disk_of lent)) g.B.Bay.tells c.args.name.now (g.B.Bay.state c.args.bay.now) (g.B.Bay.state c.open_lent.new.bay) (g.B.Bay.state c.close_shown.new.bay) c.in_ok-disk.disk c.show_disk-left.result.disk c.show_disk-left.result.marks.items
    (g.K.Sink.taken c.args.out.now) (g.K.Sink.taken c.show_disk-left.new.out) c.in_ok-disk.ensures (λ t. (c.lawful.ensures t).reads) close.0 close.1 c.show_disk-left.result.answer c.show_disk-left.ensures.shows)

pub returns-clause-refused : goal.returns-clause-refused
returns-clause-refused g c = (whole g c).refused

pub returns-clause-back : goal.returns-clause-back
returns-clause-back g c = (whole g c).back

pub returns-clause-reason : goal.returns-clause-reason
returns-clause-reason g c = (whole g c).reason
