use Rattle.std.proofs.Common.{rules, ◌≤◌, inr, subst}
use Rattle.layout_journal.specs.declared.header.Header.{Header}
use Rattle.engine_recover.specs.Epoch.{IsGreatestEpoch}
use Rattle.engine_mount.specs.Mount.{settled_on}
use Rattle.engine_mount.proofs.Founds.{idle_gives}
use Rattle.engine_mount.proofs.found.epoch_on.Goals as goal

pub returns-then-epoch-ge-SPENT_AT_MOUNT-clause-refused : goal.returns-then-epoch-ge-SPENT_AT_MOUNT-clause-refused
returns-then-epoch-ge-SPENT_AT_MOUNT-clause-refused g c = λ tells idle found.
    let value = subst (λ (k : Header). IsGreatestEpoch k.geom (settled_on (g.D.Disk.state c.args.disk.now)) c.in-Ok.epoch) c.header.ensures (c.in-Ok.ensures.value (settled_on (g.D.Disk.state c.args.disk.now)) (idle_gives c.a_read_gives_what_was_written_last.ensures.idle g.D.Disk.tells (g.D.Disk.state c.args.disk.now) tells idle)) in
    let high : 9223372036854775792 ≤ c.in-Ok.epoch = search rules in
    (record { found = c.args.run.now; is_found = found; at_end = inr (c.in-Ok.epoch, value, high) }, c.greatest_epoch.ensures.reads.log tells)

pub returns-clause-value : goal.returns-clause-value
returns-clause-value g c = λ tells idle. subst (λ (k : Header). IsGreatestEpoch k.geom (settled_on (g.D.Disk.state c.args.disk.now)) c.in-Ok.epoch) c.header.ensures (c.in-Ok.ensures.value (settled_on (g.D.Disk.state c.args.disk.now)) (idle_gives c.a_read_gives_what_was_written_last.ensures.idle g.D.Disk.tells (g.D.Disk.state c.args.disk.now) tells idle))
