use Rattle.std.proofs.Common.{◌∙◌, refl, []}
use Rattle.std.proofs.lemmas.Bool.{and_parts}
use Rattle.disk_mirror.proofs.Causes.{causes_stay}
use Rattle.disk_mirror.proofs.Calls.{of_read, read_live, reads_first, first_told, still_given}
use Rattle.disk_mirror.proofs.mirror.Mirror.read_first.Goals as goal

pub invariant_of-self : goal.invariant_of-self
invariant_of-self g c =
    let m = c.args.self.now in
    let step = c.read.ensures.step in
    record {
      size = c.read.ensures.same.blocks ∙ m.size;
      roomed = m.roomed;
      counted = m.counted;
      causes = causes_stay _ _ _ _ _ _ _ _ _ _ (λ on_it. ((of_read _ _ _ _ _ _ [] [] step refl).stays on_it).0) (λ on_it. on_it) (λ more. more) m.causes;
      given = still_given m.order.pairs m.a.live m.b.live c.read.new.self.live m.b.live (λ on_it. ((of_read _ _ _ _ _ _ [] [] step refl).stays on_it).0) (λ on_it. on_it) m.given;
      told = λ tells.
          let t = and_parts g.A.Disk.tells g.B.Disk.tells tells in
          first_told (g.A.Disk.state m.a.disk) (g.B.Disk.state m.b.disk) (g.A.Disk.state c.read.new.self.disk) m.a.live m.b.live c.read.new.self.live m.a.end m.b.end c.read.new.self.end c.len-moment.result m.order
          c.read.ensures.same c.len-moment.ensures (c.lawful.ensures t.0).log.lawful (of_read _ _ _ _ _ _ _ _ step (c.read.ensures.log t.0)) (m.told tells);
    }

pub returns-clause-reads : goal.returns-clause-reads
returns-clause-reads g c = λ tells done.
    let m = c.args.self.now in
    let t = and_parts g.A.Disk.tells g.B.Disk.tells tells in
    reads_first (g.A.Disk.state m.a.disk) (g.B.Disk.state m.b.disk) m.a.live m.b.live m.a.end m.b.end m.order _ c.args.b c.read.new.into c.read.result (read_live _ _ _ _ _ _ c.read.ensures.step done) (c.read.ensures.reads t.0) done (m.told tells)
