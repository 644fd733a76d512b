use Rattle.std.proofs.Common.{◌∙◌, refl, sym, []}
use Rattle.std.proofs.lemmas.Bool.{and_parts}
use Rattle.disk_mirror.proofs.Causes.{causes_stay}
use Rattle.disk_mirror.proofs.Calls.{of_read, read_live, reads_second, second_told, still_given}
use Rattle.disk_mirror.proofs.mirror.Mirror.read_second.Goals as goal

pub invariant_of-self : goal.invariant_of-self
invariant_of-self g c =
    let m = c.args.self.now in
    let step = c.read.ensures.step in
    record {
      size = m.size ∙ sym c.read.ensures.same.blocks;
      roomed = m.roomed;
      counted = m.counted;
      causes = causes_stay _ _ _ _ _ _ _ _ _ _ (λ on_it. on_it) (λ on_it. ((of_read _ _ _ _ _ _ [] [] step refl).stays on_it).0) (λ more. more) m.causes;
      given = still_given m.order.pairs m.a.live m.b.live m.a.live c.read.new.self.live (λ on_it. on_it) (λ on_it. ((of_read _ _ _ _ _ _ [] [] step refl).stays on_it).0) m.given;
      told = λ tells.
          let t = and_parts g.A.Disk.tells g.B.Disk.tells tells in
          second_told (g.A.Disk.state m.a.disk) (g.B.Disk.state m.b.disk) (g.B.Disk.state c.read.new.self.disk) m.a.live m.b.live c.read.new.self.live m.a.end m.b.end c.read.new.self.end c.len-moment.result m.order
          c.read.ensures.same c.len-moment.ensures (c.lawful-2.ensures t.1).log.lawful (of_read _ _ _ _ _ _ _ _ step (c.read.ensures.log t.1)) (m.told tells);
    }

pub returns-clause-reads : goal.returns-clause-reads
returns-clause-reads g c = λ tells done.
    let m = c.args.self.now in
    let t = and_parts g.A.Disk.tells g.B.Disk.tells tells in
    reads_second (g.A.Disk.state m.a.disk) (g.B.Disk.state m.b.disk) m.a.live m.b.live m.a.end m.b.end m.order _ c.args.b c.read.new.into c.read.result c.requires (read_live _ _ _ _ _ _ c.read.ensures.step done) (c.read.ensures.reads t.1) done (m.told tells)
