use Rattle.std.proofs.Common.{◌∙◌, subst}
use Rattle.std.proofs.lemmas.Bool.{and_parts}
use Rattle.disk_mirror.specs.Half.{HalfWaits}
use Rattle.disk_mirror.proofs.Causes.{causes_stay}
use Rattle.disk_mirror.proofs.Calls.{of_wait, wait_stays, first_told, first_log, still_given}
use Rattle.disk_mirror.proofs.Unnoticed.{none_waits}
use Rattle.disk_mirror.proofs.mirror.Mirror.wait_for_none_first.Goals as goal

pub invariant_of-self : goal.invariant_of-self
invariant_of-self g c =
    let m = c.args.self.now in
    record {
      size = c.wait.ensures.same.blocks ∙ m.size;
      counted = m.counted;
      roomed = m.roomed;
      causes = causes_stay _ _ _ _ _ _ _ _ _ _ (wait_stays g.A.Disk.tells _ _ _ _ _ _ _ _ _ c.wait.ensures.step) (λ on_it. on_it) (λ more. more) m.causes;
      given = still_given m.order.pairs m.a.live m.b.live c.wait.new.self.live m.b.live (wait_stays g.A.Disk.tells _ _ _ _ _ _ _ _ _ c.wait.ensures.step) (λ on_it. on_it) m.given;
      told = λ tells. let t = and_parts g.A.Disk.tells g.B.Disk.tells tells in
          first_told (g.A.Disk.state m.a.disk) (g.B.Disk.state m.b.disk) (g.A.Disk.state c.wait.new.self.disk) m.a.live m.b.live c.wait.new.self.live m.a.end m.b.end c.wait.new.self.end c.len-moment.result m.order c.wait.ensures.same c.len-moment.ensures (c.lawful.ensures t.0).log.lawful (of_wait _ _ _ _ _ _ _ _ _ (subst (λ v. HalfWaits v c.len-moment.result 0 c.wait.result m.a.live c.wait.new.self.live m.a.end c.wait.new.self.end (g.A.Disk.state m.a.disk).log (g.A.Disk.state c.wait.new.self.disk).log) t.0 c.wait.ensures.step)) (m.told tells);
    }

pub returns-clause-down : goal.returns-clause-down
returns-clause-down g c = λ tells.
    let m = c.args.self.now in
    let t = and_parts g.A.Disk.tells g.B.Disk.tells tells in
    none_waits _ _ _ _ _ _ _ _ (c.lawful-3.ensures t.0).log.lawful (subst (λ v. HalfWaits v c.len-moment.result 0 c.wait.result m.a.live c.wait.new.self.live m.a.end c.wait.new.self.end (g.A.Disk.state m.a.disk).log (g.A.Disk.state c.wait.new.self.disk).log) t.0 c.wait.ensures.step)

pub returns-clause-log : goal.returns-clause-log
returns-clause-log g c = λ tells.
    let m = c.args.self.now in
    let t = and_parts g.A.Disk.tells g.B.Disk.tells tells in
    first_log (g.A.Disk.state m.a.disk) (g.B.Disk.state m.b.disk) (g.A.Disk.state c.wait.new.self.disk) m.a.live m.b.live c.wait.new.self.live m.a.end m.b.end c.wait.new.self.end c.len-moment.result m.order (of_wait _ _ _ _ _ _ _ _ _ (subst (λ v. HalfWaits v c.len-moment.result 0 c.wait.result m.a.live c.wait.new.self.live m.a.end c.wait.new.self.end (g.A.Disk.state m.a.disk).log (g.A.Disk.state c.wait.new.self.disk).log) t.0 c.wait.ensures.step)) (m.told tells)
