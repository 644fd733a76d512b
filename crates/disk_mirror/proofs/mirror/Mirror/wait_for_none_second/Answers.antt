use Rattle.std.proofs.Common.{◌∙◌, sym, subst}
use Rattle.std.proofs.lemmas.Bool.{and_parts}
use Rattle.disk_mirror.specs.Half.{HalfWaits}
use Rattle.disk_mirror.proofs.Causes.{causes_stay}
use Rattle.disk_mirror.proofs.Calls.{of_wait, wait_stays, second_told, second_log, still_given}
use Rattle.disk_mirror.proofs.Unnoticed.{none_waits}
use Rattle.disk_mirror.proofs.mirror.Mirror.wait_for_none_second.Goals as goal

pub invariant_of-self : goal.invariant_of-self
invariant_of-self g c =
    let m = c.args.self.now in
    record {
      size = m.size ∙ sym c.wait.ensures.same.blocks;
      counted = m.counted;
      roomed = m.roomed;
      causes = causes_stay _ _ _ _ _ _ _ _ _ _ (λ on_it. on_it) (wait_stays g.B.Disk.tells _ _ _ _ _ _ _ _ _ c.wait.ensures.step) (λ more. more) m.causes;
      given = still_given m.order.pairs m.a.live m.b.live m.a.live c.wait.new.self.live (λ on_it. on_it) (wait_stays g.B.Disk.tells _ _ _ _ _ _ _ _ _ c.wait.ensures.step) m.given;
      told = λ tells. let t = and_parts g.A.Disk.tells g.B.Disk.tells tells in
          second_told (g.A.Disk.state m.a.disk) (g.B.Disk.state m.b.disk) (g.B.Disk.state c.wait.new.self.disk) m.a.live m.b.live c.wait.new.self.live m.a.end m.b.end c.wait.new.self.end c.len-moment.result m.order c.wait.ensures.same c.len-moment.ensures (c.lawful-2.ensures t.1).log.lawful (of_wait _ _ _ _ _ _ _ _ _ (subst (λ v. HalfWaits v c.len-moment.result 0 c.wait.result m.b.live c.wait.new.self.live m.b.end c.wait.new.self.end (g.B.Disk.state m.b.disk).log (g.B.Disk.state c.wait.new.self.disk).log) t.1 c.wait.ensures.step)) (m.told tells);
    }

pub returns-clause-down : goal.returns-clause-down
returns-clause-down g c = λ tells.
    let m = c.args.self.now in
    let t = and_parts g.A.Disk.tells g.B.Disk.tells tells in
    none_waits _ _ _ _ _ _ _ _ (c.lawful-3.ensures t.1).log.lawful (subst (λ v. HalfWaits v c.len-moment.result 0 c.wait.result m.b.live c.wait.new.self.live m.b.end c.wait.new.self.end (g.B.Disk.state m.b.disk).log (g.B.Disk.state c.wait.new.self.disk).log) t.1 c.wait.ensures.step)

pub returns-clause-log : goal.returns-clause-log
returns-clause-log g c = λ tells.
    let m = c.args.self.now in
    let t = and_parts g.A.Disk.tells g.B.Disk.tells tells in
    second_log (g.A.Disk.state m.a.disk) (g.B.Disk.state m.b.disk) (g.B.Disk.state c.wait.new.self.disk) m.a.live m.b.live c.wait.new.self.live m.a.end m.b.end c.wait.new.self.end c.len-moment.result m.order (of_wait _ _ _ _ _ _ _ _ _ (subst (λ v. HalfWaits v c.len-moment.result 0 c.wait.result m.b.live c.wait.new.self.live m.b.end c.wait.new.self.end (g.B.Disk.state m.b.disk).log (g.B.Disk.state c.wait.new.self.disk).log) t.1 c.wait.ensures.step)) (m.told tells)
