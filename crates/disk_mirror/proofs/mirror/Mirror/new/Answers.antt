use Rattle.std.proofs.Common.{◌≡◌, rules, ap, sym, subst}
use Rattle.disk_mirror.specs.Mirror.{IsMirror, KeepsRoom}
use Rattle.disk_mirror.specs.Order.{OrderState, has_failed}
use Rattle.disk_mirror.proofs.Begun.{given_new, mirror_new}
use Rattle.disk_mirror.proofs.Made.{keeps_new}
use Rattle.disk_mirror.proofs.Causes.{causes_new}
use Rattle.disk_mirror.proofs.mirror.Mirror.new.Goals as goal

pub invariant_of-result : goal.invariant_of-result
invariant_of-result g c =
    let same : (g.A.Disk.state c.args.a).blocks ≡ (g.B.Disk.state c.args.b).blocks = search rules in
    record {
      size = search rules;
      roomed = subst (KeepsRoom c.args.room) (sym c.in-Ok.ensures) (keeps_new c.args.room);
      counted = λ _. ap (λ (o : OrderState). has_failed o.events) c.in-Ok.ensures;
      causes = causes_new _ _ _ _;
      given = given_new c.new-2.result.live c.new-3.result.live c.args.room c.in-Ok.order c.in-Ok.ensures;
      told = λ tells.
          subst (λ d. ∥ IsMirror (g.A.Disk.state d) (g.B.Disk.state c.new-3.result.disk) c.new-2.result.live c.new-3.result.live c.new-2.result.end c.new-3.result.end c.in-Ok.order ∥₁) (sym c.new-2.ensures.disk)
          (subst (λ d. ∥ IsMirror (g.A.Disk.state c.args.a) (g.B.Disk.state d) c.new-2.result.live c.new-3.result.live c.new-2.result.end c.new-3.result.end c.in-Ok.order ∥₁) (sym c.new-3.ensures.disk)
          (mirror_new (g.A.Disk.state c.args.a) (g.B.Disk.state c.args.b) c.new-2.result.live c.new-3.result.live c.new-2.result.end c.new-3.result.end c.args.room c.in-Ok.order c.new-2.ensures.live c.new-3.ensures.live c.in-Ok.ensures (c.requires.alike tells same) (c.requires.first tells) (c.requires.second tells)));
    }
