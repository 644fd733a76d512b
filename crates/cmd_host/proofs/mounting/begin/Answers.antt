-- A disk that was just formatted may be mounted, and has the manner that was asked for.
use Rattle.std.proofs.Common.{subst}
use Rattle.cmd_host.specs.Mounting.{Mounts}
use Rattle.cmd_host.specs.Behaving.{Setting}
use Rattle.cmd_host.proofs.MountLemmas.{formatted_in_memory, manner_in_memory}
use Rattle.cmd_host.proofs.mounting.begin.Goals as goal

pub mount-requires : goal.mount-requires
mount-requires c = formatted_in_memory c.args.geom.now c.args.behaviour.now c.in_ok-disk.disk c.in_ok-disk.ensures

pub returns : goal.returns
returns c = subst (λ (set : Setting). Mounts set c.in_ok-mounted.mounted) (manner_in_memory c.args.geom.now c.args.behaviour.now c.in_ok-disk.disk c.in_ok-disk.ensures) c.in_ok-mounted.ensures
