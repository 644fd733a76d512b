use Rattle.std.proofs.Common.{inl, inr, sym, ap, ◌∙◌, subst}
use Rattle.layout_geometry.specs.Geometry.{Geometry}
use Rattle.disk_memory.specs.MemDisk.{MemDiskState, state_of as disk_state}
use Rattle.cmd_host.specs.Disks.{HasFault, HoldsRoot}
use Rattle.cmd_host.specs.Mounting.{Mounts}
use Rattle.cmd_host.proofs.mounting.unread.Goals as goal

pub failed-requires : goal.failed-requires
failed-requires c = record {
  holds = subst (λ (d : MemDiskState). HoldsRoot c.args.geom.now (disk_state d)) (sym c.into_disk.ensures.disk) (record {
    began = record { size = c.disk.ensures.size ∙ ap (λ (k : Geometry). k.n) c.requires.shows.geom; base = c.requires.shows.base };
    images = c.requires.shows.images;
    most = inr (inr c.requires.shows.first);
  });
  fault = subst (λ (d : MemDiskState). HasFault (disk_state d)) (sym c.into_disk.ensures.disk) (inl c.requires.read);
}

pub returns : goal.returns
returns c = subst (λ (d : MemDiskState). Mounts (record { shape = c.args.geom.now; manner = (disk_state d).manner }) c.failed.result) c.into_disk.ensures.disk c.failed.ensures
