use Rattle.std.proofs.Common.{◌∙◌, ap₂, List, ℕ}
use Rattle.fs_memtree.specs.declared.snapshots.Snapshot.{Snapshot}
use Rattle.fs_memtree.specs.Snapshots.{KeptSnapshots}
use Rattle.fs_memtree.proofs.keys.Snaps.{put_all, put_all_makes}
use Rattle.fs_memtree.proofs.snapshots.Snapshots.copy.Goals as goal

pub loop-name-init : goal.loop-name-init
loop-name-init c =
    let started = c.into_iter-name-iterator.ensures.into_iter_gives in
    ap₂ (λ (m : KeptSnapshots) (es : List (List ℕ × Snapshot)). put_all m es) c.new-copy.ensures started.0
    ∙ put_all_makes c.self.inside.entries.entries c.args.self.now started.5 c.self.view_is
