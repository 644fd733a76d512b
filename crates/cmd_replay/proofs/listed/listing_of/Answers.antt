use Rattle.std.proofs.Common.{◌≡◌, ℕ, List, length, IfOk, IfErr, ap, subst}
use Rattle.base_types.specs.Seal.{blocks_of}
use Rattle.disk_memory.specs.MemDisk.{MemDiskState}
use Rattle.lang_tree.specs.Tree.{Tree}
use Rattle.lang_tree.specs.Listing.{listing}
use Rattle.cmd_session.specs.Images.{StandsMounted}
use Rattle.cmd_replay.specs.Images.{RefusesImage}
use Rattle.cmd_replay.proofs.listed.listing_of.Goals as goal

-- the disk begins with the image
pub returns-clause-listed : goal.returns-clause-listed
returns-clause-listed c =
    subst (λ (blocks : List (List ℕ)). IfOk c.list_disk.result (λ text. (tree : Tree) × StandsMounted (length blocks) (blocks_of blocks) tree × (text.items ≡ listing tree))) (ap (λ (d : MemDiskState). d.base) c.in_ok-disk.ensures) c.list_disk.ensures.listed

pub returns-clause-refused : goal.returns-clause-refused
returns-clause-refused c = subst (λ (blocks : List (List ℕ)). IfErr c.list_disk.result (RefusesImage (length blocks) (blocks_of blocks))) (ap (λ (d : MemDiskState). d.base) c.in_ok-disk.ensures) c.list_disk.ensures.refused
