-- Commands that leave the tree as it was, but for its snapshots.
use Rattle.std.proofs.Common.{◌≡◌, ℕ, true, List, [], length, Option, Some, None, refl, ap, eq-eqb, arith}
use Rattle.std.proofs.lemmas.Bool.{false≢true}
use Rattle.lang_tree.specs.declared.command.Cmd.{Cmd}
use Rattle.lang_tree.specs.declared.command.Cmd.TheVariants.{Write, Fill, Truncate, Rename, Snap, Unsnap}
use Rattle.lang_tree.specs.declared.command.Refusal.{Refusal}
use Rattle.lang_tree.specs.Tree.{Tree, Snapshots}
use Rattle.lang_tree.specs.Conditions.{refusal, least_unused}
use Rattle.lang_tree.specs.Step.{Session, step, answered, snapped_by, changes_snapshots}
use Rattle.crash_stands.specs.Inodes.{Inodes, AFile}
use Rattle.crash_stands.specs.Maps.{IsMapOf}
use Rattle.crash_stands.specs.Walks.{LeadsTo}
use Rattle.fs_inodes.specs.Changes.{looks_alone}
use Rattle.fs_inodes.proofs.basics.Paths.{Path}

-- a command that is refused
pub refused : (s : Session) (cmd : Cmd) (why : Refusal) → refusal s.limit s.tree cmd ≡ Some why → (step s cmd).0 ≡ s
refused s cmd why e = ap (λ r. (answered s cmd r).0) e

-- a command that leaves the session where it is accepted leaves it
left : (s : Session) (cmd : Cmd) → (answered s cmd None).0 ≡ s → (step s cmd).0 ≡ s
left s cmd same = grind (arith, refusal s.limit s.tree cmd, s.limit, s.tree)

-- a command that looks
pub looked : (s : Session) (cmd : Cmd) → looks_alone cmd ≡ true → (step s cmd).0.tree ≡ s.tree
looked s cmd h1 = grind (arith, s.tree, s.changed)

-- a write of no bytes
pub nothing_written : (s : Session) (path : Path) (offset : ℕ) → (step s (Write path offset [])).0 ≡ s
nothing_written s path offset = left s (Write path offset []) refl

-- a fill of no bytes
pub nothing_filled : (s : Session) (path : Path) (offset byte : ℕ) → (step s (Fill path offset 0 byte)).0 ≡ s
nothing_filled s path offset byte = left s (Fill path offset 0 byte) refl

-- a truncate to the size that the file has
pub same_size : (s : Session) (m : Inodes) (path : Path) (n links : ℕ) (bytes : List ℕ) → IsMapOf s.limit.nodes m s.tree → LeadsTo m path n → m n ≡ Some (AFile links bytes) → (step s (Truncate path (length bytes))).0 ≡ s
same_size s m path n links bytes is leads file = grind (arith, s.tree.names, is.shows.names, s.tree, s.tree.nodes, is.shows.nodes, eq-eqb)

-- a move between two paths of one node
pub same_node : (s : Session) (m : Inodes) (from to : Path) (n : ℕ) → IsMapOf s.limit.nodes m s.tree → LeadsTo m from n → LeadsTo m to n → (step s (Rename from to)).0 ≡ s
same_node s m from to n is leads leads_to = grind (arith, s.tree, is.shows.names, eq-eqb)

-- what is the map of a tree is that of one with other snapshots
pub snapshots_aside : (limit : ℕ) (m : Inodes) (t : Tree) (snapshots : Snapshots) → IsMapOf limit m t → IsMapOf limit m (record t { snapshots = snapshots })
snapshots_aside limit m t snapshots is = record {
  root = is.root;
  distinct = is.distinct;
  within = is.within;
  shows = record { names = is.shows.names; nodes = is.shows.nodes; links = is.shows.links; only = is.shows.only; reached = is.shows.reached; used = is.shows.used };
}

snapped_aside : (limit : ℕ) (m : Inodes) (t : Tree) (name : List ℕ) (o : Option ℕ) → IsMapOf limit m t → IsMapOf limit m (snapped_by t name o)
snapped_aside limit m t name None is = is
snapped_aside limit m t name (Some n) is = snapshots_aside limit m t _ is

answered_aside : (s : Session) (m : Inodes) (cmd : Cmd) (r : Option Refusal) → changes_snapshots cmd ≡ true → IsMapOf s.limit.nodes m s.tree → IsMapOf s.limit.nodes m (answered s cmd r).0.tree
answered_aside s m cmd (Some why) changes is = is
answered_aside s m (Snap name) None changes is = snapped_aside s.limit.nodes m s.tree name (least_unused s.limit.nodes s.tree) is
answered_aside s m (Unsnap name) None changes is = snapshots_aside s.limit.nodes m s.tree _ is
answered_aside s m cmd None changes is = absurd (false≢true changes)

-- a snap or an unsnap
pub changed_aside : (s : Session) (m : Inodes) (cmd : Cmd) → changes_snapshots cmd ≡ true → IsMapOf s.limit.nodes m s.tree → IsMapOf s.limit.nodes m (step s cmd).0.tree
changed_aside s m cmd changes is = answered_aside s m cmd (refusal s.limit s.tree cmd) changes is
