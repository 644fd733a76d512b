-- Nodes in use, and the inodes that they read as.
use Rattle.std.proofs.Common.{⊎_elim, ◌≡◌, ◌≢◌, ℕ, Option, None, Some, option_and_then, refl, sym, ap, subst, ◌∙◌}
use Rattle.std.proofs.lemmas.Bool.{cases_eq}
use Rattle.std.proofs.lemmas.Option.{none-some}
use Rattle.base_types.specs.declared.layout.Layout.{Layout}
use Rattle.crash_stands.specs.Files.{FileNode, Files}
use Rattle.crash_stands.specs.Inodes.{Inode, Inodes, IsInodeOf, AreInodesOf, inode_by, inode_of, inodes_of}
use Rattle.fs_files.specs.Calls.{IsUsed, IsWithFile}
use Rattle.fs_commands.specs.Looks.{IsNoSnapshot}

-- an inode is that of a node in use
pub node_there : (lay : Layout) (o : Option FileNode) (i : Inode) → option_and_then (inode_of lay) o ≡ Some i → (x : FileNode) × (o ≡ Some x) × (inode_of lay x ≡ Some i)
node_there lay None i e = absurd (none-some i e)
node_there lay (Some x) i e = (x, refl, e)

-- what a node is to read as is what it reads as
pub own_inode : (lay : Layout) (o : Option FileNode) (i : Option Inode) → IsInodeOf lay o i → i ≡ option_and_then (inode_of lay) o
own_inode lay None i e = e
own_inode lay (Some x) None e = sym (ap (λ kind. inode_by lay kind x.links x.bytes) e)
own_inode lay (Some x) (Some inode) e = sym e

-- so where the nodes in use read as those of a map, each reads as an inode
pub all_read : (l : Layout) (files : Files) (m : Inodes) → AreInodesOf l files m → AreInodesOf l files (inodes_of l files)
all_read l files m reads k = subst (λ (i : Option Inode). IsInodeOf l (files k) i) (own_inode _ (files k) (m k) (reads k)) (reads k)

-- nodes in use stay so where one became another
pub still_used : (old new : Files) (k : ℕ) (x : FileNode) → IsWithFile old new k (Some x) → (l : ℕ) → IsUsed old l → IsUsed new l
still_used old new k x set l used = ⊎_elim
    (λ e. (x, ap new e ∙ set.own))
    (λ n. (used.0, set.others l n ∙ used.1)) (cases_eq l k)

-- and each reads as an inode still where that one does
pub read_still : (l : Layout) (old new : Files) (k : ℕ) → IsInodeOf l (new k) (inodes_of l new k) → ((n : ℕ) → n ≢ k → new n ≡ old n) → AreInodesOf l old (inodes_of l old) → AreInodesOf l new (inodes_of l new)
read_still l old new k own others reads n = ⊎_elim
    (λ e. subst (λ i. IsInodeOf l (new i) (inodes_of l new i)) (sym e) own)
    (λ other. subst (λ (o : Option FileNode). IsInodeOf l o (option_and_then (inode_of l) o)) (sym (others n other)) (reads n)) (cases_eq n k)

-- what reads as an inode is no snapshot
pub no_snapshot : (lay : Layout) (o : Option FileNode) (i : Inode) → option_and_then (inode_of lay) o ≡ Some i → IsNoSnapshot o
no_snapshot lay o i reads x is kind = none-some i (sym (ap (λ k. inode_by lay k x.links x.bytes) kind) ∙ sym (ap (option_and_then (inode_of lay)) is) ∙ reads)
