-- What becomes of files and their inodes where a directory has other slots, and where a node loses a link.
use Rattle.std.proofs.Common.{⊎_elim, ◌≡◌, ◌≢◌, ◌⊎◌, inl, inr, ℕ, ◌-◌, ◌==◌, Bool, true, false, List, [], ◌∷◌, slice_get, if◌then◌else◌, Option, Some, None, option_and_then, refl, sym, ap, subst, ◌∙◌}
use Rattle.std.proofs.lemmas.Bool.{cases_eq, true≢false, eqb-true, eq-eqb}
use Rattle.std.proofs.lemmas.Option.{none-some}
use Rattle.base_types.specs.declared.layout.Layout.{Layout}
use Rattle.layout_bytes.specs.declared.node.NodeKind.{NodeKind}
use Rattle.layout_bytes.specs.declared.node.NodeKind.TheVariants.{Free, Dir, File, Snapshot}
use Rattle.layout_bytes.specs.declared.slot.Slot.{Slot}
use Rattle.crash_stands.specs.Files.{Files}
use Rattle.crash_stands.specs.Inodes.{Inode, Inodes, ADir, AFile, IsInodeOf, AreInodesOf, inode_by, inode_of, inodes_of}
use Rattle.fs_inodes.specs.Changes.{one_link_less}
use Rattle.fs_inodes.specs.Lookups.{has_slots, is_list}
use Rattle.fs_files.specs.declared.look.FileFacts.{FileFacts}
use Rattle.fs_files.specs.Calls.{IsUsed}
use Rattle.fs_dirs.specs.Changing.{IsWithSlots}
use Rattle.fs_commands.specs.declared.paths.NodeFound.{NodeFound}
use Rattle.fs_commands.specs.Removing.{IsFound, LosesLink, use_after}
use Rattle.fs_session.specs.declared.unused.NodeUse.{NodeUse}
use Rattle.fs_session.specs.declared.unused.NodeUse.TheVariants.{Dropped, Stays, Taken}
use Rattle.fs_session.specs.Sessions.{KeepsUsed}
use Rattle.fs_commands.proofs.removed.Links.{dir_links}
use Rattle.fs_commands.proofs.looking.InUse.{node_there, own_inode, read_still}

-- a directory in which a slot has a place isn't a node without slots
pub apart : (m : Inodes) (dir node place : ℕ) (slots : List Slot) (s : Slot) → m dir ≡ Some (ADir slots) → slice_get slots place ≡ Some s → has_slots (m node) ≡ false → node ≢ dir
apart m dir node place slots s at slot bare same = true≢false (sym (has_some slots slot) ∙ sym (ap has_slots (ap m same ∙ at)) ∙ bare)
  where
    has_some : (slots : List Slot) → slice_get slots place ≡ Some s → is_list slots ≡ true
    has_some [] e = absurd (none-some s e)
    has_some (x ∷ slots) e = refl

-- A directory with other slots.

module _ (l : Layout) (old new : Files) (dir : ℕ) (slots : List Slot) (set : IsWithSlots l old new dir slots) where
  -- nodes in use stay so
  pub slots_used : (k : ℕ) → IsUsed old k → IsUsed new k
  slots_used k used = ⊎_elim
      (λ e. let x = node_there _ (new k) (ADir slots) (ap (inodes_of l new) e ∙ set.inodes.here) in (x.0, x.1))
      (λ n. (used.0, set.others k n ∙ used.1)) (cases_eq k dir)

  -- another node is as it was found
  pub found_still : (node : NodeFound) → node.number ≢ dir → IsFound old node → IsFound new node
  found_still node other found = record { file = found.file; is = set.others node.number other ∙ found.is; facts = found.facts }

-- A node with one link less.

module _ (l : Layout) (old new : Files) (k : ℕ) (lost : LosesLink l old new k) where
  pub lost_inode : inodes_of l new k ≡ option_and_then one_link_less (inodes_of l old k)
  lost_inode = sym (own_inode _ (new k) (option_and_then one_link_less (inodes_of l old k)) lost.own)

  pub lost_others : (n : ℕ) → n ≢ k → inodes_of l new n ≡ inodes_of l old n
  lost_others n other = ap (option_and_then (inode_of l)) (lost.others n other)

  -- each node in use still reads as an inode
  pub lost_reads : AreInodesOf l old (inodes_of l old) → AreInodesOf l new (inodes_of l new)
  lost_reads = read_still l old new k (subst (λ (i : Option Inode). IsInodeOf l (new k) i) (sym lost_inode) lost.own) lost.others

-- a node with more links than one is in use still
more_left : (lay : Layout) (kind : NodeKind) (links : ℕ) (bytes : List ℕ) (inode : Inode) → links ≢ 1 → inode_by lay kind links bytes ≡ Some inode → (left : Inode) × (one_link_less inode ≡ Some left)
more_left lay Free links bytes inode more reads = absurd (none-some inode reads)
more_left lay Snapshot links bytes inode more reads = absurd (none-some inode reads)
more_left lay Dir links bytes inode more reads = absurd (dir_links _ links bytes inode more reads)
more_left lay File links bytes (ADir slots) more reads = absurd cc
more_left lay File links bytes (AFile l b) more reads = by (l == 1) refl
  where
    same : links ≡ l
    same = cc

    by : (t : Bool) → (l == 1) ≡ t → (left : Inode) × (one_link_less (AFile l b) ≡ Some left)
    by true e = absurd (more (same ∙ eqb-true l 1 e))
    by false e = (AFile (l - 1) b, ap (λ t. if t then None else Some (AFile (l - 1) b)) e)

module _ (l : Layout) (old new : Files) (node : NodeFound) (lost : LosesLink l old new node.number) (found : IsFound old node) (inode : Inode) (shown : inodes_of l old node.number ≡ Some inode) where
  stays_used : node.facts.links ≢ 1 → IsUsed new node.number
  stays_used more =
      let x = found.file in
      let left = more_left l x.kind x.links x.bytes inode (λ e. more (ap (λ (f : FileFacts). f.links) found.facts ∙ e)) (sym (ap (option_and_then (inode_of l)) found.is) ∙ shown) in
      let there = node_there _ (new node.number) left.0 (lost_inode l old new node.number lost ∙ ap (option_and_then one_link_less) shown ∙ left.1) in
      (there.0, there.1)

  -- the other nodes in use stay so, and the node itself where it had more links
  pub lost_used : KeepsUsed (use_after node) old new
  lost_used = by (node.facts.links == 1) refl
    where
      other : (l : ℕ) → l ≢ node.number → IsUsed old l → IsUsed new l
      other l n u = (u.0, lost.others l n ∙ u.1)

      any : (node.facts.links == 1) ≡ false → (l : ℕ) → (l ≡ node.number) ⊎ (l ≢ node.number) → IsUsed old l → IsUsed new l
      any more l (inl e) u = subst (λ (n : ℕ). IsUsed new n) (sym e) (stays_used (λ is. true≢false (sym (eq-eqb node.facts.links 1 is) ∙ more)))
      any more l (inr n) u = other l n u

      by : (t : Bool) → (node.facts.links == 1) ≡ t → KeepsUsed (if t then Dropped node.number else Stays) old new
      by true last = other
      by false more = λ l u. any more l (cases_eq l node.number) u

-- nodes in use that stay so before a change
pub uses_then : (nodes : NodeUse) (a b c : Files) → ((l : ℕ) → IsUsed a l → IsUsed b l) → KeepsUsed nodes b c → KeepsUsed nodes a c
uses_then Stays a b c kept uses = λ l u. uses l (kept l u)
uses_then (Taken number) a b c kept uses = (λ l u. uses.0 l (kept l u), uses.1)
uses_then (Dropped number) a b c kept uses = λ l n u. uses l n (kept l u)
