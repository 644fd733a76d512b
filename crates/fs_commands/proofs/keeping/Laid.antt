-- Over blocks that are laid out as before nodes read as before.
use Rattle.std.proofs.Common.{◌≡◌, ℕ, List, sym, subst, ap}
use Rattle.layout_geometry.specs.Geometry.{Geometry}
use Rattle.layout_bytes.specs.declared.slot.Slot.{Slot}
use Rattle.crash_stands.specs.Files.{Files}
use Rattle.crash_stands.specs.Inodes.{AreInodesOf, inodes_of}
use Rattle.engine_blocks.specs.State.{State}
use Rattle.fs_files.specs.Calls.{files_in}
use Rattle.fs_files.specs.Drafts.{DraftState}
use Rattle.fs_dirs.specs.Changing.{IsWithSlots}
use Rattle.fs_dirs.specs.Directories.{inodes_in}
use Rattle.fs_commands.specs.Removing.{LosesLink}

module _ (s t : State) (same : t.books.geom ≡ s.books.geom) where
  -- the inodes of a draft
  pub inodes_laid : (d : DraftState) → inodes_in t d ≡ inodes_of s.books.geom.layout (files_in t d)
  inodes_laid d = ap (λ (g : Geometry). inodes_of g.layout (files_in t d)) same

  -- a directory with other slots
  pub slots_laid : (old new : Files) (k : ℕ) (slots : List Slot) → IsWithSlots t.books.geom.layout old new k slots → IsWithSlots s.books.geom.layout old new k slots
  slots_laid old new k slots = subst (λ (g : Geometry). IsWithSlots g.layout old new k slots) same

  -- a node with one link less
  pub link_laid : (old new : Files) (k : ℕ) → LosesLink t.books.geom.layout old new k → LosesLink s.books.geom.layout old new k
  link_laid old new k = subst (λ (g : Geometry). LosesLink g.layout old new k) same

  -- that each node in use reads as an inode
  pub reads_laid : (d : DraftState) → AreInodesOf s.books.geom.layout (files_in t d) (inodes_of s.books.geom.layout (files_in t d)) → AreInodesOf t.books.geom.layout (files_in t d) (inodes_in t d)
  reads_laid d = subst (λ (g : Geometry). AreInodesOf g.layout (files_in t d) (inodes_of g.layout (files_in t d))) (sym same)
