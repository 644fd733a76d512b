-- What the image of a disk is to whoever mounts it: whether it can be mounted, for which tree it stands, and what is broken where it stands for none. An image is that of a disk of n blocks on which nothing is pending. It is described in docs/SHOWING.md.
use Rattle.std.specs.Prelude.{ℕ, []}
use Rattle.base_types.specs.Seal.{Blocks}
use Rattle.disk_contract.specs.Disk.{State}
use Rattle.disk_contract.specs.Manner.{any_manner}
use Rattle.layout_journal.specs.declared.header.Header.{Header}
use Rattle.layout_journal.specs.Run.{Newest, HeldIs}
use Rattle.lang_tree.specs.Tree.{Tree}
use Rattle.crash_stands.specs.Stands.{StandsFor}
use Rattle.engine_mount.specs.Mount.{FoundDisk}
use Rattle.engine_store.specs.Refusal as store
use Rattle.fs_check.specs.declared.checking.Damage.{Damage}
use Rattle.fs_check.specs.Whole as fsck
use Rattle.cmd_session.specs.declared.images.ImageDamage.{ImageDamage}
use Rattle.cmd_session.specs.declared.images.ImageDamage.TheVariants.{NoHeader, BadBit, Broken}

-- a disk that begins with this image: all is settled, no call of it was made, and nothing is known of how it behaves
abbrev pub resting : ℕ → Blocks → State
resting n at = record { blocks = n; base = at; log = []; faults = 0; read_faults = 0; waits = 0; polls = 0; manner = any_manner }

-- neither header slot has a header
abbrev pub HasNoHeader : ℕ → Blocks → Type 0
HasNoHeader n at = (slot : ℕ) (h : Header) → ¬ Newest n at slot h

-- this was found in the image: a newest header, its run and the greatest epoch, and none of their numbers is at its end
abbrev pub HasNumbersLeft : ℕ → Blocks → FoundDisk → Type 0
HasNumbersLeft n at found = store.HasNumbersLeft (resting n at) found

-- it has a header with numbers left, and this is the least block whose bit is wrong in the bitmap that the run leaves
abbrev pub HasBadBit : ℕ → Blocks → ℕ → Type 0
HasBadBit n at b = store.HasBadBit (resting n at) b

-- it has a header with numbers left, and no bit is wrong
abbrev pub CanBeMounted : ℕ → Blocks → Type 0
CanBeMounted n at = store.MayBeMounted (resting n at)

-- It can be mounted, and this is broken in the map of blocks that it holds.
pub record HasBroken (n : ℕ) (at : Blocks) (what : Damage) : Type 0 where
  pub mountable : CanBeMounted n at
  pub map : Blocks
  pub held : HeldIs n at map
  pub broken : fsck.IsDamaged held.header.geom map what

-- the damage is there, and none that a mount meets before it
abbrev pub HasDamage : ℕ → Blocks → ImageDamage → Type 0
HasDamage n at NoHeader = HasNoHeader n at
HasDamage n at (BadBit b) = HasBadBit n at b
HasDamage n at (Broken what) = HasBroken n at what

-- something is broken
abbrev pub IsDamaged : ℕ → Blocks → Type 0
IsDamaged n at = (damage : ImageDamage) × HasDamage n at damage

-- the image stands for no tree
abbrev pub StandsForNone : ℕ → Blocks → Type 0
StandsForNone n at = (t : Tree) → ¬ StandsFor n at t

-- It can be mounted, and stands for this tree.
pub record StandsMounted (n : ℕ) (at : Blocks) (t : Tree) : Type 0 where
  pub mountable : CanBeMounted n at
  pub stands : StandsFor n at t
