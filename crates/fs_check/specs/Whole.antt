-- What the whole check answers: what is broken, and where. It is described in docs/FSCK.md.
use Rattle.std.specs.Prelude.{⊤, Bool, true, false, Result, Ok, Err}
use Rattle.base_types.specs.Seal.{Blocks}
use Rattle.layout_geometry.specs.Geometry.{Geometry}
use Rattle.crash_stands.specs.Bounds.{bounds_of}
use Rattle.crash_stands.specs.Files.{files_of}
use Rattle.fs_check.specs.declared.block_damage.BlocksRefusal.{BlocksRefusal}
use Rattle.fs_check.specs.declared.block_damage.BlocksRefusal.TheVariants as blocks
use Rattle.fs_check.specs.declared.damage.TreeRefusal.{TreeRefusal}
use Rattle.fs_check.specs.declared.damage.TreeRefusal.TheVariants as tree
use Rattle.fs_check.specs.declared.checking.Damage.{Damage}
use Rattle.fs_check.specs.declared.checking.Damage.TheVariants as damage
use Rattle.fs_check.specs.declared.checking.CheckRefusal.{CheckRefusal}
use Rattle.fs_check.specs.declared.checking.CheckRefusal.TheVariants as refusal
use Rattle.fs_check.specs.Broken.{IsBroken as IsBrokenBlock}
use Rattle.fs_check.specs.BrokenSnapshots.{IsBroken as IsBrokenSnapshot}
use Rattle.fs_check.specs.Damage.{IsBroken as IsBrokenTree}

-- the damage is there: in the blocks, in a snapshot, or among the nodes of these blocks
abbrev pub IsDamaged : Geometry → Blocks → Damage → Type 0
IsDamaged g m (damage.Blocks what) = IsBrokenBlock g m what
IsDamaged g m (damage.Snapshot what) = IsBrokenSnapshot g m what
IsDamaged g m (damage.Tree what) = IsBrokenTree (bounds_of g) (files_of g m) what

-- what must hold of the damage, where there is one
abbrev pub OnDamage : CheckRefusal → (Damage → Type 0) → Type 0
OnDamage (refusal.Damaged what) P = P what
OnDamage refusal.ReadFault P = ⊤
OnDamage refusal.NoMemory P = ⊤

-- whether the check ended by a failed read
abbrev pub fails_by : CheckRefusal → Bool
fails_by (refusal.Damaged what) = false
fails_by refusal.ReadFault = true
fails_by refusal.NoMemory = false

abbrev pub fails_reading : {T : Type 0} → Result T CheckRefusal → Bool
fails_reading (Ok x) = false
fails_reading (Err why) = fails_by why

-- why the whole check ends where one of its parts does
abbrev pub of_blocks : BlocksRefusal → CheckRefusal
of_blocks (blocks.Damaged what) = refusal.Damaged (damage.Blocks what)
of_blocks blocks.ReadFault = refusal.ReadFault
of_blocks blocks.NoMemory = refusal.NoMemory

abbrev pub of_tree : TreeRefusal → CheckRefusal
of_tree (tree.Damaged what) = refusal.Damaged (damage.Tree what)
of_tree tree.ReadFault = refusal.ReadFault
of_tree tree.NoMemory = refusal.NoMemory
