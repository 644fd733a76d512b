-- What the whole check answers, from what its parts do, over plain variables.
use Rattle.std.proofs.Common.{◌≡◌, sym, subst}
use Rattle.base_types.specs.Seal.{Blocks}
use Rattle.layout_geometry.specs.Geometry.{Geometry}
use Rattle.lang_tree.specs.Tree.{Tree}
use Rattle.crash_stands.specs.Bounds.{bounds_of}
use Rattle.crash_stands.specs.Files.{files_of}
use Rattle.crash_stands.specs.Stands.{IsTreeOf}
use Rattle.engine_blocks.specs.State.{Bookkeeping, State}
use Rattle.fs_check.specs.declared.block_damage.BlockDamage.{BlockDamage}
use Rattle.fs_check.specs.declared.checking.CheckRefusal.{CheckRefusal}
use Rattle.fs_check.specs.declared.checking.CheckRefusal.TheVariants as check
use Rattle.fs_check.specs.declared.checking.Damage.TheVariants as damage
use Rattle.fs_check.specs.declared.damage.TreeDamage.{TreeDamage}
use Rattle.fs_check.specs.declared.damage.TreeRefusal.{TreeRefusal}
use Rattle.fs_check.specs.declared.damage.TreeRefusal.TheVariants as tree
use Rattle.fs_check.specs.declared.snapshot_damage.SnapshotDamage.{SnapshotDamage}
use Rattle.fs_check.specs.Broken.{IsBroken as IsBrokenBlock}
use Rattle.fs_check.specs.BrokenSnapshots.{IsBroken as IsBrokenSnapshot}
use Rattle.fs_check.specs.Damage.{IsBroken as IsBrokenTree}
use Rattle.fs_check.specs.Reading.{IfDamaged}
use Rattle.fs_check.specs.Whole.{IsDamaged, OnDamage, of_tree}

-- what holds of blocks that weren't changed held of them before
pub held_before : (P : Geometry → Blocks → Type 0) (s t : State) → t.books ≡ s.books → t.map ≡ s.map → P t.books.geom t.map → P s.books.geom s.map
held_before P s t books map p = subst (λ (k : Bookkeeping). P k.geom s.map) books (subst (P t.books.geom) map p)

-- and what held of them holds
pub held_after : (P : Geometry → Blocks → Type 0) (s t : State) → t.books ≡ s.books → t.map ≡ s.map → P s.books.geom s.map → P t.books.geom t.map
held_after P s t books map p = held_before P t s (sym books) (sym map) p

-- a damage of the tree is one of the whole
pub tree_damage : (g : Geometry) (m : Blocks) (why : TreeRefusal) → IfDamaged why (IsBrokenTree (bounds_of g) (files_of g m)) → OnDamage (of_tree why) (IsDamaged g m)
tree_damage g m (tree.Damaged what) h = h
tree_damage g m tree.ReadFault h = tt
tree_damage g m tree.NoMemory h = tt

-- no tree stands where something is damaged
pub none_stands : (g : Geometry) (m : Blocks) (why : CheckRefusal)
    → ((what : BlockDamage) (t : Tree) → IsBrokenBlock g m what → IsTreeOf g m t → ⊥)
    → ((what : SnapshotDamage) (t : Tree) → IsBrokenSnapshot g m what → IsTreeOf g m t → ⊥)
    → ((what : TreeDamage) (t : Tree) → IsBrokenTree (bounds_of g) (files_of g m) what → IsTreeOf g m t → ⊥)
    → OnDamage why (IsDamaged g m) → OnDamage why (λ _. (t : Tree) → IsTreeOf g m t → ⊥)
none_stands g m (check.Damaged (damage.Blocks what)) blocks snapshots tree h = λ t stands. blocks what t h stands
none_stands g m (check.Damaged (damage.Snapshot what)) blocks snapshots tree h = λ t stands. snapshots what t h stands
none_stands g m (check.Damaged (damage.Tree what)) blocks snapshots tree h = λ t stands. tree what t h stands
none_stands g m check.ReadFault blocks snapshots tree h = tt
none_stands g m check.NoMemory blocks snapshots tree h = tt
