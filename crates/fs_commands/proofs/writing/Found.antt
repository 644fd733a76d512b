-- A path that leads to a file, and why another leads to none.
use Rattle.std.proofs.Common.{◌≡◌, ◌≢◌, ℕ, Bool, false, List, [], ◌∷◌, None, Some, Result, Ok, Err, refl, ap, ap₂}
use Rattle.layout_bytes.specs.declared.node.NodeKind.{NodeKind}
use Rattle.layout_bytes.specs.declared.node.NodeKind.TheVariants.{Free, Dir, File, Snapshot}
use Rattle.lang_tree.specs.declared.command.Refusal.{Refusal}
use Rattle.lang_tree.specs.declared.command.Refusal.TheVariants.{IsDir}
use Rattle.lang_tree.specs.Conditions.{when, first_reason}
use Rattle.lang_tree.specs.Walk.{refusal_in}
use Rattle.crash_stands.specs.Inodes.{Inodes}
use Rattle.fs_inodes.specs.Lookups.{is_dir_inode, inode_at, walk_on}
use Rattle.fs_inodes.specs.Refusals.{file_reason}
use Rattle.fs_files.specs.Calls.{is_dir}

-- a node in use that is no directory and no snapshot is a file
pub no_dir : (kind : NodeKind) → kind ≢ Free → kind ≢ Snapshot → is_dir kind ≡ false → kind ≡ File
no_dir Free used other e = absurd (used refl)
no_dir Dir used other e = absurd cc
no_dir File used other e = refl
no_dir Snapshot used other e = absurd (other refl)

-- a walk that leads nowhere
pub walk_fails : (m : Inodes) (path : List (List ℕ)) (why : Refusal) → walk_on m 1 path ≡ Err why → file_reason m path ≡ Some why
walk_fails m path why e = ap (λ (r : Result ℕ Refusal). first_reason (refusal_in r ∷ when (is_dir_inode (inode_at m path)) IsDir ∷ [])) e

-- one that leads to a directory, or to a file
pub walk_ends : (m : Inodes) (path : List (List ℕ)) (k : ℕ) (b : Bool) → walk_on m 1 path ≡ Ok k → is_dir_inode (inode_at m path) ≡ b → file_reason m path ≡ first_reason (None ∷ when b IsDir ∷ [])
walk_ends m path k b e d = ap₂ (λ (r : Result ℕ Refusal) (c : Bool). first_reason (refusal_in r ∷ when c IsDir ∷ [])) e d
