-- Why a command on a file that was found is refused, or isn't; and what becomes of one that puts no bytes.
use Rattle.std.proofs.Common.{◌≡◌, ℕ, ◌+◌, ◌≤◌, ◌==◌, ◌&&◌, nat_lt, Bool, true, false, List, [], ◌∷◌, length, Option, None, Some, Result, Ok, ap, ap₂, ◌∙◌}
use Rattle.std.proofs.lemmas.Bool.{cond-true, le-ltb}
use Rattle.std.proofs.Math.Bool.{and-false}
use Rattle.std.specs.FinMap.{get}
use Rattle.layout_geometry.specs.Geometry.{bitmap_blocks}
use Rattle.engine_blocks.specs.State.{State}
use Rattle.fs_session.specs.Commands.{alone_on, figures_on, shared_on}
use Rattle.base_types.specs.declared.layout.Layout.{Layout}
use Rattle.lang_tree.specs.declared.command.Cmd.TheVariants.{Write}
use Rattle.lang_tree.specs.declared.command.Refusal.{Refusal}
use Rattle.lang_tree.specs.declared.command.Refusal.TheVariants.{IsDir, TooLarge}
use Rattle.lang_tree.specs.declared.command.Reply.TheVariants.{Ok as Done}
use Rattle.lang_tree.specs.Conditions.{least_unused, refusal, when, first_reason, is_too_large}
use Rattle.lang_tree.specs.Figures.{nothing}
use Rattle.lang_tree.specs.Sharing.{figures_over_by, shared_at, writing_over}
use Rattle.lang_tree.specs.Step.{Session, step, answered, written, changed_to, edited}
use Rattle.lang_tree.specs.Tree.{Snapshots}
use Rattle.lang_tree.specs.Walk.{content, refusal_in}
use Rattle.crash_stands.specs.Inodes.{Inodes}
use Rattle.fs_inodes.specs.Lookups.{is_dir_inode, inode_at, walk_on}
use Rattle.fs_inodes.specs.Refusals.{file_reason, write_reason, reason}
use Rattle.std.proofs.Common.{min}
use Rattle.fs_commands.proofs.FirstReason.{first_more}
use Rattle.fs_commands.proofs.Given.{RefusalLaw}
use Rattle.fs_commands.specs.Found.{IsKnownFile}
use Rattle.fs_commands.specs.declared.paths.NodeFound.{NodeFound}
use Rattle.lang_tree.specs.declared.command.Cmd.{Cmd}

-- bytes into a file that a path leads to
pub write_reason_is : (m : Inodes) (path : List (List ℕ)) (k offset n : ℕ) (b : Bool) → walk_on m 1 path ≡ Ok k → is_dir_inode (inode_at m path) ≡ false → (nat_lt 0 n && is_too_large (offset + n)) ≡ b
    → write_reason m path offset n ≡ first_reason (None ∷ when false IsDir ∷ when b TooLarge ∷ [])
write_reason_is m path k offset n b walk dir large =
    ap (λ (r : Result ℕ Refusal). first_reason (refusal_in r ∷ when (is_dir_inode (inode_at m path)) IsDir ∷ when (nat_lt 0 n && is_too_large (offset + n)) TooLarge ∷ [])) walk
    ∙ ap₂ (λ (d l : Bool). first_reason (None ∷ when d IsDir ∷ when l TooLarge ∷ [])) dir large

-- bytes up to the most are not too many
pub not_too_large : (offset n : ℕ) → offset + n ≤ 1073741824 → (nat_lt 0 n && is_too_large (offset + n)) ≡ false
not_too_large offset n fits = ap (λ b. nat_lt 0 n && b) (le-ltb 1073741824 (offset + n) fits) ∙ and-false (nat_lt 0 n)

-- the refusal of a command that puts so many bytes into a file that was found
pub refusal_is : (m : Inodes) (f : Session) (cmd : Cmd) (path : List (List ℕ)) (offset n : ℕ) → RefusalLaw → ((l : Layout) (least : Option ℕ) (kept : Snapshots) → reason l least kept m cmd ≡ write_reason m path offset n) → (found : NodeFound) → IsKnownFile m f path found
    → (b : Bool) → (nat_lt 0 n && is_too_large (offset + n)) ≡ b → refusal f.limit f.tree cmd ≡ first_reason (None ∷ when false IsDir ∷ when b TooLarge ∷ [])
refusal_is m f cmd path offset n law is found k b large = law f.limit m f.tree cmd k.map ∙ is f.limit.layout (least_unused f.limit.nodes f.tree) f.tree.snapshots ∙ write_reason_is m path found.number offset n b k.walk k.file large

-- no bytes change nothing, and take nothing
pub nothing_put : (s : State) (f : Session) (path : List (List ℕ)) (offset : ℕ) (bytes : List ℕ) → refusal f.limit f.tree (Write path offset bytes) ≡ None → (length bytes == 0) ≡ true
    → (step f (Write path offset bytes) ≡ (f, Done)) × (figures_on s f (Write path offset bytes) ≡ nothing)
nothing_put s f path offset bytes accepted none = (
  ap (λ r. answered f (Write path offset bytes) r) accepted ∙ cond-true (length bytes == 0) (f, Done) (changed_to f (edited f.tree path (written offset bytes))) none,
  ap (λ r. figures_over_by (bitmap_blocks s.books.geom) (shared_on s f) (alone_on s f) f.limit f.tree (Write path offset bytes) r) accepted
      ∙ cond-true (length bytes == 0) nothing (writing_over (bitmap_blocks s.books.geom) (shared_at (shared_on s f) (get f.tree.names path)) (length (content f.tree path)) (min offset (length (content f.tree path))) (offset + length bytes)) none,
)

-- a path that leads to no file
pub no_file_to_write : (m : Inodes) (path : List (List ℕ)) (offset n : ℕ) (why : Refusal) → file_reason m path ≡ Some why → write_reason m path offset n ≡ Some why
no_file_to_write m path offset n why e =
    first_more (refusal_in (walk_on m 1 path)) (when (is_dir_inode (inode_at m path)) IsDir) (when (nat_lt 0 n && is_too_large (offset + n)) TooLarge ∷ []) why e
