-- Each command is refused by the tree for the reason that the inode map gives.
use Rattle.std.proofs.Common.{◌≡◌, ℕ, Bool, ◌&&◌, List, ◌∷◌, length, nat_le, Option, None, if◌then◌else◌, refl, ap, ap₂}
use Rattle.lang_tree.specs.declared.command.Cmd.{Cmd}
use Rattle.lang_tree.specs.declared.command.Cmd.TheVariants.{Mkdir, Create, Write, Fill, Read, Truncate, Link, Unlink, Rmdir, Rename, Stat, List as ListNames, Snap, Unsnap, Snaps, At, Osync, Dsync, Durable, Dwait, Poll, Bad}
use Rattle.lang_tree.specs.declared.command.Look.{Look}
use Rattle.lang_tree.specs.declared.command.Look.TheVariants as look
use Rattle.lang_tree.specs.declared.command.Refusal.{Refusal}
use Rattle.lang_tree.specs.declared.command.Refusal.TheVariants.{Exists, NotDir, IsDir, NotEmpty, BelowItself, TooManyLinks}
use Rattle.lang_tree.specs.Tree.{Bounds, Tree}
use Rattle.lang_tree.specs.Paths.{is_below}
use Rattle.lang_tree.specs.Walk.{refusal_in, walk_refusal, is_dir, thing_at}
use Rattle.lang_tree.specs.Conditions.{when, first_reason, make_refusal, write_refusal, file_refusal, truncate_refusal, link_refusal, rmdir_refusal, onto_refusal, rename_refusal, list_refusal, look_refusal, refusal, least_unused}
use Rattle.crash_stands.specs.Inodes.{Inodes}
use Rattle.fs_inodes.specs.Lookups.{is_dir_inode, inode_at}
use Rattle.fs_inodes.specs.Refusals.{walk_reason, make_reason, write_reason, file_reason, truncate_reason, link_reason, rmdir_reason, onto_reason, rename_reason, list_reason, look_reason, reason}
use Rattle.fs_inodes.specs.TreeLaws.{TreeLaws}
use Rattle.fs_inodes.proofs.basics.Paths.{Path}
use Rattle.fs_inodes.proofs.agreement.Agree.{Agrees}
use Rattle.fs_inodes.proofs.lookups.Walking.{walks, is_dir_given, is_file_given, there_given, same_node_given, parent_given, links_given, holds_given}

-- two lists of reasons with the same first one
first : {a b : Option Refusal} {r q : List (Option Refusal)} → a ≡ b → r ≡ q → (a ∷ r) ≡ (b ∷ q)
first e f = ap₂ (λ x y. x ∷ y) e f

-- the same reasons have the same first one
reasons : {r q : List (Option Refusal)} → r ≡ q → first_reason r ≡ first_reason q
reasons e = ap first_reason e

-- conditions that agree give the reason alike
where_so : {a b : Bool} (why : Refusal) → a ≡ b → when a why ≡ when b why
where_so why e = ap (λ b. when b why) e

module _ (laws : TreeLaws) (limit : ℕ) (m : Inodes) (t : Tree) (a : Agrees limit m t) where
  -- why a walk is refused
  pub walk_given : (path : Path) → walk_refusal t path ≡ walk_reason m path
  walk_given path = ap refusal_in (walks limit m t a path)

  -- that a directory is there
  is_dir_where : (path : Path) → when (is_dir (thing_at t path)) IsDir ≡ when (is_dir_inode (inode_at m path)) IsDir
  is_dir_where path = where_so IsDir (is_dir_given limit m t a path)

  -- bytes that come
  write_given : (path : Path) (offset count : ℕ) → write_refusal t path offset count ≡ write_reason m path offset count
  write_given path offset count = reasons (first (walk_given path) (first (is_dir_where path) refl))

  -- a file alone
  file_given : (path : Path) → file_refusal t path ≡ file_reason m path
  file_given path = reasons (first (walk_given path) (first (is_dir_where path) refl))

  -- a truncate
  truncate_given : (path : Path) (size : ℕ) → truncate_refusal t path size ≡ truncate_reason m path size
  truncate_given path size = reasons (first (walk_given path) (first (is_dir_where path) refl))

  -- an empty directory
  rmdir_given : (path : Path) → rmdir_refusal t path ≡ rmdir_reason m path
  rmdir_given path = reasons (first (walk_given path) (first (where_so NotDir (is_file_given limit m t a path)) (first (where_so NotEmpty (holds_given limit m t a laws path)) refl)))

  -- what a move comes onto
  onto_given : (from to : Path) → onto_refusal t from to ≡ onto_reason m from to
  onto_given from to =
      let dir = is_dir_given limit m t a in
      let file = is_file_given limit m t a in
      reasons (first (where_so NotDir (ap₂ ◌&&◌ (dir from) (file to))) (first (where_so IsDir (ap₂ ◌&&◌ (file from) (dir to)))
      (first (where_so NotEmpty (ap₂ ◌&&◌ (dir from) (ap₂ ◌&&◌ (dir to) (holds_given limit m t a laws to))))
      (first (where_so BelowItself (ap (λ b. b && is_below from to) (dir from))) refl))))

  -- the names of a directory
  list_given : (path : Path) → list_refusal t path ≡ list_reason m path
  list_given path = reasons (first (walk_given path) (first (where_so NotDir (is_file_given limit m t a path)) refl))

  -- a look
  pub look_given : (l : Look) → look_refusal t l ≡ look_reason m l
  look_given (look.Read path offset count) = file_given path
  look_given (look.Stat path) = walk_given path
  look_given (look.List path) = list_given path

module _ (laws : TreeLaws) (limit : Bounds) (m : Inodes) (t : Tree) (a : Agrees limit.nodes m t) where
  -- a new node
  make_given : (path : Path) → make_refusal limit t path ≡ make_reason limit.layout (least_unused limit.nodes t) m path
  make_given path = reasons (first (parent_given limit.nodes m t a path) (first (where_so Exists (there_given limit.nodes m t a path)) refl))

  -- another path
  link_given : (path other : Path) → link_refusal limit.layout t path other ≡ link_reason limit.layout m path other
  link_given path other =
      reasons (first (walk_given laws limit.nodes m t a path) (first (parent_given limit.nodes m t a other) (first (where_so Exists (there_given limit.nodes m t a other))
      (first (is_dir_where laws limit.nodes m t a path) (first (where_so TooManyLinks (ap (nat_le 65535) (links_given limit.nodes m t a laws path))) refl)))))

  -- a move
  rename_given : (from to : Path) → rename_refusal limit.layout t from to ≡ rename_reason limit.layout m from to
  rename_given from to = reasons (first (walk_given laws limit.nodes m t a from) (first (parent_given limit.nodes m t a to)
      (first (ap₂ (λ b r. if b then None else r) (same_node_given limit.nodes m t a from to) (onto_given laws limit.nodes m t a from to)) refl)))

  -- each command
  pub reason_given : (cmd : Cmd) → refusal limit t cmd ≡ reason limit.layout (least_unused limit.nodes t) t.snapshots m cmd
  reason_given (Mkdir path) = make_given path
  reason_given (Create path) = make_given path
  reason_given (Write path offset bytes) = write_given laws limit.nodes m t a path offset (length bytes)
  reason_given (Fill path offset count byte) = write_given laws limit.nodes m t a path offset count
  reason_given (Read path offset count) = file_given laws limit.nodes m t a path
  reason_given (Truncate path size) = truncate_given laws limit.nodes m t a path size
  reason_given (Link path other) = link_given path other
  reason_given (Unlink path) = file_given laws limit.nodes m t a path
  reason_given (Rmdir path) = rmdir_given laws limit.nodes m t a path
  reason_given (Rename from to) = rename_given from to
  reason_given (Stat path) = walk_given laws limit.nodes m t a path
  reason_given (ListNames path) = list_given laws limit.nodes m t a path
  reason_given (Snap name) = refl
  reason_given (Unsnap name) = refl
  reason_given Snaps = refl
  reason_given (At name l) = refl
  reason_given Osync = refl
  reason_given Dsync = refl
  reason_given Durable = refl
  reason_given (Dwait n) = refl
  reason_given Poll = refl
  reason_given Bad = refl
