-- What each command that answers no point answers, from inodes.
use Rattle.std.proofs.Common.{◌≡◌, ℕ, ◌*◌, ◌==◌, Bool, false, true≢false, if◌then◌else◌, List, length, take, drop, replicate, Option, Some, None, option_map, option_and_then, refl, sym, ap, ◌∙◌, arith}
use Rattle.std.specs.FinMap.{get}
use Rattle.layout_bytes.specs.declared.slot.Slot.{Slot}
use Rattle.lang_tree.specs.declared.command.Cmd.{Cmd}
use Rattle.lang_tree.specs.declared.command.Cmd.TheVariants.{Mkdir, Create, Write, Fill, Read, Truncate, Link, Unlink, Rmdir, Rename, Stat, List as ListNames, Snap, Unsnap, Snaps, At, Osync, Dsync, Durable, Dwait, Poll, Bad}
use Rattle.lang_tree.specs.declared.command.Look.{Look}
use Rattle.lang_tree.specs.declared.command.Look.TheVariants as look
use Rattle.lang_tree.specs.declared.command.Kind.TheVariants.{Dir as DirKind, File as FileKind}
use Rattle.lang_tree.specs.declared.command.Reply.TheVariants.{Ok as Done, Bytes, Stat as StatReply, Names as NamesReply}
use Rattle.lang_tree.specs.declared.command.Refusal.{Refusal}
use Rattle.lang_tree.specs.Tree.{Tree}
use Rattle.lang_tree.specs.Names.{names_in}
use Rattle.lang_tree.specs.Walk.{content, is_same_node}
use Rattle.lang_tree.specs.Conditions.{refusal, least_unused}
use Rattle.lang_tree.specs.Points.{answers_point}
use Rattle.lang_tree.specs.Step.{Session, step, answered, accepted, changed_to, edited, written, resized, moved, removed, stat_of, stat, seen}
use Rattle.crash_stands.specs.Inodes.{Inode, Inodes, ADir, AFile, thing_of}
use Rattle.fs_inodes.specs.Lookups.{slots_of, inode_at}
use Rattle.fs_inodes.specs.Names.{names_of, stat_by, stat_at, stat_in}
use Rattle.fs_inodes.specs.Replies.{shown, accepted_reply, reply_by, reply_of}
use Rattle.fs_inodes.specs.TreeLaws.{TreeLaws}
use Rattle.fs_inodes.proofs.basics.Paths.{Path}
use Rattle.fs_inodes.proofs.agreement.Agree.{Agrees}
use Rattle.fs_inodes.proofs.lookups.Walking.{number_given, content_given}
use Rattle.fs_inodes.proofs.lookups.Reasons.{reason_given}
use Rattle.fs_inodes.proofs.lookups.Rows.{names_are, names_count}

module _ (limit : ℕ) (m : Inodes) (t : Tree) (a : Agrees limit m t) where
  -- the inode at a path is the one under its number
  here : (path : Path) (n : ℕ) (o : Option Inode) → get t.names path ≡ Some n → m n ≡ o → inode_at m path ≡ o
  here path n o at is = ap (option_and_then m) (sym (number_given limit m t a path) ∙ at) ∙ is

  -- the names of a directory are those of its slots in order
  pub names_here : (path : Path) (n : ℕ) (slots : List Slot) → get t.names path ≡ Some n → m n ≡ Some (ADir slots) → names_in t.names path ≡ names_of slots
  names_here path n slots at is = names_are limit m t a path ∙ ap (λ o. names_of (slots_of o)) (here path n (Some (ADir slots)) at is)

  -- what a stat answers of an inode
  stat_inode : (path : Path) (n : ℕ) → get t.names path ≡ Some n → (o : Option Inode) → m n ≡ o → stat_of t path n (option_map thing_of o) ≡ stat_by n o
  stat_inode path n at None is = refl
  stat_inode path n at (Some (ADir slots)) is =
      ap (λ k. StatReply (record { kind = DirKind; number = n; size = 64 * k; links = 1 })) (names_count limit m t a path ∙ ap (λ o. length (slots_of o)) (here path n (Some (ADir slots)) at is))
  stat_inode path n at (Some (AFile links bytes)) is = ap (λ l. StatReply (record { kind = FileKind; number = n; size = length bytes; links = l })) (a.links n links bytes is)

  -- and at a path
  pub stat_given : (path : Path) → stat t path ≡ stat_in m path
  stat_given path = grind (arith, get t.names path, stat_at m, number_given limit m t a path, t.names, a.nodes, stat_inode)

  -- what a look shows
  pub shown_given : (l : Look) → seen t l ≡ shown m l
  shown_given (look.Read path offset count) = ap (λ bytes. Bytes (take count (drop offset bytes))) (content_given limit m t a path)
  shown_given (look.Stat path) = stat_given path
  shown_given (look.List path) = ap NamesReply (names_are limit m t a path)

-- done, whether something changed or not
either_done : (s : Session) (t : Tree) (b : Bool) → (if b then (s, Done) else changed_to s t).1 ≡ Done
either_done s t b = grind arith

module _ (laws : TreeLaws) (s : Session) (m : Inodes) (a : Agrees s.limit.nodes m s.tree) where
  -- the reply of a command that isn't refused
  accepted_given : (cmd : Cmd) → answers_point cmd ≡ false → (accepted s cmd).1 ≡ accepted_reply s.tree.snapshots m cmd
  accepted_given (Mkdir path) e = refl
  accepted_given (Create path) e = refl
  accepted_given (Write path offset bytes) e = either_done s (edited s.tree path (written offset bytes)) (length bytes == 0)
  accepted_given (Fill path offset count byte) e = either_done s (edited s.tree path (written offset (replicate count byte))) (length (replicate count byte) == 0)
  accepted_given (Read path offset count) e = shown_given s.limit.nodes m s.tree a (look.Read path offset count)
  accepted_given (Truncate path size) e = either_done s (edited s.tree path (resized size)) (size == length (content s.tree path))
  accepted_given (Link path other) e = refl
  accepted_given (Unlink path) e = refl
  accepted_given (Rmdir path) e = refl
  accepted_given (Rename from to) e = either_done s (moved (removed s.tree to) from to) (is_same_node s.tree from to)
  accepted_given (Stat path) e = shown_given s.limit.nodes m s.tree a (look.Stat path)
  accepted_given (ListNames path) e = shown_given s.limit.nodes m s.tree a (look.List path)
  accepted_given (Snap name) e = refl
  accepted_given (Unsnap name) e = refl
  accepted_given Snaps e = refl
  accepted_given (At name l) e = refl
  accepted_given Osync e = absurd (true≢false e)
  accepted_given Dsync e = absurd (true≢false e)
  accepted_given Durable e = absurd (true≢false e)
  accepted_given (Dwait n) e = absurd (true≢false e)
  accepted_given Poll e = refl
  accepted_given Bad e = refl

  -- refused or not
  reply_given_by : (cmd : Cmd) → answers_point cmd ≡ false → (r : Option Refusal) → (answered s cmd r).1 ≡ reply_by s.tree.snapshots m cmd r
  reply_given_by cmd h1 r = grind (arith, accepted_given)

  -- the reply of each command that answers no point
  pub reply_given : (cmd : Cmd) → answers_point cmd ≡ false → (step s cmd).1 ≡ reply_of s.limit.layout (least_unused s.limit.nodes s.tree) s.tree.snapshots m cmd
  reply_given cmd e = reply_given_by cmd e (refusal s.limit s.tree cmd) ∙ ap (reply_by s.tree.snapshots m cmd) (reason_given laws s.limit m s.tree a cmd)
