-- What each command that answers no sync point answers, from inodes and from what snapshots keep.
use Rattle.std.specs.Prelude.{ℕ, take, drop, Option, None, Some}
use Rattle.base_types.specs.declared.layout.Layout.{Layout}
use Rattle.lang_tree.specs.declared.command.Cmd.{Cmd}
use Rattle.lang_tree.specs.declared.command.Cmd.TheVariants.{Read, Stat, List as ListNames, Snaps, At, Bad}
use Rattle.std.specs.FinMap.{get, keys}
use Rattle.lang_tree.specs.declared.command.Look.{Look}
use Rattle.lang_tree.specs.declared.command.Look.TheVariants as look
use Rattle.lang_tree.specs.declared.command.Reply.{Reply}
use Rattle.lang_tree.specs.declared.command.Reply.TheVariants.{Ok as Done, Bytes, Names as NamesReply, Bad as NotUnderstood, Refused}
use Rattle.lang_tree.specs.declared.command.Refusal.{Refusal}
use Rattle.lang_tree.specs.Tree.{Snapshots}
use Rattle.lang_tree.specs.Step.{seen_in}
use Rattle.crash_stands.specs.Inodes.{Inodes}
use Rattle.fs_inodes.specs.Lookups.{bytes_of, slots_of, inode_at}
use Rattle.fs_inodes.specs.Names.{names_of, stat_in}
use Rattle.fs_inodes.specs.Refusals.{reason}

-- what a look shows
abbrev pub shown : Inodes → Look → Reply
shown m (look.Read path offset count) = Bytes (take count (drop offset (bytes_of (inode_at m path))))
shown m (look.Stat path) = stat_in m path
shown m (look.List path) = NamesReply (names_of (slots_of (inode_at m path)))

-- of a command that isn't refused
abbrev pub accepted_reply : Snapshots → Inodes → Cmd → Reply
accepted_reply kept m (Read path offset count) = shown m (look.Read path offset count)
accepted_reply kept m (Stat path) = shown m (look.Stat path)
accepted_reply kept m (ListNames path) = shown m (look.List path)
accepted_reply kept m Snaps = NamesReply (keys kept)
accepted_reply kept m (At name l) = seen_in (get kept name) l
accepted_reply kept m Bad = NotUnderstood
accepted_reply kept m _ = Done

abbrev pub reply_by : Snapshots → Inodes → Cmd → Option Refusal → Reply
reply_by kept m cmd (Some why) = Refused why
reply_by kept m cmd None = accepted_reply kept m cmd

-- the reply in a layout, where this is the least unused number and these are the snapshots
abbrev pub reply_of : Layout → Option ℕ → Snapshots → Inodes → Cmd → Reply
reply_of l least kept m cmd = reply_by kept m cmd (reason l least kept m cmd)
