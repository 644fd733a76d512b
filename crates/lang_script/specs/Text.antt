-- How commands and replies are written. A command's text is the line that asks for it, without its line
-- feed; the grammar that reads it back is in `Grammar`.
use Rattle.std.specs.Prelude.{ℕ, List, ◌∷◌, ◌++◌, codes, decimal}
use Rattle.std.specs.List.{flat_map}
use Rattle.hex.specs.Hex.{encode_lower}
use Rattle.lang_tree.specs.declared.command.Cmd.{Cmd}
use Rattle.lang_tree.specs.declared.command.Cmd.TheVariants.{Mkdir, Create, Write, Fill, Read, Truncate, Link, Unlink, Rmdir, Rename, Stat, List as ListNames, Snap, Unsnap, Snaps, At, Osync, Dsync, Durable, Dwait, Poll, Bad}
use Rattle.lang_tree.specs.declared.command.Look.{Look}
use Rattle.lang_tree.specs.declared.command.Look.TheVariants as look
use Rattle.lang_tree.specs.declared.command.Kind.{Kind}
use Rattle.lang_tree.specs.declared.command.Kind.TheVariants.{Dir, File}
use Rattle.lang_tree.specs.declared.command.Reply.{Reply}
use Rattle.lang_tree.specs.declared.command.Reply.TheVariants.{Ok as Done, Bytes, Stat as StatReply, Names, Synced, DurableAt, Known, Bad as NotUnderstood, Refused}
use Rattle.lang_tree.specs.declared.command.Refusal.{Refusal}
use Rattle.lang_tree.specs.declared.command.Refusal.TheVariants.{Full, TooBig, Scattered, NoPoint}
use Rattle.lang_tree.specs.Listing.{path_text, digits_behind_blank}
use Rattle.lang_tree.specs.Refusals.{refusal_number, refusal_name}

-- how a look at a tree is asked for
abbrev pub look_text : Look → List ℕ
look_text (look.Read path offset length) = codes "read " ++ path_text path ++ codes " " ++ decimal offset ++ codes " " ++ decimal length
look_text (look.Stat path) = codes "stat " ++ path_text path
look_text (look.List path) = codes "list " ++ path_text path

-- the line that asks for a command; `?`, which is no command, for `Bad`
abbrev pub command_text : Cmd → List ℕ
command_text (Mkdir path) = codes "mkdir " ++ path_text path
command_text (Create path) = codes "create " ++ path_text path
command_text (Write path offset bytes) =
    codes "write " ++ path_text path ++ codes " " ++ decimal offset ++ codes " " ++ encode_lower bytes
command_text (Fill path offset length byte) =
    codes "fill " ++ path_text path ++ codes " " ++ decimal offset ++ codes " " ++ decimal length ++ codes " " ++ decimal byte
command_text (Read path offset length) = look_text (look.Read path offset length)
command_text (Truncate path size) = codes "truncate " ++ path_text path ++ codes " " ++ decimal size
command_text (Link path other) = codes "link " ++ path_text path ++ codes " " ++ path_text other
command_text (Unlink path) = codes "unlink " ++ path_text path
command_text (Rmdir path) = codes "rmdir " ++ path_text path
command_text (Rename path other) = codes "rename " ++ path_text path ++ codes " " ++ path_text other
command_text (Stat path) = look_text (look.Stat path)
command_text (ListNames path) = look_text (look.List path)
command_text (Snap name) = codes "snap " ++ name
command_text (Unsnap name) = codes "unsnap " ++ name
command_text Snaps = codes "snaps"
command_text (At name l) = codes "at " ++ name ++ codes " " ++ look_text l
command_text Osync = codes "osync"
command_text Dsync = codes "dsync"
command_text Durable = codes "durable"
command_text (Dwait point) = codes "dwait " ++ decimal point
command_text Poll = codes "poll"
command_text Bad = codes "?"

-- how a kind is written
abbrev pub kind_text : Kind → List ℕ
kind_text Dir = codes "dir"
kind_text File = codes "file"

-- a blank and the name, for each name in turn
abbrev pub names_behind_blanks : List (List ℕ) → List ℕ
names_behind_blanks names = flat_map (λ name. 32 ∷ name) names

-- how a refusal is written: four tell their figures, and every other one its number and name
abbrev pub refusal_text : Refusal → List ℕ
refusal_text (Full need left) = codes "full " ++ decimal need ++ codes " " ++ decimal left
refusal_text (TooBig weight cost room) = codes "toobig " ++ decimal weight ++ codes " " ++ decimal cost ++ codes " " ++ decimal room
refusal_text (Scattered runs) = codes "scattered " ++ decimal runs
refusal_text (NoPoint last) = codes "nopoint " ++ decimal last
refusal_text why = codes "refused " ++ decimal (refusal_number why) ++ codes " " ++ refusal_name why

-- how a reply is written
abbrev pub text_of_reply : Reply → List ℕ
text_of_reply Done = codes "ok"
text_of_reply (Bytes bytes) = codes "hex" ++ digits_behind_blank bytes
text_of_reply (StatReply stat) =
    codes "stat " ++ kind_text stat.kind ++ codes " " ++ decimal stat.number ++ codes " " ++ decimal stat.size ++ codes " " ++ decimal stat.links
text_of_reply (Names names) = codes "names" ++ names_behind_blanks names
text_of_reply (Synced point) = codes "synced " ++ decimal point
text_of_reply (DurableAt point) = codes "durable " ++ decimal point
text_of_reply (Known point) = codes "known " ++ decimal point
text_of_reply NotUnderstood = codes "bad"
text_of_reply (Refused why) = refusal_text why
