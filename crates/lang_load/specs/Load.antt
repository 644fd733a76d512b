-- The commands of a large run, which a seed decides. They are described in docs/LOADS.md.
use Rattle.std.specs.Prelude.{ℕ, zero, suc, ◌+◌, ◌/◌, ◌%◌, ◌==◌, if◌then◌else◌, List, [], ◌∷◌, slice_index_or}
use Rattle.base_types.specs.Draws.{next_state, drawn, draws}
use Rattle.lang_tree.specs.declared.command.Cmd.{Cmd}
use Rattle.lang_tree.specs.declared.command.Cmd.TheVariants as commands
use Rattle.lang_load.specs.declared.kind.Kind.{Kind}
use Rattle.lang_load.specs.declared.kind.Kind.TheVariants.{Mkdir, Create, Fill, Write, Truncate, Link, Unlink, Rmdir, Rename, Osync, Dsync}

-- the kinds, each as often as it comes among 16 draws
abbrev pub kinds : List Kind
kinds =
    Mkdir ∷ Mkdir ∷ Create ∷ Create ∷ Create ∷ Fill ∷ Fill ∷ Fill
    ∷ Write ∷ Truncate ∷ Link ∷ Unlink ∷ Rmdir ∷ Rename ∷ Osync ∷ Dsync ∷ []

-- the kind that a draw gives: the one at the place of its remainder by 16
abbrev pub kind_of : ℕ → Kind
kind_of v = slice_index_or kinds (v % 16) Dsync

-- how many draws the parts of a command take
abbrev pub parts : Kind → ℕ
parts Mkdir = 1
parts Create = 1
parts Fill = 4
parts Write = 3
parts Truncate = 2
parts Link = 2
parts Unlink = 1
parts Rmdir = 1
parts Rename = 2
parts Osync = 0
parts Dsync = 0

-- the name of a letter `n` and this digit
abbrev pub name : ℕ → List ℕ
name digit = 110 ∷ (48 + digit) ∷ []

-- the path that a draw gives: one of a name for a multiple of 4, else one of two names, with digits from 0 to 7
abbrev pub path : ℕ → List (List ℕ)
path v = if v % 4 == 0 then name (v / 4 % 8) ∷ [] else name (v / 4 % 8) ∷ name (v / 32 % 8) ∷ []

-- the draw at this place, the first of which is 0
abbrev pub part : List ℕ → ℕ → ℕ
part values i = slice_index_or values i 0

-- the command of a kind whose parts are made of these draws, in their order: paths, offsets and sizes below 8,192, lengths below 4,096, and bytes
abbrev pub command : Kind → List ℕ → Cmd
command Mkdir values = commands.Mkdir (path (part values 0))
command Create values = commands.Create (path (part values 0))
command Fill values = commands.Fill (path (part values 0)) (part values 1 % 8192) (part values 2 % 4096) (part values 3 % 256)
command Write values = commands.Write (path (part values 0)) (part values 1 % 8192) (part values 2 % 256 ∷ [])
command Truncate values = commands.Truncate (path (part values 0)) (part values 1 % 8192)
command Link values = commands.Link (path (part values 0)) (path (part values 1))
command Unlink values = commands.Unlink (path (part values 0))
command Rmdir values = commands.Rmdir (path (part values 0))
command Rename values = commands.Rename (path (part values 0)) (path (part values 1))
command Osync values = commands.Osync
command Dsync values = commands.Dsync

-- the state of the draws after so many steps
abbrev pub state_after : ℕ → ℕ → ℕ
state_after zero state = state
state_after (suc n) state = state_after n (next_state state)

-- the kind of the next command, which the first draw gives
abbrev pub next_kind : ℕ → Kind
next_kind state = kind_of (drawn (next_state state))

-- the next command: after the draw of its kind come those of its parts
abbrev pub next_command : ℕ → Cmd
next_command state = command (next_kind state) (draws (parts (next_kind state)) (next_state state))

-- the state behind the next command: one step for its kind, and one for each part
abbrev pub state_behind : ℕ → ℕ
state_behind state = state_after (parts (next_kind state)) (next_state state)

-- the first n commands from a state
abbrev pub load_commands : ℕ → ℕ → List Cmd
load_commands zero state = []
load_commands (suc n) state = next_command state ∷ load_commands n (state_behind state)
