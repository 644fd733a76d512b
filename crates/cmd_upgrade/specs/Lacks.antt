-- When the commands that make a tree don't all go on a disk of a geometry, whatever its calls do: one of them isn't taken in its place for want of room, or there are so many that the journal's numbers are used up. It is described in docs/UPGRADE.md.
use Rattle.std.specs.Prelude.{◌≡◌, ◌⊎◌, ℕ, ◌+◌, ◌-◌, ◌*◌, ◌^◌, ◌≤◌, List, [], ◌∷◌, ◌++◌, length}
use Rattle.layout_geometry.specs.Geometry.{Geometry}
use Rattle.lang_tree.specs.declared.command.Cmd.{Cmd}
use Rattle.lang_tree.specs.declared.command.Refusal.{Refusal}
use Rattle.lang_tree.specs.declared.command.Reply.{Reply}
use Rattle.lang_tree.specs.declared.command.Reply.TheVariants.{Ok as Done}
use Rattle.lang_tree.specs.Step.{Session, start}
use Rattle.lang_tree.specs.Tree.{Tree}
use Rattle.lang_making.specs.Making.{making}
use Rattle.crash_stands.specs.Bounds.{bounds_of}
use Rattle.fs_session.specs.DiskRoom.{ComesBack, IsRoomOf, RunsOn}
use Rattle.fs_session.specs.Room.{Room, Scatters, figures_in, left_in, most_weight}
use Rattle.fs_session.specs.Space.{IsFull, IsTooBig}
use Rattle.cmd_session.specs.Histories.{HasNoFault}

-- the commands of a run that were done and had nothing to tell: those that change the tree, in their order
abbrev pub done_of : List Cmd → List Reply → List Cmd
done_of [] replies = []
done_of (cmd ∷ cmds) [] = []
done_of (cmd ∷ cmds) (Done ∷ replies) = cmd ∷ done_of cmds replies
done_of (cmd ∷ cmds) (reply ∷ replies) = done_of cmds replies

-- The room in which a session begins over a disk: nothing is weighed or held, and as many data blocks may be taken as the tree leaves.
pub record IsRoomAtFirst (g : Geometry) (f : Session) (r : Room) : Type 0 where
  pub weight : r.weight ≡ 0
  pub held : r.held ≡ 0
  pub is_room : IsRoomOf g f r
  pub all : length r.takeable ≡ left_in g f r

-- why a command that the tree does isn't taken in this room: it needs more blocks than are left; it costs more than a transaction may weigh, though nothing is weighed yet; or it would leave a node in more runs than there is room for
abbrev pub IsntTaken : Geometry → Session → Room → Cmd → Refusal → Type 0
IsntTaken g f r cmd why =
    IsFull (left_in g f r) (figures_in g f r cmd) why
    ⊎ (((r.weight ≡ 0) × IsTooBig (left_in g f r) r.weight (most_weight g) (figures_in g f r cmd) why)
    ⊎ Scatters g f r cmd (figures_in g f r cmd).need why)

-- One of the commands that make the tree isn't taken in its place: from the root alone a run of commands, in which just those before it were done, leads to a room in which it isn't.
pub record LacksRoom (g : Geometry) (t : Tree) : Type 0 where
  pub front : List Cmd
  pub cmd : Cmd
  pub back : List Cmd
  pub place : making t ≡ front ++ cmd ∷ back
  pub first : Room
  pub begins : IsRoomAtFirst g (start (bounds_of g)) first
  pub cmds : List Cmd
  pub replies : List Reply
  pub session : Session
  pub room : Room
  pub run : RunsOn g (start (bounds_of g)) first cmds replies session room
  pub done : done_of cmds replies ≡ front
  pub calm : HasNoFault replies
  pub room_now : Room
  pub comes_back : ComesBack g session room room_now
  pub why : Refusal
  pub refused : IsntTaken g session room_now cmd why

-- the commands that make the tree, with a sync before each and it once more, may use up the numbers of a journal that begins with 3 at most
abbrev pub UsesNumbersUp : Tree → Type 0
UsesNumbersUp t = 2 ^ 63 - 8 ≤ 3 + 3 * length (making t) * 2 ^ 20
