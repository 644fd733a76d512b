-- How the disk of a load behaves, and a file system on its way through a load. Only private contracts speak of it.
use Rattle.std.specs.Prelude.{◌≡◌, ℕ, ◌+◌, ◌*◌, ◌^◌, ◌≤◌, ◌==◌, if◌then◌else◌, Bool, true, false, None}
use Rattle.lang_tree.specs.declared.command.Cmd.{Cmd}
use Rattle.lang_tree.specs.declared.command.Refusal.TheVariants.{DiskFault, NoMemory, ReadFault, Spent, Stopped}
use Rattle.lang_tree.specs.declared.command.Reply.{Reply}
use Rattle.lang_tree.specs.declared.command.Reply.TheVariants.{Refused}
use Rattle.lang_tree.specs.Step.{Session}
use Rattle.engine_blocks.specs.State.{State}
use Rattle.fs_session.specs.Applying.{is_spent}
use Rattle.fs_session.specs.DiskRoom.{AnswersOn, IsRoomOf}
use Rattle.fs_session.specs.Memory.{room_of}
use Rattle.fs_session.specs.Sessions.{IsSession}
use Rattle.cmd_words.specs.declared.request.Notices.{Notices}
use Rattle.cmd_words.specs.declared.request.Notices.TheVariants as notices
use Rattle.cmd_host.specs.declared.disk.Behaviour.{Behaviour}
use Rattle.cmd_host.specs.Listed.{IsReadable}
use Rattle.cmd_load.specs.Summary.{Progress, shape}
use Rattle.cmd_load.specs.Trees.{IsLoadTree}

-- for how many writes the disk has room
abbrev pub room : ℕ
room = 65536

-- by which rule the disk gives its notices: a seed of 0 gives none
abbrev pub notices_of : ℕ → Notices
notices_of seed = if seed == 0 then notices.Silent else notices.Seed seed

-- how the disk behaves: no write is to fail
abbrev pub behaviour_of : ℕ → Behaviour
behaviour_of seed = record { notices = notices_of seed; room = room; fail = None }

-- The blocks have come so far with a load, by so many commands: they are those of its session, weigh and hold as much, and the disk never failed.
pub record Serves (p : Progress) (made : ℕ) (s : State) : Type 0 where
  pub session : IsSession s p.session
  pub geom : s.books.geom ≡ shape
  pub weight : s.books.running.weight ≡ p.weight
  pub held : s.books.running.held ≡ p.held
  pub going : s.books.stopped ≡ false
  pub readable : IsReadable s
  pub tree : IsLoadTree p.session.tree
  -- nothing is held where nothing is weighed
  pub none : p.weight ≡ 0 → p.held ≡ 0
  pub refused : p.refused ≤ made
  -- the journal's numbers rise little with each command
  pub turns : s.books.turns ≤ 3 + made * 2 ^ 20

-- whether memory, or room on the disk, ran out in a command
abbrev pub has_run_out : Reply → Bool
has_run_out (Refused DiskFault) = true
has_run_out (Refused NoMemory) = true
has_run_out _ = false

-- how a command was answered over blocks of a session, by what the file system says of any blocks
pub record IsAnswered (cmd : Cmd) (reply : Reply) (old new : State) : Type 0 where
  pub room : (f : Session) → IsSession old f → IsRoomOf old.books.geom f (room_of old)
  pub answers : (f : Session) → IsSession old f → (next : Session) × IsSession new next × (new.books.geom ≡ old.books.geom) × AnswersOn old.books.geom f (room_of old) cmd reply next (room_of new)
  pub turns : new.books.turns ≤ old.books.turns + 2 ^ 20
  pub manner : new.counts.ticks.manner ≡ old.counts.ticks.manner
  pub going : old.books.stopped ≡ false → has_run_out reply ≡ false → new.books.stopped ≡ false
  pub spent : (f : Session) → IsSession old f → reply ≡ Refused Spent → is_spent old.books ≡ true
  pub stops : (f : Session) → IsSession old f → reply ≡ Refused Stopped → old.books.stopped ≡ true
  pub reads : (f : Session) → IsSession old f → reply ≡ Refused ReadFault → new.counts.ticks.manner.reads_fail ≡ true
