-- What a run has taken of its disk, by its commands, their replies and the log: which records are written, and which events brought them. It is described in docs/TRACE.md.
use Rattle.std.specs.Prelude.{◌≡◌, ℕ, ◌+◌, ◌&&◌, if◌then◌else◌, Bool, false, not, List, [], ◌∷◌, ◌++◌, take}
use Rattle.disk_contract.specs.declared.event.Event.{Event}
use Rattle.disk_contract.specs.Cell.{is_accepted, IsAccepted}
use Rattle.layout_journal.specs.declared.record.Commit.{Commit}
use Rattle.layout_journal.specs.Run.{places_from, writes_stood_for}
use Rattle.lang_tree.specs.declared.command.Cmd.{Cmd}
use Rattle.lang_tree.specs.declared.command.Reply.{Reply}
use Rattle.lang_tree.specs.Points.{after_reply, is_refusal, is_sync, may_have_written}
use Rattle.lang_tree.specs.Step.{Session}
use Rattle.cmd_session.specs.Budget.{commits, sync_budget, sync_places}

-- Some events of one command: those behind the first `begun`, up to the mark of its reply.
pub record Span : Type 0 where
  pub begun : ℕ
  pub mark : ℕ

-- the write of this ticket came among these events of the log
pub record CameIn (log : List Event) (span : Span) (t : ℕ) : Type 0 where
  pub not_before : is_accepted t (take span.begun log) ≡ false
  pub by_then : IsAccepted t (take span.mark log)

-- What a run has taken of its disk so far, by its commands, their replies and the log: its session; the records of the syncs that are done; of each sync point the events of its record's writes; and how many writes its records stand for.
pub record Taken : Type 0 where
  pub session : Session
  pub records : List Commit
  pub spans : List Span
  pub budget : ℕ

-- at first nothing is taken
abbrev pub nothing_taken : Session → Taken
nothing_taken f = record { session = f; records = []; spans = []; budget = 0 }

-- whether a sync that was answered so made a point: something had changed since the last one
abbrev pub makes_point : Session → Cmd → Reply → Bool
makes_point f cmd reply = is_sync cmd && (f.changed && may_have_written reply)

-- a sync that is done
abbrev pub is_done_sync : Cmd → Reply → Bool
is_done_sync cmd reply = is_sync cmd && not (is_refusal reply)

-- the writes that a command stands for: a sync that is done those of its records, one that disk or memory failed as many as its weight may, and any other none
abbrev pub stands_for : Cmd → Reply → ℕ → List Commit → ℕ
stands_for cmd reply w own = if is_done_sync cmd reply then writes_stood_for own else if commits cmd reply then sync_budget w else 0

-- what is taken after one command in a transaction of this weight with these records of its own, whose writes have this span
abbrev pub taken_by : Taken → ℕ → Cmd → Reply → List Commit → Span → Taken
taken_by t w cmd reply own span = record {
  session = after_reply t.session cmd reply;
  records = t.records ++ (if is_done_sync cmd reply then own else []);
  spans = t.spans ++ (if makes_point t.session cmd reply then span ∷ [] else []);
  budget = t.budget + stands_for cmd reply w own;
}

-- the ring places that a sync wants: those of its own records where it is done, and else as many as its weight may take
abbrev pub places_wanted : Reply → ℕ → List Commit → ℕ
places_wanted reply w own = if is_refusal reply then sync_places w else places_from 0 own
