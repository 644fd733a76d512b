-- A trace as its lines are read: what was read so far, and which line may follow.
use Rattle.std.specs.Prelude.{◌≡◌, ℕ, ◌<◌, ◌^◌, Bool, true, false, List, [], ◌∷◌, ◌++◌, length, ◌⊎◌, Option, Some, None}
use Rattle.layout_geometry.specs.Geometry.{Geometry, geometry_fits}
use Rattle.disk_contract.specs.declared.event.Event.{Event}
use Rattle.crash_stands.specs.Bounds.{bounds_of}
use Rattle.lang_tree.specs.declared.command.Cmd.{Cmd}
use Rattle.lang_tree.specs.declared.command.Reply.{Reply}
use Rattle.lang_tree.specs.Step.{start}
use Rattle.lang_script.specs.Text.{command_text, text_of_reply}
use Rattle.lang_script.specs.Values.{IsCommand, IsReply}
use Rattle.cmd_trace.specs.Contents.{Contents}
use Rattle.cmd_trace.specs.Line.{geometry_line, event_line, command_line, reply_line, end_line}
use Rattle.cmd_trace.specs.ReadsAs.{fed}
use Rattle.cmd_trace_reader.specs.Events.{IsNext}
use Rattle.cmd_trace_reader.specs.Replies.{Kept, MayReply, after}
use Rattle.cmd_trace_reader.specs.declared.reader.Reader.{Reader}
use Rattle.cmd_trace_reader.specs.declared.reader.Place.{Place}
use Rattle.cmd_trace_reader.specs.declared.reader.Place.TheVariants.{Mounting, Asked, Answered, Ended}

-- what was read: the geometry, the events, how many of them are the mount's, whole entries, the session behind them, and where the next line stands
pub record State : Type 0 where
  pub geometry : Geometry
  pub log : List Event
  pub mounted : ℕ
  pub cmds : List Cmd
  pub replies : List Reply
  pub marks : List ℕ
  pub kept : Kept
  pub place : Place

abbrev pub state_of : Reader → State
state_of r = record {
  geometry = r.geom;
  log = r.log;
  mounted = r.mounted;
  cmds = r.cmds.items;
  replies = r.replies.items;
  marks = r.marks.items;
  kept = r.replay;
  place = r.place;
}

-- whether an event may stand there: among those of the mount, or of a command
abbrev pub has_events : Place → Bool
has_events Mounting = true
has_events (Asked cmd) = true
has_events Answered = false
has_events Ended = false

-- whether a command may begin there, or the trace end
abbrev pub is_between : Place → Bool
is_between Mounting = true
is_between (Asked cmd) = false
is_between Answered = true
is_between Ended = false

-- whether the last line was taken
abbrev pub is_ended : Place → Bool
is_ended Mounting = false
is_ended (Asked cmd) = false
is_ended Answered = false
is_ended Ended = true

-- how many events are the mount's, behind one more
abbrev pub mounted_by : Place → ℕ → ℕ → ℕ
mounted_by Mounting mounted events = events
mounted_by (Asked cmd) mounted events = mounted
mounted_by Answered mounted events = mounted
mounted_by Ended mounted events = mounted

-- behind the line of this geometry
abbrev pub begun : Geometry → State
begun g = record {
  geometry = g;
  log = [];
  mounted = 0;
  cmds = [];
  replies = [];
  marks = [];
  kept = record { session = start (bounds_of g); points = 0; durable = 0; stopped = false };
  place = Mounting;
}

-- What comes of the first line: the state behind it, where it is that of a geometry that fits, and none exactly where it isn't.
abbrev pub Begins : List ℕ → Option State → Type 0
Begins line (Some s) = (geometry_fits s.geometry ≡ true) × (geometry_line s.geometry ≡ fed line) × (s ≡ begun s.geometry)
Begins line None = (g : Geometry) → geometry_fits g ≡ true → geometry_line g ≡ fed line → ⊥

-- what was read as the contents of a trace
abbrev pub contents_of : State → Contents
contents_of s = record { geometry = s.geometry; log = s.log; mounted = s.mounted; cmds = s.cmds; replies = s.replies; marks = s.marks }

-- the line is that of an event that may come, and there are fewer than 2^64 then
pub record HappensBy (s : State) (line : List ℕ) (t : State) : Type 0 where
  pub event : Event
  pub place : has_events s.place ≡ true
  pub next : IsNext s.geometry.n s.log event
  pub few : length (s.log ++ event ∷ []) < 2 ^ 64
  pub written : event_line event ≡ fed line
  pub is : t ≡ record s { log = s.log ++ event ∷ []; mounted = mounted_by s.place s.mounted (length (s.log ++ event ∷ [])) }

-- the line is that of a command
pub record AsksBy (s : State) (line : List ℕ) (t : State) : Type 0 where
  pub cmd : Cmd
  pub place : is_between s.place ≡ true
  pub lawful : IsCommand cmd
  pub written : command_line (command_text cmd) ≡ fed line
  pub is : t ≡ record s { place = Asked cmd }

-- the line is that of a reply that may stand behind the command, at this moment
pub record AnswersBy (s : State) (line : List ℕ) (t : State) : Type 0 where
  pub cmd : Cmd
  pub place : s.place ≡ Asked cmd
  pub reply : Reply
  pub may : MayReply s.kept.session s.kept.stopped cmd reply
  pub lawful : IsReply reply
  pub written : reply_line (length s.log) (text_of_reply reply) ≡ fed line
  pub is : t ≡ record s {
    cmds = s.cmds ++ cmd ∷ [];
    replies = s.replies ++ reply ∷ [];
    marks = s.marks ++ length s.log ∷ [];
    kept = after s.kept cmd reply;
    place = Answered;
  }

-- the line is the last one
pub record EndsBy (s : State) (line : List ℕ) (t : State) : Type 0 where
  pub place : is_between s.place ≡ true
  pub written : fed line ≡ end_line
  pub is : t ≡ record s { place = Ended }

-- this line may follow, and leaves the second state
abbrev pub Follows : State → List ℕ → State → Type 0
Follows s line t = HappensBy s line t ⊎ (AsksBy s line t ⊎ (AnswersBy s line t ⊎ EndsBy s line t))

-- What comes of a line, by a rule of which lines may follow: it is taken exactly where it may follow.
abbrev pub TakesLine : (State → List ℕ → State → Type 0) → State → List ℕ → Bool → State → Type 0
TakesLine May old line true new = May old line new
TakesLine May old line false new = (t : State) → May old line t → ⊥

-- whether the last line was taken, where any was
abbrev pub has_ended : Option State → Bool
has_ended None = false
has_ended (Some s) = is_ended s.place

-- this line may come behind what was read, which is nothing before the first line
abbrev pub Comes : Option State → List ℕ → State → Type 0
Comes None line t = Begins line (Some t)
Comes (Some s) line t = Follows s line t

-- these lines may come, one behind the other, and leave the second state
abbrev pub ComeEach : Option State → List (List ℕ) → Option State → Type 0
ComeEach s [] t = t ≡ s
ComeEach s (line ∷ lines) t = (next : State) × Comes s line next × ComeEach (Some next) lines t

-- what comes of one more line: it is taken exactly where it may come, and then the state behind it is the new one
abbrev pub TakesNext : Option State → List ℕ → Bool → Option State → Type 0
TakesNext old line true new = (next : State) × Comes old line next × (new ≡ Some next)
TakesNext old line false new = (next : State) → Comes old line next → ⊥
