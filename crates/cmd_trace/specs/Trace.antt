-- The text of a whole trace. It is described in docs/TRACE.md.
use Rattle.std.specs.Prelude.{◌≡◌, ℕ, ◌-◌, ◌≤◌, List, [], ◌∷◌, ◌++◌, take, drop}
use Rattle.layout_geometry.specs.Geometry.{Geometry}
use Rattle.disk_contract.specs.declared.event.Event.{Event}
use Rattle.lang_tree.specs.declared.command.Cmd.{Cmd}
use Rattle.lang_tree.specs.declared.command.Reply.{Reply}
use Rattle.lang_script.specs.Text.{command_text, text_of_reply}
use Rattle.cmd_trace.specs.Line.{geometry_line, event_lines, command_line, reply_line, end_line}

-- the events between two moments of a log
abbrev pub between : ℕ → ℕ → List Event → List Event
between earlier later log = take (later - earlier) (drop earlier log)

-- one command, the events up to its reply, and its reply with its mark
abbrev pub entry : List Event → Cmd → Reply → ℕ → List ℕ
entry events cmd reply mark = command_line (command_text cmd) ++ event_lines events ++ reply_line mark (text_of_reply reply)

-- commands with their replies and marks, in order, from the mark before them on; a mark is the number of events so far
abbrev pub entries : List Event → ℕ → List Cmd → List Reply → List ℕ → List ℕ
entries log before [] replies marks = []
entries log before (cmd ∷ cmds) [] marks = []
entries log before (cmd ∷ cmds) (reply ∷ replies) [] = []
entries log before (cmd ∷ cmds) (reply ∷ replies) (mark ∷ marks) =
    entry (between before mark log) cmd reply mark ++ entries log mark cmds replies marks

-- the geometry, the mount's events, and the entries: all but the end
abbrev pub trace_front : Geometry → List Event → ℕ → List Cmd → List Reply → List ℕ → List ℕ
trace_front g log mounted cmds replies marks = geometry_line g ++ event_lines (take mounted log) ++ entries log mounted cmds replies marks

-- the marks ascend, from the end of the mount to the last event
abbrev pub Ascend : ℕ → List ℕ → ℕ → Type 0
Ascend from [] events = from ≡ events
Ascend from (mark ∷ marks) events = (from ≤ mark) × Ascend mark marks events

-- the whole trace of a run
abbrev pub trace_text : Geometry → List Event → ℕ → List Cmd → List Reply → List ℕ → List ℕ
trace_text g log mounted cmds replies marks = trace_front g log mounted cmds replies marks ++ end_line
