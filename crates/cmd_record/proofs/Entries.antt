-- The text of a run that goes on: what one command more, or several, add to it.
use Rattle.std.proofs.Common.{◌≡◌, ℕ, ◌-◌, ◌≤◌, List, [], ◌∷◌, ◌++◌, length, take, drop, sym, ap, ◌∙◌, arith, append_assoc, append-nil, take_all}
use Rattle.std.proofs.lemmas.List.{take-append-le, drop-append-le, length-drop}
use Rattle.disk_contract.specs.declared.event.Event.{Event}
use Rattle.layout_geometry.specs.Geometry.{Geometry}
use Rattle.lang_script.specs.Text.{command_text, text_of_reply}
use Rattle.cmd_trace.specs.Contents.{front_of}
use Rattle.cmd_trace.specs.Line.{geometry_line, event_lines, command_line, reply_line}
use Rattle.cmd_trace.specs.Trace.{Ascend, between, entries, entry}
use Rattle.lang_tree.specs.declared.command.Cmd.{Cmd}
use Rattle.lang_tree.specs.declared.command.Reply.{Reply}
use Rattle.cmd_trace.specs.Shared.{from_le}
use Rattle.cmd_record.specs.Traces.{says}

-- The entries of a run that goes on are those so far, and behind them those that are new.
pub entries_on : (all log more : List Event) (from : ℕ) (cmds : List Cmd) (replies : List Reply) (marks : List ℕ) (next : List Cmd) (later : List Reply) (others : List ℕ) → all ≡ log ++ more → length cmds ≡ length replies → length marks ≡ length replies → Ascend from marks (length log)
    → entries all from (cmds ++ next) (replies ++ later) (marks ++ others) ≡ entries log from cmds replies marks ++ entries all (length log) next later others
entries_on all log more from [] [] [] next later others is answered marked ascend = ap (λ (k : ℕ). entries all k next later others) ascend
entries_on all log more from [] [] (mark ∷ marks) next later others is answered marked ascend = absurd (omega (arith, marked))
entries_on all log more from [] (reply ∷ replies) marks next later others is answered marked ascend = absurd (omega (arith, answered))
entries_on all log more from (cmd ∷ cmds) [] marks next later others is answered marked ascend = absurd (omega (arith, answered))
entries_on all log more from (cmd ∷ cmds) (reply ∷ replies) [] next later others is answered marked ascend = absurd (omega (arith, marked))
entries_on all log more from (cmd ∷ cmds) (reply ∷ replies) (mark ∷ marks) next later others is answered marked ascend =
    let below = from_le mark marks (length log) ascend.1 in
    let same : between from mark all ≡ between from mark log =
    ap (between from mark) is ∙ ap (λ (es : List Event). take (mark - from) es) (drop-append-le from log more (omega (arith, ascend.0, below)))
    ∙ take-append-le (mark - from) (drop from log) more (omega (arith, length-drop from log, ascend.0, below)) in
    ap (λ (es : List Event). entry es cmd reply mark ++ entries all mark (cmds ++ next) (replies ++ later) (marks ++ others)) same
    ∙ ap (λ (xs : List ℕ). entry (between from mark log) cmd reply mark ++ xs) (entries_on all log more mark cmds replies marks next later others is (omega (arith, answered)) (omega (arith, marked)) ascend.1)
    ∙ sym (append_assoc (entry (between from mark log) cmd reply mark) (entries log mark cmds replies marks) (entries all (length log) next later others))

-- the same of the whole text
pub front_on : (g : Geometry) (all log more : List Event) (mounted : ℕ) (cmds : List Cmd) (replies : List Reply) (marks : List ℕ) (next : List Cmd) (later : List Reply) (others : List ℕ) → all ≡ log ++ more → length cmds ≡ length replies → length marks ≡ length replies → Ascend mounted marks (length log)
    → front_of (says g all mounted (cmds ++ next) (replies ++ later) (marks ++ others)) ≡ front_of (says g log mounted cmds replies marks) ++ entries all (length log) next later others
front_on g all log more mounted cmds replies marks next later others is answered marked ascend =
    let mount : take mounted all ≡ take mounted log = ap (λ (es : List Event). take mounted es) is ∙ take-append-le mounted log more (from_le mounted marks (length log) ascend) in
    ap (λ (es : List Event). geometry_line g ++ event_lines es ++ entries all mounted (cmds ++ next) (replies ++ later) (marks ++ others)) mount
    ∙ ap (λ (xs : List ℕ). geometry_line g ++ event_lines (take mounted log) ++ xs) (entries_on all log more mounted cmds replies marks next later others is answered marked ascend)
    ∙ simp append_assoc

-- the entry of one command that brought these events
pub one_entry : (all log more : List Event) (cmd : Cmd) (reply : Reply) → all ≡ log ++ more → entries all (length log) (cmd ∷ []) (reply ∷ []) (length all ∷ []) ≡ entry (drop (length log) all) cmd reply (length all)
one_entry all log more cmd reply is =
    let events : between (length log) (length all) all ≡ drop (length log) all = take_all (length all - length log) (drop (length log) all) (omega (arith, length-drop (length log) all)) in
    append-nil _ ∙ ap (λ (es : List Event). entry es cmd reply (length all)) events

-- The entries of commands that bring no event begin with the line of the first one.
pub first_line : (log : List Event) (from : ℕ) (cmd : Cmd) (next : List Cmd) (reply : Reply) (later : List Reply) (mark : ℕ) (others : List ℕ)
    → (rest : List ℕ) × (entries log from (cmd ∷ next) (reply ∷ later) (mark ∷ others) ≡ command_line (command_text cmd) ++ rest)
first_line log from cmd next reply later mark others =
    let line = command_line (command_text cmd) in
    let events = event_lines (between from mark log) in
    let answer = reply_line mark (text_of_reply reply) in
    let rest = entries log mark next later others in
    (events ++ (answer ++ rest), append_assoc (line ++ events) answer rest ∙ append_assoc line events (answer ++ rest))
