-- What was read so far, as a text, and what one more line adds to it.
use Rattle.std.proofs.Common.{◌≡◌, sym, ap, refl, ◌∙◌, arith, ℕ, ◌-◌, ◌≤◌, List, [], ◌∷◌, ◌++◌, length, take, drop, append_assoc}
use Rattle.std.proofs.lemmas.List.{append-nil, take-append-le, drop-append-le, length-drop}
use Rattle.disk_contract.specs.declared.event.Event.{Event}
use Rattle.lang_tree.specs.declared.command.Cmd.{Cmd}
use Rattle.lang_tree.specs.declared.command.Reply.{Reply}
use Rattle.cmd_trace.specs.Trace.{between, entry, entries}
use Rattle.cmd_trace.specs.Line.{event_line, event_lines}

-- the last mark, or the one before all
abbrev pub last_mark : ℕ → List ℕ → ℕ
last_mark from [] = from
last_mark from (mark ∷ marks) = last_mark mark marks

-- marks that ascend, up to so many events at most
abbrev pub Within : ℕ → List ℕ → ℕ → Type 0
Within from [] events = from ≤ events
Within from (mark ∷ marks) events = (from ≤ mark) × Within mark marks events

pub within_low : (from : ℕ) (marks : List ℕ) (events : ℕ) → Within from marks events → from ≤ events
within_low from [] events h = h
within_low from (mark ∷ marks) events h = omega (arith, h.0, within_low mark marks events h.1)

-- the events between two moments of a log, behind which more come
pub between_more : (from to : ℕ) (log more : List Event) → from ≤ to → to ≤ length log → between from to (log ++ more) ≡ between from to log
between_more from to log more low high =
    ap (take (to - from)) (drop-append-le from log more (omega (arith, low, high)))
    ∙ take-append-le (to - from) (drop from log) more (omega (arith, low, high, length-drop from log))

-- entries don't change as events come behind them
pub entries_more : (log more : List Event) (before : ℕ) (cmds : List Cmd) (replies : List Reply) (marks : List ℕ) → Within before marks (length log)
    → entries (log ++ more) before cmds replies marks ≡ entries log before cmds replies marks
entries_more log more before (cmd ∷ cmds) (reply ∷ replies) (mark ∷ marks) h =
    ap (λ events. entry events cmd reply mark ++ entries (log ++ more) mark cmds replies marks) (between_more before mark log more h.0 (within_low mark marks (length log) h.1))
    ∙ ap (λ rest. entry (between before mark log) cmd reply mark ++ rest) (entries_more log more mark cmds replies marks h.1)
entries_more log more before other replies marks h = refl

-- one entry more
pub entries_push : (log : List Event) (before : ℕ) (cmds : List Cmd) (replies : List Reply) (marks : List ℕ) (cmd : Cmd) (reply : Reply) (mark : ℕ)
    → length cmds ≡ length replies → length marks ≡ length replies
    → entries log before (cmds ++ cmd ∷ []) (replies ++ reply ∷ []) (marks ++ mark ∷ [])
    ≡ entries log before cmds replies marks ++ entry (between (last_mark before marks) mark log) cmd reply mark
entries_push log before [] [] [] cmd reply mark h k = append-nil (entry (between before mark log) cmd reply mark)
entries_push log before (c ∷ cmds) (r ∷ replies) (m ∷ marks) cmd reply mark h k =
    ap (λ rest. entry (between before m log) c r m ++ rest) (entries_push log m cmds replies marks cmd reply mark (omega (arith, h)) (omega (arith, k)))
    ∙ sym (append_assoc (entry (between before m log) c r m) (entries log m cmds replies marks) (entry (between (last_mark m marks) mark log) cmd reply mark))
entries_push log before other rest last cmd reply mark h k = absurd (omega (arith, h, k))

-- one event more
pub lines_push : (events : List Event) (event : Event) → event_lines (events ++ event ∷ []) ≡ event_lines events ++ event_line event
lines_push [] event = append-nil (event_line event)
lines_push (e ∷ events) event =
    ap (λ rest. event_line e ++ rest) (lines_push events event) ∙ sym (append_assoc (event_line e) (event_lines events) (event_line event))
