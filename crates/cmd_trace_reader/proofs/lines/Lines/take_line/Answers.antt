-- A line that may come is one more; at one that may not, the bytes go wrong.
use Rattle.std.proofs.Common.{sym, subst, true, false, option_map, [], ◌∷◌, ◌++◌}
use Rattle.cmd_trace_reader.specs.Reading.{TakesNext, state_of}
use Rattle.cmd_trace_reader.specs.Progress.{HasReadBy}
use Rattle.cmd_trace_reader.proofs.Growing.{Exact, taken, refused}
use Rattle.cmd_trace_reader.proofs.lines.Lines.take_line.Goals as goal

pub returns-then-branch : goal.returns-then-branch
returns-then-branch c = λ seen short going h.
    let old = c.args.self.now in
    subst (λ l. HasReadBy old.wrong (seen ++ 10 ∷ []) (option_map state_of c.next_line.new.reader) l c.saturating_add-self.result) (sym c.clear.ensures.items)
    (taken old.wrong seen (option_map state_of old.reader) (option_map state_of c.next_line.new.reader) old.line.items old.count c.saturating_add-self.result going short c.saturating_add-self.ensures
    (subst (λ l. TakesNext (option_map state_of old.reader) l true (option_map state_of c.next_line.new.reader)) c.as_slice.ensures.value
    (subst (λ b. TakesNext (option_map state_of old.reader) c.as_slice.result.now b (option_map state_of c.next_line.new.reader)) c.if-branch.true c.in_ok-next_line.ensures)) h)

pub returns : goal.returns
returns c =
    let law : Exact = record { begins = c.lines_come_as_traces_go.ensures.begins; one = c.lines_come_as_traces_go.ensures.one; ends = c.lines_come_as_traces_go.ensures.ends; whole = c.lines_come_as_traces_go.ensures.whole; says = c.lines_come_as_traces_go.ensures.says } in
    let old = c.args.self.now in
    λ seen short going h. refused law old.wrong seen (option_map state_of old.reader) (option_map state_of c.next_line.new.reader) old.line.items old.count going
    (subst (λ l. TakesNext (option_map state_of old.reader) l false (option_map state_of c.next_line.new.reader)) c.as_slice.ensures.value
    (subst (λ b. TakesNext (option_map state_of old.reader) c.as_slice.result.now b (option_map state_of c.next_line.new.reader)) c.if-branch.false c.in_ok-next_line.ensures)) h
