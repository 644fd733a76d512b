-- What the end of the bytes makes of what was read.
use Rattle.std.proofs.Common.{◌∙◌, sym, ap, subst, option_map}
use Rattle.cmd_trace_reader.specs.Reading.{state_of, has_ended}
use Rattle.cmd_trace_reader.specs.Progress.{HasReadBy}
use Rattle.cmd_trace_reader.proofs.Growing.{Exact, ends_wrong, ends_open, ends_early, ends_well, empty_is, some_is, told_as}
use Rattle.cmd_trace_reader.proofs.lines.Lines.into_trace.Goals as goal

pub returns-then-wrong : goal.returns-then-wrong
returns-then-wrong c = λ bytes short h. ends_wrong _ bytes _ _ _ _ c.if-wrong.true short c.saturating_add-next.ensures h

pub returns-then-not-is_empty : goal.returns-then-not-is_empty
returns-then-not-is_empty c =
    let law : Exact = record { begins = c.lines_come_as_traces_go.ensures.begins; one = c.lines_come_as_traces_go.ensures.one; ends = c.lines_come_as_traces_go.ensures.ends; whole = c.lines_come_as_traces_go.ensures.whole; says = c.lines_come_as_traces_go.ensures.says } in
    λ bytes short h. ends_open law _ bytes _ c.args.self.line.items _ _ c.if-wrong.false (λ none. some_is c.as_slice.result.now c.is_empty.result c.is_empty.ensures c.if-not-is_empty.true (c.as_slice.ensures.value ∙ none)) short c.saturating_add-next.ensures h

pub returns-in-None : goal.returns-in-None
returns-in-None c =
    let law : Exact = record { begins = c.lines_come_as_traces_go.ensures.begins; one = c.lines_come_as_traces_go.ensures.one; ends = c.lines_come_as_traces_go.ensures.ends; whole = c.lines_come_as_traces_go.ensures.whole; says = c.lines_come_as_traces_go.ensures.says } in
    λ bytes short h. ends_early law _ bytes _ c.args.self.line.items _ _ c.if-wrong.false (sym c.as_slice.ensures.value ∙ empty_is c.as_slice.result.now c.is_empty.result c.is_empty.ensures c.if-not-is_empty.false) (ap (λ r. has_ended (option_map state_of r)) c.in-None.is) short c.saturating_add-next.ensures h

pub returns-then-not-is_ended : goal.returns-then-not-is_ended
returns-then-not-is_ended c =
    let law : Exact = record { begins = c.lines_come_as_traces_go.ensures.begins; one = c.lines_come_as_traces_go.ensures.one; ends = c.lines_come_as_traces_go.ensures.ends; whole = c.lines_come_as_traces_go.ensures.whole; says = c.lines_come_as_traces_go.ensures.says } in
    λ bytes short h. ends_early law _ bytes _ c.args.self.line.items _ _ c.if-wrong.false (sym c.as_slice.ensures.value ∙ empty_is c.as_slice.result.now c.is_empty.result c.is_empty.ensures c.if-not-is_empty.false) (ap (λ r. has_ended (option_map state_of r)) c.in-Some.is ∙ sym c.is_ended.ensures ∙ c.if-not-is_ended.true) short c.saturating_add-next.ensures h

pub returns : goal.returns
returns c =
    let law : Exact = record { begins = c.lines_come_as_traces_go.ensures.begins; one = c.lines_come_as_traces_go.ensures.one; ends = c.lines_come_as_traces_go.ensures.ends; whole = c.lines_come_as_traces_go.ensures.whole; says = c.lines_come_as_traces_go.ensures.says } in
    λ bytes short h. told_as bytes _ _ (sym c.into_trace.ensures) (ends_well law c.args.self.wrong bytes (state_of c.in-Some.reader) c.args.self.line.items c.args.self.count c.if-wrong.false (sym c.as_slice.ensures.value ∙ empty_is c.as_slice.result.now c.is_empty.result c.is_empty.ensures c.if-not-is_empty.false)
    (sym c.is_ended.ensures ∙ c.if-not-is_ended.false) (subst (λ r. HasReadBy c.args.self.wrong bytes (option_map state_of r) c.args.self.line.items c.args.self.count) c.in-Some.is h))
