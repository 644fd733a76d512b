-- The bytes up to the first line feed are more of the line, and the line feed makes it whole.
use Rattle.std.proofs.Common.{◌∙◌, sym, subst, arith, ◌++◌, length, take, take_all, option_map}
use Rattle.std.proofs.lemmas.List.{length-append, length-take-le}
use Rattle.cmd_trace_reader.specs.Reading.{state_of}
use Rattle.cmd_trace_reader.specs.Progress.{HasRead, HasReadBy}
use Rattle.cmd_trace_reader.proofs.Growing.{grown, line_before, feed_at, line_whole, feed_on}
use Rattle.cmd_trace_reader.proofs.lines.Lines.take_some.Goals as goal

pub returns-in_ok-extend_from_slice-in-None-clause-takes : goal.returns-in_ok-extend_from_slice-in-None-clause-takes
returns-in_ok-extend_from_slice-in-None-clause-takes c = λ seen fits going h.
    let old = c.args.self.now in
    let bytes = c.args.bytes.now in
    let s = option_map state_of old.reader in
    subst (λ t. HasReadBy old.wrong (seen ++ t) s c.extend_from_slice.new.self.items old.count) (sym (take_all (length bytes) bytes (omega arith)))
    (subst (λ l. HasReadBy old.wrong (seen ++ bytes) s l old.count) (sym c.in_ok-extend_from_slice-in-None.ensures.items)
    (grown old.wrong seen bytes s old.line.items old.count going (line_whole bytes (sym c.feed_in.ensures.first ∙ c.in-None.is)) h))

pub returns-in_ok-take_line-in-Some-clause-takes : goal.returns-in_ok-take_line-in-Some-clause-takes
returns-in_ok-take_line-in-Some-clause-takes c = λ seen fits going h.
    let old = c.args.self.now in
    let bytes = c.args.bytes.now in
    let at = c.in-Some.at in
    let s = option_map state_of old.reader in
    let found = sym c.feed_in.ensures.first ∙ c.in-Some.is in
    subst (λ t. HasRead t c.take_line.new.self) (feed_on seen bytes at c.in-Some.ensures.below (feed_at bytes at found))
    (c.in_ok-take_line-in-Some.ensures (seen ++ take at bytes) (omega (arith, fits, c.in-Some.ensures.below, length-append seen (take at bytes), length-take-le at bytes (omega (arith, c.in-Some.ensures.below)))) going
    (subst (λ l. HasReadBy old.wrong (seen ++ take at bytes) s l old.count) (sym c.in_ok-extend_from_slice-in-Some.ensures.items)
    (grown old.wrong seen (take at bytes) s old.line.items old.count going (line_before bytes at found) h)))
