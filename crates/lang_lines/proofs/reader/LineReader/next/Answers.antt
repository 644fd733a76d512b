-- What each answer tells.
use Rattle.std.proofs.Common.{arith, sym, ap, ◌∙◌, option_to_list}
use Rattle.lang_lines.proofs.Calling.{not_begun, still, none_left, more_came, gives, ended, end_found, last_is, last_is_none, failed, too_many, fewer_left, same_reader}
use Rattle.lang_lines.proofs.reader.LineReader.next.Goals as goal

pub loop-alloc-init : goal.loop-alloc-init
loop-alloc-init g c = record { holds = not_begun g.P.LineParser.bad g.P.LineParser.says _ _; risen = omega arith }

pub loop-alloc-preserved : goal.loop-alloc-preserved
loop-alloc-preserved g c =
    let mid = none_left g.P.LineParser.bad g.P.LineParser.says _ _ _ _ _ c.in-Ok-None.field-0 c.loop-alloc.invariant.holds c.in-Ok-None.field-0-is c.in-Ok-None.ensures.ok in
    record {
      holds = more_came g.P.LineParser.bad g.P.LineParser.says _ _ _ _ _ _ mid (c.in-Ok-None.ensures.ok.over ∙ sym c.is_over.ensures.value ∙ c.loop-alloc-test.true) (c.in-Ok-None.ensures.none (ap option_to_list c.in-Ok-None.field-0-is)) c.in-Bytes.ensures.has;
      risen = omega (arith, c.loop-alloc.invariant.risen, c.pull.ensures.faults);
    }

pub loop-alloc-smaller : goal.loop-alloc-smaller
loop-alloc-smaller g c = fewer_left c.loop-alloc.self.count c.next_ahead.new.self.count c.pull.new.self.count c.in-Ok-None.ensures.ok.count c.in-Bytes.ensures.has.some c.in-Bytes.ensures.most

pub returns-in-Ok-Some-clause-ok : goal.returns-in-Ok-Some-clause-ok
returns-in-Ok-Some-clause-ok g c = gives g.P.LineParser.bad g.P.LineParser.says _ _ _ _ _ c.in-Ok-Some.item c.in-Ok-Some.field-0 _ _ c.loop-alloc.invariant.holds c.in-Ok-Some.field-0-is c.in-Ok-Some.ensures.ok

pub returns-in-Ok-Some-take_last-clause-ok : goal.returns-in-Ok-Some-take_last-clause-ok
returns-in-Ok-Some-take_last-clause-ok g c =
    let mid = none_left g.P.LineParser.bad g.P.LineParser.says _ _ _ _ _ c.in-Ok-None.field-0 c.loop-alloc.invariant.holds c.in-Ok-None.field-0-is c.in-Ok-None.ensures.ok in
    last_is g.P.LineParser.bad g.P.LineParser.says _ _ _ _ _ c.in-Ok-Some-take_last.item c.in-Ok-Some-take_last.field-0 _ _ (end_found g.P.LineParser.bad g.P.LineParser.says _ _ _ _ _ _ mid c.in-Nothing.ensures.has) c.in-Ok-Some-take_last.field-0-is c.in-Ok-Some-take_last.ensures.ok

pub returns-in-Ok-None-take_last-clause-ok : goal.returns-in-Ok-None-take_last-clause-ok
returns-in-Ok-None-take_last-clause-ok g c =
    let mid = none_left g.P.LineParser.bad g.P.LineParser.says _ _ _ _ _ c.in-Ok-None.field-0 c.loop-alloc.invariant.holds c.in-Ok-None.field-0-is c.in-Ok-None.ensures.ok in
    last_is_none g.P.LineParser.bad g.P.LineParser.says _ _ _ _ _ c.in-Ok-None-take_last.field-0 _ _ (end_found g.P.LineParser.bad g.P.LineParser.says _ _ _ _ _ _ mid c.in-Nothing.ensures.has) c.in-Ok-None-take_last.field-0-is c.in-Ok-None-take_last.ensures.ok

pub returns-in-Fault-clause-ok : goal.returns-in-Fault-clause-ok
returns-in-Fault-clause-ok g c =
    let mid = none_left g.P.LineParser.bad g.P.LineParser.says _ _ _ _ _ c.in-Ok-None.field-0 c.loop-alloc.invariant.holds c.in-Ok-None.field-0-is c.in-Ok-None.ensures.ok in
    failed g.P.LineParser.bad g.P.LineParser.says _ _ _ _ _ _ _ _ _ mid (c.in-Ok-None.ensures.ok.over ∙ sym c.is_over.ensures.value ∙ c.loop-alloc-test.true) (c.in-Ok-None.ensures.none (ap option_to_list c.in-Ok-None.field-0-is)) c.loop-alloc.invariant.risen c.in-Fault.ensures.has

pub returns-in-TooMany-clause-ok : goal.returns-in-TooMany-clause-ok
returns-in-TooMany-clause-ok g c =
    let mid = none_left g.P.LineParser.bad g.P.LineParser.says _ _ _ _ _ c.in-Ok-None.field-0 c.loop-alloc.invariant.holds c.in-Ok-None.field-0-is c.in-Ok-None.ensures.ok in
    too_many g.P.LineParser.bad g.P.LineParser.says _ _ _ _ _ _ _ _ mid (c.in-Ok-None.ensures.ok.over ∙ sym c.is_over.ensures.value ∙ c.loop-alloc-test.true) (c.in-Ok-None.ensures.none (ap option_to_list c.in-Ok-None.field-0-is)) c.in-TooMany.ensures.has

pub returns-in-Err-clause-err : goal.returns-in-Err-clause-err
returns-in-Err-clause-err g c = still g.P.LineParser.bad g.P.LineParser.says _ _ _ _ _ c.loop-alloc.invariant.holds c.in-Err.ensures.err

pub returns-in-Err-take_last-clause-err : goal.returns-in-Err-take_last-clause-err
returns-in-Err-take_last-clause-err g c =
    let mid = none_left g.P.LineParser.bad g.P.LineParser.says _ _ _ _ _ c.in-Ok-None.field-0 c.loop-alloc.invariant.holds c.in-Ok-None.field-0-is c.in-Ok-None.ensures.ok in
    let over = end_found g.P.LineParser.bad g.P.LineParser.says _ _ _ _ _ _ mid c.in-Nothing.ensures.has in
    same_reader g.P.LineParser.bad g.P.LineParser.says _ _ _ _ _ over.0 c.in-Err-take_last.ensures.err

pub returns-clause-ok : goal.returns-clause-ok
returns-clause-ok g c = ended g.P.LineParser.bad g.P.LineParser.says _ _ _ _ _ _ c.loop-alloc.invariant.holds (sym c.is_over.ensures.value ∙ c.loop-alloc-test.false) (c.is_over.ensures.none c.loop-alloc-test.false)
