use Rattle.std.proofs.Common.{◌≡◌, arith, rules, tests, get_or}
use Rattle.cmd_trace_reader.specs.Reading.{state_of}
use Rattle.cmd_trace_reader.proofs.Following.{first_asks, first_answers, first_happens}
use Rattle.cmd_trace_reader.proofs.reader.Reader.take.Goals as goal

pub returns-then-first-eq99 : goal.returns-then-first-eq99
returns-then-first-eq99 c =
    let first : get_or c.args.line.now 0 0 ≡ 99 = first_of (search (rules, tests, c.if-first-eq99.true), omega (arith, c.if-first-eq99.true), grind (arith, tests, c.if-first-eq99.true)) in
    first_asks (state_of c.args.self.now) (state_of c.take_command.new.self) c.args.line.now c.in_ok-taken-in-len1-up.taken c.in-len1-up.len_at_least first c.in_ok-taken-in-len1-up.ensures

pub returns-then-first-eq114 : goal.returns-then-first-eq114
returns-then-first-eq114 c =
    let first : get_or c.args.line.now 0 0 ≡ 114 = first_of (search (rules, tests, c.if-first-eq114.true), omega (arith, c.if-first-eq114.true), grind (arith, tests, c.if-first-eq114.true)) in
    first_answers (state_of c.args.self.now) (state_of c.take_reply.new.self) c.args.line.now c.in_ok-taken-in-len1-up-2.taken c.in-len1-up.len_at_least first c.in_ok-taken-in-len1-up-2.ensures

pub returns-in_ok-taken-in-len1-up-3 : goal.returns-in_ok-taken-in-len1-up-3
returns-in_ok-taken-in-len1-up-3 c =
    first_happens (state_of c.args.self.now) (state_of c.take_event.new.self) c.args.line.now c.in_ok-taken-in-len1-up-3.taken c.in-len1-up.len_at_least
    (λ e. first_of (search (rules, tests, e, c.if-first-eq99.false), omega (arith, e, c.if-first-eq99.false), grind (arith, tests, e, c.if-first-eq99.false)))
    (λ e. first_of (search (rules, tests, e, c.if-first-eq114.false), omega (arith, e, c.if-first-eq114.false), grind (arith, tests, e, c.if-first-eq114.false)))
    (λ e. first_of (search (rules, tests, e, c.if-first-eq101.false), omega (arith, e, c.if-first-eq101.false), grind (arith, tests, e, c.if-first-eq101.false)))
    c.in_ok-taken-in-len1-up-3.ensures
