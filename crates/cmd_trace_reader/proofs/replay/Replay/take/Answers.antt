use Rattle.std.proofs.Common.{◌≡◌, ◌∙◌, sym, ap, subst, false}
use Rattle.cmd_trace_reader.proofs.Taking.{KeepsNumbers, takes_bad, takes_refused, takes_known, takes_applied}
use Rattle.cmd_trace_reader.proofs.replay.Replay.take.Goals as goal

pub returns-then-is_bad : goal.returns-then-is_bad
returns-then-is_bad c = takes_bad c.args.self.now c.args.cmd.now c.args.text.now c.bad_of.result (sym c.is_bad.ensures ∙ c.if-is_bad.true) c.bad_of.ensures

pub returns-in-Some : goal.returns-in-Some
returns-in-Some c =
    takes_refused record { same = c.equal_texts_have_equal_values.ensures.reply } c.args.self.now c.refused.new.self c.args.cmd.now c.args.text.now c.in-Some.why c.refused.result (sym c.is_bad.ensures ∙ c.if-is_bad.false)
    c.in-Some.ensures.0 c.in-Some.ensures.1 c.refused.ensures

pub returns-then-is_durable : goal.returns-then-is_durable
returns-then-is_durable c =
    let keeps = subst KeepsNumbers c.self.view_is c.self.invariant in
    let going : c.args.self.now.stopped ≡ false = sym (ap (λ k. k.stopped) c.self.view_is) ∙ c.if-self.false in
    takes_known c.args.self.now c.args.cmd.now c.args.text.now c.known.result keeps.0 keeps.1 keeps.2 going (sym c.is_durable.ensures ∙ c.if-is_durable.true) c.in_default.ensures c.known.ensures

pub returns : goal.returns
returns c =
    let going : c.args.self.now.stopped ≡ false = sym (ap (λ k. k.stopped) c.self.view_is) ∙ c.if-self.false in
    takes_applied record { session = c.a_reply_tells_the_session.ensures } record { exact = c.a_tree_in_memory_refuses_for_no_disk.ensures.exact; alone = c.a_tree_in_memory_refuses_for_no_disk.ensures.alone } c.args.self.now c.applied.new.self c.args.cmd.now c.args.text.now c.in_ok-found.found (sym c.is_bad.ensures ∙ c.if-is_bad.false) going
    (sym c.is_durable.ensures ∙ c.if-is_durable.false) c.in_default.ensures c.in_ok-found.ensures.reads c.in_ok-found.ensures.lawful c.in_ok-found.ensures.applies
