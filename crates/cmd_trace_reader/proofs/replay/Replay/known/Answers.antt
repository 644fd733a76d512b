use Rattle.std.proofs.Common.{◌≡◌, ap, subst, arith}
use Rattle.cmd_trace_reader.proofs.Taking.{KeepsNumbers, known_none, known_one}
use Rattle.cmd_trace_reader.proofs.replay.Replay.known.Goals as goal

pub returns-in_default : goal.returns-in_default
returns-in_default c = known_none c.args.self.now c.args.text.now (subst KeepsNumbers c.self.view_is c.self.invariant) c.in_default.ensures

pub returns-then-point-least : goal.returns-then-point-least
returns-then-point-least c = λ reply known e.
    let same : known.point ≡ c.in-Some.point = known_one record { same = c.equal_texts_have_equal_values.ensures.reply } c.args.self.now c.args.text.now c.in-Some.point (subst KeepsNumbers c.self.view_is c.self.invariant) c.in-Some.ensures.0 c.in-Some.ensures.1 reply known e in
    omega (arith, same, known.from, c.if-point-least.true, ap (λ k. k.durable) c.self.view_is)

pub returns-then-greatest-point : goal.returns-then-greatest-point
returns-then-greatest-point c = λ reply known e.
    let same : known.point ≡ c.in-Some.point = known_one record { same = c.equal_texts_have_equal_values.ensures.reply } c.args.self.now c.args.text.now c.in-Some.point (subst KeepsNumbers c.self.view_is c.self.invariant) c.in-Some.ensures.0 c.in-Some.ensures.1 reply known e in
    omega (arith, same, known.upto, c.if-greatest-point.true, ap (λ k. k.points) c.self.view_is)
