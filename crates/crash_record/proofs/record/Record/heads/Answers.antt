use Rattle.std.proofs.Common.{◌≡◌, ◌+◌, ◌/◌, ◌<◌, length, ap, arith, rules, tests}
use Rattle.layout_journal.specs.Run.{Record}
use Rattle.crash_record.proofs.record.Record.heads.Goals as goal

pub returns-clause-room : goal.returns-clause-room
returns-clause-room c =
    let few : length c.args.self.now.payloads < 9223372036854775808 = omega (arith, c.self.inside.payloads.ok.0, c.self.inside.payloads.ok.1, c.self.inside.payloads.small, ap (λ (r : Record). length r.payloads) c.self.view_is) in
    let d : c.div_ceil.result ≡ (c.len.result + c.len-2.result + 23) / 24 = search (rules, tests) in
    omega (arith, few, d, c.len.ensures, c.len-2.ensures, c.self.inside.payloads.ok.0, c.self.inside.payloads.ok.1, c.self.inside.payloads.small, c.self.inside.fresh.ok.0, c.self.inside.fresh.ok.1, c.self.inside.fresh.small)
