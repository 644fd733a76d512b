use Rattle.std.proofs.Common.{◌≡◌, ◌≤◌, max, rules, arith, subst}
use Rattle.disk_file.specs.Notices.{NoticesState, StaysOver}
use Rattle.disk_file.proofs.Overs.{jump_stays}
use Rattle.disk_file.proofs.notices.Notices.note.Goals as goal

-- no ticket that was over is above the new number
pub returns-then-len-ge-MOST-clause-stays : goal.returns-then-len-ge-MOST-clause-stays
returns-then-len-ge-MOST-clause-stays c =
    let old = c.self.inside in
    let new = c.max-self-inside.result in
    let first : c.max.result ≡ max old.upto old.most = search rules in
    let second : new ≡ max c.max.result c.args.ticket = search rules in
    let high : old.upto ≤ new = omega (arith, first, second) in
    let higher : old.most ≤ new = omega (arith, first, second) in
    subst (λ (n : NoticesState). StaysOver n (record { upto = new; waited = c.clear.new.self.items; most = old.most })) c.self.view_is
    (jump_stays old.upto old.most new old.most old.waited.items c.clear.new.self.items high higher c.self.invariant.0)
