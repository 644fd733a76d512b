use Rattle.std.proofs.Common.{[], ◌∷◌, ◌++◌, arith}
use Rattle.lang_tree.specs.Step.{session_on}
use Rattle.crash_stands.specs.Bounds.{bounds_of}
use Rattle.cmd_session.proofs.Moments.{spends_first, spends_more, within_budget}
use Rattle.cmd_session.proofs.laws.the_writes_keep_within_the_budget_at_each_mark.Goals as goal

pub returns-clause-first : goal.returns-clause-first
returns-clause-first g c = λ k f log. spends_first k f log

pub returns-clause-more : goal.returns-clause-more
returns-clause-more g c = λ old new k t mounted cmds replies marks cmd reply served grows budget before.
    let now = within_budget k t _ 0 mounted (cmds ++ cmd ∷ []) (replies ++ reply ∷ []) (g.S.Blocks.state new) budget (omega arith) in
    spends_more k (session_on (bounds_of k) t) mounted (g.S.Blocks.state old).crash.log (g.S.Blocks.state new).crash.log cmds replies marks cmd reply served.answered served.marked served.ascend grows
    (record { each = λ i from upto. omega (arith, now.each i from upto) }) before
