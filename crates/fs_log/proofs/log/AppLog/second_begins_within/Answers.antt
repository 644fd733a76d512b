use Rattle.std.proofs.Common.{◌≤◌, length, subst, sym}
use Rattle.fs_commands.specs.Opened.{blocks_in}
use Rattle.fs_log.specs.Keeping.{Keeps}
use Rattle.fs_log.specs.Open.{state_in}
use Rattle.fs_log.proofs.Trimming.{IsSecondOf, second_is}
use Rattle.fs_log.proofs.log.AppLog.second_begins_within.Goals as goal

pub returns : goal.returns
returns g c = λ told two h keeps.
    let l = c.self.inside in
    subst (λ q. IsSecondOf q.firsts h.now) c.self.view_is
    (second_is c.a_tree_has_one_log.ensures (g.S.Blocks.state (blocks_in l.fs)) l.firsts.items l.size l.next h (c.self.invariant.mirrors told)
    (subst (λ q. Keeps h (state_in g.S.Blocks.state q)) (sym c.self.view_is) keeps) (subst (λ q. 2 ≤ length q.firsts) (sym c.self.view_is) two))
