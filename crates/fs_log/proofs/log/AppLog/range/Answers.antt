use Rattle.std.proofs.Common.{◌≡◌, subst, sym}
use Rattle.fs_commands.specs.Opened.{blocks_in}
use Rattle.lang_log.specs.Log.{next_of}
use Rattle.fs_log.specs.Keeping.{Keeps}
use Rattle.fs_log.specs.Open.{Mirrors, low_in, state_in}
use Rattle.fs_log.proofs.Mirroring.{numbers_are}
use Rattle.fs_log.proofs.log.AppLog.range.Goals as goal

pub returns-clause-told : goal.returns-clause-told
returns-clause-told g c = λ told h keeps.
    subst (λ l. (low_in l ≡ h.now.low) × (l.next ≡ next_of h.now)) c.self.view_is
    (numbers_are c.a_tree_has_one_log.ensures (g.S.Blocks.state (blocks_in c.self.inside.fs)) c.self.inside.firsts.items c.self.inside.size c.self.inside.next h (c.self.invariant.mirrors told)
    (subst (λ l. Keeps h (state_in g.S.Blocks.state l)) (sym c.self.view_is) keeps))

pub returns-clause-mirrors : goal.returns-clause-mirrors
returns-clause-mirrors g c = λ told.
    subst (λ l. Mirrors (state_in g.S.Blocks.state l) l.firsts l.size l.next) c.self.view_is (c.self.invariant.mirrors told)
