-- What is shown where the look isn't refused, and that it was refused where it stops.
use Rattle.std.proofs.Common.{ℕ, List, arith, sym, ap, ◌∙◌, subst, take, drop}
use Rattle.lang_tree.specs.declared.command.Cmd.TheVariants.{Stat}
use Rattle.lang_tree.specs.Names.{names_in}
use Rattle.lang_tree.specs.Step.{stat}
use Rattle.lang_tree.specs.Walk.{content}
use Rattle.engine_store.specs.StoreOf.{state_of}
use Rattle.fs_commands.specs.Opened.{blocks_in}
use Rattle.cmd_upgrade.specs.Looked.{IsSeen, IsStop}
use Rattle.cmd_upgrade.proofs.Sessions.{stat_shown, stat_fails, stop_of}
use Rattle.cmd_upgrade.proofs.Keeping.{stays_here}
use Rattle.cmd_upgrade.proofs.looks.stat_at.Goals as goal

pub returns-in-Stat-clause-stat : goal.returns-in-Stat-clause-stat
returns-in-Stat-clause-stat g c = λ told first t h. ap (stat t) (sym c.in_ok-path.ensures) ∙ stat_shown t c.in_ok-path.path c.in-Stat.stat c.look.result _ (c.look.ensures.answers told first t h) c.in-Stat.is

pub returns-clause-which : goal.returns-clause-which
returns-clause-which g c = subst IsStop (sym c.of_reply.ensures) (stop_of _)

pub returns-clause-stops : goal.returns-clause-stops
returns-clause-stops g c = λ told first t h fault seen.
    stat_fails t c.in_ok-path.path c.look.result _ (c.look.ensures.answers told first t h) (λ x is. c.in_default.not-Stat x is) (sym c.of_reply.ensures ∙ fault)
    (subst (λ (p : List (List ℕ)). IsSeen t (Stat p)) (sym c.in_ok-path.ensures) seen)

pub returns-in_err-path-clause-keeps : goal.returns-in_err-path-clause-keeps
returns-in_err-path-clause-keeps g c = stays_here g.D.Disk.tells (state_of g.D.Disk.state (blocks_in c.args.served.now))

pub returns-in_err-path-clause-raises : goal.returns-in_err-path-clause-raises
returns-in_err-path-clause-raises g c = omega arith
