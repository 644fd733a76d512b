-- What is shown where the look isn't refused, and that it was refused where it stops.
use Rattle.std.proofs.Common.{ℕ, List, arith, sym, ap, ◌∙◌, subst, take, drop}
use Rattle.lang_tree.specs.declared.command.Cmd.TheVariants.{Read}
use Rattle.lang_tree.specs.Names.{names_in}
use Rattle.lang_tree.specs.Step.{stat}
use Rattle.lang_tree.specs.Walk.{content}
use Rattle.engine_store.specs.StoreOf.{state_of}
use Rattle.fs_commands.specs.Opened.{blocks_in}
use Rattle.cmd_upgrade.specs.Looked.{IsSeen, IsStop}
use Rattle.cmd_upgrade.proofs.Sessions.{bytes_shown, bytes_fail, stop_of}
use Rattle.cmd_upgrade.proofs.Keeping.{stays_here}
use Rattle.cmd_upgrade.proofs.looks.bytes_at.Goals as goal

pub returns-in-Bytes-clause-bytes : goal.returns-in-Bytes-clause-bytes
returns-in-Bytes-clause-bytes g c = λ told first t h. bytes_shown t c.in_ok-path.path c.args.offset c.args.count c.in-Bytes.bytes c.look.result _ (c.look.ensures.answers told first t h) c.in-Bytes.is ∙ ap (λ p. take c.args.count (drop c.args.offset (content t p))) c.in_ok-path.ensures

pub returns-clause-which : goal.returns-clause-which
returns-clause-which g c = subst IsStop (sym c.of_reply.ensures) (stop_of _)

pub returns-clause-stops : goal.returns-clause-stops
returns-clause-stops g c = λ told first t h fault seen.
    bytes_fail t c.in_ok-path.path c.args.offset c.args.count c.look.result _ (c.look.ensures.answers told first t h) (λ x is. c.in_default.not-Bytes x is) (sym c.of_reply.ensures ∙ fault)
    (subst (λ (p : List (List ℕ)). IsSeen t (Read p c.args.offset c.args.count)) (sym c.in_ok-path.ensures) seen)

pub returns-in_err-path-clause-keeps : goal.returns-in_err-path-clause-keeps
returns-in_err-path-clause-keeps g c = stays_here g.D.Disk.tells (state_of g.D.Disk.state (blocks_in c.args.served.now))

pub returns-in_err-path-clause-raises : goal.returns-in_err-path-clause-raises
returns-in_err-path-clause-raises g c = omega arith
