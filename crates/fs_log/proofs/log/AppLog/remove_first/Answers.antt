use Rattle.std.proofs.Common.{inl, inr, ⊎_elim, ◌⊎◌, ◌≡◌, ◌≤◌, ◌∙◌, Some, length, slice_get, subst, sym}
use Rattle.fs_commands.specs.Opened.{blocks_in}
use Rattle.lang_log.specs.History.{trimmed_to}
use Rattle.lang_tree.specs.declared.command.Cmd.TheVariants.{Osync}
use Rattle.lang_tree.specs.declared.command.Refusal.TheVariants.{NoMemory}
use Rattle.engine_blocks.specs.Crashes.{Advances}
use Rattle.fs_log.specs.declared.refusal.LogRefusal.TheVariants.{Fs as FsRefused}
use Rattle.fs_log.specs.Causes.{AsksToRemove, HasCallCause}
use Rattle.fs_log.specs.Keeping.{TakesLog, as_before}
use Rattle.fs_log.specs.Open.{Mirrors, Open, second_of, state_in}
use Rattle.fs_log.specs.Refusals.{is_of_none}
use Rattle.fs_log.specs.Ways.{Way}
use Rattle.fs_log.proofs.Appending.{first_of_all, one_less, went}
use Rattle.fs_log.proofs.Causes.{asked_with, caused, lacking, passed_on, was_so}
use Rattle.fs_log.proofs.Mirroring.{on_err, same_firsts}
use Rattle.fs_log.proofs.Writing.{no_time, resting}
use Rattle.fs_log.proofs.Ways.{asks_nothing}
use Rattle.fs_log.proofs.log.AppLog.remove_first.Goals as goal

pub invariant_of-self : goal.invariant_of-self
invariant_of-self g c = record {
  follows = c.change_log-reply.ensures.follows;
  least = c.self.invariant.least;
  most = c.self.invariant.most;
  kept = c.self.invariant.kept;
  mirrors = λ told.
      let l = c.self.inside in
      let two : 2 ≤ length l.firsts.items = subst (λ q. 2 ≤ length q) (sym (same_firsts c.self.view_is)) c.requires.two in
      let first_is : slice_get l.firsts.items 0 ≡ Some c.index.result.now = first_of_all l.firsts.items c.index.result.now two c.index.ensures in
      (went g.S.Blocks.state l.firsts.items l.size l.next (blocks_in l.fs) (blocks_in c.change_log-reply.new.fs) c.change_log-reply.result (c.self.invariant.mirrors told)
      c.index.result.now c.in_ok-cmd.cmd two first_is c.in_ok-cmd.ensures (c.change_log-reply.ensures.gone told)).same c.in_err-done.ensures.not;
}

pub invariant_of-self-2 : goal.invariant_of-self-2
invariant_of-self-2 g c = record {
  follows = c.change_log-reply.ensures.follows;
  least = c.self.invariant.least;
  most = c.self.invariant.most;
  kept = c.self.invariant.kept;
  mirrors = λ told.
      let l = c.self.inside in
      let two : 2 ≤ length l.firsts.items = subst (λ q. 2 ≤ length q) (sym (same_firsts c.self.view_is)) c.requires.two in
      let first_is : slice_get l.firsts.items 0 ≡ Some c.index.result.now = first_of_all l.firsts.items c.index.result.now two c.index.ensures in
      subst (λ q. Mirrors (g.S.Blocks.state (blocks_in c.change_log-reply.new.fs)) q l.size l.next) (sym (c.remove.ensures.items ∙ one_less l.firsts.items))
      ((went g.S.Blocks.state l.firsts.items l.size l.next (blocks_in l.fs) (blocks_in c.change_log-reply.new.fs) c.change_log-reply.result (c.self.invariant.mirrors told)
      c.index.result.now c.in_ok-cmd.cmd two first_is c.in_ok-cmd.ensures (c.change_log-reply.ensures.gone told)).mirrors c.in_ok-done.ensures.done);
}

pub returns-in_err-cmd-clause-refused : goal.returns-in_err-cmd-clause-refused
returns-in_err-cmd-clause-refused g c = λ told. on_err c.from_residual.result _
    (resting g.S.Blocks.state (blocks_in c.args.self.now.fs) (c.calls_compose.ensures.rests told) (λ s trees img known left. c.a_crash_leaves_the_tree_of_a_point.ensures.now s trees img told known left)).takes

pub returns-in_err-done-clause-refused : goal.returns-in_err-done-clause-refused
returns-in_err-done-clause-refused g c = λ told. on_err c.from_residual-in_err-done.result _ (
    let l = c.self.inside in
    let two : 2 ≤ length l.firsts.items = subst (λ q. 2 ≤ length q) (sym (same_firsts c.self.view_is)) c.requires.two in
    let first_is : slice_get l.firsts.items 0 ≡ Some c.index.result.now = first_of_all l.firsts.items c.index.result.now two c.index.ensures in
    subst (λ q. TakesLog as_before (state_in g.S.Blocks.state q) (g.S.Blocks.state (blocks_in c.change_log-reply.new.fs))) c.self.view_is
    ((went g.S.Blocks.state l.firsts.items l.size l.next (blocks_in l.fs) (blocks_in c.change_log-reply.new.fs) c.change_log-reply.result (c.self.invariant.mirrors told)
    c.index.result.now c.in_ok-cmd.cmd two first_is c.in_ok-cmd.ensures (c.change_log-reply.ensures.gone told)).rests c.in_err-done.ensures.not))

pub returns-clause-done : goal.returns-clause-done
returns-clause-done g c = λ told.
    let l = c.self.inside in
    let two : 2 ≤ length l.firsts.items = subst (λ q. 2 ≤ length q) (sym (same_firsts c.self.view_is)) c.requires.two in
    let first_is : slice_get l.firsts.items 0 ≡ Some c.index.result.now = first_of_all l.firsts.items c.index.result.now two c.index.ensures in
    subst (λ q. TakesLog (trimmed_to (second_of q.firsts)) (state_in g.S.Blocks.state q) (g.S.Blocks.state (blocks_in c.change_log-reply.new.fs))) c.self.view_is
    ((went g.S.Blocks.state l.firsts.items l.size l.next (blocks_in l.fs) (blocks_in c.change_log-reply.new.fs) c.change_log-reply.result (c.self.invariant.mirrors told)
    c.index.result.now c.in_ok-cmd.cmd two first_is c.in_ok-cmd.ensures (c.change_log-reply.ensures.gone told)).takes c.in_ok-done.ensures.done)

pub returns-in_err-cmd-clause-time : goal.returns-in_err-cmd-clause-time
returns-in_err-cmd-clause-time g c = λ told. no_time g.S.Blocks.state (c.calls_compose.ensures.rests told) (blocks_in c.args.self.now.fs)

pub returns-in_err-done-clause-time : goal.returns-in_err-done-clause-time
returns-in_err-done-clause-time g c = λ told.
    subst (λ q. Advances (state_in g.S.Blocks.state q) (g.S.Blocks.state (blocks_in c.change_log-reply.new.fs))) c.self.view_is (c.change_log-reply.ensures.time told)

pub returns-clause-time : goal.returns-clause-time
returns-clause-time g c = λ told.
    subst (λ q. Advances (state_in g.S.Blocks.state q) (g.S.Blocks.state (blocks_in c.change_log-reply.new.fs))) c.self.view_is (c.change_log-reply.ensures.time told)

pub returns-in_err-cmd-clause-cause : goal.returns-in_err-cmd-clause-cause
returns-in_err-cmd-clause-cause g c =
    passed_on c.from_residual.result (FsRefused NoMemory) _ c.from_residual.ensures.1
    (lacking g.S.Blocks.tells g.S.Blocks.state is_of_none (AsksToRemove c.args.self.now) (blocks_in c.args.self.now.fs) (blocks_in c.args.self.now.fs)
    (λ told. asks_nothing g.S.Blocks.tells g.S.Blocks.state (AsksToRemove c.args.self.now) (blocks_in c.args.self.now.fs)))

pub returns-in_err-done-clause-cause : goal.returns-in_err-done-clause-cause
returns-in_err-done-clause-cause g c =
    passed_on c.from_residual-in_err-done.result c.in_err-done.field-0.0 _ c.from_residual-in_err-done.ensures.1 (
    let l = c.self.inside in
    let two : 2 ≤ length l.firsts.items = subst (λ q. 2 ≤ length q) (sym (same_firsts c.self.view_is)) c.requires.two in
    let first_is : slice_get l.firsts.items 0 ≡ Some c.index.result.now = first_of_all l.firsts.items c.index.result.now two c.index.ensures in
    let open_now : Open g.row.S.Denot = record { fs = l.fs; most = l.most; firsts = l.firsts.items; size = l.size; next = l.next; kept = l.kept } in
    let new = blocks_in c.change_log-reply.new.fs in
    subst (λ q. HasCallCause g.S.Blocks.tells g.S.Blocks.state is_of_none (AsksToRemove q) c.in_err-done.field-0.0 (blocks_in q.fs) new) c.self.view_is
    (subst (λ w. HasCallCause g.S.Blocks.tells g.S.Blocks.state is_of_none (AsksToRemove open_now) w (blocks_in l.fs) new) (sym c.in_err-done.ensures.is)
    (caused g.S.Blocks.tells g.S.Blocks.state is_of_none (AsksToRemove open_now) (blocks_in l.fs) new c.change_log-reply.result
    (was_so g.S.Blocks.tells g.S.Blocks.state (λ cmd. (cmd ≡ c.in_ok-cmd.cmd) ⊎ (cmd ≡ Osync)) (AsksToRemove open_now) c.change_log-reply.result (blocks_in l.fs) new
    (λ cmd asked. ⊎_elim (λ is. inl (c.index.result.now, first_is, is ∙ c.in_ok-cmd.ensures)) (λ is. inr is) asked) c.change_log-reply.ensures.was)
    (λ told. (went g.S.Blocks.state l.firsts.items l.size l.next (blocks_in l.fs) new c.change_log-reply.result (c.self.invariant.mirrors told)
    c.index.result.now c.in_ok-cmd.cmd two first_is c.in_ok-cmd.ensures (c.change_log-reply.ensures.gone told)).late c.in_err-done.ensures.not))))

pub returns-clause-asked : goal.returns-clause-asked
returns-clause-asked g c = λ told.
    let l = c.self.inside in
    let two : 2 ≤ length l.firsts.items = subst (λ q. 2 ≤ length q) (sym (same_firsts c.self.view_is)) c.requires.two in
    let first_is : slice_get l.firsts.items 0 ≡ Some c.index.result.now = first_of_all l.firsts.items c.index.result.now two c.index.ensures in
    let open_now : Open g.row.S.Denot = record { fs = l.fs; most = l.most; firsts = l.firsts.items; size = l.size; next = l.next; kept = l.kept } in
    let new = blocks_in c.change_log-reply.new.fs in
    subst (λ q. Way g.S.Blocks.tells g.S.Blocks.state (AsksToRemove q) (blocks_in q.fs) new) c.self.view_is
    (asked_with g.S.Blocks.tells g.S.Blocks.state (AsksToRemove open_now) c.change_log-reply.result (blocks_in l.fs) new
    (was_so g.S.Blocks.tells g.S.Blocks.state (λ cmd. (cmd ≡ c.in_ok-cmd.cmd) ⊎ (cmd ≡ Osync)) (AsksToRemove open_now) c.change_log-reply.result (blocks_in l.fs) new
    (λ cmd asked. ⊎_elim (λ is. inl (c.index.result.now, first_is, is ∙ c.in_ok-cmd.ensures)) (λ is. inr is) asked) c.change_log-reply.ensures.was) told)
