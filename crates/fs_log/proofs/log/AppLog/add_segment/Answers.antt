use Rattle.std.proofs.Common.{rules, ◌≡◌, ◌⊎◌, inl, inr, ⊎_elim, ◌<◌, ◌++◌, ◌∷◌, [], ◌∙◌, subst, sym}
use Rattle.fs_commands.specs.Opened.{blocks_in}
use Rattle.lang_tree.specs.declared.command.Cmd.TheVariants.{Osync}
use Rattle.lang_tree.specs.declared.command.Refusal.TheVariants.{NoMemory}
use Rattle.engine_blocks.specs.Crashes.{Advances}
use Rattle.fs_log.specs.declared.refusal.LogRefusal.TheVariants.{Fs as FsRefused}
use Rattle.fs_log.specs.Causes.{AsksToMake, HasCallCause}
use Rattle.fs_log.specs.Keeping.{TakesLog, as_before}
use Rattle.fs_log.specs.Open.{Mirrors, Open, state_in}
use Rattle.fs_log.specs.Refusals.{is_of_none}
use Rattle.fs_log.specs.Ways.{Way}
use Rattle.fs_log.proofs.Appending.{began}
use Rattle.fs_log.proofs.Causes.{asked_with, caused, lacking, passed_on, was_so}
use Rattle.fs_log.proofs.Mirroring.{same_firsts, same_size}
use Rattle.fs_log.proofs.Writing.{no_time, resting}
use Rattle.fs_log.proofs.Ways.{asks_nothing}
use Rattle.fs_log.proofs.log.AppLog.add_segment.Goals as goal

pub returns-in_err-reserve-clause-rests : goal.returns-in_err-reserve-clause-rests
returns-in_err-reserve-clause-rests g c = λ told.
    subst (λ q. TakesLog as_before (state_in g.S.Blocks.state q) (g.S.Blocks.state (blocks_in c.self.inside.fs))) c.self.view_is
    (resting g.S.Blocks.state (blocks_in c.self.inside.fs) (c.calls_compose.ensures.rests told) (λ s trees img known left. c.a_crash_leaves_the_tree_of_a_point.ensures.now s trees img told known left)).takes

pub returns-in_err-cmd-clause-rests : goal.returns-in_err-cmd-clause-rests
returns-in_err-cmd-clause-rests g c = λ told.
    subst (λ q. TakesLog as_before (state_in g.S.Blocks.state q) (g.S.Blocks.state (blocks_in c.self.inside.fs))) c.self.view_is
    (resting g.S.Blocks.state (blocks_in c.self.inside.fs) (c.calls_compose.ensures.rests told) (λ s trees img known left. c.a_crash_leaves_the_tree_of_a_point.ensures.now s trees img told known left)).takes

pub invariant_of-self-in_err-done : goal.invariant_of-self-in_err-done
invariant_of-self-in_err-done g c = record {
  follows = c.change_log-reply.ensures.follows;
  least = c.self.invariant.least;
  most = c.self.invariant.most;
  kept = c.self.invariant.kept;
  mirrors = λ told.
      let l = c.self.inside in
      subst (λ q. Mirrors (g.S.Blocks.state (blocks_in c.change_log-reply.new.fs)) q l.size l.next) (sym c.reserve.ensures.items)
      ((began g.S.Blocks.state l.firsts.items l.size l.next (blocks_in l.fs) (blocks_in c.change_log-reply.new.fs) c.change_log-reply.result (c.self.invariant.mirrors told)
      c.in_ok-cmd.cmd (⊎_elim (λ none. inl (same_firsts c.self.view_is ∙ none)) (λ some. inr (subst (λ n. 0 < n) (sym (same_size c.self.view_is)) some)) c.requires.used) c.in_ok-cmd.ensures
      c.names_tell_numbers_apart.ensures (c.change_log-reply.ensures.made told)).same c.in_err-done.ensures.not);
}

pub returns-in_err-done-clause-rests : goal.returns-in_err-done-clause-rests
returns-in_err-done-clause-rests g c = λ told.
    let l = c.self.inside in
    subst (λ q. TakesLog as_before (state_in g.S.Blocks.state q) (g.S.Blocks.state (blocks_in c.change_log-reply.new.fs))) c.self.view_is
    ((began g.S.Blocks.state l.firsts.items l.size l.next (blocks_in l.fs) (blocks_in c.change_log-reply.new.fs) c.change_log-reply.result (c.self.invariant.mirrors told)
    c.in_ok-cmd.cmd (⊎_elim (λ none. inl (same_firsts c.self.view_is ∙ none)) (λ some. inr (subst (λ n. 0 < n) (sym (same_size c.self.view_is)) some)) c.requires.used) c.in_ok-cmd.ensures
    c.names_tell_numbers_apart.ensures (c.change_log-reply.ensures.made told)).rests c.in_err-done.ensures.not)

pub invariant_of-self-2 : goal.invariant_of-self-2
invariant_of-self-2 g c = record {
  follows = c.change_log-reply.ensures.follows;
  least = c.self.invariant.least;
  most = c.self.invariant.most;
  kept = c.self.invariant.kept;
  mirrors = λ told.
      let l = c.self.inside in
      let pushed : c.push.new.self.items ≡ l.firsts.items ++ l.next ∷ [] = search rules in
      subst (λ q. Mirrors (g.S.Blocks.state (blocks_in c.change_log-reply.new.fs)) q 0 l.next) (sym pushed)
      ((began g.S.Blocks.state l.firsts.items l.size l.next (blocks_in l.fs) (blocks_in c.change_log-reply.new.fs) c.change_log-reply.result (c.self.invariant.mirrors told)
      c.in_ok-cmd.cmd (⊎_elim (λ none. inl (same_firsts c.self.view_is ∙ none)) (λ some. inr (subst (λ n. 0 < n) (sym (same_size c.self.view_is)) some)) c.requires.used) c.in_ok-cmd.ensures
      c.names_tell_numbers_apart.ensures (c.change_log-reply.ensures.made told)).mirrors c.in_ok-done.ensures.done);
}

pub returns-clause-rests : goal.returns-clause-rests
returns-clause-rests g c = λ told.
    let l = c.self.inside in
    subst (λ q. TakesLog as_before (state_in g.S.Blocks.state q) (g.S.Blocks.state (blocks_in c.change_log-reply.new.fs))) c.self.view_is
    ((began g.S.Blocks.state l.firsts.items l.size l.next (blocks_in l.fs) (blocks_in c.change_log-reply.new.fs) c.change_log-reply.result (c.self.invariant.mirrors told)
    c.in_ok-cmd.cmd (⊎_elim (λ none. inl (same_firsts c.self.view_is ∙ none)) (λ some. inr (subst (λ n. 0 < n) (sym (same_size c.self.view_is)) some)) c.requires.used) c.in_ok-cmd.ensures
    c.names_tell_numbers_apart.ensures (c.change_log-reply.ensures.made told)).takes c.in_ok-done.ensures.done)

pub returns-in_err-reserve-clause-time : goal.returns-in_err-reserve-clause-time
returns-in_err-reserve-clause-time g c = λ told.
    subst (λ q. Advances (state_in g.S.Blocks.state q) (g.S.Blocks.state (blocks_in c.self.inside.fs))) c.self.view_is (no_time g.S.Blocks.state (c.calls_compose.ensures.rests told) (blocks_in c.self.inside.fs))

pub returns-in_err-cmd-clause-time : goal.returns-in_err-cmd-clause-time
returns-in_err-cmd-clause-time g c = λ told.
    subst (λ q. Advances (state_in g.S.Blocks.state q) (g.S.Blocks.state (blocks_in c.self.inside.fs))) c.self.view_is (no_time g.S.Blocks.state (c.calls_compose.ensures.rests told) (blocks_in c.self.inside.fs))

pub returns-in_err-done-clause-time : goal.returns-in_err-done-clause-time
returns-in_err-done-clause-time g c = λ told.
    subst (λ q. Advances (state_in g.S.Blocks.state q) (g.S.Blocks.state (blocks_in c.change_log-reply.new.fs))) c.self.view_is (c.change_log-reply.ensures.time told)

pub returns-clause-time : goal.returns-clause-time
returns-clause-time g c = λ told.
    subst (λ q. Advances (state_in g.S.Blocks.state q) (g.S.Blocks.state (blocks_in c.change_log-reply.new.fs))) c.self.view_is (c.change_log-reply.ensures.time told)

pub returns-in_err-reserve-clause-cause : goal.returns-in_err-reserve-clause-cause
returns-in_err-reserve-clause-cause g c =
    passed_on c.from_residual.result (FsRefused NoMemory) _ c.from_residual.ensures.1
    (lacking g.S.Blocks.tells g.S.Blocks.state is_of_none (AsksToMake c.args.self.now) (blocks_in c.args.self.now.fs) (blocks_in c.self.inside.fs)
    (λ told. subst (λ q. Way g.S.Blocks.tells g.S.Blocks.state (AsksToMake c.args.self.now) (blocks_in q.fs) (blocks_in c.self.inside.fs)) c.self.view_is (asks_nothing g.S.Blocks.tells g.S.Blocks.state (AsksToMake c.args.self.now) (blocks_in c.self.inside.fs))))

pub returns-in_err-cmd-clause-cause : goal.returns-in_err-cmd-clause-cause
returns-in_err-cmd-clause-cause g c =
    passed_on c.from_residual-in_err-cmd.result (FsRefused NoMemory) _ c.from_residual-in_err-cmd.ensures.1
    (lacking g.S.Blocks.tells g.S.Blocks.state is_of_none (AsksToMake c.args.self.now) (blocks_in c.args.self.now.fs) (blocks_in c.self.inside.fs)
    (λ told. subst (λ q. Way g.S.Blocks.tells g.S.Blocks.state (AsksToMake c.args.self.now) (blocks_in q.fs) (blocks_in c.self.inside.fs)) c.self.view_is (asks_nothing g.S.Blocks.tells g.S.Blocks.state (AsksToMake c.args.self.now) (blocks_in c.self.inside.fs))))

pub returns-in_err-done-clause-cause : goal.returns-in_err-done-clause-cause
returns-in_err-done-clause-cause g c =
    let l = c.self.inside in
    let open_now : Open g.row.S.Denot = record { fs = l.fs; most = l.most; firsts = l.firsts.items; size = l.size; next = l.next; kept = l.kept } in
    let new = blocks_in c.change_log-reply.new.fs in
    passed_on c.from_residual-in_err-done.result c.in_err-done.field-0.0 _ c.from_residual-in_err-done.ensures.1
    (subst (λ q. HasCallCause g.S.Blocks.tells g.S.Blocks.state is_of_none (AsksToMake q) c.in_err-done.field-0.0 (blocks_in q.fs) new) c.self.view_is
    (subst (λ w. HasCallCause g.S.Blocks.tells g.S.Blocks.state is_of_none (AsksToMake open_now) w (blocks_in l.fs) new) (sym c.in_err-done.ensures.is)
    (caused g.S.Blocks.tells g.S.Blocks.state is_of_none (AsksToMake open_now) (blocks_in l.fs) new c.change_log-reply.result
    (was_so g.S.Blocks.tells g.S.Blocks.state (λ cmd. (cmd ≡ c.in_ok-cmd.cmd) ⊎ (cmd ≡ Osync)) (AsksToMake open_now) c.change_log-reply.result (blocks_in l.fs) new
    (λ cmd asked. ⊎_elim (λ is. inl (is ∙ c.in_ok-cmd.ensures)) (λ is. inr is) asked) c.change_log-reply.ensures.was)
    (λ told. (began g.S.Blocks.state l.firsts.items l.size l.next (blocks_in l.fs) new c.change_log-reply.result (c.self.invariant.mirrors told)
    c.in_ok-cmd.cmd (⊎_elim (λ none. inl (same_firsts c.self.view_is ∙ none)) (λ some. inr (subst (λ n. 0 < n) (sym (same_size c.self.view_is)) some)) c.requires.used) c.in_ok-cmd.ensures
    c.names_tell_numbers_apart.ensures (c.change_log-reply.ensures.made told)).late c.in_err-done.ensures.not))))

pub returns-clause-asked : goal.returns-clause-asked
returns-clause-asked g c = λ told.
    let l = c.self.inside in
    let open_now : Open g.row.S.Denot = record { fs = l.fs; most = l.most; firsts = l.firsts.items; size = l.size; next = l.next; kept = l.kept } in
    let new = blocks_in c.change_log-reply.new.fs in
    subst (λ q. Way g.S.Blocks.tells g.S.Blocks.state (AsksToMake q) (blocks_in q.fs) new) c.self.view_is
    (asked_with g.S.Blocks.tells g.S.Blocks.state (AsksToMake open_now) c.change_log-reply.result (blocks_in l.fs) new
    (was_so g.S.Blocks.tells g.S.Blocks.state (λ cmd. (cmd ≡ c.in_ok-cmd.cmd) ⊎ (cmd ≡ Osync)) (AsksToMake open_now) c.change_log-reply.result (blocks_in l.fs) new
    (λ cmd asked. ⊎_elim (λ is. inl (is ∙ c.in_ok-cmd.ensures)) (λ is. inr is) asked) c.change_log-reply.ensures.was) told)
