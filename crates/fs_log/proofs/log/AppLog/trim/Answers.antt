use Rattle.std.proofs.Common.{◌≡◌, ◌+◌, true, drop, refl, sym, ap, ◌∙◌}
use Rattle.std.proofs.lemmas.List.{drop-drop}
use Rattle.fs_commands.specs.Opened.{blocks_in}
use Rattle.fs_log.specs.Open.{may_go}
use Rattle.fs_log.specs.Causes.{AsksToRemove, AsksToTrim}
use Rattle.fs_log.specs.Refusals.{is_of_none}
use Rattle.fs_log.proofs.Causes.{cause_later, passed_on}
use Rattle.fs_log.proofs.Mirroring.{same_firsts}
use Rattle.fs_log.proofs.Trimming.{removes_so, trims_more, trims_none, trims_still}
use Rattle.fs_log.proofs.Writing.{no_time, resting}
use Rattle.fs_log.proofs.Ways.{asks_later, asks_nothing, asks_so}
use Rattle.fs_log.proofs.log.AppLog.trim.Goals as goal

pub loop-alloc-init : goal.loop-alloc-init
loop-alloc-init g c = (
  λ told. trims_none g.S.Blocks.state c.args.number c.args.self.now
      (resting g.S.Blocks.state (blocks_in c.args.self.now.fs) (c.calls_compose.ensures.rests told) (λ s trees img known left. c.a_crash_leaves_the_tree_of_a_point.ensures.now s trees img told known left)).takes,
  refl,
  refl,
  λ told. no_time g.S.Blocks.state (c.calls_compose.ensures.rests told) (blocks_in c.args.self.now.fs),
  (0, refl),
  λ told. asks_nothing g.S.Blocks.tells g.S.Blocks.state (AsksToTrim c.args.self.now c.args.number) (blocks_in c.args.self.now.fs),
  refl,
)

pub loop-alloc-preserved : goal.loop-alloc-preserved
loop-alloc-preserved g c =
    let before = c.loop-alloc.invariant in
    let same = c.remove_first.ensures.same in
    let may : may_go c.args.number c.loop-alloc.self.firsts ≡ true =
    ap (may_go c.args.number) (sym (same_firsts c.self.view_is)) ∙ (ap (may_go c.args.number) (sym c.as_slice.ensures.value) ∙ (sym c.may_go.ensures ∙ c.loop-alloc-test.true)) in (
      λ told.
          trims_more g.S.Blocks.state c.calls_compose.ensures.advances c.args.number c.args.self.now c.loop-alloc.self c.remove_first.new.self (before.0 told) may (c.second_begins_within.ensures told)
          c.in_ok-remove_first.ensures.gone (c.in_ok-remove_first.ensures.done told),
      same.0 ∙ before.1,
      same.1 ∙ before.2,
      λ told. c.calls_compose.ensures.advances (blocks_in c.args.self.now.fs) (blocks_in c.loop-alloc.self.fs) (blocks_in c.remove_first.new.self.fs) (before.3 told) (c.remove_first.ensures.time told),
      (before.4.0 + 1, c.in_ok-remove_first.ensures.gone ∙ (ap (λ q. drop 1 q) before.4.1 ∙ drop-drop 1 before.4.0 c.args.self.now.firsts)),
      λ told. asks_later g.S.Blocks.tells g.S.Blocks.state (AsksToTrim c.args.self.now c.args.number) (blocks_in c.args.self.now.fs) (blocks_in c.loop-alloc.self.fs) (blocks_in c.remove_first.new.self.fs) (before.5 told)
          (asks_so g.S.Blocks.tells g.S.Blocks.state (AsksToRemove c.loop-alloc.self) (AsksToTrim c.args.self.now c.args.number) (blocks_in c.loop-alloc.self.fs) (blocks_in c.remove_first.new.self.fs)
          (removes_so c.args.number c.args.self.now c.loop-alloc.self before.4.0 before.4.1 may) (c.in_ok-remove_first.ensures.asked told)),
      c.remove_first.ensures.most ∙ before.6,
    )

pub returns-in_err-remove_first-clause-goes : goal.returns-in_err-remove_first-clause-goes
returns-in_err-remove_first-clause-goes g c = λ told.
    trims_still g.S.Blocks.state c.calls_compose.ensures.advances c.args.number c.args.self.now c.loop-alloc.self c.remove_first.new.self (c.loop-alloc.invariant.0 told)
    c.in_err-remove_first.ensures.still (c.in_err-remove_first.ensures.refused told)

pub returns-in_err-remove_first-clause-cause : goal.returns-in_err-remove_first-clause-cause
returns-in_err-remove_first-clause-cause g c =
    let old = c.args.self.now in
    let mid = c.loop-alloc.self in
    let before = c.loop-alloc.invariant in
    let may : may_go c.args.number mid.firsts ≡ true =
    ap (may_go c.args.number) (sym (same_firsts c.self.view_is)) ∙ (ap (may_go c.args.number) (sym c.as_slice.ensures.value) ∙ (sym c.may_go.ensures ∙ c.loop-alloc-test.true)) in
    passed_on c.from_residual.result c.in_err-remove_first.field-0.0 _ c.from_residual.ensures.1
    (cause_later g.S.Blocks.tells g.S.Blocks.state c.calls_compose.ensures.advances (λ told s. no_time g.S.Blocks.state (c.calls_compose.ensures.rests told) s)
    is_of_none is_of_none (AsksToRemove mid) (AsksToTrim old c.args.number) c.in_err-remove_first.field-0.0 (blocks_in old.fs) (blocks_in mid.fs) (blocks_in c.remove_first.new.self.fs)
    (λ why own. own) (removes_so c.args.number old mid before.4.0 before.4.1 may) before.3 before.5 c.in_err-remove_first.ensures.cause)
