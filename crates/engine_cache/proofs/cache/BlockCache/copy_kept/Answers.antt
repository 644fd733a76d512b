use Rattle.std.proofs.Common.{◌≡◌, ◌∙◌, sym, ap, subst, Some, None, IfSome, is_some, option_copied}
use Rattle.engine_cache.proofs.Entries.{asked_for, shown}
use Rattle.engine_cache.proofs.cache.BlockCache.copy_kept.Goals.{in-Some, in-None}
use Rattle.engine_cache.proofs.cache.BlockCache.copy_kept.Goals as goal

-- the look-up shows the block where it is kept
pub returns-clause-kept : goal.returns-clause-kept
returns-clause-kept c = elim c.match-get.branch [
  | in-Some w ↦ w.result-is ∙ sym (ap is_some (shown _ c.args.self.now c.args.b (Some w.in-Some.block.now) c.self.view_is (sym (ap option_copied w.in-Some.is) ∙ c.get.ensures.value)))
  | in-None w ↦ w.result-is ∙ sym (ap is_some (shown _ c.args.self.now c.args.b None c.self.view_is (sym (ap option_copied w.in-None.is) ∙ c.get.ensures.value)))
]

pub returns-clause-bytes : goal.returns-clause-bytes
returns-clause-bytes c = elim c.match-get.branch [
  | in-Some w ↦ subst (λ o. IfSome o (λ x. c.match-get.into ≡ x)) (sym (shown _ c.args.self.now c.args.b (Some w.in-Some.block.now) c.self.view_is (sym (ap option_copied w.in-Some.is) ∙ c.get.ensures.value))) w.into-is
  | in-None w ↦ subst (λ o. IfSome o (λ x. c.match-get.into ≡ x)) (sym (shown _ c.args.self.now c.args.b None c.self.view_is (sym (ap option_copied w.in-None.is) ∙ c.get.ensures.value))) tt
]

-- that it was asked for changes the order of the entries alone
pub returns-clause-cache : goal.returns-clause-cache
returns-clause-cache c = elim c.match-get.branch [
  | in-Some w ↦ rw w.self-inside-is (asked_for _ c.get.follows.lender-at-none c.args.self.now c.args.b c.self.view_is c.get.follows.holds-at-none)
  | in-None w ↦ rw w.self-inside-is (asked_for _ c.get.follows.lender-at-none c.args.self.now c.args.b c.self.view_is c.get.follows.holds-at-none)
]
