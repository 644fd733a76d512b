use Rattle.std.proofs.Common.{◌≡◌, ◌≤◌, ◌+◌, ◌==◌, ℕ, List, not, All, rules, subst, sym, ◌∙◌}
use Rattle.std.specs.List.{list_any}
use Rattle.std.proofs.lemmas.Bool.{OnTrue_from}
use Rattle.std.proofs.lemmas.List.Elements.{All-filter}
use Rattle.disk_file.specs.Notices.{NoticesState, StaysOver}
use Rattle.disk_file.proofs.Overs.{pass_stays, pass_same}
use Rattle.disk_file.proofs.notices.Notices.pass.Goals as goal

pub invariant_of-self : goal.invariant_of-self
invariant_of-self c =
    let old = c.self.inside in (
      subst (λ (ts : List ℕ). All (λ t. t ≤ old.most) ts) (sym c.take_out.ensures.items) (All-filter (λ u. not (u == old.upto + 1)) (λ t. t ≤ old.most) old.waited.items c.self.invariant.0),
      subst (λ n. 1024 ≤ n) (sym c.take_out.ensures.capacity) c.self.invariant.1,
    )

pub returns-clause-stays : goal.returns-clause-stays
returns-clause-stays c =
    let old = c.self.inside in
    subst (λ (n : NoticesState). StaysOver n (record { upto = old.upto + 1; waited = c.take_out.new.waited.items; most = old.most })) c.self.view_is
    (subst (λ (ts : List ℕ). StaysOver (record { upto = old.upto; waited = old.waited.items; most = old.most }) (record { upto = old.upto + 1; waited = ts; most = old.most })) (sym c.take_out.ensures.items)
    (pass_stays old.upto old.most old.most old.waited.items))

pub returns-clause-same : goal.returns-clause-same
returns-clause-same c =
    let old = c.self.inside in
    let found : c.contains-was.result ≡ list_any (λ u. u == old.upto + 1) old.waited.items = search rules in
    OnTrue_from c.contains-was.result _ (λ was.
    subst (λ (n : NoticesState). StaysOver (record { upto = old.upto + 1; waited = c.take_out.new.waited.items; most = old.most }) n) c.self.view_is
    (subst (λ (ts : List ℕ). StaysOver (record { upto = old.upto + 1; waited = ts; most = old.most }) (record { upto = old.upto; waited = old.waited.items; most = old.most })) (sym c.take_out.ensures.items)
    (pass_same old.upto old.most old.most old.waited.items (sym found ∙ was))))
