use Rattle.std.proofs.Common.{◌+◌, ◌<◌, ◌^◌, ℕ, length, sym, ◌∙◌, subst}
use Rattle.engine_store.proofs.Reserving.{places_few}
use Rattle.engine_store.proofs.syncing.places_needed.Goals as goal

pub returns-clause-places : goal.returns-clause-places
returns-clause-places c =
    c.places_of.ensures 0 0 c.args.books.now.changes.paid c.args.books.now.changes.laid
    (sym (c.a_commit_has_what_the_roles_say.ensures.payloads c.args.books.now c.requires) ∙ sym c.counts-paid.ensures.payloads)
    (sym (c.a_commit_has_what_the_roles_say.ensures.fresh c.args.books.now c.requires) ∙ sym c.counts-paid.ensures.fresh)

pub returns-clause-small : goal.returns-clause-small
returns-clause-small c = subst (λ (n : ℕ). length c.args.books.now.changes.laid + n < 2 ^ 32) (sym (returns-clause-places c)) (places_few c.args.books.now.changes (c.a_running_transaction_may_be_the_next_record.ensures.small c.args.books.now c.requires))
