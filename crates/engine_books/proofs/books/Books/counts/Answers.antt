use Rattle.std.proofs.Common.{◌+◌, ◌≤◌, length, sym, ap, subst, ◌∙◌}
use Rattle.engine_books.specs.Books.{TransactionBooks}
use Rattle.engine_books.proofs.Sound.{payloads_are, fresh_are, few_puts}
use Rattle.engine_books.proofs.books.Books.counts.Goals as goal

pub counts-requires : goal.counts-requires
counts-requires c = subst (λ (v : TransactionBooks). length v.changes.paid + length v.changes.laid ≤ 2097152) (sym c.self.view_is) (few_puts c.args.self.now c.requires)

pub returns-clause-payloads : goal.returns-clause-payloads
returns-clause-payloads c = c.counts.ensures.payloads ∙ ap (λ (v : TransactionBooks). length v.changes.paid) c.self.view_is ∙ sym (payloads_are c.args.self.now c.requires)

pub returns-clause-fresh : goal.returns-clause-fresh
returns-clause-fresh c = c.counts.ensures.fresh ∙ ap (λ (v : TransactionBooks). length v.changes.laid) c.self.view_is ∙ sym (fresh_are c.args.self.now c.requires)
