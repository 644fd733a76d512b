use Rattle.std.proofs.Common.{length, get_or, subst, ap, ◌∙◌, arith}
use Rattle.std.proofs.lemmas.List.{take_all}
use Rattle.engine_books.specs.Books.{TransactionBooks}
use Rattle.engine_books.specs.Taking.{HasTaken, TakesOne}
use Rattle.engine_books.proofs.Taken.{take_leaves, has_box, next_taken, few_held}
use Rattle.engine_books.proofs.Takes.{none_taken}
use Rattle.engine_books.proofs.books.Books.take.Goals as goal

pub loop-b-init : goal.loop-b-init
loop-b-init c = none_taken c.args.self.now

pub take_one-requires-clause-puts : goal.take_one-requires-clause-puts
take_one-requires-clause-puts c = has_box c.args.self.now c.loop-b.self c.args.list.now c.loop-b.b-index c.requires.kept c.requires.room (omega (arith, c.loop-b-test.true, ap length c.as_slice-b-items.ensures)) c.loop-b.invariant

pub loop-b-preserved : goal.loop-b-preserved
loop-b-preserved c = next_taken c.args.self.now c.loop-b.self c.take_one.new.self c.args.list.now c.loop-b.b-index c.requires.kept c.requires.takeable (omega (arith, c.loop-b-test.true, ap length c.as_slice-b-items.ensures)) c.loop-b.invariant
    (subst (λ ys. TakesOne (get_or ys c.loop-b.b-index 0) c.loop-b.self c.take_one.new.self) c.as_slice-b-items.ensures c.take_one.ensures)

pub overflow_add-self-2 : goal.overflow_add-self-2
overflow_add-self-2 c =
    let k = c.requires.kept in
    let h = subst (λ ys. HasTaken ys c.args.self.now c.loop-b.self) (take_all c.loop-b.b-index c.args.list.now (omega (arith, c.loop-b-test.false, ap length c.as_slice-b-items.ensures))) c.loop-b.invariant in
    omega (arith, few_held c.the_accounts_add_up.ensures c.args.self.now k, k.took_few, k.bits.counted, k.limits.most_blocks, c.len-count.ensures, ap (λ (v : TransactionBooks). v.took) (c.self.view_is ∙ c.loop-b.invariant.rest.same), h.free)

pub returns-clause-kept : goal.returns-clause-kept
returns-clause-kept c = (take_leaves c.args.self.now c.loop-b.self _ c.args.list.now c.loop-b.b-index c.taken.new.self c.len-count.result c.self.view_is (omega (arith, c.loop-b-test.false, ap length c.as_slice-b-items.ensures)) c.loop-b.invariant c.requires.kept c.requires.takeable c.calls_change_what_is_dead.ensures.taken c.a_freed_block_waits.ensures.held c.requires.room c.taken.ensures c.lawful-2.ensures c.len-count.ensures c.lawful.ensures.rows c.lawful.ensures.taken).kept

pub returns-clause-books : goal.returns-clause-books
returns-clause-books c = (take_leaves c.args.self.now c.loop-b.self _ c.args.list.now c.loop-b.b-index c.taken.new.self c.len-count.result c.self.view_is (omega (arith, c.loop-b-test.false, ap length c.as_slice-b-items.ensures)) c.loop-b.invariant c.requires.kept c.requires.takeable c.calls_change_what_is_dead.ensures.taken c.a_freed_block_waits.ensures.held c.requires.room c.taken.ensures c.lawful-2.ensures c.len-count.ensures c.lawful.ensures.rows c.lawful.ensures.taken).books

pub returns-clause-began : goal.returns-clause-began
returns-clause-began c = (take_leaves c.args.self.now c.loop-b.self _ c.args.list.now c.loop-b.b-index c.taken.new.self c.len-count.result c.self.view_is (omega (arith, c.loop-b-test.false, ap length c.as_slice-b-items.ensures)) c.loop-b.invariant c.requires.kept c.requires.takeable c.calls_change_what_is_dead.ensures.taken c.a_freed_block_waits.ensures.held c.requires.room c.taken.ensures c.lawful-2.ensures c.len-count.ensures c.lawful.ensures.rows c.lawful.ensures.taken).began

pub returns-clause-map : goal.returns-clause-map
returns-clause-map c = (take_leaves c.args.self.now c.loop-b.self _ c.args.list.now c.loop-b.b-index c.taken.new.self c.len-count.result c.self.view_is (omega (arith, c.loop-b-test.false, ap length c.as_slice-b-items.ensures)) c.loop-b.invariant c.requires.kept c.requires.takeable c.calls_change_what_is_dead.ensures.taken c.a_freed_block_waits.ensures.held c.requires.room c.taken.ensures c.lawful-2.ensures c.len-count.ensures c.lawful.ensures.rows c.lawful.ensures.taken).map
