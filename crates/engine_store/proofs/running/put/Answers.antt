use Rattle.std.proofs.Common.{◌≡◌, ◌∙◌, ap}
use Rattle.engine_reuse.specs.Dead.{DeadBlocks}
use Rattle.engine_blocks.specs.State.{Bookkeeping}
use Rattle.engine_store.specs.Store.{beside_books}
use Rattle.engine_store.specs.Told.{last_map}
use Rattle.engine_store.proofs.WaitingBlocks.{books_beside}
use Rattle.engine_store.proofs.Changing.{parts_kept, same_on, bit_is, bit_kept}
use Rattle.engine_store.proofs.running.put.Goals as goal

pub returns-clause-books : goal.returns-clause-books
returns-clause-books c = books_beside c.args.parts.now c.put.new.self (ap (λ (x : DeadBlocks). x.waiting) c.put.ensures.dead) ∙ c.put.ensures.books (beside_books c.args.parts.now)

pub returns-clause-keeps : goal.returns-clause-keeps
returns-clause-keeps c = λ tells d k marked.
    let geom : c.put.new.self.geom ≡ c.args.parts.now.books.geom = ap (λ (b : Bookkeeping). b.geom) (c.put.ensures.books (beside_books c.args.parts.now)) in
    parts_kept tells c.args.parts.now c.put.new.self d (same_on c.args.parts.now c.put.new.self geom c.put.ensures.kept c.put.ensures.dead c.put.ensures.taken)
    (λ t began. c.put.ensures.began (last_map c.args.parts.now d) (λ from. bit_is c.the_map_has_the_bits.ensures.bits c.args.parts.now.books (last_map c.args.parts.now d) c.args.b began c.requires.below (marked t from)) began) k

pub returns-clause-map : goal.returns-clause-map
returns-clause-map c = λ tells d k t marked. c.put.ensures.map (last_map c.args.parts.now d) (λ from. bit_kept c.the_map_has_the_bits.ensures.bits tells c.args.parts.now d c.args.b k t c.requires.below (marked from))
