use Rattle.std.proofs.Props.{props}
use Rattle.std.proofs.Common.{◌≡◌, ◌∙◌, ap}
use Rattle.engine_blocks.specs.State.{Bookkeeping}
use Rattle.engine_books.specs.Books.{bit_now}
use Rattle.engine_store.specs.Store.{beside_books}
use Rattle.engine_store.specs.Told.{last_map}
use Rattle.engine_store.proofs.WaitingBlocks.{books_beside, waits_freed}
use Rattle.engine_store.proofs.Changing.{parts_kept, free_on, began_gives}
use Rattle.engine_store.proofs.running.free.Goals as goal

pub returns-clause-books : goal.returns-clause-books
returns-clause-books c = books_beside c.args.parts.now c.free.new.self (waits_freed (bit_now c.args.parts.now.books c.args.b) c.args.parts.now.books.dead c.free.new.self.dead c.args.b c.free.ensures.dead) ∙ c.free.ensures.books (beside_books c.args.parts.now)

pub returns-clause-keeps : goal.returns-clause-keeps
returns-clause-keeps c = λ tells d k.
    let geom : c.free.new.self.geom ≡ c.args.parts.now.books.geom = ap (λ (b : Bookkeeping). b.geom) (c.free.ensures.books (beside_books c.args.parts.now)) in
    parts_kept tells c.args.parts.now c.free.new.self d
    (free_on c.taken_blocks_stay_sound.ensures.frees c.taken_blocks_stay_right.ensures.frees c.args.parts.now c.free.new.self c.args.b geom c.free.ensures.kept c.free.ensures.dead c.free.ensures.taken)
    (λ t began. c.free.ensures.began (last_map c.args.parts.now d) began) k

pub returns-clause-map : goal.returns-clause-map
returns-clause-map c = λ tells d k t. began_gives (hlevel props) tells c.args.parts.now d k t (c.free.ensures.map (last_map c.args.parts.now d))
