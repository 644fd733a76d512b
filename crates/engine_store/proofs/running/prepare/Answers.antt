use Rattle.std.proofs.Common.{◌≡◌, ◌∙◌, ap}
use Rattle.engine_reuse.specs.Dead.{DeadBlocks}
use Rattle.engine_blocks.specs.State.{Bookkeeping}
use Rattle.engine_store.specs.Store.{beside_books}
use Rattle.engine_store.specs.Told.{last_map}
use Rattle.engine_store.proofs.WaitingBlocks.{books_beside}
use Rattle.engine_store.proofs.Changing.{parts_kept, room_on}
use Rattle.engine_store.proofs.running.prepare.Goals as goal

pub returns-clause-books : goal.returns-clause-books
returns-clause-books c = books_beside c.args.parts.now c.prepare.new.self (ap (λ (x : DeadBlocks). x.waiting) c.prepare.ensures.stays.dead) ∙ c.prepare.ensures.stays.books (beside_books c.args.parts.now)

pub returns-clause-keeps : goal.returns-clause-keeps
returns-clause-keeps c = λ tells d k.
    let geom : c.prepare.new.self.geom ≡ c.args.parts.now.books.geom = ap (λ (b : Bookkeeping). b.geom) (c.prepare.ensures.stays.books (beside_books c.args.parts.now)) in
    parts_kept tells c.args.parts.now c.prepare.new.self d
    (room_on c.taken_blocks_stay_sound.ensures.room c.taken_blocks_stay_right.ensures.room c.args.parts.now c.prepare.new.self c.prepare.new.self.dead.room geom c.prepare.ensures.kept c.prepare.ensures.stays.dead c.prepare.ensures.stays.same.taken)
    (λ t began. c.prepare.ensures.began (last_map c.args.parts.now d) began) k

pub returns-clause-map : goal.returns-clause-map
returns-clause-map c = λ d. c.prepare.ensures.stays.map (last_map c.args.parts.now d)
