use Rattle.std.proofs.Props.{props}
use Rattle.std.proofs.Common.{◌≡◌, ◌∙◌, ap}
use Rattle.engine_reuse.specs.Dead.{DeadBlocks}
use Rattle.engine_blocks.specs.State.{Bookkeeping}
use Rattle.engine_store.specs.Store.{beside_books}
use Rattle.engine_store.specs.Told.{last_map}
use Rattle.engine_store.proofs.WaitingBlocks.{books_beside}
use Rattle.engine_store.proofs.Changing.{parts_kept, take_on, began_gives}
use Rattle.engine_store.proofs.running.take.Goals as goal

pub returns-clause-books : goal.returns-clause-books
returns-clause-books c = books_beside c.args.parts.now c.take.new.self (ap (λ (x : DeadBlocks). x.waiting) c.take.ensures.dead) ∙ c.take.ensures.books (beside_books c.args.parts.now)

pub returns-clause-keeps : goal.returns-clause-keeps
returns-clause-keeps c = λ tells d k.
    let geom : c.take.new.self.geom ≡ c.args.parts.now.books.geom = ap (λ (b : Bookkeeping). b.geom) (c.take.ensures.books (beside_books c.args.parts.now)) in
    parts_kept tells c.args.parts.now c.take.new.self d
    (take_on c.taken_blocks_stay_sound.ensures.takes c.taken_blocks_stay_right.ensures.takes c.args.parts.now c.take.new.self c.args.list.now c.requires.sound geom c.take.ensures.kept c.take.ensures.dead c.take.ensures.taken c.requires.takeable)
    (λ t began. c.take.ensures.began (last_map c.args.parts.now d) began) k

pub returns-clause-map : goal.returns-clause-map
returns-clause-map c = λ tells d k t. began_gives (hlevel props) tells c.args.parts.now d k t (c.take.ensures.map (last_map c.args.parts.now d))
