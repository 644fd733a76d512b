use Rattle.std.proofs.Common.{◌≡◌, ℕ, not, ◌+◌, ◌++◌, ◌∷◌, [], rules}
use Rattle.engine_blocks.specs.Puts.{IsData}
use Rattle.engine_blocks.specs.PlainLaws.{plain_is_sound}
use Rattle.engine_blocks.proofs.PlainServes.{ends_frees}
use Rattle.engine_blocks.specs.Running.{nothing_running}
use Rattle.engine_blocks.specs.PlainOf.{books_of}
use Rattle.engine_blocks.proofs.PlainSyncs.{syncs_refused, syncs_changed, writes_record}
use Rattle.engine_blocks.proofs.plain.PlainBlocksBlocks.osync.Goals as goal

pub returns-then-is_err-clause-syncs : goal.returns-then-is_err-clause-syncs
returns-then-is_err-clause-syncs c =
    let same : c.end_transaction.new.self ≡ c.args.self.now = search rules in
    syncs_refused c.args.self.now c.end_transaction.new.self same

pub returns-clause-syncs : goal.returns-clause-syncs
returns-clause-syncs c =
    let old = c.args.self.now in
    let new = c.end_transaction.new.self in
    let books : books_of new ≡ record (books_of old) { running = nothing_running; reusable = (books_of new).reusable; point = (books_of old).point + 1 } = search rules in
    let points : new.history.points ≡ old.history.points ++ old.history.now ∷ [] = search rules in
    syncs_changed old new c.last-2.result c.if-self-eq0.false c.requires.sound.none_bare c.last-2.ensures books c.end_transaction.ensures.reusable c.end_transaction.ensures.map points c.end_transaction.ensures.ticks

pub returns-clause-frees : goal.returns-clause-frees
returns-clause-frees c =
    let clears : (b : ℕ) → IsData c.args.self.now.geom b → (books_of c.end_transaction.new.self).reusable b ≡ not ((books_of c.args.self.now).marked b) = search rules in
    λ tells. ends_frees c.args.self.now c.end_transaction.new.self (plain_is_sound c.args.self.now).unmarked clears c.if-self-eq0.false

pub returns-clause-written : goal.returns-clause-written
returns-clause-written c = λ tells. writes_record c.args.self.now c.end_transaction.new.self
