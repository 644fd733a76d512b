use Rattle.std.proofs.Common.{◌≡◌, ◌<◌, ◌≤◌, ℕ, refl, arith}
use Rattle.engine_store.specs.Store.{beside_books, bookkeeping_of}
use Rattle.engine_store.specs.Told.{store_state}
use Rattle.engine_store.proofs.Choices.{runs_on, refused_at_once, refused_then, found_then}
use Rattle.engine_store.proofs.StoreStates.{runs_itself}
use Rattle.engine_store.proofs.store.StoreBlocks.lowest.Goals as goal

-- how many there are, where there are enough and where there are fewer
enough : (n found count : ℕ) → n ≤ found → found ≡ count → n ≤ count
enough n found count le is = omega (arith, le, is)

fewer : (n found count : ℕ) → found < n → found ≡ count → n ≤ count → ⊥
fewer n found count lt is le = omega (arith, lt, is, le)

pub returns-then-reusable-n-clause-lowest : goal.returns-then-reusable-n-clause-lowest
returns-then-reusable-n-clause-lowest g c = found_then c.least.result c.args.n (bookkeeping_of c.args.self.now.parts) (bookkeeping_of c.args.self.now.parts) c.least.new.into (λ lt. absurd (fewer _ _ _ lt refl (enough c.args.n c.reusable.result _ (omega (arith, c.if-reusable-n.true)) (c.reusable.ensures (beside_books c.args.self.now.parts))))) c.least.ensures.found

pub returns-then-reusable-n-clause-refused : goal.returns-then-reusable-n-clause-refused
returns-then-reusable-n-clause-refused g c = refused_at_once c.least.result c.args.n (bookkeeping_of c.args.self.now.parts) (enough c.args.n c.reusable.result _ (omega (arith, c.if-reusable-n.true)) (c.reusable.ensures (beside_books c.args.self.now.parts))) c.least.ensures.refused

pub returns-then-reusable-n-clause-moves : goal.returns-then-reusable-n-clause-moves
returns-then-reusable-n-clause-moves g c = runs_on c.least.result c.args.n (bookkeeping_of c.args.self.now.parts) g.D.Disk.tells _ _ c.least.ensures.refused
    (runs_itself g.D.Disk.tells (store_state c.args.self.now.parts c.args.self.now.ticks (g.D.Disk.state c.args.self.now.disk)) c.requires.going (λ on. c.args.self.now.told on c.args.self.now.ticks))

pub invariant_of-self : goal.invariant_of-self
invariant_of-self g c = record {
  kept = c.drain.ensures.kept;
  sound = c.a_store_that_is_kept_is_told.ensures.sound g.D.Disk.tells c.drain.new.parts (g.D.Disk.state c.drain.new.disk) c.drain.ensures.kept;
  told = λ on ticks. c.a_store_that_is_kept_is_told.ensures.told g.D.Disk.tells c.drain.new.parts ticks (g.D.Disk.state c.drain.new.disk) c.drain.ensures.kept on;
}

pub returns-in-Ok-clause-lowest : goal.returns-in-Ok-clause-lowest
returns-in-Ok-clause-lowest g c = found_then c.least-in-Ok.result c.args.n (bookkeeping_of c.args.self.now.parts) (bookkeeping_of c.drain.new.parts) c.least-in-Ok.new.into (λ lt. c.in-Ok.ensures.settled) c.least-in-Ok.ensures.found

pub returns-in-Ok-clause-refused : goal.returns-in-Ok-clause-refused
returns-in-Ok-clause-refused g c = refused_then c.least-in-Ok.result c.args.n (bookkeeping_of c.args.self.now.parts) (bookkeeping_of c.drain.new.parts) c.in-Ok.ensures.settled c.least-in-Ok.ensures.refused

pub returns-in-Ok-clause-moves : goal.returns-in-Ok-clause-moves
returns-in-Ok-clause-moves g c = runs_on c.least-in-Ok.result c.args.n (bookkeeping_of c.drain.new.parts) g.D.Disk.tells _ _ c.least-in-Ok.ensures.refused (c.in-Ok.ensures.runs c.args.self.now.ticks c.args.self.now.ticks)

pub returns-in-Ok-clause-looks : goal.returns-in-Ok-clause-looks
returns-in-Ok-clause-looks g c = λ le. absurd (fewer c.args.n c.reusable.result _ (omega (arith, c.if-reusable-n.false)) (c.reusable.ensures (beside_books c.args.self.now.parts)) le)

pub returns-in-Err-clause-moves : goal.returns-in-Err-clause-moves
returns-in-Err-clause-moves g c = c.in-Err.ensures.runs c.args.self.now.ticks c.args.self.now.ticks

pub returns-in-Err-clause-looks : goal.returns-in-Err-clause-looks
returns-in-Err-clause-looks g c = λ le. absurd (fewer c.args.n c.reusable.result _ (omega (arith, c.if-reusable-n.false)) (c.reusable.ensures (beside_books c.args.self.now.parts)) le)

pub returns-in-Err-clause-refused : goal.returns-in-Err-clause-refused
returns-in-Err-clause-refused g c = omega (arith, c.if-reusable-n.false, c.reusable.ensures (beside_books c.args.self.now.parts))

pub returns-in-Ok-clause-ticks : goal.returns-in-Ok-clause-ticks
returns-in-Ok-clause-ticks g c = c.in-Ok.ensures.asks c.args.self.now.ticks

pub returns-in-Err-clause-ticks : goal.returns-in-Err-clause-ticks
returns-in-Err-clause-ticks g c = c.in-Err.ensures.asks c.args.self.now.ticks

pub returns-in-Ok-clause-serves : goal.returns-in-Ok-clause-serves
returns-in-Ok-clause-serves g c = λ few done. c.in-Ok.ensures.serves

pub returns-then-reusable-n-clause-serves : goal.returns-then-reusable-n-clause-serves
returns-then-reusable-n-clause-serves g c = λ few done. absurd (fewer _ _ _ few refl (enough c.args.n c.reusable.result _ (omega (arith, c.if-reusable-n.true)) (c.reusable.ensures (beside_books c.args.self.now.parts))))
