use Rattle.std.proofs.Common.{rules}
use Rattle.engine_store.proofs.TicketLogs.{grows_by}
use Rattle.engine_store.proofs.store.StoreBlocks.tick.Goals as goal

pub invariant_of-self : goal.invariant_of-self
invariant_of-self g c = record {
  kept = c.advance.ensures.kept;
  sound = c.a_store_that_is_kept_is_told.ensures.sound g.D.Disk.tells c.advance.new.parts (g.D.Disk.state c.advance.new.disk) c.advance.ensures.kept;
  told = λ on ticks. c.a_store_that_is_kept_is_told.ensures.told g.D.Disk.tells c.advance.new.parts ticks (g.D.Disk.state c.advance.new.disk) c.advance.ensures.kept on;
}

pub returns-clause-moves : goal.returns-clause-moves
returns-clause-moves g c = c.advance.ensures.runs c.args.self.now.ticks _

pub returns-clause-ticks : goal.returns-clause-ticks
returns-clause-ticks g c = record { made = search rules; manner = c.advance.ensures.manner; polled = λ on p known. let polled = c.advance.ensures.polled on p known in (polled.0, grows_by p.log (g.D.Disk.state c.advance.new.disk).log polled.1) }

pub returns-clause-writes : goal.returns-clause-writes
returns-clause-writes g c = c.advance.ensures.polled

pub returns-clause-serves : goal.returns-clause-serves
returns-clause-serves g c = c.advance.ensures.serves c.args.self.now.ticks _

pub returns-clause-ring : goal.returns-clause-ring
returns-clause-ring g c = c.advance.ensures.ring _
