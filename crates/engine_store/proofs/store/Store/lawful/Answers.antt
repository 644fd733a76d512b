use Rattle.std.proofs.Math.Logic.{∥∥₁_map}
use Rattle.crash_argument.specs.Ledger.{Ledger}
use Rattle.engine_store.specs.Store.{IsGoing}
use Rattle.engine_store.specs.Told.{IsToldBy}
use Rattle.engine_store.proofs.Awaiting.{still_awaits}
use Rattle.engine_store.proofs.store.Store.lawful.Goals as goal

pub returns-clause-failed : goal.returns-clause-failed
returns-clause-failed g c = λ tells stopped. ∥∥₁_map (c.args.self.now.kept.told tells) (λ (p : (l : Ledger) × IsToldBy c.args.self.now.parts (g.D.Disk.state c.args.self.now.disk) l). p.1.failed stopped)

pub returns-clause-known : goal.returns-clause-known
returns-clause-known g c = λ tells going below.
    let v = c.args.self.now.parts in
    let d = g.D.Disk.state c.args.self.now.disk in
    let is : IsGoing v = c.args.self.now.kept.sound.going going in
    ∥∥₁_map (c.args.self.now.kept.told tells) (λ (p : (l : Ledger) × IsToldBy v d l). still_awaits v c.args.self.now.ticks d is going (p.1.going going).due (p.1.going going).heard below)
