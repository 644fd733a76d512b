use Rattle.std.proofs.lemmas.Bool.{false≢true}
use Rattle.engine_store.proofs.store.Store.mount_with.Goals as goal

pub invariant_of-result : goal.invariant_of-result
invariant_of-result g c = record {
  kept = c.in-Ok.ensures.kept;
  sound = c.a_store_that_is_kept_is_told.ensures.sound g.D.Disk.tells c.in-Ok.parts (g.D.Disk.state c.open_parts.new.disk) c.in-Ok.ensures.kept;
  told = λ on ticks. c.a_store_that_is_kept_is_told.ensures.told g.D.Disk.tells c.in-Ok.parts ticks (g.D.Disk.state c.open_parts.new.disk) c.in-Ok.ensures.kept on;
}

pub returns-in-Ok : goal.returns-in-Ok
returns-in-Ok g c = record {
  begun = c.in-Ok.ensures.begun 0;
  begins = λ tells k m held. c.in-Ok.ensures.begins tells k m held 0;
  mountable = c.in-Ok.ensures.mountable;
  leaves = record { holds = c.in-Ok.ensures.holds; spends = c.in-Ok.ensures.spends; cause = λ tells never. absurd (false≢true never); written = c.in-Ok.ensures.written };
  back = tt;
  refused = λ tells. tt;
  numbers = λ tells. c.in-Ok.ensures.numbers tells 0;
  opens = λ tells. c.in-Ok.ensures.opens tells 0;
  alone = c.in-Ok.ensures.alone;
  stops = λ tells none. tt;
}

pub returns-in-Err : goal.returns-in-Err
returns-in-Err g c = record {
  begun = tt;
  begins = λ tells k m held. tt;
  mountable = λ tells. tt;
  leaves = tt;
  back = record { holds = c.in-Err.ensures.holds; spends = c.in-Err.ensures.spends; cause = c.in-Err.ensures.cause; written = c.in-Err.ensures.written };
  refused = c.in-Err.ensures.refused;
  numbers = λ tells. tt;
  opens = λ tells. tt;
  alone = λ tells none. tt;
  stops = c.in-Err.ensures.alone;
}
