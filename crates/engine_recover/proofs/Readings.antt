-- Reading goes on: what it changes adds up, and what the disk gives stays.
use Rattle.std.proofs.Common.{◌<◌, Bool, false, List, sym, ◌∙◌, ap, ap₂, subst}
use Rattle.base_types.specs.Counts.{after_call}
use Rattle.base_types.specs.Seal.{Blocks}
use Rattle.disk_contract.specs.Cell.{accepted, is_lost}
use Rattle.disk_contract.specs.declared.event.Event.{Event}
use Rattle.disk_contract.specs.Disk.{State}
use Rattle.engine_recover.specs.Reading.{Gives, Searches}

-- reads after reads
pub read_on : (tells failed : Bool) (a b c : State) → Searches tells false a b → Searches tells failed b c → Searches tells failed a c
read_on tells failed a b c x y = record {
  log = λ t. y.log t ∙ x.log t;
  only = record {
    same = record { blocks = y.only.same.blocks ∙ x.only.same.blocks; base = y.only.same.base ∙ x.only.same.base; manner = y.only.same.manner ∙ x.only.same.manner };
    faults = y.only.faults ∙ x.only.faults;
    read_faults = y.only.read_faults ∙ ap (after_call failed) x.only.read_faults;
    waits = y.only.waits ∙ x.only.waits;
    polls = y.only.polls ∙ x.only.polls;
  };
}

-- the disk gives the same blocks
pub still_gives : (tells failed : Bool) (a b : State) (img : Blocks) → Searches tells failed a b → Gives tells a img → Gives tells b img
still_gives tells failed a b img x g = record {
  told = g.told;
  calm = λ n lt. ap (λ (l : List Event). is_lost n l) (x.log g.told) ∙ g.calm n (subst (λ k. n < k) x.only.same.blocks lt);
  blocks = λ n. g.blocks n ∙ sym (ap₂ (λ (base : Blocks) (l : List Event). accepted base l n) x.only.same.base (x.log g.told));
}
