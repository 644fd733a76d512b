use Rattle.disk_contract.specs.Logs.{other_wrote, other_lost}
use Rattle.disk_contract.proofs.Cells.{own_wrote, own_lost, one_noticed}
use Rattle.disk_contract.proofs.laws.an_event_changes_one_block.Goals as goal

pub returns : goal.returns
returns c = record { wrote = own_wrote; lost = own_lost; noticed = one_noticed; wrote_elsewhere = other_wrote; lost_elsewhere = other_lost }
