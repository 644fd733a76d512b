use Rattle.std.proofs.Common.{◌-◌, drop}
use Rattle.crash_argument.specs.Ledger.{all_say}
use Rattle.crash_argument.specs.Points.{records_told}
use Rattle.crash_argument.proofs.steps.Told.{count_told, none_more, one_more, places_of_all}
use Rattle.crash_argument.proofs.points.a_log_tells_its_records.Goals as goal

pub returns : goal.returns
returns c = record {
  counts = λ s log. count_told s.geom s.epoch (drop s.mounted log);
  places = λ s base log l t floor n safe from. places_of_all n (records_told s log) s.epoch (all_say (drop (n - l.header.start) l.records)) (safe.points.told n from);
  more = λ s base log more l w m t floor old from low new. one_more s base log more l w m old.points new.points;
  none = λ s base log more l k t floor old from low new same. none_more s base log more l k old.points new.points same;
}
