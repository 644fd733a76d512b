use Rattle.std.proofs.Common.{◌++◌, refl}
use Rattle.crash_argument.proofs.pipe.CountSteps.{counted_at_first, counted_on, counted_accepted, counted_failed, counted_polled, counted_waited, counted_within}
use Rattle.crash_argument.proofs.counts.the_counts_are_of_the_log.Goals as goal

pub returns : goal.returns
returns c = record {
  begins = counted_at_first;
  accepted = λ mounted b t x old new before now late adds. counted_accepted mounted b t x old new before now late adds.2;
  failed = λ mounted b x e old new before now late adds. counted_failed mounted b x old new before now late adds;
  poll = λ mounted r old new before. counted_polled mounted r old new before;
  wait = counted_waited;
  more = λ mounted old more before now late count k. counted_on mounted old (old ++ more) more before now late refl count k;
  within = counted_within;
}
