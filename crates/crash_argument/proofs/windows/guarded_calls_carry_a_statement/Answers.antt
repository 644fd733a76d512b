use Rattle.crash_argument.proofs.mount.Windows.{window_carried, window_of_points, window_follows}
use Rattle.crash_argument.specs.Ledger.{HoldsUnder}
use Rattle.crash_argument.proofs.windows.guarded_calls_carry_a_statement.Goals as goal

pub returns : goal.returns
returns g c = record {
  write = λ of base old new l t b x r. window_carried c.the_journal_is_lawful.ensures base old new l t b x r (g.S.Statement.holds of);
  points = λ of s base log l t floor. window_of_points s base log l t floor (g.S.Statement.holds of);
  map = λ of n h m base log t. window_follows n base log t (λ img. HoldsUnder n h img m) (g.S.Statement.holds of);
}
