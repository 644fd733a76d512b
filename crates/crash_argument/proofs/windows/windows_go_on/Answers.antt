use Rattle.crash_argument.proofs.mount.Moments.{window_begins, window_goes_on}
use Rattle.crash_argument.proofs.mount.Windows.{window_after_wait, window_joins}
use Rattle.crash_argument.proofs.windows.windows_go_on.Goals as goal

pub returns : goal.returns
returns g c = record {
  begins = λ of n base log. window_begins n base log (g.S.Statement.holds of);
  more = λ of n base log e t. window_goes_on n base log e t (g.S.Statement.holds of);
  notices = λ of n base log new t. window_after_wait c.a_notice_adds_no_image.ensures.honest n base log new t (g.S.Statement.holds of);
  joins = λ of n base log new t. window_joins n base log new t (g.S.Statement.holds of);
}
