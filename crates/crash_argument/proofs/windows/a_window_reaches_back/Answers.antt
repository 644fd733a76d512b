use Rattle.crash_argument.proofs.mount.Windows.{window_reaches_back}
use Rattle.crash_argument.proofs.windows.a_window_reaches_back.Goals as goal

pub returns : goal.returns
returns c = window_reaches_back
