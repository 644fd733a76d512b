use Rattle.crash_argument.proofs.mount.Windows.{write_adds, poll_adds, wait_adds, durable_adds}
use Rattle.crash_argument.proofs.windows.calls_only_add.Goals as goal

pub returns : goal.returns
returns c = record {
  write = λ b x r old new. write_adds b x r old new;
  poll = λ r old new. poll_adds r old new;
  wait = wait_adds;
  durable = λ b x r old new. durable_adds b x r old new;
}
