use Rattle.std.proofs.Common.{List, take, sym}
use Rattle.std.proofs.Math.Logic.{∥∥₁_map}
use Rattle.disk_contract.specs.declared.event.Event.{Event}
use Rattle.disk_contract.specs.Cell.{accepted}
use Rattle.crash_argument.specs.Ledger.{issued}
use Rattle.cmd_session.specs.Histories.{last_mark}
use Rattle.cmd_session.proofs.Losses.{not_lost, unlost_at}
use Rattle.cmd_session.proofs.laws.what_was_issued_was_accepted.Goals as goal

pub returns : goal.returns
returns c = λ s base m log f first end cmds replies marks alone none paces issues. record {
  each = λ i upto calm.
      let front : List Event = take (last_mark first.events (take i marks)) log in
      let kept = unlost_at s base m alone log cmds replies marks first end paces none i calm in
      ∥∥₁_map (issues.each i upto calm) (λ one. record {
        point = one.point;
        is = one.is;
        stands = c.images_alike_below_n_stand_for_the_same.ensures s.geom.n (issued base front) (accepted base front) one.point.tree
            (λ b low. sym (c.a_read_gives_what_was_written_last.ensures.last base front b (not_lost b front kept))) one.stands;
      });
}
