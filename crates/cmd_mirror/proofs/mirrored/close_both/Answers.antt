use Rattle.cmd_mirror.proofs.mirrored.close_both.Goals as goal

pub returns : goal.returns
returns g c = (
  record { between = g.B.Bay.state c.close_lent-back.new.bay; back = c.close_lent-back.result; other_back = c.close_lent-other_back.result; closes_first = c.close_lent-back.ensures; closes_second = c.close_lent-other_back.ensures },
  c.answer_behind.ensures,
)
