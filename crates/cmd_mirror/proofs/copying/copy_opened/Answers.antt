use Rattle.cmd_mirror.proofs.copying.copy_opened.Goals as goal

pub returns : goal.returns
returns g c = record {
  first_last = g.B.D.Disk.state c.copy_blocks-copied.new.original;
  second_last = g.B.D.Disk.state c.copy_blocks-copied.new.copy;
  copied = c.copy_blocks-copied.result;
  copies = c.copy_blocks-copied.ensures g.B.Bay.tells (λ t. (g.met.B.Bay.told t, c.requires.fresh t, c.requires.blank t));
  may_fail = λ t. (c.lawful.ensures (g.met.B.Bay.told t)).reads;
  closes = c.close_both.ensures;
}
