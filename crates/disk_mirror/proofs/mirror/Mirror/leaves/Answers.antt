use Rattle.std.proofs.lemmas.Bool.{and_parts}
use Rattle.disk_mirror.proofs.Leaves.{left_first, left_second, left_first_down, left_second_down}
use Rattle.disk_mirror.proofs.mirror.Mirror.leaves.Goals as goal

pub returns-clause-first : goal.returns-clause-first
returns-clause-first g c = λ tells live img h. left_first _ _ _ _ _ _ _ _ _ _ (c.args.self.now.told tells) (c.lawful.ensures (and_parts g.A.Disk.tells g.B.Disk.tells tells).0).log.lawful live img h

pub returns-clause-second : goal.returns-clause-second
returns-clause-second g c = λ tells live img h. left_second _ _ _ _ _ _ _ _ _ _ (c.args.self.now.told tells) (c.lawful-2.ensures (and_parts g.A.Disk.tells g.B.Disk.tells tells).1).log.lawful live img h

pub returns-clause-first_down : goal.returns-clause-first_down
returns-clause-first_down g c = λ tells off img h. left_first_down _ _ _ _ _ _ _ _ _ _ (c.args.self.now.told tells) off img h

pub returns-clause-second_down : goal.returns-clause-second_down
returns-clause-second_down g c = λ tells off img h. left_second_down _ _ _ _ _ _ _ _ _ _ (c.args.self.now.told tells) off img h
