use Rattle.fs_inodes.proofs.slots.DirBytes.{read_at, short_at, bytes_count, over_is, behind_is, cut_is, out_is}
use Rattle.fs_inodes.proofs.dir_bytes.slots_follow_the_bytes.Goals as goal

pub returns-clause-read : goal.returns-clause-read
returns-clause-read c = λ l file slots place s is at. read_at c.the_slots_are_lawful.ensures l file slots is place s at

pub returns-clause-short : goal.returns-clause-short
returns-clause-short c = λ l file slots place s is at. short_at c.the_slots_are_lawful.ensures l file slots is place s at

pub returns-clause-count : goal.returns-clause-count
returns-clause-count c = λ l file slots is whole. bytes_count c.the_slots_are_lawful.ensures l file slots is whole

pub returns-clause-over : goal.returns-clause-over
returns-clause-over c = λ l file slots place s is whole low lawful. over_is c.the_slots_are_lawful.ensures l file slots is whole place s low lawful

pub returns-clause-behind : goal.returns-clause-behind
returns-clause-behind c = λ l file slots s is whole lawful. behind_is c.the_slots_are_lawful.ensures l file slots is whole s lawful

pub returns-clause-cut : goal.returns-clause-cut
returns-clause-cut c = λ l file slots n is whole low. cut_is c.the_slots_are_lawful.ensures l file slots is whole n low

pub returns-clause-out : goal.returns-clause-out
returns-clause-out c = λ l file slots place is whole low. out_is c.the_slots_are_lawful.ensures l file slots is whole place low
