use Rattle.layout_directory.proofs.Spelled.{one, reads, spelled}
use Rattle.layout_directory.proofs.laws.slots_read_back.Goals as goal

pub returns : goal.returns
returns c = record { one = one; reads = reads; spelled = spelled c.fields_tell_their_bytes.ensures.zeros }
