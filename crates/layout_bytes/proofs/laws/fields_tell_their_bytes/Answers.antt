use Rattle.layout_bytes.proofs.Told.{told_zeros, told_first_zeros, told_numbers}
use Rattle.layout_bytes.proofs.laws.fields_tell_their_bytes.Goals as goal

pub returns : goal.returns
returns c = record { zeros = told_zeros; first_zeros = told_first_zeros; numbers = told_numbers }
