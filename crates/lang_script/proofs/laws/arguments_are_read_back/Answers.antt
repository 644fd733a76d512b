use Rattle.std.proofs.Common.{decimal}
use Rattle.hex.specs.Hex.{encode_lower}
use Rattle.lang_script.proofs.RoundTrip.{bytes_of-encode_lower, decimal_lacks, digits_lack, small_number_of-decimal, split_two}
use Rattle.lang_script.proofs.laws.arguments_are_read_back.Goals as goal

pub returns-clause-number : goal.returns-clause-number
returns-clause-number c = small_number_of-decimal

pub returns-clause-bytes : goal.returns-clause-bytes
returns-clause-bytes c = bytes_of-encode_lower

pub returns-clause-two_with_number : goal.returns-clause-two_with_number
returns-clause-two_with_number c = λ word number small lacks. split_two word (decimal number) lacks (decimal_lacks number small)

pub returns-clause-two_with_bytes : goal.returns-clause-two_with_bytes
returns-clause-two_with_bytes c = λ word bytes lacks. split_two word (encode_lower bytes) lacks (digits_lack bytes)
