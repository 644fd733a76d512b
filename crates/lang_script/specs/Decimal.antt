-- Which number below 2^64 a text writes in decimal digits.
use Rattle.std.specs.Prelude.{ℕ, ◌&&◌, ◌^◌, if◌then◌else◌, List, Option, Some, None, decimal, nat_lt, bytes_eq}
use Rattle.std.specs.List.{list_all}
use Rattle.std.specs.Char.{is_ascii_digit}
use Rattle.std.specs.Str.Parse.{digits_value}

-- the number below 2^64 whose decimal text it is, with no sign and no zeros in front
abbrev pub number_of : List ℕ → Option ℕ
number_of text =
    if list_all is_ascii_digit text && (nat_lt (digits_value 10 text) (2 ^ 64) && bytes_eq (decimal (digits_value 10 text)) text)
    then Some (digits_value 10 text) else None
