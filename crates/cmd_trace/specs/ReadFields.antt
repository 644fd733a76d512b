-- What the parts of a line say, each by itself: where a blank parts them, numbers, and the bytes of a block.
use Rattle.std.specs.Prelude.{ℕ, ◌+◌, ◌==◌, ◌^◌, Bool, not, ◌&&◌, if◌then◌else◌, List, take, drop, nat_lt, nat_le, Option, Some, None, option_map, Result, Ok, Err}
use Rattle.std.specs.List.{list_all, position}
use Rattle.hex.specs.Hex.{decode_sized}
use Rattle.hex.specs.declared.error.FromHexError.{FromHexError}
use Rattle.lang_script.specs.Decimal.{number_of}

-- whether a byte is a blank
abbrev pub is_blank : ℕ → Bool
is_blank b = b == 32

-- the two parts of a text at a place, without what stands there
abbrev pub parts_at : List ℕ → ℕ → List ℕ × List ℕ
parts_at text at = (take at text, drop (at + 1) text)

-- what stands before the first blank of a text and behind it, where there is one
abbrev pub cut : List ℕ → Option (List ℕ × List ℕ)
cut text = option_map (parts_at text) (position is_blank text)

-- the number, where it has 32 bits
abbrev pub small : Option ℕ → Option ℕ
small (Some number) = if nat_lt number (2 ^ 32) then Some number else None
small None = None

-- the number below 2^32 whose decimal text it is
abbrev pub small_number_of : List ℕ → Option ℕ
small_number_of text = small (number_of text)

-- the bytes that were decoded, where they were
abbrev pub decoded : Result (List ℕ) FromHexError → Option (List ℕ)
decoded (Ok bytes) = Some bytes
decoded (Err why) = None

-- whether a byte is a letter from `A` to `Z`
abbrev pub is_upper : ℕ → Bool
is_upper b = nat_le 65 b && nat_le b 90

-- the bytes of a block whose digits a text is, in lower case
abbrev pub block_of : List ℕ → Option (List ℕ)
block_of text = if list_all (λ b. not (is_upper b)) text then decoded (decode_sized text 1024) else None
