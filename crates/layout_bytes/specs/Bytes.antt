-- Fields of a block: numbers, and bytes that must be zeros.
use Rattle.std.specs.Prelude.{◌≡◌, ℕ, ◌-◌, ◌<◌, ◌≤◌, ◌==◌, Bool, true, false, List, ◌++◌, length, take, drop, replicate, slice_index, Option, None}
use Rattle.std.specs.List.{list_all}
use Rattle.byteorder.specs.Endian.{little_number, little_bytes}

-- the number in n bytes from byte `at` on, the lowest byte first
abbrev pub field : List ℕ → ℕ → ℕ → ℕ
field block at n = little_number n (drop at block)

-- every byte is 0
abbrev pub are_zeros : List ℕ → Bool
are_zeros bytes = list_all (λ b. b == 0) bytes

-- every byte from `at` up to byte `end` is 0
abbrev pub has_zeros : List ℕ → ℕ → ℕ → Bool
has_zeros block at end = are_zeros (take (end - at) (drop at block))

-- a value where a test holds
abbrev pub when : {A : Type 0} → Bool → Option A → Option A
when true x = x
when false x = None

-- bytes that are zeros are so many zeros
abbrev pub ZerosAreTold : Type 0
ZerosAreTold = (xs : List ℕ) → are_zeros xs ≡ true → xs ≡ replicate (length xs) 0

-- so are the first n, before others
abbrev pub FirstZerosAreTold : Type 0
FirstZerosAreTold = (n : ℕ) (xs : List ℕ) → n ≤ length xs → are_zeros (take n xs) ≡ true → xs ≡ replicate n 0 ++ drop n xs

-- the first n bytes are those of the number in them
abbrev pub NumbersAreTold : Type 0
NumbersAreTold = (n : ℕ) (xs : List ℕ) → n ≤ length xs → ((i : ℕ) → slice_index xs i < 256) → xs ≡ little_bytes n (little_number n xs) ++ drop n xs
