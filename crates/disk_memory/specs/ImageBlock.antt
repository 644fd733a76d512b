-- What is kept of a block of an image.
use Rattle.std.specs.Prelude.{ℕ, List, replicate, Option, Some, None}

-- its bytes, by what is kept: nothing where they are zeros
abbrev pub bytes_or_zeros : Option (List ℕ) → List ℕ
bytes_or_zeros None = replicate 1024 0
bytes_or_zeros (Some bytes) = bytes
