-- What the calls on a file make of its bytes. The file's content is the first `size` bytes of xs, the bytes of its blocks, and `room` is how many these are; n is how many bytes its new blocks have.
use Rattle.std.proofs.Common.{◌≡◌, ℕ, ◌+◌, ◌-◌, ◌≤◌, ◌<◌, List, ◌++◌, length, take, drop, replicate, min, max, arith, rules}
use Rattle.std.proofs.lemmas.Bool.Decides.{nat_tests}
use Rattle.std.proofs.lemmas.List.{places, same_lists}
use Rattle.lang_tree.specs.Step.{written, resized}
use Rattle.fs_files.specs.Bytes.{overwrite, overwritten}

-- Reading.

-- the bytes from `offset` on, at most `len`, are those of the blocks from the lesser of it and the size, up to where either ends
pub read_part : (size offset len : ℕ) (xs : List ℕ) → size ≤ length xs
    → take len (drop offset (take size xs)) ≡ take (min size (min offset size + len) - min offset size) (drop (min offset size) xs)
read_part size offset len xs fits = same_lists _ _ (search (rules, places)) (λ k d h. grind (arith, places))

-- Writing.

-- from within the file or its end on, in its blocks and new ones of zeros
pub written_within : (size off n : ℕ) (ys xs : List ℕ) → size ≤ length xs → off ≤ size → off + length ys ≤ length xs + n
    → take (max size (off + length ys)) (overwrite off ys (xs ++ replicate n 0)) ≡ written off ys (take size xs)
written_within size off n ys xs fits within ends = same_lists _ _ (search (rules, places)) (λ k d h. grind (arith, places))

-- Another size.

-- a cut, which keeps the first `room` bytes of the blocks
pub cut_short : (size less room : ℕ) (xs : List ℕ) → less ≤ size → size ≤ length xs → less ≤ room
    → take less (take room xs) ≡ resized less (take size xs)
cut_short size less room xs cuts fits keeps = same_lists _ _ (search (rules, places)) (λ k d h. grind (arith, places))

-- the same, once something was written over what is past the new end
pub cut_over : (size less room : ℕ) (ys xs : List ℕ) → less ≤ size → size ≤ length xs → less ≤ room → less + length ys ≤ min room (length xs)
    → take less (overwrite less ys (take room xs)) ≡ resized less (take size xs)
cut_over size less room ys xs cuts fits keeps ends = same_lists _ _ (search (rules, places)) (λ k d h. grind (arith, places))

-- No bytes change nothing; others are written.
pub overwritten_some : (off : ℕ) (ys xs : List ℕ) → 0 < length ys → overwritten off ys xs ≡ written off ys xs
overwritten_some off ys xs some = grind (arith, nat_tests)
