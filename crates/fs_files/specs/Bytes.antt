-- Bytes over bytes, and which blocks of a list bytes lie in.
use Rattle.std.specs.Prelude.{ℕ, ◌+◌, ◌/◌, ◌==◌, if◌then◌else◌, List, ◌++◌, length, take, drop}
use Rattle.lang_tree.specs.Step.{written}

-- xs with ys from byte `off` on, within it
abbrev pub overwrite : ℕ → List ℕ → List ℕ → List ℕ
overwrite off ys xs = take off xs ++ (ys ++ drop (off + length ys) xs)

-- how many blocks so many bytes fill, the last perhaps in part
abbrev pub blocks_for : ℕ → ℕ
blocks_for size = (size + 1023) / 1024

-- those of the blocks in which bytes `lo` to `hi`, which isn't one of them, lie
abbrev pub met : ℕ → ℕ → List ℕ → List ℕ
met lo hi places = drop (lo / 1024) (take (blocks_for hi) places)

-- xs with ys from byte `off` on, where there are some; a gap past the end is zeros
abbrev pub overwritten : ℕ → List ℕ → List ℕ → List ℕ
overwritten off ys xs = if length ys == 0 then xs else written off ys xs
