-- Sets of numbers as bits, 64 in a word. A second row of words says where the first has any.
use Rattle.std.specs.Prelude.{◌≡◌, ℕ, ◌*◌, ◌/◌, ◌%◌, ◌≤◌, ◌==◌, Bool, not, List, length, slice_index}
use Rattle.std.specs.Int.{bit_at}
use Rattle.engine_reuse.specs.Numbers.{numbers_below}

-- the number's bit is set: bit b % 64 of word b / 64
abbrev pub has_bit : List ℕ → ℕ → Bool
has_bit words b = bit_at (slice_index words (b / 64)) (b % 64) == 1

-- the numbers whose bits are set, ascending
abbrev pub numbers_in : List ℕ → List ℕ
numbers_in words = numbers_below (64 * length words) (has_bit words)

-- the bits of the second row say which words of the first aren't 0
abbrev pub SaysFilled : List ℕ → List ℕ → Type 0
SaysFilled words filled = (w : ℕ) → has_bit filled w ≡ not (slice_index words w == 0)

-- What a set keeps of its rows: what the second says, how many members there are, and that both rows are short.
pub record AreRows (words filled : List ℕ) (count : ℕ) : Type 0 where
  pub says : SaysFilled words filled
  pub count_is : count ≡ length (numbers_in words)
  pub enough : length words ≤ 64 * length filled
  pub few_words : length words ≤ 16384
  pub few_filled : length filled ≤ 16384
