-- How many snapshots keep each data block.
use Rattle.std.specs.Prelude.{◌≡◌, ◌≢◌, ℕ, Bool, false, not, ◌==◌, List, length, get_or, Option, None, Some}

-- how many snapshots keep block b, by the list of these numbers
abbrev pub keepers : List ℕ → ℕ → ℕ
keepers counts b = get_or counts b 0

-- whether a snapshot keeps block b
abbrev pub is_kept : List ℕ → ℕ → Bool
is_kept counts b = not (keepers counts b == 0)

-- So many snapshots keep block b now, of every other block as many as before do, and there is room for the same blocks.
pub record SetsKeepers (b n : ℕ) (old new : List ℕ) : Type 0 where
  pub here : keepers new b ≡ n
  pub others : (c : ℕ) → c ≢ b → keepers new c ≡ keepers old c
  pub room : length new ≡ length old

-- whether the block at a place, where there is one, is kept
abbrev pub is_kept_at : List ℕ → Option ℕ → Bool
is_kept_at counts None = false
is_kept_at counts (Some b) = is_kept counts b
