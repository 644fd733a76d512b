-- Blocks that were just formatted, which lie in memory: the root alone stands in them.
use Rattle.std.proofs.Common.{◌≡◌, ◌⊎◌, inl, inr, ℕ, ◌+◌, ◌*◌, ◌/◌, ◌<◌, ◌≤◌, nat_le, nat_lt, true, false, ◌&&◌, ◌||◌, List, [], sym, ap, ap₂, ◌∙◌, subst, arith}
use Rattle.std.proofs.lemmas.Bool.{and_parts, leb-true, ltb-true, ltb-false, le-ltb, cond-true, cases_Bool, false≢true}
use Rattle.base_types.specs.Seal.{Blocks}
use Rattle.layout_geometry.specs.Geometry.{Geometry, bitmap_start, bitmap_blocks, data_start}
use Rattle.layout_journal.specs.Formatted.{formatted}
use Rattle.layout_journal.specs.Run.{live_part, is_live}
use Rattle.layout_bytes.specs.Bitmap.{is_set, bit_in}
use Rattle.engine_blocks.specs.Crashes.{HasLiveBlocks, IsBegun}
use Rattle.engine_blocks.specs.State.{Bookkeeping, State}
use Rattle.fs_session.specs.Memory.{HasNoBlocks}

module _ (g : Geometry) (m : Blocks) (low_live : (b : ℕ) → bitmap_start g ≤ b → b < data_start g → is_live g (formatted g) b ≡ true)
    (same : (b : ℕ) → bitmap_start g ≤ b → b < data_start g → m b ≡ formatted g b)
    (bits : (b : ℕ) → b < 8192 * bitmap_blocks g → is_set g (formatted g) b ≡ nat_lt b (data_start g)) where
  -- the blocks of the bitmap and the node table are live
  low_same : (b : ℕ) → bitmap_start g ≤ b → b < data_start g → live_part g (formatted g) b ≡ formatted g b
  low_same b from below = cond-true (is_live g (formatted g) b) (formatted g b) [] (low_live b from below)

  -- and no data block is
  unset : (b : ℕ) → data_start g ≤ b → b < g.n → is_set g (live_part g (formatted g)) b ≡ false
  unset b from below =
      ap (λ (xs : List ℕ). bit_in (λ _. xs) b) (low_same (bitmap_start g + b / 8192) (omega arith) (omega (arith, below)))
      ∙ bits b (omega (arith, below)) ∙ le-ltb b (data_start g) from

  -- nor is one set in the blocks as they are
  pub no_data : (b : ℕ) → data_start g ≤ b → b < g.n → is_set g m b ≡ false
  no_data b from below =
      ap (λ (xs : List ℕ). bit_in (λ _. xs) b) (same (bitmap_start g + b / 8192) (omega arith) (omega (arith, below)))
      ∙ bits b (omega (arith, below)) ∙ le-ltb b (data_start g) from

  pub has_live : HasLiveBlocks g (live_part g (formatted g)) m
  has_live b live =
      let from = and_parts (nat_le (bitmap_start g) b) (nat_lt b g.n && (nat_lt b (data_start g) || is_set g (live_part g (formatted g)) b)) live in
      let below = and_parts (nat_lt b g.n) (nat_lt b (data_start g) || is_set g (live_part g (formatted g)) b) from.1 in
      by (cases_Bool (nat_lt b (data_start g))) (leb-true (bitmap_start g) b from.0) (ltb-true b g.n below.0) below.1
    where
      by : (nat_lt b (data_start g) ≡ true) ⊎ (nat_lt b (data_start g) ≡ false) → bitmap_start g ≤ b → b < g.n → (nat_lt b (data_start g) || is_set g (live_part g (formatted g)) b) ≡ true → m b ≡ live_part g (formatted g) b
      by (inl low) from below some = let less = ltb-true b (data_start g) low in same b from less ∙ sym (low_same b from less)
      by (inr high) from below some =
          let past : data_start g ≤ b = ltb-false b (data_start g) high in
          absurd (false≢true (sym (ap₂ (λ s t. s || t) high (unset b past below)) ∙ some))

-- nothing was done where blocks were only looked at
pub still_begun : (s t : State) → t.books ≡ s.books → IsBegun s → IsBegun t
still_begun s t same h = subst (λ (k : Bookkeeping). IsBegun (record t { books = k })) (sym same) assumption

pub still_empty : (g : Geometry) (s t : State) → s.books.geom ≡ g → t.books ≡ s.books → t.map ≡ s.map → ((b : ℕ) → data_start g ≤ b → b < g.n → is_set g s.map b ≡ false) → HasNoBlocks t
still_empty g s t geom books map empty =
    subst (λ (k : Geometry). (b : ℕ) → data_start k ≤ b → b < k.n → is_set k t.map b ≡ false) (sym (ap (λ (k : Bookkeeping). k.geom) books ∙ geom))
    (subst (λ (m : Blocks). (b : ℕ) → data_start g ≤ b → b < g.n → is_set g m b ≡ false) (sym map) empty)
