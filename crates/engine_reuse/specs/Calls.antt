-- What each call makes of the dead data blocks. It is described in docs/REUSE.md.
use Rattle.std.specs.Prelude.{ℕ, ◌-◌, nat_le, ◌&&◌, ◌||◌, Bool, not, List, [], ◌∷◌, ◌++◌, map}
use Rattle.std.specs.List.{filter}
use Rattle.base_types.specs.Seal.{Blocks}
use Rattle.layout_geometry.specs.Geometry.{Geometry}
use Rattle.layout_bitmap.specs.Bits.{free_blocks}
use Rattle.engine_reuse.specs.Numbers.{is_among}
use Rattle.engine_reuse.specs.Dead.{DeadBlocks, block_of, freed_by, data_blocks_that}

-- with a bitmap: its free blocks may be taken, none is held and none waits
abbrev pub with_bitmap : Geometry → Blocks → DeadBlocks
with_bitmap g m = record { geom = g; reusable = free_blocks g m; held = []; waiting = []; room = 0 }

-- the running transaction freed one block more
abbrev pub with_freed : DeadBlocks → ℕ → DeadBlocks
with_freed v b = record v { held = v.held ++ b ∷ []; room = v.room - 1 }

-- the running transaction became the record of this number, and what it freed waits
abbrev pub with_sealed : DeadBlocks → ℕ → DeadBlocks
with_sealed v number = record v { held = []; waiting = v.waiting ++ map (λ b. (b, number)) v.held }

-- the pair is given up: its record is sure, and its block isn't going home
abbrev pub is_given_up : ℕ → List ℕ → ℕ × ℕ → Bool
is_given_up sure going_home p = nat_le (freed_by p) sure && not (is_among (block_of p) going_home)

-- the blocks of the pairs that are given up
abbrev pub given_up : ℕ → List ℕ → List (ℕ × ℕ) → List ℕ
given_up sure going_home waiting = map block_of (filter (is_given_up sure going_home) waiting)

-- these pairs wait no longer, and their blocks may be taken
abbrev pub with_released : DeadBlocks → ℕ → List ℕ → DeadBlocks
with_released v sure going_home = record v {
  reusable = data_blocks_that v.geom (λ b. is_among b (given_up sure going_home v.waiting) || is_among b v.reusable);
  waiting = filter (λ p. not (is_given_up sure going_home p)) v.waiting;
}

-- the running transaction took these
abbrev pub with_taken : DeadBlocks → List ℕ → DeadBlocks
with_taken v bs = record v { reusable = filter (λ b. not (is_among b bs)) v.reusable }
