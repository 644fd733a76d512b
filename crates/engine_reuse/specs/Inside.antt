-- The dead data blocks in terms of the parts that keep them.
use Rattle.std.specs.Prelude.{◌≡◌, ℕ, ◌≤◌, Bool, not, List, [], map}
use Rattle.std.specs.List.{filter}
use Rattle.layout_geometry.specs.Geometry.{Geometry}
use Rattle.engine_reuse.specs.declared.waiting.Freed.{Freed}
use Rattle.engine_reuse.specs.Numbers.{is_among, NumberSet}
use Rattle.engine_reuse.specs.Dead.{DeadBlocks, AreSound}

-- a freed block with the number of its record, as a pair
abbrev pub pair_of : Freed → ℕ × ℕ
pair_of f = (f.block, f.number)

-- the freed block is going home: a checkpoint write to it is open
abbrev pub is_going_home : List ℕ → Freed → Bool
is_going_home home f = is_among f.block home

-- the blocks of these that aren't going home
abbrev pub blocks_at_rest : List ℕ → List Freed → List ℕ
blocks_at_rest home waiting = map (λ f. f.block) (filter (λ f. not (is_going_home home f)) waiting)

-- the dead blocks as their parts have them
abbrev pub dead_of : Geometry → NumberSet → List ℕ → List Freed → ℕ → DeadBlocks
dead_of g reusable held waiting room = record { geom = g; reusable = reusable.members; held = held; waiting = map pair_of waiting; room = room }

-- They are sound, both sets may have any block of the disk, and between calls no block is marked as going home.
pub record AreKept (v : DeadBlocks) (reusable going_home : NumberSet) : Type 0 where
  pub sound : AreSound v
  pub limit : v.geom.n ≤ reusable.limit
  pub home_limit : v.geom.n ≤ going_home.limit
  pub none_home : going_home.members ≡ []
