-- The geometry of a disk and its areas. It is described in docs/LAYOUT.md.
use Rattle.std.specs.Prelude.{◌≡◌, ℕ, ◌+◌, ◌-◌, ◌*◌, ◌/◌, ◌%◌, ◌≤◌, ◌<◌, Bool, ◌&&◌, ◌==◌, nat_le}
use Rattle.base_types.specs.declared.layout.Layout.{Layout}
use Rattle.base_types.specs.Layouts.{table_blocks}

pub record Geometry : Type 0 where
  -- how many blocks, journal blocks and nodes
  pub n : ℕ
  pub j : ℕ
  pub i : ℕ
  -- how its nodes and slots are laid out
  pub layout : Layout

-- how many blocks of bits there are: one bit stands for each block
abbrev pub bitmap_blocks : Geometry → ℕ
bitmap_blocks g = (g.n + 8191) / 8192

-- the bitmap begins behind the journal
abbrev pub bitmap_start : Geometry → ℕ
bitmap_start g = g.j + 2

-- the node table begins behind the bitmap
abbrev pub table_start : Geometry → ℕ
table_start g = bitmap_start g + bitmap_blocks g

-- the data begin behind the node table
abbrev pub data_start : Geometry → ℕ
data_start g = table_start g + table_blocks g.layout g.i

-- the block of a ring place
abbrev pub ring_block : Geometry → ℕ → ℕ
ring_block g place = 2 + place % g.j

-- a geometry within its limits; the number of nodes is a multiple of 4 in each layout
unfoldable pub geometry_fits : Geometry → Bool
geometry_fits g =
    nat_le 64 g.n && (nat_le g.n 1048576 && (nat_le 16 g.j && (nat_le g.j 65536 && (nat_le 16 g.i && (nat_le g.i 65536
    && ((g.i % 4 == 0) && (nat_le (data_start g + 8) g.n && nat_le (25 * (7 + bitmap_blocks g)) (24 * (g.j - 2)))))))))

-- the same as facts: its numbers in their ranges, nodes in fours, 8 blocks of data, and room in the journal
pub record IsGeometry (g : Geometry) : Type 0 where
  pub least_blocks : 64 ≤ g.n
  pub most_blocks : g.n ≤ 1048576
  pub least_journal : 16 ≤ g.j
  pub most_journal : g.j ≤ 65536
  pub least_nodes : 16 ≤ g.i
  pub most_nodes : g.i ≤ 65536
  pub whole_blocks : g.i % 4 ≡ 0
  pub data_room : data_start g + 8 ≤ g.n
  pub journal_room : 25 * (7 + bitmap_blocks g) ≤ 24 * (g.j - 2)

-- what a block is for: the two header slots, the journal, the bitmap, the node table, or data
pub data Area : Type 0 where
  Headers : Area
  Journal : Area
  Bitmap : Area
  Table : Area
  Data : Area

-- an area's first block
abbrev pub area_start : Geometry → Area → ℕ
area_start g Headers = 0
area_start g Journal = 2
area_start g Bitmap = bitmap_start g
area_start g Table = table_start g
area_start g Data = data_start g

-- the first block behind an area
abbrev pub area_end : Geometry → Area → ℕ
area_end g Headers = 2
area_end g Journal = bitmap_start g
area_end g Bitmap = table_start g
area_end g Table = data_start g
area_end g Data = g.n

-- a block is in an area
pub record LiesIn (g : Geometry) (a : Area) (b : ℕ) : Type 0 where
  pub from : area_start g a ≤ b
  pub below : b < area_end g a
