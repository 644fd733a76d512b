-- The numbers of the layouts, each in this one place. They are described in docs/LAYOUT.md. Where one of them would be multiplied with or divide
-- another number, that is a function here, so that elsewhere no proof asks which layout it is.
use Rattle.std.specs.Prelude.{ℕ, ◌+◌, ◌-◌, ◌*◌, ◌/◌, ◌%◌, ◌==◌, if◌then◌else◌}
use Rattle.base_types.specs.declared.layout.Layout.{Layout}
use Rattle.base_types.specs.declared.layout.Layout.TheVariants.{One, Two}

-- the number by which a layout is named, and the layout of a number: that of every other number is layout 1
abbrev pub layout_number : Layout → ℕ
layout_number One = 1
layout_number Two = 2

abbrev pub layout_of : ℕ → Layout
layout_of n = if n == 2 then Two else One

-- the bytes of a node
abbrev pub node_size : Layout → ℕ
node_size One = 256
node_size Two = 512

-- how many nodes a block has
abbrev pub nodes_in_block : Layout → ℕ
nodes_in_block One = 4
nodes_in_block Two = 2

-- the most runs of a node
abbrev pub most_runs : Layout → ℕ
most_runs One = 28
most_runs Two = 60

-- the bytes of a slot
abbrev pub slot_size : Layout → ℕ
slot_size One = 64
slot_size Two = 264

-- how many slots a block has
abbrev pub slots_in_block : Layout → ℕ
slots_in_block One = 16
slots_in_block Two = 3

-- the most bytes of a name
abbrev pub longest_name : Layout → ℕ
longest_name One = 59
longest_name Two = 255

-- Nodes in the blocks of their table.

-- how many blocks a table of so many nodes has
abbrev pub table_blocks : Layout → ℕ → ℕ
table_blocks One i = i / 4
table_blocks Two i = i / 2

-- how many nodes the first so many blocks have
abbrev pub nodes_before : Layout → ℕ → ℕ
nodes_before One block = 4 * block
nodes_before Two block = 2 * block

-- the block of the table in which node k is
abbrev pub node_block : Layout → ℕ → ℕ
node_block One k = (k - 1) / 4
node_block Two k = (k - 1) / 2

-- its place among the nodes of that block, from 0 on
abbrev pub node_rank : Layout → ℕ → ℕ
node_rank One k = (k - 1) % 4
node_rank Two k = (k - 1) % 2

-- the first byte of the node at a place among those of its block
abbrev pub rank_byte : Layout → ℕ → ℕ
rank_byte One rank = 256 * rank
rank_byte Two rank = 512 * rank

-- the first byte of node k in its block
abbrev pub node_byte : Layout → ℕ → ℕ
node_byte One k = 256 * ((k - 1) % 4)
node_byte Two k = 512 * ((k - 1) % 2)

-- Slots in the blocks of their directory.

-- the block of a directory in which slot i is, from 0 on
abbrev pub slot_block : Layout → ℕ → ℕ
slot_block One i = i / 16
slot_block Two i = i / 3

-- its first byte there
abbrev pub slot_byte : Layout → ℕ → ℕ
slot_byte One i = 64 * (i % 16)
slot_byte Two i = 264 * (i % 3)

-- its first byte in the blocks one behind the other
abbrev pub slot_place : Layout → ℕ → ℕ
slot_place One i = 64 * i
slot_place Two i = 264 * i + 232 * (i / 3)

-- how many slots the first so many blocks have
abbrev pub slots_before : Layout → ℕ → ℕ
slots_before One block = 16 * block
slots_before Two block = 3 * block

-- how many blocks so many slots need
abbrev pub directory_blocks : Layout → ℕ → ℕ
directory_blocks One e = (e + 15) / 16
directory_blocks Two e = (e + 2) / 3

-- how many of their bytes so many slots need: up to the end of the last one
abbrev pub directory_bytes : Layout → ℕ → ℕ
directory_bytes One e = 64 * e
directory_bytes Two e = 264 * e + 232 * ((e - 1) / 3)

-- how many slots so many bytes hold
abbrev pub slots_held : Layout → ℕ → ℕ
slots_held One n = n / 64
slots_held Two n = 3 * (n / 1024) + (n % 1024 + 263) / 264

-- the bytes of a directory whose size field says so much: it says 64 for each slot
abbrev pub content_size : Layout → ℕ → ℕ
content_size l size = directory_bytes l (size / 64)
