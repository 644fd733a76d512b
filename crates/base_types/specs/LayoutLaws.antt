-- The laws of the numbers of layouts, which crates above cite too. They hold for each layout, so no other proof asks which one it is. They add no
-- meaning to the promises.
use Rattle.std.proofs.Common.{◌≡◌, ◌⊎◌, inl, inr, refl, ℕ, ◌+◌, ◌-◌, ◌*◌, ◌/◌, ◌%◌, ◌<◌, ◌≤◌, ◌==◌, if◌then◌else◌, arith}
use Rattle.std.proofs.lemmas.Bool.{cases_lt}
use Rattle.std.proofs.lemmas.Bool.Decides.{nat_tests}
use Rattle.base_types.specs.declared.layout.Layout.{Layout}
use Rattle.base_types.specs.declared.layout.Layout.TheVariants.{One, Two}
use Rattle.base_types.specs.Layouts.{layout_number, layout_of, node_size, nodes_in_block, most_runs, slot_size, slots_in_block, longest_name, table_blocks, nodes_before, node_block, node_rank}
use Rattle.base_types.specs.Layouts.{rank_byte, node_byte, slot_block, slot_byte, slot_place, slots_before, directory_blocks, directory_bytes, slots_held, content_size}

-- a layout is told by its number
pub layout_back : (l : Layout) → layout_of (layout_number l) ≡ l
layout_back One = refl
layout_back Two = refl

pub number_from : (l : Layout) → 1 ≤ layout_number l
number_from One = omega arith
number_from Two = omega arith

pub number_upto : (l : Layout) → layout_number l ≤ 2
number_upto One = omega arith
number_upto Two = omega arith

-- The numbers themselves.

pub node_size_is : (l : Layout) → node_size l ≡ 32 + 8 * most_runs l
node_size_is One = omega arith
node_size_is Two = omega arith

pub nodes_fit : (l : Layout) → node_size l ≤ 512
nodes_fit One = omega arith
nodes_fit Two = omega arith

pub some_node : (l : Layout) → 0 < nodes_in_block l
some_node One = omega arith
some_node Two = omega arith

pub few_nodes : (l : Layout) → nodes_in_block l ≤ 4
few_nodes One = omega arith
few_nodes Two = omega arith

pub few_runs : (l : Layout) → most_runs l ≤ 60
few_runs One = omega arith
few_runs Two = omega arith

pub some_run : (l : Layout) → 0 < most_runs l
some_run One = omega arith
some_run Two = omega arith

pub slot_size_is : (l : Layout) → 5 + longest_name l ≤ slot_size l
slot_size_is One = omega arith
slot_size_is Two = omega arith

pub slots_fit : (l : Layout) → slot_size l ≤ 264
slots_fit One = omega arith
slots_fit Two = omega arith

pub some_slot : (l : Layout) → 0 < slots_in_block l
some_slot One = omega arith
some_slot Two = omega arith

pub few_slots : (l : Layout) → slots_in_block l ≤ 16
few_slots One = omega arith
few_slots Two = omega arith

pub some_name : (l : Layout) → 0 < longest_name l
some_name One = omega arith
some_name Two = omega arith

-- each layout takes names of 59 bytes
pub taken_name : (l : Layout) → 59 ≤ longest_name l
taken_name One = omega arith
taken_name Two = omega arith

pub short_name : (l : Layout) → longest_name l ≤ 255
short_name One = omega arith
short_name Two = omega arith

-- Nodes in the blocks of their table.

-- a node is whole within its block
pub node_within : (l : Layout) (k : ℕ) → node_byte l k + node_size l ≤ 1024
node_within One k = omega arith
node_within Two k = omega arith

-- a node of a table lies in one of its blocks
pub node_in_table : (l : Layout) (i k : ℕ) → i % 4 ≡ 0 → 1 ≤ k → k ≤ i → node_block l k < table_blocks l i
node_in_table One i k whole from upto = omega arith
node_in_table Two i k whole from upto = omega arith

-- nodes lie one behind the other
pub node_apart : (l : Layout) (j k : ℕ) → 1 ≤ j → j < k → (node_block l j < node_block l k) ⊎ ((node_block l j ≡ node_block l k) × (node_byte l j + node_size l ≤ node_byte l k))
node_apart One j k from low = by (cases_lt ((j - 1) / 4) ((k - 1) / 4))
  where
    by : ((j - 1) / 4 < (k - 1) / 4) ⊎ ((k - 1) / 4 ≤ (j - 1) / 4) → (node_block One j < node_block One k) ⊎ ((node_block One j ≡ node_block One k) × (node_byte One j + 256 ≤ node_byte One k))
    by (inl less) = inl less
    by (inr same) = inr (omega arith, omega arith)
node_apart Two j k from low = by (cases_lt ((j - 1) / 2) ((k - 1) / 2))
  where
    by : ((j - 1) / 2 < (k - 1) / 2) ⊎ ((k - 1) / 2 ≤ (j - 1) / 2) → (node_block Two j < node_block Two k) ⊎ ((node_block Two j ≡ node_block Two k) × (node_byte Two j + 512 ≤ node_byte Two k))
    by (inl less) = inl less
    by (inr same) = inr (omega arith, omega arith)

-- the first byte of a node is that of its place in its block
pub node_byte_is : (l : Layout) (k : ℕ) → node_byte l k ≡ rank_byte l (node_rank l k)
node_byte_is One k = omega arith
node_byte_is Two k = omega arith

pub rank_below : (l : Layout) (k : ℕ) → node_rank l k < nodes_in_block l
rank_below One k = omega arith
rank_below Two k = omega arith

-- a node's number is told by its block and its place there
pub node_is : (l : Layout) (k : ℕ) → 1 ≤ k → nodes_before l (node_block l k) + node_rank l k + 1 ≡ k
node_is One k from = omega arith
node_is Two k from = omega arith

pub block_of_rank : (l : Layout) (block rank : ℕ) → rank < nodes_in_block l → node_block l (nodes_before l block + rank + 1) ≡ block
block_of_rank One block rank below = omega arith
block_of_rank Two block rank below = omega arith

pub rank_of_rank : (l : Layout) (block rank : ℕ) → rank < nodes_in_block l → node_rank l (nodes_before l block + rank + 1) ≡ rank
rank_of_rank One block rank below = omega arith
rank_of_rank Two block rank below = omega arith

pub byte_of_rank : (l : Layout) (block rank : ℕ) → rank < nodes_in_block l → node_byte l (nodes_before l block + rank + 1) ≡ rank_byte l rank
byte_of_rank One block rank below = omega arith
byte_of_rank Two block rank below = omega arith

-- the nodes of a block lie one behind the other from its first byte to its last
pub first_rank : (l : Layout) → rank_byte l 0 ≡ 0
first_rank One = omega arith
first_rank Two = omega arith

pub next_rank : (l : Layout) (rank : ℕ) → rank_byte l (rank + 1) ≡ rank_byte l rank + node_size l
next_rank One rank = omega arith
next_rank Two rank = omega arith

pub rank_within : (l : Layout) (rank : ℕ) → rank < nodes_in_block l → rank_byte l rank + node_size l ≤ 1024
rank_within One rank below = omega arith
rank_within Two rank below = omega arith

pub last_rank : (l : Layout) → rank_byte l (nodes_in_block l) ≡ 1024
last_rank One = omega arith
last_rank Two = omega arith

-- the blocks of a table have their nodes one block behind the other
pub no_nodes_before : (l : Layout) → nodes_before l 0 ≡ 0
no_nodes_before One = omega arith
no_nodes_before Two = omega arith

pub next_nodes_before : (l : Layout) (block : ℕ) → nodes_before l (block + 1) ≡ nodes_before l block + nodes_in_block l
next_nodes_before One block = omega arith
next_nodes_before Two block = omega arith

pub all_nodes_before : (l : Layout) (i : ℕ) → i % 4 ≡ 0 → nodes_before l (table_blocks l i) ≡ i
all_nodes_before One i whole = omega arith
all_nodes_before Two i whole = omega arith

pub nodes_before_rise : (l : Layout) (block other : ℕ) → block ≤ other → nodes_before l block ≤ nodes_before l other
nodes_before_rise One block other low = omega arith
nodes_before_rise Two block other low = omega arith

pub nodes_in_table : (l : Layout) (i block : ℕ) → i % 4 ≡ 0 → block < table_blocks l i → nodes_before l block + nodes_in_block l ≤ i
nodes_in_table One i block whole below = omega arith
nodes_in_table Two i block whole below = omega arith

-- Slots in the blocks of their directory.

-- a slot is whole within its block
pub slot_within : (l : Layout) (i : ℕ) → slot_byte l i + slot_size l ≤ 1024
slot_within One i = omega arith
slot_within Two i = omega arith

pub slot_place_is : (l : Layout) (i : ℕ) → slot_place l i ≡ 1024 * slot_block l i + slot_byte l i
slot_place_is One i = omega arith
slot_place_is Two i = omega arith

pub first_slot : (l : Layout) → slot_place l 0 ≡ 0
first_slot One = omega arith
first_slot Two = omega arith

-- slots lie one behind the other
pub slot_apart : (l : Layout) (i k : ℕ) → i < k → slot_place l i + slot_size l ≤ slot_place l k
slot_apart One i k low = omega arith
slot_apart Two i k low = omega arith

pub slot_rises : (l : Layout) (i k : ℕ) → i ≤ k → slot_place l i ≤ slot_place l k
slot_rises One i k low = omega arith
slot_rises Two i k low = omega arith

-- the slots of a block lie in it as those of the first block do
pub slots_of_block : (l : Layout) (block i : ℕ) → slot_place l (slots_before l block + i) ≡ 1024 * block + slot_place l i
slots_of_block One block i = omega arith
slots_of_block Two block i = omega arith

pub no_slots_before : (l : Layout) → slots_before l 0 ≡ 0
no_slots_before One = omega arith
no_slots_before Two = omega arith

pub next_slots_before : (l : Layout) (block : ℕ) → slots_before l (block + 1) ≡ slots_before l block + slots_in_block l
next_slots_before One block = omega arith
next_slots_before Two block = omega arith

-- the slots of a block are those from its first one on
pub block_of_slot : (l : Layout) (block rank : ℕ) → rank < slots_in_block l → slot_block l (slots_before l block + rank) ≡ block
block_of_slot One block rank below = omega arith
block_of_slot Two block rank below = omega arith

pub byte_of_slot : (l : Layout) (block rank : ℕ) → rank < slots_in_block l → slot_byte l (slots_before l block + rank) ≡ slot_place l rank
byte_of_slot One block rank below = omega arith
byte_of_slot Two block rank below = omega arith

pub slot_from : (l : Layout) (i : ℕ) → slots_before l (slot_block l i) ≤ i
slot_from One i = omega arith
slot_from Two i = omega arith

pub slot_upto : (l : Layout) (i : ℕ) → i < slots_before l (slot_block l i) + slots_in_block l
slot_upto One i = omega arith
slot_upto Two i = omega arith

pub slots_before_rise : (l : Layout) (block other : ℕ) → block ≤ other → slots_before l block ≤ slots_before l other
slots_before_rise One block other low = omega arith
slots_before_rise Two block other low = omega arith

-- Directories.

-- a slot of a directory lies in one of its blocks
pub slot_in_directory : (l : Layout) (i e : ℕ) → i < e → slot_block l i < directory_blocks l e
slot_in_directory One i e low = omega arith
slot_in_directory Two i e low = omega arith

-- its blocks have room for its slots
pub directory_has_room : (l : Layout) (e : ℕ) → e ≤ slots_before l (directory_blocks l e)
directory_has_room One e = omega arith
directory_has_room Two e = omega arith

-- and full blocks are no more than these slots need
pub full_directory : (l : Layout) (block : ℕ) → directory_blocks l (slots_before l block) ≡ block
full_directory One block = omega arith
full_directory Two block = omega arith

pub no_directory : (l : Layout) → directory_bytes l 0 ≡ 0
no_directory One = omega arith
no_directory Two = omega arith

-- the last slot ends where the directory ends
pub directory_ends : (l : Layout) (e : ℕ) → directory_bytes l (e + 1) ≡ slot_place l e + slot_size l
directory_ends One e = omega arith
directory_ends Two e = omega arith

-- the next slot begins at the directory's end, or behind it in the next block
pub directory_before : (l : Layout) (e : ℕ) → directory_bytes l e ≤ slot_place l e
directory_before One e = omega arith
directory_before Two e = omega arith

pub directory_holds : (l : Layout) (i e : ℕ) → i < e → slot_place l i + slot_size l ≤ directory_bytes l e
directory_holds One i e low = omega arith
directory_holds Two i e low = omega arith

pub directory_rises : (l : Layout) (e d : ℕ) → e ≤ d → directory_bytes l e ≤ directory_bytes l d
directory_rises One e d low = omega arith
directory_rises Two e d low = omega arith

-- its bytes are at least 64 for each slot, and at most 342
pub directory_least : (l : Layout) (e : ℕ) → 64 * e ≤ directory_bytes l e
directory_least One e = omega arith
directory_least Two e = omega arith

pub directory_most : (l : Layout) (e : ℕ) → directory_bytes l e ≤ 342 * e
directory_most One e = omega arith
directory_most Two e = omega arith

-- its bytes need as many blocks as its slots
pub directory_needs : (l : Layout) (e : ℕ) → (directory_bytes l e + 1023) / 1024 ≡ directory_blocks l e
directory_needs One e = omega arith
directory_needs Two e = omega arith

-- its bytes hold just its slots
pub directory_count : (l : Layout) (e : ℕ) → slots_held l (directory_bytes l e) ≡ e
directory_count One e = omega arith
directory_count Two e = omega arith

-- one slot more needs at most one block more
pub directory_grows : (l : Layout) (e : ℕ) → directory_blocks l (e + 1) - directory_blocks l e ≤ 1
directory_grows One e = omega arith
directory_grows Two e = omega arith

pub directory_blocks_rise : (l : Layout) (e d : ℕ) → e ≤ d → directory_blocks l e ≤ directory_blocks l d
directory_blocks_rise One e d low = omega arith
directory_blocks_rise Two e d low = omega arith

-- no slots need no block
pub no_directory_blocks : (l : Layout) → directory_blocks l 0 ≡ 0
no_directory_blocks One = omega arith
no_directory_blocks Two = omega arith

-- one slot more is a block more exactly where the blocks are full
pub directory_full : (l : Layout) (e : ℕ) → directory_blocks l (e + 1) - directory_blocks l e ≡ (if e % slots_in_block l == 0 then 1 else 0)
directory_full One e = grind (arith, nat_tests)
directory_full Two e = grind (arith, nat_tests)

-- one slot less is a block less exactly where the last block has one slot
pub directory_frees : (l : Layout) (e : ℕ) → directory_blocks l e - directory_blocks l (e - 1) ≡ (if e % slots_in_block l == 1 then 1 else 0)
directory_frees One e = grind (arith, nat_tests)
directory_frees Two e = grind (arith, nat_tests)

-- the size field of so many slots
pub content_is : (l : Layout) (e : ℕ) → content_size l (64 * e) ≡ directory_bytes l e
content_is One e = omega arith
content_is Two e = omega arith

-- a size field of whole slots is told by its content
pub size_is : (l : Layout) (size : ℕ) → size % 64 ≡ 0 → 64 * slots_held l (content_size l size) ≡ size
size_is One size whole = omega arith
size_is Two size whole = omega arith
