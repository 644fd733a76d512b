-- The formatted disk of a geometry. It is described in docs/LAYOUT.md.
use Rattle.std.specs.Prelude.{ℕ, ◌-◌, ◌==◌, ◌&&◌, nat_le, nat_lt, false, if◌then◌else◌, [], ◌++◌, replicate}
use Rattle.base_types.specs.Seal.{Blocks}
use Rattle.layout_geometry.specs.Geometry.{Geometry, bitmap_start, table_start, data_start}
use Rattle.layout_bytes.specs.declared.node.Node.{Node}
use Rattle.layout_bytes.specs.declared.node.NodeKind.TheVariants.{Dir}
use Rattle.layout_bytes.specs.Node.{node_size, node_spelling}
use Rattle.layout_bytes.specs.Bitmap.{first_bits_block}
use Rattle.layout_journal.specs.declared.header.Header.{Header}
use Rattle.layout_journal.specs.Spelling.{header_block}

-- a header under which the journal is empty, before any record
abbrev pub empty_header : Geometry → ℕ → ℕ → Header
empty_header g epoch turn = record { epoch = epoch; turn = turn; start = 1; sure = 0; at = 0; closed = false; geom = g }

-- the root directory of an empty tree
abbrev pub empty_root : Node
empty_root = record { kind = Dir; links = 1; size = 0; runs = [] }

-- The first header in slot 0, the bits of all areas before the data, the root directory as node 1, and zeros.
abbrev pub formatted : Geometry → Blocks
formatted g b =
    if b == 0 then header_block (empty_header g 1 1)
    else if nat_le (bitmap_start g) b && nat_lt b (table_start g) then first_bits_block (data_start g) (b - bitmap_start g)
    else if b == table_start g then node_spelling g.layout empty_root ++ replicate (1024 - node_size g.layout) 0
    else replicate 1024 0
