-- The lines of a trace. They are described in docs/TRACE.md.
use Rattle.std.specs.Prelude.{ℕ, List, [], ◌∷◌, ◌++◌, codes, decimal}
use Rattle.hex.specs.Hex.{encode_lower}
use Rattle.base_types.specs.declared.layout.Layout.{Layout}
use Rattle.base_types.specs.declared.layout.Layout.TheVariants.{One, Two}
use Rattle.layout_geometry.specs.Geometry.{Geometry}
use Rattle.disk_contract.specs.declared.event.Event.{Event}
use Rattle.disk_contract.specs.declared.event.Event.TheVariants.{Wrote, Lost, Noticed}

-- what names the layout: nothing names layout 1
abbrev pub layout_mark : Layout → List ℕ
layout_mark One = []
layout_mark Two = codes " 2"

-- the first line: how many blocks, journal blocks and nodes, and the layout where it is layout 2
abbrev pub geometry_line : Geometry → List ℕ
geometry_line g = codes "g " ++ decimal g.n ++ codes " " ++ decimal g.j ++ codes " " ++ decimal g.i ++ layout_mark g.layout ++ codes "\n"

-- a write that was accepted, one that was lost, or a notice
abbrev pub event_line : Event → List ℕ
event_line (Wrote ticket block bytes) = codes "w " ++ decimal ticket ++ codes " " ++ decimal block ++ codes " " ++ encode_lower bytes ++ codes "\n"
event_line (Lost block bytes) = codes "f " ++ decimal block ++ codes " " ++ encode_lower bytes ++ codes "\n"
event_line (Noticed ticket) = codes "d " ++ decimal ticket ++ codes "\n"

-- the lines of some events, in order
abbrev pub event_lines : List Event → List ℕ
event_lines [] = []
event_lines (event ∷ events) = event_line event ++ event_lines events

-- a command begins
abbrev pub command_line : List ℕ → List ℕ
command_line text = codes "c " ++ text ++ codes "\n"

-- its reply, and how many events there were so far
abbrev pub reply_line : ℕ → List ℕ → List ℕ
reply_line moment text = codes "r " ++ decimal moment ++ codes " " ++ text ++ codes "\n"

-- the last line of a whole trace
abbrev pub end_line : List ℕ
end_line = codes "end\n"
