-- A node whose bytes are given, with its blocks. It is described in docs/FILES.md.
use Rattle.base_types.specs.declared.layout.Layout.{Layout}
use Rattle.layout_bytes.specs.declared.node.Node.{Node}
use Rattle.fs_files.specs.declared.node_blocks.OpenFile.{OpenFile}
use Rattle.fs_files.specs.declared.nodes.OpenNode.{OpenNode}
use Rattle.fs_files.specs.Nodes.{node_of_open}

-- the parts of a node that was read, side by side
abbrev pub parts_of : OpenFile → OpenNode
parts_of f = record { kind = f.facts.kind; links = f.facts.links; size = f.facts.size; places = f.blocks }

-- the node as the node table has it
abbrev pub node_of_file : Layout → OpenFile → Node
node_of_file l f = node_of_open l (parts_of f)
