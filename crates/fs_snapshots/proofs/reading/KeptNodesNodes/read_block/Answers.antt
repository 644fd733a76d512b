use Rattle.fs_snapshots.proofs.KeptReads.{block_of}
use Rattle.fs_snapshots.proofs.reading.KeptNodesNodes.read_block.Goals as goal

pub returns-clause-bytes : goal.returns-clause-bytes
returns-clause-bytes g c = λ tells k x at places_are.
    let s = g.S.Blocks.state c.args.blocks.now in
    block_of s.books.geom s.map c.args.self.now.places k c.args.node.now x c.args.index c.read_block_at.new.into (c.requires.read.may.whole tells) c.requires.read.may.gone.«data» at places_are (c.in_ok-read_block_at.ensures.bytes tells)
