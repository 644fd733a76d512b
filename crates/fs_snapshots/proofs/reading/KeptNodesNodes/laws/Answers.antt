use Rattle.fs_snapshots.proofs.KeptReads.{file_few, file_slots}
use Rattle.fs_snapshots.proofs.reading.KeptNodesNodes.laws.Goals as goal

pub returns-clause-slots : goal.returns-clause-slots
returns-clause-slots g c = λ tells may k x at dir.
    let s = g.S.Blocks.state c.args.blocks.now in
    file_slots s.books.geom s.map c.args.self.now.places k x may.gone.«data» (may.whole tells) at dir

pub returns-clause-few : goal.returns-clause-few
returns-clause-few g c = λ tells may k x at.
    let s = g.S.Blocks.state c.args.blocks.now in
    file_few s.books.geom s.map c.args.self.now.places k x may.gone.«data» (may.whole tells) c.different_blocks_are_few.ensures at
