use Rattle.std.proofs.Common.{arith}
use Rattle.engine_blocks.specs.Puts.{IsData}
use Rattle.fs_files.proofs.bytes.Joins.{of_place}
use Rattle.fs_files.proofs.PlainReads.{begins_there, none_there}
use Rattle.fs_files.proofs.given.read_block_at.Goals as goal

pub returns-then-count-index-clause-bytes : goal.returns-then-count-index-clause-bytes
returns-then-count-index-clause-bytes g c = λ tells whole size x text.
    none_there (g.S.Blocks.state c.args.blocks.now).map c.args.places.now c.args.index size c.args.into.now x whole text (omega (arith, c.if-count-index.true, c.count.ensures.value))

pub read_data-requires-clause-place : goal.read_data-requires-clause-place
read_data-requires-clause-place g c = of_place (IsData (g.S.Blocks.state c.args.blocks.now).books.geom) c.args.places.now c.args.index c.place.result c.requires.«data» c.place.ensures

pub returns-clause-bytes : goal.returns-clause-bytes
returns-clause-bytes g c = λ tells whole size x text.
    begins_there (g.S.Blocks.state c.args.blocks.now).map c.args.places.now c.args.index c.place.result size c.read_data.new.into x whole text c.place.ensures (c.in_ok-read_data.ensures.block tells)
