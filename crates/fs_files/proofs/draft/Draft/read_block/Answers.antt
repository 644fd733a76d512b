use Rattle.std.proofs.Common.{◌≡◌, slice_get, length, Some, All, sym, ap, subst, arith}
use Rattle.engine_blocks.specs.Puts.{IsData}
use Rattle.fs_files.proofs.bytes.Joins.{of_place}
use Rattle.fs_files.proofs.calling.Reads.{block_begins, block_past}
use Rattle.fs_files.proofs.draft.Draft.read_block.Goals as goal

pub returns-then-count-index-clause-bytes : goal.returns-then-count-index-clause-bytes
returns-then-count-index-clause-bytes g c = λ tells k x at places.
    let s = g.S.Blocks.state c.args.blocks.now in
    block_past s.books s.map c.args.self.now k c.args.index c.args.node.now c.args.into.now x (c.requires.draft.sound tells) c.requires.«data» at places (omega (arith, c.if-count-index.true, c.count.ensures.value, ap length c.node.view_is))

pub read-requires-clause-from : goal.read-requires-clause-from
read-requires-clause-from g c =
    let at = of_place (IsData (g.S.Blocks.state c.args.blocks.now).books.geom) _ c.args.index c.place.result (subst (All (IsData (g.S.Blocks.state c.args.blocks.now).books.geom)) (sym c.node.view_is) c.requires.«data») c.place.ensures.value in
    omega (arith, at.from)

pub read-requires-clause-below : goal.read-requires-clause-below
read-requires-clause-below g c = (of_place (IsData (g.S.Blocks.state c.args.blocks.now).books.geom) _ c.args.index c.place.result (subst (All (IsData (g.S.Blocks.state c.args.blocks.now).books.geom)) (sym c.node.view_is) c.requires.«data») c.place.ensures.value).below

pub returns-clause-bytes : goal.returns-clause-bytes
returns-clause-bytes g c = λ tells k x at places.
    let s = g.S.Blocks.state c.args.blocks.now in
    block_begins s.books s.map c.args.self.now k c.args.index c.args.node.now c.read.new.into x (c.requires.draft.sound tells) c.requires.«data» at places c.place.result (subst (λ ps. slice_get ps c.args.index ≡ Some c.place.result) c.node.view_is c.place.ensures.value) (c.in_ok-read.ensures.block tells)
