-- In the block as the draft has it the nodes before the first without a kind are in use, and that one isn't.
use Rattle.std.proofs.Common.{◌≡◌, sym, ap, subst, ◌∙◌, arith}
use Rattle.base_types.specs.declared.layout.Layout.{Layout}
use Rattle.layout_geometry.specs.Geometry.{Geometry, IsGeometry}
use Rattle.engine_blocks.specs.State.{State}
use Rattle.fs_files.specs.Nodes.{block_end, kind_in}
use Rattle.fs_files.proofs.calling.Unused.{block_read, block_used, block_first}
use Rattle.fs_files.proofs.unused.unused_in_block.Goals as goal

pub returns-then-first-end-clause-found : goal.returns-then-first-end-clause-found
returns-then-first-end-clause-found g c = λ tells.
    let s : State = g.S.Blocks.state c.args.blocks.now in
    let geom = subst IsGeometry c.geom-geom.ensures c.lawful.ensures.limits in
    let bytes = block_read s c.args.draft.now c.geom-geom.result c.args.number c.node_place-block.result.0 c.read.new.into c.geom-geom.ensures geom c.requires.above_zero c.requires.in_table (c.requires.draft.sound tells) c.node_place-block.ensures.block (c.in_ok-read.ensures.block tells) in
    let same : c.layout-layout.result ≡ s.books.geom.layout = c.layout-layout.ensures ∙ ap (λ (h : Geometry). h.layout) c.geom-geom.ensures in
    let end : c.block_end-end.result ≡ block_end s.books.geom.layout c.args.number = c.block_end-end.ensures ∙ ap (λ (l : Layout). block_end l c.args.number) same in
    block_first s.books s.map c.args.draft.now c.args.number c.first_without_kind-first.result c.read.new.into geom.whole_blocks (c.requires.draft.sound tells) c.requires.above_zero c.requires.in_table
    c.first_without_kind-first.ensures.low (omega (arith, c.if-first-end.true, end)) bytes
    (λ k low high zero. c.first_without_kind-first.ensures.before k low high (ap (λ (l : Layout). kind_in l c.read.new.into k) same ∙ zero))
    (ap (λ (l : Layout). kind_in l c.read.new.into c.first_without_kind-first.result) (sym same) ∙ c.first_without_kind-first.ensures.here c.if-first-end.true)

pub returns-clause-none : goal.returns-clause-none
returns-clause-none g c = λ tells.
    let s : State = g.S.Blocks.state c.args.blocks.now in
    let geom = subst IsGeometry c.geom-geom.ensures c.lawful.ensures.limits in
    let bytes = block_read s c.args.draft.now c.geom-geom.result c.args.number c.node_place-block.result.0 c.read.new.into c.geom-geom.ensures geom c.requires.above_zero c.requires.in_table (c.requires.draft.sound tells) c.node_place-block.ensures.block (c.in_ok-read.ensures.block tells) in
    let same : c.layout-layout.result ≡ s.books.geom.layout = c.layout-layout.ensures ∙ ap (λ (h : Geometry). h.layout) c.geom-geom.ensures in
    let end : c.block_end-end.result ≡ block_end s.books.geom.layout c.args.number = c.block_end-end.ensures ∙ ap (λ (l : Layout). block_end l c.args.number) same in
    block_used s.books s.map c.args.draft.now c.args.number (block_end s.books.geom.layout c.args.number) c.read.new.into geom.whole_blocks (c.requires.draft.sound tells) c.requires.above_zero c.requires.in_table
    (omega arith) bytes (λ k low high zero. c.first_without_kind-first.ensures.before k low (omega (arith, high, c.if-first-end.false, end)) (ap (λ (l : Layout). kind_in l c.read.new.into k) same ∙ zero))
