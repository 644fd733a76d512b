use Rattle.std.proofs.Common.{◌≡◌, ◌+◌, ◌-◌, ◌<◌, ◌≤◌, ◌++◌, All, false, IsTrue, ap, ap₂, subst, sym, ◌∙◌, arith, rules}
use Rattle.base_types.specs.Layouts.{nodes_in_block}
use Rattle.base_types.specs.Seal.{Blocks}
use Rattle.layout_geometry.specs.Geometry.{Geometry, IsGeometry, table_start, data_start}
use Rattle.crash_stands.specs.Places.{table_blocks}
use Rattle.crash_snapshots.specs.Places.{places_of_dir}
use Rattle.engine_blocks.specs.Puts.{IsData}
use Rattle.fs_files.specs.Content.{fails_reading}
use Rattle.fs_files.specs.Effects.{LooksOnly}
use Rattle.fs_files.specs.Places.{looks_more}
use Rattle.fs_snapshots.specs.Known.{file_blocks, node_blocks}
use Rattle.fs_snapshots.specs.Tables.{nodes_in}
use Rattle.fs_commands.specs.declared.gathering.Gathered.{Gathered}
use Rattle.fs_commands.proofs.gathered.Tables.{gathers_more, all_files, all_of_dirs, table_read}
use Rattle.fs_commands.proofs.gathering.gather_live.Goals as goal

pub returns-in_err-gather_block-clause-looks : goal.returns-in_err-gather_block-clause-looks
returns-in_err-gather_block-clause-looks g c =
    let s = g.S.Blocks.state c.args.blocks.now in
    let quiet : fails_reading {T = Gathered} c.from_residual-in_err-gather_block.result ≡ false = search rules in
    subst (λ b. LooksOnly g.S.Blocks.tells b s (g.S.Blocks.state c.get.new.self)) (sym quiet)
    (looks_more g.S.Blocks.tells false s (g.S.Blocks.state c.loop-slot.blocks) (g.S.Blocks.state c.get.new.self) c.loop-slot.invariant.looks
    (record { books = c.in_ok-get.ensures.books; counts = c.in_ok-get.ensures.counts; map = c.in_ok-get.ensures.map; crash = c.in_ok-get.ensures.crash }))

pub loop-slot-preserved : goal.loop-slot-preserved
loop-slot-preserved g c =
    let s = g.S.Blocks.state c.args.blocks.now in
    let t = g.S.Blocks.state c.loop-slot.blocks in
    let u = g.S.Blocks.state c.get.new.self in
    let limits = subst IsGeometry c.geom-geom.ensures c.lawful.ensures.limits in
    let count : c.data_start.result - c.table_start.result ≡ table_blocks s.books.geom = ap₂ (λ a b. a - b) c.data_start.ensures c.table_start.ensures ∙ ap table_blocks c.geom-geom.ensures in
    let looks : LooksOnly g.S.Blocks.tells false t u = record { books = c.in_ok-get.ensures.books; counts = c.in_ok-get.ensures.counts; map = c.in_ok-get.ensures.map; crash = c.in_ok-get.ensures.crash } in
    let e = c.geom-geom.ensures in
    let place : c.table_start-in-loop-slot.result + c.loop-slot.slot ≡ table_start s.books.geom + c.loop-slot.slot = ap (λ n. n + c.loop-slot.slot) (c.table_start-in-loop-slot.ensures ∙ ap table_start e) in
    let low : c.loop-slot.slot < table_blocks s.books.geom = omega (arith, count, c.loop-slot-test.true) in
    gathers_more (IsTrue g.S.Blocks.tells) g.S.Blocks.tells s t u s.map c.loop-slot.slot c.loop-slot.found c.gather_block.new.found c.get.new.into limits c.loop-slot.invariant low looks
    (λ told. table_read g.S.Blocks.tells s t c.loop-slot.slot _ c.get.new.into c.loop-slot.invariant.looks told place low (λ defined. c.in_ok-get.ensures.block told defined))
    (c.in_ok-gather_block.ensures.files ∙ ap (λ (x : Geometry). c.loop-slot.found.files.items ++ node_blocks (λ r. file_blocks (nodes_in x c.get.new.into r)) (nodes_in_block x.layout)) e)
    (c.in_ok-gather_block.ensures.dirs ∙ ap (λ (x : Geometry). c.loop-slot.found.dirs.items ++ node_blocks (λ r. places_of_dir (nodes_in x c.get.new.into r)) (nodes_in_block x.layout)) e)
    (subst (λ (x : Geometry). All (IsData x) c.loop-slot.found.files.items → All (IsData x) c.gather_block.new.found.files.items) e c.in_ok-gather_block.ensures.«data»)
    (subst (λ (x : Geometry). All (IsData x) c.loop-slot.found.dirs.items → All (IsData x) c.gather_block.new.found.dirs.items) e c.in_ok-gather_block.ensures.dirs_data)

pub returns-clause-dirs : goal.returns-clause-dirs
returns-clause-dirs g c = λ told.
    let s = g.S.Blocks.state c.args.blocks.now in
    let count : c.data_start.result - c.table_start.result ≡ table_blocks s.books.geom = ap₂ (λ a b. a - b) c.data_start.ensures c.table_start.ensures ∙ ap table_blocks c.geom-geom.ensures in
    all_of_dirs (IsTrue g.S.Blocks.tells) g.S.Blocks.tells s (g.S.Blocks.state c.loop-slot.blocks) s.map c.loop-slot.slot c.loop-slot.found (subst IsGeometry c.geom-geom.ensures c.lawful.ensures.limits) c.loop-slot.invariant
    (omega (arith, count, c.loop-slot-test.false, c.loop-slot.auto.slot-end)) told

pub returns-clause-files : goal.returns-clause-files
returns-clause-files g c = λ told.
    let s = g.S.Blocks.state c.args.blocks.now in
    let count : c.data_start.result - c.table_start.result ≡ table_blocks s.books.geom = ap₂ (λ a b. a - b) c.data_start.ensures c.table_start.ensures ∙ ap table_blocks c.geom-geom.ensures in
    all_files (IsTrue g.S.Blocks.tells) g.S.Blocks.tells s (g.S.Blocks.state c.loop-slot.blocks) s.map c.loop-slot.slot c.loop-slot.found (subst IsGeometry c.geom-geom.ensures c.lawful.ensures.limits) c.loop-slot.invariant
    (omega (arith, count, c.loop-slot-test.false, c.loop-slot.auto.slot-end)) told
