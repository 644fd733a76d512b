use Rattle.std.proofs.Common.{false, ◌≡◌, ◌+◌, ◌-◌, ◌<◌, ◌++◌, sym, subst, ap, ap₂, ◌∙◌, arith, rules}
use Rattle.layout_geometry.specs.Geometry.{Geometry, table_start}
use Rattle.crash_stands.specs.Places.{table_blocks}
use Rattle.fs_files.specs.Content.{fails_reading}
use Rattle.fs_files.specs.Effects.{LooksOnly}
use Rattle.fs_files.specs.Places.{looks_more}
use Rattle.fs_commands.specs.Gathering.{kept_table_block}
use Rattle.fs_commands.proofs.gathered.Tables.{table_read}
use Rattle.fs_commands.proofs.snapped.Bytes.{table_more}
use Rattle.fs_commands.proofs.snapshot_drafts.push_table.Goals as goal

pub returns-in_err-push_kept-clause-looks : goal.returns-in_err-push_kept-clause-looks
returns-in_err-push_kept-clause-looks g c =
    let s = g.S.Blocks.state c.args.blocks.now in
    let quiet : fails_reading {T = Unit {0}} c.from_residual-in_err-push_kept.result ≡ false = search rules in
    subst (λ b. LooksOnly g.S.Blocks.tells b s (g.S.Blocks.state c.get.new.self)) (sym quiet)
    (looks_more g.S.Blocks.tells false s (g.S.Blocks.state c.loop-slot.blocks) (g.S.Blocks.state c.get.new.self) c.loop-slot.invariant.looks
    (record { books = c.in_ok-get.ensures.books; counts = c.in_ok-get.ensures.counts; map = c.in_ok-get.ensures.map; crash = c.in_ok-get.ensures.crash }))

pub loop-slot-preserved : goal.loop-slot-preserved
loop-slot-preserved g c =
    let s = g.S.Blocks.state c.args.blocks.now in
    let t = g.S.Blocks.state c.loop-slot.blocks in
    let slot = c.loop-slot.slot in
    let e = c.geom-geom.ensures in
    let count : c.data_start.result - c.table_start.result ≡ table_blocks s.books.geom = ap₂ (λ a b. a - b) c.data_start.ensures c.table_start.ensures ∙ ap table_blocks e in
    let place : c.table_start-in-loop-slot.result + slot ≡ table_start s.books.geom + slot = ap (λ n. n + slot) (c.table_start-in-loop-slot.ensures ∙ ap table_start e) in
    let low : slot < table_blocks s.books.geom = omega (arith, count, c.loop-slot-test.true) in
    record {
      looks = looks_more g.S.Blocks.tells false s t (g.S.Blocks.state c.get.new.self) c.loop-slot.invariant.looks
          (record { books = c.in_ok-get.ensures.books; counts = c.in_ok-get.ensures.counts; map = c.in_ok-get.ensures.map; crash = c.in_ok-get.ensures.crash });
      bytes = λ told. table_more s.books.geom s.map c.args.bytes.now.items c.loop-slot.bytes.items c.push_kept.new.bytes.items c.get.new.into slot (c.loop-slot.invariant.bytes told) (c.in_ok-push_kept.ensures.bytes ∙ ap (λ l. c.loop-slot.bytes.items ++ kept_table_block l c.get.new.into) (c.layout.ensures ∙ ap (λ (k : Geometry). k.layout) e))
          (table_read g.S.Blocks.tells s t slot _ c.get.new.into c.loop-slot.invariant.looks told place low (λ defined. c.in_ok-get.ensures.block told defined));
    }
