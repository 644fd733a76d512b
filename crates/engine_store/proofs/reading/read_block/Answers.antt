use Rattle.std.proofs.Common.{rules, ◌≡◌, None}
use Rattle.engine_running.specs.Running.{bytes_put}
use Rattle.engine_checkpoint.specs.Kept.{kept, newest_in}
use Rattle.engine_store.proofs.LastMap.{LastMapLaws}
use Rattle.engine_store.proofs.BlockReads.{read_gives, read_keeps}
use Rattle.engine_store.proofs.reading.read_block.Goals as goal

pub returns-clause-kept : goal.returns-clause-kept
returns-clause-kept g c =
    let none : newest_in None (kept c.args.parts.now.pipeline) c.args.b ≡ None = search rules in
    read_keeps c.get.result g.D.Disk.tells c.args.parts.now (g.D.Disk.state c.args.disk.now) (g.D.Disk.state c.get.new.disk) c.args.b c.get.new.into c.get.new.self c.requires.kept none c.get.ensures.keeps c.get.ensures.err c.get.ensures.gives c.get.ensures.spends.same c.get.ensures.spends.waits c.get.ensures.log

pub returns-clause-block : goal.returns-clause-block
returns-clause-block g c =
    let none : newest_in None (kept c.args.parts.now.pipeline) c.args.b ≡ None = search rules in
    let unput : bytes_put c.args.parts.now.books.changes c.args.b ≡ None = search rules in
    let newest = c.the_newest_payloads_are_the_map.ensures in
    let laws : LastMapLaws = record { payload = newest.payload; written = newest.written; calm = newest.calm; reads = c.a_read_gives_what_was_written_last.ensures.last; live = c.the_map_needs_only_live_blocks.ensures.live } in
    read_gives laws c.the_map_needs_only_live_blocks.ensures.unput c.get.result g.D.Disk.tells c.args.parts.now (g.D.Disk.state c.args.disk.now) c.args.b c.get.new.into c.requires.kept c.requires.going unput none c.get.ensures.gives
