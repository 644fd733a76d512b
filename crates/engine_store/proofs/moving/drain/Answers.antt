use Rattle.std.proofs.Common.{sym, ◌∙◌, ap, subst, arith, rules}
use Rattle.layout_geometry.specs.Geometry.{Geometry}
use Rattle.engine_reuse.specs.Dead.{DeadBlocks}
use Rattle.engine_checkpoint.specs.Advance.{IsSound}
use Rattle.engine_store.proofs.FirstOpen.{due_drained}
use Rattle.engine_store.proofs.PipelineCalls.{ends, stepped, with_moved}
use Rattle.engine_store.proofs.ServingBlocks.{drain_ended}
use Rattle.engine_store.proofs.Spending.{asks_none}
use Rattle.engine_store.proofs.moving.drain.Goals as goal

pub drain-drained-requires : goal.drain-drained-requires
drain-drained-requires g c =
    let v = c.args.parts.now in
    let sound = c.requires.kept.sound in
    record {
      sound = subst (λ (dead : DeadBlocks). IsSound v.pipeline v.ring dead) (sym c.reuse_mut-reuse.ensures.value) (sound.going c.requires.going).sound;
      size = c.requires.kept.size ∙ sym (ap (λ (k : Geometry). k.n) sound.pipeline_geom);
      turns = c.a_sound_store_has_sound_books.ensures.turns v c.requires.turns;
    }

pub returns : goal.returns
returns g c =
    let v = c.args.parts.now in
    let old = g.D.Disk.state c.args.disk.now in
    let new = g.D.Disk.state c.drain-drained.new.disk in
    let call = c.drain-drained in
    let called = stepped g.D.Disk.tells 4 call.result v call.new.self call.new.ring c.reuse_mut-reuse.result.now call.new.reuse old new call.ensures.spends.made 0 c.reuse_mut-reuse.ensures.value call.ensures.goes.moves c.lawful.ensures call.ensures.goes.sound call.ensures.goes.front call.ensures.spends.spends call.ensures.goes.adds call.ensures.goes.right call.ensures.goes.bytes call.ensures.cause (λ t s l u floor taken was. due_drained call.result call.new.self call.new.reuse call.ensures.drained) call.ensures.goes.lost call.ensures.goes.heard call.ensures.goes.owed in
    let after = ends c.a_pipeline_call_keeps_the_store.ensures.keeps c.a_pipeline_call_keeps_the_store.ensures.runs g.D.Disk.tells 4 call.result c.settle_up.result v (with_moved v call.new.self call.new.ring call.new.reuse) c.settle_up.new.parts old new (omega arith) c.requires.kept c.requires.going called c.settle_up.ensures.answer c.settle_up.ensures.parts in
    record { kept = after.0; runs = after.1; moves = after.2; settled = search rules; serves = drain_ended call.result c.settle_up.result v c.settle_up.new.parts c.settle_up.ensures.answer after.2 c.requires.kept.sound.kept.sound c.a_freed_block_waits.ensures.held (search rules); places = search rules; asks = asks_none _ _ _ _ call.ensures.spends.spends }
