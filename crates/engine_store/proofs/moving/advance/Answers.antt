use Rattle.std.proofs.Common.{sym, ◌∙◌, ap, subst, arith}
use Rattle.layout_geometry.specs.Geometry.{Geometry}
use Rattle.engine_reuse.specs.Dead.{DeadBlocks}
use Rattle.engine_checkpoint.specs.Advance.{IsSound}
use Rattle.engine_store.proofs.FirstOpen.{due_advanced}
use Rattle.engine_store.proofs.PipelineCalls.{durable_fits, ends, stepped, with_moved}
use Rattle.engine_store.proofs.RingTold.{ring_ended}
use Rattle.engine_store.proofs.ServingBlocks.{served_some, serves_ended}
use Rattle.engine_store.proofs.moving.advance.Goals as goal

pub advance-advanced-requires : goal.advance-advanced-requires
advance-advanced-requires g c =
    let v = c.args.parts.now in
    let sound = c.requires.kept.sound in
    record {
      sound = subst (λ (dead : DeadBlocks). IsSound v.pipeline v.ring dead) (sym c.reuse_mut-reuse.ensures.value) (sound.going c.requires.going).sound;
      size = c.requires.kept.size ∙ sym (ap (λ (k : Geometry). k.n) sound.pipeline_geom);
      turns = c.a_sound_store_has_sound_books.ensures.turns v c.requires.turns;
    }

pub settle_up-requires-clause-last : goal.settle_up-requires-clause-last
settle_up-requires-clause-last g c =
    durable_fits c.advance-advanced.result c.args.parts.now.pipeline c.advance-advanced.new.self c.advance-advanced.new.ring c.advance-advanced.new.reuse c.advance-advanced.ensures.goes.sound c.advance-advanced.ensures.goes.moves.last (c.a_sound_store_has_sound_books.ensures.turns c.args.parts.now c.requires.turns)

pub returns : goal.returns
returns g c =
    let v = c.args.parts.now in
    let old = g.D.Disk.state c.args.disk.now in
    let new = g.D.Disk.state c.advance-advanced.new.disk in
    let call = c.advance-advanced in
    let called = stepped g.D.Disk.tells 1 call.result v call.new.self call.new.ring c.reuse_mut-reuse.result.now call.new.reuse old new 0 call.ensures.spends.asked c.reuse_mut-reuse.ensures.value call.ensures.goes.moves c.lawful.ensures call.ensures.goes.sound call.ensures.goes.front call.ensures.spends.spends call.ensures.goes.adds call.ensures.goes.right call.ensures.goes.bytes (λ t s l u floor taken was. call.ensures.cause t) (λ t s l u floor taken was. due_advanced call.result v.pipeline call.new.self (call.ensures.due t s l u floor taken was)) call.ensures.goes.lost call.ensures.goes.heard call.ensures.goes.owed in
    let after = ends c.a_pipeline_call_keeps_the_store.ensures.keeps c.a_pipeline_call_keeps_the_store.ensures.runs g.D.Disk.tells 1 call.result c.settle_up.result v (with_moved v call.new.self call.new.ring call.new.reuse) c.settle_up.new.parts old new (omega arith) c.requires.kept c.requires.going called c.settle_up.ensures.answer c.settle_up.ensures.parts in
    record {
      kept = after.0;
      runs = after.1;
      waits = call.ensures.spends.spends.waits;
      manner = call.ensures.spends.spends.same.manner;
      polled = call.ensures.polled;
      ring = λ ticks tells alone.
          ring_ended c.a_log_tells_its_records.ensures.counts c.a_log_tells_its_records.ensures.places call.result c.settle_up.result g.D.Disk.tells v c.settle_up.new.parts call.new.self call.new.ring call.new.reuse old new ticks tells c.settle_up.ensures.answer c.settle_up.ensures.parts c.requires.going c.requires.kept.sound.pipeline_geom after.0
          (served_some call.result g.D.Disk.tells v call.new.self c.reuse_mut-reuse.result.now call.new.reuse old new tells c.requires.kept c.requires.going c.reuse_mut-reuse.ensures.value alone call.ensures.serves);
      serves = λ before then tells alone.
          serves_ended call.result c.settle_up.result v c.settle_up.new.parts call.new.self call.new.ring call.new.reuse old new before then c.settle_up.ensures.answer c.settle_up.ensures.parts after.2 c.requires.kept.sound c.requires.going c.a_freed_block_waits.ensures.held c.a_freed_block_waits.ensures.waits c.a_freed_block_waits.ensures.exact
          (served_some call.result g.D.Disk.tells v call.new.self c.reuse_mut-reuse.result.now call.new.reuse old new tells c.requires.kept c.requires.going c.reuse_mut-reuse.ensures.value alone call.ensures.serves);
    }
