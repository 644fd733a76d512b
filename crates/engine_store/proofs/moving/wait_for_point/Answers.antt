use Rattle.std.proofs.Common.{◌≡◌, ◌∙◌, ◌+◌, ◌-◌, Result, Ok, Err, refl, ap, arith}
use Rattle.disk_contract.specs.declared.disk.DiskFault.{DiskFault}
use Rattle.disk_contract.specs.Disk.{writes_in}
use Rattle.engine_store.specs.declared.parts.StoreParts.{StoreParts}
use Rattle.engine_store.specs.PipelineCall.{settled_up}
use Rattle.engine_store.proofs.Awaiting.{waited_hears}
use Rattle.engine_store.proofs.PipelineBytes.{writes_noticed}
use Rattle.engine_store.proofs.PipelineCalls.{durable_fits, either, ends, point_is_durable, moves_more, waited}
use Rattle.engine_store.proofs.Spending.{asks_none}
use Rattle.engine_store.proofs.moving.wait_for_point.Goals as goal

settled_books : (r : Result (Unit {0}) DiskFault) (w : StoreParts) → (settled_up r w).books ≡ w.books
settled_books (Ok a) w = refl
settled_books (Err x) w = refl

pub wait_records-waited-requires : goal.wait_records-waited-requires
wait_records-waited-requires g c = let sound = (c.requires.kept.sound.going c.requires.going).sound in record { order = sound.order; room = sound.room }

pub settle_up-requires-clause-order : goal.settle_up-requires-clause-order
settle_up-requires-clause-order g c = either c.wait_records-waited.result (c.wait_records-waited.ensures.hears.sound c.args.parts.now.ring c.args.parts.now.books.dead (c.requires.kept.sound.going c.requires.going).sound).order

pub settle_up-requires-clause-last : goal.settle_up-requires-clause-last
settle_up-requires-clause-last g c =
    let v = c.args.parts.now in
    let call = c.wait_records-waited in
    durable_fits call.result v.pipeline call.new.self v.ring v.books.dead (either call.result (call.ensures.hears.sound v.ring v.books.dead (c.requires.kept.sound.going c.requires.going).sound)) (call.ensures.hears.moves v.ring v.books.dead).last c.requires.turns

pub returns : goal.returns
returns g c =
    let v = c.args.parts.now in
    let old = g.D.Disk.state c.args.disk.now in
    let new = g.D.Disk.state c.wait_records-waited.new.disk in
    let call = c.wait_records-waited in
    let w = record v { pipeline = call.new.self } in
    let moves = call.ensures.hears.moves v.ring v.books.dead in
    let called = waited g.D.Disk.tells call.result v call.new.self old new call.ensures.spends.made c.a_pipeline_call_keeps_the_store.ensures.noticed moves c.requires.kept.sound.kept.sound (call.ensures.hears.sound v.ring v.books.dead (c.requires.kept.sound.going c.requires.going).sound) call.ensures.hears.kept call.ensures.spends.spends call.ensures.hears.log call.ensures.hears.right call.ensures.cause call.ensures.due call.ensures.hears.lost call.ensures.hears.heard call.ensures.hears.owed in
    let after = ends c.a_pipeline_call_keeps_the_store.ensures.keeps c.a_pipeline_call_keeps_the_store.ensures.runs g.D.Disk.tells 0 call.result c.settle_up.result v w c.settle_up.new.parts old new (omega arith) c.requires.kept c.requires.going called c.settle_up.ensures.answer c.settle_up.ensures.parts in
    record {
      kept = after.0;
      runs = after.1;
      moves = moves_more 0 4 v c.settle_up.new.parts (omega arith) after.2;
      durable = point_is_durable g.D.Disk.tells c.settle_up.result call.result v w c.settle_up.new.parts new c.args.n (c.requires.kept.sound.going c.requires.going) after.0 c.requires.going refl c.requires.some c.requires.there c.settle_up.ensures.answer c.settle_up.ensures.parts call.ensures.durable;
      books = ap (λ (x : StoreParts). x.books) c.settle_up.ensures.parts ∙ settled_books call.result w;
      still = λ tells. ap writes_in (call.ensures.hears.log tells).log ∙ writes_noticed old.log (call.ensures.hears.log tells).tickets;
      waits = λ before then tells alone. waited_hears v c.settle_up.new.parts old new before then (v.first + (c.args.n - 1)) c.args.n (omega (arith, c.requires.some)) (c.requires.kept.sound.going c.requires.going) c.requires.going (call.ensures.only tells alone);
      asks = asks_none _ _ _ _ call.ensures.spends.spends;
    }
