use Rattle.std.proofs.Common.{◌+◌, ◌<◌, ℕ, Err, refl, sym, ap, subst, ◌∙◌, arith}
use Rattle.disk_contract.specs.declared.disk.DiskFault.{DiskFault}
use Rattle.layout_geometry.specs.Geometry.{Geometry}
use Rattle.layout_journal.specs.declared.header.Header.{Header}
use Rattle.engine_checkpoint.specs.declared.pipeline.Pipeline.{Pipeline}
use Rattle.engine_running.specs.Commits.{writes_of}
use Rattle.engine_store.specs.Committing.{WritesRecord}
use Rattle.engine_store.proofs.CommitCalls.{Failed, Laws, Succeeded}
use Rattle.engine_store.proofs.CommitSyncs.{failure, kept_success, syncs_success}
use Rattle.engine_store.proofs.Freeing.{lets_wait}
use Rattle.engine_store.proofs.LastCommitted.{forgets_record}
use Rattle.engine_store.proofs.RecordsTold.{commit_told}
use Rattle.engine_store.proofs.syncing.commit.Goals as goal

pub commit_books-committed-requires : goal.commit_books-committed-requires
commit_books-committed-requires g c =
    let sound = c.requires.kept.sound in
    let going = sound.going c.requires.going in
    record {
      kept = sound.kept;
      sound = going.sound;
      geom = sound.pipeline_geom;
      has = record {
        some = subst (λ (n : ℕ). 0 < n) (c.a_commit_has_what_the_roles_say.ensures.payloads c.args.parts.now.books sound.kept) (c.requires.may.sync.some c.requires.may.weight);
        room = c.requires.may.room;
        on_disk = c.requires.kept.size ∙ sym (ap (λ (k : Geometry). k.n) sound.ring_geom);
        free = c.requires.free;
      };
      ready = c.requires.may.ready;
      epoch_is = refl;
      next = going.number;
    }

pub returns-in-Ok : goal.returns-in-Ok
returns-in-Ok g c =
    let v = c.args.parts.now in
    let d = g.D.Disk.state c.args.disk.now in
    let call = c.commit_books-committed in
    let e = g.D.Disk.state call.new.disk in
    let going = c.requires.kept.sound.going c.requires.going in
    let laws : Laws = record {
      last = record { payload = c.the_newest_payloads_are_the_map.ensures.payload; written = c.the_newest_payloads_are_the_map.ensures.written; calm = c.the_newest_payloads_are_the_map.ensures.calm; reads = c.a_read_gives_what_was_written_last.ensures.last; live = c.the_map_needs_only_live_blocks.ensures.live };
      map = record { bits = c.the_map_has_the_bits.ensures.bits; bitmap = c.the_map_has_the_bits.ensures.bitmap; unput = c.the_map_needs_only_live_blocks.ensures.unput; freed = c.a_commit_has_what_the_roles_say.ensures.freed; live = c.the_map_needs_only_live_blocks.ensures.live; map = c.the_map_needs_only_live_blocks.ensures.map; began = c.the_map_needs_only_live_blocks.ensures.began };
      payloads = c.a_commit_has_what_the_roles_say.ensures.payloads;
      fresh = c.a_commit_has_what_the_roles_say.ensures.fresh;
      advances = c.a_call_that_stays_safe_advances.ensures.advances;
      made = c.a_call_that_stays_safe_advances.ensures.made;
    } in
    let succeeded : Succeeded g.D.Disk.tells v d e call.new.ring call.new.pipeline call.new.books c.forget_last.new.cache = record {
      kept = c.in-Ok.ensures.kept;
      right = c.in-Ok.ensures.right;
      becomes = c.in-Ok.ensures.becomes;
      ring_is = c.in-Ok.ensures.issues.ring;
      writes = c.in-Ok.ensures.writes;
      spends = c.in-Ok.ensures.issues.asks.spends;
      forgets = forgets_record (v.first + v.point) v.books call.new.books v.pipeline call.new.pipeline call.new.ring c.in-Ok.ensures.becomes going.sound.order going.number v.cache c.forget_last.new.cache c.forget_last.ensures;
      due = c.in-Ok.ensures.due;
      joins = c.in-Ok.ensures.joins;
    } in
    record {
      kept = kept_success laws g.D.Disk.tells v d e c.args.room c.requires.kept c.requires.going c.requires.may call.new.ring call.new.pipeline call.new.books c.forget_last.new.cache succeeded;
      syncs = syncs_success laws g.D.Disk.tells v d e c.args.room c.requires.kept c.requires.going c.requires.may call.new.ring call.new.pipeline call.new.books c.forget_last.new.cache succeeded;
      waits = c.in-Ok.ensures.issues.asks.spends.waits;
      writes = λ tells. (c.in-Ok.ensures.writes tells).grows;
      written = commit_told laws c.a_log_tells_its_records.ensures.more g.D.Disk.tells v d e c.requires.kept c.requires.going c.args.room c.requires.may call.new.ring call.new.pipeline call.new.books c.forget_last.new.cache succeeded;
      memory = tt;
      turns = omega (arith, ap (λ (h : Header). h.turn) c.in-Ok.ensures.becomes.written, c.in-Ok.ensures.becomes.last, going.number);
      frees = lets_wait v call.new.books call.new.pipeline call.new.ring (v.first + v.point) c.requires.kept.sound.kept c.a_freed_block_waits.ensures.held refl c.in-Ok.ensures.becomes (record v { ring = call.new.ring; pipeline = call.new.pipeline; books = call.new.books; cache = c.forget_last.new.cache; point = v.point + 1 }) refl refl refl;
    }

pub returns-in-Err : goal.returns-in-Err
returns-in-Err g c =
    let v = c.args.parts.now in
    let d = g.D.Disk.state c.args.disk.now in
    let call = c.commit_books-committed in
    let e = g.D.Disk.state call.new.disk in
    let laws : Laws = record {
      last = record { payload = c.the_newest_payloads_are_the_map.ensures.payload; written = c.the_newest_payloads_are_the_map.ensures.written; calm = c.the_newest_payloads_are_the_map.ensures.calm; reads = c.a_read_gives_what_was_written_last.ensures.last; live = c.the_map_needs_only_live_blocks.ensures.live };
      map = record { bits = c.the_map_has_the_bits.ensures.bits; bitmap = c.the_map_has_the_bits.ensures.bitmap; unput = c.the_map_needs_only_live_blocks.ensures.unput; freed = c.a_commit_has_what_the_roles_say.ensures.freed; live = c.the_map_needs_only_live_blocks.ensures.live; map = c.the_map_needs_only_live_blocks.ensures.map; began = c.the_map_needs_only_live_blocks.ensures.began };
      payloads = c.a_commit_has_what_the_roles_say.ensures.payloads;
      fresh = c.a_commit_has_what_the_roles_say.ensures.fresh;
      advances = c.a_call_that_stays_safe_advances.ensures.advances;
      made = c.a_call_that_stays_safe_advances.ensures.made;
    } in
    let failed : Failed g.D.Disk.tells v d e call.new.ring c.in-Err.field-0 = record {
      right = c.in-Err.ensures.right;
      ring_is = c.in-Err.ensures.issues.ring;
      writes = λ t. subst (λ (q : Pipeline). WritesRecord {A = Unit {0}} {E = DiskFault} (Err c.in-Err.field-0) (writes_of v.ring v.pipeline.header.epoch (v.first + v.point) v.books.changes) v.books v.pipeline q d e) c.in-Err.ensures.back.1 (c.in-Err.ensures.writes t);
      spends = c.in-Err.ensures.issues.asks.spends;
      cause = c.in-Err.ensures.issues.asks.cause;
    } in
    let after = failure laws g.D.Disk.tells v d e c.args.room c.requires.kept c.requires.going c.requires.may call.new.ring c.in-Err.field-0 failed call.new.pipeline call.new.books c.in-Err.ensures.back.1 c.in-Err.ensures.back.0 in
    record {
      kept = after.0;
      syncs = after.1;
      waits = c.in-Err.ensures.issues.asks.spends.waits;
      writes = λ tells. (c.in-Err.ensures.writes tells).grows;
      written = λ ticks tells. tt;
      memory = tt;
      turns = omega (arith, ap (λ (q : Pipeline). q.written.turn) c.in-Err.ensures.back.1, ap (λ (q : Pipeline). q.last) c.in-Err.ensures.back.1);
      frees = tt;
    }
