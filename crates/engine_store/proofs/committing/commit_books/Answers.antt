use Rattle.std.proofs.Common.{◌+◌, ◌≤◌, IsTrue, length, refl, sym, ap, subst, ◌∙◌, arith}
use Rattle.layout_journal.specs.Ring.{RingPlaces, with_places}
use Rattle.crash_argument.specs.Writes.{AddsFront, AddsWrites}
use Rattle.engine_books.specs.Books.{TransactionBooks}
use Rattle.engine_books.specs.Kept.{AreKept}
use Rattle.engine_running.specs.Running.{Changes}
use Rattle.engine_running.specs.Commits.{HasAllFor, places_for, writes_of}
use Rattle.engine_checkpoint.specs.Joining.{IsReadyFor}
use Rattle.engine_store.specs.Committing.{BecomesRecord}
use Rattle.engine_store.proofs.BooksCommit.{are_below, becomes_record, books_right, books_safe, given_back, kept_again, sealed_dead}
use Rattle.engine_store.proofs.FirstOpen.{due_then}
use Rattle.engine_store.proofs.Joining.{front_written, record_written}
use Rattle.engine_store.proofs.committing.commit_books.Goals as goal

pub commit_next-requires : goal.commit_next-requires
commit_next-requires g c =
    let v = c.args.books.now in
    let p = c.args.pipeline.now in
    let ring : RingPlaces = c.args.ring.now in
    let blocks = (g.D.Disk.state c.args.disk.now).blocks in
    let q = c.take_running-running.result in
    let is = c.take_running-running.ensures.running in
    let sound = c.requires.sound in
    let may = c.a_running_transaction_may_be_the_next_record.ensures in
    record {
      commit = record {
        has = subst (λ (x : Changes). HasAllFor blocks x c.args.room ring) (sym is) c.requires.has;
        small = subst (λ (x : Changes). length x.paid + length x.laid ≤ 2097152) (sym is) (may.small v c.requires.kept);
        below = are_below v q blocks p ring (λ x. x.laid) is c.requires.has.on_disk sound.goes_with.ring_geom c.requires.geom (may.below v c.requires.kept).1;
      };
      paid_below = are_below v q blocks p ring (λ x. x.paid) is c.requires.has.on_disk sound.goes_with.ring_geom c.requires.geom (may.below v c.requires.kept).0;
      order = sound.order;
      room = sound.room;
      index = sound.index;
      ready = subst (λ (x : Changes). IsReadyFor (length x.laid + places_for x) (length x.paid) p.ready) (sym is) c.requires.ready;
      next = c.requires.next;
      ring_geom = sound.goes_with.ring_geom;
      taken = sound.goes_with.taken;
    }

pub returns-in-Ok : goal.returns-in-Ok
returns-in-Ok g c =
    let v = c.args.books.now in
    let e = c.take_running-running.new.self in
    let w = c.sealed.new.self in
    let q = c.take_running-running.result in
    let p = c.args.pipeline.now in
    let then_p = c.commit_next.new.pipeline in
    let ring : RingPlaces = c.args.ring.now in
    let then_ring : RingPlaces = c.commit_next.new.ring in
    let d = g.D.Disk.state c.args.disk.now in
    let then_d = g.D.Disk.state c.commit_next.new.disk in
    let number = c.args.number in
    let is = c.take_running-running.ensures.running in
    let did = c.in-Ok.ensures in
    let became = c.in-Ok.ensures.becomes in
    let writes = c.a_record_makes_so_many_writes.ensures in
    let adds = λ (tells : IsTrue g.D.Disk.tells). subst (λ (x : Changes). AddsWrites (writes_of ring c.args.epoch number x) became.committed.tickets.items d.log then_d.log) is (became.adds tells) in
    let becomes : BecomesRecord number v w p then_p then_ring =
    becomes_record v e w q number p then_p ring then_ring became.committed
    c.take_running-running.ensures.rest is c.take_running-running.ensures.empty c.sealed.ensures.value became.made became.accepts did.issues.ring became.last became.owed
    (c.a_commit_stays_sound.ensures.sound p then_p ring v.dead became.committed (places_for q) number c.requires.sound became.accepts c.requires.next became.last became.order became.room became.index
    (ap (λ (r : RingPlaces). r.taken) (sym did.issues.ring) ∙ became.taken)) in
    record {
      issues = record { ring = did.issues.ring ∙ ap (λ (x : Changes). with_places ring (places_for x)) is; asks = record { spends = did.issues.asks.spends; cause = λ tells. tt } };
      kept = c.sealed.ensures.kept v.changes (kept_again v e c.take_running-running.ensures.rest c.requires.kept);
      right = λ tells.
          books_right c.a_running_transaction_may_be_committed.ensures.is c.a_running_transaction_may_be_committed.ensures.taken c.a_running_transaction_may_be_committed.ensures.freed
          d.base d.log c.args.epoch number p ring v c.requires.kept c.requires.sound c.requires.geom c.requires.has.free c.requires.epoch_is c.requires.next
          c.a_commit_stays_right.ensures.right then_d.base then_d.log then_p then_ring became.committed became.accepts q is (did.agrees tells)
          w.dead w.changes.taken
          (sealed_dead v e w number c.take_running-running.ensures.rest c.sealed.ensures.value)
          (ap (λ (u : TransactionBooks). u.changes.taken) c.sealed.ensures.value ∙ c.take_running-running.ensures.empty.taken);
      becomes = becomes;
      back = tt;
      writes = λ tells.
          record_written writes.size writes.accepted writes.failed v p then_p ring c.args.epoch number d then_d
          c.requires.kept (c.requires.sound.goes_with.ring_geom ∙ c.requires.geom) did.issues.asks.spends.same.base _ tt became.committed.tickets.items (adds tells) becomes.kept becomes.owed;
      joins = λ tells. (
        became.committed.tickets.items,
        record { committed = became.committed; joined = became.accepts.committed; number_is = became.made.number; tickets_are = refl; expected = became.accepts.expected; noticed = became.accepts.noticed },
        adds tells,
      );
      due = λ tells. due_then became.committed p then_p became.accepts _ d.log then_d.log (omega (arith, writes.size ring.geom c.args.epoch number ring.next q.paid q.laid)) (became.adds tells);
    }

pub returns-in-Err : goal.returns-in-Err
returns-in-Err g c =
    let v = c.args.books.now in
    let e = c.take_running-running.new.self in
    let q = c.take_running-running.result in
    let p = c.args.pipeline.now in
    let ring : RingPlaces = c.args.ring.now in
    let d = g.D.Disk.state c.args.disk.now in
    let then_d = g.D.Disk.state c.commit_next.new.disk in
    let is = c.take_running-running.ensures.running in
    let did = c.in-Err.ensures in
    let writes = c.a_record_makes_so_many_writes.ensures in
    let back = given_back v e c.give_back.new.self q c.in-Err.running c.take_running-running.ensures.rest is did.back.0 c.give_back.ensures in
    record {
      issues = record { ring = did.issues.ring ∙ ap (λ (x : Changes). with_places ring (places_for x)) is; asks = record { spends = did.issues.asks.spends; cause = did.issues.asks.cause } };
      kept = subst AreKept (sym back) c.requires.kept;
      right = λ tells.
          books_safe c.a_running_transaction_may_be_committed.ensures.is c.a_running_transaction_may_be_committed.ensures.taken c.a_running_transaction_may_be_committed.ensures.freed
          d.base d.log c.args.epoch c.args.number p ring v c.requires.kept c.requires.sound c.requires.geom c.requires.has.free c.requires.epoch_is c.requires.next
          then_d.base then_d.log q is (did.agrees tells);
      becomes = tt;
      back = (back, did.back.1);
      writes = λ tells.
          front_written writes.size writes.accepted writes.failed v p c.commit_next.new.pipeline ring c.args.epoch c.args.number d then_d
          c.requires.kept (c.requires.sound.goes_with.ring_geom ∙ c.requires.geom) did.issues.asks.spends.same.base _ _ did.back.1
          (subst (λ (x : Changes). AddsFront (writes_of ring c.args.epoch c.args.number x) d.log then_d.log) is (did.front tells));
      joins = λ tells. tt;
      due = λ tells. tt;
    }
