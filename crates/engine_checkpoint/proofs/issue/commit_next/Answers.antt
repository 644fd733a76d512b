-- The record is in the ledger, and its transaction is the last one of the committed.
use Rattle.std.proofs.Common.{◌≡◌, ℕ, ◌++◌, List, [], length, ap, sym, ◌∙◌, subst, arith, refl}
use Rattle.std.proofs.lemmas.Bool.Decides.{nat_tests}
use Rattle.std.proofs.lemmas.List.{length-map}
use Rattle.base_types.specs.Seal.{Blocks}
use Rattle.layout_journal.specs.Ring.{RingPlaces, with_places}
use Rattle.layout_journal.specs.Run.{places}
use Rattle.crash_argument.specs.Ledger.{next_number}
use Rattle.crash_argument.specs.OnePending.{HasOnePending}
use Rattle.crash_argument.specs.PipelineData.{with_committed, pairs_of}
use Rattle.crash_argument.specs.Recording.{IsInLedger}
use Rattle.crash_argument.specs.Steps.{with_record}
use Rattle.crash_argument.specs.Points.{IsSafe}
use Rattle.engine_running.specs.declared.put.Put.{Put}
use Rattle.engine_running.specs.Record.{record_of, written_of}
use Rattle.engine_running.specs.Commits.{IsCommitOf, AreNotOnTheirWay, places_for}
use Rattle.engine_checkpoint.specs.declared.pipeline.Pipeline.{Pipeline}
use Rattle.engine_checkpoint.specs.Agree.{PipelineAgrees, HasFreed, data_of}
use Rattle.engine_checkpoint.proofs.Apart.{new_tickets}
use Rattle.engine_checkpoint.proofs.HomeSent.{sent_committed}
use Rattle.engine_checkpoint.proofs.issue.commit_next.Goals as goal

pub accept-requires : goal.accept-requires
accept-requires g c = grind (arith, nat_tests, length-map)

pub returns : goal.returns
returns g c =
    let q = c.args.running in
    let tx = c.in-Ok.committed in
    let v = c.args.pipeline.now in
    let ring : RingPlaces = c.args.ring.now in
    let base = (g.D.Disk.state c.commit.new.disk).base in
    let old = (g.D.Disk.state c.args.disk.now).log in
    let new = (g.D.Disk.state c.commit.new.disk).log in
    let made = c.in-Ok.ensures.made in
    let joins = c.accept.ensures in
    let count : tx.count ≡ places_for q = made.count in
    record {
      issues = record { ring = c.in-Ok.ensures.issues.ring; asks = record { spends = c.in-Ok.ensures.issues.asks.spends; cause = λ tells. tt } };
      agrees = λ tells s l m t floor waiting taken safe a may in_taken freed.
          let p = data_of v ring waiting in
          let is_next : c.args.number ≡ next_number l = may.is_next in
          let left = c.in-Ok.ensures.leaves tells s l p m t floor a.ring_geom may a.idle a.agree safe in
          let off : AreNotOnTheirWay old p q.laid = λ i put is. (a.free put.block (in_taken i put is)).1 in
          let one = c.in-Ok.ensures.one tells s l p m t floor a.ring_geom may a.agree safe a.one off in
          let there = subst (λ (bs : Blocks). PipelineAgrees bs old l v ring waiting taken) (sym c.in-Ok.ensures.issues.asks.spends.same.base) a in
          let safe_there = subst (λ (bs : Blocks). IsSafe s bs old l t floor) (sym c.in-Ok.ensures.issues.asks.spends.same.base) safe in
          let joined = joins.agrees s base old new l m t floor c.args.epoch ring waiting taken q there safe_there
          (record {
            made = subst (λ n. IsCommitOf q n ring.next tx) is_next made;
            noticed = λ u. c.noticed_tickets_stay_so.ensures _ _ old new u (c.in-Ok.ensures.log tells);
            tickets = new_tickets _ tx.tickets.items old new (c.in-Ok.ensures.log tells);
            freed = subst (λ (fs : List ℕ). HasFreed l m fs) (sym made.freed) freed;
            joined = subst (λ n. IsInLedger s base new l p (written_of c.args.epoch n ring.next q.paid q.laid) m t floor tx.tickets.items) is_next left;
            one = subst (λ n. (freed : List ℕ) → HasOnePending base new (with_record l (written_of c.args.epoch n ring.next q.paid q.laid) m) (with_committed p l (written_of c.args.epoch n ring.next q.paid q.laid) tx.tickets.items freed) []) is_next one;
            sent = sent_committed l.geom ring.geom a.ring_geom safe.keeps.ring c.args.epoch c.args.number ring.next q.paid q.laid tx.tickets.items old new p.home (c.in-Ok.ensures.log tells) off a.sent;
          }) in
          let numbered = subst (λ n. PipelineAgrees base new (with_record l (written_of c.args.epoch n ring.next q.paid q.laid) m) c.accept.new.pipeline (with_places ring (places (record_of n ring.next q.paid q.laid))) (waiting ++ pairs_of n tx.freed.items) []) (sym is_next) joined in (
            left.safe,
            subst (λ (r : RingPlaces). PipelineAgrees base new (with_record l (written_of c.args.epoch c.args.number ring.next q.paid q.laid) m) c.accept.new.pipeline r (waiting ++ pairs_of c.args.number q.freed) []) (sym c.in-Ok.ensures.issues.ring)
                (subst (λ (fs : List ℕ). PipelineAgrees base new (with_record l (written_of c.args.epoch c.args.number ring.next q.paid q.laid) m) c.accept.new.pipeline (with_places ring (places (record_of 0 0 q.paid q.laid))) (waiting ++ pairs_of c.args.number fs) []) made.freed numbered),
          );
      becomes = record {
        committed = tx;
        made = made;
        accepts = joins.accepts;
        adds = c.in-Ok.ensures.log;
        order = joins.order;
        room = joins.room;
        index = joins.index;
        taken = omega (arith, ap (λ (r : RingPlaces). r.taken) c.in-Ok.ensures.issues.ring, c.requires.taken, count, joins.taken);
        last = ap (λ (w : Pipeline). w.last) joins.accepts.rest ∙ made.number;
        owed = omega (arith, joins.owed, ap (λ (ps : List Put). length ps) made.payloads);
      };
      back = tt;
      front = λ tells. tt;
    }

pub returns-in-Err : goal.returns-in-Err
returns-in-Err g c = record {
  issues = record { ring = c.in-Err.ensures.issues.ring; asks = record { spends = c.in-Err.ensures.issues.asks.spends; cause = c.in-Err.ensures.issues.asks.cause } };
  agrees = λ tells s l m t floor waiting taken safe a may in_taken freed. c.in-Err.ensures.leaves tells s l (data_of c.args.pipeline.now c.args.ring.now waiting) m t floor a.ring_geom may a.idle a.agree safe;
  becomes = tt;
  back = (c.in-Err.ensures.back, refl);
  front = c.in-Err.ensures.log;
}
