-- The record that a sync writes, as the log tells it: behind a commit, behind a drain with a commit, and behind a wait.
use Rattle.std.proofs.Common.{◌≡◌, ⊎_elim, ℕ, ◌+◌, ◌<◌, ◌≤◌, Bool, false, IsTrue, List, [], ◌∷◌, ◌++◌, length, map, take, Some, refl, sym, ◌∙◌, ap, ap₂, subst, arith, length-append}
use Rattle.std.proofs.Math.Seq.{take-append_seam}
use Rattle.std.proofs.lemmas.List.{length-map, take-append-le}
use Rattle.std.proofs.lemmas.Option.{same_Some}
use mathlib.Core.Path.{subst₂}
use Rattle.base_types.specs.Seal.{Blocks}
use Rattle.disk_contract.specs.declared.event.Event.{Event}
use Rattle.disk_contract.specs.Cell.{is_accepted}
use Rattle.disk_contract.specs.Disk.{State, Grows, writes_in}
use Rattle.layout_journal.specs.declared.record.Commit.{Commit}
use Rattle.layout_journal.specs.Layout.{descriptor_count}
use Rattle.layout_journal.specs.Ring.{RingPlaces}
use Rattle.layout_journal.specs.Run.{Record, commit_says}
use Rattle.engine_cache.specs.Cache.{Cache}
use Rattle.crash_argument.specs.Ledger.{Ledger, WrittenRecord, next_number}
use Rattle.crash_argument.specs.Points.{MountedSession, IsSafe, records_told}
use Rattle.crash_argument.specs.Steps.{with_record}
use Rattle.engine_running.specs.Record.{fresh_entry, payload_entry, record_of, written_of}
use Rattle.engine_running.specs.declared.commit.CommitRoom.{CommitRoom}
use Rattle.engine_checkpoint.specs.declared.pipeline.Pipeline.{Pipeline}
use Rattle.engine_blocks.specs.Running.{Running, fresh_blocks, payloads}
use Rattle.engine_blocks.specs.State as blocks
use Rattle.engine_blocks.specs.Effects.{FitsRing, RunsPipeline, WritesItsRecord}
use Rattle.engine_books.specs.Books.{TransactionBooks, map_of}
use Rattle.engine_store.specs.declared.parts.StoreParts.{StoreParts}
use Rattle.engine_running.specs.Commits.{writes_of}
use Rattle.engine_store.specs.Syncing.{MayCommit}
use Rattle.engine_store.specs.Told.{IsKeptOn, IsToldBy, awaited_in, session_of, store_state}
use Rattle.engine_store.proofs.Awaiting.{awaited_point, joined_awaits}
use Rattle.engine_store.proofs.CommitSets.{same_by_some}
use Rattle.engine_store.proofs.CommitCalls.{Laws, Succeeded, began_newest, ledger_then, session_then}
use Rattle.engine_store.proofs.Logs.{longer}
use Rattle.engine_store.proofs.TicketLogs.{grows_by}

-- what a law says of a ledger with one record more
abbrev pub MoreLaw : Type 0
MoreLaw = (s : MountedSession) (base : Blocks) (log more : List Event) (l : Ledger) (w : WrittenRecord) (m : Blocks) (t floor : ℕ) → IsSafe s base log l t floor → (from low : ℕ) → IsSafe s base (log ++ more) (with_record l w m) from low
    → records_told s (log ++ more) ≡ records_told s log ++ commit_says s.epoch w.says ∷ []

-- A log that goes on.

front_is : (old new : List Event) → Grows old new → take (length old) new ≡ old
front_is old new grows = ap (take (length old)) grows.log ∙ take-append_seam old grows.more

same_front : (begun : ℕ) (old new : List Event) → begun ≤ length old → Grows old new → take begun new ≡ take begun old
same_front begun old new le grows = ap (take begun) grows.log ∙ take-append-le begun old grows.more le

-- A commit that succeeded.
module _ (laws : Laws) (more_told : MoreLaw) (tells : Bool) (v : StoreParts) (d e : State) (k : IsKeptOn tells v d) (going : v.stopped ≡ false) (r : CommitRoom) (may : MayCommit v r) (ring : RingPlaces) (q : Pipeline) (w : TransactionBooks) (c : Cache) (s : Succeeded tells v d e ring q w c) where
  abbrev parts : StoreParts
  parts = record v { ring = ring; pipeline = q; books = w; cache = c; point = v.point + 1 }

  -- what the record says
  abbrev says : Record
  says = record_of (v.first + v.point) v.ring.next v.books.changes.paid v.books.changes.laid

  abbrev commit : Commit
  commit = commit_says v.pipeline.header.epoch says

  paid_is : commit.payloads ≡ length v.books.changes.paid
  paid_is = length-map v.books.changes.paid payload_entry

  laid_is : commit.fresh ≡ length v.books.changes.laid
  laid_is = length-map v.books.changes.laid fresh_entry

  heads_are : commit.descriptors ≡ descriptor_count (length v.books.changes.paid + length v.books.changes.laid)
  heads_are = ap descriptor_count (length-append (map payload_entry v.books.changes.paid) (map fresh_entry v.books.changes.laid) ∙ ap₂ (λ m n. m + n) paid_is laid_is)

  same_session : session_of parts ≡ session_of v
  same_session = session_then v parts (ap (λ (x : TransactionBooks). x.geom) s.becomes.books) (ap (λ h. h.epoch) s.becomes.header) refl refl

  grows : IsTrue tells → Grows d.log e.log
  grows t = grows_by d.log e.log (s.writes t).grows

  told_more : IsTrue tells → records_told (session_of parts) e.log ≡ records_told (session_of v) d.log ++ commit ∷ []
  told_more t = same_by_some (records_told (session_of parts) e.log) (records_told (session_of v) d.log ++ commit ∷ []) (k.told t) (λ (x : (l : Ledger) × IsToldBy v d l).
      let l = x.0 in
      let told = x.1 in
      let goes = told.going going in
      let after = s.right t (session_of v) l (length d.log) v.floor (began_newest laws v d l k.sound.kept told going may.sync.none_bare) may.sync.none_bare (record { safe = told.safe; agrees = goes.agrees; serves = goes.serves }) in
      let safe = subst₂ (λ (b : Blocks) (log : List Event). IsSafe (session_of v) b log (ledger_then v l) (length d.log) v.floor) s.spends.same.base (grows t).log after.safe in
      ap (λ (z : MountedSession). records_told z e.log) same_session ∙ ap (records_told (session_of v)) (grows t).log
      ∙ more_told (session_of v) d.base d.log (grows t).more l (written_of v.pipeline.header.epoch (v.first + v.point) v.ring.next v.books.changes.paid v.books.changes.laid) (map_of v.books (l.map_before (next_number l))) (length d.log) v.floor told.safe (length d.log) v.floor safe)

  awaits_new : IsTrue tells → (t : ℕ) → awaited_in parts (v.point + 1) t → is_accepted t d.log ≡ false
  awaits_new on t waits = ⊎_elim (λ was. absurd (omega (arith, (awaited_point v (v.point + 1) t (k.sound.going going) was).1))) (λ late. late.1)
      (joined_awaits (v.first + v.point) (writes_of v.ring v.pipeline.header.epoch (v.first + v.point) v.books.changes) (s.joins on).0 v parts d.log e.log (s.joins on).1 (s.joins on).2 refl refl going (v.point + 1) t waits)

  pub commit_told : (ticks : ℕ) → IsTrue tells → WritesItsRecord (store_state v ticks d) (store_state parts ticks e)
  commit_told ticks t = record {
    some = λ some. record {
      begun = length d.log;
      from = omega arith;
      upto = longer d.log e.log (grows t);
      commit = commit;
      payloads = paid_is ∙ sym (laws.payloads v.books k.sound.kept);
      fresh = laid_is ∙ sym (laws.fresh v.books k.sound.kept);
      descriptors = heads_are ∙ ap₂ (λ m n. descriptor_count (m + n)) (sym paid_is) (sym laid_is);
      told = λ before is. ap (λ (cs : List Commit). Some cs) (told_more t ∙ ap (λ cs. cs ++ commit ∷ []) (same_Some (records_told (session_of v) d.log) before is));
      writes = omega (arith, (s.writes t).writes, s.becomes.owed, heads_are, paid_is, laid_is, ap writes_in (front_is d.log e.log (grows t)));
      awaits = λ u waits. ap (is_accepted u) (front_is d.log e.log (grows t)) ∙ awaits_new t u waits;
      fits = λ fits. refl;
    };
    none = λ none. absurd (omega (arith, none, may.weight));
  }

-- A drain and then the commit, where the record didn't fit.

pub record_behind : (tells : Bool) (old mid new : blocks.State) → IsTrue tells → RunsPipeline tells false old mid → 0 < old.books.running.weight → (FitsRing old.books → ⊥) → WritesItsRecord mid new → WritesItsRecord old new
record_behind tells old mid new t run heavy full w = record {
  some = λ some.
      let x = w.some (subst (λ (r : Running). 0 < r.weight) (sym run.pipeline.running) some) in
      record {
        begun = x.begun;
        from = omega (arith, x.from, longer old.crash.log mid.crash.log (run.crash t).grows);
        upto = x.upto;
        commit = x.commit;
        payloads = x.payloads ∙ ap₂ payloads run.pipeline.geom run.pipeline.running;
        fresh = x.fresh ∙ ap₂ fresh_blocks run.pipeline.geom run.pipeline.running;
        descriptors = x.descriptors;
        told = λ before is. x.told before (run.told t ∙ is);
        writes = x.writes;
        awaits = x.awaits;
        fits = λ fits. absurd (full fits);
      };
  none = λ none. absurd (omega (arith, none, heavy));
}

-- A wait behind a sync.

pub record_before : (tells failed : Bool) (old mid new : blocks.State) → IsTrue tells → RunsPipeline tells failed mid new → writes_in new.crash.log ≡ writes_in mid.crash.log → WritesItsRecord old mid → WritesItsRecord old new
record_before tells failed old mid new t run still w = record {
  some = λ some.
      let x = w.some some in
      let grows = (run.crash t).grows in
      let front = same_front x.begun mid.crash.log new.crash.log x.upto grows in
      record {
        begun = x.begun;
        from = x.from;
        upto = omega (arith, x.upto, longer mid.crash.log new.crash.log grows);
        commit = x.commit;
        payloads = x.payloads;
        fresh = x.fresh;
        descriptors = x.descriptors;
        told = λ before is. run.told t ∙ x.told before is;
        writes = omega (arith, still, x.writes, ap writes_in front);
        awaits = λ u waits. ap (is_accepted u) front ∙ x.awaits u (was_awaited u waits);
        fits = x.fits;
      };
  none = λ none. let x = w.none none in (run.told t ∙ x.0, still ∙ x.1);
}
  where
    was_awaited : (u : ℕ) → new.crash.awaits new.books.point u → mid.crash.awaits mid.books.point u
    was_awaited u waits = ⊎_elim (λ was. subst (λ n. mid.crash.awaits n u) run.pipeline.point was) (λ since. absurd (omega (arith, since.point, run.pipeline.point))) ((run.crash t).awaits new.books.point u waits)
