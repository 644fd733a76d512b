-- The transaction is the last one of the committed, and keeps its record.
use Rattle.std.proofs.Common.{◌≡◌, ◌||◌, ℕ, ◌+◌, ◌<◌, true, List, [], ◌∷◌, ◌++◌, length, deque_len, deque_capacity, ap, ap₂, ◌∙◌, refl, sym, arith}
use Rattle.std.proofs.lemmas.Bool.{cond-true}
use Rattle.crash_argument.specs.HomeTest.{is_one_of}
use Rattle.crash_argument.specs.Ledger.{next_number}
use Rattle.engine_notes.specs.Notes.{is_expected}
use Rattle.engine_running.specs.Rows.{put_of}
use Rattle.engine_running.specs.Record.{written_of}
use Rattle.engine_running.specs.declared.put.Put.{Put}
use Rattle.engine_checkpoint.specs.Kept.{of_committed}
use Rattle.engine_checkpoint.specs.Newest.{spot_after, spot_of}
use Rattle.engine_checkpoint.proofs.Accepted.{same_after, order_joined, room_joined, owed_joined, taken_joined, kept_joined}
use Rattle.engine_checkpoint.proofs.Index.{index_joins}
use Rattle.engine_checkpoint.proofs.Accepts.{agrees_accepted}
use Rattle.engine_checkpoint.proofs.Expected.{with_old}
use Rattle.engine_checkpoint.proofs.NoticeRows.{all_expected}
use Rattle.engine_checkpoint.proofs.pipeline.accept.Goals as goal

pub returns : goal.returns
returns c =
    let v = c.args.pipeline.now in
    let tx = c.args.committed in
    let free : deque_len v.committed < deque_capacity v.committed = omega (arith, c.requires.room.committed, c.requires.ready.records) in
    let out = record v { committed = c.push_back.new.self; last = tx.number; unplaced = v.unplaced + c.payload_count.result; newest = c.add.new.self; ready = c.ready_after-pipeline.result } in
    let joined : c.push_back.new.self.items ≡ v.committed.items ++ tx ∷ [] = c.push_back.ensures.items ∙ cond-true _ _ _ (c.push_back.ensures.succeeds free) in
    let unplaced = ap (λ (n : ℕ). v.unplaced + n) c.payload_count.ensures in
    let expected : (u : ℕ) → is_expected u c.expect_all.new.notes.notes ≡ (is_one_of u tx.tickets.items || is_expected u v.notes.notes) = λ u. c.expect_all.ensures.expected u ∙ ap (λ (ts : List ℕ). is_one_of u ts || is_expected u v.notes.notes) c.as_slice.ensures.value in
    let still : (u : ℕ) → is_expected u v.notes.notes ≡ true → is_expected u c.expect_all.new.notes.notes ≡ true = λ u e. c.expect_all.ensures.expected u ∙ with_old (is_one_of u c.as_slice.result.now) (is_expected u v.notes.notes) e in
    let newest : (b : ℕ) → spot_of c.add.new.self b ≡ spot_after (spot_of v.newest b) tx.number tx.payloads.items tx.fresh.items tx.freed.items b = λ b. c.add.ensures.at b ∙ same_after (spot_of v.newest b) tx.number b _ _ _ _ _ _ c.as_slice-2.ensures.value c.as_slice-3.ensures.value c.as_slice-4.ensures.value in
    record {
      agrees = λ s base old new l m t floor epoch ring waiting taken running a safe was.
          let n = next_number l in
          let w = written_of epoch n ring.next running.paid running.laid in
          agrees_accepted base old new l v ring waiting taken a w m tx out c.expect_all.new.notes joined refl
          (record {
            number_is = sym was.made.number;
            place_is = sym was.made.place;
            count_is = sym was.made.count;
            paid = λ b. c.a_record_keeps_its_puts.ensures.paid epoch n ring.next running.paid running.laid b ∙ ap (put_of b) (sym was.made.payloads);
            laid = λ b. c.a_record_keeps_its_puts.ensures.laid running.laid b ∙ ap (is_one_of b) (sym was.made.fresh);
          })
          was.freed (λ k u is. c.records_stand_in_order.ensures.numbers base old l k u safe.keeps is) was.noticed c.expect_all.ensures.noticed still
          (all_expected tx.tickets.items c.as_slice.result.now v.notes.notes c.expect_all.new.notes.notes c.expect_all.ensures.expected (λ u e. ap (is_one_of u) c.as_slice.ensures.value ∙ e))
          expected was.tickets was.joined.joined was.joined.idle was.one was.sent;
      accepts = record {
        committed = joined;
        expected = expected;
        noticed = c.expect_all.ensures.noticed;
        newest = newest;
        rest = ap₂ (λ n r. record v { committed = c.push_back.new.self; notes = c.expect_all.new.notes; last = tx.number; unplaced = v.unplaced + n; newest = c.add.new.self; ready = r }) c.payload_count.ensures c.ready_after-pipeline.ensures;
      };
      order = order_joined v out tx c.expect_all.new.notes joined c.requires.order c.requires.next refl unplaced c.requires.has c.requires.places c.requires.below;
      room = room_joined v out tx c.expect_all.new.notes joined c.requires.order unplaced c.ready_after-pipeline.ensures c.requires.ready.records c.requires.ready.writes c.requires.ready.payloads
          (c.push_back.ensures.len ∙ cond-true _ _ _ (c.push_back.ensures.succeeds free)) c.push_back.ensures.capacity
          (omega (arith, c.add.ensures.spare, ap (λ (ps : List Put). length ps) c.as_slice-2.ensures.value)) (omega (arith, c.expect_all.ensures.left, ap (λ (ts : List ℕ). length ts) c.as_slice.ensures.value))
          still c.requires.room;
      index = index_joins v (record out { notes = c.expect_all.new.notes }) (of_committed tx) (kept_joined v out tx c.expect_all.new.notes joined) newest c.requires.index;
      kept = kept_joined v out tx c.expect_all.new.notes joined;
      taken = taken_joined v out tx c.expect_all.new.notes joined;
      owed = owed_joined v out tx c.expect_all.new.notes joined c.requires.order c.requires.next;
    }
