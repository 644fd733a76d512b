-- The record of the transaction is the next one, and its parts are issued.
use Rattle.std.proofs.Common.{◌<◌, ◌≤◌, ◌+◌, ◌++◌, Bool, IsTrue, ℕ, [], List, length, vec_capacity, refl, ◌∙◌, ap, sym, subst, arith}
use Rattle.layout_geometry.specs.Geometry.{Geometry}
use Rattle.layout_journal.specs.Ring.{with_places}
use Rattle.layout_journal.specs.Run.{entries_fit, places}
use Rattle.crash_argument.specs.Ledger.{WrittenRecord}
use Rattle.engine_running.specs.declared.put.Put.{Put}
use Rattle.engine_running.specs.Record.{record_of, written_of, IsTransaction}
use Rattle.crash_argument.specs.Writes.{AddsFront, AddsWrites}
use Rattle.engine_running.specs.Writes.{record_writes}
use Rattle.engine_running.specs.Commits.{RecordLeaves}
use Rattle.engine_running.specs.Running.{Changes}
use Rattle.engine_running.proofs.spelling.Spelled.{is_next}
use Rattle.engine_running.proofs.logs.Outcomes.{err_cause, err_left, ok_left, err_adds, ok_adds, ok_holds, same_size, same_written, same_writes}
use Rattle.base_types.specs.Seal.{Blocks}
use Rattle.disk_contract.specs.Cell.{cell_of}
use Rattle.disk_contract.specs.Disk.{OnlyWrites}
use Rattle.crash_argument.specs.Steps.{with_record}
use Rattle.crash_argument.specs.OnePending.{HasOnePending}
use Rattle.crash_argument.specs.PipelineData.{with_committed}
use Rattle.engine_running.proofs.pending.KeepsOne.{keeps_one, keeps_one_lost}
use Rattle.engine_running.proofs.running.Running.commit.Goals as goal

pub take-place-requires : goal.take-place-requires
take-place-requires g c = omega (arith, c.requires.has.free, c.places_of-count.ensures 0 0 c.args.self.paid c.args.self.laid (ap (λ (l : List Put). length l) (sym c.payloads-paid.ensures)) (ap (λ (l : List Put). length l) (sym c.fresh-laid.ensures)))

pub issue_record-requires-clause-room : goal.issue_record-requires-clause-room
issue_record-requires-clause-room g c = subst (λ (ls : List Put). length ls + places (record_of 0 0 c.payloads-paid.result.now ls) ≤ vec_capacity c.args.room.tickets) (sym c.fresh-laid.ensures)
    (subst (λ (ps : List Put). length c.args.self.laid + places (record_of 0 0 ps c.args.self.laid) ≤ vec_capacity c.args.room.tickets) (sym c.payloads-paid.ensures) c.requires.has.room.tickets)

pub returns-then-is_err : goal.returns-then-is_err
returns-then-is_err g c =
    let added = λ (tells : IsTrue g.D.Disk.tells).
    let same = same_writes c.geom-geom.result c.args.ring.now.geom c.args.epoch c.args.number c.take-place.result c.args.ring.now.next c.payloads-paid.result.now c.args.self.paid c.fresh-laid.result.now c.args.self.laid c.geom-geom.ensures c.take-place.ensures.first c.payloads-paid.ensures c.fresh-laid.ensures in
    subst (λ (ws : List (ℕ × List ℕ)). AddsFront ws (g.D.Disk.state c.args.disk.now).log (g.D.Disk.state c.issue_record.new.disk).log) same (err_adds _ c.issue_record.result _ _ _ _ (sym c.is_err.ensures.value ∙ c.if-is_err.true) (c.issue_record.ensures.log tells)) in
    record {
      issues = record { ring = c.take-place.ensures.places ∙ ap (with_places c.args.ring.now) (c.places_of-count.ensures 0 0 c.args.self.paid c.args.self.laid (ap (λ (l : List Put). length l) (sym c.payloads-paid.ensures)) (ap (λ (l : List Put). length l) (sym c.fresh-laid.ensures))); asks = record { spends = subst (λ (failed : Bool). OnlyWrites failed (g.D.Disk.state c.args.disk.now) (g.D.Disk.state c.issue_record.new.disk)) (sym c.is_err.ensures.value ∙ c.if-is_err.true) c.issue_record.ensures.spends; cause = λ tells. err_cause c.issue_record.result (sym c.is_err.ensures.value ∙ c.if-is_err.true) (c.issue_record.ensures.cause tells) } };
      leaves = λ tells s l p m t floor geom may idle known safe.
          let paid = c.payloads-paid.result.now in
          let laid = c.fresh-laid.result.now in
          let place = c.take-place.result in
          let first = c.take-place.ensures.first in
          let same = same_written c.args.epoch c.args.number place c.args.ring.now.next paid c.args.self.paid laid c.args.self.laid first c.payloads-paid.ensures c.fresh-laid.ensures in
          let may1 = subst (λ (ps : List Put). IsTransaction l c.args.epoch c.args.number c.args.ring.now.next ps c.args.self.laid m) (sym c.payloads-paid.ensures) may in
          let may2 = subst (λ (ls : List Put). IsTransaction l c.args.epoch c.args.number c.args.ring.now.next paid ls m) (sym c.fresh-laid.ensures) may1 in
          let may3 = subst (λ n. IsTransaction l c.args.epoch c.args.number n paid laid m) (sym first) may2 in
          let on = c.geom-geom.ensures ∙ geom in
          let some : 0 < length paid = omega (arith, c.requires.has.some, ap (λ (ps : List Put). length ps) c.payloads-paid.ensures) in
          let few : length paid + length laid ≤ 2097152 = omega (arith, c.requires.small, ap (λ (ps : List Put). length ps) c.payloads-paid.ensures, ap (λ (ps : List Put). length ps) c.fresh-laid.ensures) in
          let next = is_next c.payloads_read_back.ensures.bytes c.payloads_read_back.ensures.stored c.journal_blocks_read_back.ensures.commits c.journal_blocks_read_back.ensures.descriptors c.entries_that_fit_keep_to_the_disk.ensures.payloads c.entries_that_fit_keep_to_the_disk.ensures.fresh
          c.geom-geom.result c.args.epoch c.args.number place paid laid (subst (λ (q : Geometry). IsTrue (entries_fit q (record_of c.args.number place paid laid))) (sym on) may3.fit) c.ranges.epoch.fits c.ranges.number.fits c.lawful-2.ensures.limits.most_blocks few
          l m on c.lawful-2.ensures.limits.most_journal some may3 in
          let left = subst (λ (w : WrittenRecord). RecordLeaves s l p w m t floor c.issue_record.result c.issue_record.new.tickets.items (g.D.Disk.state c.issue_record.new.disk).base (g.D.Disk.state c.issue_record.new.disk).log) same (c.issue_record.ensures.leaves tells s l p m t floor next on idle known safe) in
          err_left s l p _ m t floor c.issue_record.result _ _ _ (sym c.is_err.ensures.value ∙ c.if-is_err.true) left;
      log = added;
      one = λ tells s l p m t floor geom may known safe o off.
          let adds = subst (λ (q : Geometry). AddsFront (record_writes q c.args.epoch c.args.number c.args.ring.now.next c.args.self.paid c.args.self.laid) (g.D.Disk.state c.args.disk.now).log (g.D.Disk.state c.issue_record.new.disk).log) geom (added tells) in
          subst (λ (base : Blocks). (b : ℕ) → length (cell_of base (g.D.Disk.state c.issue_record.new.disk).log b).pending ≤ 1) (sym c.issue_record.ensures.spends.same.base)
          (keeps_one_lost c.entries_that_fit_keep_to_the_disk.ensures.fresh c.entries_that_fit_keep_to_the_disk.ensures.ascending c.blocks_to_be_written_are_idle.ensures.fresh c.records_stand_in_order.ensures.behind c.records_stand_in_order.ensures.apart c.a_write_to_an_idle_block_is_the_one.ensures.under_way
          (g.D.Disk.state c.args.disk.now).base l p c.args.epoch c.args.number c.args.ring.now.next c.args.self.paid c.args.self.laid m (g.D.Disk.state c.args.disk.now).log may known safe.keeps o off c.one_write_is_pending.ensures.lost (g.D.Disk.state c.issue_record.new.disk).log adds);
      made = tt;
      back = refl;
    }

pub returns : goal.returns
returns g c =
    let added = λ (tells : IsTrue g.D.Disk.tells).
    let same = same_writes c.geom-geom.result c.args.ring.now.geom c.args.epoch c.args.number c.take-place.result c.args.ring.now.next c.payloads-paid.result.now c.args.self.paid c.fresh-laid.result.now c.args.self.laid c.geom-geom.ensures c.take-place.ensures.first c.payloads-paid.ensures c.fresh-laid.ensures in
    let all = ok_adds _ c.issue_record.result _ _ _ _ (sym c.is_err.ensures.value ∙ c.if-is_err.false) (c.issue_record.ensures.log tells) in
    let tickets = all.1 ∙ ap (λ (ts : List ℕ). ts ++ all.0) c.requires.has.room.empty in
    subst (λ (ts : List ℕ). AddsWrites (record_writes c.args.ring.now.geom c.args.epoch c.args.number c.args.ring.now.next c.args.self.paid c.args.self.laid) ts (g.D.Disk.state c.args.disk.now).log (g.D.Disk.state c.issue_record.new.disk).log) (sym tickets)
    (subst (λ (ws : List (ℕ × List ℕ)). AddsWrites ws all.0 (g.D.Disk.state c.args.disk.now).log (g.D.Disk.state c.issue_record.new.disk).log) same all.2) in
    record {
      issues = record { ring = c.take-place.ensures.places ∙ ap (with_places c.args.ring.now) (c.places_of-count.ensures 0 0 c.args.self.paid c.args.self.laid (ap (λ (l : List Put). length l) (sym c.payloads-paid.ensures)) (ap (λ (l : List Put). length l) (sym c.fresh-laid.ensures))); asks = record { spends = subst (λ (failed : Bool). OnlyWrites failed (g.D.Disk.state c.args.disk.now) (g.D.Disk.state c.issue_record.new.disk)) (sym c.is_err.ensures.value ∙ c.if-is_err.false) c.issue_record.ensures.spends; cause = λ tells. tt } };
      leaves = λ tells s l p m t floor geom may idle known safe.
          let paid = c.payloads-paid.result.now in
          let laid = c.fresh-laid.result.now in
          let place = c.take-place.result in
          let first = c.take-place.ensures.first in
          let same = same_written c.args.epoch c.args.number place c.args.ring.now.next paid c.args.self.paid laid c.args.self.laid first c.payloads-paid.ensures c.fresh-laid.ensures in
          let may1 = subst (λ (ps : List Put). IsTransaction l c.args.epoch c.args.number c.args.ring.now.next ps c.args.self.laid m) (sym c.payloads-paid.ensures) may in
          let may2 = subst (λ (ls : List Put). IsTransaction l c.args.epoch c.args.number c.args.ring.now.next paid ls m) (sym c.fresh-laid.ensures) may1 in
          let may3 = subst (λ n. IsTransaction l c.args.epoch c.args.number n paid laid m) (sym first) may2 in
          let on = c.geom-geom.ensures ∙ geom in
          let some : 0 < length paid = omega (arith, c.requires.has.some, ap (λ (ps : List Put). length ps) c.payloads-paid.ensures) in
          let few : length paid + length laid ≤ 2097152 = omega (arith, c.requires.small, ap (λ (ps : List Put). length ps) c.payloads-paid.ensures, ap (λ (ps : List Put). length ps) c.fresh-laid.ensures) in
          let next = is_next c.payloads_read_back.ensures.bytes c.payloads_read_back.ensures.stored c.journal_blocks_read_back.ensures.commits c.journal_blocks_read_back.ensures.descriptors c.entries_that_fit_keep_to_the_disk.ensures.payloads c.entries_that_fit_keep_to_the_disk.ensures.fresh
          c.geom-geom.result c.args.epoch c.args.number place paid laid (subst (λ (q : Geometry). IsTrue (entries_fit q (record_of c.args.number place paid laid))) (sym on) may3.fit) c.ranges.epoch.fits c.ranges.number.fits c.lawful-2.ensures.limits.most_blocks few
          l m on c.lawful-2.ensures.limits.most_journal some may3 in
          let left = subst (λ (w : WrittenRecord). RecordLeaves s l p w m t floor c.issue_record.result c.issue_record.new.tickets.items (g.D.Disk.state c.issue_record.new.disk).base (g.D.Disk.state c.issue_record.new.disk).log) same (c.issue_record.ensures.leaves tells s l p m t floor next on idle known safe) in
          ok_left s l p _ m t floor c.issue_record.result _ _ _ (sym c.is_err.ensures.value ∙ c.if-is_err.false) left;
      log = added;
      one = λ tells s l p m t floor geom may known safe o off freed.
          let adds = subst (λ (q : Geometry). AddsWrites (record_writes q c.args.epoch c.args.number c.args.ring.now.next c.args.self.paid c.args.self.laid) c.issue_record.new.tickets.items (g.D.Disk.state c.args.disk.now).log (g.D.Disk.state c.issue_record.new.disk).log) geom (added tells) in
          let w = written_of c.args.epoch c.args.number c.args.ring.now.next c.args.self.paid c.args.self.laid in
          subst (λ (base : Blocks). HasOnePending base (g.D.Disk.state c.issue_record.new.disk).log (with_record l w m) (with_committed p l w c.issue_record.new.tickets.items freed) []) (sym c.issue_record.ensures.spends.same.base)
          (keeps_one c.entries_that_fit_keep_to_the_disk.ensures.fresh c.entries_that_fit_keep_to_the_disk.ensures.ascending c.blocks_to_be_written_are_idle.ensures.fresh c.records_stand_in_order.ensures.behind c.records_stand_in_order.ensures.apart c.a_write_to_an_idle_block_is_the_one.ensures.under_way
          (g.D.Disk.state c.args.disk.now).base l p c.args.epoch c.args.number c.args.ring.now.next c.args.self.paid c.args.self.laid m (g.D.Disk.state c.args.disk.now).log may known safe.keeps o off c.one_write_stays_pending.ensures.joins c.issue_record.new.tickets.items freed (g.D.Disk.state c.issue_record.new.disk).log adds);
      made = record {
        number = refl;
        place = c.take-place.ensures.first;
        count = c.places_of-count.ensures c.args.number c.args.ring.now.next c.args.self.paid c.args.self.laid (ap (λ (l : List Put). length l) (sym c.payloads-paid.ensures)) (ap (λ (l : List Put). length l) (sym c.fresh-laid.ensures));
        payloads = ap (λ (v : Changes). v.paid) c.self.view_is;
        fresh = c.requires.has.room.fresh;
        freed = ap (λ (v : Changes). v.freed) c.self.view_is;
        tickets = ap (λ (ts : List ℕ). length ts) refl ∙ ok_holds c.issue_record.result _ (sym c.is_err.ensures.value ∙ c.if-is_err.false) c.issue_record.ensures.taken
            ∙ same_size c.payloads-paid.result.now c.args.self.paid c.fresh-laid.result.now c.args.self.laid c.args.number c.args.ring.now.next c.payloads-paid.ensures c.fresh-laid.ensures;
      };
      back = tt;
    }
