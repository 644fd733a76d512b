use Rattle.std.proofs.Common.{◌≡◌, ◌⊎◌, inl, inr, ⊎_elim, ℕ, true, false, ◌∙◌, ap, arith}
use Rattle.std.proofs.Math.Logic.{∥∥₁_map}
use Rattle.engine_blocks.specs.Crashes.{HearsRecords, HearsUpTo}
use Rattle.engine_blocks.specs.State.{Bookkeeping, State, Ticking}
use Rattle.engine_store.specs.Store.{bookkeeping_of}
use Rattle.engine_store.specs.Told.{store_state}
use Rattle.engine_store.proofs.Freeing.{frees_still, waited_still}
use Rattle.engine_store.proofs.RecordsTold.{record_before}
use Rattle.engine_store.proofs.SyncSteps.{refused, refused_record, sync_then_hears, sync_then_wait, writes_hear}
use Rattle.engine_store.proofs.syncing.sync_durably.Goals as goal

-- what is heard up to a point is heard of records
hears_some : (n : ℕ) (old new : State) → HearsUpTo n old new → HearsRecords old new
hears_some n old new hears t came = ⊎_elim (λ was. inl was) (λ some. inr (inl (∥∥₁_map some (λ x. (x.0, x.3))))) (hears t came)

pub returns-in_err-point-clause-syncs : goal.returns-in_err-point-clause-syncs
returns-in_err-point-clause-syncs g c = λ ticks.
    refused g.D.Disk.tells c.from_residual.result c.in_err-point.field-0.0 (store_state c.args.parts.now ticks (g.D.Disk.state c.args.disk.now)) (store_state c.sync.new.parts ticks (g.D.Disk.state c.sync.new.disk)) c.from_residual.ensures.1 (c.in_err-point.ensures.syncs ticks)

pub returns-in_err-point-clause-idles : goal.returns-in_err-point-clause-idles
returns-in_err-point-clause-idles g c = λ ticks none same. c.sync.ensures.idles ticks none

pub returns-then-parts-clause-syncs : goal.returns-then-parts-clause-syncs
returns-then-parts-clause-syncs g c = c.in_ok-point.ensures.syncs

pub returns-then-parts-clause-idles : goal.returns-then-parts-clause-idles
returns-then-parts-clause-idles g c = λ ticks none same. c.sync.ensures.idles ticks none

-- where nothing was to commit, and the last point was durable, it is so behind the sync
still_durable : (old new : Bookkeeping) → new ≡ old → old.floor ≡ old.point → new.floor ≡ new.point
still_durable old new is same = omega (arith, ap (λ (k : Bookkeeping). k.floor) is, ap (λ (k : Bookkeeping). k.point) is, same)

pub returns-in-Ok-clause-idles : goal.returns-in-Ok-clause-idles
returns-in-Ok-clause-idles g c = λ ticks none same. absurd (c.if-parts.false (still_durable (bookkeeping_of c.args.parts.now) (bookkeeping_of c.sync.new.parts) (c.sync.ensures.idles ticks none).books same))

pub returns-in-Err-clause-idles : goal.returns-in-Err-clause-idles
returns-in-Err-clause-idles g c = λ ticks none same. absurd (c.if-parts.false (still_durable (bookkeeping_of c.args.parts.now) (bookkeeping_of c.sync.new.parts) (c.sync.ensures.idles ticks none).books same))

pub wait_for_point-requires-clause-going : goal.wait_for_point-requires-clause-going
wait_for_point-requires-clause-going g c = (c.in_ok-point.ensures.syncs 0).disk.stopped

pub returns-in-Ok-clause-syncs : goal.returns-in-Ok-clause-syncs
returns-in-Ok-clause-syncs g c = λ ticks.
    sync_then_wait g.D.Disk.tells false (store_state c.args.parts.now ticks (g.D.Disk.state c.args.disk.now)) (store_state c.sync.new.parts ticks (g.D.Disk.state c.sync.new.disk)) (store_state c.wait_for_point.new.parts ticks (g.D.Disk.state c.wait_for_point.new.disk)) c.in_ok-point.point
    (c.in_ok-point.ensures.syncs ticks) (c.in-Ok.ensures.runs ticks ticks) (omega (arith, c.in_ok-point.ensures.turns, c.in-Ok.ensures.moves.moves.turn, c.in-Ok.ensures.moves.moves.last)) (c.in-Ok.ensures.asks ticks)

pub returns-in-Err-clause-syncs : goal.returns-in-Err-clause-syncs
returns-in-Err-clause-syncs g c = λ ticks.
    sync_then_wait g.D.Disk.tells true (store_state c.args.parts.now ticks (g.D.Disk.state c.args.disk.now)) (store_state c.sync.new.parts ticks (g.D.Disk.state c.sync.new.disk)) (store_state c.wait_for_point.new.parts ticks (g.D.Disk.state c.wait_for_point.new.disk)) c.in_ok-point.point
    (c.in_ok-point.ensures.syncs ticks) (c.in-Err.ensures.runs ticks ticks) (omega (arith, c.in_ok-point.ensures.turns, c.in-Err.ensures.moves.moves.turn, c.in-Err.ensures.moves.moves.last)) (c.in-Err.ensures.asks ticks)

pub returns-in_err-point-clause-waits : goal.returns-in_err-point-clause-waits
returns-in_err-point-clause-waits g c = λ ticks tells alone fits. writes_hear (store_state c.args.parts.now ticks (g.D.Disk.state c.args.disk.now)) (store_state c.sync.new.parts ticks (g.D.Disk.state c.sync.new.disk)) (c.sync.ensures.writes tells fits)

pub returns-then-parts-clause-waits : goal.returns-then-parts-clause-waits
returns-then-parts-clause-waits g c = λ ticks tells alone fits. writes_hear (store_state c.args.parts.now ticks (g.D.Disk.state c.args.disk.now)) (store_state c.sync.new.parts ticks (g.D.Disk.state c.sync.new.disk)) (c.sync.ensures.writes tells fits)

pub returns-in-Ok-clause-waits : goal.returns-in-Ok-clause-waits
returns-in-Ok-clause-waits g c = λ ticks tells alone fits.
    sync_then_hears (store_state c.args.parts.now ticks (g.D.Disk.state c.args.disk.now)) (store_state c.sync.new.parts ticks (g.D.Disk.state c.sync.new.disk)) (store_state c.wait_for_point.new.parts ticks (g.D.Disk.state c.wait_for_point.new.disk))
    (c.sync.ensures.writes tells fits) ((c.in_ok-point.ensures.syncs ticks).crash tells) (hears_some c.sync.new.parts.point (store_state c.sync.new.parts ticks (g.D.Disk.state c.sync.new.disk)) (store_state c.wait_for_point.new.parts ticks (g.D.Disk.state c.wait_for_point.new.disk)) (c.in-Ok.ensures.waits ticks ticks tells (ap (λ (t : Ticking). t.manner.waits_alone) ((c.in_ok-point.ensures.syncs ticks).ticks) ∙ alone)))

pub returns-in-Err-clause-waits : goal.returns-in-Err-clause-waits
returns-in-Err-clause-waits g c = λ ticks tells alone fits.
    sync_then_hears (store_state c.args.parts.now ticks (g.D.Disk.state c.args.disk.now)) (store_state c.sync.new.parts ticks (g.D.Disk.state c.sync.new.disk)) (store_state c.wait_for_point.new.parts ticks (g.D.Disk.state c.wait_for_point.new.disk))
    (c.sync.ensures.writes tells fits) ((c.in_ok-point.ensures.syncs ticks).crash tells) (hears_some c.sync.new.parts.point (store_state c.sync.new.parts ticks (g.D.Disk.state c.sync.new.disk)) (store_state c.wait_for_point.new.parts ticks (g.D.Disk.state c.wait_for_point.new.disk)) (c.in-Err.ensures.waits ticks ticks tells (ap (λ (t : Ticking). t.manner.waits_alone) ((c.in_ok-point.ensures.syncs ticks).ticks) ∙ alone)))

pub returns-in_err-point-clause-written : goal.returns-in_err-point-clause-written
returns-in_err-point-clause-written g c = λ ticks tells. refused_record _ c.from_residual.result c.in_err-point.field-0.0 c.from_residual.ensures.1

pub returns-then-parts-clause-written : goal.returns-then-parts-clause-written
returns-then-parts-clause-written g c = λ ticks tells. c.in_ok-point.ensures.written ticks tells

pub returns-in-Ok-clause-written : goal.returns-in-Ok-clause-written
returns-in-Ok-clause-written g c = λ ticks tells.
    record_before g.D.Disk.tells false (store_state c.args.parts.now ticks (g.D.Disk.state c.args.disk.now)) (store_state c.sync.new.parts ticks (g.D.Disk.state c.sync.new.disk)) (store_state c.wait_for_point.new.parts ticks (g.D.Disk.state c.wait_for_point.new.disk)) tells (c.in-Ok.ensures.runs ticks ticks) (c.in-Ok.ensures.still tells)
    (c.in_ok-point.ensures.written ticks tells)

pub returns-then-parts-clause-frees : goal.returns-then-parts-clause-frees
returns-then-parts-clause-frees g c = c.in_ok-point.ensures.frees

pub returns-in-Ok-clause-frees : goal.returns-in-Ok-clause-frees
returns-in-Ok-clause-frees g c =
    let same = waited_still c.sync.new.parts c.wait_for_point.new.parts c.wait_for_point.ensures.books c.in-Ok.ensures.moves.first c.in-Ok.ensures.moves.point in
    frees_still (bookkeeping_of c.args.parts.now) (bookkeeping_of c.sync.new.parts) (bookkeeping_of c.wait_for_point.new.parts) same.0 same.1 same.2 c.in_ok-point.ensures.frees

pub returns-in_err-point-clause-idle : goal.returns-in_err-point-clause-idle
returns-in_err-point-clause-idle g c = λ none. absurd (cc (c.in_err-point.was, c.sync.ensures.idle none))
