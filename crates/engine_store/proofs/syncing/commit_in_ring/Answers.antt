use Rattle.std.proofs.Common.{arith}
use Rattle.engine_blocks.specs.Effects.{FitsRing}
use Rattle.engine_blocks.specs.Serving.{with_all_served}
use Rattle.engine_store.specs.Store.{bookkeeping_of}
use Rattle.engine_store.specs.Told.{store_state}
use Rattle.engine_store.proofs.CommitSyncs.{places_needed}
use Rattle.engine_store.proofs.Freeing.{lets_from, on_ok}
use Rattle.engine_store.proofs.RecordsTold.{record_behind}
use Rattle.engine_store.proofs.SyncSteps.{fits_then, kept_fault, may_then, run_then_sync, syncs_fault}
use Rattle.engine_store.proofs.syncing.commit_in_ring.Goals as goal

pub commit-requires-in-Ok-clause-going : goal.commit-requires-in-Ok-clause-going
commit-requires-in-Ok-clause-going g c = (c.in-Ok.ensures.runs 0 0).disk.stopped

pub commit-requires-in-Ok-clause-may : goal.commit-requires-in-Ok-clause-may
commit-requires-in-Ok-clause-may g c = may_then c.args.parts.now c.drain.new.parts c.args.room c.in-Ok.ensures.moves c.requires.may (c.in-Ok.ensures.runs 0 0).pipeline.geom (c.in-Ok.ensures.runs 0 0).pipeline.running

pub commit-requires-in-Ok-clause-free : goal.commit-requires-in-Ok-clause-free
commit-requires-in-Ok-clause-free g c =
    let w = c.drain.new.parts in
    let may = may_then c.args.parts.now w c.args.room c.in-Ok.ensures.moves c.requires.may (c.in-Ok.ensures.runs 0 0).pipeline.geom (c.in-Ok.ensures.runs 0 0).pipeline.running in
    let kept = c.in-Ok.ensures.kept.sound.kept in
    fits_then w c.args.room may c.in-Ok.ensures.kept.sound (c.a_commit_has_what_the_roles_say.ensures.payloads w.books kept) (c.a_commit_has_what_the_roles_say.ensures.fresh w.books kept) c.in-Ok.ensures.places

pub returns-in-Ok-clause-syncs : goal.returns-in-Ok-clause-syncs
returns-in-Ok-clause-syncs g c = λ ticks.
    run_then_sync g.D.Disk.tells (store_state c.args.parts.now ticks (g.D.Disk.state c.args.disk.now)) (store_state c.drain.new.parts ticks (g.D.Disk.state c.drain.new.disk)) (store_state c.commit-in-Ok.new.parts ticks (g.D.Disk.state c.commit-in-Ok.new.disk))
    (c.in-Ok.ensures.runs ticks ticks) (omega (arith, c.commit-in-Ok.ensures.turns, c.in-Ok.ensures.moves.moves.turn, c.in-Ok.ensures.moves.moves.last)) c.commit-in-Ok.result (c.in-Ok.ensures.asks ticks) c.commit-in-Ok.ensures.memory (c.commit-in-Ok.ensures.syncs ticks)

pub returns-in-Ok-clause-order : goal.returns-in-Ok-clause-order
returns-in-Ok-clause-order g c = λ few.
    let kept = c.requires.kept.sound.kept in
    absurd (omega (arith, few, places_needed c.args.parts.now (c.a_commit_has_what_the_roles_say.ensures.payloads c.args.parts.now.books kept) (c.a_commit_has_what_the_roles_say.ensures.fresh c.args.parts.now.books kept), c.places_needed.ensures.places, c.free.ensures, c.if-places_needed-free.false))

pub returns-in-Ok-clause-written : goal.returns-in-Ok-clause-written
returns-in-Ok-clause-written g c = λ ticks tells.
    let kept = c.requires.kept.sound.kept in
    on_ok c.commit-in-Ok.result (c.commit-in-Ok.ensures.written ticks tells) (record_behind g.D.Disk.tells (store_state c.args.parts.now ticks (g.D.Disk.state c.args.disk.now)) (store_state c.drain.new.parts ticks (g.D.Disk.state c.drain.new.disk)) (store_state c.commit-in-Ok.new.parts ticks (g.D.Disk.state c.commit-in-Ok.new.disk)) tells (c.in-Ok.ensures.runs ticks ticks) c.requires.may.weight
    (λ few. absurd (omega (arith, few, places_needed c.args.parts.now (c.a_commit_has_what_the_roles_say.ensures.payloads c.args.parts.now.books kept) (c.a_commit_has_what_the_roles_say.ensures.fresh c.args.parts.now.books kept), c.places_needed.ensures.places, c.free.ensures, c.if-places_needed-free.false))))

pub returns-in-Ok-clause-writes : goal.returns-in-Ok-clause-writes
returns-in-Ok-clause-writes g c = λ tells few.
    let kept = c.requires.kept.sound.kept in
    absurd (omega (arith, few, places_needed c.args.parts.now (c.a_commit_has_what_the_roles_say.ensures.payloads c.args.parts.now.books kept) (c.a_commit_has_what_the_roles_say.ensures.fresh c.args.parts.now.books kept), c.places_needed.ensures.places, c.free.ensures, c.if-places_needed-free.false))

pub returns-in-Err-clause-kept : goal.returns-in-Err-clause-kept
returns-in-Err-clause-kept g c = kept_fault c.a_call_that_stays_safe_advances.ensures.made g.D.Disk.tells c.args.parts.now c.drain.new.parts (g.D.Disk.state c.args.disk.now) (g.D.Disk.state c.drain.new.disk) c.args.room c.requires.may c.in-Err.ensures.kept c.in-Err.ensures.runs c.in-Err.ensures.asks

pub returns-in-Err-clause-syncs : goal.returns-in-Err-clause-syncs
returns-in-Err-clause-syncs g c = syncs_fault c.a_call_that_stays_safe_advances.ensures.made g.D.Disk.tells c.args.parts.now c.drain.new.parts (g.D.Disk.state c.args.disk.now) (g.D.Disk.state c.drain.new.disk) c.args.room c.requires.may c.in-Err.ensures.kept c.in-Err.ensures.runs c.in-Err.ensures.asks

pub returns-in-Err-clause-order : goal.returns-in-Err-clause-order
returns-in-Err-clause-order g c = λ few.
    let kept = c.requires.kept.sound.kept in
    absurd (omega (arith, few, places_needed c.args.parts.now (c.a_commit_has_what_the_roles_say.ensures.payloads c.args.parts.now.books kept) (c.a_commit_has_what_the_roles_say.ensures.fresh c.args.parts.now.books kept), c.places_needed.ensures.places, c.free.ensures, c.if-places_needed-free.false))

pub returns-in-Err-clause-writes : goal.returns-in-Err-clause-writes
returns-in-Err-clause-writes g c = λ tells few.
    let kept = c.requires.kept.sound.kept in
    absurd (omega (arith, few, places_needed c.args.parts.now (c.a_commit_has_what_the_roles_say.ensures.payloads c.args.parts.now.books kept) (c.a_commit_has_what_the_roles_say.ensures.fresh c.args.parts.now.books kept), c.places_needed.ensures.places, c.free.ensures, c.if-places_needed-free.false))

pub returns-then-places_needed-free-clause-writes : goal.returns-then-places_needed-free-clause-writes
returns-then-places_needed-free-clause-writes g c = λ tells fits. c.commit.ensures.writes tells

pub returns-then-places_needed-free-clause-written : goal.returns-then-places_needed-free-clause-written
returns-then-places_needed-free-clause-written g c = λ ticks tells. c.commit.ensures.written ticks tells

pub returns-then-places_needed-free-clause-frees : goal.returns-then-places_needed-free-clause-frees
returns-then-places_needed-free-clause-frees g c =
    let kept = c.requires.kept.sound.kept in
    let fits : FitsRing (bookkeeping_of c.args.parts.now) = omega (arith, places_needed c.args.parts.now (c.a_commit_has_what_the_roles_say.ensures.payloads c.args.parts.now.books kept) (c.a_commit_has_what_the_roles_say.ensures.fresh c.args.parts.now.books kept), c.places_needed.ensures.places, c.free.ensures, c.if-places_needed-free.true) in
    on_ok c.commit.result c.commit.ensures.frees (λ lets. record { fits = λ fits. lets; drains = λ not_fits. absurd (not_fits fits) })

pub returns-in-Ok-clause-frees : goal.returns-in-Ok-clause-frees
returns-in-Ok-clause-frees g c =
    let v = c.args.parts.now in
    let kept = c.requires.kept.sound.kept in
    let moved = (c.in-Ok.ensures.runs 0 0).pipeline in
    on_ok c.commit-in-Ok.result c.commit-in-Ok.ensures.frees (λ lets. record {
      fits = λ few. absurd (omega (arith, few, places_needed v (c.a_commit_has_what_the_roles_say.ensures.payloads v.books kept) (c.a_commit_has_what_the_roles_say.ensures.fresh v.books kept), c.places_needed.ensures.places, c.free.ensures, c.if-places_needed-free.false));
      drains = λ not_fits. lets_from (with_all_served (bookkeeping_of v)) (bookkeeping_of c.drain.new.parts) (bookkeeping_of c.commit-in-Ok.new.parts) c.in-Ok.ensures.serves moved.geom moved.marked lets;
    })
