use Rattle.std.proofs.Common.{⊎_elim, ◌∙◌, arith, refl, sym, subst}
use Rattle.engine_blocks.specs.Effects.{FitsRing}
use Rattle.engine_blocks.specs.State.{Bookkeeping}
use Rattle.engine_store.specs.Store.{bookkeeping_of}
use Rattle.engine_store.specs.Syncing.{FreesInRing}
use Rattle.engine_store.specs.Told.{store_state}
use Rattle.engine_store.proofs.Freeing.{frees_none, frees_some, on_ok}
use Rattle.engine_store.proofs.SyncSteps.{no_memory, record_from_same, syncs_from_same, syncs_nothing}
use Rattle.engine_store.proofs.TicketLogs.{no_write}
use Rattle.engine_store.proofs.syncing.sync.Goals as goal

pub returns-then-weight-eq0-clause-syncs : goal.returns-then-weight-eq0-clause-syncs
returns-then-weight-eq0-clause-syncs g c = λ ticks.
    let s = store_state c.args.parts.now ticks (g.D.Disk.state c.args.disk.now) in
    syncs_nothing g.D.Disk.tells s c.requires.going (sym c.weight.ensures ∙ c.if-weight-eq0.true) (c.a_store_that_is_kept_is_told.ensures.told g.D.Disk.tells c.args.parts.now ticks (g.D.Disk.state c.args.disk.now) c.requires.kept)

pub commit_in_ring-requires-clause-kept : goal.commit_in_ring-requires-clause-kept
commit_in_ring-requires-clause-kept g c = c.in-Ok.ensures.keeps g.D.Disk.tells (g.D.Disk.state c.args.disk.now) c.requires.kept

pub returns-in-Ok-clause-syncs : goal.returns-in-Ok-clause-syncs
returns-in-Ok-clause-syncs g c = λ ticks.
    syncs_from_same g.D.Disk.tells c.commit_in_ring.result c.args.parts.now c.reserve.new.parts ticks (g.D.Disk.state c.args.disk.now) (store_state c.commit_in_ring.new.parts ticks (g.D.Disk.state c.commit_in_ring.new.disk)) c.in-Ok.ensures.same (c.commit_in_ring.ensures.syncs ticks)

pub returns-in-Ok-clause-order : goal.returns-in-Ok-clause-order
returns-in-Ok-clause-order g c = λ few. c.commit_in_ring.ensures.order (subst FitsRing (sym c.in-Ok.ensures.same.books) few)

pub returns-in-Ok-clause-writes : goal.returns-in-Ok-clause-writes
returns-in-Ok-clause-writes g c = λ tells at_once. c.commit_in_ring.ensures.writes tells (⊎_elim (λ few. subst FitsRing (sym c.in-Ok.ensures.same.books) few) (λ none. absurd (c.if-weight-eq0.false (c.weight.ensures ∙ none))) at_once)

pub returns-in-Err-clause-kept : goal.returns-in-Err-clause-kept
returns-in-Err-clause-kept g c = c.in-Err.ensures.keeps g.D.Disk.tells (g.D.Disk.state c.args.disk.now) c.requires.kept

pub returns-in-Err-clause-syncs : goal.returns-in-Err-clause-syncs
returns-in-Err-clause-syncs g c = λ ticks.
    no_memory g.D.Disk.tells c.args.parts.now c.reserve.new.parts ticks (g.D.Disk.state c.args.disk.now) c.requires.going (c.a_store_that_is_kept_is_told.ensures.told g.D.Disk.tells c.args.parts.now ticks (g.D.Disk.state c.args.disk.now) c.requires.kept) c.in-Err.ensures.same

pub returns-then-weight-eq0-clause-writes : goal.returns-then-weight-eq0-clause-writes
returns-then-weight-eq0-clause-writes g c = λ tells few. no_write (g.D.Disk.state c.args.disk.now).log

pub returns-in-Err-clause-writes : goal.returns-in-Err-clause-writes
returns-in-Err-clause-writes g c = λ tells few. no_write (g.D.Disk.state c.args.disk.now).log

pub returns-then-weight-eq0-clause-written : goal.returns-then-weight-eq0-clause-written
returns-then-weight-eq0-clause-written g c = λ ticks tells. record { some = λ some. absurd (omega (arith, some, c.weight.ensures, c.if-weight-eq0.true)); none = λ none. (refl, refl) }

pub returns-in-Ok-clause-written : goal.returns-in-Ok-clause-written
returns-in-Ok-clause-written g c = λ ticks tells.
    record_from_same c.args.parts.now c.reserve.new.parts ticks (g.D.Disk.state c.args.disk.now) (store_state c.commit_in_ring.new.parts ticks (g.D.Disk.state c.commit_in_ring.new.disk)) c.commit_in_ring.result c.in-Ok.ensures.same (c.commit_in_ring.ensures.written ticks tells)

pub returns-then-weight-eq0-clause-frees : goal.returns-then-weight-eq0-clause-frees
returns-then-weight-eq0-clause-frees g c = frees_none (bookkeeping_of c.args.parts.now) (bookkeeping_of c.args.parts.now) refl (sym c.weight.ensures ∙ c.if-weight-eq0.true)

pub returns-in-Ok-clause-frees : goal.returns-in-Ok-clause-frees
returns-in-Ok-clause-frees g c = on_ok c.commit_in_ring.result c.commit_in_ring.ensures.frees (λ frees. frees_some (bookkeeping_of c.args.parts.now) (bookkeeping_of c.commit_in_ring.new.parts) (λ none. c.if-weight-eq0.false (c.weight.ensures ∙ none))
    (subst (λ (k : Bookkeeping). FreesInRing k (bookkeeping_of c.commit_in_ring.new.parts)) c.in-Ok.ensures.same.books frees))
