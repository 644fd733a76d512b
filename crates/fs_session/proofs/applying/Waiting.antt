-- A command that needn't wait for the disk has writes alone behind the notices of its tick.
use Rattle.std.proofs.Common.{◌≡◌, ◌≢◌, inl, inr, ⊎_elim, ◌-◌, ◌≤◌, Bool, false, IsTrue, List, ◌++◌, filter, length, Result, refl, sym, subst, ap, ap₂, ◌∙◌, append_assoc, arith, ℕ, ◌⊎◌, ◌<◌}
use Rattle.base_types.specs.Seal.{Blocks}
use Rattle.disk_contract.specs.declared.event.Event.{Event}
use Rattle.disk_contract.specs.Disk.{GrowsByWrites, PollsThenWrites}
use Rattle.layout_geometry.specs.Geometry.{Geometry, data_start}
use Rattle.lang_tree.specs.declared.command.Cmd.{Cmd}
use Rattle.lang_tree.specs.declared.command.Cmd.TheVariants.{Osync, Dsync, Durable, Dwait, Poll, Bad}
use Rattle.lang_tree.specs.declared.command.Refusal.{Refusal}
use Rattle.lang_tree.specs.declared.command.Reply.{Reply}
use Rattle.lang_tree.specs.Step.{Session}
use Rattle.engine_blocks.specs.Calls.{MovesPipeline, commit_places}
use Rattle.engine_blocks.specs.Effects.{FitsRing, OrdersAtOnce}
use Rattle.engine_blocks.specs.Running.{Running, payloads, fresh_blocks, record_places}
use Rattle.engine_blocks.specs.State.{Bookkeeping, State, data_blocks, reusable_blocks}
use Rattle.fs_session.specs.Applying.{Began, NeedsNoWait, Runs, Ticks}
use Rattle.fs_session.specs.Commands.{Carries, figures_on}
use Rattle.fs_session.specs.Sessions.{IsSession}
use Rattle.fs_session.proofs.Logs.{grows_by_none, writes_on}
use Rattle.fs_session.specs.Staying.{session_ticks}
use Rattle.fs_session.proofs.applying.Ticking.{ticked_first}
use Rattle.fs_session.proofs.rooms.Lists.{as_many_kept}
use Rattle.fs_session.specs.Syncs.{WaitsSession}

-- What a pipeline that moved leaves: as many blocks may be taken, the record has its places, and a command has its figures.
module _ (k l : Bookkeeping) (moves : MovesPipeline k l) where
  as_many_left : length (reusable_blocks k) ≤ length (reusable_blocks l)
  as_many_left = subst (λ (g : Geometry). length (reusable_blocks k) ≤ length (filter l.reusable (data_blocks g))) (sym moves.geom)
      (as_many_kept k.reusable l.reusable (data_start k.geom) (k.geom.n - data_start k.geom) (λ b from below may. moves.reusable b (record { from = from; below = omega (arith, from, below); free = may })))

  pub same_places : commit_places l ≡ commit_places k
  same_places = ap₂ (λ (g : Geometry) (r : Running). record_places (payloads g r) (fresh_blocks g r)) moves.geom moves.running

  pub fits_still : FitsRing k → FitsRing l
  fits_still fits = omega (arith, fits, same_places, moves.free_places)

  orders_still : OrdersAtOnce k → OrdersAtOnce l
  orders_still (inl fits) = inl (fits_still fits)
  orders_still (inr none) = inr (ap (λ (r : Running). r.weight) moves.running ∙ none)

needs_still : (s t : State) (f : Session) (cmd : Cmd) → MovesPipeline s.books t.books → t.map ≡ s.map → (figures_on s f cmd).need ≤ length (reusable_blocks s.books) → (figures_on t f cmd).need ≤ length (reusable_blocks t.books)
needs_still s t f cmd moves map enough =
    omega (arith, enough, ap₂ (λ (g : Geometry) (m : Blocks). (figures_on (record s { books = record s.books { geom = g }; map = m }) f cmd).need) moves.geom map, as_many_left s.books t.books moves)

module _ {S : Type 0} (tells : Bool) (state : S → State) (told : IsTrue tells) where
  abbrev Writes : S → S → Type 0
  Writes old new = GrowsByWrites (state old).crash.log (state new).crash.log

  of_none : (mid new : S) → new ≡ mid → Writes mid new
  of_none mid new same = grows_by_none (state mid).crash.log (state new).crash.log (ap (λ s. (state s).crash.log) same)

  of_carried : (f : Session) (cmd : Cmd) (result : Result Reply Refusal) (old mid new : S) → Ticks tells false (state old) (state mid) → IsSession (state mid) f → (figures_on (state old) f cmd).need ≤ length (reusable_blocks (state old).books)
      → Carries tells cmd result (state mid) (state new) → Writes mid new
  of_carried f cmd result old mid new ticks h enough carries =
      grows_by_none (state mid).crash.log (state new).crash.log (carries.quiet told f h (needs_still (state old) (state mid) f cmd ticks.moves.pipeline (ticks.moves.map told) enough))

  -- a wait for a point that is durable, or isn't there
  of_idle : (n : ℕ) (result : Result Reply Refusal) (old mid new : S) → Ticks tells false (state old) (state mid) → (n ≤ (state old).books.floor) ⊎ ((state old).books.point < n) → WaitsSession tells n result (state mid) (state new) → Writes mid new
  of_idle n result old mid new ticks needs waits = grows_by_none (state mid).crash.log (state new).crash.log (⊎_elim
      (λ low. ((waits.idles (omega (arith, low, ticks.moves.pipeline.floor))).disk.crash told).log)
      (λ past. ((waits.none (omega (arith, past, ticks.moves.pipeline.point))).disk.crash told).log) needs)

  -- what it does once it began
  of_run : (f : Session) (cmd : Cmd) (result : Result Reply Refusal) (old mid new : S) → cmd ≢ Bad → Ticks tells false (state old) (state mid) → IsSession (state mid) f → NeedsNoWait (state old) f cmd → Runs tells state cmd result mid new → Writes mid new
  of_run f Osync result old mid new good ticks h needs runs = runs.alone told refl (orders_still (state old).books (state mid).books ticks.moves.pipeline needs)
  of_run f Dsync result old mid new good ticks h needs runs = absurd needs
  of_run f Durable result old mid new good ticks h needs runs = of_none mid new runs.1
  of_run f (Dwait n) result old mid new good ticks h needs runs = of_idle n result old mid new ticks needs runs
  of_run f Poll result old mid new good ticks h needs runs = of_none mid new runs.1
  of_run f Bad result old mid new good ticks h needs runs = absurd (good refl)
  of_run f cmd result old mid new good ticks h needs runs = of_carried f cmd result old mid new ticks h needs runs

  pub begun_writes : (f : Session) (cmd : Cmd) (reply : Reply) (old new : S) → cmd ≢ Bad → (state old).books.stopped ≡ false → IsSession (state old) f → NeedsNoWait (state old) f cmd → Began tells state cmd reply old new
      → PollsThenWrites (state old).counts.ticks.manner 64 (state old).counts.ticks.polls (state old).crash.log (state new).counts.ticks.polls (state new).crash.log
  begun_writes f cmd reply old new good going h needs began p is = (
    ((ticked_first tells state cmd reply old new began).polled told p is).0,
    ⊎_elim
        (λ failed. (failed.0.writes told p is).1)
        (λ ran.
        let first = (ran.0.writes told p is).1 in
        let then = of_run f cmd began.result old began.mid new good ran.0 (session_ticks tells false (state old) (state began.mid) ran.0 f going told h) needs ran.1 in
        record {
          more = first.more ++ then.more;
          log = then.log ∙ ap (λ (es : List Event). es ++ then.more) first.log ∙ append_assoc p.log first.more then.more;
          writes = writes_on first.more then.more first.writes then.writes;
        }) began.ran,
  )
