-- A sync in its room: what was weighed is done, and each data block that no node has may be taken.
use Rattle.std.proofs.lemmas.Bool.{ne_eqb, eq-eqb, cond-true, cond-false, true≢false, not_from_false}
use Rattle.std.proofs.Common.{◌≡◌, ◌⊎◌, inl, inr, ℕ, ◌+◌, ◌-◌, ◌<◌, ◌≤◌, ◌==◌, Bool, true, false, not, List, length, filter, Ok, Err, Result, refl, sym, ap, ap₂, ◌∙◌, arith}
use Rattle.layout_geometry.specs.Geometry.{Geometry, data_start}
use Rattle.lang_tree.specs.declared.command.Cmd.{Cmd}
use Rattle.lang_tree.specs.declared.command.Refusal.{Refusal}
use Rattle.lang_tree.specs.declared.command.Refusal.TheVariants as because
use Rattle.lang_tree.specs.declared.command.Reply.{Reply}
use Rattle.lang_tree.specs.Step.{Session, step}
use Rattle.engine_blocks.specs.Ranges.{counted, parts_from, same_from}
use Rattle.engine_blocks.specs.Running.{Running, nothing_running}
use Rattle.engine_blocks.specs.State.{Bookkeeping, State, data_blocks, reusable_blocks}
use Rattle.fs_session.specs.Applying.{reply_for}
use Rattle.fs_session.specs.Commands.{is_disk_fault}
use Rattle.fs_session.specs.Memory.{room_of}
use Rattle.fs_session.specs.Room.{RefusesIn, RenewsRoom, SyncsRoom, is_in_use}
use Rattle.fs_session.specs.Sessions.{IsSession}
use Rattle.fs_session.specs.Syncs.{SyncsSession}
use Rattle.fs_session.proofs.rooms.Carried.{InMemory, stays}
use Rattle.fs_session.proofs.rooms.Known.{LeavesSession}
use Rattle.fs_session.specs.Snapshots.{kept_lists}
use Rattle.fs_session.proofs.rooms.Lists.{kept_same}
use Rattle.fs_session.proofs.rooms.Nodes.{in_use_is}
use Rattle.fs_session.proofs.rooms.Same.{live_same, marks_same, never_failed, places_same}

module _ {S : Type 0} (tells : Bool) (state : S → State) (here : InMemory tells state) where
  -- What a sync of some weight leaves: as many data blocks may be taken as aren't marked, and none that is.
  renewed : (f : Session) (s t : S) → IsSession (state s) f → (state t).books.geom ≡ (state s).books.geom → (state t).map ≡ (state s).map → (state t).books.running ≡ nothing_running → RenewsRoom (state s).books.geom f.tree (room_of (state s)) (room_of (state t))
  renewed f s t h geom map running = record {
    weight = ap (λ (r : Running). r.weight) running;
    held = held;
    takeable = moved ∙ kept_same (state t).books.reusable (λ b. not ((state s).books.marked b)) first count unmarked long
        ∙ same_from (λ b. not ((state s).books.marked b)) (λ b. not (is_in_use (state s).books.geom f.tree (room_of (state s)) b)) first count
        (λ b from below. ap not (in_use_is (state s) (here.known.agrees s).bits h.tree.sound here.known.snapshots f.tree h.tree b from (omega (arith, from, below))));
    places = places_same (state s) (state t) geom map;
    kept = ap₂ kept_lists geom map;
  }
    where
      first : ℕ
      first = data_start (state s).books.geom

      count : ℕ
      count = (state s).books.geom.n - first

      held : (state t).books.running.held ≡ 0
      held = ap (λ (r : Running). r.held) running

      moved : reusable_blocks (state t).books ≡ filter (state t).books.reusable (data_blocks (state s).books.geom)
      moved = ap (λ (g : Geometry). filter (state t).books.reusable (data_blocks g)) geom

      unmarked : (b : ℕ) → first ≤ b → b < first + count → (state t).books.reusable b ≡ true → not ((state s).books.marked b) ≡ true
      unmarked b from below free =
          let within : b < (state s).books.geom.n = omega (arith, from, below) in
          not_from_false ((state s).books.marked b)
          (sym (marks_same (state s) (state t) (here.known.agrees s) (here.known.agrees t) geom map b within)
          ∙ (here.known.sound t).unmarked b (record { from = omega (arith, from, ap (λ (g : Geometry). data_start g) geom); below = omega (arith, within, ap (λ (g : Geometry). g.n) geom); free = free }))

      long : counted (state t).books.reusable first count ≡ counted (λ b. not ((state s).books.marked b)) first count
      long = omega (
        arith,
        (here.known.sound t).accounts,
        (here.known.sound t).area,
        ap (λ (g : Geometry). g.n - data_start g) geom,
        ap (λ (xs : List ℕ). length xs) (live_same (state s) (state t) (here.known.agrees s) (here.known.agrees t) geom map),
        ap (λ (xs : List ℕ). length xs) moved,
        here.lies.waiting t,
        held,
        parts_from (state s).books.marked first count,
      )

  syncs_room : (f : Session) (s t : S) → IsSession (state s) f → (orders : Bool) (cmd : Cmd) (reply : Reply) → SyncsSession tells orders cmd (Ok reply) (state s) (state t) → SyncsRoom (state s).books.geom f.tree (room_of (state s)) (room_of (state t))
  syncs_room f s t h orders cmd reply syncs = (
    λ none. stays tells state here s t syncs.geom (syncs.map here.known.told) (syncs.ends ∙ cond-true (running.weight == 0) running nothing_running (eq-eqb running.weight 0 none)) syncs.takeable,
    λ some. renewed f s t h syncs.geom (syncs.map here.known.told) (syncs.ends ∙ cond-false (running.weight == 0) running nothing_running (ne_eqb running.weight 0 (λ e. absurd (omega (arith, e, some))))),
  )
    where
      running : Running
      running = (state s).books.running

  -- a sync
  pub synced_in : (orders : Bool) (f : Session) (cmd : Cmd) (result : Result Reply Refusal) (old new : S) → IsSession (state old) f → SyncsSession tells orders cmd result (state old) (state new)
      → LeavesSession state old new (λ next. ((step f cmd ≡ (next, reply_for result)) × SyncsRoom (state old).books.geom f.tree (room_of (state old)) (room_of (state new)))
      ⊎ RefusesIn (λ why. (why ≡ because.NoMemory) × (0 < (room_of (state old)).weight)) f (room_of (state old)) (reply_for result) next (room_of (state new)))
  synced_in orders f cmd (Ok reply) old new h syncs =
      let d = syncs.done here.known.told f h in
      ((step f cmd).0, d.1, syncs.geom, inl (ap (λ r. ((step f cmd).0, r)) (sym d.0), syncs_room f old new h orders cmd reply syncs))
  synced_in orders f cmd (Err why) old new h syncs = (f, syncs.kept here.known.told f h, syncs.geom, inr (why, (memory, none.1), refl, refl, same))
    where
      failed : is_disk_fault (Err why) ≡ false
      failed = never_failed (is_disk_fault (Err why)) (state old).counts.faults (state new).counts.faults syncs.disk.faults (here.lies.faults new)

      by : (why ≡ because.DiskFault) ⊎ (why ≡ because.NoMemory) → why ≡ because.NoMemory
      by (inl disk) = absurd (true≢false (sym (ap (λ w. is_disk_fault (Err w)) disk) ∙ failed))
      by (inr memory) = memory

      memory : why ≡ because.NoMemory
      memory = by syncs.refused

      none : ((state new).books ≡ (state old).books) × (0 < (state old).books.running.weight)
      none = syncs.unspent (ap (λ w. Err w) memory)

      same : room_of (state new) ≡ room_of (state old)
      same = stays tells state here old new syncs.geom (syncs.map here.known.told) (ap (λ (k : Bookkeeping). k.running) none.0) syncs.takeable
