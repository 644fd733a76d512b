-- What one command adds to the weight of the running transaction, and that the writes of a record are within what its weight stands for.
use Rattle.std.proofs.Common.{◌≡◌, ◌⊎◌, ◌≢◌, inl, inr, ⊎_elim, ℕ, ◌+◌, ◌≤◌, ◌==◌, Bool, true, false, IsTrue, if◌then◌else◌, Option, Result, Ok, Err, refl, sym, ◌∙◌, ap, subst, arith}
use Rattle.std.proofs.lemmas.Bool.{cases_Bool, cases_eq, eq-eqb, ne_eqb, cond-true, cond-false, eqb-true, true≢false, false≢true}
use Rattle.layout_geometry.specs.Geometry.{Geometry, bitmap_blocks}
use Rattle.lang_tree.specs.declared.command.Cmd.{Cmd}
use Rattle.lang_tree.specs.declared.command.Cmd.TheVariants.{Mkdir, Create, Write, Fill, Read, Truncate, Link, Unlink, Rmdir, Rename, Stat, List as ListNames, Snap, Unsnap, Snaps, At, Osync, Dsync, Durable, Dwait, Poll, Bad}
use Rattle.lang_tree.specs.declared.command.Refusal.{Refusal}
use Rattle.lang_tree.specs.declared.command.Refusal.TheVariants as because
use Rattle.lang_tree.specs.declared.command.Reply.{Reply}
use Rattle.lang_tree.specs.declared.command.Reply.TheVariants.{Ok as Done}
use Rattle.lang_tree.specs.Conditions.{refusal}
use Rattle.lang_tree.specs.Points.{is_refusal, is_sync}
use Rattle.lang_tree.specs.Sharing.{BlocksAlone, SharedNodes, figures_over_by}
use Rattle.lang_tree.specs.Step.{Session, step, answered, osync}
use Rattle.engine_blocks.specs.Running.{Running, payloads, fresh_blocks, nothing_running}
use Rattle.engine_blocks.specs.Calls.{MaySync, commit_places, commit_writes, if_changed}
use Rattle.engine_blocks.specs.State.{Bookkeeping, State}
use Rattle.fs_session.specs.Applying.{Ticks, Runs, Began, Applies, reply_for, is_spent}
use Rattle.fs_session.specs.Commands.{Carries, alone_on, figures_on, is_disk_fault, shared_on}
use Rattle.fs_session.specs.Memory.{room_of}
use Rattle.fs_session.specs.NothingKept.{CostsAsAlone}
use Rattle.fs_session.specs.Sessions.{IsSession}
use Rattle.fs_session.specs.Staying.{session_ticks}
use Rattle.fs_session.specs.Syncs.{SyncsSession, WaitsSession}
use Rattle.cmd_session.specs.Budget.{most_cost, sync_budget, sync_places, weight_by}
use Rattle.cmd_session.proofs.Costing.{within_most}

pub is_bad : (cmd : Cmd) → (cmd ≡ Bad) ⊎ (cmd ≢ Bad)
is_bad cmd = grind (arith, false≢true)

-- A command that the tree refuses costs nothing.

-- done, whether or not it changes something
abbrev done_in : Bool → Session → Session → Session × Reply
done_in c s t = if c then (s, Done) else (t, Done)

done_calm : (c : Bool) (s t : Session) → is_refusal (done_in c s t).1 ≡ true → ⊥
done_calm c s t h1 = grind (arith, false≢true)

pub free_by : (bitmap : ℕ) (shared : SharedNodes) (alone : BlocksAlone) (f : Session) (cmd : Cmd) (o : Option Refusal) → is_refusal (answered f cmd o).1 ≡ true → (figures_over_by bitmap shared alone f.limit f.tree cmd o).cost ≡ 0
free_by bitmap shared alone f cmd o h1 = grind (arith, false≢true, done_calm, f.tree)

refused_is_free : (s : State) (f : Session) (cmd : Cmd) → is_refusal (step f cmd).1 ≡ true → (figures_on s f cmd).cost ≡ 0
refused_is_free s f cmd is = free_by (bitmap_blocks s.books.geom) (shared_on s f) (alone_on s f) f cmd (refusal f.limit f.tree cmd) is

-- A sync's own reply is no refusal.
osync_done : (f : Session) (b : Bool) → is_refusal (osync f b).1 ≡ false
osync_done f b = grind arith

-- The weight after one command.

module _ (bitmap : ℕ) (f : Session) (w : ℕ) (cmd : Cmd) where
  pub weight_refused : (reply : Reply) → is_refusal reply ≡ true → weight_by bitmap f w cmd reply ≡ w
  weight_refused reply is = cond-true {A = ℕ} (is_refusal reply) w (if is_sync cmd then 0 else w + most_cost bitmap f cmd) is

  weight_synced : (reply : Reply) → is_refusal reply ≡ false → is_sync cmd ≡ true → weight_by bitmap f w cmd reply ≡ 0
  weight_synced reply is sync = cond-false {A = ℕ} (is_refusal reply) w (if is_sync cmd then 0 else w + most_cost bitmap f cmd) is ∙ cond-true {A = ℕ} (is_sync cmd) 0 (w + most_cost bitmap f cmd) sync

  pub weight_done : (reply : Reply) → is_refusal reply ≡ false → is_sync cmd ≡ false → weight_by bitmap f w cmd reply ≡ w + most_cost bitmap f cmd
  weight_done reply is none = cond-false {A = ℕ} (is_refusal reply) w (if is_sync cmd then 0 else w + most_cost bitmap f cmd) is ∙ cond-false {A = ℕ} (is_sync cmd) 0 (w + most_cost bitmap f cmd) none

  -- answered as the tree answers it, at a cost that is none where the tree refuses it
  pub weight_answered : (reply : Reply) (cost : ℕ) → reply ≡ (step f cmd).1 → is_sync cmd ≡ false → (is_refusal (step f cmd).1 ≡ true → cost ≡ 0) → cost ≤ most_cost bitmap f cmd → w + cost ≤ weight_by bitmap f w cmd reply
  weight_answered reply cost answer none free most = ⊎_elim
      (λ refused. omega (arith, weight_refused reply refused, free (sym (ap is_refusal answer) ∙ refused)))
      (λ calm. omega (arith, weight_done reply calm none, most))
      (cases_Bool (is_refusal reply))

-- a greater weight before is no smaller one behind
pub weight_up : (bitmap : ℕ) (f : Session) (w v : ℕ) (cmd : Cmd) (reply : Reply) → w ≤ v → weight_by bitmap f w cmd reply ≤ weight_by bitmap f v cmd reply
weight_up bitmap f w v cmd reply le = by (is_refusal reply) (is_sync cmd)
  where
    by : (a b : Bool) → (if a then w else if b then 0 else w + most_cost bitmap f cmd) ≤ (if a then v else if b then 0 else v + most_cost bitmap f cmd)
    by true b = le
    by false true = omega arith
    by false false = omega (arith, le)

-- the weight behind a sync that is done
emptied : (r : Running) → (if_changed r nothing_running r).weight ≡ 0
emptied r = grind (arith, cases_eq r.weight 0, r.weight, cond-true, eq-eqb, cond-false, ne_eqb)

module _ {S : Type 0} (tells : Bool) (state : S → State) (told : IsTrue tells) (unshared : CostsAsAlone) (g : Geometry) (f : Session) where
  -- what the weight comes to at most, where no call of the disk failed
  abbrev pub Weighs : Cmd → Reply → State → State → Type 0
  Weighs cmd reply old new = new.books.stopped ≡ false → new.books.running.weight ≤ weight_by (bitmap_blocks g) f old.books.running.weight cmd reply

  of_carried : (cmd : Cmd) (result : Result Reply Refusal) (mid new : S) → is_sync cmd ≡ false → (state mid).books.geom ≡ g → IsSession (state mid) f → Carries tells cmd result (state mid) (state new) → Weighs cmd (reply_for result) (state mid) (state new)
  of_carried cmd (Ok reply) mid new none geom h c going =
      let is = c.done told f h in
      let most : (figures_on (state mid) f cmd).cost ≤ most_cost (bitmap_blocks g) f cmd
      = subst (λ (k : Geometry). (figures_on (state mid) f cmd).cost ≤ most_cost (bitmap_blocks k) f cmd) geom (within_most unshared (state mid).books.geom f (room_of (state mid)) cmd).1 in
      omega (arith, is.spends.weight, weight_answered (bitmap_blocks g) f (state mid).books.running.weight cmd reply (figures_on (state mid) f cmd).cost is.answer none (refused_is_free (state mid) f cmd) most)
  of_carried cmd (Err why) mid new none geom h c going = omega (arith, ap (λ (r : Running). r.weight) c.unspent.running)

  of_synced : (orders : Bool) (cmd : Cmd) (result : Result Reply Refusal) (mid new : S) → is_sync cmd ≡ true → is_refusal (step f cmd).1 ≡ false → IsSession (state mid) f → SyncsSession tells orders cmd result (state mid) (state new) → Weighs cmd (reply_for result) (state mid) (state new)
  of_synced orders cmd (Ok reply) mid new is calm h s going =
      omega (arith, ap (λ (r : Running). r.weight) s.ends, emptied (state mid).books.running)
  of_synced orders cmd (Err why) mid new is calm h s going = ⊎_elim
      (λ disk. absurd (true≢false (sym (s.disk.stopped ∙ ap (λ (w : Refusal). is_disk_fault (Err w)) disk) ∙ going)))
      (λ memory. omega (arith, ap (λ (b : Bookkeeping). b.running.weight) (s.unspent (ap (λ (w : Refusal). Err w) memory)).0))
      s.refused

  -- what is done with no call of the disk, and costs nothing
  of_nothing : (cmd : Cmd) (reply : Reply) (mid new : S) → new ≡ mid → (state mid).books.running.weight ≤ weight_by (bitmap_blocks g) f (state mid).books.running.weight cmd reply → Weighs cmd reply (state mid) (state new)
  of_nothing cmd reply mid new same free going = omega (arith, ap (λ (s : S). (state s).books.running.weight) same, free)

  -- a wait weighs nothing, also where it is refused
  of_waited : (n : ℕ) (result : Result Reply Refusal) (mid new : S) → IsSession (state mid) f → WaitsSession tells n result (state mid) (state new) → Weighs (Dwait n) (reply_for result) (state mid) (state new)
  of_waited n (Ok reply) mid new h w going =
      omega (arith, ap (λ (r : Running). r.weight) w.runs.pipeline.running, weight_answered (bitmap_blocks g) f (state mid).books.running.weight (Dwait n) reply 0 (w.done told f h).0 refl (λ _. refl) (omega arith))
  of_waited n (Err why) mid new h w going = omega (arith, ap (λ (r : Running). r.weight) w.runs.pipeline.running)

  of_run : (cmd : Cmd) (result : Result Reply Refusal) (mid new : S) → (state mid).books.geom ≡ g → IsSession (state mid) f → Runs tells state cmd result mid new → Weighs cmd (reply_for result) (state mid) (state new)
  of_run Osync result mid new geom h runs = of_synced true Osync result mid new refl (osync_done f f.changed) h runs
  of_run Dsync result mid new geom h runs = of_synced false Dsync result mid new refl refl h runs
  of_run Durable result mid new geom h runs = of_nothing Durable (reply_for result) mid new runs.1
      (omega (arith, weight_done (bitmap_blocks g) f (state mid).books.running.weight Durable (reply_for result) (ap is_refusal (ap reply_for runs.0)) refl))
  of_run (Dwait n) result mid new geom h runs = of_waited n result mid new h runs
  of_run Poll result mid new geom h runs = of_nothing Poll (reply_for result) mid new runs.1
      (omega (arith, weight_done (bitmap_blocks g) f (state mid).books.running.weight Poll (reply_for result) (ap is_refusal (ap reply_for runs.0)) refl))
  of_run (Mkdir path) result mid new geom h runs = of_carried (Mkdir path) result mid new refl geom h runs
  of_run (Create path) result mid new geom h runs = of_carried (Create path) result mid new refl geom h runs
  of_run (Write path offset bytes) result mid new geom h runs = of_carried (Write path offset bytes) result mid new refl geom h runs
  of_run (Fill path offset count byte) result mid new geom h runs = of_carried (Fill path offset count byte) result mid new refl geom h runs
  of_run (Read path offset count) result mid new geom h runs = of_carried (Read path offset count) result mid new refl geom h runs
  of_run (Truncate path size) result mid new geom h runs = of_carried (Truncate path size) result mid new refl geom h runs
  of_run (Link path other) result mid new geom h runs = of_carried (Link path other) result mid new refl geom h runs
  of_run (Unlink path) result mid new geom h runs = of_carried (Unlink path) result mid new refl geom h runs
  of_run (Rmdir path) result mid new geom h runs = of_carried (Rmdir path) result mid new refl geom h runs
  of_run (Rename from to) result mid new geom h runs = of_carried (Rename from to) result mid new refl geom h runs
  of_run (Stat path) result mid new geom h runs = of_carried (Stat path) result mid new refl geom h runs
  of_run (ListNames path) result mid new geom h runs = of_carried (ListNames path) result mid new refl geom h runs
  of_run (Snap name) result mid new geom h runs = of_carried (Snap name) result mid new refl geom h runs
  of_run (Unsnap name) result mid new geom h runs = of_carried (Unsnap name) result mid new refl geom h runs
  of_run Snaps result mid new geom h runs = of_carried Snaps result mid new refl geom h runs
  of_run (At name look) result mid new geom h runs = of_carried (At name look) result mid new refl geom h runs
  of_run Bad result mid new geom h runs = of_carried Bad result mid new refl geom h runs

  of_began : (cmd : Cmd) (reply : Reply) (old new : S) → (state old).books.stopped ≡ false → (state old).books.geom ≡ g → IsSession (state old) f → Began tells state cmd reply old new → Weighs cmd reply (state old) (state new)
  of_began cmd reply old new on geom h began going = by began.ran
    where
      by : (Ticks tells true (state old) (state new) × (began.result ≡ Err because.DiskFault)) ⊎ (Ticks tells false (state old) (state began.mid) × Runs tells state cmd began.result began.mid new)
          → (state new).books.running.weight ≤ weight_by (bitmap_blocks g) f (state old).books.running.weight cmd reply
      by (inl failed) = absurd (true≢false (sym failed.0.moves.disk.stopped ∙ going))
      by (inr ran) = omega (
        arith,
        of_run cmd began.result began.mid new (ran.0.moves.pipeline.geom ∙ geom) (session_ticks tells false (state old) (state began.mid) ran.0 f on told h) ran.1 going,
        ap (λ (r : Running). weight_by (bitmap_blocks g) f r.weight cmd (reply_for began.result)) ran.0.moves.pipeline.running,
        ap (weight_by (bitmap_blocks g) f (state old).books.running.weight cmd) began.is,
      )

  pub weighs : (cmd : Cmd) (reply : Reply) (old new : S) → (state old).books.geom ≡ g → IsSession (state old) f → Applies tells state cmd reply old new → Weighs cmd reply (state old) (state new)
  weighs cmd reply old new geom h applies going = ⊎_elim bad other (is_bad cmd)
    where
      bad : cmd ≡ Bad → (state new).books.running.weight ≤ weight_by (bitmap_blocks g) f (state old).books.running.weight cmd reply
      bad is = of_nothing cmd reply old new (applies.bad is).1 (omega (arith, weight_done (bitmap_blocks g) f (state old).books.running.weight cmd reply (ap is_refusal (applies.bad is).0) (ap is_sync is))) going

      stopped : cmd ≢ Bad → (state old).books.stopped ≡ true → (state new).books.running.weight ≤ weight_by (bitmap_blocks g) f (state old).books.running.weight cmd reply
      stopped not on = absurd (true≢false (sym on ∙ sym (ap (λ (s : S). (state s).books.stopped) (applies.stopped not on).1) ∙ going))

      spent : cmd ≢ Bad → (state old).books.stopped ≡ false → is_spent (state old).books ≡ true → (state new).books.running.weight ≤ weight_by (bitmap_blocks g) f (state old).books.running.weight cmd reply
      spent not on low = let r = applies.spent not on low in of_nothing cmd reply old new r.1 (omega (arith, weight_refused (bitmap_blocks g) f (state old).books.running.weight cmd reply (ap is_refusal r.0))) going

      other : cmd ≢ Bad → (state new).books.running.weight ≤ weight_by (bitmap_blocks g) f (state old).books.running.weight cmd reply
      other not = ⊎_elim (stopped not)
          (λ on. ⊎_elim (spent not on) (λ left. of_began cmd reply old new on geom h (applies.began not on left) going) (cases_Bool (is_spent (state old).books)))
          (cases_Bool (state old).books.stopped)

-- A greater weight stands for no fewer writes.
pub budget_up : (w v : ℕ) → w ≤ v → sync_budget w ≤ sync_budget v
budget_up w v le = grind (arith, cases_Bool (w == 0), cases_Bool (v == 0), cond-true, cond-false, eqb-true)

-- What a commit stands for is within what its weight does.
pub within_weight : (k : Bookkeeping) → MaySync k → commit_writes k ≤ sync_budget k.running.weight
within_weight k may = grind (arith, cases_Bool (k.running.weight == 0), payloads k.geom k.running, fresh_blocks k.geom k.running, k.running.weight == 0, k.running.weight, k.geom, k.running, cond-true, cond-false, may.fits)

-- A record takes no more ring places than its weight does.
pub places_within_weight : (k : Bookkeeping) → MaySync k → commit_places k ≤ sync_places k.running.weight
places_within_weight k may = omega (arith, may.fits)
