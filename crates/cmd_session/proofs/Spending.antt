-- Weight and budget of one command more.
use Rattle.std.proofs.Common.{◌≡◌, ◌≢◌, ◌⊎◌, inl, inr, ⊎_elim, ℕ, ◌+◌, ◌≤◌, nat_lt, Bool, true, false, IsTrue, if◌then◌else◌, List, [], ◌∷◌, ◌++◌, length, Result, Ok, Err, refl, sym, ◌∙◌, ap, subst, arith}
use Rattle.std.proofs.lemmas.Bool.{and_from, cases_Bool, cond-true, true≢false, false≢true}
use Rattle.disk_contract.specs.Disk.{writes_in}
use Rattle.layout_geometry.specs.Geometry.{Geometry, bitmap_blocks}
use Rattle.lang_tree.specs.declared.command.Cmd.{Cmd}
use Rattle.lang_tree.specs.declared.command.Cmd.TheVariants.{Mkdir, Create, Write, Fill, Read, Truncate, Link, Unlink, Rmdir, Rename, Stat, List as ListNames, Snap, Unsnap, Snaps, At, Osync, Dsync, Durable, Dwait, Poll, Bad}
use Rattle.lang_tree.specs.declared.command.Refusal.{Refusal}
use Rattle.lang_tree.specs.declared.command.Refusal.TheVariants as because
use Rattle.lang_tree.specs.declared.command.Reply.{Reply}
use Rattle.lang_tree.specs.declared.command.Reply.TheVariants.{Refused}
use Rattle.lang_tree.specs.Points.{after_reply, is_sync}
use Rattle.lang_tree.specs.Step.{Session, step, osync, session_on}
use Rattle.lang_tree.specs.Tree.{Tree}
use Rattle.crash_stands.specs.Bounds.{bounds_of}
use Rattle.engine_blocks.specs.Running.{Running}
use Rattle.engine_blocks.specs.Calls.{MaySync, MovesPipeline, commit_writes}
use Rattle.engine_blocks.specs.Crashes.{WritesAtMost}
use Rattle.engine_blocks.specs.State.{Bookkeeping, State}
use Rattle.fs_session.specs.Applying.{Ticks, Runs, Began, Applies, reply_for, is_spent}
use Rattle.fs_session.specs.Commands.{Carries}
use Rattle.fs_session.specs.NothingKept.{CostsAsAlone}
use Rattle.fs_session.specs.Sessions.{IsSession, Stands}
use Rattle.fs_session.specs.Staying.{session_ticks}
use Rattle.fs_session.specs.Syncs.{SyncsSession}
use Rattle.cmd_session.specs.Budget.{KeepsBudget, budget_of, commits, may_have_begun, sync_budget, weight_after, weight_by, writes_of}
use Rattle.cmd_session.specs.Histories.{session_after}
use Rattle.cmd_session.specs.Serving.{HasServed}
use Rattle.cmd_session.proofs.Histories.{none_some, some_none, one_less}
use Rattle.cmd_session.proofs.Weights.{budget_up, is_bad, weighs, weight_up, within_weight}

-- The writes of one command.

osync_begun : (f : Session) (b : Bool) → may_have_begun (osync f b).1 ≡ true
osync_begun f b = grind arith

-- a commit stands for so many writes after a tick as before it
ticked_writes : (old new : Bookkeeping) → MovesPipeline old new → commit_writes new ≡ commit_writes old
ticked_writes old new moves = ap (λ (r : Running). commit_writes (record new { running = r })) moves.running ∙ ap (λ (g : Geometry). commit_writes (record old { geom = g })) moves.geom

-- some session of these blocks
abbrev session_in : (s : State) → Stands s → Session
session_in s stands = record { tree = stands.0; limit = bounds_of s.books.geom; points = s.books.point; changed = nat_lt 0 s.books.running.weight; durable = 0 }

is_session_in : (s : State) (stands : Stands s) → IsSession s (session_in s stands)
is_session_in s stands = record { tree = stands.1; limit = refl; points = λ going. refl; changed = λ going. refl; durable = omega arith }

module _ {S : Type 0} (tells : Bool) (state : S → State) (told : IsTrue tells) where
  same_writes : (more : ℕ) (old new : S) → new ≡ old → WritesAtMost more (state old) (state new)
  same_writes more old new same = omega (arith, ap (λ (s : S). writes_in (state s).crash.log) same, ap (λ (s : S). (state s).books.owed) same)

  of_carried : (cmd : Cmd) (result : Result Reply Refusal) (more : ℕ) (mid new : S) → Carries tells cmd result (state mid) (state new) → WritesAtMost more (state mid) (state new)
  of_carried cmd result more mid new c = omega (arith, c.runs.writes told)

  -- a sync of which it is known that its own reply may have begun
  sync_begun : (orders : Bool) (f : Session) (cmd : Cmd) (result : Result Reply Refusal) (mid new : S) → may_have_begun (step f cmd).1 ≡ true → IsSession (state mid) f → SyncsSession tells orders cmd result (state mid) (state new) → may_have_begun (reply_for result) ≡ true
  sync_begun orders f cmd (Ok reply) mid new begun h s = ap may_have_begun (s.done told f h).0 ∙ begun
  sync_begun orders f cmd (Err why) mid new begun h s = ⊎_elim (λ disk. ap (λ (w : Refusal). may_have_begun (Refused w)) disk) (λ memory. ap (λ (w : Refusal). may_have_begun (Refused w)) memory) s.refused

  of_synced : (orders : Bool) (f : Session) (cmd : Cmd) (result : Result Reply Refusal) (mid new : S) → is_sync cmd ≡ true → may_have_begun (step f cmd).1 ≡ true → IsSession (state mid) f → SyncsSession tells orders cmd result (state mid) (state new)
      → WritesAtMost (writes_of cmd (reply_for result) (state mid).books) (state mid) (state new)
  of_synced orders f cmd result mid new is begun h s =
      subst (λ (n : ℕ). WritesAtMost n (state mid) (state new)) (sym (cond-true {A = ℕ} (commits cmd (reply_for result)) (commit_writes (state mid).books) 0 (and_from (is_sync cmd) (may_have_begun (reply_for result)) is (sync_begun orders f cmd result mid new begun h s)))) (s.writes told)

  of_run : (f : Session) (cmd : Cmd) (result : Result Reply Refusal) (mid new : S) → IsSession (state mid) f → Runs tells state cmd result mid new → WritesAtMost (writes_of cmd (reply_for result) (state mid).books) (state mid) (state new)
  of_run f Osync result mid new h runs = of_synced true f Osync result mid new refl (osync_begun f f.changed) h runs
  of_run f Dsync result mid new h runs = of_synced false f Dsync result mid new refl refl h runs
  of_run f Durable result mid new h runs = same_writes (writes_of Durable (reply_for result) (state mid).books) mid new runs.1
  of_run f (Dwait n) result mid new h runs = omega (arith, runs.runs.writes told)
  of_run f Poll result mid new h runs = same_writes (writes_of Poll (reply_for result) (state mid).books) mid new runs.1
  of_run f (Mkdir path) result mid new h runs = of_carried (Mkdir path) result 0 mid new runs
  of_run f (Create path) result mid new h runs = of_carried (Create path) result 0 mid new runs
  of_run f (Write path offset bytes) result mid new h runs = of_carried (Write path offset bytes) result 0 mid new runs
  of_run f (Fill path offset count byte) result mid new h runs = of_carried (Fill path offset count byte) result 0 mid new runs
  of_run f (Read path offset count) result mid new h runs = of_carried (Read path offset count) result 0 mid new runs
  of_run f (Truncate path size) result mid new h runs = of_carried (Truncate path size) result 0 mid new runs
  of_run f (Link path other) result mid new h runs = of_carried (Link path other) result 0 mid new runs
  of_run f (Unlink path) result mid new h runs = of_carried (Unlink path) result 0 mid new runs
  of_run f (Rmdir path) result mid new h runs = of_carried (Rmdir path) result 0 mid new runs
  of_run f (Rename from to) result mid new h runs = of_carried (Rename from to) result 0 mid new runs
  of_run f (Stat path) result mid new h runs = of_carried (Stat path) result 0 mid new runs
  of_run f (ListNames path) result mid new h runs = of_carried (ListNames path) result 0 mid new runs
  of_run f (Snap name) result mid new h runs = of_carried (Snap name) result 0 mid new runs
  of_run f (Unsnap name) result mid new h runs = of_carried (Unsnap name) result 0 mid new runs
  of_run f Snaps result mid new h runs = of_carried Snaps result 0 mid new runs
  of_run f (At name look) result mid new h runs = of_carried (At name look) result 0 mid new runs
  of_run f Bad result mid new h runs = of_carried Bad result 0 mid new runs

  writes_alike : (cmd : Cmd) (reply : Reply) (old new : Bookkeeping) → MovesPipeline old new → writes_of cmd reply new ≡ writes_of cmd reply old
  writes_alike cmd reply old new moves = ap (λ n. if commits cmd reply then n else 0) (ticked_writes old new moves)

  of_began : (f : Session) (cmd : Cmd) (reply : Reply) (old new : S) → (state old).books.stopped ≡ false → IsSession (state old) f → Began tells state cmd reply old new → WritesAtMost (writes_of cmd reply (state old).books) (state old) (state new)
  of_began f cmd reply old new on h began = by began.ran
    where
      by : (Ticks tells true (state old) (state new) × (began.result ≡ Err because.DiskFault)) ⊎ (Ticks tells false (state old) (state began.mid) × Runs tells state cmd began.result began.mid new)
          → WritesAtMost (writes_of cmd reply (state old).books) (state old) (state new)
      by (inl failed) = omega (arith, failed.0.moves.writes told)
      by (inr ran) = omega (
        arith,
        ran.0.moves.writes told,
        of_run f cmd began.result began.mid new (session_ticks tells false (state old) (state began.mid) ran.0 f on told h) ran.1,
        writes_alike cmd (reply_for began.result) (state old).books (state began.mid).books ran.0.moves.pipeline,
        ap (λ (r : Reply). writes_of cmd r (state old).books) began.is,
      )

  pub writes_more : (cmd : Cmd) (reply : Reply) (old new : S) → Stands (state old) → Applies tells state cmd reply old new → WritesAtMost (writes_of cmd reply (state old).books) (state old) (state new)
  writes_more cmd reply old new stands applies = ⊎_elim (λ is. same_writes (writes_of cmd reply (state old).books) old new (applies.bad is).1) other (is_bad cmd)
    where
      began : cmd ≢ Bad → (state old).books.stopped ≡ false → is_spent (state old).books ≡ false → WritesAtMost (writes_of cmd reply (state old).books) (state old) (state new)
      began not on left = of_began (session_in (state old) stands) cmd reply old new on (is_session_in (state old) stands) (applies.began not on left)

      other : cmd ≢ Bad → WritesAtMost (writes_of cmd reply (state old).books) (state old) (state new)
      other not = ⊎_elim
          (λ off. same_writes (writes_of cmd reply (state old).books) old new (applies.stopped not off).1)
          (λ on. ⊎_elim
          (λ spent. same_writes (writes_of cmd reply (state old).books) old new (applies.spent not on spent).1)
          (λ left. began not on left)
          (cases_Bool (is_spent (state old).books)))
          (cases_Bool (state old).books.stopped)

  -- a sync that may have begun did so while no call of the disk had failed
  commits_going : (cmd : Cmd) (reply : Reply) (old new : S) → Applies tells state cmd reply old new → commits cmd reply ≡ true → (state old).books.stopped ≡ false
  commits_going cmd reply old new applies is = grind (arith, is_sync cmd, cases_Bool (state old).books.stopped, is_bad, false≢true, applies.stopped)

-- once a call of the disk failed, it has
stays_stopped : {S : Type 0} (tells : Bool) (state : S → State) (cmd : Cmd) (reply : Reply) (old new : S) → Applies tells state cmd reply old new → (state old).books.stopped ≡ true → (state new).books.stopped ≡ true
stays_stopped {S} tells state cmd reply old new applies off = ap (λ (s : S). (state s).books.stopped) (⊎_elim (λ bad. (applies.bad bad).1) (λ not. (applies.stopped not off).1) (is_bad cmd)) ∙ off

-- One command more.

weight_more : (bitmap : ℕ) (s : Session) (w : ℕ) (cmds : List Cmd) (replies : List Reply) (cmd : Cmd) (reply : Reply) → length cmds ≡ length replies
    → weight_after bitmap s w (cmds ++ cmd ∷ []) (replies ++ reply ∷ []) ≡ weight_by bitmap (session_after s cmds replies) (weight_after bitmap s w cmds replies) cmd reply
weight_more bitmap s w [] [] cmd reply e = refl
weight_more bitmap s w [] (r ∷ replies) cmd reply e = absurd (none_some (length replies) e)
weight_more bitmap s w (c ∷ cmds) [] cmd reply e = absurd (some_none (length cmds) e)
weight_more bitmap s w (c ∷ cmds) (r ∷ replies) cmd reply e = weight_more bitmap (after_reply s c r) (weight_by bitmap s w c r) cmds replies cmd reply (one_less (length cmds) (length replies) e)

budget_more : (bitmap : ℕ) (s : Session) (w : ℕ) (cmds : List Cmd) (replies : List Reply) (cmd : Cmd) (reply : Reply) → length cmds ≡ length replies
    → budget_of bitmap s w (cmds ++ cmd ∷ []) (replies ++ reply ∷ []) ≡ budget_of bitmap s w cmds replies + (if commits cmd reply then sync_budget (weight_after bitmap s w cmds replies) else 0)
budget_more bitmap s w [] [] cmd reply e = omega arith
budget_more bitmap s w [] (r ∷ replies) cmd reply e = absurd (none_some (length replies) e)
budget_more bitmap s w (c ∷ cmds) [] cmd reply e = absurd (some_none (length cmds) e)
budget_more bitmap s w (c ∷ cmds) (r ∷ replies) cmd reply e = omega (arith, budget_more bitmap (after_reply s c r) (weight_by bitmap s w c r) cmds replies cmd reply (one_less (length cmds) (length replies) e))

if_at_most : (c : Bool) (m n : ℕ) → (c ≡ true → m ≤ n) → (if c then m else 0) ≤ (if c then n else 0)
if_at_most c m n h1 = grind arith

module _ {S : Type 0} (tells : Bool) (state : S → State) (told : IsTrue tells) (unshared : CostsAsAlone) (g : Geometry) (t : Tree) (mounted begun : ℕ) (cmds : List Cmd) (replies : List Reply) (marks : List ℕ) (old new : S) (cmd : Cmd) (reply : Reply)
    (served : HasServed g t mounted cmds replies marks (state old)) (keeps : KeepsBudget g t begun cmds replies (state old)) (applies : Applies tells state cmd reply old new)
    (stands : Stands (state old)) (may : MaySync (state old).books) where
  abbrev first : Session
  first = session_on (bounds_of g) t

  abbrev weight : ℕ
  weight = weight_after (bitmap_blocks g) first 0 cmds replies

  -- the session behind these commands
  abbrev later : Session
  later = session_after first cmds replies

  awake : (state new).books.stopped ≡ false → (state old).books.stopped ≡ false
  awake on = ⊎_elim (λ off. absurd (true≢false (sym (stays_stopped tells state cmd reply old new applies off) ∙ on))) (λ going. going) (cases_Bool (state old).books.stopped)

  within : commits cmd reply ≡ true → commit_writes (state old).books ≤ sync_budget weight
  within is = omega (arith, within_weight (state old).books may, budget_up (state old).books.running.weight weight (keeps.weight (commits_going tells state told cmd reply old new applies is)))

  pub keeps_more : KeepsBudget g t begun (cmds ++ cmd ∷ []) (replies ++ reply ∷ []) (state new)
  keeps_more = record {
    weight = λ going. omega (
      arith,
      weighs tells state told unshared g later cmd reply old new served.geom served.goes_on.session applies going,
      weight_up (bitmap_blocks g) later (state old).books.running.weight weight cmd reply (keeps.weight (awake going)),
      weight_more (bitmap_blocks g) first 0 cmds replies cmd reply served.answered,
    );
    writes = omega (
      arith,
      writes_more tells state told cmd reply old new stands applies,
      keeps.writes,
      budget_more (bitmap_blocks g) first 0 cmds replies cmd reply served.answered,
      if_at_most (commits cmd reply) (commit_writes (state old).books) (sync_budget weight) within,
    );
  }
