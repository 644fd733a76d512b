-- What one command does to the counts of the blocks and to their geometry, by how it was answered.
use Rattle.std.proofs.Common.{◌≡◌, ◌≢◌, ◌⊎◌, inl, inr, ℕ, ◌<◌, Bool, true, false, IsTrue, Result, Ok, Err, IfErr, nat_lt, refl, sym, ap, ◌∙◌, subst, arith}
use Rattle.std.proofs.lemmas.Bool.{cases_Bool, false≢true}
use Rattle.crash_stands.specs.Bounds.{bounds_of}
use Rattle.base_types.specs.Counts.{after_call}
use Rattle.base_types.specs.Seal.{Blocks}
use Rattle.layout_geometry.specs.Geometry.{Geometry}
use Rattle.lang_tree.specs.declared.command.Cmd.{Cmd}
use Rattle.lang_tree.specs.declared.command.Cmd.TheVariants.{Mkdir, Create, Write, Fill, Read, Truncate, Link, Unlink, Rmdir, Rename, Stat, List as ListNames, Snap, Unsnap, Snaps, At, Osync, Dsync, Durable, Dwait, Poll, Bad}
use Rattle.lang_tree.specs.declared.command.Refusal.{Refusal}
use Rattle.lang_tree.specs.declared.command.Refusal.TheVariants as because
use Rattle.lang_tree.specs.declared.command.Reply.{Reply}
use Rattle.lang_tree.specs.declared.command.Reply.TheVariants as replies
use Rattle.lang_tree.specs.Run.{Answers, is_of_disk, is_of_memory}
use Rattle.lang_tree.specs.Step.{Session, step}
use Rattle.crash_stands.specs.Stands.{IsTreeOf}
use Rattle.engine_blocks.specs.Running.{Running}
use Rattle.engine_blocks.specs.State.{State}
use Rattle.cmd_session.specs.Ending.{is_none}
use Rattle.fs_session.specs.Applying.{Applies, Began, Runs, Ticks, is_spent, reply_for}
use Rattle.fs_session.specs.Commands.{Carries, is_disk_fault, is_read_fault}
use Rattle.fs_session.specs.Sessions.{IsSession}
use Rattle.fs_session.specs.Syncs.{SyncsSession, WaitsSession}
use Rattle.cmd_image.specs.Refusals.{is_failed, is_unread}

-- a line that is none is told apart
none_or_one : (cmd : Cmd) → (cmd ≡ Bad) ⊎ (cmd ≢ Bad)
none_or_one Bad = inl refl
none_or_one Osync = inr (λ e. false≢true (ap is_none e))
none_or_one Dsync = inr (λ e. false≢true (ap is_none e))
none_or_one Durable = inr (λ e. false≢true (ap is_none e))
none_or_one (Dwait n) = inr (λ e. false≢true (ap is_none e))
none_or_one Poll = inr (λ e. false≢true (ap is_none e))
none_or_one (Mkdir path) = inr (λ e. false≢true (ap is_none e))
none_or_one (Create path) = inr (λ e. false≢true (ap is_none e))
none_or_one (Write path offset bytes) = inr (λ e. false≢true (ap is_none e))
none_or_one (Fill path offset count byte) = inr (λ e. false≢true (ap is_none e))
none_or_one (Read path offset count) = inr (λ e. false≢true (ap is_none e))
none_or_one (Truncate path size) = inr (λ e. false≢true (ap is_none e))
none_or_one (Link path other) = inr (λ e. false≢true (ap is_none e))
none_or_one (Unlink path) = inr (λ e. false≢true (ap is_none e))
none_or_one (Rmdir path) = inr (λ e. false≢true (ap is_none e))
none_or_one (Rename from to) = inr (λ e. false≢true (ap is_none e))
none_or_one (Stat path) = inr (λ e. false≢true (ap is_none e))
none_or_one (ListNames path) = inr (λ e. false≢true (ap is_none e))
none_or_one (Snap name) = inr (λ e. false≢true (ap is_none e))
none_or_one (Unsnap name) = inr (λ e. false≢true (ap is_none e))
none_or_one Snaps = inr (λ e. false≢true (ap is_none e))
none_or_one (At name look) = inr (λ e. false≢true (ap is_none e))

-- A failed read was counted once, or none, and so was another call that failed, by which blocks that went on stop; and where the blocks have stopped such a call was counted.
pub record Counted (unread failed : Bool) (old new : State) : Type 0 where
  pub geom : new.books.geom ≡ old.books.geom
  pub read_faults : new.counts.read_faults ≡ after_call unread old.counts.read_faults
  pub faults : new.counts.faults ≡ after_call failed old.counts.faults
  pub stops : old.books.stopped ≡ false → new.books.stopped ≡ failed
  pub over : (old.books.stopped ≡ true → 0 < old.counts.faults) → new.books.stopped ≡ true → 0 < new.counts.faults

-- blocks that stop by a call that failed have counted it
pub over_by : (failed stopped : Bool) (n m : ℕ) → stopped ≡ failed → m ≡ after_call failed n → stopped ≡ true → 0 < m
over_by true stopped n m is counts over = omega (arith, counts)
over_by false stopped n m is counts over = absurd (false≢true (sym is ∙ over))

-- The replies that a tree gives by itself are none of a disk.

calm_refusal : (why : Refusal) → (is_of_disk why ≡ false) ⊎ (why ≡ because.NoMemory) → (is_read_fault (Err why) ≡ false) × (is_disk_fault (Err why) ≡ false)
calm_refusal because.NotFound of = (refl, refl)
calm_refusal because.Exists of = (refl, refl)
calm_refusal because.NotDir of = (refl, refl)
calm_refusal because.IsDir of = (refl, refl)
calm_refusal because.NotEmpty of = (refl, refl)
calm_refusal because.BelowItself of = (refl, refl)
calm_refusal because.TooLarge of = (refl, refl)
calm_refusal because.TooManyLinks of = (refl, refl)
calm_refusal because.NoNode of = (refl, refl)
calm_refusal (because.Full need left) of = (refl, refl)
calm_refusal (because.TooBig weight cost room) of = (refl, refl)
calm_refusal (because.Scattered runs) of = (refl, refl)
calm_refusal because.ReadFault (inl inside) = absurd (false≢true (sym inside))
calm_refusal because.ReadFault (inr memory) = absurd (false≢true (ap (λ (w : Refusal). is_read_fault (Err w)) (sym memory)))
calm_refusal because.DiskFault (inl inside) = absurd (false≢true (sym inside))
calm_refusal because.DiskFault (inr memory) = absurd (false≢true (ap (λ (w : Refusal). is_disk_fault (Err w)) (sym memory)))
calm_refusal because.Stopped of = (refl, refl)
calm_refusal because.Spent of = (refl, refl)
calm_refusal because.NoMemory of = (refl, refl)
calm_refusal because.NameTooLong of = (refl, refl)
calm_refusal (because.NoPoint last) of = (refl, refl)
calm_refusal because.NoSnap of = (refl, refl)

calm_reply : (r : Reply) → ((why : Refusal) → r ≡ replies.Refused why → (is_of_disk why ≡ false) ⊎ (why ≡ because.NoMemory)) → (is_unread r ≡ false) × (is_failed r ≡ false)
calm_reply replies.Ok of = (refl, refl)
calm_reply (replies.Bytes bytes) of = (refl, refl)
calm_reply (replies.Stat stat) of = (refl, refl)
calm_reply (replies.Names names) of = (refl, refl)
calm_reply (replies.Synced n) of = (refl, refl)
calm_reply (replies.DurableAt n) of = (refl, refl)
calm_reply (replies.Known n) of = (refl, refl)
calm_reply replies.Bad of = (refl, refl)
calm_reply (replies.Refused why) of = calm_refusal why (of why refl)

-- A tick in which no call failed leaves the session.
session_ticks : (tells : Bool) → IsTrue tells → (s t : State) → Ticks tells false s t → (f : Session) → s.books.stopped ≡ false → IsSession s f → IsSession t f
session_ticks tells told s t ticks f going h = record {
  tree = subst (λ (g : Geometry). IsTreeOf g t.map f.tree) (sym ticks.moves.pipeline.geom) (subst (λ (m : Blocks). IsTreeOf s.books.geom m f.tree) (sym (ticks.moves.map told)) h.tree);
  limit = h.limit ∙ ap bounds_of (sym ticks.moves.pipeline.geom);
  points = λ _. h.points going ∙ sym ticks.moves.pipeline.point;
  changed = λ _. h.changed going ∙ ap (λ (r : Running). nat_lt 0 r.weight) (sym ticks.moves.pipeline.running);
  durable = omega (arith, h.durable, ticks.moves.pipeline.floor);
}

module _ {S : Type 0} (tells : Bool) (state : S → State) where
  still : (old new : S) → new ≡ old → Counted false false (state old) (state new)
  still old new same = subst (λ (s : S). Counted false false (state old) (state s)) (sym same) (record { geom = refl; read_faults = refl; faults = refl; stops = λ going. going; over = λ before. before })

  ticked : (failed : Bool) (old new : S) → Ticks tells failed (state old) (state new) → Counted false failed (state old) (state new)
  ticked failed old new ticks = record {
    geom = ticks.moves.pipeline.geom;
    read_faults = ticks.moves.disk.read_faults;
    faults = ticks.moves.disk.faults;
    stops = λ going. ticks.moves.disk.stopped;
    over = λ before. over_by failed _ _ _ ticks.moves.disk.stopped ticks.moves.disk.faults;
  }

  carried : (cmd : Cmd) (result : Result Reply Refusal) (mid new : S) → Carries tells cmd result (state mid) (state new) → Counted (is_read_fault result) (is_disk_fault result) (state mid) (state new)
  carried cmd result mid new carries = record {
    geom = carries.runs.geom;
    read_faults = carries.runs.read_faults;
    faults = carries.runs.faults;
    stops = λ going. carries.runs.stopped;
    over = λ before. over_by (is_disk_fault result) _ _ _ carries.runs.stopped carries.runs.faults;
  }

  -- a sync is never refused for a failed read
  sync_unread : (result : Result Reply Refusal) → IfErr result (λ why. (why ≡ because.DiskFault) ⊎ (why ≡ because.NoMemory)) → is_read_fault result ≡ false
  sync_unread (Ok reply) of = refl
  sync_unread (Err why) (inl fault) = ap (λ (w : Refusal). is_read_fault (Err w)) fault
  sync_unread (Err why) (inr memory) = ap (λ (w : Refusal). is_read_fault (Err w)) memory

  synced : (orders : Bool) (cmd : Cmd) (result : Result Reply Refusal) (mid new : S) → SyncsSession tells orders cmd result (state mid) (state new) → Counted (is_read_fault result) (is_disk_fault result) (state mid) (state new)
  synced orders cmd result mid new syncs = subst (λ (unread : Bool). Counted unread (is_disk_fault result) (state mid) (state new)) (sym (sync_unread result syncs.refused)) (record {
    geom = syncs.geom;
    read_faults = syncs.disk.read_faults;
    faults = syncs.disk.faults;
    stops = λ going. syncs.disk.stopped;
    over = λ before. over_by (is_disk_fault result) _ _ _ syncs.disk.stopped syncs.disk.faults;
  })

  -- nor is a wait for a point
  wait_unread : (result : Result Reply Refusal) → IfErr result (λ why. why ≡ because.DiskFault) → is_read_fault result ≡ false
  wait_unread (Ok reply) of = refl
  wait_unread (Err why) fault = ap (λ (w : Refusal). is_read_fault (Err w)) fault

  waited : (n : ℕ) (result : Result Reply Refusal) (mid new : S) → WaitsSession tells n result (state mid) (state new) → Counted (is_read_fault result) (is_disk_fault result) (state mid) (state new)
  waited n result mid new waits = subst (λ (unread : Bool). Counted unread (is_disk_fault result) (state mid) (state new)) (sym (wait_unread result waits.refused)) (record {
    geom = waits.runs.pipeline.geom;
    read_faults = waits.runs.disk.read_faults;
    faults = waits.runs.disk.faults;
    stops = λ going. waits.runs.disk.stopped;
    over = λ before. over_by (is_disk_fault result) _ _ _ waits.runs.disk.stopped waits.runs.disk.faults;
  })

  asked : (reply : Reply) (result : Result Reply Refusal) (mid new : S) → (result ≡ Ok reply) × (new ≡ mid) → Counted (is_read_fault result) (is_disk_fault result) (state mid) (state new)
  asked reply result mid new same = subst (λ (r : Result Reply Refusal). Counted (is_read_fault r) (is_disk_fault r) (state mid) (state new)) (sym same.0) (still mid new same.1)

  ran : (cmd : Cmd) (result : Result Reply Refusal) (mid new : S) → Runs tells state cmd result mid new → Counted (is_read_fault result) (is_disk_fault result) (state mid) (state new)
  ran Osync result mid new runs = synced true Osync result mid new runs
  ran Dsync result mid new runs = synced false Dsync result mid new runs
  ran Durable result mid new runs = asked _ result mid new runs
  ran (Dwait n) result mid new runs = waited n result mid new runs
  ran Poll result mid new runs = asked _ result mid new runs
  ran (Mkdir path) result mid new runs = carried (Mkdir path) result mid new runs
  ran (Create path) result mid new runs = carried (Create path) result mid new runs
  ran (Write path offset bytes) result mid new runs = carried (Write path offset bytes) result mid new runs
  ran (Fill path offset count byte) result mid new runs = carried (Fill path offset count byte) result mid new runs
  ran (Read path offset count) result mid new runs = carried (Read path offset count) result mid new runs
  ran (Truncate path size) result mid new runs = carried (Truncate path size) result mid new runs
  ran (Link path other) result mid new runs = carried (Link path other) result mid new runs
  ran (Unlink path) result mid new runs = carried (Unlink path) result mid new runs
  ran (Rmdir path) result mid new runs = carried (Rmdir path) result mid new runs
  ran (Rename from to) result mid new runs = carried (Rename from to) result mid new runs
  ran (Stat path) result mid new runs = carried (Stat path) result mid new runs
  ran (ListNames path) result mid new runs = carried (ListNames path) result mid new runs
  ran (Snap name) result mid new runs = carried (Snap name) result mid new runs
  ran (Unsnap name) result mid new runs = carried (Unsnap name) result mid new runs
  ran Snaps result mid new runs = carried Snaps result mid new runs
  ran (At name look) result mid new runs = carried (At name look) result mid new runs
  ran Bad result mid new runs = carried Bad result mid new runs

  -- the counts of a tick in which no call failed, and those of what came behind it
  behind : (unread failed : Bool) (old mid new : State) → Counted false false old mid → Counted unread failed mid new → Counted unread failed old new
  behind unread failed old mid new a b = record {
    geom = b.geom ∙ a.geom;
    read_faults = b.read_faults ∙ ap (after_call unread) a.read_faults;
    faults = b.faults ∙ ap (after_call failed) a.faults;
    stops = λ going. b.stops (a.stops going);
    over = λ before. b.over (a.over before);
  }

  begun : (cmd : Cmd) (reply : Reply) (old new : S) (b : Began tells state cmd reply old new) → Counted (is_read_fault b.result) (is_disk_fault b.result) (state old) (state new)
  begun cmd reply old new b = by b.ran
    where
      by : (Ticks tells true (state old) (state new) × (b.result ≡ Err because.DiskFault)) ⊎ (Ticks tells false (state old) (state b.mid) × Runs tells state cmd b.result b.mid new) → Counted (is_read_fault b.result) (is_disk_fault b.result) (state old) (state new)
      by (inl failed) = subst (λ (r : Result Reply Refusal). Counted (is_read_fault r) (is_disk_fault r) (state old) (state new)) (sym failed.1) (ticked true old new failed.0)
      by (inr (ticks, runs)) = behind (is_read_fault b.result) (is_disk_fault b.result) (state old) (state b.mid) (state new) (ticked false old b.mid ticks) (ran cmd b.result b.mid new runs)

  -- whatever came of a command, so much is known of its blocks
  pub record Moved (old new : State) : Type 0 where
    pub unread : Bool
    pub failed : Bool
    pub counted : Counted unread failed old new

  module _ (cmd : Cmd) (reply : Reply) (old new : S) (applies : Applies tells state cmd reply old new) where
    pub moved : Moved (state old) (state new)
    moved = by (none_or_one cmd)
      where
        rests : new ≡ old → Moved (state old) (state new)
        rests same = record { unread = false; failed = false; counted = still old new same }

        goes : Began tells state cmd reply old new → Moved (state old) (state new)
        goes b = record { unread = is_read_fault b.result; failed = is_disk_fault b.result; counted = begun cmd reply old new b }

        by_spent : cmd ≢ Bad → (state old).books.stopped ≡ false → (is_spent (state old).books ≡ true) ⊎ (is_spent (state old).books ≡ false) → Moved (state old) (state new)
        by_spent meant run (inl used) = rests (applies.spent meant run used).1
        by_spent meant run (inr left) = goes (applies.began meant run left)

        by_stopped : cmd ≢ Bad → ((state old).books.stopped ≡ true) ⊎ ((state old).books.stopped ≡ false) → Moved (state old) (state new)
        by_stopped meant (inl over) = rests (applies.stopped meant over).1
        by_stopped meant (inr run) = by_spent meant run (cases_Bool (is_spent (state old).books))

        by : (cmd ≡ Bad) ⊎ (cmd ≢ Bad) → Moved (state old) (state new)
        by (inl none) = rests (applies.bad none).1
        by (inr meant) = by_stopped meant (cases_Bool (state old).books.stopped)

    -- Where the blocks tell, the reply says which call failed.
    module _ (told : IsTrue tells) (alone : (was now : Session) (c : Cmd) (why : Refusal) → Answers is_of_memory was c (replies.Refused why) now → (is_of_disk why ≡ false) ⊎ (why ≡ because.NoMemory)) (f : Session) (session : IsSession (state old) f) where
      -- as the tree answers
      of_tree : (g : Session) (c : Cmd) → (is_unread (step g c).1 ≡ false) × (is_failed (step g c).1 ≡ false)
      of_tree g c = calm_reply (step g c).1 (λ why is. alone g (step g c).0 c why (inl (ap (λ (r : Reply). ((step g c).0, r)) is)))

      abbrev Says : Reply → Result Reply Refusal → Type 0
      Says r result = (is_unread r ≡ is_read_fault result) × (is_failed r ≡ is_disk_fault result)

      answers : (g : Session) (c : Cmd) (r : Reply) → r ≡ (step g c).1 → Says r (Ok r)
      answers g c r is = (ap is_unread is ∙ (of_tree g c).0, ap is_failed is ∙ (of_tree g c).1)

      says_carried : (c : Cmd) (result : Result Reply Refusal) (mid : S) → IsSession (state mid) f → Carries tells c result (state mid) (state new) → Says (reply_for result) result
      says_carried c (Ok r) mid h carries = answers f c r (carries.done told f h).answer
      says_carried c (Err why) mid h carries = (refl, refl)

      says_synced : (orders : Bool) (c : Cmd) (result : Result Reply Refusal) (mid : S) → IsSession (state mid) f → SyncsSession tells orders c result (state mid) (state new) → Says (reply_for result) result
      says_synced orders c (Ok r) mid h syncs = answers f c r (syncs.done told f h).0
      says_synced orders c (Err why) mid h syncs = (refl, refl)

      says_waited : (n : ℕ) (result : Result Reply Refusal) (mid : S) → IsSession (state mid) f → WaitsSession tells n result (state mid) (state new) → Says (reply_for result) result
      says_waited n (Ok r) mid h waits = answers f (Dwait n) r (waits.done told f h).0
      says_waited n (Err why) mid h waits = (refl, refl)

      says_asked : (r : Reply) (result : Result Reply Refusal) → is_unread r ≡ false → is_failed r ≡ false → result ≡ Ok r → Says (reply_for result) result
      says_asked r result unread failed is = subst (λ (x : Result Reply Refusal). Says (reply_for x) x) (sym is) (unread, failed)

      says_ran : (c : Cmd) (result : Result Reply Refusal) (mid : S) → IsSession (state mid) f → Runs tells state c result mid new → Says (reply_for result) result
      says_ran Osync result mid h runs = says_synced true Osync result mid h runs
      says_ran Dsync result mid h runs = says_synced false Dsync result mid h runs
      says_ran Durable result mid h runs = says_asked (replies.Known (state mid).books.floor) result refl refl runs.0
      says_ran (Dwait n) result mid h runs = says_waited n result mid h runs
      says_ran Poll result mid h runs = says_asked replies.Ok result refl refl runs.0
      says_ran (Mkdir path) result mid h runs = says_carried (Mkdir path) result mid h runs
      says_ran (Create path) result mid h runs = says_carried (Create path) result mid h runs
      says_ran (Write path offset bytes) result mid h runs = says_carried (Write path offset bytes) result mid h runs
      says_ran (Fill path offset count byte) result mid h runs = says_carried (Fill path offset count byte) result mid h runs
      says_ran (Read path offset count) result mid h runs = says_carried (Read path offset count) result mid h runs
      says_ran (Truncate path size) result mid h runs = says_carried (Truncate path size) result mid h runs
      says_ran (Link path other) result mid h runs = says_carried (Link path other) result mid h runs
      says_ran (Unlink path) result mid h runs = says_carried (Unlink path) result mid h runs
      says_ran (Rmdir path) result mid h runs = says_carried (Rmdir path) result mid h runs
      says_ran (Rename from to) result mid h runs = says_carried (Rename from to) result mid h runs
      says_ran (Stat path) result mid h runs = says_carried (Stat path) result mid h runs
      says_ran (ListNames path) result mid h runs = says_carried (ListNames path) result mid h runs
      says_ran (Snap name) result mid h runs = says_carried (Snap name) result mid h runs
      says_ran (Unsnap name) result mid h runs = says_carried (Unsnap name) result mid h runs
      says_ran Snaps result mid h runs = says_carried Snaps result mid h runs
      says_ran (At name look) result mid h runs = says_carried (At name look) result mid h runs
      says_ran Bad result mid h runs = says_carried Bad result mid h runs

      -- a command that is refused at once, by no call of the disk
      at_once : (r : Reply) → is_unread r ≡ false → is_failed r ≡ false → (reply ≡ r) × (new ≡ old) → Counted (is_unread reply) (is_failed reply) (state old) (state new)
      at_once r unread failed is = subst (λ (u : Bool). Counted u (is_failed reply) (state old) (state new)) (sym (ap is_unread is.0 ∙ unread)) (subst (λ (x : Bool). Counted false x (state old) (state new)) (sym (ap is_failed is.0 ∙ failed)) (still old new is.1))

      counts_begun : (state old).books.stopped ≡ false → Began tells state cmd reply old new → Counted (is_unread reply) (is_failed reply) (state old) (state new)
      counts_begun going b = let says = by b.ran in
          subst (λ (u : Bool). Counted u (is_failed reply) (state old) (state new)) (sym (ap is_unread b.is ∙ says.0)) (subst (λ (x : Bool). Counted (is_read_fault b.result) x (state old) (state new)) (sym (ap is_failed b.is ∙ says.1)) (begun cmd reply old new b))
        where
          by : (Ticks tells true (state old) (state new) × (b.result ≡ Err because.DiskFault)) ⊎ (Ticks tells false (state old) (state b.mid) × Runs tells state cmd b.result b.mid new) → Says (reply_for b.result) b.result
          by (inl failed) = subst (λ (x : Result Reply Refusal). Says (reply_for x) x) (sym failed.1) (refl, refl)
          by (inr (ticked_now, runs)) = says_ran cmd b.result b.mid (session_ticks tells told (state old) (state b.mid) ticked_now f going session) runs

      pub counts_by_reply : Counted (is_unread reply) (is_failed reply) (state old) (state new)
      counts_by_reply = by (none_or_one cmd)
        where
          by_spent : cmd ≢ Bad → (state old).books.stopped ≡ false → (is_spent (state old).books ≡ true) ⊎ (is_spent (state old).books ≡ false) → Counted (is_unread reply) (is_failed reply) (state old) (state new)
          by_spent meant run (inl used) = at_once (replies.Refused because.Spent) refl refl (applies.spent meant run used)
          by_spent meant run (inr left) = counts_begun run (applies.began meant run left)

          by_stopped : cmd ≢ Bad → ((state old).books.stopped ≡ true) ⊎ ((state old).books.stopped ≡ false) → Counted (is_unread reply) (is_failed reply) (state old) (state new)
          by_stopped meant (inl over) = at_once (replies.Refused because.Stopped) refl refl (applies.stopped meant over)
          by_stopped meant (inr run) = by_spent meant run (cases_Bool (is_spent (state old).books))

          by : (cmd ≡ Bad) ⊎ (cmd ≢ Bad) → Counted (is_unread reply) (is_failed reply) (state old) (state new)
          by (inl none) = at_once replies.Bad refl refl (applies.bad none)
          by (inr meant) = by_stopped meant (cases_Bool (state old).books.stopped)
