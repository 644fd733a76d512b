-- Commands that make a tree, in the session of the new disk: one that is done, one that is refused, and a sync.
use Rattle.std.proofs.Common.{◌≡◌, ◌≢◌, ◌⊎◌, inl, inr, ℕ, zero, suc, ◌+◌, ◌-◌, ◌*◌, ◌^◌, ◌<◌, ◌≤◌, Bool, true, false, true≢false, List, [], ◌∷◌, ◌++◌, append-nil, length, length-append, refl, sym, ap, ◌∙◌, subst, arith}
use Rattle.std.proofs.Math.Logic.{∥∥₁_map}
use Rattle.std.specs.FinMap.{empty, len}
use Rattle.base_types.specs.Seal.{Blocks}
use Rattle.disk_contract.specs.Crash.{IsHonest}
use Rattle.layout_geometry.specs.Geometry.{Geometry}
use Rattle.lang_tree.specs.declared.command.Cmd.{Cmd}
use Rattle.lang_tree.specs.declared.command.Cmd.TheVariants.{Dsync, Durable, Osync}
use Rattle.lang_tree.specs.declared.command.Refusal.{Refusal}
use Rattle.lang_tree.specs.declared.command.Refusal.TheVariants.{DiskFault, TooBig}
use Rattle.lang_tree.specs.declared.command.Refusal.TheVariants as because
use Rattle.lang_tree.specs.declared.command.Reply.{Reply}
use Rattle.lang_tree.specs.declared.command.Reply.TheVariants.{Ok as Done, Refused, Known, DurableAt, Synced}
use Rattle.lang_tree.specs.Points.{after_reply, floor, is_sync}
use Rattle.lang_tree.specs.Run.{Answers, is_of_disk}
use Rattle.lang_tree.specs.Step.{Session, dsync, next_point, osync, start, step}
use Rattle.lang_tree.specs.Tree.{Bounds, HasSmallFiles, IsSound, Tree}
use Rattle.lang_making.specs.Making.{HasFewPaths, HasShortNames, making, tree_after}
use Rattle.lang_making.specs.Renumbered.{DifferInNumbers}
use Rattle.crash_stands.specs.Bounds.{bounds_of}
use Rattle.crash_stands.specs.Stands.{IsTreeOf, StandsFor}
use Rattle.engine_blocks.specs.State.{State}
use Rattle.fs_session.specs.DiskRoom.{AnswersOn, ComesBack}
use Rattle.fs_session.specs.Memory.{room_of}
use Rattle.fs_session.specs.Room.{Room, figures_in, left_in, most_weight}
use Rattle.fs_session.specs.Sessions.{IsSession}
use Rattle.fs_session.specs.Space.{IsTooBig}
use Rattle.cmd_session.specs.Histories.{HasNoFault, session_after}
use Rattle.cmd_session.specs.Serving.{HasServed}
use Rattle.cmd_session.specs.Shared.{floor_at_last}
use Rattle.cmd_upgrade.specs.declared.refusal.UpgradeRefusal.TheVariants.{Fault, NoMemory}
use Rattle.cmd_upgrade.specs.Lacks.{IsntTaken, LacksRoom, UsesNumbersUp, done_of}
use Rattle.cmd_upgrade.specs.Looked.{HasMade, HasMadeWith, HoldsNow}
use Rattle.cmd_upgrade.specs.Plans.{CanBeMade}
use Rattle.cmd_upgrade.specs.Refusals.{of_refusal, of_reply}
use Rattle.cmd_upgrade.proofs.Asked.{IsAsked, LacksIn, Refuses, calm_more, failed_counts, refused_sync, refused_why, runs_more, synced_weight}
use Rattle.cmd_upgrade.proofs.LastPoint.{stands_for_all}

some_none : (n : ℕ) → suc n ≡ 0 → ⊥
some_none n e = omega (arith, e)

none_some : (n : ℕ) → 0 ≡ suc n → ⊥
none_some n e = omega (arith, e)

one_less : (m n : ℕ) → suc m ≡ suc n → m ≡ n
one_less m n e = omega (arith, e)

session_more : (s : Session) (cmds : List Cmd) (replies : List Reply) (cmd : Cmd) (reply : Reply) → length cmds ≡ length replies
    → session_after s (cmds ++ cmd ∷ []) (replies ++ reply ∷ []) ≡ after_reply (session_after s cmds replies) cmd reply
session_more s [] [] cmd reply e = refl
session_more s [] (r ∷ replies) cmd reply e = absurd (none_some (length replies) e)
session_more s (c ∷ cmds) [] cmd reply e = absurd (some_none (length cmds) e)
session_more s (c ∷ cmds) (r ∷ replies) cmd reply e = session_more (after_reply s c r) cmds replies cmd reply (one_less (length cmds) (length replies) e)

-- what was done, with one command more
done_more : (cmds : List Cmd) (replies : List Reply) (cmd : Cmd) (reply : Reply) → length cmds ≡ length replies → done_of (cmds ++ cmd ∷ []) (replies ++ reply ∷ []) ≡ done_of cmds replies ++ done_of (cmd ∷ []) (reply ∷ [])
done_more [] [] cmd reply e = refl
done_more [] (r ∷ replies) cmd reply e = absurd (none_some (length replies) e)
done_more (c ∷ cmds) [] cmd reply e = absurd (some_none (length cmds) e)
done_more (c ∷ cmds) (Done ∷ replies) cmd reply e = ap (λ (cs : List Cmd). c ∷ cs) (done_more cmds replies cmd reply (one_less (length cmds) (length replies) e))
done_more (c ∷ cmds) (other ∷ replies) cmd reply e = done_more cmds replies cmd reply (one_less (length cmds) (length replies) e)

-- the session by now
abbrev pub session_by : (extra : ℕ) (g : Geometry) (front : List Cmd) (s : State) → HasMadeWith extra g front s → Session
session_by extra g front s h = session_after (start (bounds_of g)) h.cmds h.replies

pub limit_is : (extra : ℕ) (g : Geometry) (front : List Cmd) (s : State) (h : HasMadeWith extra g front s) → (session_by extra g front s h).limit ≡ bounds_of g
limit_is extra g front s h = h.served.goes_on.session.limit ∙ ap bounds_of h.served.geom

-- in the room of the session there is the same tree
abbrev pub OneTree : Type 0
OneTree = (g : Geometry) (m : Blocks) (t u : Tree) → IsTreeOf g m t → IsTreeOf g m u → t ≡ u

pub end_tree : OneTree → (extra : ℕ) (g : Geometry) (front : List Cmd) (s : State) (h : HasMadeWith extra g front s) → h.end.tree ≡ tree_after (bounds_of g) front
end_tree alone extra g front s h = alone s.books.geom s.map h.end.tree (session_by extra g front s h).tree h.is_end.tree h.served.goes_on.session.tree ∙ h.tree

pub end_limit : (extra : ℕ) (g : Geometry) (front : List Cmd) (s : State) (h : HasMadeWith extra g front s) → h.end.limit ≡ bounds_of g
end_limit extra g front s h = h.is_end.limit ∙ ap bounds_of h.served.geom

-- one command more, which was answered so
pub made_more : (extra then_extra : ℕ) (g : Geometry) (front more : List Cmd) (old new : State) (cmd : Cmd) (reply : Reply) (mark : ℕ) (h : HasMadeWith extra g front old)
    → HasServed g (start (bounds_of g)).tree h.mounted (h.cmds ++ cmd ∷ []) (h.replies ++ reply ∷ []) (h.marks ++ mark ∷ []) new → IsAsked cmd reply old new → reply ≢ Refused DiskFault
    → (after_reply (session_by extra g front old h) cmd reply).tree ≡ tree_after (bounds_of g) (front ++ more) → done_of (cmd ∷ []) (reply ∷ []) ≡ more → extra + 1 ≤ 3 * length more + then_extra
    → HasMadeWith then_extra g (front ++ more) new
made_more extra then_extra g front more old new cmd reply mark h served a other tree done few = record {
  mounted = h.mounted;
  cmds = h.cmds ++ cmd ∷ [];
  replies = h.replies ++ reply ∷ [];
  marks = h.marks ++ mark ∷ [];
  served = served;
  tree = ap (λ (u : Session). u.tree) (session_more (start (bounds_of g)) h.cmds h.replies cmd reply h.served.answered) ∙ tree;
  calm = calm_more h.replies reply h.calm other;
  done = done_more h.cmds h.replies cmd reply h.served.answered ∙ ap (λ (cs : List Cmd). cs ++ done_of (cmd ∷ []) (reply ∷ [])) h.done ∙ ap (λ (cs : List Cmd). front ++ cs) done;
  few = omega (arith, h.few, few, length-append h.cmds (cmd ∷ []), length-append front more);
  rises = omega (arith, h.rises, a.rises, length-append h.cmds (cmd ∷ []));
  first = h.first;
  begins = h.begins;
  end = next.0;
  is_end = next.1;
  rooms = runs_more g (start (bounds_of g)) h.end next.0 h.first (room_of old) (room_of new) h.cmds h.replies cmd reply h.rooms
      (subst (λ (k : Geometry). AnswersOn k h.end (room_of old) cmd reply next.0 (room_of new)) h.served.geom next.3);
}
  where
    next : (next : Session) × IsSession new next × (new.books.geom ≡ old.books.geom) × AnswersOn old.books.geom h.end (room_of old) cmd reply next (room_of new)
    next = a.answers h.end h.is_end

-- a sync leaves the tree
pub osync_tree : (s : Session) (b : Bool) → (osync s b).0.tree ≡ s.tree
osync_tree s true = refl
osync_tree s false = refl

pub dsync_tree : (s : Session) (b : Bool) → (dsync s b).0.tree ≡ s.tree
dsync_tree s true = refl
dsync_tree s false = refl

-- and nothing changed since then
pub dsync_done : (s : Session) (b : Bool) → s.changed ≡ b → (dsync s b).0.changed ≡ false
dsync_done s true e = refl
dsync_done s false e = e

-- a command that is done where nothing refuses it is done, or refused by the disk
pub done_or_refused : (s next : Session) (cmd : Cmd) (reply : Reply) → Answers is_of_disk s cmd reply next → (step s cmd).1 ≡ Done → (reply ≡ Done) ⊎ ((why : Refusal) × (reply ≡ Refused why))
done_or_refused s next cmd reply (inl is) done = inl (sym (ap (λ (r : Session × Reply). r.1) is) ∙ done)
done_or_refused s next cmd reply (inr (inl r)) done = inr (r.0, r.2)
done_or_refused s next cmd reply (inr (inr k)) done = let other = sym (ap (λ (c : Cmd). (step s c).1) k.1.asked) ∙ done in absurd cc

-- what the law says of the next command
abbrev pub NextIsDone : Type 0
NextIsDone = (limit : Bounds) (most : ℕ) (t : Tree) (front back : List Cmd) (cmd : Cmd) (s : Session) → IsSound most t → HasSmallFiles t.nodes
    → HasFewPaths t.names → HasShortNames limit.layout t.names → len t.nodes ≤ limit.nodes → making t ≡ front ++ cmd ∷ back → s.limit ≡ limit → s.tree ≡ tree_after limit front
    → ((step s cmd).1 ≡ Done) × ((step s cmd).0.tree ≡ tree_after limit (front ++ cmd ∷ []))

-- the refusal of a command on the new disk
abbrev pub Fails : Geometry → Tree → State → Type 0
Fails g t s = (0 < s.counts.read_faults) ⊎ ((0 < s.counts.faults) ⊎ (UsesNumbersUp t ⊎ LacksRoom g t))

-- want of memory is no fault
memory_stops : (why : Refusal) → of_refusal why ≡ Fault → why ≡ because.NoMemory → ⊥
memory_stops why fault is = let e : NoMemory ≡ Fault = sym (ap of_refusal is) ∙ fault in cc

-- where the journal's numbers are used up, the commands are many
many : (extra : ℕ) (g : Geometry) (front : List Cmd) (t : Tree) (s : State) (h : HasMadeWith extra g front s) → 3 * length front + extra ≤ 3 * length (making t) → 2 ^ 63 - 8 ≤ s.books.turns → UsesNumbersUp t
many extra g front t s h few spent = omega (arith, h.few, h.rises, few, spent)

module _ (alone : OneTree) (law : NextIsDone) (extra : ℕ) (low : extra ≤ 2) (g : Geometry) (t : Tree) (front back : List Cmd) (can : CanBeMade g t) (cmd : Cmd) (is : making t ≡ front ++ cmd ∷ back) (old : State) (h : HasMadeWith extra g front old) where
  next_of : (f : Session) → f.limit ≡ bounds_of g → f.tree ≡ tree_after (bounds_of g) front → ((step f cmd).1 ≡ Done) × ((step f cmd).0.tree ≡ tree_after (bounds_of g) (front ++ cmd ∷ []))
  next_of f limit tree = law (bounds_of g) can.most t front back cmd f can.sound can.small can.few can.short can.nodes is limit tree

  next_is : ((step (session_by extra g front old h) cmd).1 ≡ Done) × ((step (session_by extra g front old h) cmd).0.tree ≡ tree_after (bounds_of g) (front ++ cmd ∷ []))
  next_is = next_of (session_by extra g front old h) (limit_is extra g front old h) h.tree

  -- it was done
  pub made_done : (new : State) (mark : ℕ) → HasServed g (start (bounds_of g)).tree h.mounted (h.cmds ++ cmd ∷ []) (h.replies ++ Done ∷ []) (h.marks ++ mark ∷ []) new → IsAsked cmd Done old new → HasMade g (front ++ cmd ∷ []) new
  made_done new mark served a = made_more extra 0 g front (cmd ∷ []) old new cmd Done mark h served a (λ e. absurd cc) next_is.1 refl (omega (arith, low))

  -- the tree of the session in its room does it, too
  seen : (w : Refusal) → (step h.end cmd).1 ≡ Refused w → ⊥
  seen w e = let other : Done ≡ Refused w = sym (next_of h.end (end_limit extra g front old h) (end_tree alone extra g front old h)).0 ∙ e in cc

  -- so it was refused where a call failed, or it isn't taken
  refused : (new : State) (why : Refusal) → IsAsked cmd (Refused why) old new → ((weight cost most : ℕ) → why ≢ TooBig weight cost most) ⊎ (old.books.running.weight ≡ 0) → of_refusal why ≡ Fault → Fails g t new
  refused new why a fresh fault = by (refused_why g h.end next.0 why (room_of new) (memory_stops why fault) (room_of old) cmd seen (subst (λ (k : Geometry). AnswersOn k h.end (room_of old) cmd (Refused why) next.0 (room_of new)) h.served.geom next.3))
    where
      next : (next : Session) × IsSession new next × (new.books.geom ≡ old.books.geom) × AnswersOn old.books.geom h.end (room_of old) cmd (Refused why) next (room_of new)
      next = a.answers h.end h.is_end

      big_at_first : (r : Room) → ComesBack g h.end (room_of old) r → IsTooBig (left_in g h.end r) r.weight (most_weight g) (figures_in g h.end r cmd) why → ((weight cost most : ℕ) → why ≢ TooBig weight cost most) ⊎ (old.books.running.weight ≡ 0) → r.weight ≡ 0
      big_at_first r comes big (inl other) = absurd (other r.weight (figures_in g h.end r cmd).cost (most_weight g) big.is)
      big_at_first r comes big (inr none) = comes.weight ∙ none

      isnt_taken : (r : Room) → ComesBack g h.end (room_of old) r → LacksIn g h.end r cmd why → IsntTaken g h.end r cmd why
      isnt_taken r comes (inl (inl full)) = inl full
      isnt_taken r comes (inl (inr big)) = inr (inl (big_at_first r comes big fresh, big))
      isnt_taken r comes (inr scatters) = inr (inr scatters)

      by : Refuses g h.end (room_of old) cmd why → Fails g t new
      by (inl (inl stopped)) = absurd (true≢false (sym (a.stopped h.end h.is_end (ap Refused stopped)) ∙ h.served.goes_on.going h.calm))
      by (inl (inr spent)) =
          inr (inr (inl (many extra g front t old h (omega (arith, low, ap (λ (cs : List Cmd). length cs) is, length-append front (cmd ∷ back))) (a.spent h.end h.is_end (ap Refused spent)).0)))
      by (inr (inl (inl failed))) = inr (inl (failed_counts (Refused why) old new (a.counts h.end h.is_end) (ap Refused failed)))
      by (inr (inl (inr read))) = inl (a.read h.end h.is_end (ap Refused read))
      by (inr (inr lacks)) = inr (inr (inr (record {
        front = front;
        cmd = cmd;
        back = back;
        place = is;
        first = h.first;
        begins = h.begins;
        cmds = h.cmds;
        replies = h.replies;
        session = h.end;
        room = room_of old;
        run = h.rooms;
        done = h.done;
        calm = h.calm;
        room_now = lacks.0;
        comes_back = lacks.1;
        why = why;
        refused = isnt_taken lacks.0 lacks.1 lacks.2;
      })))

  -- it wasn't done
  pub stopped : (new : State) (reply : Reply) → ((f : Session) → IsSession old f → (next : Session) × Answers is_of_disk f cmd reply next) → IsAsked cmd reply old new → reply ≢ Done
      → ((weight cost most : ℕ) → reply ≢ Refused (TooBig weight cost most)) ⊎ (old.books.running.weight ≡ 0) → of_reply reply ≡ Fault → Fails g t new
  stopped new reply answers a other fresh fault = by (done_or_refused (session_by extra g front old h) b.0 cmd reply b.1 next_is.0)
    where
      b : (next : Session) × Answers is_of_disk (session_by extra g front old h) cmd reply next
      b = answers (session_by extra g front old h) h.served.goes_on.session

      still : (why : Refusal) → reply ≡ Refused why → ((weight cost most : ℕ) → reply ≢ Refused (TooBig weight cost most)) ⊎ (old.books.running.weight ≡ 0) → ((weight cost most : ℕ) → why ≢ TooBig weight cost most) ⊎ (old.books.running.weight ≡ 0)
      still why e (inl none) = inl (λ weight cost most big. none weight cost most (e ∙ ap Refused big))
      still why e (inr none) = inr none

      by : (reply ≡ Done) ⊎ ((why : Refusal) × (reply ≡ Refused why)) → Fails g t new
      by (inl done) = absurd (other done)
      by (inr r) = refused new r.0 (subst (λ (x : Reply). IsAsked cmd x old new) r.1 a) (still r.0 r.1 fresh) (sym (ap of_reply r.1) ∙ fault)

module _ (extra : ℕ) (g : Geometry) (front : List Cmd) (old : State) (h : HasMadeWith extra g front old) where
  -- a refusal of the disk leaves what was made
  pub made_refused : (new : State) (cmd : Cmd) (why : Refusal) (mark : ℕ) → HasServed g (start (bounds_of g)).tree h.mounted (h.cmds ++ cmd ∷ []) (h.replies ++ Refused why ∷ []) (h.marks ++ mark ∷ []) new
      → IsAsked cmd (Refused why) old new → Refused why ≢ Refused DiskFault → HasMadeWith (extra + 1) g front new
  made_refused new cmd why mark served a other =
      subst (λ (cs : List Cmd). HasMadeWith (extra + 1) g cs new) (append-nil front)
      (made_more extra (extra + 1) g front [] old new cmd (Refused why) mark h served a other (h.tree ∙ ap (tree_after (bounds_of g)) (sym (append-nil front))) refl (omega arith))

  -- and so does a sync
  pub made_synced : (new : State) (n mark : ℕ) → HasServed g (start (bounds_of g)).tree h.mounted (h.cmds ++ Osync ∷ []) (h.replies ++ Synced n ∷ []) (h.marks ++ mark ∷ []) new
      → IsAsked Osync (Synced n) old new → HasMadeWith (extra + 1) g front new
  made_synced new n mark served a =
      subst (λ (cs : List Cmd). HasMadeWith (extra + 1) g cs new) (append-nil front)
      (made_more extra (extra + 1) g front [] old new Osync (Synced n) mark h served a (λ e. absurd cc)
      (osync_tree (session_by extra g front old h) (session_by extra g front old h).changed ∙ h.tree ∙ ap (tree_after (bounds_of g)) (sym (append-nil front))) refl (omega arith))

  -- behind which nothing is weighed
  pub nothing_weighed : (new : State) (n : ℕ) → IsAsked Osync (Synced n) old new → new.books.running.weight ≡ 0
  nothing_weighed new n a = let next = a.answers h.end h.is_end in synced_weight old.books.geom h.end next.0 (room_of old) (room_of new) n next.3

  -- a sync that isn't done is refused
  refused_sync_of : (t : Tree) (new : State) (cmd : Cmd) (why : Refusal) → is_sync cmd ≡ true → ((w : Refusal) → (step h.end cmd).1 ≡ Refused w → ⊥) → 3 * length front + extra ≤ 3 * length (making t)
      → IsAsked cmd (Refused why) old new → of_refusal why ≡ Fault → Fails g t new
  refused_sync_of t new cmd why sync seen few a fault = by (refused_sync old.books.geom h.end next.0 (room_of old) (room_of new) cmd why sync (memory_stops why fault) seen next.3)
    where
      next : (next : Session) × IsSession new next × (new.books.geom ≡ old.books.geom) × AnswersOn old.books.geom h.end (room_of old) cmd (Refused why) next (room_of new)
      next = a.answers h.end h.is_end

      by : ((why ≡ because.Stopped) ⊎ (why ≡ because.Spent)) ⊎ (why ≡ DiskFault) → Fails g t new
      by (inl (inl stopped)) = absurd (true≢false (sym (a.stopped h.end h.is_end (ap Refused stopped)) ∙ h.served.goes_on.going h.calm))
      by (inl (inr spent)) = inr (inr (inl (many extra g front t old h few (a.spent h.end h.is_end (ap Refused spent)).0)))
      by (inr failed) = inr (inl (failed_counts (Refused why) old new (a.counts h.end h.is_end) (ap Refused failed)))

  osync_seen : (w : Refusal) → (step h.end Osync).1 ≡ Refused w → ⊥
  osync_seen w e = by h.end.changed e
    where
      by : (b : Bool) → (osync h.end b).1 ≡ Refused w → ⊥
      by true e = cc
      by false e = cc

  dsync_seen : (w : Refusal) → (step h.end Dsync).1 ≡ Refused w → ⊥
  dsync_seen w e = by h.end.changed e
    where
      by : (b : Bool) → (dsync h.end b).1 ≡ Refused w → ⊥
      by true e = cc
      by false e = cc

  pub sync_stopped : (t : Tree) (new : State) (reply : Reply) → 3 * length front + extra ≤ 3 * length (making t) → ((f : Session) → IsSession old f → (next : Session) × Answers is_of_disk f Osync reply next) → IsAsked Osync reply old new
      → ((n : ℕ) → reply ≡ Synced n → ⊥) → of_reply reply ≡ Fault → Fails g t new
  sync_stopped t new reply few answers a other fault = by (answers (session_by extra g front old h) h.served.goes_on.session).1
    where
      done : (s next : Session) (b : Bool) → osync s b ≡ (next, reply) → ⊥
      done s next true e = other (next_point s.points) (sym (ap (λ (r : Session × Reply). r.1) e))
      done s next false e = other s.points (sym (ap (λ (r : Session × Reply). r.1) e))

      by : {next : Session} → Answers is_of_disk (session_by extra g front old h) Osync reply next → Fails g t new
      by {next = next} (inl e) = absurd (done (session_by extra g front old h) next (session_by extra g front old h).changed e)
      by (inr (inl r)) = refused_sync_of t new Osync r.0 refl osync_seen few (subst (λ (x : Reply). IsAsked Osync x old new) r.2 a) (sym (ap of_reply r.2) ∙ fault)
      by (inr (inr k)) = let e = k.1.asked in absurd cc

  pub dsync_stopped : (t : Tree) (new : State) (reply : Reply) → 3 * length front + extra ≤ 3 * length (making t) → ((f : Session) → IsSession old f → (next : Session) × Answers is_of_disk f Dsync reply next) → IsAsked Dsync reply old new
      → ((n : ℕ) → reply ≡ DurableAt n → ⊥) → of_reply reply ≡ Fault → Fails g t new
  dsync_stopped t new reply few answers a other fault = by (answers (session_by extra g front old h) h.served.goes_on.session).1
    where
      by : {next : Session} → Answers is_of_disk (session_by extra g front old h) Dsync reply next → Fails g t new
      by {next = next} (inl e) =
          absurd (other (dsync (session_by extra g front old h) (session_by extra g front old h).changed).0.points (sym (ap (λ (r : Session × Reply). r.1) e)))
      by (inr (inl r)) = refused_sync_of t new Dsync r.0 refl dsync_seen few (subst (λ (x : Reply). IsAsked Dsync x old new) r.2 a) (sym (ap of_reply r.2) ∙ fault)
      by (inr (inr k)) = let e = k.1.asked in absurd cc

-- A dsync that is done at the end.

-- it answers the last point
pub durable_is : (s next : Session) (k : ℕ) → Answers is_of_disk s Dsync (DurableAt k) next → k ≡ (dsync s s.changed).0.points
durable_is s next k (inl is) = let same : DurableAt (dsync s s.changed).0.points ≡ DurableAt k = ap (λ (r : Session × Reply). r.1) is in cc
durable_is s next k (inr (inl r)) = let other : DurableAt k ≡ Refused r.0 = r.2 in absurd cc
durable_is s next k (inr (inr m)) = let other : DurableAt k ≡ Known m.1.point = m.1.is in absurd cc

module _ (tells : (outside : Refusal → Bool) (old new : Session) (cmd : Cmd) (reply : Reply) → Answers outside old cmd reply new → new ≡ after_reply old cmd reply) where
  pub holds_all : (g : Geometry) (t tree : Tree) (new : State) (mounted k : ℕ) (cmds : List Cmd) (replies : List Reply) (marks : List ℕ)
      → HasServed g (start (bounds_of g)).tree mounted (cmds ++ Dsync ∷ []) (replies ++ DurableAt k ∷ []) (marks ++ length new.crash.log ∷ []) new
      → length marks ≡ length replies → length cmds ≡ length replies → HasNoFault (replies ++ DurableAt k ∷ [])
      → k ≡ (dsync (session_after (start (bounds_of g)) cmds replies) (session_after (start (bounds_of g)) cmds replies).changed).0.points
      → (session_after (start (bounds_of g)) cmds replies).tree ≡ tree → tree.snapshots ≡ empty → DifferInNumbers t tree → HoldsNow t new
  holds_all g t tree new mounted k cmds replies marks served marked answered calm last made alone alike img honest =
      ∥∥₁_map (subst (λ (n : ℕ). ∥ StandsFor n img e.tree ∥₁) (sym size) stands) (λ is. record { tree = e.tree; stands = is; alike = subst (DifferInNumbers t) (sym tree_is) alike; alone = ap (λ (u : Tree). u.snapshots) tree_is ∙ alone })
    where
      f : Session
      f = session_after (start (bounds_of g)) cmds replies

      e : Session
      e = session_after (start (bounds_of g)) (cmds ++ Dsync ∷ []) (replies ++ DurableAt k ∷ [])

      size : new.books.geom.n ≡ g.n
      size = ap (λ (x : Geometry). x.n) served.geom

      e_is : e ≡ (dsync f f.changed).0
      e_is = session_more (start (bounds_of g)) cmds replies Dsync (DurableAt k) answered

      tree_is : e.tree ≡ tree
      tree_is = ap (λ (u : Session). u.tree) e_is ∙ dsync_tree f f.changed ∙ made

      going : new.books.stopped ≡ false
      going = served.goes_on.going calm

      stands : ∥ StandsFor g.n img e.tree ∥₁
      stands = stands_for_all tells g.n new.crash.base new.crash.log (start (bounds_of g)) e mounted (cmds ++ Dsync ∷ []) (replies ++ DurableAt k ∷ []) (marks ++ length new.crash.log ∷ [])
          served.run served.marked refl (ap (λ (u : Session). u.changed) e_is ∙ dsync_done f f.changed refl)
          (served.goes_on.exact going ∙ ap (λ n. n + 1) (sym (served.goes_on.session.points going)))
          (subst (λ n. n ≤ floor (length new.crash.log) (replies ++ DurableAt k ∷ []) (marks ++ length new.crash.log ∷ [])) (last ∙ sym (ap (λ (u : Session). u.points) e_is))
          (floor_at_last (length new.crash.log) replies marks (DurableAt k) (length new.crash.log) marked (omega arith)))
          served.crashes img (subst (λ (n : ℕ). IsHonest n new.crash.base new.crash.log img) size honest)
