-- What goes back of a disk: one over which a log was kept, one of which no log was opened, and one of which no file system was.
use Rattle.std.proofs.Common.{◌≡◌, ◌⊎◌, inl, inr, ℕ, ◌<◌, ◌≤◌, nat_lt, Bool, true, false, true≢false, IsTrue, List, [], length, take, None, Result, Ok, Err, refl, sym, ap, ◌∙◌, subst, arith}
use Rattle.std.proofs.Math.Logic.{∥∥₁_map}
use Rattle.std.proofs.lemmas.Bool.{ltb-true, or_cases}
use Rattle.base_types.specs.Counts.{after_call}
use Rattle.base_types.specs.Seal.{Blocks}
use Rattle.disk_contract.specs.declared.bay.Mark.{Mark}
use Rattle.disk_contract.specs.declared.disk.Disk.{Ghosts}
use Rattle.disk_contract.specs.Crash.{IsHonest}
use Rattle.disk_contract.specs.Disk as disk
use Rattle.disk_contract.specs.Disk.{HasFailed}
use Rattle.disk_contract.specs.Bay.{has_faults}
use Rattle.lang_tree.specs.declared.command.Refusal.{Refusal}
use Rattle.lang_tree.specs.declared.command.Refusal.TheVariants as because
use Rattle.lang_tree.specs.declared.command.Reply.TheVariants as replied
use Rattle.lang_tree.specs.Tree.{Tree}
use Rattle.lang_log.specs.declared.call.LogCall.{LogCall}
use Rattle.lang_log.specs.declared.call.LogReply.{LogReply}
use Rattle.lang_log.specs.Log.{HasNoLog}
use Rattle.crash_stands.specs.Stands.{StandsFor}
use Rattle.engine_store.specs.StoreOf.{disk_in, state_of}
use Rattle.engine_store.specs.declared.store.Store.{Store}
use Rattle.fs_log.specs.declared.refusal.OpenRefusal.{OpenRefusal}
use Rattle.fs_log.specs.declared.refusal.OpenRefusal.TheVariants as open_by
use Rattle.fs_log.specs.Causes.{HasAsked, WasAnswered}
use Rattle.fs_log.specs.Opening.{AsksToOpen, HasOpenCause, IsNotOpened, MakesNoPoint, StandsIn, is_of_room}
use Rattle.cmd_session.specs.Shared.{drawn}
use Rattle.cmd_image.specs.declared.ending.Ending.{Ending}
use Rattle.cmd_image.specs.declared.ending.RunRefusal.{RunRefusal}
use Rattle.cmd_image.specs.declared.ending.RunRefusal.TheVariants as run
use Rattle.cmd_image.specs.declared.running.Stop.{Stop}
use Rattle.cmd_image.specs.declared.running.Stop.TheVariants as stop
use Rattle.cmd_image.specs.declared.show_refusal.ShowRefusal.{ShowRefusal}
use Rattle.cmd_image.specs.declared.show_refusal.ShowRefusal.TheVariants as show
use Rattle.cmd_image.specs.Mounted.{ShowsDisk}
use Rattle.cmd_image.specs.Refusals.{of_show}
use Rattle.cmd_image.specs.Runs.{Streams}
use Rattle.cmd_image.specs.Shows.{FailedByManner, fails_pushing as shows_pushing}
use Rattle.cmd_log.specs.declared.refusal.LogRunRefusal.{LogRunRefusal}
use Rattle.cmd_log.specs.declared.refusal.LogRunRefusal.TheVariants.{NoRoom, Run}
use Rattle.cmd_log.specs.Causes.{HasRoomCause, RefusesRoom}
use Rattle.cmd_log.specs.Logs.{ComesOfLogDisk, CountsLogFaults, IsLogRun, IsUnlogged, LogsDisk, RefusesLog, StandsUnlogged, log_fails_pushing, log_opens_nothing, log_says_nothing}
use Rattle.cmd_log.specs.Steps.{KeepsToManner, KnownOpened, KnownSoFar, RunsTo, Said, answer_for, if_counted, log_refusal_of, log_refusal_of_fs}
use Rattle.cmd_log.proofs.Causes.{OpensNot, ReplyLaws, opens_not}
use Rattle.cmd_log.proofs.Going.{FailsFor, fails_for}
use Rattle.cmd_log.proofs.Opening.{PointLaws, stands_in, still_stands}

-- A disk over which a log was kept.

module _ {D : Type 0} {k : Ghosts D} (known : D → disk.State) (tells : Bool) (first : disk.State) (store : Store D k) (marks : List Mark) (size : (known (disk_in store)).blocks ≡ (state_of known store).books.geom.n) where
  logs_disk : (calls : List LogCall) (replies : List LogReply) → KnownSoFar first calls replies marks (state_of known store) → LogsDisk first (known (disk_in store)) marks calls replies
  logs_disk calls replies h = record {
    geom = h.geom;
    tree = h.tree;
    image = h.image;
    shape = h.shape;
    size = h.blocks;
    blocks = size ∙ ap (λ g. g.n) h.logged.geom ∙ h.blocks;
    base = h.base;
    opened = h.opened;
    is_log = h.is_log;
    begun = h.begun;
    moments = h.moments;
    ascend = h.logged.ascend;
    opening = h.logged.opening;
    end = h.logged.now;
    serves = h.logged.serves;
    marked = h.marked;
    manner = h.manner;
    reasons = h.reasons;
    causes = h.causes;
  }

  is_log_run : (answer : Result Ending LogRunRefusal) (before after : Streams) → RunsTo tells first marks (state_of known store) answer before after → IsLogRun tells first (known (disk_in store)) marks answer before after
  is_log_run answer before after h = record {
    calls = h.calls;
    replies = h.replies;
    reads = h.reads;
    writes = h.writes;
    logs = λ t. logs_disk h.calls h.replies (h.so_far t);
  }

  comes_run : (ended : Result Ending Stop) (before after : Streams) → RunsTo tells first marks (state_of known store) (answer_for ended) before after → ComesOfLogDisk tells first (known (disk_in store)) marks (answer_for ended) before after
  comes_run (Ok ending) before after h = is_log_run (Ok ending) before after h
  comes_run (Err stop.NoMemory) before after h = inr (inr (is_log_run (Err (Run run.NoMemory)) before after h))
  comes_run (Err stop.SinkFault) before after h = inr (is_log_run (Err (Run run.SinkFault)) before after h)

-- the same of the disk, the marks and the answer as the function has them
pub ran_back : {D : Type 0} {k : Ghosts D} (known : D → disk.State) (tells : Bool) (first : disk.State) (store other : Store D k) (marks given : List Mark) (last : D) (ended : Result Ending Stop) (answer : Result Ending LogRunRefusal) (before after : Streams)
    → (known (disk_in store)).blocks ≡ (state_of known store).books.geom.n → last ≡ disk_in store → store ≡ other → marks ≡ given → answer ≡ answer_for ended → RunsTo tells first given (state_of known other) (answer_for ended) before after → ComesOfLogDisk tells first (known last) marks answer before after
ran_back {D = D} {k = k} known tells first store other marks given last ended answer before after size last_is store_is marks_are answer_is h =
    subst (λ (x : D). ComesOfLogDisk tells first (known x) marks answer before after) (sym last_is)
    (subst (λ (a : Result Ending LogRunRefusal). ComesOfLogDisk tells first (known (disk_in store)) marks a before after) (sym answer_is)
    (comes_run known tells first store marks size ended before after (subst (λ (x : Store D k). RunsTo tells first marks (state_of known x) (answer_for ended) before after) (sym store_is) (subst (λ (ms : List Mark). RunsTo tells first ms (state_of known other) (answer_for ended) before after) (sym marks_are) h))))

-- a log that was opened isn't refused for what is on the image, nor for the room in it
pub opened_by : (ended : Result Ending Stop) (answer : Result Ending LogRunRefusal) → answer ≡ answer_for ended → (log_opens_nothing answer ≡ false) × (log_says_nothing answer ≡ false)
opened_by ended answer is = (ap log_opens_nothing is ∙ (by ended).0, ap log_says_nothing is ∙ (by ended).1)
  where
    by : (ended : Result Ending Stop) → (log_opens_nothing (answer_for ended) ≡ false) × (log_says_nothing (answer_for ended) ≡ false)
    by (Ok ending) = (refl, refl)
    by (Err stop.NoMemory) = (refl, refl)
    by (Err stop.SinkFault) = (refl, refl)

-- A disk of which no file system was opened.

module _ (tells : Bool) (first last : disk.State) (streams : Streams) where
  by_show : (why : ShowRefusal) → shows_pushing {T = Unit {0}} (Err why) ≡ false → ShowsDisk {T = Unit {0}} tells first last [] None None (Err why) → ComesOfLogDisk tells first last [] (Err (Run (of_show why))) streams streams
  by_show show.Fault silent shows = inl (record { spends = shows.spends; faults = shows.faults; cause = shows.cause; crash = shows.crash; none = refl; says = λ t. tt; same = refl })
  by_show (show.Damaged damage) silent shows = record { spends = shows.spends; faults = shows.faults; cause = shows.cause; crash = shows.crash; none = refl; says = shows.says; same = refl }
  by_show show.Spent silent shows = inl (record { spends = shows.spends; faults = shows.faults; cause = shows.cause; crash = shows.crash; none = refl; says = shows.says; same = refl })
  by_show show.SinkFault silent shows = absurd (true≢false silent)
  by_show show.NoMemory silent shows = inl (record { spends = shows.spends; faults = shows.faults; cause = shows.cause; crash = shows.crash; none = refl; says = λ t. tt; same = refl })

  pub unopened_back : (marks : List Mark) (why : ShowRefusal) (answer : RunRefusal) → marks ≡ [] → answer ≡ of_show why → shows_pushing {T = Unit {0}} (Err why) ≡ false → ShowsDisk {T = Unit {0}} tells first last [] None None (Err why) → ComesOfLogDisk tells first last marks (Err (Run answer)) streams streams
  unopened_back marks why answer none answer_is silent shows =
      subst (λ (ms : List Mark). ComesOfLogDisk tells first last ms (Err (Run answer)) streams streams) (sym none)
      (subst (λ (w : RunRefusal). ComesOfLogDisk tells first last [] (Err (Run w)) streams streams) (sym answer_is) (by_show why silent shows))

-- nor was anything pushed or pulled there
pub unopened_counts : (streams : Streams) (why : ShowRefusal) (answer : RunRefusal) → answer ≡ of_show why → shows_pushing {T = Unit {0}} (Err why) ≡ false → CountsLogFaults (Err (Run answer)) streams streams
unopened_counts streams why answer is silent = record { source = omega arith; rises = omega arith; sink = sym (ap (λ (w : RunRefusal). after_call (log_fails_pushing (Err (Run w))) streams.sink_faults) is ∙ by why silent) }
  where
    by : (why : ShowRefusal) → shows_pushing {T = Unit {0}} (Err why) ≡ false → after_call (log_fails_pushing (Err (Run (of_show why)))) streams.sink_faults ≡ streams.sink_faults
    by show.Fault quiet = refl
    by (show.Damaged damage) quiet = refl
    by show.Spent quiet = refl
    by show.SinkFault quiet = absurd (true≢false quiet)
    by show.NoMemory quiet = refl

-- A disk of which a file system was opened, and no log.

-- what holds of a refusal for the room
abbrev OfRoom : LogRunRefusal → Type 0
OfRoom (NoRoom why) = is_of_room why ≡ true
OfRoom _ = Unit {0}

of_room_counted : (counted : Bool) → OfRoom (Run (if_counted counted))
of_room_counted true = tt
of_room_counted false = tt

of_room_fs : (counted : Bool) (why : Refusal) → OfRoom (log_refusal_of_fs counted why)
of_room_fs counted because.NotFound = of_room_counted counted
of_room_fs counted because.Exists = of_room_counted counted
of_room_fs counted because.NotDir = of_room_counted counted
of_room_fs counted because.IsDir = of_room_counted counted
of_room_fs counted because.NotEmpty = of_room_counted counted
of_room_fs counted because.BelowItself = of_room_counted counted
of_room_fs counted because.TooLarge = of_room_counted counted
of_room_fs counted because.TooManyLinks = of_room_counted counted
of_room_fs counted because.NoNode = refl
of_room_fs counted (because.Full need left) = refl
of_room_fs counted (because.TooBig weight cost room) = of_room_counted counted
of_room_fs counted (because.Scattered runs) = refl
of_room_fs counted because.ReadFault = of_room_counted counted
of_room_fs counted because.DiskFault = of_room_counted counted
of_room_fs counted because.Stopped = of_room_counted counted
of_room_fs counted because.Spent = tt
of_room_fs counted because.NoMemory = tt
of_room_fs counted (because.NoPoint point) = of_room_counted counted
of_room_fs counted because.NameTooLong = of_room_counted counted
of_room_fs counted because.NoSnap = of_room_counted counted

of_room : (counted : Bool) (e : OpenRefusal) → OfRoom (log_refusal_of counted e)
of_room counted open_by.BadLog = tt
of_room counted (open_by.Fs why) = of_room_fs counted why

-- no push failed by then
silent_counted : (counted : Bool) → log_fails_pushing (Err (Run (if_counted counted))) ≡ false
silent_counted true = refl
silent_counted false = refl

silent_fs : (counted : Bool) (why : Refusal) → log_fails_pushing (Err (log_refusal_of_fs counted why)) ≡ false
silent_fs counted because.NotFound = silent_counted counted
silent_fs counted because.Exists = silent_counted counted
silent_fs counted because.NotDir = silent_counted counted
silent_fs counted because.IsDir = silent_counted counted
silent_fs counted because.NotEmpty = silent_counted counted
silent_fs counted because.BelowItself = silent_counted counted
silent_fs counted because.TooLarge = silent_counted counted
silent_fs counted because.TooManyLinks = silent_counted counted
silent_fs counted because.NoNode = refl
silent_fs counted (because.Full need left) = refl
silent_fs counted (because.TooBig weight cost room) = silent_counted counted
silent_fs counted (because.Scattered runs) = refl
silent_fs counted because.ReadFault = silent_counted counted
silent_fs counted because.DiskFault = silent_counted counted
silent_fs counted because.Stopped = silent_counted counted
silent_fs counted because.Spent = refl
silent_fs counted because.NoMemory = refl
silent_fs counted (because.NoPoint point) = silent_counted counted
silent_fs counted because.NameTooLong = silent_counted counted
silent_fs counted because.NoSnap = silent_counted counted

pub silent_open : (counted : Bool) (e : OpenRefusal) → log_fails_pushing (Err (log_refusal_of counted e)) ≡ false
silent_open counted open_by.BadLog = refl
silent_open counted (open_by.Fs why) = silent_fs counted why

-- what comes of a disk that goes back so, by the reason
module _ (tells : Bool) (first last : disk.State) (before after : Streams) where
  abbrev Goes : LogRunRefusal → Type 0
  Goes why = IsUnlogged tells first last [] why before after → ComesOfLogDisk tells first last [] (Err why) before after

  goes_counted : (counted : Bool) → Goes (Run (if_counted counted))
  goes_counted true h = inr h
  goes_counted false h = inr (inl h)

  goes_fs : (counted : Bool) (why : Refusal) → Goes (log_refusal_of_fs counted why)
  goes_fs counted because.NotFound h = goes_counted counted h
  goes_fs counted because.Exists h = goes_counted counted h
  goes_fs counted because.NotDir h = goes_counted counted h
  goes_fs counted because.IsDir h = goes_counted counted h
  goes_fs counted because.NotEmpty h = goes_counted counted h
  goes_fs counted because.BelowItself h = goes_counted counted h
  goes_fs counted because.TooLarge h = goes_counted counted h
  goes_fs counted because.TooManyLinks h = goes_counted counted h
  goes_fs counted because.NoNode h = h
  goes_fs counted (because.Full need left) h = h
  goes_fs counted (because.TooBig weight cost room) h = goes_counted counted h
  goes_fs counted (because.Scattered runs) h = h
  goes_fs counted because.ReadFault h = goes_counted counted h
  goes_fs counted because.DiskFault h = goes_counted counted h
  goes_fs counted because.Stopped h = goes_counted counted h
  goes_fs counted because.Spent h = inr h
  goes_fs counted because.NoMemory h = inr (inl h)
  goes_fs counted (because.NoPoint point) h = goes_counted counted h
  goes_fs counted because.NameTooLong h = goes_counted counted h
  goes_fs counted because.NoSnap h = goes_counted counted h

  goes : (counted : Bool) (e : OpenRefusal) → Goes (log_refusal_of counted e)
  goes counted open_by.BadLog h = h
  goes counted (open_by.Fs why) h = goes_fs counted why h

-- What is known of the disk, whatever the reason.
module _ {D : Type 0} {k : Ghosts D} (known : D → disk.State) (tells : Bool) (told : IsTrue tells) (first : disk.State) (old new : Store D k) (h : KnownOpened first (state_of known old)) (time : MakesNoPoint (state_of known old) (state_of known new)) (points : PointLaws (state_of known old) (state_of known new)) (size : (known (disk_in new)).blocks ≡ (state_of known new).books.geom.n) where
  abbrev last : disk.State
  last = known (disk_in new)

  n_is : last.blocks ≡ (state_of known old).books.geom.n
  n_is = size ∙ ap (λ g. g.n) time.geom

  crash : (k : ℕ) (img : Blocks) → k ≤ length last.log → IsHonest last.blocks last.base (take k last.log) img → ∥ StandsFor last.blocks img h.tree ∥₁
  crash moment img upto honest =
      subst (λ (n : ℕ). ∥ StandsFor n img h.tree ∥₁) (sym n_is)
      (still_stands first (state_of known old) (state_of known new) h time (drawn known new) points moment img upto (subst (λ (n : ℕ). IsHonest n last.base (take moment last.log) img) n_is honest))

  pub stands : (why : LogRunRefusal) → RefusesLog why h.tree last → HasRoomCause first h.image.stands.held.header.geom h.image.stands.map h.tree why → StandsUnlogged first last why
  stands why says room = record {
    tree = h.tree;
    image = h.image;
    blocks = n_is ∙ h.blocks;
    base = time.advances.base ∙ h.base;
    manner = time.manner ∙ h.manner;
    crash = crash;
    says = says;
    room = room;
  }

-- What each reason says of the tree and of the disk.
module _ {D : Type 0} {k : Ghosts D} (known : D → disk.State) (tells : Bool) (told : IsTrue tells) (first : disk.State) (old new : Store D k) (h : KnownOpened first (state_of known old)) (laws : ReplyLaws {S = Store D k} tells (state_of known)) (keeps : KeepsToManner (state_of known new)) (counted : Bool) (counts : counted ≡ has_faults (known (disk_in new))) where
  abbrev Cause : Refusal → Type 0
  Cause why = HasOpenCause tells (state_of known) why old new

  failed : (why : Refusal) → Cause why → FailsFor why (state_of known new)
  failed why cause = fails_for tells (state_of known) told laws _ why old new cause.cause

  early : {P : Type 0} (n m : ℕ) → m ≡ n → n < 9 → 9 ≤ m → P
  early n m is low late = absurd (omega (arith, is, low, late))

  -- a disk that has stopped and counted a call that failed
  failed_so : (state_of known new).books.stopped ≡ true → has_faults (known (disk_in new)) ≡ true → ∥ FailedByManner (known (disk_in new)) ∥₁
  failed_so over some = ∥∥₁_map (keeps.fails over) (by (or_cases (nat_lt 0 (known (disk_in new)).read_faults) (nat_lt 0 (known (disk_in new)).faults) some))
    where
      by : (nat_lt 0 (known (disk_in new)).read_faults ≡ true) ⊎ (nat_lt 0 (known (disk_in new)).faults ≡ true) → HasFailed (known (disk_in new)) → FailedByManner (known (disk_in new))
      by (inl unread) has = let more = ltb-true 0 (known (disk_in new)).read_faults unread in inl (more, keeps.reads more)
      by (inr fault) has = inr (ltb-true 0 (known (disk_in new)).faults fault, has)

  -- a reason that says that a call failed, where one was counted
  says_counted : (c : Bool) → (has_faults (known (disk_in new)) ≡ c) → (has_faults (known (disk_in new)) ≡ true → ∥ FailedByManner (known (disk_in new)) ∥₁) → RefusesLog (Run (if_counted c)) h.tree (known (disk_in new))
  says_counted true is fault = fault is
  says_counted false is fault = tt

  by_counts : (has_faults (known (disk_in new)) ≡ true → ∥ FailedByManner (known (disk_in new)) ∥₁) → RefusesLog (Run (if_counted counted)) h.tree (known (disk_in new))
  by_counts fault = says_counted counted (sym counts) fault

  says_fs : (why : Refusal) → Cause why → RefusesLog (log_refusal_of_fs counted why) h.tree (known (disk_in new))
  says_fs because.NotFound cause = early 1 _ refl (omega arith) (cause.cause.late told).0
  says_fs because.Exists cause = early 2 _ refl (omega arith) (cause.cause.late told).0
  says_fs because.NotDir cause = early 3 _ refl (omega arith) (cause.cause.late told).0
  says_fs because.IsDir cause = early 4 _ refl (omega arith) (cause.cause.late told).0
  says_fs because.NotEmpty cause = early 5 _ refl (omega arith) (cause.cause.late told).0
  says_fs because.BelowItself cause = early 6 _ refl (omega arith) (cause.cause.late told).0
  says_fs because.TooLarge cause = early 7 _ refl (omega arith) (cause.cause.late told).0
  says_fs because.TooManyLinks cause = early 8 _ refl (omega arith) (cause.cause.late told).0
  says_fs because.NoNode cause = (refl, (cause.room told refl).free h.tree (stands_in first (state_of known old) h))
  says_fs (because.Full need left) cause = (refl, (cause.room told refl).free h.tree (stands_in first (state_of known old) h))
  says_fs (because.TooBig weight cost room) cause = absurd (true≢false (cause.cause.fits told))
  says_fs (because.Scattered runs) cause = (refl, (cause.room told refl).free h.tree (stands_in first (state_of known old) h))
  says_fs because.ReadFault cause = let some = (failed because.ReadFault cause).read_faults refl in by_counts (λ _. ∣ inl (some, keeps.reads some) ∣₁)
  says_fs because.DiskFault cause = by_counts (failed_so ((failed because.DiskFault cause).fault refl))
  says_fs because.Stopped cause = by_counts (failed_so ((failed because.Stopped cause).stopped refl))
  says_fs because.Spent cause = tt
  says_fs because.NoMemory cause = tt
  says_fs (because.NoPoint point) cause = absurd (omega (arith, (cause.cause.late told).1))
  says_fs because.NameTooLong cause = absurd (omega (arith, (cause.cause.late told).1))
  says_fs because.NoSnap cause = absurd (omega (arith, (cause.cause.late told).1))

  -- the making of `/log` was refused so, in the mount's room
  refuses_room : (why : Refusal) → is_of_room why ≡ true → Cause why → RefusesRoom first h.image.stands.held.header.geom h.image.stands.map h.tree why
  refuses_room why wants cause = subst (λ g. RefusesRoom first g h.image.stands.map h.tree why) (sym h.shape) (by cause.cause.cause)
    where
      of : OpensNot why h.mounted (state_of known old) → RefusesRoom first (state_of known old).books.geom h.image.stands.map h.tree why
      of not = record { mounted = h.mounted; at_mount = h.at_mount; end = not.end; opening = not.ran; refused = not.refused }

      by : ((why ≡ because.NoMemory) × HasAsked tells (state_of known) AsksToOpen old new) ⊎ WasAnswered tells (state_of known) AsksToOpen (replied.Refused why) old new → RefusesRoom first (state_of known old).books.geom h.image.stands.map h.tree why
      by (inl (memory, asked)) = absurd (true≢false (sym wants ∙ ap is_of_room memory))
      by (inr was) = of (opens_not tells (state_of known) laws old new h.mounted h.at h.over why (was.way told))

  abbrev RoomCause : LogRunRefusal → Type 0
  RoomCause why = HasRoomCause first h.image.stands.held.header.geom h.image.stands.map h.tree why

  room_fs : (why : Refusal) → Cause why → RoomCause (log_refusal_of_fs counted why)
  room_fs because.NotFound cause = tt
  room_fs because.Exists cause = tt
  room_fs because.NotDir cause = tt
  room_fs because.IsDir cause = tt
  room_fs because.NotEmpty cause = tt
  room_fs because.BelowItself cause = tt
  room_fs because.TooLarge cause = tt
  room_fs because.TooManyLinks cause = tt
  room_fs because.NoNode cause = refuses_room because.NoNode refl cause
  room_fs (because.Full need left) cause = refuses_room (because.Full need left) refl cause
  room_fs (because.TooBig weight cost room) cause = tt
  room_fs (because.Scattered runs) cause = refuses_room (because.Scattered runs) refl cause
  room_fs because.ReadFault cause = tt
  room_fs because.DiskFault cause = tt
  room_fs because.Stopped cause = tt
  room_fs because.Spent cause = tt
  room_fs because.NoMemory cause = tt
  room_fs (because.NoPoint point) cause = tt
  room_fs because.NameTooLong cause = tt
  room_fs because.NoSnap cause = tt

  pub has_room_cause : (e : OpenRefusal) → IsNotOpened tells (state_of known) e old new → RoomCause (log_refusal_of counted e)
  has_room_cause open_by.BadLog cause = tt
  has_room_cause (open_by.Fs why) cause = room_fs why cause

  pub says : (e : OpenRefusal) → IsNotOpened tells (state_of known) e old new → (e ≡ open_by.BadLog → (t : Tree) → StandsIn (state_of known old) t → HasNoLog t) → RefusesLog (log_refusal_of counted e) h.tree (known (disk_in new))
  says open_by.BadLog cause none = none refl h.tree (stands_in first (state_of known old) h)
  says (open_by.Fs why) cause none = says_fs why cause

-- A disk of which no log was opened goes back, behind what was said of it.
pub unlogged_back : {D : Type 0} (known : D → disk.State) (tells : Bool) (first : disk.State) (last : D) (marks : List Mark) (counted : Bool) (e : OpenRefusal) (result : LogRunRefusal) (before after : Streams) → marks ≡ [] → after.left ≡ before.left → after.source_faults ≡ before.source_faults
    → (IsTrue tells → StandsUnlogged first (known last) (log_refusal_of counted e)) → Said (log_refusal_of counted e) result before.taken after.taken → ComesOfLogDisk tells first (known last) marks (Err result) before after
unlogged_back known tells first last marks counted e result before after none left source stands said =
    subst (λ (ms : List Mark). ComesOfLogDisk tells first (known last) ms (Err result) before after) (sym none) (by said)
  where
    -- whatever the output took, the disk is as it is
    again : (why : RunRefusal) → ((t : Tree) → RefusesLog (Run why) t (known last)) → StandsUnlogged first (known last) (log_refusal_of counted e) → StandsUnlogged first (known last) (Run why)
    again why says h = record { tree = h.tree; image = h.image; blocks = h.blocks; base = h.base; manner = h.manner; crash = h.crash; says = says h.tree; room = tt }

    by : Said (log_refusal_of counted e) result before.taken after.taken → ComesOfLogDisk tells first (known last) [] (Err result) before after
    by (inl (is, took)) = subst (λ (w : LogRunRefusal). ComesOfLogDisk tells first (known last) [] (Err w) before after) (sym is)
        (goes tells first (known last) before after counted e (record { none = refl; left = left; source = source; took = took; stands = stands }))
    by (inr (refusal, is, inl (memory, same))) = subst (λ (w : LogRunRefusal). ComesOfLogDisk tells first (known last) [] (Err w) before after) (sym memory)
        (inr (inl (record { none = refl; left = left; source = source; took = same; stands = λ t. again run.NoMemory (λ tree. tt) (stands t) })))
    by (inr (refusal, is, inr (fault, took))) = subst (λ (w : LogRunRefusal). ComesOfLogDisk tells first (known last) [] (Err w) before after) (sym fault)
        (inl (record { none = refl; left = left; source = source; took = (refusal, subst OfRoom is (of_room counted e), took); stands = λ t. again run.SinkFault (λ tree. tt) (stands t) }))

-- what is known of the disk, as the function has it
pub stands_back : {D : Type 0} {k : Ghosts D} (known : D → disk.State) (tells : Bool) (told : IsTrue tells) (first : disk.State) (old new given : Store D k) (back : D) (counted : Bool) (e : OpenRefusal) → (h : KnownOpened first (state_of known old)) → MakesNoPoint (state_of known old) (state_of known new) → PointLaws (state_of known old) (state_of known new)
    → (known (disk_in given)).blocks ≡ (state_of known given).books.geom.n → back ≡ disk_in given → given ≡ new → RefusesLog (log_refusal_of counted e) h.tree (known (disk_in new)) → HasRoomCause first h.image.stands.held.header.geom h.image.stands.map h.tree (log_refusal_of counted e) → StandsUnlogged first (known back) (log_refusal_of counted e)
stands_back {D = D} {k = k} known tells told first old new given back counted e h time points size back_is given_is refuses room =
    subst (λ (x : D). StandsUnlogged first (known x) (log_refusal_of counted e)) (sym (back_is ∙ ap disk_in given_is))
    (stands known tells told first old new h time points (subst (λ (x : Store D k). (known (disk_in x)).blocks ≡ (state_of known x).books.geom.n) given_is size) (log_refusal_of counted e) refuses room)
