-- What goes back of a disk: one over which commands were run, and one of which no file system was opened.
use Rattle.std.proofs.Common.{◌≡◌, inl, inr, ℕ, ◌+◌, Bool, false, true≢false, List, [], take, None, Result, Ok, Err, refl, sym, ap, ◌∙◌, subst, arith}
use Rattle.base_types.specs.Counts.{after_call}
use Rattle.disk_contract.specs.declared.bay.Mark.{Mark}
use Rattle.disk_contract.specs.declared.disk.Disk.{Ghosts}
use Rattle.disk_contract.specs.Disk as disk
use Rattle.disk_contract.specs.Disk.{writes_in}
use Rattle.layout_geometry.specs.Geometry.{Geometry, bitmap_blocks}
use Rattle.crash_stands.specs.Bounds.{bounds_of}
use Rattle.crash_argument.specs.Counts.{AreAtMost}
use Rattle.lang_tree.specs.declared.command.Cmd.{Cmd}
use Rattle.lang_tree.specs.declared.command.Reply.{Reply}
use Rattle.lang_tree.specs.Step.{session_on}
use Rattle.lang_tree.specs.Tree.{Tree}
use Rattle.fs_session.specs.DiskRoom.{RunsOn}
use Rattle.fs_session.specs.Memory.{room_of}
use Rattle.cmd_session.specs.Budget.{KeepsBudget, budget_of}
use Rattle.cmd_session.specs.Going.{pace_of}
use Rattle.engine_store.specs.StoreOf.{disk_in, state_of}
use Rattle.engine_store.specs.declared.store.Store.{Store}
use Rattle.cmd_image.specs.declared.show_refusal.ShowRefusal.{ShowRefusal}
use Rattle.cmd_image.specs.declared.show_refusal.ShowRefusal.TheVariants as show
use Rattle.cmd_image.specs.Mounted.{ShowsDisk}
use Rattle.cmd_image.specs.Shows.{fails_pushing as shows_pushing}
use Rattle.cmd_image.specs.declared.ending.Ending.{Ending}
use Rattle.cmd_image.specs.declared.ending.RunRefusal.{RunRefusal}
use Rattle.cmd_image.specs.declared.ending.RunRefusal.TheVariants.{SinkFault, NoMemory}
use Rattle.cmd_image.specs.declared.running.Stop.{Stop}
use Rattle.cmd_image.specs.declared.running.Stop.TheVariants as stop
use Rattle.cmd_image.specs.Refusals.{of_show, opens_nothing, run_fails_pushing}
use Rattle.cmd_image.specs.Runs.{ComesOfDisk, CountsFaults, IsRun, RunsDisk, Streams}
use Rattle.cmd_image.specs.Serves.{pace_at_mount}
use Rattle.cmd_image.specs.Steps.{KnownSoFar, RunsTo, answer_for}
use Rattle.cmd_image.proofs.Rooms.{rooms_by}

-- A disk over which commands were run.

module _ {D : Type 0} {k : Ghosts D} (known : D → disk.State) (tells : Bool) (first : disk.State) (store : Store D k) (marks : List Mark)
    (budget : (g : Geometry) (t : Tree) (begun owed mounted : ℕ) (cmds : List Cmd) (replies : List Reply) → KeepsBudget g t begun cmds replies (state_of known store)
    → begun ≡ writes_in (take mounted (state_of known store).crash.log) + owed → AreAtMost mounted (state_of known store).crash.log (owed + budget_of (bitmap_blocks g) (session_on (bounds_of g) t) 0 cmds replies))
    (size : (known (disk_in store)).blocks ≡ (state_of known store).books.geom.n) where
  runs_disk : (cmds : List Cmd) (replies : List Reply) → KnownSoFar first cmds replies marks (state_of known store) → RunsDisk first (known (disk_in store)) marks cmds replies
  runs_disk cmds replies h = record {
    geom = h.geom;
    tree = h.tree;
    image = h.image;
    shape = h.shape;
    base = h.base;
    mounted = h.mounted;
    moments = h.moments;
    run = record { run = h.served.run; stops = h.served.stops; answered = h.served.answered; marked = h.served.marked; ascend = h.served.ascend; crashes = h.served.crashes; issued = h.served.issued };
    first_room = h.first_room;
    begins = h.begins;
    end = pace_of h.goes.taken (state_of known store);
    rooms = subst (λ (g : Geometry). RunsOn g (session_on (bounds_of h.geom) h.tree) h.first_room cmds replies h.goes.taken.session (room_of (state_of known store))) h.is_mount.geom
        (rooms_by h.mount first.base first.manner (state_of known store).crash.log cmds replies h.moments (pace_at_mount first h.mounted (session_on (bounds_of h.geom) h.tree) h.first_room) (pace_of h.goes.taken (state_of known store)) h.goes.paces);
    mount = h.mount;
    is_mount = h.is_mount;
    serves = h.goes.paces;
    mounts = h.mounts;
    writes = subst (λ (n : ℕ). AreAtMost h.mounted (state_of known store).crash.log n) (omega arith) (budget h.geom h.tree (writes_in (take h.mounted (state_of known store).crash.log)) 0 h.mounted cmds replies h.budget (omega arith));
    spends = h.spends;
    marked = h.marked;
    manner = h.manner;
    reasons = h.reasons;
    turns = h.turns;
    numbers = h.numbers;
    spent = h.spent;
  }

  is_run : (answer : Result Ending RunRefusal) (before after : Streams) → RunsTo tells first marks (state_of known store) answer before after → IsRun tells first (known (disk_in store)) marks answer before after
  is_run answer before after h = record {
    cmds = h.cmds;
    replies = h.replies;
    blocks = size ∙ h.so_far.blocks;
    reads = h.reads;
    writes = h.writes;
    runs = λ t. runs_disk h.cmds h.replies (h.so_far.known t);
  }

  comes_run : (ended : Result Ending Stop) (before after : Streams) → RunsTo tells first marks (state_of known store) (answer_for ended) before after → ComesOfDisk tells first (known (disk_in store)) marks (answer_for ended) before after
  comes_run (Ok ending) before after h = is_run (Ok ending) before after h
  comes_run (Err stop.NoMemory) before after h = inr (is_run (Err NoMemory) before after h)
  comes_run (Err stop.SinkFault) before after h = is_run (Err SinkFault) before after h

-- the same of the disk, the marks and the answer as the function has them
pub ran_back : {D : Type 0} {k : Ghosts D} (known : D → disk.State) (tells : Bool) (first : disk.State) (store other : Store D k) (marks given : List Mark) (last : D) (ended : Result Ending Stop) (answer : Result Ending RunRefusal) (before after : Streams)
    → ((g : Geometry) (t : Tree) (begun owed mounted : ℕ) (cmds : List Cmd) (replies : List Reply) → KeepsBudget g t begun cmds replies (state_of known store)
    → begun ≡ writes_in (take mounted (state_of known store).crash.log) + owed → AreAtMost mounted (state_of known store).crash.log (owed + budget_of (bitmap_blocks g) (session_on (bounds_of g) t) 0 cmds replies))
    → (known (disk_in store)).blocks ≡ (state_of known store).books.geom.n → last ≡ disk_in store → store ≡ other → marks ≡ given → answer ≡ answer_for ended → RunsTo tells first given (state_of known other) (answer_for ended) before after → ComesOfDisk tells first (known last) marks answer before after
ran_back {D = D} {k = k} known tells first store other marks given last ended answer before after budget size last_is store_is marks_are answer_is h =
    subst (λ (x : D). ComesOfDisk tells first (known x) marks answer before after) (sym last_is)
    (subst (λ (a : Result Ending RunRefusal). ComesOfDisk tells first (known (disk_in store)) marks a before after) (sym answer_is)
    (comes_run known tells first store marks budget size ended before after (subst (λ (x : Store D k). RunsTo tells first marks (state_of known x) (answer_for ended) before after) (sym store_is) (subst (λ (ms : List Mark). RunsTo tells first ms (state_of known other) (answer_for ended) before after) (sym marks_are) h))))

-- A disk of which no file system was opened.

module _ (tells : Bool) (first last : disk.State) (streams : Streams) where
  by_show : (why : ShowRefusal) → shows_pushing {T = Unit {0}} (Err why) ≡ false → ShowsDisk {T = Unit {0}} tells first last [] None None (Err why) → ComesOfDisk tells first last [] (Err (of_show why)) streams streams
  by_show show.Fault silent shows = record { spends = shows.spends; faults = shows.faults; cause = shows.cause; crash = shows.crash; none = refl; says = λ t. tt; same = refl }
  by_show (show.Damaged damage) silent shows = record { spends = shows.spends; faults = shows.faults; cause = shows.cause; crash = shows.crash; none = refl; says = shows.says; same = refl }
  by_show show.Spent silent shows = record { spends = shows.spends; faults = shows.faults; cause = shows.cause; crash = shows.crash; none = refl; says = shows.says; same = refl }
  by_show show.SinkFault silent shows = absurd (true≢false silent)
  by_show show.NoMemory silent shows = inl (record { spends = shows.spends; faults = shows.faults; cause = shows.cause; crash = shows.crash; none = refl; says = λ t. tt; same = refl })

  pub unopened_run_back : (marks : List Mark) (why : ShowRefusal) (answer : RunRefusal) → marks ≡ [] → answer ≡ of_show why → shows_pushing {T = Unit {0}} (Err why) ≡ false → ShowsDisk {T = Unit {0}} tells first last [] None None (Err why) → ComesOfDisk tells first last marks (Err answer) streams streams
  unopened_run_back marks why answer none answer_is silent shows =
      subst (λ (ms : List Mark). ComesOfDisk tells first last ms (Err answer) streams streams) (sym none)
      (subst (λ (w : RunRefusal). ComesOfDisk tells first last [] (Err w) streams streams) (sym answer_is) (by_show why silent shows))

-- a run over an opened file system isn't refused for what is on the image
pub opened_by : (ended : Result Ending Stop) (answer : Result Ending RunRefusal) → answer ≡ answer_for ended → opens_nothing answer ≡ false
opened_by ended answer is = ap opens_nothing is ∙ by ended
  where
    by : (ended : Result Ending Stop) → opens_nothing (answer_for ended) ≡ false
    by (Ok ending) = refl
    by (Err stop.NoMemory) = refl
    by (Err stop.SinkFault) = refl

-- nor was anything pushed or pulled where no file system was opened
pub unopened_counts : (streams : Streams) (why : ShowRefusal) (answer : RunRefusal) → answer ≡ of_show why → shows_pushing {T = Unit {0}} (Err why) ≡ false → CountsFaults (Err answer) streams streams
unopened_counts streams why answer is silent = record { source = omega arith; rises = omega arith; sink = sym (ap (λ (w : RunRefusal). after_call (run_fails_pushing (Err w)) streams.sink_faults) is ∙ by why silent) }
  where
    by : (why : ShowRefusal) → shows_pushing {T = Unit {0}} (Err why) ≡ false → after_call (run_fails_pushing (Err (of_show why))) streams.sink_faults ≡ streams.sink_faults
    by show.Fault quiet = refl
    by (show.Damaged damage) quiet = refl
    by show.Spent quiet = refl
    by show.SinkFault quiet = absurd (true≢false quiet)
    by show.NoMemory quiet = refl
