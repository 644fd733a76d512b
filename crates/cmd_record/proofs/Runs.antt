-- A run so far as a trace: what is served by it, and how it may go on, whatever commands come.
use Rattle.std.proofs.Common.{◌≡◌, ◌⊎◌, inl, inr, ℕ, ◌-◌, ◌^◌, ◌<◌, ◌≤◌, nat_le, Bool, true, false, if◌then◌else◌, List, [], ◌∷◌, ◌++◌, length, take, take_all, drop, Option, None, Some, refl, sym, ap, ap₂, ◌∙◌, subst, arith, append_assoc, append-nil}
use Rattle.std.proofs.Math.Logic.{∥∥₁_map}
use Rattle.std.proofs.lemmas.List.{length-append, take-append-le}
use Rattle.std.proofs.lemmas.Option.{none-some}
use Rattle.std.specs.List.{slice_get}
use Rattle.std.proofs.lemmas.Bool.{and_parts, leb-true}
use Rattle.std.proofs.lemmas.Bool.Decides.{nat_tests}
use mathlib.Core.Path.{fun_ext}
use Rattle.base_types.specs.Seal.{Blocks, sha256}
use Rattle.disk_contract.specs.declared.event.Event.{Event}
use Rattle.disk_contract.specs.Cell.{Cell, cell_of, has_lost}
use Rattle.disk_contract.specs.Crash.{IsTorn, MayHold}
use Rattle.disk_contract.specs.Disk.{Grows, writes_in}
use Rattle.disk_contract.specs.Lawful.{IsLogOf}
use Rattle.disk_contract.specs.Manner.{Manner, GoesBy}
use Rattle.layout_geometry.specs.Geometry.{Geometry, geometry_fits, bitmap_blocks}
use Rattle.layout_journal.specs.Formatted.{formatted}
use Rattle.crash_stands.specs.Bounds.{bounds_of}
use Rattle.crash_argument.specs.Counts.{AreAtMost}
use Rattle.crash_argument.specs.Ledger.{issued}
use Rattle.lang_script.specs.Text.{command_text}
use Rattle.lang_script.specs.Values.{IsCommand, IsReply}
use Rattle.cmd_trace.specs.Contents.{Each, front_of}
use Rattle.cmd_trace.specs.Line.{command_line, geometry_line, event_lines}
use Rattle.cmd_trace.specs.Trace.{Ascend, entry}
use Rattle.lang_tree.specs.declared.command.Cmd.{Cmd}
use Rattle.lang_tree.specs.declared.command.Cmd.TheVariants.{Mkdir, Create, Write, Fill, Read, Truncate, Link, Unlink, Rmdir, Rename, Stat, List as ListNames, Snap, Unsnap, Snaps, At, Osync, Dsync, Durable, Dwait, Poll, Bad}
use Rattle.lang_tree.specs.declared.command.Refusal.TheVariants.{DiskFault, Spent, Stopped}
use Rattle.lang_tree.specs.declared.command.Reply.{Reply}
use Rattle.lang_tree.specs.declared.command.Reply.TheVariants.{Bad as NotUnderstood, Refused}
use Rattle.lang_tree.specs.Step.{Session, start, session_on}
use Rattle.lang_tree.specs.Tree.{Tree}
use Rattle.engine_blocks.specs.State.{Bookkeeping, State, data_blocks}
use Rattle.fs_session.specs.Applying.{is_spent}
use Rattle.fs_session.specs.Serving.{RoomOn, room_on}
use Rattle.fs_session.specs.DiskRoom.{AnswersOn, ComesBack, IsRoomOf, KeepsRoom, RunsOn}
use Rattle.fs_session.specs.Lists.{KeptLists}
use Rattle.fs_session.specs.Memory.{room_of}
use Rattle.fs_session.specs.Room.{Room, IsFirstRoom}
use Rattle.fs_session.specs.Sessions.{IsSession}
use Rattle.cmd_session.specs.Budget.{KeepsBudget, SpendsByMarks, budget_of}
use Rattle.cmd_session.specs.Crashes.{LeavesPoints, IsCrashConsistent}
use Rattle.cmd_session.specs.Ending.{HasRun, is_none, over_after, ending_reply, ending_replies, ending_marks}
use Rattle.cmd_session.specs.Histories.{last_mark}
use Rattle.cmd_session.specs.Issued.{IssuesLast}
use Rattle.cmd_session.specs.Going.{GoesByLog, pace_of}
use Rattle.cmd_session.specs.Pacing.{Pace}
use Rattle.cmd_session.specs.Taking.{nothing_taken}
use Rattle.cmd_host.specs.Disks.{IsOpened}
use Rattle.cmd_host.specs.Behaving.{session_by, Setting}
use Rattle.cmd_trace.specs.Shared.{each_append}
use Rattle.cmd_session.specs.Shared.{get_split_at}
use Rattle.cmd_record.specs.Behaving.{pace_at_first, room_at_first}
use Rattle.cmd_host.specs.Mounts.{MountsOnce}
use Rattle.cmd_record.specs.Traces.{Serves, ServesBy, says}
use Rattle.cmd_record.specs.Running.{BeginsSo, Ran, PacedRun, Records, GoesOnWith, RunLaws, KnownRun, IsAnswered}
use Rattle.cmd_record.proofs.Entries.{front_on, one_entry, first_line}

-- Runs joined.

runs_on : (g : Geometry) (f t u : Session) (r q v : Room) (cmds : List Cmd) (replies : List Reply) (more : List Cmd) (later : List Reply)
    → RunsOn g f r cmds replies t q → RunsOn g t q more later u v → RunsOn g f r (cmds ++ more) (replies ++ later) u v
runs_on g f t u r q v [] [] more later run next = subst (λ x. RunsOn g x r more later u v) run.0 (subst (λ y. RunsOn g t y more later u v) run.1 next)
runs_on g f t u r q v [] (x ∷ replies) more later run next = absurd run
runs_on g f t u r q v (c ∷ cmds) [] more later run next = absurd run
runs_on g f t u r q v (c ∷ cmds) (x ∷ replies) more later run next = (run.0, run.1, run.2, runs_on g run.0 t u run.1 q v cmds replies more later run.3 next)

-- A run that ends at once, in its room.

back_at_once : (g : Geometry) (f : Session) (r : Room) → IsRoomOf g f r → ComesBack g f r r
back_at_once g f r is = record { weight = refl; held = refl; keeps = record { places = refl; kept = refl; takeable = λ b h. h }; is_room = is }

module _ (g : Geometry) (f : Session) (r : Room) (is : IsRoomOf g f r) where
  kept : KeepsRoom r r
  kept = record { places = refl; kept = refl; takeable = λ b h. h }

  -- a command is refused as the disk fails, or as it failed before; a line that is none is told to be so
  ends_in_room : (over : Bool) (cmd : Cmd) → AnswersOn g f r cmd (ending_reply over cmd) f r
  ends_in_room over Bad = (refl, refl)
  ends_in_room true Osync = inl (Stopped, inl refl, refl, refl, refl)
  ends_in_room true Dsync = inl (Stopped, inl refl, refl, refl, refl)
  ends_in_room true Durable = inl (Stopped, inl refl, refl, refl, refl)
  ends_in_room true (Dwait n) = inl (Stopped, inl refl, refl, refl, refl)
  ends_in_room true Poll = inl (Stopped, inl refl, refl, refl, refl)
  ends_in_room true (Mkdir path) = inl (Stopped, inl refl, refl, refl, refl)
  ends_in_room true (Create path) = inl (Stopped, inl refl, refl, refl, refl)
  ends_in_room true (Write path offset bytes) = inl (Stopped, inl refl, refl, refl, refl)
  ends_in_room true (Fill path offset count byte) = inl (Stopped, inl refl, refl, refl, refl)
  ends_in_room true (Read path offset count) = inl (Stopped, inl refl, refl, refl, refl)
  ends_in_room true (Truncate path size) = inl (Stopped, inl refl, refl, refl, refl)
  ends_in_room true (Link path other) = inl (Stopped, inl refl, refl, refl, refl)
  ends_in_room true (Unlink path) = inl (Stopped, inl refl, refl, refl, refl)
  ends_in_room true (Rmdir path) = inl (Stopped, inl refl, refl, refl, refl)
  ends_in_room true (Rename from to) = inl (Stopped, inl refl, refl, refl, refl)
  ends_in_room true (Stat path) = inl (Stopped, inl refl, refl, refl, refl)
  ends_in_room true (ListNames path) = inl (Stopped, inl refl, refl, refl, refl)
  ends_in_room true (Snap name) = inl (Stopped, inl refl, refl, refl, refl)
  ends_in_room true (Unsnap name) = inl (Stopped, inl refl, refl, refl, refl)
  ends_in_room true Snaps = inl (Stopped, inl refl, refl, refl, refl)
  ends_in_room true (At name look) = inl (Stopped, inl refl, refl, refl, refl)
  ends_in_room false Osync = inr (record { back = r; comes_back = back_at_once g f r is; answers = inr (inr (refl, refl, kept)); is_room = is })
  ends_in_room false Dsync = inr (record { back = r; comes_back = back_at_once g f r is; answers = inr (inr (refl, refl, kept)); is_room = is })
  ends_in_room false Durable = inr (record { back = r; comes_back = back_at_once g f r is; answers = inr (DiskFault, inl refl, refl, refl, refl); is_room = is })
  ends_in_room false (Dwait n) = inr (record { back = r; comes_back = back_at_once g f r is; answers = inr (DiskFault, inl refl, refl, refl, refl); is_room = is })
  ends_in_room false Poll = inr (record { back = r; comes_back = back_at_once g f r is; answers = inr (DiskFault, inl refl, refl, refl, refl); is_room = is })
  ends_in_room false (Mkdir path) = inr (record { back = r; comes_back = back_at_once g f r is; answers = inr (DiskFault, inl refl, refl, refl, refl); is_room = is })
  ends_in_room false (Create path) = inr (record { back = r; comes_back = back_at_once g f r is; answers = inr (DiskFault, inl refl, refl, refl, refl); is_room = is })
  ends_in_room false (Write path offset bytes) = inr (record { back = r; comes_back = back_at_once g f r is; answers = inr (DiskFault, inl refl, refl, refl, refl); is_room = is })
  ends_in_room false (Fill path offset count byte) = inr (record { back = r; comes_back = back_at_once g f r is; answers = inr (DiskFault, inl refl, refl, refl, refl); is_room = is })
  ends_in_room false (Read path offset count) = inr (record { back = r; comes_back = back_at_once g f r is; answers = inr (DiskFault, inl refl, refl, refl, refl); is_room = is })
  ends_in_room false (Truncate path size) = inr (record { back = r; comes_back = back_at_once g f r is; answers = inr (DiskFault, inl refl, refl, refl, refl); is_room = is })
  ends_in_room false (Link path other) = inr (record { back = r; comes_back = back_at_once g f r is; answers = inr (DiskFault, inl refl, refl, refl, refl); is_room = is })
  ends_in_room false (Unlink path) = inr (record { back = r; comes_back = back_at_once g f r is; answers = inr (DiskFault, inl refl, refl, refl, refl); is_room = is })
  ends_in_room false (Rmdir path) = inr (record { back = r; comes_back = back_at_once g f r is; answers = inr (DiskFault, inl refl, refl, refl, refl); is_room = is })
  ends_in_room false (Rename from to) = inr (record { back = r; comes_back = back_at_once g f r is; answers = inr (DiskFault, inl refl, refl, refl, refl); is_room = is })
  ends_in_room false (Stat path) = inr (record { back = r; comes_back = back_at_once g f r is; answers = inr (DiskFault, inl refl, refl, refl, refl); is_room = is })
  ends_in_room false (ListNames path) = inr (record { back = r; comes_back = back_at_once g f r is; answers = inr (DiskFault, inl refl, refl, refl, refl); is_room = is })
  ends_in_room false (Snap name) = inr (record { back = r; comes_back = back_at_once g f r is; answers = inr (DiskFault, inl refl, refl, refl, refl); is_room = is })
  ends_in_room false (Unsnap name) = inr (record { back = r; comes_back = back_at_once g f r is; answers = inr (DiskFault, inl refl, refl, refl, refl); is_room = is })
  ends_in_room false Snaps = inr (record { back = r; comes_back = back_at_once g f r is; answers = inr (DiskFault, inl refl, refl, refl, refl); is_room = is })
  ends_in_room false (At name look) = inr (record { back = r; comes_back = back_at_once g f r is; answers = inr (DiskFault, inl refl, refl, refl, refl); is_room = is })

  all_end : (over : Bool) (cmds : List Cmd) → RunsOn g f r cmds (ending_replies over cmds) f r
  all_end over [] = (refl, refl)
  all_end over (cmd ∷ cmds) = (f, r, ends_in_room over cmd, all_end (over_after over cmd) cmds)

-- such a reply may be written
reply_ends : (none over : Bool) → IsReply (if none then NotUnderstood else Refused (if over then Stopped else DiskFault))
reply_ends true over = tt
reply_ends false true = tt
reply_ends false false = tt

replies_end : (over : Bool) (cmds : List Cmd) → Each IsReply (ending_replies over cmds)
replies_end over [] = tt
replies_end over (cmd ∷ cmds) = (reply_ends (is_none cmd) over, replies_end (over_after over cmd) cmds)

-- What is served.

pub small : (g : Geometry) → geometry_fits g ≡ true → (g.n ≤ 1048576) × (g.j ≤ 65536) × (g.i ≤ 65536)
unfolding geometry_fits
small g fits =
    let n = and_parts (nat_le 64 g.n) _ fits in
    let low_n = and_parts (nat_le g.n 1048576) _ n.1 in
    let j = and_parts (nat_le 16 g.j) _ low_n.1 in
    let low_j = and_parts (nat_le g.j 65536) _ j.1 in
    let i = and_parts (nat_le 16 g.i) _ low_j.1 in
    let low_i = and_parts (nat_le g.i 65536) _ i.1 in
    (below g.n 1048576 low_n.0, below g.j 65536 low_j.0, below g.i 65536 low_i.0)
  where
    below : (a b : ℕ) → nat_le a b ≡ true → a ≤ b
    below a b h = grind (arith, nat_tests)

-- A run on a disk that began with these blocks, which are the formatted disk's, in its room.
pub record RunsOf (g : Geometry) (base : Blocks) (log : List Event) (mounted : ℕ) (cmds : List Cmd) (replies : List Reply) (marks : List ℕ) : Type 0 where
  pub run : HasRun g (start (bounds_of g)).tree base log mounted cmds replies marks
  pub first : Room
  pub empty : IsFirstRoom g first
  pub after : Session
  pub room : Room
  pub rooms : RunsOn g (start (bounds_of g)) first cmds replies after room
  pub most : AreAtMost mounted log (budget_of (bitmap_blocks g) (start (bounds_of g)) 0 cmds replies)
  pub spends : SpendsByMarks g (start (bounds_of g)) mounted log cmds replies marks
  pub same : (b : ℕ) → b < g.n → base b ≡ formatted g b
  pub fits : geometry_fits g ≡ true
  pub lawful : IsLogOf g.n log
  pub events : length log < 2 ^ 64
  pub answers : Each IsReply replies

module _ (g : Geometry) (laws : RunLaws g) (base : Blocks) (log : List Event) (mounted : ℕ) (cmds : List Cmd) (replies : List Reply) (marks : List ℕ) (r : RunsOf g base log mounted cmds replies marks) where
  -- a block of the disk is in the cell that it would be in on the formatted disk
  cell_alike : (k b : ℕ) → b < g.n → cell_of base (take k log) b ≡ cell_of (formatted g) (take k log) b
  cell_alike k b low = ap (λ (x : List ℕ). cell_of (λ _. x) (take k log) b) (r.same b low)

  -- so an image that a crash of the formatted disk may leave is one that a crash of the disk may leave
  points_left : LeavesPoints g.n (formatted g) (start (bounds_of g)) log mounted cmds replies marks
  points_left = record {
    each = λ k img upto honest. r.run.crashes.each k img upto (record {
      leaves = λ b low. subst (λ (c : Cell). MayHold c (img b)) (sym (cell_alike k b low)) (honest.leaves b low);
      unsealed = λ b low torn. honest.unsealed b low (subst (λ (c : Cell). IsTorn c (img b)) (cell_alike k b low) torn);
      like_base = λ b c low below e. honest.like_base b c low below (e ∙ ap sha256 (r.same c below)) ∙ sym (r.same c below);
      like_written = honest.like_written;
    });
  }

  consistent : IsCrashConsistent g.n (bounds_of g) (formatted g) log mounted cmds replies marks
  consistent = record {
    points = λ t stands. subst (λ (x : Tree). LeavesPoints g.n (formatted g) (session_on (bounds_of g) x) log mounted cmds replies marks) (laws.one g.n (formatted g) (start (bounds_of g)).tree t laws.root stands) points_left;
    none = λ none. absurd (none (start (bounds_of g)).tree laws.root);
  }

  issued_alike : (es : List Event) (b : ℕ) → b < g.n → issued base es b ≡ issued (formatted g) es b
  issued_alike es b low = ap (λ (x : List ℕ). issued (λ _. x) es b) (r.same b low)

  issued_last : IssuesLast g.n (formatted g) (start (bounds_of g)) log mounted cmds replies marks
  issued_last = record {
    each = λ i upto none. ∥∥₁_map (r.run.issued.each i upto none) (λ one. record {
      point = one.point;
      is = one.is;
      stands = laws.alike g.n (issued base (take (last_mark mounted (take i marks)) log)) (issued (formatted g) (take (last_mark mounted (take i marks)) log)) one.point.tree (issued_alike (take (last_mark mounted (take i marks)) log)) one.stands;
    });
  }

  pub serves : Each IsCommand cmds → Serves g cmds (front_of (says g log mounted cmds replies marks))
  serves commands =
      let low = small g r.fits in
      record {
        log = log;
        mounted = mounted;
        replies = replies;
        marks = marks;
        first = r.first;
        after = r.after;
        room = r.room;
        lawful = record {
          blocks = omega (arith, low.0);
          journal = omega (arith, low.1);
          nodes = omega (arith, low.2);
          log = r.lawful;
          events = r.events;
          cmds = commands;
          replies = r.answers;
          each_answered = r.run.answered;
          each_marked = r.run.marked;
          ascend = r.run.ascend;
        };
        empty = r.empty;
        run = r.rooms;
        stops = r.run.stops;
        begins = laws.root;
        consistent = consistent;
        issued = issued_last;
        budget = r.most;
        spends = r.spends;
        is = refl;
      }

module _ (set : Setting) (laws : RunLaws set.shape) (s : State) (mounted : ℕ) (cmds : List Cmd) (replies : List Reply) (marks : List ℕ) (ran : Ran set.shape mounted cmds replies marks s) (paced : PacedRun set.shape set.manner mounted cmds replies marks s) (known : KnownRun set.shape s mounted cmds replies marks) where
  abbrev g : Geometry
  g = set.shape

  abbrev later : List Cmd → List Reply
  later more = ending_replies s.books.stopped more

  ending : (more : List Cmd) → RunsOf g s.crash.base s.crash.log mounted (cmds ++ more) (replies ++ later more) (marks ++ ending_marks (length s.crash.log) more)
  ending more = record {
    run = known.ends more;
    first = ran.first;
    empty = ran.empty;
    after = ran.after;
    room = room_of s;
    rooms = runs_on g (start (bounds_of g)) ran.after ran.after ran.first (room_of s) (room_of s) cmds replies more (later more) ran.rooms (all_end g ran.after (room_of s) (known.room ran.after ran.session) s.books.stopped more);
    most = record { each = λ k from upto. omega (arith, known.most.each k from upto, laws.budget cmds replies more (later more) ran.served.answered) };
    spends = known.spends more;
    same = ran.base;
    fits = ran.fits;
    lawful = ran.lawful;
    events = ran.events;
    answers = each_append IsReply replies (later more) ran.answers (replies_end s.books.stopped more);
  }

  abbrev text : List ℕ
  text = front_of (says set.shape s.crash.log mounted cmds replies marks)

  here : Each IsCommand cmds → Serves g cmds text
  here = serves g laws s.crash.base s.crash.log mounted cmds replies marks (record {
    run = record { run = ran.served.run; stops = ran.served.stops; answered = ran.served.answered; marked = ran.served.marked; ascend = ran.served.ascend; crashes = ran.served.crashes; issued = ran.served.issued };
    first = ran.first;
    empty = ran.empty;
    after = ran.after;
    room = room_of s;
    rooms = ran.rooms;
    most = known.most;
    spends = ran.spends;
    same = ran.base;
    fits = ran.fits;
    lawful = ran.lawful;
    events = ran.events;
    answers = ran.answers;
  })

  here_by : Each IsCommand cmds → ServesBy set cmds text
  unfolding here serves
  here_by commands = record { served = here commands; goes = record { writes = paced.writes; last = pace_of paced.goes.taken s; paces = paced.goes.paces; opens = paced.opens; alone = paced.alone; mounts = paced.mounts; once = paced.once; unspent = paced.unspent } }

  goes_on : (cmd : Cmd) (more : List Cmd) → GoesOnWith g cmds text cmd more
  goes_on cmd more =
      let log = s.crash.log in
      let line = first_line log (length log) cmd more (ending_reply s.books.stopped cmd) (ending_replies (over_after s.books.stopped cmd) more) (length log) (ending_marks (length log) more) in
      let all = front_on g log log [] mounted cmds replies marks (cmd ∷ more) (later (cmd ∷ more)) (ending_marks (length log) (cmd ∷ more)) (sym (append-nil log)) ran.served.answered ran.served.marked ran.served.ascend in
      record {
        rest = line.0;
        served = λ lawful. subst (λ (xs : List ℕ). Serves g (cmds ++ cmd ∷ more) xs)
            (all ∙ ap (λ (xs : List ℕ). text ++ xs) line.1 ∙ sym (append_assoc text (command_line (command_text cmd)) line.0))
            (serves g laws s.crash.base log mounted (cmds ++ cmd ∷ more) (replies ++ later (cmd ∷ more)) (marks ++ ending_marks (length log) (cmd ∷ more)) (ending (cmd ∷ more)) lawful);
      }

  pub records : Records set cmds text s
  records = record { mounted = mounted; replies = replies; marks = marks; ran = ran; paced = paced; is = refl; served = here_by; ends = goes_on }

-- One command more.

module _ (cmd : Cmd) (reply : Reply) (old new : State) (a : IsAnswered cmd reply old new) (lawful : IsReply reply) (g : Geometry) (mounted : ℕ) (cmds : List Cmd) (replies : List Reply) (marks : List ℕ) (ran : Ran g mounted cmds replies marks old) where
  geom_is : new.books.geom ≡ g
  geom_is = (a.room ran.after ran.session).2 ∙ ran.served.geom

  mount_same : take mounted new.crash.log ≡ take mounted old.crash.log
  mount_same = ap (λ (es : List Event). take mounted es) a.grows.log ∙ take_front mounted old.crash.log a.grows.more (from_le mounted marks (length old.crash.log) ran.served.ascend)
    where
      from_le : (from : ℕ) (ms : List ℕ) (events : ℕ) → Ascend from ms events → from ≤ events
      from_le from [] events up = omega (arith, up)
      from_le from (m ∷ ms) events up = omega (arith, up.0, from_le m ms events up.1)

      take_front : (n : ℕ) (xs ys : List Event) → n ≤ length xs → take n (xs ++ ys) ≡ take n xs
      take_front n xs ys le = take-append-le n xs ys le

  budget_on : KeepsBudget g (start (bounds_of g)).tree (writes_in (take mounted new.crash.log)) (cmds ++ cmd ∷ []) (replies ++ reply ∷ []) new
  budget_on = subst (λ (es : List Event). KeepsBudget g (start (bounds_of g)).tree (writes_in es) (cmds ++ cmd ∷ []) (replies ++ reply ∷ []) new) (sym mount_same)
      (a.budget g (start (bounds_of g)).tree mounted (writes_in (take mounted old.crash.log)) cmds replies marks ran.served ran.budget)

  pub ran_on : Ran g mounted (cmds ++ cmd ∷ []) (replies ++ reply ∷ []) (marks ++ length new.crash.log ∷ []) new
  ran_on =
      let answered = a.room ran.after ran.session in
      record {
        served = a.serves g (start (bounds_of g)).tree mounted cmds replies marks ran.served;
        first = ran.first;
        empty = ran.empty;
        after = answered.0;
        session = answered.1;
        rooms = runs_on g (start (bounds_of g)) ran.after answered.0 ran.first (room_of old) (room_of new) cmds replies (cmd ∷ []) (reply ∷ []) ran.rooms
            (answered.0, room_of new, subst (λ (k : Geometry). AnswersOn k ran.after (room_of old) cmd reply answered.0 (room_of new)) ran.served.geom answered.3, (refl, refl));
        budget = budget_on;
        spends = a.spends g (start (bounds_of g)).tree mounted cmds replies marks ran.served budget_on ran.spends;
        base = λ b low. ap (λ (m : Blocks). m b) a.base ∙ ran.base b low;
        fits = ran.fits;
        lawful = subst (λ (k : Geometry). IsLogOf k.n new.crash.log) geom_is a.lawful;
        events = a.events;
        answers = each_append IsReply replies (reply ∷ []) ran.answers (lawful, tt);
      }

-- Lists with one element more.

-- numbers that are used up are far
spent_far : (k : Bookkeeping) → is_spent k ≡ true → 2 ^ 63 - 8 ≤ k.turns
spent_far k is = leb-true (2 ^ 63 - 8) k.turns is

module _ (cmd : Cmd) (reply : Reply) (old new : State) (a : IsAnswered cmd reply old new) (g : Geometry) (m : Manner) (f : Session) (mounted : ℕ) (cmds : List Cmd) (replies : List Reply) (marks : List ℕ) (session : IsSession old f) (run : PacedRun g m mounted cmds replies marks old)
    (goes : GoesByLog (session_by g mounted) (formatted g) m (pace_at_first g mounted) (start (bounds_of g)).tree (cmds ++ cmd ∷ []) (replies ++ reply ∷ []) (marks ++ length new.crash.log ∷ []) new) where
  -- so many commands don't use the numbers up
  unspent_on : (i : ℕ) → i < 2 ^ 40 → slice_get (replies ++ reply ∷ []) i ≡ Some (Refused Spent) → ⊥
  unspent_on i few at = by (get_split_at replies reply (Refused Spent) i at)
    where
      by : (slice_get replies i ≡ Some (Refused Spent)) ⊎ ((reply ≡ Refused Spent) × (i ≡ length replies)) → ⊥
      by (inl earlier) = run.unspent i few earlier
      by (inr now) = absurd (omega (arith, few, now.1, run.turns, spent_far old.books (a.spent f session now.0)))

  -- the first events are the same
  front : take mounted new.crash.log ≡ take mounted old.crash.log
  front = ap (λ (es : List Event). take mounted es) a.grows.log ∙ take-append-le mounted old.crash.log a.grows.more run.goes.of_mount.late

  pub paced_on : PacedRun g m mounted (cmds ++ cmd ∷ []) (replies ++ reply ∷ []) (marks ++ length new.crash.log ∷ []) new
  paced_on = record {
    writes = subst (λ (x : Manner). GoesBy x new.crash.log) goes.manner a.writes;
    goes = goes;
    opens = run.opens;
    alone = run.alone;
    mounts = ap has_lost front ∙ run.mounts;
    once = subst (MountsOnce g) (sym front) run.once;
    turns = omega (arith, a.turns, run.turns, length-append replies (reply ∷ []));
    unspent = unspent_on;
  }

-- the text of the longer run is that so far, and the command's entry behind it
pub text_on : (g : Geometry) (old new : List Event) (mounted : ℕ) (cmds : List Cmd) (replies : List Reply) (marks : List ℕ) (cmd : Cmd) (reply : Reply) → Grows old new → length cmds ≡ length replies → length marks ≡ length replies → Ascend mounted marks (length old)
    → front_of (says g new mounted (cmds ++ cmd ∷ []) (replies ++ reply ∷ []) (marks ++ length new ∷ [])) ≡ front_of (says g old mounted cmds replies marks) ++ entry (drop (length old) new) cmd reply (length new)
text_on g old new mounted cmds replies marks cmd reply grows answered marked up =
    front_on g new old grows.more mounted cmds replies marks (cmd ∷ []) (reply ∷ []) (length new ∷ []) grows.log answered marked up
    ∙ ap (λ (xs : List ℕ). front_of (says g old mounted cmds replies marks) ++ xs) (one_entry new old grows.more cmd reply grows.log)

-- The recording with one command more: its text is that so far, and behind it the entry.
pub records_on : (cmd : Cmd) (reply : Reply) (old new : State) → IsAnswered cmd reply old new → ((g : Geometry) → geometry_fits g ≡ true → RunLaws g)
    → ((g : Geometry) (mounted : ℕ) (cmds : List Cmd) (replies : List Reply) (marks : List ℕ) → Ran g mounted cmds replies marks new → KnownRun g new mounted cmds replies marks) → IsReply reply
    → (set : Setting) (past : List Cmd) (text : List ℕ) → Records set past text old → Records set (past ++ cmd ∷ []) (text ++ entry (drop (length old.crash.log) new.crash.log) cmd reply (length new.crash.log)) new
records_on cmd reply old new a laws known lawful set past text r =
    let g = set.shape in
    let ran = ran_on cmd reply old new a lawful g r.mounted past r.replies r.marks r.ran in
    let goes = a.goes (session_by g r.mounted) (formatted g) set.manner (pace_at_first g r.mounted) (start (bounds_of g)).tree past r.replies r.marks r.ran.served r.paced.goes in
    let paced = paced_on cmd reply old new a g set.manner r.ran.after r.mounted past r.replies r.marks r.ran.session r.paced goes in
    subst (λ (xs : List ℕ). Records set (past ++ cmd ∷ []) xs new)
    (text_on g old.crash.log new.crash.log r.mounted past r.replies r.marks cmd reply a.grows r.ran.served.answered r.ran.served.marked r.ran.served.ascend
    ∙ ap (λ (xs : List ℕ). xs ++ entry (drop (length old.crash.log) new.crash.log) cmd reply (length new.crash.log)) (sym r.is))
    (records set (laws g r.ran.fits) new r.mounted (past ++ cmd ∷ []) (r.replies ++ reply ∷ []) (r.marks ++ length new.crash.log ∷ []) ran paced
    (known g r.mounted (past ++ cmd ∷ []) (r.replies ++ reply ∷ []) (r.marks ++ length new.crash.log ∷ []) ran))

-- The first moment of a recording: the mount's events, and no command. The room is that of a formatted disk.

first_room : (g : Geometry) (r : Room) → IsFirstRoom g r → r ≡ (room_at_first g).room
first_room g r is =
    ap₂ (λ (w h : ℕ). record { weight = w; held = h; takeable = r.takeable; places = r.places; kept = r.kept }) is.weight is.held
    ∙ ap₂ (λ (xs : List ℕ) (at : ℕ → List ℕ). record { weight = 0; held = 0; takeable = xs; places = at; kept = r.kept }) is.takeable (fun_ext is.places)
    ∙ ap (λ (k : KeptLists). record { weight = 0; held = 0; takeable = data_blocks g; places = λ n. []; kept = k }) (fun_ext (λ name. fun_ext (is.kept name)))

room_first : (g : Geometry) (s : State) → IsFirstRoom g (room_of s) → ((b : ℕ) → s.books.since b ≡ None) → room_on s ≡ room_at_first g
room_first g s room since = ap₂ (λ (r : Room) (of : ℕ → Option ℕ). record { room = r; since = of }) (first_room g (room_of s) room) (fun_ext since)

pub front_at_first : (g : Geometry) (log : List Event) → front_of (says g log (length log) [] [] []) ≡ geometry_line g ++ event_lines log
front_at_first g log = append-nil (geometry_line g ++ event_lines (take (length log) log)) ∙ ap (λ (es : List Event). geometry_line g ++ event_lines es) (take_all (length log) log (omega arith))

pub at_first : (set : Setting) (s : State) → geometry_fits set.shape ≡ true → IsOpened set s → ((k : Geometry) → geometry_fits k ≡ true → RunLaws k)
    → ((k : Geometry) (mounted : ℕ) (cmds : List Cmd) (replies : List Reply) (marks : List ℕ) → Ran k mounted cmds replies marks s → KnownRun k s mounted cmds replies marks) → BeginsSo s
    → Records set [] (geometry_line set.shape ++ event_lines s.crash.log) s
at_first set s fits opened laws known begins =
    let g = set.shape in
    let ses = session_by g (length s.crash.log) in
    let going : s.books.stopped ≡ false = opened.served.goes_on.going (λ i is. none-some _ is) in
    let ran : Ran g (length s.crash.log) [] [] [] s = record {
      served = opened.served;
      first = room_of s;
      empty = opened.room;
      after = start (bounds_of g);
      session = opened.served.goes_on.session;
      rooms = (refl, refl);
      budget = subst (λ (es : List Event). KeepsBudget g (start (bounds_of g)).tree (writes_in es) [] [] s) (sym (take_all (length s.crash.log) s.crash.log (omega arith))) opened.budget;
      spends = (laws g fits).spends s.crash.log;
      base = opened.base;
      fits = fits;
      lawful = opened.lawful;
      events = opened.events;
      answers = tt;
    } in
    let pace : pace_of (nothing_taken (start (bounds_of g))) s ≡ pace_at_first g (length s.crash.log) =
    ap₂ (λ (n : ℕ) (over : Bool). record { polls = n; events = length s.crash.log; over = over; durable = s.books.floor; taken = nothing_taken (start (bounds_of g)); room = room_on s }) opened.polls going
    ∙ ap₂ (λ (n : ℕ) (r : RoomOn). record { polls = 0; events = length s.crash.log; over = false; durable = n; taken = nothing_taken (start (bounds_of g)); room = r }) opened.floor (room_first g s opened.room opened.since) in
    let paced : PacedRun g set.manner (length s.crash.log) [] [] [] s = record {
      writes = opened.writes;
      goes = subst (λ (p : Pace). GoesByLog ses (formatted g) set.manner p (start (bounds_of g)).tree [] [] [] s) pace (begins ses (formatted g) set.manner (start (bounds_of g)).tree (record {
        limits = (laws g fits).limits;
        of_mount = opened.of_mount;
        manner = opened.manner;
        ended = refl;
        owed = opened.owed;
        point = omega (arith, opened.served.goes_on.exact going);
        only = opened.only;
        unlost = λ known. (opened.faults, opened.unlost);
      }));
      opens = opened.opens;
      alone = opened.alone;
      mounts = ap has_lost (take_all (length s.crash.log) s.crash.log (omega arith)) ∙ opened.unlost;
      once = subst (MountsOnce g) (sym (take_all (length s.crash.log) s.crash.log (omega arith))) opened.once;
      turns = omega (arith, opened.turns);
      unspent = λ i few is. none-some _ is;
    } in
    subst (λ (xs : List ℕ). Records set [] xs s) (front_at_first g s.crash.log) (records set (laws g fits) s (length s.crash.log) [] [] [] ran paced (known g (length s.crash.log) [] [] [] ran))
