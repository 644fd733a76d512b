-- What a run has taken of its disk after one command more, and what that command waited for.
use Rattle.std.proofs.Common.{◌≡◌, ◌≢◌, ◌⊎◌, inl, inr, ⊎_elim, ℕ, zero, suc, ◌+◌, ◌-◌, ◌<◌, ◌≤◌, ◌==◌, ◌||◌, ◌&&◌, not, nat_le, nat_lt, if◌then◌else◌, Bool, true, false, List, [], ◌∷◌, ◌++◌, length, take, drop, Option, Some, refl, sym, ap, ap₂, ◌∙◌, subst, append_assoc, append-nil, arith}
use Rattle.std.proofs.Props.{props}
use Rattle.std.proofs.Math.Logic.{∥∥₁_elim, ∥∥₁_map, ∥∥₁_prop}
use Rattle.std.proofs.Math.Seq.{take-append_seam, take-length, drop-append_seam, drop-length}
use Rattle.std.proofs.lemmas.Bool.Decides.{nat_tests}
use Rattle.std.proofs.lemmas.Bool.{and_from, cases_Bool, cond-true, cond-false, eqb-true, eq-eqb, ne_eqb, false≢true, true≢false, or_left, or_parts, or_right}
use Rattle.std.proofs.lemmas.List.{append_cancel_left, drop-append-le, take-append-le, length-append}
use Rattle.std.specs.List.{slice_get}
use Rattle.base_types.specs.Seal.{Blocks}
use Rattle.disk_contract.specs.declared.event.Event.{Event}
use Rattle.disk_contract.specs.declared.event.Event.TheVariants.{Wrote, Lost, Noticed}
use Rattle.disk_contract.specs.Cell.{cell_of, is_accepted, is_noticed, IsNoticed}
use Rattle.disk_contract.specs.Disk.{AreWrites, Grows, GrowsByWrites, PollsFirst, PollsThenWrites, writes_in}
use Rattle.disk_contract.specs.Lawful.{AreLawfulAfter, IsLawful}
use Rattle.disk_contract.specs.Manner.{Manner, Polled, after_polls}
use Rattle.disk_contract.specs.Logs.{writes_in-append as writes_on}
use Rattle.layout_geometry.specs.Geometry.{Geometry}
use Rattle.layout_journal.specs.declared.header.Header.{Header}
use Rattle.layout_journal.specs.declared.record.Commit.{Commit}
use Rattle.layout_journal.specs.Layout.{commit_of, descriptor_count}
use Rattle.layout_journal.specs.Run.{places_from, places_told, writes_stood_for}
use Rattle.crash_argument.specs.Points.{MountedSession, commits_told, is_commit, records_told, where_told}
use Rattle.engine_checkpoint.specs.Serving.{IsNewestAtRest}
use Rattle.lang_tree.specs.declared.command.Cmd.{Cmd}
use Rattle.lang_tree.specs.declared.command.Cmd.TheVariants as cmds
use Rattle.lang_tree.specs.declared.command.Refusal.{Refusal}
use Rattle.lang_tree.specs.declared.command.Refusal.TheVariants as because
use Rattle.lang_tree.specs.declared.command.Reply.{Reply}
use Rattle.lang_tree.specs.declared.command.Reply.TheVariants as replied
use Rattle.lang_tree.specs.declared.command.Reply.TheVariants.{Known, Refused}
use Rattle.lang_tree.specs.Points.{Point, after_reply, is_refusal, is_sync, made_by, may_have_written, points_after}
use Rattle.lang_tree.specs.Step.{Session}
use Rattle.lang_tree.specs.Tree.{Tree}
use Rattle.engine_blocks.specs.Calls.{commit_places, commit_writes}
use Rattle.engine_blocks.specs.Crashes.{AwaitsSince, MayAwait, SameRecords, StillAwaits}
use Rattle.engine_blocks.specs.Running.{fresh_blocks, payloads, record_writes}
use Rattle.engine_blocks.specs.State.{State, reusable_blocks}
use Rattle.engine_store.specs.SessionView.{Starts, records_of}
use Rattle.fs_session.specs.Applying.{NeedsNoWait}
use Rattle.fs_session.specs.Commands.{figures_on}
use Rattle.fs_session.specs.Memory.{room_of}
use Rattle.fs_session.specs.Room.{figures_in}
use Rattle.fs_session.specs.Sessions.{IsSession}
use Rattle.cmd_session.specs.Shared.{accepted_on}
use Rattle.cmd_session.specs.Budget.{commits, sync_budget, sync_places, writes_of}
use Rattle.cmd_session.specs.Histories.{last_mark, session_after}
use Rattle.cmd_session.specs.Serving.{HasServed}
use Rattle.cmd_session.specs.Records.{own_records}
use Rattle.cmd_session.specs.Answered.{AnsweredIn, FitsAmong, FreesBy, WaitsOn, WritesIn}
use Rattle.cmd_session.specs.Going.{KeepsTaken, pace_of, session_at}
use Rattle.cmd_session.specs.Pacing.{DoneInRing, FindsPlaces, FindsRoom, FitsUnder, HearsIn, KnowsUpTo, OrdersAtOnce, TellsRing, WritesRecordBy, is_fault}
use Rattle.cmd_session.specs.Taking.{CameIn, Span, Taken, is_done_sync, makes_point, nothing_taken, places_wanted, stands_for, taken_by}
use Rattle.cmd_session.proofs.Histories.{none_is, points_more}
use Rattle.cmd_session.proofs.Rooms.{sync_is_meant}

-- Accepted and noticed tickets of a log, and of its fronts.

accepted_front : (t n : ℕ) (xs ys : List Event) → is_accepted t (take n xs) ≡ true → is_accepted t (take n (xs ++ ys)) ≡ true
accepted_front t zero xs ys is = absurd (false≢true is)
accepted_front t (suc n) [] ys is = absurd (false≢true is)
accepted_front t (suc n) (Wrote ticket block bytes ∷ xs) ys is = grind (arith, accepted_front t n xs ys, cases_Bool (ticket == t), or_left, or_right)
accepted_front t (suc n) (Lost block bytes ∷ xs) ys is = accepted_front t n xs ys is
accepted_front t (suc n) (Noticed ticket ∷ xs) ys is = accepted_front t n xs ys is

-- the notices of a lawful log are of accepted writes
noticed_given : (t : ℕ) (before es : List Event) → AreLawfulAfter before es → is_noticed t es ≡ true → is_accepted t (before ++ es) ≡ true
noticed_given t before [] lawful is = absurd (false≢true is)
noticed_given t before (Wrote ticket block bytes ∷ es) lawful is = ap (is_accepted t) (sym (append_assoc before (Wrote ticket block bytes ∷ []) es)) ∙ noticed_given t (before ++ Wrote ticket block bytes ∷ []) es lawful.1 is
noticed_given t before (Lost block bytes ∷ es) lawful is = ap (is_accepted t) (sym (append_assoc before (Lost block bytes ∷ []) es)) ∙ noticed_given t (before ++ Lost block bytes ∷ []) es lawful.1 is
noticed_given t before (Noticed ticket ∷ es) lawful is = grind (arith, noticed_given t (before ++ Noticed ticket ∷ []) es lawful.1, cases_Bool (ticket == t), accepted_on, eqb-true, append_assoc)

-- A write that came in a span came in it still when the log is longer.
came_longer : (log more : List Event) (span : Span) (t : ℕ) → span.begun ≤ length log → CameIn log span t → CameIn (log ++ more) span t
came_longer log more span t low came = grind (arith, take-append-le, span.begun, came.not_before, accepted_front, span.mark, came.by_then)

-- Spans, and one more.

at_front : {A : Type 0} (xs ys : List A) (x : A) (i : ℕ) → slice_get xs i ≡ Some x → slice_get (xs ++ ys) i ≡ Some x
at_front [] ys x zero is = grind (arith, false≢true)
at_front [] ys x (suc i) is = grind (arith, false≢true)
at_front (y ∷ xs) ys x zero is = is
at_front (y ∷ xs) ys x (suc i) is = at_front xs ys x i is

at_end : {A : Type 0} (xs : List A) (x : A) → slice_get (xs ++ x ∷ []) (length xs) ≡ Some x
at_end [] x = refl
at_end (y ∷ xs) x = at_end xs x

-- What a run's fold is after one command more.

session_more : (s : Session) (cmds : List Cmd) (replies : List Reply) (cmd : Cmd) (reply : Reply) → length cmds ≡ length replies → session_after s (cmds ++ cmd ∷ []) (replies ++ reply ∷ []) ≡ after_reply (session_after s cmds replies) cmd reply
session_more s [] [] cmd reply same = refl
session_more s [] (r ∷ replies) cmd reply same = absurd (omega (arith, same))
session_more s (c ∷ cmds) [] cmd reply same = absurd (omega (arith, same))
session_more s (c ∷ cmds) (r ∷ replies) cmd reply same = session_more (after_reply s c r) cmds replies cmd reply (omega (arith, same))

-- what stands at a place of the first n
get_in_take : {A : Type 0} (n : ℕ) (xs : List A) (i : ℕ) (x : A) → i < n → slice_get xs i ≡ Some x → slice_get (take n xs) i ≡ Some x
get_in_take zero xs i x low is = absurd (omega (arith, low))
get_in_take (suc n) [] i x low is = absurd (none_is i x is)
get_in_take (suc n) (y ∷ xs) zero x low is = is
get_in_take (suc n) (y ∷ xs) (suc i) x low is = get_in_take n xs i x (omega (arith, low)) is

-- how many points a command makes
abbrev one_if : Bool → ℕ
one_if b = if b then 1 else 0

length_if : {A : Type 0} (b : Bool) (x : A) → length (if b then x ∷ [] else []) ≡ one_if b
length_if b x = grind arith

made_one : (s : Session) (cmd : Cmd) (reply : Reply) (mark : ℕ) → length (made_by s cmd reply mark) ≡ one_if (makes_point s cmd reply)
made_one s cmd reply mark = length_if (makes_point s cmd reply) (record { tree = s.tree; begun = mark })

-- What the log tells of records.

commits_on : (g : Geometry) (epoch : ℕ) (xs ys : List Event) → commits_told g epoch (xs ++ ys) ≡ commits_told g epoch xs ++ commits_told g epoch ys
commits_on g epoch [] ys = refl
commits_on g epoch (Wrote t b x ∷ xs) ys = ap (λ (cs : List Commit). where_told (is_commit g epoch b x) (commit_of g x) ++ cs) (commits_on g epoch xs ys) ∙ sym (append_assoc (where_told (is_commit g epoch b x) (commit_of g x)) (commits_told g epoch xs) (commits_told g epoch ys))
commits_on g epoch (Lost b x ∷ xs) ys = ap (λ (cs : List Commit). where_told (is_commit g epoch b x) (commit_of g x) ++ cs) (commits_on g epoch xs ys) ∙ sym (append_assoc (where_told (is_commit g epoch b x) (commit_of g x)) (commits_told g epoch xs) (commits_told g epoch ys))
commits_on g epoch (Noticed t ∷ xs) ys = commits_on g epoch xs ys

-- a log that goes on tells those of its front, and its own
records_on : (ses : MountedSession) (xs ys : List Event) → ses.mounted ≤ length xs → records_told ses (xs ++ ys) ≡ records_told ses xs ++ commits_told ses.geom ses.epoch ys
records_on ses xs ys late = ap (commits_told ses.geom ses.epoch) (drop-append-le ses.mounted xs ys late) ∙ commits_on ses.geom ses.epoch (drop ses.mounted xs) ys

-- Writes in a log.

-- where no write came, none was accepted
none_accepted : (t : ℕ) (xs ys : List Event) → writes_in ys ≡ 0 → is_accepted t (xs ++ ys) ≡ is_accepted t xs
none_accepted t (Wrote u b x ∷ xs) ys none = ap (λ (later : Bool). (u == t) || later) (none_accepted t xs ys none)
none_accepted t (Lost b x ∷ xs) ys none = none_accepted t xs ys none
none_accepted t (Noticed u ∷ xs) ys none = none_accepted t xs ys none
none_accepted t [] [] none = refl
none_accepted t [] (Wrote u b x ∷ ys) none = absurd (omega (arith, none))
none_accepted t [] (Lost b x ∷ ys) none = absurd (omega (arith, none))
none_accepted t [] (Noticed u ∷ ys) none = none_accepted t [] ys none

-- writes bring no notice
noticed_on : (t : ℕ) (xs ys : List Event) → AreWrites ys → is_noticed t (xs ++ ys) ≡ is_noticed t xs
noticed_on t (Wrote u b x ∷ xs) ys all = noticed_on t xs ys all
noticed_on t (Lost b x ∷ xs) ys all = noticed_on t xs ys all
noticed_on t (Noticed u ∷ xs) ys all = ap (λ (later : Bool). (u == t) || later) (noticed_on t xs ys all)
noticed_on t [] [] all = refl
noticed_on t [] (Wrote u b x ∷ ys) all = noticed_on t [] ys all
noticed_on t [] (Lost b x ∷ ys) all = noticed_on t [] ys all
noticed_on t [] (Noticed u ∷ ys) all = absurd all

are_writes_on : (xs ys : List Event) → AreWrites xs → AreWrites ys → AreWrites (xs ++ ys)
are_writes_on [] ys a b = b
are_writes_on (Wrote u k x ∷ xs) ys a b = are_writes_on xs ys a b
are_writes_on (Lost k x ∷ xs) ys a b = are_writes_on xs ys a b
are_writes_on (Noticed u ∷ xs) ys a b = absurd a

-- A list that begins with another one and is no longer is that one.
no_more : (xs more cs : List Commit) → cs ≡ xs ++ more → length cs ≡ length xs → cs ≡ xs
no_more xs more cs is same = is ∙ ap (λ (ys : List Commit). xs ++ ys) (none more (omega (arith, ap (λ (ys : List Commit). length ys) is, same, length-append xs more))) ∙ append-nil xs
  where
    none : (ys : List Commit) → length ys ≡ 0 → ys ≡ []
    none [] e = refl
    none (y ∷ ys) e = absurd (omega (arith, e))

-- one record's places
from_none : (n : ℕ) → nat_le 0 n ≡ true
from_none n = grind (arith, nat_tests)

one_place : (c : Commit) → places_from 0 (c ∷ []) ≡ places_told c
one_place c = omega (arith, ap (λ (b : Bool). if b then places_told c else 0) (from_none c.number))

-- A transaction that weighs something changed something.
weighs_some : (n : ℕ) → nat_lt 0 n ≡ true → 0 < n
weighs_some n h1 = grind (arith, false≢true)

some_weighs : (n : ℕ) → 0 < n → nat_lt 0 n ≡ true
some_weighs n some = grind (arith, nat_tests, some)

zero_or_some : (n : ℕ) → (n ≡ 0) ⊎ (0 < n)
zero_or_some n = grind arith

parts_of : (a b : Bool) → (a && b) ≡ true → (a ≡ true) × (b ≡ true)
parts_of a b h1 = grind (arith, false≢true)

not_is : (a : Bool) → not a ≡ true → a ≡ false
not_is a h1 = grind (arith, false≢true)

is_not : (a : Bool) → a ≡ false → not a ≡ true
is_not a h1 = grind (arith, false≢true)

-- a sync that may have written and that no fault ended is done
why_not : (why : Refusal) → may_have_written (Refused why) ≡ true → is_fault (Refused why) ≡ false → ⊥
why_not why h1 h2 = grind (arith, false≢true)

not_refused : (reply : Reply) → may_have_written reply ≡ true → is_fault reply ≡ false → is_refusal reply ≡ false
not_refused reply h1 h2 = grind (arith, why_not)

done_writes : (reply : Reply) → is_refusal reply ≡ false → may_have_written reply ≡ true
done_writes reply h1 = grind arith

some_is : (cs ds : List Commit) → Some cs ≡ Some ds → cs ≡ ds
some_is cs ds e = search

-- One command more.

module _ (cmd : Cmd) (reply : Reply) (old new : State) (w : WaitsOn cmd reply old new) (grows : Grows old.crash.log new.crash.log) (ses : MountedSession) (base : Blocks) (m : Manner) (tree : Tree) (asked : List Cmd) (replies : List Reply) (marks : List ℕ)
    (before : HasServed ses.geom tree ses.mounted asked replies marks old) (after : HasServed ses.geom tree ses.mounted (asked ++ cmd ∷ []) (replies ++ reply ∷ []) (marks ++ length new.crash.log ∷ []) new)
    (over : new.books.stopped ≡ (old.books.stopped || is_fault reply))
    (t : Taken) (keeps : KeepsTaken ses m tree asked replies old t) (tells : SameRecords (records_of ses base) old.crash.records) (within : ses.mounted ≤ length old.crash.log)
    (next : Session) (a : AnsweredIn (session_after (session_at ses tree) asked replies) cmd reply next old new) (is_manner : old.counts.ticks.manner ≡ m) where
  abbrev f : Session
  f = session_after (session_at ses tree) asked replies

  abbrev g : Geometry
  g = ses.geom

  -- behind the tick the ring is told, where a wait brings no other notice
  ring_told : cmd ≢ cmds.Bad → old.books.stopped ≡ false → reply ≢ Refused because.Spent → m.waits_alone ≡ true → FreesBy old a.behind a.free ⊎ ((new.crash.log ≡ a.behind) × (reply ≡ Refused because.DiskFault))
  ring_told meant going unspent alone = a.ring meant going unspent (ap (λ (x : Manner). x.waits_alone) is_manner ∙ alone)

  is_session : IsSession old f
  is_session = before.goes_on.session

  going_before : new.books.stopped ≡ false → (old.books.stopped ≡ false) × (is_fault reply ≡ false)
  going_before going = or_parts old.books.stopped (is_fault reply) (sym over ∙ going)

  longer : length old.crash.log ≤ length new.crash.log
  longer = omega (arith, ap (λ (es : List Event). length es) grows.log, length-append old.crash.log grows.more)

  came_still : (s : Span) (ticket : ℕ) → s.begun ≤ length old.crash.log → CameIn old.crash.log s ticket → CameIn new.crash.log s ticket
  came_still s ticket low came = subst (λ (es : List Event). CameIn es s ticket) (sym grows.log) (came_longer old.crash.log grows.more s ticket low came)

  -- The log behind the tick, and the records that it tells.

  abbrev behind : List Event
  behind = a.behind

  behind_low : length old.crash.log ≤ length behind
  behind_low = omega (arith, ap (λ (es : List Event). length es) a.begins.log, length-append old.crash.log a.begins.more)

  behind_within : length behind ≤ length new.crash.log
  behind_within = omega (arith, ap (λ (es : List Event). length es) a.goes_on.log, length-append behind a.goes_on.more)

  before_behind : take (length behind) new.crash.log ≡ behind
  before_behind = ap (λ (es : List Event). take (length behind) es) a.goes_on.log ∙ take-append_seam behind a.goes_on.more

  abbrev own : List Commit
  own = own_records ses new.crash.log (length a.behind) (length new.crash.log)

  own_is : own ≡ commits_told g ses.epoch a.goes_on.more
  own_is = grind (arith, ses.epoch, take-length, new.crash.log, a.goes_on.log, drop-append_seam, a.goes_on.more)

  told_now : records_told ses new.crash.log ≡ records_told ses behind ++ own
  told_now = ap (records_told ses) a.goes_on.log ∙ records_on ses behind a.goes_on.more (omega (arith, within, behind_low)) ∙ ap (λ (cs : List Commit). records_told ses behind ++ cs) (sym own_is)

  told_is : (es : List Event) → old.crash.records.told es ≡ Some (records_told ses es)
  told_is es = ap (λ (h : List Event → Option (List Commit)). h es) tells.told

  own_one : (x : WritesIn old a.behind a.free new) → own ≡ x.commit ∷ []
  own_one x = append_cancel_left (records_told ses behind) own (x.commit ∷ []) (sym told_now ∙ some_is (records_told ses new.crash.log) (records_told ses behind ++ x.commit ∷ []) (sym (told_is new.crash.log) ∙ x.told (records_told ses behind) (told_is behind)))

  own_none : old.crash.records.told new.crash.log ≡ old.crash.records.told behind → own ≡ []
  own_none same = append_cancel_left (records_told ses behind) own [] (sym told_now ∙ some_is (records_told ses new.crash.log) (records_told ses behind) (sym (told_is new.crash.log) ∙ same ∙ told_is behind) ∙ sym (append-nil (records_told ses behind)))

  -- a sync that is done
  unspent_by : is_refusal reply ≡ false → reply ≢ Refused because.Spent
  unspent_by well spent = true≢false (sym (ap is_refusal spent) ∙ well)

  wrote : is_sync cmd ≡ true → is_refusal reply ≡ false → old.books.stopped ≡ false → 0 < old.books.running.weight → WritesIn old a.behind a.free new
  wrote sync well going some = (a.sync sync going (unspent_by well)).written well some

  -- its record has as many places as the commit block tells
  places_are : (x : WritesIn old a.behind a.free new) → places_told x.commit ≡ commit_places old.books
  places_are x = omega (arith, x.descriptors, ap₂ (λ (m n : ℕ). descriptor_count (m + n)) x.payloads x.fresh, x.payloads)

  abbrev wanted : ℕ
  wanted = places_wanted reply old.books.running.weight own

  wanted_enough : is_sync cmd ≡ true → old.books.stopped ≡ false → 0 < old.books.running.weight → commit_places old.books ≤ wanted
  wanted_enough sync going some = by (cases_Bool (is_refusal reply))
    where
      by : (is_refusal reply ≡ true) ⊎ (is_refusal reply ≡ false) → commit_places old.books ≤ wanted
      by (inl refused) = omega (arith, w.fits, cond-true {A = ℕ} (is_refusal reply) (sync_places old.books.running.weight) (places_from 0 own) refused)
      by (inr well) =
          let x = wrote sync well going some in
          omega (arith, places_are x, cond-false {A = ℕ} (is_refusal reply) (sync_places old.books.running.weight) (places_from 0 own) well, ap (places_from 0) (own_one x), one_place x.commit)

  -- so many fit the ring by the log
  starts_so : (header : Header) → IsNewestAtRest ses.geom.n (cell_of base behind) header → old.crash.records.starts behind header.start
  starts_so header newest = let is : Starts ses base behind header.start = record { header = header; newest = newest; is = refl } in (tells.starts behind header.start).1 ∣ is ∣₁

  finds_free : (n : ℕ) → FreesBy old a.behind a.free → FindsPlaces ses base behind n → n ≤ a.free
  finds_free n frees finds = ∥∥₁_elim finds (search props) (λ (x : (header : Header) × FitsUnder ses base behind n header). omega (
    arith,
    x.1.fits,
    (frees (records_told ses behind) (told_is behind)).places x.0.start (starts_so x.0 x.1.newest),
    ap (λ (k : Geometry). k.j) before.geom,
  ))

  fits_among : is_sync cmd ≡ true → old.books.stopped ≡ false → FreesBy old a.behind a.free → OrdersAtOnce ses base behind old.books.running.weight wanted → FitsAmong old a.free
  fits_among sync going frees (inl none) = inr none
  fits_among sync going frees (inr finds) = by (zero_or_some old.books.running.weight)
    where
      by : (old.books.running.weight ≡ 0) ⊎ (0 < old.books.running.weight) → FitsAmong old a.free
      by (inl none) = inr none
      by (inr some) = inl (omega (arith, wanted_enough sync going some, finds_free wanted frees finds))

  -- Behind the tick the log tells the records of the syncs that are done, and no others, since there are as many as points.

  earlier_records : m.waits_alone ≡ true → old.books.stopped ≡ false → (length t.records ≡ old.books.point) × ((more : List Commit) × (records_told ses old.crash.log ≡ t.records ++ more))
  earlier_records = keeps.records

  records_behind : m.waits_alone ≡ true → old.books.stopped ≡ false → FreesBy old a.behind a.free → records_told ses behind ≡ t.records
  records_behind alone going frees =
      let was = earlier_records alone going in
      let later = commits_told g ses.epoch a.begins.more in
      let told : records_told ses behind ≡ t.records ++ (was.1.0 ++ later) = ap (records_told ses) a.begins.log ∙ records_on ses old.crash.log a.begins.more within ∙ ap (λ (cs : List Commit). cs ++ later) was.1.1 ∙ append_assoc t.records was.1.0 later in
      no_more t.records (was.1.0 ++ later) (records_told ses behind) told (omega (arith, (frees (records_told ses behind) (told_is behind)).one, was.0))

  tells_ring : m.waits_alone ≡ true → old.books.stopped ≡ false → FreesBy old a.behind a.free → TellsRing ses base behind t.records
  tells_ring alone going frees = record {
    told = records_behind alone going frees;
    header = ∥∥₁_elim (frees (records_told ses behind) (told_is behind)).starts ∥∥₁_prop (λ (x : (number : ℕ) × old.crash.records.starts behind number).
        let some : ∥ Starts ses base behind x.0 ∥₁ = (tells.starts behind x.0).0 x.1 in ∥∥₁_map some (λ (s : Starts ses base behind x.0). (s.header, s.newest)));
  }

  pub ring_on : cmd ≢ cmds.Bad → old.books.stopped ≡ false → reply ≢ Refused because.Spent → m.waits_alone ≡ true → TellsRing ses base behind t.records ⊎ ((length new.crash.log ≡ length behind) × (reply ≡ Refused because.DiskFault))
  ring_on meant going unspent alone = ⊎_elim (λ frees. inl (tells_ring alone going frees)) (λ all. inr (ap (λ (es : List Event). length es) all.0, all.1)) (ring_told meant going unspent alone)

  -- a sync of nothing that is done writes nothing
  pub idle_on : is_done_sync cmd reply ≡ true → old.books.stopped ≡ false → old.books.running.weight ≡ 0 → writes_in new.crash.log ≡ writes_in behind
  idle_on done going none =
      let parts = parts_of (is_sync cmd) (not (is_refusal reply)) done in
      let well = not_is (is_refusal reply) parts.1 in
      ((a.sync parts.0 going (unspent_by well)).idle well none).1

  -- The writes of its record.

  pub record Own (begun : ℕ) : Type 0 where
    pub from : length behind ≤ begun
    pub upto : begun ≤ length new.crash.log
    pub written : is_done_sync cmd reply ≡ true → old.books.stopped ≡ false → 0 < old.books.running.weight → WritesRecordBy ses base m new.crash.log old.books.running.weight (length behind) begun (length new.crash.log)
    pub awaits : is_done_sync cmd reply ≡ true → old.books.stopped ≡ false → 0 < old.books.running.weight → (u : ℕ) → new.crash.awaits new.books.point u → is_accepted u (take begun new.crash.log) ≡ false

  pub own_begun : (begun : ℕ) × Own begun
  own_begun = by_done (cases_Bool (is_done_sync cmd reply))
    where
      none : (is_done_sync cmd reply ≡ true → old.books.stopped ≡ false → 0 < old.books.running.weight → ⊥) → (begun : ℕ) × Own begun
      none never = (length behind, record { from = omega arith; upto = behind_within; written = λ done going some. absurd (never done going some); awaits = λ done going some. absurd (never done going some) })

      some : is_sync cmd ≡ true → is_refusal reply ≡ false → old.books.stopped ≡ false → 0 < old.books.running.weight → (begun : ℕ) × Own begun
      some sync well going weighty =
          let x = wrote sync well going weighty in (
            x.begun,
            record {
              from = x.from;
              upto = x.upto;
              written = λ done still more. record {
                commit = x.commit;
                own = own_one x;
                size = omega (arith, places_are x, w.fits);
                upto = x.upto;
                writes = omega (arith, x.writes, ap writes_in (take-length new.crash.log));
                fits = λ alone finds. x.fits (fits_by x (subst (λ (es : List Event). FindsPlaces ses base es (places_told x.commit)) before_behind finds) (ring_told (sync_is_meant cmd sync) going (unspent_by well) alone));
              };
              awaits = λ done still more u waits. x.awaits u waits;
            },
          )
        where
          fits_by : (x : WritesIn old a.behind a.free new) → FindsPlaces ses base behind (places_told x.commit) → FreesBy old a.behind a.free ⊎ ((new.crash.log ≡ a.behind) × (reply ≡ Refused because.DiskFault)) → commit_places old.books ≤ a.free
          fits_by x finds (inl frees) = omega (arith, places_are x, finds_free (places_told x.commit) frees finds)
          fits_by x finds (inr all) = absurd (true≢false (sym (ap is_refusal all.1) ∙ well))

      by_weight : is_sync cmd ≡ true → is_refusal reply ≡ false → old.books.stopped ≡ false → (old.books.running.weight ≡ 0) ⊎ (0 < old.books.running.weight) → (begun : ℕ) × Own begun
      by_weight h1 h2 h3 h4 = grind (arith, none, some)

      by_going : is_sync cmd ≡ true → is_refusal reply ≡ false → (old.books.stopped ≡ true) ⊎ (old.books.stopped ≡ false) → (begun : ℕ) × Own begun
      by_going h1 h2 h3 = grind (arith, zero_or_some old.books.running.weight, none, by_weight, zero_or_some, old.books.running.weight)

      by_done : (is_done_sync cmd reply ≡ true) ⊎ (is_done_sync cmd reply ≡ false) → (begun : ℕ) × Own begun
      by_done h1 = grind (arith, cases_Bool old.books.stopped, none, parts_of, by_going, not_is, old.books.stopped)

  -- there is one point more where the command makes one
  points_on : new.books.stopped ≡ false → new.books.point ≡ old.books.point + one_if (makes_point t.session cmd reply)
  points_on going = omega (
    arith,
    before.goes_on.exact (going_before going).0,
    after.goes_on.exact going,
    ap (λ (ps : List Point). length ps) (points_more (session_at ses tree) ses.mounted asked replies marks cmd reply (length new.crash.log) before.answered before.marked),
    length-append (points_after (session_at ses tree) ses.mounted asked replies marks) (made_by (session_after (session_at ses tree) asked replies) cmd reply (last_mark ses.mounted marks)),
    made_one (session_after (session_at ses tree) asked replies) cmd reply (last_mark ses.mounted marks),
    ap (λ (s : Session). one_if (makes_point s cmd reply)) keeps.session,
  )

  -- A command that makes a point is a sync with something to commit.
  makes_parts : makes_point t.session cmd reply ≡ true → (is_sync cmd ≡ true) × (t.session.changed ≡ true) × (may_have_written reply ≡ true)
  makes_parts made = let one = parts_of (is_sync cmd) (t.session.changed && may_have_written reply) made in let two = parts_of t.session.changed (may_have_written reply) one.1 in (one.0, two.0, two.1)

  changed_is : old.books.stopped ≡ false → t.session.changed ≡ nat_lt 0 old.books.running.weight
  changed_is going = ap (λ (s : Session). s.changed) keeps.session ∙ is_session.changed going

  done_if : makes_point t.session cmd reply ≡ true → is_fault reply ≡ false → is_done_sync cmd reply ≡ true
  done_if made calm = let parts = makes_parts made in and_from (is_sync cmd) (not (is_refusal reply)) parts.0 (is_not (is_refusal reply) (not_refused reply parts.2 calm))

  -- one with nothing to commit makes none
  makes_none : is_sync cmd ≡ true → t.session.changed ≡ false → makes_point t.session cmd reply ≡ false
  makes_none sync none = ap (λ (b : Bool). b && (t.session.changed && may_have_written reply)) sync ∙ ap (λ (b : Bool). b && may_have_written reply) none

  weighty_if : old.books.stopped ≡ false → makes_point t.session cmd reply ≡ true → 0 < old.books.running.weight
  weighty_if going made = weighs_some old.books.running.weight (sym (changed_is going) ∙ (makes_parts made).1)

  -- What is taken, with the span of these writes.
  module _ (begun : ℕ) (mine : Own begun) where
    abbrev late : Span
    late = record { begun = begun; mark = length new.crash.log }

    abbrev now_taken : Taken
    now_taken = taken_by t old.books.running.weight cmd reply own late

    spans_on : new.books.stopped ≡ false → length now_taken.spans ≡ new.books.point
    spans_on going = omega (
      arith,
      length-append t.spans (if makes_point t.session cmd reply then late ∷ [] else []),
      length_if (makes_point t.session cmd reply) late,
      keeps.spans (going_before going).0,
      points_on going,
    )

    abbrev IsIn : ℕ → ℕ → Type 0
    IsIn p ticket = (s : Span) × (slice_get now_taken.spans (p - 1) ≡ Some s) × (s.begun ≤ length new.crash.log) × CameIn new.crash.log s ticket

    awaits_on : new.books.stopped ≡ false → (p ticket : ℕ) → new.crash.awaits p ticket → IsIn p ticket
    awaits_on going p ticket waits = by (a.awaits p ticket waits)
      where
        may : MayAwait new p ticket
        may = w.may p ticket waits

        by_made : (old.books.point < p) × (is_accepted ticket behind ≡ false) → (makes_point t.session cmd reply ≡ true) ⊎ (makes_point t.session cmd reply ≡ false) → IsIn p ticket
        by_made new_one (inr none) = absurd (omega (arith, new_one.0, may.upto, points_on going, ap one_if none))
        by_made new_one (inl made) =
            let last : p - 1 ≡ length t.spans = omega (arith, new_one.0, may.upto, points_on going, ap one_if made, keeps.spans (going_before going).0) in
            let newest : p ≡ new.books.point = omega (arith, new_one.0, may.upto, points_on going, ap one_if made) in (
              late,
              ap (λ (b : Bool). slice_get (t.spans ++ (if b then late ∷ [] else [])) (p - 1)) made ∙ ap (λ (n : ℕ). slice_get (t.spans ++ late ∷ []) n) last ∙ at_end t.spans late,
              mine.upto,
              record {
                not_before = mine.awaits (done_if made (going_before going).1) (going_before going).0 (weighty_if (going_before going).0 made) ticket (subst (λ n. new.crash.awaits n ticket) newest waits);
                by_then = ap (is_accepted ticket) (take-length new.crash.log) ∙ may.accepted;
              },
            )

        by : (old.crash.awaits p ticket) ⊎ ((old.books.point < p) × (is_accepted ticket behind ≡ false)) → IsIn p ticket
        by (inl was) =
            let k = keeps.awaits (going_before going).0 p ticket was in
            (k.0, at_front t.spans (if makes_point t.session cmd reply then late ∷ [] else []) k.0 (p - 1) k.1, omega (arith, k.2, longer), came_still k.0 ticket k.2 k.3)
        by (inr new_one) = by_made new_one (cases_Bool (makes_point t.session cmd reply))

    -- the writes that it may make are those for which it stands
    if_least : (b : Bool) (n : ℕ) → (if b then n else 0) ≤ n
    if_least true n = omega arith
    if_least false n = omega arith

    stands : old.books.stopped ≡ false → writes_of cmd reply old.books ≤ stands_for cmd reply old.books.running.weight own
    stands going = by (cases_Bool (is_done_sync cmd reply))
      where
        by_weight : is_sync cmd ≡ true → is_refusal reply ≡ false → (old.books.running.weight ≡ 0) ⊎ (0 < old.books.running.weight) → commit_writes old.books ≤ writes_stood_for own
        by_weight sync well (inl none) = omega (arith, cond-true {A = ℕ} (old.books.running.weight == 0) 0 (record_writes (payloads old.books.geom old.books.running) (fresh_blocks old.books.geom old.books.running)) (eq-eqb old.books.running.weight 0 none))
        by_weight sync well (inr some) =
            let x = wrote sync well going some in
            omega (
              arith,
              ap writes_stood_for (own_one x),
              x.descriptors,
              ap₂ (λ (m n : ℕ). descriptor_count (m + n)) x.payloads x.fresh,
              x.payloads,
              x.fresh,
              cond-false {A = ℕ} (old.books.running.weight == 0) 0 (record_writes (payloads old.books.geom old.books.running) (fresh_blocks old.books.geom old.books.running)) (ne_eqb old.books.running.weight 0 (λ e. omega (arith, e, some))),
            )

        if_both : (b : Bool) (m n : ℕ) → m ≤ n → (if b then m else 0) ≤ (if b then n else 0)
        if_both true m n le = le
        if_both false m n le = omega arith

        by : (is_done_sync cmd reply ≡ true) ⊎ (is_done_sync cmd reply ≡ false) → writes_of cmd reply old.books ≤ stands_for cmd reply old.books.running.weight own
        by (inl done) =
            let parts = parts_of (is_sync cmd) (not (is_refusal reply)) done in
            omega (arith, if_least (commits cmd reply) (commit_writes old.books), by_weight parts.0 (not_is (is_refusal reply) parts.1) (zero_or_some old.books.running.weight), cond-true {A = ℕ} (is_done_sync cmd reply) (writes_stood_for own) (if commits cmd reply then sync_budget old.books.running.weight else 0) done)
        by (inr not_done) = omega (
          arith,
          if_both (commits cmd reply) (commit_writes old.books) (sync_budget old.books.running.weight) w.few,
          cond-false {A = ℕ} (is_done_sync cmd reply) (writes_stood_for own) (if commits cmd reply then sync_budget old.books.running.weight else 0) not_done,
        )

    mount_same : take ses.mounted new.crash.log ≡ take ses.mounted old.crash.log
    mount_same = ap (take ses.mounted) grows.log ∙ take-append-le ses.mounted old.crash.log grows.more within

    writes_now : (old.books.stopped ≡ true → new.crash.log ≡ old.crash.log) → writes_in new.crash.log + new.books.owed ≤ writes_in (take ses.mounted new.crash.log) + now_taken.budget
    writes_now rests = grind (arith, cases_Bool old.books.stopped, old.books.stopped, new.crash.log, new.books.owed, ses.mounted, keeps.writes, w.rests, mount_same, w.writes, stands)

    -- The records of the syncs that are done, with its own where it is one.
    records_now : m.waits_alone ≡ true → new.books.stopped ≡ false → (length now_taken.records ≡ new.books.point) × ((more : List Commit) × (records_told ses new.crash.log ≡ now_taken.records ++ more))
    records_now alone still = by (cases_Bool (is_done_sync cmd reply))
      where
        going : old.books.stopped ≡ false
        going = (going_before still).0

        many : length now_taken.records ≡ length t.records + length (if is_done_sync cmd reply then own else [])
        many = length-append t.records (if is_done_sync cmd reply then own else [])

        own_many : is_sync cmd ≡ true → is_refusal reply ≡ false → (old.books.running.weight ≡ 0) ⊎ (0 < old.books.running.weight) → length own ≡ one_if (makes_point t.session cmd reply)
        own_many sync well (inl none) =
            let idle = (a.sync sync going (unspent_by well)).idle well none in
            omega (arith, ap (λ (cs : List Commit). length cs) (own_none idle.0), ap one_if (makes_none sync (changed_is going ∙ ap (nat_lt 0) none)))
        own_many sync well (inr some) = omega (
          arith,
          ap (λ (cs : List Commit). length cs) (own_one (wrote sync well going some)),
          ap one_if (and_from (is_sync cmd) (t.session.changed && may_have_written reply) sync (and_from t.session.changed (may_have_written reply) (changed_is going ∙ some_weighs old.books.running.weight some) (done_writes reply well))),
        )

        done_one : is_sync cmd ≡ true → is_refusal reply ≡ false → FreesBy old a.behind a.free ⊎ ((new.crash.log ≡ a.behind) × (reply ≡ Refused because.DiskFault)) → is_done_sync cmd reply ≡ true → (length now_taken.records ≡ new.books.point) × ((more : List Commit) × (records_told ses new.crash.log ≡ now_taken.records ++ more))
        done_one sync well (inr all) done = absurd (true≢false (sym (ap is_refusal all.1) ∙ well))
        done_one sync well (inl frees) done =
            let mine_too : (if is_done_sync cmd reply then own else []) ≡ own = cond-true {A = List Commit} (is_done_sync cmd reply) own [] done in (
              omega (arith, many, ap (λ (cs : List Commit). length cs) mine_too, own_many sync well (zero_or_some old.books.running.weight), (earlier_records alone going).0, points_on still),
              ([], told_now ∙ ap (λ (cs : List Commit). cs ++ own) (records_behind alone going frees) ∙ ap (λ (cs : List Commit). t.records ++ cs) (sym mine_too) ∙ sym (append-nil now_taken.records)),
            )

        by : (is_done_sync cmd reply ≡ true) ⊎ (is_done_sync cmd reply ≡ false) → (length now_taken.records ≡ new.books.point) × ((more : List Commit) × (records_told ses new.crash.log ≡ now_taken.records ++ more))
        by (inl done) =
            let parts = parts_of (is_sync cmd) (not (is_refusal reply)) done in
            let well = not_is (is_refusal reply) parts.1 in
            done_one parts.0 well (ring_told (sync_is_meant cmd parts.0) going (unspent_by well) alone) done
        by (inr not_done) =
            let was = earlier_records alone going in
            let none : (if is_done_sync cmd reply then own else []) ≡ [] = cond-false {A = List Commit} (is_done_sync cmd reply) own [] not_done in
            let same : now_taken.records ≡ t.records = ap (λ (cs : List Commit). t.records ++ cs) none ∙ append-nil t.records in
            let later = commits_told g ses.epoch grows.more in (
              omega (arith, many, ap (λ (cs : List Commit). length cs) none, was.0, points_on still, ap one_if (no_point not_done)),
              (was.1.0 ++ later, ap (records_told ses) grows.log ∙ records_on ses old.crash.log grows.more within ∙ ap (λ (cs : List Commit). cs ++ later) was.1.1 ∙ append_assoc t.records was.1.0 later ∙ ap (λ (cs : List Commit). cs ++ (was.1.0 ++ later)) (sym same)),
            )
          where
            no_point : is_done_sync cmd reply ≡ false → makes_point t.session cmd reply ≡ false
            no_point not_done = ⊎_elim (λ made. absurd (true≢false (sym (done_if made (going_before still).1) ∙ not_done))) (λ none. none) (cases_Bool (makes_point t.session cmd reply))

    pub keeps_on : (old.books.stopped ≡ true → new.crash.log ≡ old.crash.log) → KeepsTaken ses m tree (asked ++ cmd ∷ []) (replies ++ reply ∷ []) new now_taken
    keeps_on rests = record {
      session = ap (λ (s : Session). after_reply s cmd reply) keeps.session ∙ sym (session_more (session_at ses tree) asked replies cmd reply before.answered);
      writes = writes_now rests;
      records = records_now;
      spans = spans_on;
      awaits = awaits_on;
    }

    pub spends_on : (old.books.stopped ≡ true → new.crash.log ≡ old.crash.log) → writes_in (take (length new.crash.log) new.crash.log) ≤ writes_in (take ses.mounted new.crash.log) + now_taken.budget
    spends_on rests = omega (arith, writes_now rests, ap writes_in (take-length new.crash.log))

    -- A dsync hears of records' writes, and where it failed of its own behind the tick.
    abbrev failed_span : Span
    failed_span = record { begun = length behind; mark = length new.crash.log }

    abbrev heard_spans : List Span
    heard_spans = now_taken.spans ++ (if is_refusal reply then failed_span ∷ [] else [])

    abbrev Came : ℕ → Type 0
    Came ticket = ∥ ((k : ℕ) × (s : Span) × (slice_get heard_spans k ≡ Some s) × CameIn new.crash.log s ticket) ∥₁

    pub hears_on : m.waits_alone ≡ true → IsLawful new.crash.log → cmd ≡ cmds.Dsync → old.books.stopped ≡ false → reply ≢ Refused because.Spent → OrdersAtOnce ses base behind old.books.running.weight wanted → (p : Polled) → after_polls old.counts.ticks.manner 64 old.counts.ticks.polls old.crash.log ≡ Some p → HearsIn heard_spans p.log new.crash.log
    hears_on alone lawful is going unspent finds p polled ticket noticed = by_ring (ring_told meant going unspent alone)
      where
        sync : is_sync cmd ≡ true
        sync = ap is_sync is

        meant : cmd ≢ cmds.Bad
        meant = sync_is_meant cmd sync

        ticked : GrowsByWrites p.log behind
        ticked = (a.ticks meant going unspent p polled).1

        -- what was noticed after the tick was noticed before the writes
        already : IsNoticed ticket behind → IsNoticed ticket p.log
        already was = sym (noticed_on ticket p.log ticked.more ticked.writes) ∙ ap (is_noticed ticket) (sym ticked.log) ∙ was

        accepted : is_accepted ticket new.crash.log ≡ true
        accepted = noticed_given ticket [] new.crash.log lawful noticed

        -- the ticket is of a write behind the tick
        by_weight : is_accepted ticket behind ≡ false → is_refusal reply ≡ false → FreesBy old a.behind a.free → (old.books.running.weight ≡ 0) ⊎ (0 < old.books.running.weight) → Came ticket
        by_weight late_one well frees (inl none) =
            let idle = (a.sync sync going unspent).idle well none in
            let nothing : writes_in a.goes_on.more ≡ 0 = omega (arith, idle.1, ap writes_in a.goes_on.log, writes_on behind a.goes_on.more) in
            absurd (true≢false (sym accepted ∙ ap (is_accepted ticket) a.goes_on.log ∙ none_accepted ticket behind a.goes_on.more nothing ∙ late_one))
        by_weight late_one well frees (inr more) =
            let done = and_from (is_sync cmd) (not (is_refusal reply)) sync (is_not (is_refusal reply) well) in
            let made : makes_point t.session cmd reply ≡ true = and_from (is_sync cmd) (t.session.changed && may_have_written reply) sync (and_from t.session.changed (may_have_written reply) (changed_is going ∙ some_weighs old.books.running.weight more) (done_writes reply well)) in
            let x = mine.written done going more in
            let begun_is : begun ≡ length behind = x.fits alone (subst (λ (es : List Event). FindsPlaces ses base es (places_told x.commit)) (sym before_behind) (finds_own x.commit x.own well finds more)) in
            ∣ (
              length t.spans,
              late,
              at_front now_taken.spans (if is_refusal reply then failed_span ∷ [] else []) late (length t.spans) (ap (λ (b : Bool). slice_get (t.spans ++ (if b then late ∷ [] else [])) (length t.spans)) made ∙ at_end t.spans late),
              record {
                not_before = ap (λ (n : ℕ). is_accepted ticket (take n new.crash.log)) begun_is ∙ ap (is_accepted ticket) before_behind ∙ late_one;
                by_then = ap (is_accepted ticket) (take-length new.crash.log) ∙ accepted;
              },
            ) ∣₁
          where
            finds_own : (commit : Commit) → own ≡ commit ∷ [] → is_refusal reply ≡ false → OrdersAtOnce ses base behind old.books.running.weight wanted → 0 < old.books.running.weight → FindsPlaces ses base behind (places_told commit)
            finds_own commit one well (inl none) more = absurd (omega (arith, none, more))
            finds_own commit one well (inr finds) more = subst (FindsPlaces ses base behind) (cond-false {A = ℕ} (is_refusal reply) (sync_places old.books.running.weight) (places_from 0 own) well ∙ ap (places_from 0) one ∙ one_place commit) finds

        by_refusal : is_accepted ticket behind ≡ false → FreesBy old a.behind a.free → (is_refusal reply ≡ true) ⊎ (is_refusal reply ≡ false) → Came ticket
        by_refusal late_one frees (inr well) = by_weight late_one well frees (zero_or_some old.books.running.weight)
        by_refusal late_one frees (inl refused) = ∣ (
          length now_taken.spans,
          failed_span,
          ap (λ (b : Bool). slice_get (now_taken.spans ++ (if b then failed_span ∷ [] else [])) (length now_taken.spans)) refused ∙ at_end now_taken.spans failed_span,
          record { not_before = ap (is_accepted ticket) before_behind ∙ late_one; by_then = ap (is_accepted ticket) (take-length new.crash.log) ∙ accepted },
        ) ∣₁

        by_heard : FreesBy old a.behind a.free → IsNoticed ticket behind ⊎ (∥ ((q : ℕ) × old.crash.awaits q ticket) ∥₁ ⊎ (is_accepted ticket behind ≡ false)) → IsNoticed ticket p.log ⊎ Came ticket
        by_heard frees (inl was) = inl (already was)
        by_heard frees (inr (inl some)) = inr (∥∥₁_map some (λ (x : (q : ℕ) × old.crash.awaits q ticket).
            let k = keeps.awaits going x.0 ticket x.1 in
            (x.0 - 1, k.0, at_front now_taken.spans (if is_refusal reply then failed_span ∷ [] else []) k.0 (x.0 - 1) (at_front t.spans (if makes_point t.session cmd reply then late ∷ [] else []) k.0 (x.0 - 1) k.1), came_still k.0 ticket k.2 k.3)))
        by_heard frees (inr (inr late_one)) = inr (by_refusal late_one frees (cases_Bool (is_refusal reply)))

        by_ring : FreesBy old a.behind a.free ⊎ ((new.crash.log ≡ a.behind) × (reply ≡ Refused because.DiskFault)) → IsNoticed ticket p.log ⊎ Came ticket
        by_ring (inl frees) = by_heard frees ((a.sync sync going unspent).hears (ap (λ (x : Manner). x.waits_alone) is_manner ∙ alone) (fits_among sync going frees finds) ticket noticed)
        by_ring (inr all) = inl (already (subst (IsNoticed ticket) all.0 noticed))

    -- A dwait hears of the writes of its points' records.
    pub hears_upto_on : (n : ℕ) → m.waits_alone ≡ true → cmd ≡ cmds.Dwait n → old.books.stopped ≡ false → reply ≢ Refused because.Spent → (p : Polled) → after_polls old.counts.ticks.manner 64 old.counts.ticks.polls old.crash.log ≡ Some p → HearsIn (take n t.spans) p.log new.crash.log
    hears_upto_on n alone is going unspent p polled ticket noticed = by ((a.wait n is going unspent).hears (ap (λ (x : Manner). x.waits_alone) is_manner ∙ alone) ticket noticed)
      where
        meant : cmd ≢ cmds.Bad
        meant bad = cc (sym is ∙ bad)

        ticked : GrowsByWrites p.log behind
        ticked = (a.ticks meant going unspent p polled).1

        already : IsNoticed ticket behind → IsNoticed ticket p.log
        already was = sym (noticed_on ticket p.log ticked.more ticked.writes) ∙ ap (is_noticed ticket) (sym ticked.log) ∙ was

        by : IsNoticed ticket behind ⊎ ∥ ((q : ℕ) × (1 ≤ q) × (q ≤ n) × old.crash.awaits q ticket) ∥₁ → IsNoticed ticket p.log ⊎ ∥ ((k : ℕ) × (s : Span) × (slice_get (take n t.spans) k ≡ Some s) × CameIn new.crash.log s ticket) ∥₁
        by (inl was) = inl (already was)
        by (inr some) = inr (∥∥₁_map some (λ (x : (q : ℕ) × (1 ≤ q) × (q ≤ n) × old.crash.awaits q ticket).
            let k = keeps.awaits going x.0 ticket x.3 in
            (x.0 - 1, k.0, get_in_take n t.spans (x.0 - 1) k.0 (omega (arith, x.1, x.2)) k.1, came_still k.0 ticket k.2 k.3)))

  pub unwritten_on : is_sync cmd ≡ true → old.books.stopped ≡ false → reply ≡ Refused because.NoMemory → length new.crash.log ≡ length behind
  unwritten_on sync going memory = grind (arith, a.sync, false≢true)

  -- a sync that is done finds free places where the log says so
  pub done_fits : DoneInRing ses base m new.crash.log cmd reply (pace_of t old) (length behind) (length new.crash.log) → commit_places old.books ≤ a.free
  done_fits d =
      let parts = parts_of (is_sync cmd) (not (is_refusal reply)) d.done in
      let well = not_is (is_refusal reply) parts.1 in
      by parts.0 well (ring_told (sync_is_meant cmd parts.0) d.going (unspent_by well) d.alone)
    where
      finds : FindsPlaces ses base behind wanted
      finds = subst (λ (es : List Event). FindsPlaces ses base es wanted) before_behind d.finds

      by : is_sync cmd ≡ true → is_refusal reply ≡ false → FreesBy old a.behind a.free ⊎ ((new.crash.log ≡ a.behind) × (reply ≡ Refused because.DiskFault)) → commit_places old.books ≤ a.free
      by sync well (inr all) = absurd (true≢false (sym (ap is_refusal all.1) ∙ well))
      by sync well (inl frees) = omega (arith, wanted_enough sync d.going d.some, finds_free wanted frees finds)

  -- A command with no reason to wait.

  need_same : (c : Cmd) → (figures_on old f c).need ≡ (figures_in g t.session (room_of old) c).need
  need_same c = ap (λ (k : Geometry). (figures_in k f (room_of old) c).need) before.geom ∙ ap (λ (s : Session). (figures_in g s (room_of old) c).need) (sym keeps.session)

  finds_blocks : (c : Cmd) → (figures_in g t.session (room_of old) c).need ≤ length (room_of old).takeable → (figures_on old f c).need ≤ length (reusable_blocks old.books)
  finds_blocks c finds = omega (arith, finds, need_same c)

  needs_none : (c : Cmd) → old.books.stopped ≡ false → FindsRoom ses base behind t (room_of old) old.books.floor wanted c → (c ≡ cmds.Osync) ⊎ NeedsNoWait old f c
  needs_none cmds.Osync going finds = inl refl
  needs_none cmds.Dsync going finds = absurd finds
  needs_none cmds.Durable going finds = inr finds
  needs_none (cmds.Dwait n) going finds = inr (⊎_elim (λ known. inl known) (λ later. inr (omega (arith, later, ap (λ (s : Session). s.points) keeps.session, is_session.points going))) finds)
  needs_none cmds.Poll going finds = inr finds
  needs_none cmds.Bad going finds = inr finds
  needs_none (cmds.Mkdir path) going finds = inr (finds_blocks (cmds.Mkdir path) finds)
  needs_none (cmds.Create path) going finds = inr (finds_blocks (cmds.Create path) finds)
  needs_none (cmds.Write path offset bytes) going finds = inr (finds_blocks (cmds.Write path offset bytes) finds)
  needs_none (cmds.Fill path offset count byte) going finds = inr (finds_blocks (cmds.Fill path offset count byte) finds)
  needs_none (cmds.Read path offset count) going finds = inr (finds_blocks (cmds.Read path offset count) finds)
  needs_none (cmds.Truncate path size) going finds = inr (finds_blocks (cmds.Truncate path size) finds)
  needs_none (cmds.Link path other) going finds = inr (finds_blocks (cmds.Link path other) finds)
  needs_none (cmds.Unlink path) going finds = inr (finds_blocks (cmds.Unlink path) finds)
  needs_none (cmds.Rmdir path) going finds = inr (finds_blocks (cmds.Rmdir path) finds)
  needs_none (cmds.Rename from to) going finds = inr (finds_blocks (cmds.Rename from to) finds)
  needs_none (cmds.Stat path) going finds = inr (finds_blocks (cmds.Stat path) finds)
  needs_none (cmds.List path) going finds = inr (finds_blocks (cmds.List path) finds)
  needs_none (cmds.Snap name) going finds = inr (finds_blocks (cmds.Snap name) finds)
  needs_none (cmds.Unsnap name) going finds = inr (finds_blocks (cmds.Unsnap name) finds)
  needs_none cmds.Snaps going finds = inr (finds_blocks cmds.Snaps finds)
  needs_none (cmds.At name look) going finds = inr (finds_blocks (cmds.At name look) finds)

  pub calm_on : m.waits_alone ≡ true → (cmd ≢ cmds.Bad → old.books.stopped ≡ false → reply ≢ Refused because.Spent → PollsFirst old.counts.ticks.manner 64 old.counts.ticks.polls old.crash.log new.counts.ticks.polls new.crash.log) → cmd ≢ cmds.Bad → old.books.stopped ≡ false → reply ≢ Refused because.Spent → FindsRoom ses base behind t (room_of old) old.books.floor wanted cmd
      → PollsThenWrites old.counts.ticks.manner 64 old.counts.ticks.polls old.crash.log new.counts.ticks.polls new.crash.log
  calm_on alone polls meant going unspent finds = by (needs_none cmd going finds)
    where
      by_ring : cmd ≡ cmds.Osync → OrdersAtOnce ses base behind old.books.running.weight wanted → FreesBy old a.behind a.free ⊎ ((new.crash.log ≡ a.behind) × (reply ≡ Refused because.DiskFault)) → PollsThenWrites old.counts.ticks.manner 64 old.counts.ticks.polls old.crash.log new.counts.ticks.polls new.crash.log
      by_ring is at_once (inl frees) =
          let sync = ap is_sync is in
          let order = (a.sync sync going unspent).orders is (fits_among sync going frees at_once) in
          λ p polled.
          let tick = (a.ticks meant going unspent p polled).1 in (
            (polls meant going unspent p polled).0,
            record { more = tick.more ++ order.more; log = order.log ∙ ap (λ (es : List Event). es ++ order.more) tick.log ∙ append_assoc p.log tick.more order.more; writes = are_writes_on tick.more order.more tick.writes order.writes },
          )
      by_ring is at_once (inr all) = λ p polled. ((polls meant going unspent p polled).0, subst (GrowsByWrites p.log) (sym all.0) (a.ticks meant going unspent p polled).1)

      by : (cmd ≡ cmds.Osync) ⊎ NeedsNoWait old f cmd → PollsThenWrites old.counts.ticks.manner 64 old.counts.ticks.polls old.crash.log new.counts.ticks.polls new.crash.log
      by (inl is) = by_ring is (subst (FindsRoom ses base behind t (room_of old) old.books.floor wanted) is finds) (ring_told meant going unspent alone)
      by (inr needs) = w.calm meant going unspent f is_session needs

  -- a write of the point behind n has no notice
  abbrev Found : ℕ → Type 0
  Found n = (s : Span) × (ticket : ℕ) × (slice_get t.spans n ≡ Some s) × CameIn new.crash.log s ticket × ¬ IsNoticed ticket new.crash.log

  pub knows_on : (n : ℕ) → cmd ≡ cmds.Durable → reply ≡ Known n → new.counts.ticks.manner.waits_alone ≡ true → KnowsUpTo t.spans new.crash.log n
  knows_on n is said alone = record { next = λ less. ∥∥₁_map (w.still k.1 (omega (arith, k.0, k.2, less, keeps.spans going))) (found less) }
    where
      k : (n ≡ new.books.floor) × (new.books.stopped ≡ false) × (new.books.point ≡ old.books.point)
      k = w.known n is said

      going : old.books.stopped ≡ false
      going = (going_before k.1).0

      found : n < length t.spans → StillAwaits new (new.books.floor + 1) → Found n
      found less still = by (w.awaits (new.books.floor + 1) still.ticket still.awaits)
        where
          by : (old.crash.awaits (new.books.floor + 1) still.ticket) ⊎ AwaitsSince old (new.books.floor + 1) still.ticket → Found n
          by (inl was) =
              let s = keeps.awaits going (new.books.floor + 1) still.ticket was in
              (s.0, still.ticket, subst (λ (i : ℕ). slice_get t.spans i ≡ Some s.0) (omega (arith, k.0)) s.1, came_still s.0 still.ticket s.2 s.3, still.not_yet alone)
          by (inr since) = absurd (omega (arith, since.point, k.0, less, keeps.spans going))

-- Of a run of no commands nothing is taken.
pub keeps_at_first : (ses : MountedSession) (m : Manner) (tree : Tree) (s : State) → ses.mounted ≡ length s.crash.log → s.books.owed ≡ 0 → s.books.point ≡ 0 → ((p ticket : ℕ) → s.crash.awaits p ticket → MayAwait s p ticket) → KeepsTaken ses m tree [] [] s (nothing_taken (session_at ses tree))
keeps_at_first ses m tree s ended owed none may = grind (arith, s.crash.log, take-length, ses.geom, ses.epoch, drop-length)
