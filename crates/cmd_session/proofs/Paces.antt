-- A run that goes by the log of its disk, with one command more.
use Rattle.std.proofs.Common.{◌≡◌, ◌≢◌, ◌⊎◌, inl, inr, ⊎_elim, ℕ, zero, suc, ◌+◌, ◌<◌, ◌≤◌, ◌||◌, if◌then◌else◌, Bool, true, false, List, [], ◌∷◌, ◌++◌, length, take, drop, append-nil, Some, refl, sym, ap, ◌∙◌, subst, arith}
use Rattle.std.proofs.Math.Logic.{∥∥₁_map}
use Rattle.std.proofs.Math.Seq.{take-append_seam, take-length}
use Rattle.std.proofs.lemmas.Bool.{cases_Bool, cases_lt, false≢true}
use Rattle.std.proofs.lemmas.List.{take-append-le, length-append}
use Rattle.std.specs.List.{slice_get}
use Rattle.base_types.specs.Seal.{Blocks}
use Rattle.disk_contract.specs.declared.event.Event.{Event}
use Rattle.disk_contract.specs.declared.event.Event.TheVariants.{Wrote, Lost, Noticed}
use Rattle.disk_contract.specs.Cell.{has_lost}
use Rattle.disk_contract.specs.Disk.{Grows, PollsFirst, PollsThenWrites, writes_in}
use Rattle.disk_contract.specs.Manner.{Manner, HasFailedBy, LosesLast, Polled, after_polls}
use Rattle.layout_journal.specs.declared.record.Commit.{Commit}
use Rattle.crash_argument.specs.Points.{MountedSession}
use Rattle.cmd_trace.specs.Trace.{Ascend}
use Rattle.lang_tree.specs.declared.command.Cmd.{Cmd}
use Rattle.lang_tree.specs.declared.command.Cmd.TheVariants.{Bad, Dsync, Durable, Dwait}
use Rattle.lang_tree.specs.declared.command.Refusal.{Refusal}
use Rattle.lang_tree.specs.declared.command.Refusal.TheVariants as because
use Rattle.lang_tree.specs.declared.command.Reply.{Reply}
use Rattle.lang_tree.specs.declared.command.Reply.TheVariants as replied
use Rattle.lang_tree.specs.declared.command.Reply.TheVariants.{Refused}
use Rattle.lang_tree.specs.Points.{after_reply, is_refusal, is_sync, promised_by}
use Rattle.lang_tree.specs.Step.{Session}
use Rattle.engine_blocks.specs.State.{State}
use Rattle.cmd_trace.specs.Shared.{from_le}
use Rattle.cmd_session.specs.Histories.{HasNoFault}
use Rattle.fs_session.specs.Memory.{room_of}
use Rattle.fs_session.specs.Sessions.{IsSession}
use Rattle.cmd_session.specs.Records.{own_records}
use Rattle.cmd_session.specs.Answered.{StaysPlaced, StepsOn}
use Rattle.cmd_session.specs.Going.{pace_of}
use Rattle.cmd_session.specs.Pacing.{AnswersBy, DoesBehind, FailsSince, FindsPlaces, FindsRoom, HearsIn, KnowsUpTo, LosesSince, OrdersAtOnce, Pace, PacesBy, StepsBy, TellsRing, WritesRecordBy, is_fault}
use Rattle.cmd_session.specs.Places.{LiesAt}
use Rattle.cmd_session.specs.Taking.{Span, Taken, is_done_sync, places_wanted, taken_by}
use Rattle.cmd_session.proofs.Histories.{get_split}
use Rattle.cmd_session.proofs.Rooms.{answered_longer, own_longer}

-- Lost writes.

lost_last : (xs : List Event) (block : ℕ) (bytes : List ℕ) → has_lost (xs ++ Lost block bytes ∷ []) ≡ true
lost_last [] block bytes = refl
lost_last (Wrote ticket b y ∷ xs) block bytes = lost_last xs block bytes
lost_last (Lost b y ∷ xs) block bytes = refl
lost_last (Noticed ticket ∷ xs) block bytes = lost_last xs block bytes

lost_behind : (n : ℕ) (xs : List Event) → has_lost (drop n xs) ≡ true → has_lost xs ≡ true
lost_behind zero xs is = is
lost_behind (suc n) [] is = is
lost_behind (suc n) (Wrote ticket b y ∷ xs) is = lost_behind n xs is
lost_behind (suc n) (Lost b y ∷ xs) is = refl
lost_behind (suc n) (Noticed ticket ∷ xs) is = lost_behind n xs is

none_behind : (xs : List Event) → has_lost (drop (length xs) xs) ≡ false
none_behind [] = refl
none_behind (x ∷ xs) = none_behind xs

none_more : (xs : List Event) → length xs ≡ 0 → xs ≡ []
none_more [] is = refl
none_more (x ∷ xs) is = absurd (omega (arith, is))

-- where none was lost before, a lost write at the end came since
lost_since : (m : Manner) (old new : List Event) → Grows old new → has_lost old ≡ false → LosesLast m new → LosesSince m (length old) new
lost_since m old new grows none last = record { last = last; since = ⊎_elim (λ early. absurd (false≢true (sym none ∙ again early))) (λ late. late) (cases_lt (length last.before) (length old)) }
  where
    again : length last.before < length old → has_lost old ≡ true
    again early =
        let last_long = ap (λ (es : List Event). length es) last.is in
        let new_long = ap (λ (es : List Event). length es) grows.log in
        let nothing : grows.more ≡ [] = none_more grows.more (omega (arith, early, last_long, new_long, length-append last.before (Lost last.block last.bytes ∷ []), length-append old grows.more)) in
        let same : new ≡ old = grows.log ∙ ap (λ (es : List Event). old ++ es) nothing ∙ append-nil old in
        ap has_lost (sym same ∙ last.is) ∙ lost_last last.before last.block last.bytes

fails_since : (m : Manner) (old new : List Event) → Grows old new → has_lost old ≡ false → HasFailedBy m new → FailsSince m (length old) new
fails_since m old new grows none (inl last) = inl (lost_since m old new grows none last)
fails_since m old new grows none (inr other) = inr other

-- Lists with one element more.

get_behind : {A : Type 0} (xs : List A) (y : A) → slice_get (xs ++ y ∷ []) (length xs) ≡ Some y
get_behind [] y = refl
get_behind (x ∷ xs) y = get_behind xs y

or_cases : (a b : Bool) → (a || b) ≡ true → (a ≡ true) ⊎ (b ≡ true)
or_cases a b h1 = grind arith

-- Whether a reply is a fault.

fault_why : (why : Refusal) → is_fault (Refused why) ≡ true → why ≡ because.DiskFault
fault_why why h1 = grind (arith, false≢true)

fault_is : (reply : Reply) → is_fault reply ≡ true → reply ≡ Refused because.DiskFault
fault_is reply h1 = grind (arith, false≢true, fault_why)

-- What was said of a shorter log holds of a longer one.

module _ (ses : MountedSession) (base : Blocks) (m : Manner) (log more : List Event) (mounted : ses.mounted ≤ length log) where
  front : (k : ℕ) → k ≤ length log → take k (log ++ more) ≡ take k log
  front k low = take-append-le k log more low

  same_own : (behind mark : ℕ) → mark ≤ length log → own_records ses (log ++ more) behind mark ≡ own_records ses log behind mark
  same_own behind mark low = own_longer ses log more behind mark low

  finds_shorter : (behind wanted : ℕ) → behind ≤ length log → FindsPlaces ses base (take behind (log ++ more)) wanted → FindsPlaces ses base (take behind log) wanted
  finds_shorter behind wanted low = subst (λ (es : List Event). FindsPlaces ses base es wanted) (front behind low)

  orders_shorter : (behind wanted weight : ℕ) → behind ≤ length log → OrdersAtOnce ses base (take behind (log ++ more)) weight wanted → OrdersAtOnce ses base (take behind log) weight wanted
  orders_shorter behind wanted weight low = subst (λ (es : List Event). OrdersAtOnce ses base es weight wanted) (front behind low)

  writes_longer : (weight behind begun mark : ℕ) → behind ≤ begun → mark ≤ length log → WritesRecordBy ses base m log weight behind begun mark → WritesRecordBy ses base m (log ++ more) weight behind begun mark
  writes_longer weight behind begun mark from low w = grind (arith, w.commit, same_own, w.own, w.size, w.upto, w.writes, front, w.fits, finds_shorter)

  does_longer : (cmd : Cmd) (reply : Reply) (p q : Pace) (behind : ℕ) → p.events ≤ length log → q.events ≤ length log → behind ≤ q.events → DoesBehind ses base m log cmd reply p q behind → DoesBehind ses base m (log ++ more) cmd reply p q behind
  does_longer cmd reply p q behind low low_next upto does =
      let same = same_own behind q.events low_next in
      let within : behind ≤ length log = omega (arith, upto, low_next) in
      record {
        begun = does.begun;
        from = does.from;
        taken = does.taken ∙ ap (λ (own : List Commit). taken_by p.taken p.room.room.weight cmd reply own (record { begun = does.begun; mark = q.events })) (sym same);
        ring = λ meant going unspent alone. subst (λ (es : List Event). TellsRing ses base es p.taken.records ⊎ ((q.events ≡ behind) × (reply ≡ Refused because.DiskFault))) (sym (front behind within)) (does.ring meant going unspent alone);
        written = λ done going some. writes_longer p.room.room.weight behind does.begun q.events does.from low_next (does.written done going some);
        idle = λ done going none. ap writes_in (front q.events low_next) ∙ does.idle done going none ∙ ap writes_in (sym (front behind within));
        unwritten = does.unwritten;
        calm = λ meant going unspent alone finds.
            subst (λ (es : List Event). PollsThenWrites m 64 p.polls es q.polls (take q.events (log ++ more))) (sym (front p.events low))
            (subst (λ (es : List Event). PollsThenWrites m 64 p.polls (take p.events log) q.polls es) (sym (front q.events low_next))
            (does.calm meant going unspent alone (subst (λ (own : List Commit). FindsRoom ses base (take behind log) p.taken p.room.room p.durable (places_wanted reply p.room.room.weight own) cmd) same
            (subst (λ (es : List Event). FindsRoom ses base es p.taken p.room.room p.durable (places_wanted reply p.room.room.weight (own_records ses (log ++ more) behind q.events)) cmd) (front behind within) finds))));
        waits = λ is going unspent alone finds x polled.
            subst (λ (es : List Event). HearsIn (q.taken.spans ++ (if is_refusal reply then record { begun = behind; mark = q.events } ∷ [] else [])) x.log es) (sym (front q.events low_next))
            (does.waits is going unspent alone (subst (λ (own : List Commit). OrdersAtOnce ses base (take behind log) p.room.room.weight (places_wanted reply p.room.room.weight own)) same
            (orders_shorter behind (places_wanted reply p.room.room.weight (own_records ses (log ++ more) behind q.events)) p.room.room.weight within finds)) x (ap (λ (es : List Event). after_polls m 64 p.polls es) (sym (front p.events low)) ∙ polled));
        waits_upto = λ n is going unspent alone x polled.
            subst (λ (es : List Event). HearsIn (take n p.taken.spans) x.log es) (sym (front q.events low_next))
            (does.waits_upto n is going unspent alone x (ap (λ (es : List Event). after_polls m 64 p.polls es) (sym (front p.events low)) ∙ polled));
        quiet = λ n is going unspent. ap writes_in (front q.events low_next) ∙ does.quiet n is going unspent ∙ ap writes_in (sym (front behind within));
      }

  steps_longer : (cmd : Cmd) (reply : Reply) (p q : Pace) → p.events ≤ length log → q.events ≤ length log → StepsBy ses base m log cmd reply p q → StepsBy ses base m (log ++ more) cmd reply p q
  steps_longer cmd reply p q low low_next step = let longer = answered_longer ses base m log more cmd reply p q low low_next step.room in record {
    over = step.over;
    room = longer.0;
    does = subst (DoesBehind ses base m (log ++ more) cmd reply p q) longer.1 (does_longer cmd reply p q step.room.behind low low_next step.room.upto step.does);
    spends = omega (arith, step.spends, ap writes_in (front q.events low_next), ap writes_in (front ses.mounted mounted));
    rests = step.rests;
    ticks = λ meant going unspent.
        subst (λ (es : List Event). PollsFirst m 64 p.polls es q.polls (take q.events (log ++ more))) (sym (front p.events low))
        (subst (λ (es : List Event). PollsFirst m 64 p.polls (take p.events log) q.polls es) (sym (front q.events low_next)) (step.ticks meant going unspent));
    known = λ n is said alone. subst (λ (es : List Event). KnowsUpTo p.taken.spans es n) (sym (front q.events low_next)) (step.known n is said alone);
    told = step.told;
    promised = step.promised;
    rises = step.rises;
    stops = step.stops;
    halts = step.halts;
    reads = step.reads;
    fails = λ unlost is. subst (λ (es : List Event). ∥ FailsSince m p.events es ∥₁) (sym (front q.events low_next)) (step.fails (unlost_shorter unlost) is);
    loses = λ known lost. step.loses known (ap (λ (es : List Event). has_lost (drop p.events es)) (sym (front q.events low_next)) ∙ lost);
    lies = λ going clean. subst (λ (es : List Event). ∥ LiesAt ses.geom base es q.room.room.places ∥₁) (sym (front q.events low_next)) (step.lies going clean);
  }
    where
      unlost_shorter : (m.waits_alone ≡ true) ⊎ (has_lost (take p.events (log ++ more)) ≡ false) → (m.waits_alone ≡ true) ⊎ (has_lost (take p.events log) ≡ false)
      unlost_shorter h1 = grind (arith, front, p.events)

  pub paces_longer : (cmd : Cmd) (reply : Reply) (mark : ℕ) (mid end : Pace) (p : Pace) (cmds : List Cmd) (replies : List Reply) (marks : List ℕ) → Ascend p.events marks (length log)
      → PacesBy ses base m log p cmds replies marks mid → end.events ≡ mark → StepsBy ses base m (log ++ more) cmd reply mid end → PacesBy ses base m (log ++ more) p (cmds ++ cmd ∷ []) (replies ++ reply ∷ []) (marks ++ mark ∷ []) end
  paces_longer cmd reply mark mid end p [] [] [] up paces is step = (end, is, subst (λ (x : Pace). StepsBy ses base m (log ++ more) cmd reply x end) paces step, refl)
  paces_longer cmd reply mark mid end p (c ∷ cmds) (r ∷ replies) (k ∷ marks) up paces is step =
      let at : paces.0.events ≡ k = paces.1 in
      let up_next : Ascend paces.0.events marks (length log) = subst (λ (n : ℕ). Ascend n marks (length log)) (sym at) up.1 in
      let low = from_le k marks (length log) up.1 in
      (paces.0, at, steps_longer c r p paces.0 (omega (arith, up.0, low)) (omega (arith, at, low)) paces.2, paces_longer cmd reply mark mid end paces.0 cmds replies marks up_next paces.3 is step)
  paces_longer cmd reply mark mid end p [] [] (k ∷ marks) up paces is step = absurd paces
  paces_longer cmd reply mark mid end p [] (r ∷ replies) marks up paces is step = absurd paces
  paces_longer cmd reply mark mid end p (c ∷ cmds) [] marks up paces is step = absurd paces
  paces_longer cmd reply mark mid end p (c ∷ cmds) (r ∷ replies) [] up paces is step = absurd paces

-- One command more, over blocks of which it is known exactly where a call of the disk has failed.
module _ (cmd : Cmd) (reply : Reply) (old new : State) (s : StepsOn cmd reply old new) (grows : Grows old.crash.log new.crash.log) (replies : List Reply)
    (before : (i : ℕ) → slice_get replies i ≡ Some (Refused because.DiskFault) → old.books.stopped ≡ true)
    (ended : (i : ℕ) → slice_get (replies ++ reply ∷ []) i ≡ Some (Refused because.DiskFault) → new.books.stopped ≡ true)
    (going : HasNoFault (replies ++ reply ∷ []) → new.books.stopped ≡ false) where
  pub over_now : new.books.stopped ≡ (old.books.stopped || is_fault reply)
  over_now = by (cases_Bool old.books.stopped)
    where
      none : old.books.stopped ≡ false → is_fault reply ≡ false → HasNoFault (replies ++ reply ∷ [])
      none run calm i at = grind (arith, get_split, false≢true)

      by_reply : old.books.stopped ≡ false → (is_fault reply ≡ true) ⊎ (is_fault reply ≡ false) → new.books.stopped ≡ (old.books.stopped || is_fault reply)
      by_reply run (inl fault) = ended (length replies) (get_behind replies reply ∙ ap Some (fault_is reply fault)) ∙ sym fault ∙ ap (λ (v : Bool). v || is_fault reply) (sym run)
      by_reply run (inr calm) = going (none run calm) ∙ sym calm ∙ ap (λ (v : Bool). v || is_fault reply) (sym run)

      by : (old.books.stopped ≡ true) ⊎ (old.books.stopped ≡ false) → new.books.stopped ≡ (old.books.stopped || is_fault reply)
      by h1 = grind (arith, cases_Bool (is_fault reply), s.rests, by_reply)

  -- What the command did behind its tick, by the log: with no reason it waited for nothing, and a dsync for the writes of records; and `durable` is answered by no earlier point than is known.
  pub record Waits (ses : MountedSession) (base : Blocks) (m : Manner) (t : Taken) (behind : List Event) (begun : ℕ) : Type 0 where
    pub from : length behind ≤ begun
    pub ring : cmd ≢ Bad → old.books.stopped ≡ false → reply ≢ Refused because.Spent → m.waits_alone ≡ true → TellsRing ses base behind t.records ⊎ ((length new.crash.log ≡ length behind) × (reply ≡ Refused because.DiskFault))
    pub written : is_done_sync cmd reply ≡ true → old.books.stopped ≡ false → 0 < old.books.running.weight → WritesRecordBy ses base m new.crash.log old.books.running.weight (length behind) begun (length new.crash.log)
    pub idle : is_done_sync cmd reply ≡ true → old.books.stopped ≡ false → old.books.running.weight ≡ 0 → writes_in new.crash.log ≡ writes_in behind
    pub unwritten : is_sync cmd ≡ true → old.books.stopped ≡ false → reply ≡ Refused because.NoMemory → length new.crash.log ≡ length behind
    pub calm : m.waits_alone ≡ true → cmd ≢ Bad → old.books.stopped ≡ false → reply ≢ Refused because.Spent → FindsRoom ses base behind t (room_of old) old.books.floor (places_wanted reply old.books.running.weight (own_records ses new.crash.log (length behind) (length new.crash.log))) cmd
        → PollsThenWrites old.counts.ticks.manner 64 old.counts.ticks.polls old.crash.log new.counts.ticks.polls new.crash.log
    pub hears : m.waits_alone ≡ true → cmd ≡ Dsync → old.books.stopped ≡ false → reply ≢ Refused because.Spent → OrdersAtOnce ses base behind old.books.running.weight (places_wanted reply old.books.running.weight (own_records ses new.crash.log (length behind) (length new.crash.log))) → (p : Polled) → after_polls old.counts.ticks.manner 64 old.counts.ticks.polls old.crash.log ≡ Some p
        → HearsIn ((taken_by t old.books.running.weight cmd reply (own_records ses new.crash.log (length behind) (length new.crash.log)) (record { begun = begun; mark = length new.crash.log })).spans ++ (if is_refusal reply then record { begun = length behind; mark = length new.crash.log } ∷ [] else [])) p.log new.crash.log
    pub hears_upto : (n : ℕ) → m.waits_alone ≡ true → cmd ≡ Dwait n → old.books.stopped ≡ false → reply ≢ Refused because.Spent → (p : Polled) → after_polls old.counts.ticks.manner 64 old.counts.ticks.polls old.crash.log ≡ Some p → HearsIn (take n t.spans) p.log new.crash.log
    pub quiet : (n : ℕ) → cmd ≡ Dwait n → old.books.stopped ≡ false → reply ≢ Refused because.Spent → writes_in new.crash.log ≡ writes_in behind
    pub knows : (n : ℕ) → cmd ≡ Durable → reply ≡ replied.Known n → new.counts.ticks.manner.waits_alone ≡ true → KnowsUpTo t.spans new.crash.log n
    pub told : (n : ℕ) → cmd ≡ Durable → reply ≡ replied.Known n → n ≡ new.books.floor
    pub promised : promised_by reply ≤ new.books.floor
    pub rises : old.books.floor ≤ new.books.floor
    pub spends : writes_in (take (length new.crash.log) new.crash.log) ≤ writes_in (take ses.mounted new.crash.log) + (taken_by t old.books.running.weight cmd reply (own_records ses new.crash.log (length behind) (length new.crash.log)) (record { begun = begun; mark = length new.crash.log })).budget
    pub placed : StaysPlaced ses.geom base (after_reply t.session cmd reply) new

  -- a write that was lost among its events
  fails_now : (m : Manner) → reply ≡ Refused because.DiskFault → has_lost old.crash.log ≡ false → HasFailedBy m new.crash.log → FailsSince m (length old.crash.log) new.crash.log
  fails_now m fault none failed = fails_since m old.crash.log new.crash.log grows none failed

  loses_now : (new.books.stopped ≡ false → has_lost new.crash.log ≡ false) → has_lost (drop (length old.crash.log) new.crash.log) ≡ true → reply ≡ Refused because.DiskFault
  loses_now unlost_now lost = grind (arith, cases_Bool new.books.stopped, new.books.stopped, old.books.stopped, false≢true, old.crash.log, s.rests, none_behind, fault_is, or_cases, over_now, lost_behind, new.crash.log)

  module _ (ses : MountedSession) (base : Blocks) (m : Manner) (t : Taken) (behind : List Event) (begun : ℕ) (goes_on : Grows behind new.crash.log) (waits : Waits ses base m t behind begun) (is : old.counts.ticks.manner ≡ m) where
    abbrev own : List Commit
    own = own_records ses new.crash.log (length behind) (length new.crash.log)

    abbrev late : Span
    late = record { begun = begun; mark = length new.crash.log }

    abbrev then_pace : Pace
    then_pace = pace_of (taken_by t old.books.running.weight cmd reply own late) new

    all : take (length new.crash.log) new.crash.log ≡ new.crash.log
    all = take-length new.crash.log

    earlier : take (length old.crash.log) new.crash.log ≡ old.crash.log
    earlier = ap (λ (es : List Event). take (length old.crash.log) es) grows.log ∙ take-append_seam old.crash.log grows.more

    cut : take (length behind) new.crash.log ≡ behind
    cut = ap (λ (es : List Event). take (length behind) es) goes_on.log ∙ take-append_seam behind goes_on.more

    does_now : DoesBehind ses base m new.crash.log cmd reply (pace_of t old) then_pace (length behind)
    does_now = record {
      begun = begun;
      from = waits.from;
      taken = refl;
      ring = λ meant run unspent alone. subst (λ (es : List Event). TellsRing ses base es t.records ⊎ ((length new.crash.log ≡ length behind) × (reply ≡ Refused because.DiskFault))) (sym cut) (waits.ring meant run unspent alone);
      written = waits.written;
      idle = λ done run none. ap writes_in all ∙ waits.idle done run none ∙ ap writes_in (sym cut);
      unwritten = waits.unwritten;
      calm = λ meant run unspent alone finds.
          subst (λ (es : List Event). PollsThenWrites m 64 old.counts.ticks.polls es new.counts.ticks.polls (take (length new.crash.log) new.crash.log)) (sym earlier)
          (subst (λ (es : List Event). PollsThenWrites m 64 old.counts.ticks.polls old.crash.log new.counts.ticks.polls es) (sym all)
          (subst (λ (x : Manner). PollsThenWrites x 64 old.counts.ticks.polls old.crash.log new.counts.ticks.polls new.crash.log) is
          (waits.calm alone meant run unspent (subst (λ (es : List Event). FindsRoom ses base es t (room_of old) old.books.floor (places_wanted reply old.books.running.weight own) cmd) cut finds))));
      waits = λ sync run unspent alone finds p polled.
          subst (λ (es : List Event). HearsIn (then_pace.taken.spans ++ (if is_refusal reply then record { begun = length behind; mark = length new.crash.log } ∷ [] else [])) p.log es) (sym all)
          (waits.hears alone sync run unspent (subst (λ (es : List Event). OrdersAtOnce ses base es old.books.running.weight (places_wanted reply old.books.running.weight own)) cut finds) p (ap (λ (x : Manner). after_polls x 64 old.counts.ticks.polls old.crash.log) is ∙ ap (λ (es : List Event). after_polls m 64 old.counts.ticks.polls es) (sym earlier) ∙ polled));
      waits_upto = λ n upto run unspent alone p polled.
          subst (λ (es : List Event). HearsIn (take n t.spans) p.log es) (sym all)
          (waits.hears_upto n alone upto run unspent p (ap (λ (x : Manner). after_polls x 64 old.counts.ticks.polls old.crash.log) is ∙ ap (λ (es : List Event). after_polls m 64 old.counts.ticks.polls es) (sym earlier) ∙ polled));
      quiet = λ n upto run unspent. ap writes_in all ∙ waits.quiet n upto run unspent ∙ ap writes_in (sym cut);
    }

    pub step_now : (m.waits_alone ≡ true → old.books.stopped ≡ false → has_lost old.crash.log ≡ false) → (m.waits_alone ≡ true → new.books.stopped ≡ false → has_lost new.crash.log ≡ false) → (f : Session) → IsSession old f → (room : AnswersBy ses base m new.crash.log cmd reply (pace_of t old) then_pace) → room.behind ≡ length behind
        → StepsBy ses base m new.crash.log cmd reply (pace_of t old) then_pace
    step_now before now f session room behind_is =
        let same : new.counts.ticks.manner ≡ m = s.manner ∙ is in
        record {
          over = over_now;
          room = room;
          does = subst (DoesBehind ses base m new.crash.log cmd reply (pace_of t old) then_pace) (sym behind_is) does_now;
          spends = waits.spends;
          rests = rests_now f session;
          ticks = λ meant run unspent.
              subst (λ (es : List Event). PollsFirst m 64 old.counts.ticks.polls es new.counts.ticks.polls (take (length new.crash.log) new.crash.log)) (sym earlier)
              (subst (λ (es : List Event). PollsFirst m 64 old.counts.ticks.polls old.crash.log new.counts.ticks.polls es) (sym all)
              (subst (λ (x : Manner). PollsFirst x 64 old.counts.ticks.polls old.crash.log new.counts.ticks.polls new.crash.log) is (s.ticks meant run unspent)));
          known = λ n asked said alone. subst (λ (es : List Event). KnowsUpTo t.spans es n) (sym all) (waits.knows n asked said (ap (λ (x : Manner). x.waits_alone) same ∙ alone));
          told = waits.told;
          promised = waits.promised;
          rises = waits.rises;
          stops = λ late. s.stops f session late;
          halts = s.halts;
          reads = λ unread. ap (λ (x : Manner). x.reads_fail) (sym same) ∙ s.reads f session unread;
          fails = λ unlost fault. subst (λ (es : List Event). ∥ FailsSince m (length old.crash.log) es ∥₁) (sym all)
              (∥∥₁_map (subst (λ (x : Manner). ∥ HasFailedBy x new.crash.log ∥₁) same (s.fails (ended (length replies) (get_behind replies reply ∙ ap Some fault)))) (λ failed. fails_now m fault (unlost_before fault unlost) failed));
          loses = λ known lost. loses_now (now known) (ap (λ (es : List Event). has_lost (drop (length old.crash.log) es)) (sym all) ∙ lost);
          lies = λ going clean. subst (λ (es : List Event). ∥ LiesAt ses.geom base es (room_of new).places ∥₁) (sym all) (waits.placed.lies going clean);
        }
      where
        rests_now : (f : Session) → IsSession old f → (cmd ≡ Bad) ⊎ ((old.books.stopped ≡ true) ⊎ (reply ≡ Refused because.Spent)) → (new.counts.ticks.polls ≡ old.counts.ticks.polls) × (length new.crash.log ≡ length old.crash.log)
        rests_now f session (inl none) = let r = s.rests (inl none) in (r.0, ap (λ (es : List Event). length es) r.1.0)
        rests_now f session (inr (inl over)) = let r = s.rests (inr over) in (r.0, ap (λ (es : List Event). length es) r.1.0)
        rests_now f session (inr (inr spent)) = let r = s.idles f session spent in (r.0, ap (λ (es : List Event). length es) r.1)

        unlost_before : reply ≡ Refused because.DiskFault → (m.waits_alone ≡ true) ⊎ (has_lost (take (length old.crash.log) new.crash.log) ≡ false) → has_lost old.crash.log ≡ false
        unlost_before fault (inl known) = before known (s.first fault)
        unlost_before fault (inr none) = ap has_lost (sym earlier) ∙ none
