-- What the program does for each request that words may be.
use Rattle.std.proofs.Common.{◌≡◌, ℕ, ◌≤◌, ◌==◌, nat_lt, Bool, true, false, not, ◌&&◌, ◌||◌, List, [], Option, None, Some, Result, Ok, Err, refl, sym, ap, ◌∙◌, subst, inl, inr, arith}
use Rattle.std.proofs.KnownBytes.{Keeps-refl}
use Rattle.std.proofs.KnownBytes.{Consumes-nil}
use Rattle.std.proofs.lemmas.Bool.{and_right, eqb-true, false≢true, lt-ltb, not_from_true, or_from}
use Rattle.base_types.specs.Counts.{Rose}
use Rattle.base_types.specs.declared.layout.Layout.TheVariants.{Two}
use Rattle.disk_contract.specs.declared.event.Event.{Event}
use Rattle.disk_contract.specs.declared.bay.BayFault.TheVariants as failed
use Rattle.disk_contract.specs.Bay.{BayState}
use Rattle.layout_geometry.specs.Geometry.{Geometry, geometry_fits}
use Rattle.disk_memory.specs.declared.calls.DiskCall.{DiskCall}
use Rattle.disk_memory.specs.declared.calls.DiskCall.TheVariants as calls
use Rattle.disk_memory.specs.declared.rule.Rule.{Rule}
use Rattle.disk_memory.specs.Choice.{ChoiceState}
use Rattle.disk_memory.specs.MemDisk.{has_listed, is_listed, manner_by, same_call}
use Rattle.cmd_trace.specs.Contents.{Contents}
use Rattle.cmd_trace_reader.specs.declared.input.TraceRefusal.{TraceRefusal}
use Rattle.cmd_trace_reader.specs.declared.input.TraceRefusal.TheVariants as reading
use Rattle.cmd_image.specs.declared.show_refusal.ShowRefusal.{ShowRefusal}
use Rattle.cmd_image.specs.declared.show_refusal.ShowRefusal.TheVariants as show
use Rattle.cmd_image.specs.Shows.{CountsFault, HasShowCause}
use Rattle.cmd_load.specs.Summary.{summary_of, summary_text}
use Rattle.cmd_image.specs.declared.make_refusal.MakeRefusal.{MakeRefusal}
use Rattle.cmd_image.specs.declared.make_refusal.MakeRefusal.TheVariants as make
use Rattle.cmd_image.specs.Makes.{HasMakeCause}
use Rattle.cmd_replay.specs.declared.refusal.ReplayRefusal.{ReplayRefusal}
use Rattle.cmd_replay.specs.declared.refusal.ReplayRefusal.TheVariants as crash
use Rattle.cmd_replay.specs.Replays.{Found}
use Rattle.cmd_image.specs.declared.ending.Ending.{Ending}
use Rattle.cmd_image.specs.declared.ending.Ending.TheVariants as script
use Rattle.cmd_image.specs.declared.ending.RunRefusal.{RunRefusal}
use Rattle.cmd_image.specs.declared.ending.RunRefusal.TheVariants as run
use Rattle.cmd_image.specs.Runs.{HasRunCause}
use Rattle.cmd_mirror.specs.declared.refusal.MirroredRefusal.{MirroredRefusal}
use Rattle.cmd_mirror.specs.declared.refusal.MirroredRefusal.TheVariants as mirrored
use Rattle.cmd_log.specs.declared.refusal.LogRunRefusal.{LogRunRefusal}
use Rattle.cmd_log.specs.declared.refusal.LogRunRefusal.TheVariants as logs
use Rattle.cmd_upgrade.specs.declared.refusal.UpgradeRefusal.{UpgradeRefusal}
use Rattle.cmd_upgrade.specs.declared.refusal.UpgradeRefusal.TheVariants as upgrade
use Rattle.cmd_words.specs.declared.request.Request.{Request}
use Rattle.cmd_words.specs.declared.request.Request.TheVariants.{Record, Replay, Tree, Make, Run, RunMirrored, Copy, Load, AppLog, Upgrade}
use Rattle.cmd_host.specs.declared.disk.Behaviour.{Behaviour}
use Rattle.cmd_host.specs.Behaving.{MountFails, fails_of, rule_of}
use Rattle.cmd_host.specs.Disks.{setting_on}
use Rattle.cmd_program.specs.Copying.{CopiesTo}
use Rattle.cmd_program.specs.Endings.{EndsBehind, HasFault, Met, Tells, met, usage_line, disk_line, damaged_line, spent_line, no_prefix_line, long_line, choice_line, room_line, unlike_line, log_line}
use Rattle.cmd_program.specs.Loading.{LoadsTo}
use Rattle.cmd_program.specs.Logging.{EndsServing, LogsTo}
use Rattle.cmd_program.specs.Making.{EndsMaking}
use Rattle.cmd_program.specs.Mirroring.{EndsMirrored, RunsMirroredTo}
use Rattle.cmd_program.specs.Program.{Completes, Does, EndsLoad, EndsLog, EndsMake, EndsReplay, EndsRun, EndsRunOnTwo, EndsShow, EndsSo, EndsUpgrade, MakesWhere, RecordsWhere, RecordsTo, Refuses, UpgradesWhere, setting_of, shape_of}
use Rattle.cmd_program.specs.Replaying.{EndsAt, EndsCrash, EndsFound, EndsReading, ReplaysTo, trace_line}
use Rattle.cmd_program.specs.Scripting.{EndsScript, RunsTo}
use Rattle.cmd_program.specs.Showing.{EndsShowing, ShowsTo}
use Rattle.cmd_program.specs.Upgrading.{EndsUpgrading}
use Rattle.cmd_program.specs.declared.status.Status.{Status}
use Rattle.cmd_program.specs.declared.status.Status.TheVariants.{Done, Usage, BadTrace, NoMemory, DiskFault, Damaged, SourceFault, SinkFault, Spent, NoPrefix, LongInput, BadChoice, NoRoom, Unlike, BadLog}
use Rattle.cmd_program.proofs.ProgramLemmas.{never_begun}

-- a line that was told ends the run
pub behind : (status result : Status) (line : List ℕ) (told out : Option (List ℕ)) (sink sink_now : ℕ) → Tells status result line told out sink sink_now → EndsBehind status line result told out
behind status result line told out sink sink_now (inl t) = inl t
behind status result line told out sink sink_now (inr t) = inr (t.0, t.1)

-- and is a refusal's line
pub refused : (refusal result : Status) (line : List ℕ) (told out : Option (List ℕ)) (sink sink_now : ℕ)
    → Tells refusal result line told out sink sink_now → Refuses refusal line result told out
refused refusal result line told out sink sink_now t = inl (behind refusal result line told out sink sink_now t)

-- The first write.

-- whether the first write is listed, of a list that has one write at most
first_listed : (fail : Option ℕ) → is_listed calls.Write 1 (fails_of fail) ≡ true → fail ≡ Some 1
first_listed None is = absurd (false≢true is)
first_listed (Some write) is = ap Some (eqb-true write 1 (elim (write == 1) as (λ b. ((true && b) || false) ≡ true → b ≡ true) [ true ↦ λ e. refl | false ↦ λ e. e ] is))

-- a list of one write at most has no other call
no_call : (call : DiskCall) (fail : Option ℕ) → same_call calls.Write call ≡ false → has_listed call (fails_of fail) ≡ false
no_call call None other = refl
no_call call (Some write) other = or_from (same_call calls.Write call) false other refl

-- only such a list fails a mount with room for a write
fails_so : (room : ℕ) (fail : Option ℕ) (rule : Rule) (log : List Event) → 1 ≤ room → MountFails (manner_by room (fails_of fail) rule) log → fail ≡ Some 1
fails_so room fail rule log some (inl reads) = absurd (false≢true (sym (no_call calls.Read fail refl) ∙ reads))
fails_so room fail rule log some (inr (inl stalls)) = absurd (false≢true (sym (or_from _ _ (no_call calls.Poll fail refl) (no_call calls.Wait fail refl)) ∙ stalls))
fails_so room fail rule log some (inr (inr (inl refuses))) = absurd (false≢true (sym (not_from_true (nat_lt 0 room) (lt-ltb 0 room some)) ∙ refuses))
fails_so room fail rule log some (inr (inr (inr loses))) = first_listed fail (elim (nat_lt 0 room) as (λ a. (b : Bool) → (a && b) ≡ true → b ≡ true) [
  | true ↦ λ b e. e
  | false ↦ λ b e. absurd (false≢true e)
] (is_listed calls.Write 1 (fails_of fail)) loses.1)

-- where the first write may be accepted it isn't listed
not_listed : (room : ℕ) (fail : Option ℕ) (rule : Rule) → (manner_by room (fails_of fail) rule).accepts [] ≡ true → fail ≡ Some 1 → ⊥
not_listed room fail rule may is = absurd (false≢true (sym (and_right (nat_lt 0 room) (not (is_listed calls.Write 1 (fails_of fail))) (ap (λ (x : Option ℕ). not (is_listed calls.Write 1 (fails_of x))) is)) ∙ may))

-- How a recording ends where nothing but the disk failed.

pub ends_so : (g : Geometry) (b : Behaviour) (status : Status) (left left_now told out : Option (List ℕ)) (source source_now sink sink_now : ℕ) → 1 ≤ b.room
    → RecordsTo (setting_on g b) status left left_now told out source source_now → HasFault status source source_now sink sink_now → ¬ Rose source source_now → ¬ Rose sink sink_now → EndsSo b.fail status
ends_so g b Done left left_now told out source source_now sink sink_now some r fault no_source no_sink = not_listed b.room b.fail (rule_of b.notices) r.output.served.goes.opens
ends_so g b LongInput left left_now told out source source_now sink sink_now some r fault no_source no_sink = not_listed b.room b.fail (rule_of b.notices) r.output.served.goes.opens
ends_so g b NoMemory left left_now told out source source_now sink sink_now some r fault no_source no_sink = tt
ends_so g b DiskFault left left_now told out source source_now sink sink_now some r fault no_source no_sink = fails_so b.room b.fail (rule_of b.notices) r.output.log some r.output.cause
ends_so g b SourceFault left left_now told out source source_now sink sink_now some r fault no_source no_sink = no_source fault
ends_so g b SinkFault left left_now told out source source_now sink sink_now some r fault no_source no_sink = no_sink fault
ends_so g b other left left_now told out source source_now sink sink_now some r fault no_source no_sink = absurd r.reads

-- Want of memory before anything was read or written.

-- want of memory is no fault
unshown : (answer : Result (Unit {0}) ShowRefusal) → answer ≡ Err show.NoMemory → answer ≡ Err show.Fault → ⊥
unshown answer is other = cc

unmade : (answer : Result (Unit {0}) MakeRefusal) → answer ≡ Err make.NoMemory → answer ≡ Err make.Fault → ⊥
unmade answer is other = cc

unrun : (answer : Result Ending RunRefusal) → answer ≡ Err run.NoMemory → answer ≡ Err run.Fault → ⊥
unrun answer is other = cc

unmirrored : (answer : Result Ending MirroredRefusal) → answer ≡ Err (mirrored.Run run.NoMemory) → answer ≡ Err (mirrored.Run run.Fault) → ⊥
unmirrored answer is other = cc

unlogged : (answer : Result Ending LogRunRefusal) → answer ≡ Err (logs.Run run.NoMemory) → answer ≡ Err (logs.Run run.Fault) → ⊥
unlogged answer is other = cc

-- Where no memory is found before anything was read or written, that may be so for every request.
pub does_memory : (tells : Bool) (request : Option Request) (left told : Option (List ℕ)) (source sink : ℕ) (bay : BayState)
    → Does tells request NoMemory (met left left told told source source sink sink bay bay)
does_memory tells None left told source sink bay = inr (refl, refl)
does_memory tells (Some (Record blocks journal nodes layout notices room fail)) left told source sink bay = by (geometry_fits (shape_of blocks journal nodes layout))
  where
    by : (fits : Bool) → RecordsWhere fits (setting_of blocks journal nodes layout notices room fail) NoMemory left left told told source source
    by true = never_begun (setting_of blocks journal nodes layout notices room fail) left told source source
    by false = inr (refl, refl)
does_memory tells (Some (Replay moment choice)) left told source sink bay = record {
  told = Err reading.NoMemory;
  tells = record { bytes = []; read = Consumes-nil left; short = omega arith };
  ends = (refl, refl);
}
does_memory tells (Some (Tree image)) left told source sink bay = record {
  answer = Err show.NoMemory;
  between = told;
  shown = λ known. tt;
  refused = λ known. inl (Keeps-refl told);
  silent = λ e. refl;
  back = inl (record { kept = λ known each. refl; faults = omega arith; disk_faults = refl; handed = refl; closed = refl });
  cause = refl;
  reason = λ known fault. absurd (unshown (Err show.NoMemory) refl fault);
  ends = (refl, refl);
}
does_memory tells (Some (Make image blocks journal nodes layout)) left told source sink bay = by (geometry_fits (shape_of blocks journal nodes layout))
  where
    g : Geometry
    g = shape_of blocks journal nodes layout

    by : (fits : Bool) → MakesWhere fits tells image g NoMemory (met left left told told source source sink sink bay bay)
    by true = record {
      answer = Err make.NoMemory;
      made = λ known. tt;
      back = inl (record {
        fault = failed.NoMemory;
        makes = record {
          size = tt;
          counts = tt;
          disk = λ known. tt;
          kept = λ known. tt;
          image = λ known. refl;
          others = λ known other apart. refl;
          cause = (omega arith, tt);
          disk_faults = refl;
          handed = refl;
          closed = refl;
          manner = λ known. tt;
          fails = λ known. tt;
          same = record { may_fail = refl; manner = λ other. refl };
        };
        answer = refl;
      });
      others = λ known other apart. refl;
      cause = refl;
      reason = λ known fault. absurd (unmade (Err make.NoMemory) refl fault);
      ends = (refl, refl);
    }
    by false = inr (refl, refl)
does_memory tells (Some (Run image)) left told source sink bay = record {
  answer = Err run.NoMemory;
  between = told;
  sink_between = sink;
  comes = inl (record {
    none = record { kept = λ known each. refl; faults = omega arith; disk_faults = refl; handed = refl; closed = refl };
    same = refl;
    answer = inr refl;
  });
  counts = record { source = omega arith; rises = omega arith; sink = refl };
  cause = tt;
  reason = λ known fault. absurd (unrun (Err run.NoMemory) refl fault);
  ends = (refl, refl);
}
does_memory tells (Some (RunMirrored image other)) left told source sink bay = record {
  answer = Err (mirrored.Run run.NoMemory);
  between = told;
  sink_between = sink;
  comes = inl (record {
    why = run.NoMemory;
    unlent = record {
      none = record { kept = λ known each. refl; faults = omega arith; disk_faults = refl; handed = refl; closed = refl };
      same = refl;
      answer = inr refl;
    };
    answered = refl;
  });
  counts = record { source = omega arith; rises = omega arith; sink = refl };
  cause = tt;
  reason = λ known fault. absurd (unmirrored (Err (mirrored.Run run.NoMemory)) refl fault);
  ends = (refl, refl);
}
does_memory tells (Some (Copy image other)) left told source sink bay = record {
  answer = Err make.NoMemory;
  copied = λ known. tt;
  part = λ known. inl refl;
  kept = λ known. refl;
  others = λ known each apart beside. refl;
  back = inl (record {
    fault = failed.NoMemory;
    opens = record {
      counts = tt;
      disk = λ known. tt;
      manner = λ known. tt;
      kept = λ known each. refl;
      cause = (omega arith, tt);
      fails = λ known. tt;
      same = record { may_fail = refl; manner = λ each. refl };
      disk_faults = refl;
      handed = refl;
      closed = refl;
    };
    answer = refl;
  });
  cause = refl;
  reason = λ known fault. absurd (unmade (Err make.NoMemory) refl fault);
  ends = (refl, refl);
}
does_memory tells (Some (Load seed count)) left told source sink bay = inr (refl, refl)
does_memory tells (Some (AppLog image)) left told source sink bay = record {
  answer = Err (logs.Run run.NoMemory);
  between = told;
  sink_between = sink;
  comes = inl (record {
    why = run.NoMemory;
    unlent = record {
      none = record { kept = λ known each. refl; faults = omega arith; disk_faults = refl; handed = refl; closed = refl };
      same = refl;
      answer = inr refl;
    };
    answered = refl;
  });
  counts = record { source = omega arith; rises = omega arith; sink = refl };
  cause = tt;
  reason = λ known fault. absurd (unlogged (Err (logs.Run run.NoMemory)) refl fault);
  ends = (refl, refl);
}
does_memory tells (Some (Upgrade image other blocks journal nodes)) left told source sink bay = by (geometry_fits (shape_of blocks journal nodes Two))
  where
    by : (fits : Bool) → UpgradesWhere fits tells image other (shape_of blocks journal nodes Two) NoMemory (met left left told told source source sink sink bay bay)
    by true = record {
      answer = Err upgrade.NoMemory;
      leaves = λ known. tt;
      room = λ known. tt;
      others = λ known each apart beside. refl;
      comes = inl (record {
        fault = failed.NoMemory;
        opens = record {
          counts = tt;
          disk = λ known. tt;
          manner = λ known. tt;
          kept = λ known each. refl;
          cause = (omega arith, tt);
          fails = λ known. tt;
          same = record { may_fail = refl; manner = λ each. refl };
          disk_faults = refl;
          handed = refl;
          closed = refl;
        };
        answer = refl;
      });
      ends = (refl, refl);
    }
    by false = inr (refl, refl)

pub completes_memory : (request : Option Request) (m : Met) → Completes request NoMemory m
completes_memory None m = tt
completes_memory (Some (Record blocks journal nodes layout notices room fail)) m = λ fits no_source no_sink. tt
completes_memory (Some (Tree image)) m = λ no_sink. tt
completes_memory (Some (Make image blocks journal nodes layout)) m = λ fits no_sink. tt
completes_memory (Some (Copy image other)) m = λ no_sink. tt
completes_memory (Some (Upgrade image other blocks journal nodes)) m = λ fits no_sink. tt
completes_memory (Some (Load seed count)) m = λ no_sink. tt
completes_memory other m = λ no_source no_sink. tt

-- Words that ask for nothing.
pub does_usage : (tells : Bool) (request : Option Request) (result : Status) (m : Met) → request ≡ None → Tells Usage result usage_line m.taken m.taken_now m.sink m.sink_now → Does tells request result m
does_usage tells request result m none t = subst (λ (r : Option Request). Does tells r result m) (sym none) (refused Usage result usage_line m.taken m.taken_now m.sink m.sink_now t)

pub completes_none : (request : Option Request) (status : Status) (m : Met) → request ≡ None → Completes request status m
completes_none request status m none = subst (λ (q : Option Request). Completes q status m) (sym none) tt

-- How a replay, a showing, a making, a load and a run end where nothing failed.

-- what may be of the status of a line may be of the end behind the line where the sink didn't fail
ends_so_behind : (May : Status → Type 0) (X status : Status) (line : List ℕ) (told out : Option (List ℕ)) (source source_now sink sink_now : ℕ) → May X → EndsBehind X line status told out
    → HasFault status source source_now sink sink_now → ¬ Rose sink sink_now → May status
ends_so_behind May X status line told out source source_now sink sink_now may (inl t) fault no_sink = subst May (sym t.0) may
ends_so_behind May X status line told out source source_now sink sink_now may (inr t) fault no_sink = absurd (no_sink (subst (λ (s : Status). HasFault s source source_now sink sink_now) t.0 fault))

ends_found : (found : Found) (status : Status) (told out : Option (List ℕ)) (source source_now sink sink_now : ℕ) → EndsFound found status told out → HasFault status source source_now sink sink_now
    → ¬ Rose sink sink_now → EndsReplay status
ends_found found status told out source source_now sink sink_now (inl (between, took, ends)) fault no_sink = elim found.point as (λ point. EndsAt point status between out → EndsReplay status) [
  | None ↦ λ e. ends_so_behind EndsReplay NoPrefix status no_prefix_line between out source source_now sink sink_now tt e fault no_sink
  | Some p ↦ λ e. subst EndsReplay (sym e.0) tt
] ends
ends_found found status told out source source_now sink sink_now (inr t) fault no_sink = absurd (no_sink (subst (λ (s : Status). HasFault s source source_now sink sink_now) t.0 fault))

ends_crash : (answer : Result Found ReplayRefusal) (status : Status) (told out : Option (List ℕ)) (source source_now sink sink_now : ℕ) → EndsCrash answer status told out → HasFault status source source_now sink sink_now
    → ¬ Rose sink sink_now → EndsReplay status
ends_crash (Ok found) status told out source source_now sink sink_now e fault no_sink = ends_found found status told out source source_now sink sink_now e fault no_sink
ends_crash (Err crash.Choice) status told out source source_now sink sink_now e fault no_sink = ends_so_behind EndsReplay BadChoice status choice_line told out source source_now sink sink_now tt e fault no_sink
ends_crash (Err (crash.Damaged damage)) status told out source source_now sink sink_now e fault no_sink = ends_so_behind EndsReplay (Damaged damage) status damaged_line told out source source_now sink sink_now tt e fault no_sink
ends_crash (Err crash.Spent) status told out source source_now sink sink_now e fault no_sink = ends_so_behind EndsReplay Spent status spent_line told out source source_now sink sink_now tt e fault no_sink
ends_crash (Err crash.NoMemory) status told out source source_now sink sink_now e fault no_sink = subst EndsReplay (sym e.0) tt

pub completes_replay : (moment : ℕ) (choice : ChoiceState) (status : Status) (m : Met) → ReplaysTo moment choice status m → HasFault status m.source m.source_now m.sink m.sink_now
    → ¬ Rose m.source m.source_now → ¬ Rose m.sink m.sink_now → EndsReplay status
completes_replay moment choice status m r fault no_source no_sink = by r.told r.ends
  where
    by : (told : Result Contents TraceRefusal) → EndsReading moment choice told status m.taken m.taken_now → EndsReplay status
    by (Ok c) e = ends_crash e.answer status m.taken m.taken_now m.source m.source_now m.sink m.sink_now e.ends fault no_sink
    by (Err (reading.BadTrace line)) e = ends_so_behind EndsReplay BadTrace status (trace_line line) m.taken m.taken_now m.source m.source_now m.sink m.sink_now tt e fault no_sink
    by (Err reading.SourceFault) (inl t) = absurd (no_source (subst (λ (s : Status). HasFault s m.source m.source_now m.sink m.sink_now) t.0 fault))
    by (Err reading.SourceFault) (inr t) = absurd (no_sink (subst (λ (s : Status). HasFault s m.source m.source_now m.sink m.sink_now) t.0 fault))
    by (Err reading.LongInput) e = ends_so_behind EndsReplay LongInput status long_line m.taken m.taken_now m.source m.source_now m.sink m.sink_now tt e fault no_sink
    by (Err reading.NoMemory) e = subst EndsReplay (sym e.0) tt

pub completes_show : (tells : Bool) (image : List ℕ) (status : Status) (m : Met) → ShowsTo tells image status m → HasFault status m.source m.source_now m.sink m.sink_now
    → ¬ Rose m.sink m.sink_now → EndsShow (CountsFault m.bay m.bay_now) status
completes_show tells image status m s fault no_sink = by s.answer s.cause s.ends
  where
    P : Type 0
    P = CountsFault m.bay m.bay_now

    by : (answer : Result (Unit {0}) ShowRefusal) → HasShowCause answer m.bay m.bay_now → EndsShowing answer status s.between m.taken_now → EndsShow P status
    by (Err show.Fault) cause e = ends_so_behind (EndsShow P) DiskFault status disk_line s.between m.taken_now m.source m.source_now m.sink m.sink_now cause e fault no_sink
    by (Err (show.Damaged damage)) cause e = ends_so_behind (EndsShow P) (Damaged damage) status damaged_line s.between m.taken_now m.source m.source_now m.sink m.sink_now tt e fault no_sink
    by (Err show.Spent) cause e = ends_so_behind (EndsShow P) Spent status spent_line s.between m.taken_now m.source m.source_now m.sink m.sink_now tt e fault no_sink
    by (Err show.SinkFault) cause e = absurd (no_sink (subst (λ (x : Status). HasFault x m.source m.source_now m.sink m.sink_now) e.0 fault))
    by other cause e = subst (EndsShow P) (sym e.0) tt

-- a making or a copying that was answered so
ends_making : (answer : Result (Unit {0}) MakeRefusal) (status : Status) (m : Met) → HasMakeCause answer m.bay m.bay_now → EndsMaking answer status m.taken m.taken_now → HasFault status m.source m.source_now m.sink m.sink_now
    → ¬ Rose m.sink m.sink_now → EndsMake (CountsFault m.bay m.bay_now) status
ends_making (Err make.Fault) status m cause e fault no_sink =
    ends_so_behind (EndsMake (CountsFault m.bay m.bay_now)) DiskFault status disk_line m.taken m.taken_now m.source m.source_now m.sink m.sink_now cause e fault no_sink
ends_making other status m cause e fault no_sink = subst (EndsMake (CountsFault m.bay m.bay_now)) (sym e.0) tt

pub completes_make : (fits tells : Bool) (image : List ℕ) (g : Geometry) (status : Status) (m : Met) → MakesWhere fits tells image g status m → HasFault status m.source m.source_now m.sink m.sink_now
    → fits ≡ true → ¬ Rose m.sink m.sink_now → EndsMake (CountsFault m.bay m.bay_now) status
completes_make true tells image g status m s fault does no_sink = ends_making s.answer status m s.cause s.ends fault no_sink
completes_make false tells image g status m s fault does no_sink = absurd (false≢true does)

pub completes_copy : (tells : Bool) (image other : List ℕ) (status : Status) (m : Met) → CopiesTo tells image other status m → HasFault status m.source m.source_now m.sink m.sink_now
    → ¬ Rose m.sink m.sink_now → EndsMake (CountsFault m.bay m.bay_now) status
completes_copy tells image other status m s fault no_sink = ends_making s.answer status m s.cause s.ends fault no_sink

pub completes_upgrade : (fits tells : Bool) (image other : List ℕ) (g : Geometry) (status : Status) (m : Met) → UpgradesWhere fits tells image other g status m → HasFault status m.source m.source_now m.sink m.sink_now
    → fits ≡ true → ¬ Rose m.sink m.sink_now → EndsUpgrade status
completes_upgrade false tells image other g status m u fault does no_sink = absurd (false≢true does)
completes_upgrade true tells image other g status m u fault does no_sink = by u.answer u.ends
  where
    behind_line : (X : Status) (line : List ℕ) → EndsUpgrade X → EndsBehind X line status m.taken m.taken_now → EndsUpgrade status
    behind_line X line may e = ends_so_behind EndsUpgrade X status line m.taken m.taken_now m.source m.source_now m.sink m.sink_now may e fault no_sink

    by : (answer : Result (Unit {0}) UpgradeRefusal) → EndsUpgrading answer status m.taken m.taken_now → EndsUpgrade status
    by (Ok x) e = subst EndsUpgrade (sym e.0) tt
    by (Err upgrade.Fault) e = behind_line DiskFault disk_line tt e
    by (Err (upgrade.Damaged damage)) e = behind_line (Damaged damage) damaged_line tt e
    by (Err upgrade.Spent) e = behind_line Spent spent_line tt e
    by (Err upgrade.NoRoom) e = behind_line NoRoom room_line tt e
    by (Err upgrade.NoMemory) e = subst EndsUpgrade (sym e.0) tt

pub completes_load : (seed count : ℕ) (status : Status) (m : Met) → LoadsTo seed count status m.taken m.taken_now → HasFault status m.source m.source_now m.sink m.sink_now → ¬ Rose m.sink m.sink_now → EndsLoad status
completes_load seed count status m (inl e) fault no_sink = ends_so_behind EndsLoad Done status (summary_text (summary_of seed count)) m.taken m.taken_now m.source m.source_now m.sink m.sink_now tt e fault no_sink
completes_load seed count status m (inr e) fault no_sink = subst EndsLoad (sym e.0) tt

pub completes_run : (tells : Bool) (image : List ℕ) (status : Status) (m : Met) → RunsTo tells image status m → HasFault status m.source m.source_now m.sink m.sink_now
    → ¬ Rose m.source m.source_now → ¬ Rose m.sink m.sink_now → EndsRun (CountsFault m.bay m.bay_now) status
completes_run tells image status m r fault no_source no_sink = by r.answer r.cause r.ends
  where
    P : Type 0
    P = CountsFault m.bay m.bay_now

    by : (answer : Result Ending RunRefusal) → HasRunCause answer m.bay m.bay_now → EndsScript answer status r.between m.taken_now → EndsRun P status
    by (Ok script.SourceFault) cause (inl t) = absurd (no_source (subst (λ (s : Status). HasFault s m.source m.source_now m.sink m.sink_now) t.0 fault))
    by (Ok script.SourceFault) cause (inr t) = absurd (no_sink (subst (λ (s : Status). HasFault s m.source m.source_now m.sink m.sink_now) t.0 fault))
    by (Ok script.LongInput) cause e = ends_so_behind (EndsRun P) LongInput status long_line r.between m.taken_now m.source m.source_now m.sink m.sink_now tt e fault no_sink
    by (Err run.Fault) cause e = ends_so_behind (EndsRun P) DiskFault status disk_line r.between m.taken_now m.source m.source_now m.sink m.sink_now cause e fault no_sink
    by (Err (run.Damaged damage)) cause e = ends_so_behind (EndsRun P) (Damaged damage) status damaged_line r.between m.taken_now m.source m.source_now m.sink m.sink_now tt e fault no_sink
    by (Err run.Spent) cause e = ends_so_behind (EndsRun P) Spent status spent_line r.between m.taken_now m.source m.source_now m.sink m.sink_now tt e fault no_sink
    by (Err run.SinkFault) cause e = absurd (no_sink (subst (λ (s : Status). HasFault s m.source m.source_now m.sink m.sink_now) e.0 fault))
    by other cause e = subst (EndsRun P) (sym e.0) tt

pub completes_mirrored : (tells : Bool) (image other : List ℕ) (status : Status) (m : Met) → RunsMirroredTo tells image other status m → HasFault status m.source m.source_now m.sink m.sink_now
    → ¬ Rose m.source m.source_now → ¬ Rose m.sink m.sink_now → EndsRunOnTwo status
completes_mirrored tells image other status m r fault no_source no_sink = by r.answer r.ends
  where
    behind_line : (X : Status) (line : List ℕ) → EndsRunOnTwo X → EndsBehind X line status r.between m.taken_now → EndsRunOnTwo status
    behind_line X line may e = ends_so_behind EndsRunOnTwo X status line r.between m.taken_now m.source m.source_now m.sink m.sink_now may e fault no_sink

    by : (answer : Result Ending MirroredRefusal) → EndsMirrored answer status r.between m.taken_now → EndsRunOnTwo status
    by (Ok script.End) e = subst EndsRunOnTwo (sym e.0) tt
    by (Ok script.SourceFault) (inl t) = absurd (no_source (subst (λ (s : Status). HasFault s m.source m.source_now m.sink m.sink_now) t.0 fault))
    by (Ok script.SourceFault) (inr t) = absurd (no_sink (subst (λ (s : Status). HasFault s m.source m.source_now m.sink m.sink_now) t.0 fault))
    by (Ok script.LongInput) e = behind_line LongInput long_line tt e
    by (Err (mirrored.Run run.Fault)) e = behind_line DiskFault disk_line tt e
    by (Err (mirrored.Run (run.Damaged damage))) e = behind_line (Damaged damage) damaged_line tt e
    by (Err (mirrored.Run run.Spent)) e = behind_line Spent spent_line tt e
    by (Err (mirrored.Run run.SinkFault)) e = absurd (no_sink (subst (λ (x : Status). HasFault x m.source m.source_now m.sink m.sink_now) e.0 fault))
    by (Err (mirrored.Run run.NoMemory)) e = subst EndsRunOnTwo (sym e.0) tt
    by (Err mirrored.Unlike) e = behind_line Unlike unlike_line tt e

pub completes_log : (tells : Bool) (image : List ℕ) (status : Status) (m : Met) → LogsTo tells image status m → HasFault status m.source m.source_now m.sink m.sink_now
    → ¬ Rose m.source m.source_now → ¬ Rose m.sink m.sink_now → EndsLog status
completes_log tells image status m l fault no_source no_sink = by l.answer l.ends
  where
    behind_line : (X : Status) (line : List ℕ) → EndsLog X → EndsBehind X line status l.between m.taken_now → EndsLog status
    behind_line X line may e = ends_so_behind EndsLog X status line l.between m.taken_now m.source m.source_now m.sink m.sink_now may e fault no_sink

    by : (answer : Result Ending LogRunRefusal) → EndsServing answer status l.between m.taken_now → EndsLog status
    by (Ok script.End) e = subst EndsLog (sym e.0) tt
    by (Ok script.SourceFault) (inl t) = absurd (no_source (subst (λ (s : Status). HasFault s m.source m.source_now m.sink m.sink_now) t.0 fault))
    by (Ok script.SourceFault) (inr t) = absurd (no_sink (subst (λ (s : Status). HasFault s m.source m.source_now m.sink m.sink_now) t.0 fault))
    by (Ok script.LongInput) e = behind_line LongInput long_line tt e
    by (Err (logs.Run run.Fault)) e = behind_line DiskFault disk_line tt e
    by (Err (logs.Run (run.Damaged damage))) e = behind_line (Damaged damage) damaged_line tt e
    by (Err (logs.Run run.Spent)) e = behind_line Spent spent_line tt e
    by (Err (logs.Run run.SinkFault)) e = absurd (no_sink (subst (λ (x : Status). HasFault x m.source m.source_now m.sink m.sink_now) e.0 fault))
    by (Err (logs.Run run.NoMemory)) e = subst EndsLog (sym e.0) tt
    by (Err (logs.NoRoom why)) e = behind_line NoRoom room_line tt e
    by (Err logs.BadLog) e = behind_line BadLog log_line tt e
