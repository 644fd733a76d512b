-- What each turn of a reading does to how far it has come, and how it ends.
use Rattle.std.proofs.Common.{arith, ◌≡◌, ◌⊎◌, inl, inr, ℕ, ◌+◌, ◌^◌, ◌≤◌, true, false, true≢false, List, [], ◌∷◌, ◌++◌, length, take, drop, Option, Some, None, Result, Ok, Err, OnErr, IsErrAnd, refl, sym, ap, ◌∙◌, subst, append_assoc, append-nil, take-append-drop}
use Rattle.std.proofs.lemmas.Bool.{cases_Bool}
use Rattle.std.proofs.lemmas.List.{length-append}
use Rattle.std.proofs.lemmas.Result.{err_from_is_err_and}
use Rattle.std.specs.Io.KnownBytes.{Appends, Consumes}
use Rattle.std.proofs.KnownBytes.{Appends-trans, Consumes-trans, Consumes-nil}
use Rattle.base_types.specs.Counts.{Rose}
use Rattle.lang_tree.specs.declared.command.Cmd.{Cmd}
use Rattle.lang_script.specs.Values.{IsCommand}
use Rattle.lang_lines.specs.Lines.{longest, commands_of, whole_commands}
use Rattle.lang_lines.specs.Reading.{HasGiven, HoldsOn, ReaderState, ReadsOn, first_state}
use Rattle.lang_lines.specs.declared.next.Next.TheVariants as next
use Rattle.cmd_trace.specs.Contents.{Each}
use Rattle.cmd_trace.specs.Line.{end_line}
use Rattle.disk_contract.specs.Manner.{Manner}
use Rattle.layout_geometry.specs.Geometry.{Geometry}
use Rattle.engine_blocks.specs.State.{State}
use Rattle.cmd_host.specs.Behaving.{Setting}
use Rattle.cmd_host.specs.Disks.{IsOpened}
use Rattle.cmd_record.specs.Traces.{ServesBy}
use Rattle.cmd_record.specs.Follows.{ServesTo, StopsByCause}
use Rattle.cmd_record.specs.declared.recording.Stop.{Stop}
use Rattle.cmd_record.specs.declared.recording.Stop.TheVariants.{NoMemory, SinkFault}
use Rattle.cmd_record.specs.Reading.{At, Halted, AtEnding, GivesOn, ReadsAll, ReadsSome, ReadsTooMuch, Turns}
use Rattle.cmd_record.specs.declared.reading.Ending.{Ending}
use Rattle.cmd_record.specs.declared.reading.Ending.TheVariants.{End, SourceFault, LongInput}
use Rattle.cmd_record.specs.Running.{Records, ServesFrom, TriesFrom}
use Rattle.cmd_record.proofs.RecordingLemmas.{breaks_here, stopped_off}

-- What lang_lines says of the commands that were given.
pub record GivenLaws : Type 0 where
  pub first : HasGiven [] [] first_state
  pub end : (seen : List ℕ) (cmds : List Cmd) (r : ReaderState) → HasGiven seen cmds r → r.over ≡ true → r.ahead ≡ [] → cmds ≡ commands_of longest seen
  pub whole : (seen : List ℕ) (cmds : List Cmd) (r : ReaderState) → HasGiven seen cmds r → r.over ≡ false → r.ahead ≡ [] → cmds ≡ whole_commands longest seen
  pub front : (seen rest : List ℕ) (cmds : List Cmd) (r : ReaderState) → HasGiven seen cmds r → r.over ≡ false → (later : List Cmd) × (commands_of longest (seen ++ rest) ≡ cmds ++ later)
  pub few : (seen : List ℕ) (cmds : List Cmd) (r : ReaderState) → HasGiven seen cmds r → length cmds ≤ 2 ^ 30 + 1

-- the commands that were given are the first ones of the bytes that were pulled
firsts : GivenLaws → (seen : List ℕ) (cmds : List Cmd) (r : ReaderState) → HasGiven seen cmds r → (r.over ≡ true → r.ahead ≡ []) → (later : List Cmd) × (cmds ++ later ≡ commands_of longest seen)
firsts laws seen cmds r given none = by (cases_Bool r.over)
  where
    by : (r.over ≡ true) ⊎ (r.over ≡ false) → (later : List Cmd) × (cmds ++ later ≡ commands_of longest seen)
    by (inl over) = ([], append-nil cmds ∙ laws.end seen cmds r given over (none over))
    by (inr going) = let more = laws.front seen [] cmds r given going in (more.0, sym more.1 ∙ ap (commands_of longest) (append-nil seen))

-- what is recorded of some commands is of the same ones
serves_to : (set : Setting) (cmds same : List Cmd) (body : List ℕ) (s : State) (before after : Option (List ℕ)) → cmds ≡ same → Records set cmds body s → Appends before after body → ServesTo set same before after
serves_to set cmds same body s before after is records told = record { body = body; served = subst (λ (cs : List Cmd). Each IsCommand cs → ServesBy set cs body) is records.served; told = told }

-- One turn.

module _ (laws : GivenLaws) (set : Setting) (left mid now told out : Option (List ℕ)) (s : State) (r q : ReaderState) (h : At set left mid told out s r) where
  -- no command came
  same_commands : (more : List ℕ) → HasGiven (h.seen ++ more) (h.cmds ++ []) q → HasGiven (h.seen ++ more) h.cmds q
  same_commands more given = subst (λ (cs : List Cmd). HasGiven (h.seen ++ more) cs q) (append-nil h.cmds) given

  -- memory ran out before a command came
  pub held_at : HoldsOn r q mid now → (q.over ≡ true → q.ahead ≡ []) → Halted set (2 ^ 30) left now told out
  held_at holds none =
      let given = holds.given h.seen h.cmds h.given in
      let later = firsts laws (h.seen ++ holds.more) h.cmds q given none in
      record {
        seen = h.seen ++ holds.more;
        read = Consumes-trans left mid now h.seen holds.more h.read holds.read;
        short = given.most;
        stopped = stopped_off set (h.seen ++ holds.more) (h.cmds ++ later.0) h.body told out out h.took (breaks_here set h.cmds later.0 h.body s out h.records) later.1;
      }

  module _ (faults faults_now : ℕ) where
    -- a command came, and it was answered
    pub command_at : (cmd : Cmd) (t : State) (out_now : Option (List ℕ)) → ReadsOn (next.Command cmd) r q mid now faults faults_now → ServesFrom (cmd ∷ []) s t out out_now → At set left now told out_now t q
    command_at cmd t out_now reads serves =
        let more = serves set h.cmds h.body h.records in
        record {
          seen = h.seen ++ reads.more;
          cmds = h.cmds ++ cmd ∷ [];
          body = h.body ++ more.piece;
          given = reads.given h.seen h.cmds h.given;
          read = Consumes-trans left mid now h.seen reads.more h.read reads.read;
          ends = reads.over h.ends;
          records = more.records;
          took = Appends-trans told out out_now h.body more.piece h.took more.told;
        }

    -- it came, and its entry broke off
    pub stops_at : (cmd : Cmd) (out_now : Option (List ℕ)) → ReadsOn (next.Command cmd) r q mid now faults faults_now → (q.over ≡ true → q.ahead ≡ []) → TriesFrom (cmd ∷ []) s out out_now → Halted set (2 ^ 30) left now told out_now
    stops_at cmd out_now reads none tries =
        let given = reads.given h.seen h.cmds h.given in
        let later = firsts laws (h.seen ++ reads.more) (h.cmds ++ cmd ∷ []) q given none in
        record {
          seen = h.seen ++ reads.more;
          read = Consumes-trans left mid now h.seen reads.more h.read reads.read;
          short = given.most;
          stopped = stopped_off set (h.seen ++ reads.more) ((h.cmds ++ cmd ∷ []) ++ later.0) h.body told out out_now h.took (tries set h.cmds later.0 h.body h.records) later.1;
        }

    pub end_at : ReadsOn next.End r q mid now faults faults_now → ReadsAll set left now told out
    end_at reads =
        let given = same_commands reads.more (reads.given h.seen h.cmds h.given) in
        record {
          seen = h.seen ++ reads.more;
          read = Consumes-trans left mid now h.seen reads.more h.read reads.read;
          over = reads.over h.ends reads.ends.0;
          short = given.most;
          serves = serves_to set h.cmds (commands_of longest (h.seen ++ reads.more)) h.body s told out (laws.end (h.seen ++ reads.more) h.cmds q given reads.ends.0 reads.ends.1) h.records h.took;
        }

    pub fault_at : (first : ℕ) → first ≤ faults → ReadsOn next.SourceFault r q mid now faults faults_now → Rose first faults_now × ReadsSome set left now told out
    fault_at first le reads =
        let given = same_commands reads.more (reads.given h.seen h.cmds h.given) in (
          omega (arith, le, reads.ends.0),
          record {
            seen = h.seen ++ reads.more;
            read = Consumes-trans left mid now h.seen reads.more h.read reads.read;
            short = given.most;
            serves = serves_to set h.cmds (whole_commands longest (h.seen ++ reads.more)) h.body s told out (laws.whole (h.seen ++ reads.more) h.cmds q given reads.ends.1 reads.ends.2) h.records h.took;
          },
        )

    pub long_at : ReadsOn next.LongInput r q mid now faults faults_now → ReadsTooMuch set left now told out
    long_at reads =
        let given = same_commands reads.more (reads.given h.seen h.cmds h.given) in
        record {
          seen = h.seen ++ reads.more;
          next = reads.read.0;
          read = subst (λ (xs : List ℕ). Consumes left now xs) (sym (append_assoc h.seen reads.more (reads.read.0 ∷ []))) (Consumes-trans left mid now h.seen (reads.more ++ reads.read.0 ∷ []) h.read reads.read.1);
          long = sym given.count ∙ reads.ends.0;
          serves = serves_to set h.cmds (whole_commands longest (h.seen ++ reads.more)) h.body s told out (laws.whole (h.seen ++ reads.more) h.cmds q given reads.ends.1 reads.ends.2) h.records h.took;
        }

-- the turn stops so
pub stops_turn : (set : Setting) (faults faults_now : ℕ) (left now told out : Option (List ℕ)) (s : State) (r : ReaderState) (Q : Stop → Type 0) (x : Result (Option Ending) Stop) → IsErrAnd x Q → Halted set (2 ^ 30) left now told out → Turns set x faults faults_now left now told out s r
stops_turn set faults faults_now left now told out s r Q x is halts =
    let p = err_from_is_err_and x is in
    subst (λ (y : Result (Option Ending) Stop). Turns set y faults faults_now left now told out s r) (sym p.1) halts

-- The loop.

-- some commands were given, so many
pub record GivesSome (r : ReaderState) (count : ℕ) : Type 0 where
  pub seen : List ℕ
  pub cmds : List Cmd
  pub given : HasGiven seen cmds r
  pub are : length cmds ≡ count

-- Behind so many turns each has brought a command, and no count of faults has fallen.
pub record IsServing (count sources_first sources sinks_first sinks : ℕ) (left now out_first out : Option (List ℕ)) (s_first s : State) (r : ReaderState) : Type 0 where
  pub source : sources_first ≤ sources
  pub sink : sinks_first ≤ sinks
  pub gives : GivesSome r count
  pub so_far : (set : Setting) (body : List ℕ) (told : Option (List ℕ)) → Records set [] body s_first → Appends told out_first body → At set left now told out s r

pub first_serving : (sources sinks : ℕ) (left out : Option (List ℕ)) (s : State) (r : ReaderState) → GivenLaws → r ≡ first_state → IsServing 0 sources sources sinks sinks left left out out s s r
first_serving sources sinks left out s r laws is =
    let given : HasGiven [] [] r = subst (λ (x : ReaderState). HasGiven [] [] x) (sym is) laws.first in
    record {
      source = omega arith;
      sink = omega arith;
      gives = record { seen = []; cmds = []; given = given; are = refl };
      so_far = λ set body told records took. record {
        seen = [];
        cmds = [];
        body = body;
        given = given;
        read = Consumes-nil left;
        ends = λ over. absurd (true≢false (sym over ∙ ap (λ (x : ReaderState). x.over) is));
        records = records;
        took = took;
      };
    }

-- no input has more commands
pub no_more : GivenLaws → (r : ReaderState) (count : ℕ) → GivesSome r count → 2 ^ 30 + 2 ≤ count → ⊥
no_more laws r count g many = omega (arith, g.are, laws.few g.seen g.cmds r g.given, many)

module _ (count sources_first sources sources_now sinks_first sinks : ℕ) (left mid now out_first out out_now : Option (List ℕ)) (s_first s t : State) (r q : ReaderState) (h : IsServing count sources_first sources sinks_first sinks left mid out_first out s_first s r) (result : Result (Option Ending) Stop)
    (turns : (set : Setting) (first : ℕ) (start told : Option (List ℕ)) → first ≤ sources → At set start mid told out s r → Turns set result first sources_now start now told out_now t q) where
  pub next_serving : (sinks_now : ℕ) → result ≡ Ok None → GivesOn result r q → sources ≤ sources_now → sinks ≤ sinks_now → IsServing (count + 1) sources_first sources_now sinks_first sinks_now left now out_first out_now s_first t q
  next_serving sinks_now is gives source sink =
      let one = subst (λ (x : Result (Option Ending) Stop). GivesOn x r q) is gives h.gives.seen h.gives.cmds h.gives.given in
      record {
        source = omega (arith, h.source, source);
        sink = omega (arith, h.sink, sink);
        gives = record { seen = h.gives.seen ++ one.0; cmds = h.gives.cmds ++ one.1 ∷ []; given = one.2; are = omega (arith, h.gives.are, length-append h.gives.cmds (one.1 ∷ [])) };
        so_far = λ set body told records took. subst (λ (x : Result (Option Ending) Stop). Turns set x sources_first sources_now left now told out_now t q) is (turns set sources_first left told h.source (h.so_far set body told records took));
      }

  pub next_ends : (ending : Ending) → result ≡ Ok (Some ending) → (set : Setting) (body : List ℕ) (told : Option (List ℕ)) → Records set [] body s_first → Appends told out_first body → AtEnding set ending sources_first sources_now left now told out_now
  next_ends ending is set body told records took = subst (λ (x : Result (Option Ending) Stop). Turns set x sources_first sources_now left now told out_now t q) is (turns set sources_first left told h.source (h.so_far set body told records took))

  pub next_stops : (why : Stop) (x : Result Ending Stop) → result ≡ Err why → OnErr x ((set : Setting) (body : List ℕ) (told : Option (List ℕ)) → Records set [] body s_first → Appends told out_first body → Halted set (2 ^ 30) left now told out_now)
  next_stops why (Ok ending) is = tt
  next_stops why (Err stop) is = λ set body told records took. subst (λ (x : Result (Option Ending) Stop). Turns set x sources_first sources_now left now told out_now t q) is (turns set sources_first left told h.source (h.so_far set body told records took))

-- the sink's count before this call counts too
pub stopped_before : (T U : Type 0) (r : Result T Stop) (why : Stop) (first before now : ℕ) → IsErrAnd r (λ stop. stop ≡ why) → first ≤ before
    → StopsByCause {T = U} before now (Err why) → StopsByCause first now r
stopped_before T U (Ok x) why first before now is le h = absurd is
stopped_before T U (Err x) NoMemory first before now is le h =
    let P : Stop → Type 0 = λ stop. StopsByCause {T = T} first now (Err stop) in
    subst P (sym is) (omega (arith, le, h))
stopped_before T U (Err x) SinkFault first before now is le h =
    let P : Stop → Type 0 = λ stop. StopsByCause {T = T} first now (Err stop) in
    subst P (sym is) (omega (arith, le, h.0), omega (arith, le, h.1))

-- The beginning.

-- the sink has a front of the first lines, and nothing was read
pub head_cut : (set : Setting) (system : State) (body written : List ℕ) (left told out : Option (List ℕ)) (n : ℕ) → Records set [] body system → written ≡ body
    → Appends told out (take n written) → Halted set (2 ^ 30) left left told out
head_cut set system body written left told out n records same taken =
    let P : List ℕ → Type 0 = λ l. Appends told out (take n l) in
    record {
      seen = [];
      read = Consumes-nil left;
      short = omega arith;
      stopped = record {
        text = take n body;
        told = subst P same taken;
        broken = λ lawful. record {
          front = (drop n body ++ end_line, record { body = body; served = (records.served lawful).served; is = sym (append_assoc (take n body) (drop n body) end_line) ∙ ap (λ l. l ++ end_line) (take-append-drop n body) });
          begins = record { asked = []; later = []; are = refl; rest = drop n body; served = subst (λ (xs : List ℕ). ServesBy set [] xs) (sym (take-append-drop n body)) (records.served tt) };
        };
      };
    }

-- the same for each manner of the disk with which the file system was opened
pub head_cuts : {T E : Type 0} (r : Result T E) (g : Geometry) (system : State) (body written : List ℕ) (left told out : Option (List ℕ)) (n : ℕ)
    → ((m : Manner) → IsOpened (record { shape = g; manner = m }) system → Records (record { shape = g; manner = m }) [] body system) → written ≡ body → Appends told out (take n written)
    → OnErr r ((m : Manner) → IsOpened (record { shape = g; manner = m }) system → Halted (record { shape = g; manner = m }) (2 ^ 30) left left told out)
head_cuts (Ok x) g system body written left told out n first same taken = tt
head_cuts (Err e) g system body written left told out n first same taken = λ m opened. head_cut (record { shape = g; manner = m }) system body written left told out n (first m opened) same taken

pub lines_halt : {T E : Type 0} (r : Result T E) (g : Geometry) (system : State) (left now told out : Option (List ℕ)) → ((m : Manner) → IsOpened (record { shape = g; manner = m }) system → Halted (record { shape = g; manner = m }) (2 ^ 30) left now told out)
    → OnErr r ((m : Manner) → IsOpened (record { shape = g; manner = m }) system → Halted (record { shape = g; manner = m }) (2 ^ 30) left now told out)
lines_halt (Ok x) g system left now told out halts = tt
lines_halt (Err e) g system left now told out halts = halts

-- no reader was made: the sink has what it had before the first byte
pub not_begun : {T E : Type 0} (r : Result T E) (left out : Option (List ℕ)) (s : State)
    → OnErr r ((set : Setting) (body : List ℕ) (told : Option (List ℕ)) → Records set [] body s → Appends told out body → Halted set (2 ^ 30) left left told out)
not_begun (Ok x) left out s = tt
not_begun (Err e) left out s = λ set body told records took.
    record {
      seen = [];
      read = Consumes-nil left;
      short = omega arith;
      stopped = stopped_off set [] [] body told out out took (breaks_here set [] [] body s out records) refl;
    }

-- a stop for want of memory is none by the sink
pub no_memory : {T : Type 0} (r : Result T Stop) (now : ℕ) → IsErrAnd r (λ stop. stop ≡ NoMemory) → StopsByCause now now r
no_memory (Ok x) now is = absurd is
no_memory {T = T} (Err x) now is =
    let P : Stop → Type 0 = λ stop. StopsByCause {T = T} now now (Err stop) in
    subst P (sym is) (omega arith)
