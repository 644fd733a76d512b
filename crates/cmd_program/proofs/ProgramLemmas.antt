-- The last line of each ending, taken or not.
use Rattle.std.proofs.Common.{◌≡◌, ℕ, ◌^◌, ◌≤◌, ◌<◌, ◌==◌, nat_lt, Bool, true, false, if◌then◌else◌, List, [], ◌∷◌, ◌++◌, flat_map, length, take, drop, Option, refl, sym, ap, ◌∙◌, subst, inl, inr, arith, append_assoc, append-nil, take-append-drop, take_all}
use Rattle.std.specs.Io.KnownBytes.{Appends}
use Rattle.std.proofs.KnownBytes.{Appends-trans, Appends-nil, Consumes-nil}
use Rattle.base_types.specs.Counts.{Rose}
use Rattle.disk_contract.specs.declared.event.Event.{Event}
use Rattle.layout_geometry.specs.Geometry.{Geometry, IsGeometry}
use Rattle.lang_script.specs.Grammar.{command_of}
use Rattle.lang_script.specs.Values.{IsCommand}
use Rattle.crash_stands.specs.Bounds.{bounds_of}
use Rattle.crash_stands.specs.Stands.{StandsFor}
use Rattle.layout_journal.specs.Formatted.{formatted}
use Rattle.disk_memory.specs.MemDisk.{MemDiskState, state_of as disk_state}
use Rattle.cmd_trace.specs.Contents.{Each}
use Rattle.cmd_trace.specs.Line.{geometry_line, event_lines, end_line}
use Rattle.lang_tree.specs.declared.command.Cmd.TheVariants.{Bad}
use Rattle.lang_tree.specs.Step.{start}
use Rattle.cmd_host.specs.Disks.{FailedToMount}
use Rattle.cmd_host.specs.Behaving.{Setting}
use Rattle.cmd_record.specs.Traces.{IsFront, IsTrace, ServesBy}
use Rattle.cmd_record.specs.Reading.{AtEnding, Halted, ReadsAll, ReadsSome, ReadsTooMuch}
use Rattle.lang_lines.specs.Lines.{longest, commands_of_line, commands_of, whole_commands, whole_lines, parts_of}
use Rattle.cmd_trace.specs.Shared.{each_append}
use Rattle.cmd_image.specs.Staying.{rose_before}
use Rattle.cmd_program.specs.Output.{IsWhole, FailsToMount, IsCutShort, Recorded}
use Rattle.cmd_program.specs.Endings.{HasFault, Tells, disk_line, source_line, long_line}
use Rattle.cmd_program.specs.Program.{RecordsTo, Reads, ReadsPast, ReadsWithin}
use Rattle.cmd_record.specs.declared.reading.Ending.{Ending}
use Rattle.cmd_record.specs.declared.reading.Ending.TheVariants.{End, SourceFault as Broke, LongInput as Longer}
use Rattle.cmd_program.specs.declared.status.Status.{Status}
use Rattle.cmd_program.specs.declared.status.Status.TheVariants.{Done, NoMemory, DiskFault, SourceFault, SinkFault, LongInput}

-- What is read is a command, or none.

-- each line is a command with lawful arguments
abbrev pub AreCommands : Type 0
AreCommands = (line : List ℕ) → IsCommand (command_of line)

line_read : AreCommands → (n : ℕ) (line : List ℕ) → Each IsCommand (commands_of_line n line)
line_read read n [] = tt
line_read read n (b ∷ line) = unless (b == 35) (nat_lt n (length (b ∷ line)))
  where
    unless : (skipped long : Bool) → Each IsCommand (if skipped then [] else ((if long then Bad else command_of (b ∷ line)) ∷ []))
    unless true long = tt
    unless false true = (refl, tt)
    unless false false = (read (b ∷ line), tt)

lines_read : AreCommands → (n : ℕ) (lines : List (List ℕ)) → Each IsCommand (flat_map (commands_of_line n) lines)
lines_read read n [] = tt
lines_read read n (line ∷ lines) = each_append IsCommand (commands_of_line n line) (flat_map (commands_of_line n) lines) (line_read read n line) (lines_read read n lines)

all_read : AreCommands → (seen : List ℕ) → Each IsCommand (commands_of longest seen)
all_read read seen = lines_read read longest (parts_of seen)

some_read : AreCommands → (seen : List ℕ) → Each IsCommand (whole_commands longest seen)
some_read read seen = lines_read read longest (whole_lines seen)

-- The last lines.

regroup : (body line : List ℕ) (n : ℕ) → body ++ line ≡ (body ++ take n line) ++ drop n line
regroup body line n = ap (λ l. body ++ l) (sym (take-append-drop n line)) ∙ sym (append_assoc body (take n line) (drop n line))

taken_front : (W : List ℕ → Type 0) (body line : List ℕ) (n : ℕ) → W (body ++ line) → IsFront W (body ++ take n line)
taken_front W body line n whole = (drop n line, subst W (regroup body line n) whole)

-- the last line behind the body, or a front of it where the sink failed
told_line : (set : Setting) (X result : Status) (left now told mid out : Option (List ℕ)) (source source_now sink sink_now : ℕ) (seen body own line : List ℕ) → line ≡ own → Appends told mid body
    → Reads X seen left now → Reads SinkFault seen left now → Recorded set X (Rose source source_now) seen (body ++ own) → ((n : ℕ) → Recorded set SinkFault (Rose source source_now) seen (body ++ take n own))
    → Tells X result line mid out sink sink_now → RecordsTo set result left now told out source source_now
told_line set X result left now told mid out source source_now sink sink_now seen body own line is front reads some recorded broken (inl t) =
    subst (λ s. RecordsTo set s left now told out source source_now) (sym t.0) (record {
      seen = seen;
      reads = reads;
      text = body ++ own;
      writes = Appends-trans told mid out body own front (subst (λ (l : List ℕ). Appends mid out l) is t.1);
      output = recorded;
    })
told_line set X result left now told mid out source source_now sink sink_now seen body own line is front reads some recorded broken (inr t) =
    subst (λ s. RecordsTo set s left now told out source source_now) (sym t.0) (record {
      seen = seen;
      reads = some;
      text = body ++ take t.1.0 own;
      writes = Appends-trans told mid out body _ front (subst (λ (l : List ℕ). Appends mid out (take t.1.0 l)) is t.1.1);
      output = broken t.1.0;
    })

pub tells_end : (set : Setting) → AreCommands → (result : Status) (left now told mid out : Option (List ℕ)) (source source_now sink sink_now : ℕ) (line : List ℕ) → line ≡ end_line
    → ReadsAll set left now told mid → Tells Done result line mid out sink sink_now → RecordsTo set result left now told out source source_now
tells_end set read result left now told mid out source source_now sink sink_now line is r t =
    let text : IsTrace (ServesBy set) r.seen (r.serves.body ++ end_line) = record { body = r.serves.body; served = r.serves.served (all_read read r.seen); is = refl } in
    told_line set Done result left now told mid out source source_now sink sink_now r.seen r.serves.body end_line line is r.serves.told ((r.read, r.short), r.over) (inl (r.read, r.short)) text
    (λ n. inl (taken_front (IsWhole (ServesBy set) (Rose source source_now) r.seen) r.serves.body end_line n (inl text))) t

pub tells_source : (set : Setting) → AreCommands → (result : Status) (left now told mid out : Option (List ℕ)) (source source_now sink sink_now : ℕ) (line : List ℕ) → line ≡ source_line → Rose source source_now
    → ReadsSome set left now told mid → Tells SourceFault result line mid out sink sink_now → RecordsTo set result left now told out source source_now
tells_source set read result left now told mid out source source_now sink sink_now line is rose r t =
    let text : IsCutShort (ServesBy set) r.seen source_line (r.serves.body ++ source_line) = record { body = r.serves.body; served = r.serves.served (some_read read r.seen); is = refl } in
    told_line set SourceFault result left now told mid out source source_now sink sink_now r.seen r.serves.body source_line line is r.serves.told (r.read, r.short) (inl (r.read, r.short)) text
    (λ n. inl (taken_front (IsWhole (ServesBy set) (Rose source source_now) r.seen) r.serves.body source_line n (inr (inl (rose, text))))) t

pub tells_long : (set : Setting) → AreCommands → (result : Status) (left now told mid out : Option (List ℕ)) (source source_now sink sink_now : ℕ) (line : List ℕ) → line ≡ long_line
    → ReadsTooMuch set left now told mid → Tells LongInput result line mid out sink sink_now → RecordsTo set result left now told out source source_now
tells_long set read result left now told mid out source source_now sink sink_now line is r t =
    let text : IsCutShort (ServesBy set) r.seen long_line (r.serves.body ++ long_line) = record { body = r.serves.body; served = r.serves.served (some_read read r.seen); is = refl } in
    let reads : ReadsPast r.seen left now = (r.next, r.read, r.long) in
    told_line set LongInput result left now told mid out source source_now sink sink_now r.seen r.serves.body long_line line is r.serves.told reads (inr reads) text
    (λ n. inl (taken_front (IsWhole (ServesBy set) (Rose source source_now) r.seen) r.serves.body long_line n (inr (inr (r.long, text))))) t

pub closes_end : (set : Setting) → AreCommands → (ending : Ending) (result : Status) (source source_now : ℕ) (left now told mid out : Option (List ℕ)) (sink sink_now : ℕ) (line : List ℕ) → ending ≡ End → line ≡ end_line
    → AtEnding set ending source source_now left now told mid → Tells Done result line mid out sink sink_now → RecordsTo set result left now told out source source_now
closes_end set read ending result source source_now left now told mid out sink sink_now line at is h t =
    let P : Ending → Type 0 = λ e. AtEnding set e source source_now left now told mid in
    tells_end set read result left now told mid out source source_now sink sink_now line is (subst P at h) t

pub closes_source : (set : Setting) → AreCommands → (ending : Ending) (result : Status) (source source_now : ℕ) (left now told mid out : Option (List ℕ)) (sink sink_now : ℕ) (line : List ℕ) → ending ≡ Broke → line ≡ source_line
    → AtEnding set ending source source_now left now told mid → Tells SourceFault result line mid out sink sink_now → RecordsTo set result left now told out source source_now
closes_source set read ending result source source_now left now told mid out sink sink_now line at is h t =
    let P : Ending → Type 0 = λ e. AtEnding set e source source_now left now told mid in
    let r : Rose source source_now × ReadsSome set left now told mid = subst P at h in
    tells_source set read result left now told mid out source source_now sink sink_now line is r.0 r.1 t

pub closes_long : (set : Setting) → AreCommands → (ending : Ending) (result : Status) (source source_now : ℕ) (left now told mid out : Option (List ℕ)) (sink sink_now : ℕ) (line : List ℕ) → ending ≡ Longer → line ≡ long_line
    → AtEnding set ending source source_now left now told mid → Tells LongInput result line mid out sink sink_now → RecordsTo set result left now told out source source_now
closes_long set read ending result source source_now left now told mid out sink sink_now line at is h t =
    let P : Ending → Type 0 = λ e. AtEnding set e source source_now left now told mid in
    tells_long set read result left now told mid out source source_now sink sink_now line is (subst P at h) t

-- The faults of a status whose line was told.

pub tells_fault : (status result : Status) (line : List ℕ) (told out : Option (List ℕ)) (source source_now first sink sink_now : ℕ) → first ≤ sink → HasFault status source source_now first sink_now
    → Tells status result line told out sink sink_now → HasFault result source source_now first sink_now
tells_fault status result line told out source source_now first sink sink_now le fault (inl t) =
    let P : Status → Type 0 = λ s. HasFault s source source_now first sink_now in
    subst P (sym t.0) fault
tells_fault status result line told out source source_now first sink sink_now le fault (inr t) =
    let P : Status → Type 0 = λ s. HasFault s source source_now first sink_now in
    subst P (sym t.0) (rose_before first sink sink_now le t.2)

pub source_rose : (set : Setting) (ending : Ending) (source source_now : ℕ) (left now told mid : Option (List ℕ)) → ending ≡ Broke → AtEnding set ending source source_now left now told mid → Rose source source_now
source_rose set ending source source_now left now told mid at h =
    let P : Ending → Type 0 = λ e. AtEnding set e source source_now left now told mid in
    let r : Rose source source_now × ReadsSome set left now told mid = subst P at h in
    r.0

-- Where the recording stopped before its end, no last line is written.

pub halts_memory : (set : Setting) → AreCommands → (left now told out : Option (List ℕ)) (source source_now : ℕ)
    → Halted set (2 ^ 30) left now told out → RecordsTo set NoMemory left now told out source source_now
halts_memory set read left now told out source source_now h = record {
  seen = h.seen;
  reads = (h.read, h.short);
  text = h.stopped.text;
  writes = h.stopped.told;
  output = inr (h.stopped.broken (all_read read h.seen));
}

pub halts_sink : (set : Setting) → AreCommands → (left now told out : Option (List ℕ)) (source source_now : ℕ)
    → Halted set (2 ^ 30) left now told out → RecordsTo set SinkFault left now told out source source_now
halts_sink set read left now told out source source_now h = record {
  seen = h.seen;
  reads = inl (h.read, h.short);
  text = h.stopped.text;
  writes = h.stopped.told;
  output = inr (inl (h.stopped.broken (all_read read h.seen)));
}

-- Memory ran out before anything was written.

pub never_begun : (set : Setting) (left told : Option (List ℕ)) (source source_now : ℕ) → RecordsTo set NoMemory left left told told source source_now
never_begun set left told source source_now = record {
  seen = [];
  reads = (Consumes-nil left, omega arith);
  text = [];
  writes = Appends-nil told;
  output = inl refl;
}

-- A mount that failed.

-- what is written of it, but for the last line
abbrev pub head_of : Geometry → MemDiskState → List ℕ
head_of g d = (geometry_line g ++ event_lines d.log) ++ end_line

fails_so : (set : Setting) (d : MemDiskState) → IsGeometry set.shape → StandsFor set.shape.n (formatted set.shape) (start (bounds_of set.shape)).tree → FailedToMount set (disk_state d) → FailsToMount set (head_of set.shape d ++ disk_line)
fails_so set d low root failed =
    let blocks : set.shape.n < 2 ^ 64 = omega (arith, low.most_blocks) in
    let journal : set.shape.j < 2 ^ 64 = omega (arith, low.most_journal) in
    let nodes : set.shape.i < 2 ^ 64 = omega (arith, low.most_nodes) in
    record {
      log = d.log;
      lawful = assumption (blocks, journal, nodes, failed.lawful, failed.events, tt);
      begins = root;
      consistent = failed.consistent;
      writes = failed.writes;
      cause = failed.cause;
      most = failed.most;
      is = ap (λ (xs : List ℕ). (xs ++ end_line) ++ disk_line) (sym (append-nil (geometry_line set.shape ++ event_lines (take (length d.log) d.log)) ∙ ap (λ (es : List Event). geometry_line set.shape ++ event_lines es) (take_all (length d.log) d.log (omega arith))));
    }

pub tells_disk : (set : Setting) (d : MemDiskState) (result : Status) (left told mid out : Option (List ℕ)) (source sink sink_now : ℕ) (line : List ℕ) → IsGeometry set.shape → StandsFor set.shape.n (formatted set.shape) (start (bounds_of set.shape)).tree → FailedToMount set (disk_state d)
    → line ≡ disk_line → Appends told mid (head_of set.shape d) → Tells DiskFault result line mid out sink sink_now → RecordsTo set result left left told out source source
tells_disk set d result left told mid out source sink sink_now line low root failed is wrote t =
    let fails = fails_so set d low root failed in
    let none : ReadsWithin [] left left = (Consumes-nil left, omega arith) in
    told_line set DiskFault result left left told mid out source source sink sink_now [] (head_of set.shape d) disk_line line is wrote (refl, none) (inl none) fails
    (λ n. inr (inr (taken_front (FailsToMount set) (head_of set.shape d) disk_line n fails))) t

pub head_broke : (set : Setting) (d : MemDiskState) (left told out : Option (List ℕ)) (source n : ℕ) → IsGeometry set.shape → StandsFor set.shape.n (formatted set.shape) (start (bounds_of set.shape)).tree → FailedToMount set (disk_state d)
    → Appends told out (take n (head_of set.shape d)) → RecordsTo set SinkFault left left told out source source
head_broke set d left told out source n low root failed wrote = record {
  seen = [];
  reads = inl (Consumes-nil left, omega arith);
  text = take n (head_of set.shape d);
  writes = wrote;
  output = inr (inr (drop n (head_of set.shape d) ++ disk_line, subst (FailsToMount set) (ap (λ (l : List ℕ). l ++ disk_line) (sym (take-append-drop n (head_of set.shape d))) ∙ append_assoc (take n (head_of set.shape d)) (drop n (head_of set.shape d)) disk_line) (fails_so set d low root failed)));
}
