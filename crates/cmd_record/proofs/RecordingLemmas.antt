-- What each step of a recording does to what holds of it.
use Rattle.std.proofs.Common.{◌≡◌, ℕ, List, [], ◌∷◌, ◌++◌, length, take, drop, Option, Result, Ok, Err, OnErr, refl, sym, ap, ◌∙◌, subst, append_assoc, append-nil, take-append-drop}
use Rattle.lang_tree.specs.declared.command.Cmd.{Cmd}
use Rattle.lang_script.specs.Text.{command_text, text_of_reply}
use Rattle.lang_script.specs.Values.{IsCommand}
use Rattle.std.specs.Io.KnownBytes.{Appends}
use Rattle.std.proofs.KnownBytes.{Appends-nil, Appends-trans}
use Rattle.engine_blocks.specs.State.{State}
use Rattle.cmd_trace.specs.Contents.{Each}
use Rattle.cmd_trace.specs.Line.{command_line, event_lines, reply_line, end_line}
use Rattle.cmd_trace.specs.Trace.{entry}
use Rattle.disk_contract.specs.declared.event.Event.{Event}
use Rattle.lang_tree.specs.declared.command.Reply.{Reply}
use Rattle.lang_lines.specs.Lines.{longest, commands_of}
use Rattle.cmd_host.specs.Behaving.{Setting}
use Rattle.cmd_record.specs.Traces.{BeginsFirst, Serves, ServesBy}
use Rattle.cmd_record.specs.Running.{Records, BreaksOff, ServesFrom, TriesFrom}
use Rattle.cmd_record.specs.Follows.{Stopped}

-- One command.

-- the first of commands are commands
each_front : (xs ys : List Cmd) → Each IsCommand (xs ++ ys) → Each IsCommand xs
each_front [] ys all = tt
each_front (x ∷ xs) ys all = (all.0, each_front xs ys all.1)

-- the text so far is the trace of the commands so far, which are the first of all
begins_here : (set : Setting) (past more : List Cmd) (text : List ℕ) (s : State) → Records set past text s → Each IsCommand (past ++ more) → BeginsFirst (ServesBy set) (past ++ more) (text ++ [])
begins_here set past more text s r lawful = record {
  asked = past;
  later = more;
  are = refl;
  rest = [];
  served = subst (λ (xs : List ℕ). ServesBy set past xs) (sym (append-nil (text ++ []) ∙ append-nil text)) (r.served (each_front past more lawful));
}

-- Nothing more was taken: the text so far begins the trace of some run of all commands.
pub breaks_here : (set : Setting) (past more : List Cmd) (text : List ℕ) (s : State) (told : Option (List ℕ)) → Records set past text s → BreaksOff set (past ++ more) text told told
breaks_here set past [] text s told r = record {
  piece = [];
  rest = [];
  told = Appends-nil told;
  served = λ lawful. subst (λ (cs : List Cmd). Serves set.shape cs ((text ++ []) ++ [])) (sym (append-nil past))
      (subst (λ (xs : List ℕ). Serves set.shape past xs) (sym (append-nil (text ++ []) ∙ append-nil text)) (r.served (subst (λ (cs : List Cmd). Each IsCommand cs) (append-nil past) lawful)).served);
  begins = begins_here set past [] text s r;
}
breaks_here set past (cmd ∷ more) text s told r =
    let on = r.ends cmd more in
    record {
      piece = [];
      rest = command_line (command_text cmd) ++ on.rest;
      told = Appends-nil told;
      served = λ lawful. subst (λ (xs : List ℕ). Serves set.shape (past ++ cmd ∷ more) xs)
          (append_assoc text (command_line (command_text cmd)) on.rest ∙ ap (λ (xs : List ℕ). xs ++ (command_line (command_text cmd) ++ on.rest)) (sym (append-nil text))) (on.served lawful);
      begins = begins_here set past (cmd ∷ more) text s r;
    }

-- a front of a line, and the rest of it
line_parts : (text line rest : List ℕ) (n : ℕ) → (text ++ line) ++ rest ≡ (text ++ take n line) ++ (drop n line ++ rest)
line_parts text line rest n = ap (λ l. (text ++ l) ++ rest) (sym (take-append-drop n line)) ∙ simp append_assoc

-- The command was answered, and the sink took a front of what came with it.
pub entry_cut : (set : Setting) (all more : List Cmd) (text piece others : List ℕ) (s : State) (before after : Option (List ℕ)) → Records set all (text ++ (piece ++ others)) s
    → Appends before after piece → BreaksOff set (all ++ more) text before after
entry_cut set all more text piece others s before after r told =
    let end = breaks_here set all more (text ++ (piece ++ others)) s before r in
    record {
      piece = piece;
      rest = others ++ (end.piece ++ end.rest);
      told = told;
      served = λ lawful. subst (λ (xs : List ℕ). Serves set.shape (all ++ more) xs) (simp append_assoc) (end.served lawful);
      begins = λ lawful. record {
        asked = all;
        later = more;
        are = refl;
        rest = others;
        served = subst (λ (xs : List ℕ). ServesBy set all xs) (sym (append_assoc text piece others)) (r.served (each_front all more lawful));
      };
    }

-- What one command more makes of each recording, by how it was answered.
abbrev pub GoesOn : Cmd → Reply → State → State → Type 0
GoesOn cmd reply old new = (set : Setting) (past : List Cmd) (text : List ℕ) → Records set past text old → Records set (past ++ cmd ∷ []) (text ++ entry (drop (length old.crash.log) new.crash.log) cmd reply (length new.crash.log)) new

-- the sink has a front of the command's line
pub command_cut : {T E : Type 0} (r : Result T E) (cmd : Cmd) (reply : Reply) (old new : State) (before after : Option (List ℕ)) (asked : List ℕ) (n : ℕ) → GoesOn cmd reply old new
    → asked ≡ command_text cmd → Appends before after (take n (command_line asked)) → OnErr r (TriesFrom (cmd ∷ []) old before after)
command_cut (Ok x) cmd reply old new before after asked n on asked_is line = tt
command_cut (Err e) cmd reply old new before after asked n on asked_is line = λ set past more text r.
    let first = command_line (command_text cmd) in
    let lines = event_lines (drop (length old.crash.log) new.crash.log) in
    let last = reply_line (length new.crash.log) (text_of_reply reply) in
    entry_cut set (past ++ cmd ∷ []) more text (take n first) (drop n first ++ (lines ++ last)) new before after
    (subst (λ (xs : List ℕ). Records set (past ++ cmd ∷ []) (text ++ xs) new) (append_assoc first lines last ∙ line_parts [] first (lines ++ last) n) (on set past text r))
    (subst (λ (l : List ℕ). Appends before after (take n (command_line l))) asked_is line)

-- the sink has the command's line, and a front of the events'
pub events_cut : {T E : Type 0} (r : Result T E) (cmd : Cmd) (reply : Reply) (old new : State) (before mid after : Option (List ℕ)) (asked : List ℕ) (events : List Event) (n : ℕ) → GoesOn cmd reply old new
    → asked ≡ command_text cmd → events ≡ drop (length old.crash.log) new.crash.log → Appends before mid (command_line asked) → Appends mid after (take n (event_lines events)) → OnErr r (TriesFrom (cmd ∷ []) old before after)
events_cut (Ok x) cmd reply old new before mid after asked events n on asked_is events_are line told = tt
events_cut (Err e) cmd reply old new before mid after asked events n on asked_is events_are line told = λ set past more text r.
    let first = command_line (command_text cmd) in
    let lines = event_lines (drop (length old.crash.log) new.crash.log) in
    let last = reply_line (length new.crash.log) (text_of_reply reply) in
    entry_cut set (past ++ cmd ∷ []) more text (first ++ take n lines) (drop n lines ++ last) new before after
    (subst (λ (xs : List ℕ). Records set (past ++ cmd ∷ []) (text ++ xs) new) (line_parts first lines last n) (on set past text r))
    (Appends-trans before mid after first (take n lines) (subst (λ (l : List ℕ). Appends before mid (command_line l)) asked_is line) (subst (λ (es : List Event). Appends mid after (take n (event_lines es))) events_are told))

-- it has these, and a front of the reply's
pub reply_cut : {T E : Type 0} (r : Result T E) (cmd : Cmd) (reply : Reply) (old new : State) (before mid late after : Option (List ℕ)) (asked answered : List ℕ) (events : List Event) (moment n : ℕ) → GoesOn cmd reply old new
    → asked ≡ command_text cmd → events ≡ drop (length old.crash.log) new.crash.log → moment ≡ length new.crash.log → answered ≡ text_of_reply reply
    → Appends before mid (command_line asked) → Appends mid late (event_lines events) → Appends late after (take n (reply_line moment answered)) → OnErr r (TriesFrom (cmd ∷ []) old before after)
reply_cut (Ok x) cmd reply old new before mid late after asked answered events moment n on asked_is events_are moment_is answered_is line lines told = tt
reply_cut (Err e) cmd reply old new before mid late after asked answered events moment n on asked_is events_are moment_is answered_is line lines told = λ set past more text r.
    let first = command_line (command_text cmd) in
    let middle = event_lines (drop (length old.crash.log) new.crash.log) in
    let last = reply_line (length new.crash.log) (text_of_reply reply) in
    entry_cut set (past ++ cmd ∷ []) more text ((first ++ middle) ++ take n last) (drop n last) new before after
    (subst (λ (xs : List ℕ). Records set (past ++ cmd ∷ []) (text ++ xs) new) (ap (λ (l : List ℕ). (first ++ middle) ++ l) (sym (take-append-drop n last)) ∙ sym (append_assoc (first ++ middle) (take n last) (drop n last))) (on set past text r))
    (Appends-trans before late after (first ++ middle) (take n last)
    (Appends-trans before mid late first middle (subst (λ (l : List ℕ). Appends before mid (command_line l)) asked_is line) (subst (λ (es : List Event). Appends mid late (event_lines es)) events_are lines))
    (subst (λ (m : ℕ). Appends late after (take n (reply_line m (text_of_reply reply)))) moment_is (subst (λ (l : List ℕ). Appends late after (take n (reply_line moment l))) answered_is told)))

-- it has the whole entry
pub one_served : (cmd : Cmd) (reply : Reply) (old new : State) (before mid late after : Option (List ℕ)) (asked answered : List ℕ) (events : List Event) (moment : ℕ) → GoesOn cmd reply old new
    → asked ≡ command_text cmd → events ≡ drop (length old.crash.log) new.crash.log → moment ≡ length new.crash.log → answered ≡ text_of_reply reply
    → Appends before mid (command_line asked) → Appends mid late (event_lines events) → Appends late after (reply_line moment answered) → ServesFrom (cmd ∷ []) old new before after
one_served cmd reply old new before mid late after asked answered events moment on asked_is events_are moment_is answered_is line lines told set past text r =
    let first = command_line (command_text cmd) in
    let middle = event_lines (drop (length old.crash.log) new.crash.log) in
    let last = reply_line (length new.crash.log) (text_of_reply reply) in
    record {
      piece = (first ++ middle) ++ last;
      told = Appends-trans before late after (first ++ middle) last
          (Appends-trans before mid late first middle (subst (λ (l : List ℕ). Appends before mid (command_line l)) asked_is line) (subst (λ (es : List Event). Appends mid late (event_lines es)) events_are lines))
          (subst (λ (m : ℕ). Appends late after (reply_line m (text_of_reply reply))) moment_is (subst (λ (l : List ℕ). Appends late after (reply_line moment l)) answered_is told));
      records = on set past text r;
    }

-- The same as the code has them: the texts were made before.

pub nothing_told : {T E : Type 0} (r : Result T E) (cmds : List Cmd) (s : State) (told : Option (List ℕ)) → OnErr r (TriesFrom cmds s told told)
nothing_told (Ok x) cmds s told = tt
nothing_told (Err e) cmds s told = λ set past more text r.
    subst (λ (cs : List Cmd). BreaksOff set cs text told told) (sym (append_assoc past cmds more)) (breaks_here set past (cmds ++ more) text s told r)

-- A recording that broke off in these commands stopped in the bytes of which they are a front.
pub stopped_off : (set : Setting) (seen : List ℕ) (cmds : List Cmd) (body : List ℕ) (before mid after : Option (List ℕ)) → Appends before mid body
    → BreaksOff set cmds body mid after → cmds ≡ commands_of longest seen → Stopped set seen before after
stopped_off set seen cmds body before mid after told off is = record {
  text = body ++ off.piece;
  told = Appends-trans before mid after body off.piece told off.told;
  broken = λ lawful.
      let these = subst (λ (cs : List Cmd). Each IsCommand cs) (sym is) lawful in
      record {
        front = (
          off.rest ++ end_line,
          record {
            body = (body ++ off.piece) ++ off.rest;
            served = subst (λ (cs : List Cmd). Serves set.shape cs ((body ++ off.piece) ++ off.rest)) is (off.served these);
            is = sym (append_assoc (body ++ off.piece) off.rest end_line);
          },
        );
        begins = subst (λ (cs : List Cmd). BeginsFirst (ServesBy set) cs (body ++ off.piece)) is (off.begins these);
      };
}
