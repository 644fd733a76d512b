-- The lines of a trace come one behind the other, up to its end.
use Rattle.std.proofs.Common.{◌≡◌, sym, ap, refl, ◌∙◌, subst, arith, ℕ, ◌+◌, ◌-◌, ◌<◌, ◌≤◌, ◌^◌, true, inl, inr, List, [], ◌∷◌, ◌++◌, length, take, drop, codes, append_assoc, take-append-drop, Option, Some, None}
use Rattle.std.proofs.lemmas.List.{append-nil, length-append, length-take-le}
use Rattle.std.proofs.Math.Seq.{take-add}
use Rattle.disk_contract.specs.declared.event.Event.{Event}
use Rattle.disk_contract.specs.Lawful.{AreLawfulAfter, AreEventsOf}
use Rattle.disk_contract.specs.Logs.{lawful_behind, lawful_front}
use Rattle.lang_tree.specs.declared.command.Cmd.{Cmd}
use Rattle.lang_tree.specs.declared.command.Reply.{Reply}
use Rattle.lang_script.specs.Text.{text_of_reply}
use Rattle.lang_script.specs.Values.{IsCommand, IsReply}
use Rattle.cmd_trace.specs.Line.{reply_line}
use Rattle.cmd_trace.specs.Trace.{between, Ascend}
use Rattle.cmd_trace.specs.Contents.{Contents, Each}
use Rattle.cmd_trace.specs.Shared.{drop_events, take_events, from_le}
use Rattle.cmd_trace_reader.specs.Replies.{MayReply, after}
use Rattle.cmd_trace_reader.specs.Traces.{MayReplyEach, IsTrace}
use Rattle.cmd_trace_reader.specs.declared.reader.Place.TheVariants.{Asked, Answered, Ended}
use Rattle.cmd_trace_reader.specs.Reading.{State, begun, HappensBy, AsksBy, AnswersBy, EndsBy, ComeEach, has_events, is_between, is_ended, mounted_by}
use Rattle.cmd_trace_reader.proofs.Parts.{event_part, event_parts, event_fed, command_part, reply_part, entry_parts, entries_parts, trace_parts}

-- ---- lines in a row

pub come_join : (xs ys : List (List ℕ)) (s m t : Option State) → ComeEach s xs m → ComeEach m ys t → ComeEach s (xs ++ ys) t
come_join [] ys s m t h k = subst (λ u. ComeEach u ys t) h k
come_join (x ∷ xs) ys s m t h k = (h.0, h.1, come_join xs ys (Some h.0) m t h.2 k)

pub come_front : (xs ys : List (List ℕ)) (s t : Option State) → ComeEach s (xs ++ ys) t → (m : Option State) × ComeEach s xs m × ComeEach m ys t
come_front [] ys s t h = (s, refl, h)
come_front (x ∷ xs) ys s t h =
    let rest = come_front xs ys (Some h.0) t h.2 in
    (rest.0, (h.0, h.1, rest.1), rest.2)

-- ---- parts of a log

lawful_taken : (log : List Event) (k : ℕ) → AreLawfulAfter [] log → AreLawfulAfter [] (take k log)
lawful_taken log k h = lawful_front [] (take k log) (drop k log) (subst (AreLawfulAfter []) (sym (take-append-drop k log)) h)

lawful_between : (log : List Event) (from to : ℕ) → AreLawfulAfter [] log → AreLawfulAfter (take from log) (between from to log)
lawful_between log from to h =
    let later = lawful_behind [] (take from log) (drop from log) (subst (AreLawfulAfter []) (sym (take-append-drop from log)) h) in
    lawful_front (take from log) (between from to log) (drop (to - from) (drop from log))
    (subst (AreLawfulAfter (take from log)) (sym (take-append-drop (to - from) (drop from log))) later)

taken_on : (log : List Event) (from to : ℕ) → from ≤ to → take from log ++ between from to log ≡ take to log
taken_on log from to up =
    let there : from + (to - from) ≡ to = omega (arith, up) in
    sym (take-add from (to - from) log) ∙ ap (λ j. take j log) there

-- ---- events

-- these lines lead to a state, which has these events more
pub record Happened (s : State) (events : List Event) (lines : List (List ℕ)) : Type 0 where
  pub to : State
  pub come : ComeEach (Some s) lines (Some to)
  pub log : to.log ≡ s.log ++ events
  pub place : to.place ≡ s.place
  pub kept : to.kept ≡ s.kept
  pub geometry : to.geometry ≡ s.geometry

pub run_events : (events : List Event) (s : State) → has_events s.place ≡ true → AreLawfulAfter s.log events → AreEventsOf s.geometry.n events → length (s.log ++ events) < 2 ^ 64
    → Happened s events (event_parts events)
run_events [] s here lawful of few = record { to = s; come = refl; log = sym (append-nil s.log); place = refl; kept = refl; geometry = refl }
run_events (e ∷ events) s here lawful of few =
    let next : State = record s { log = s.log ++ e ∷ []; mounted = mounted_by s.place s.mounted (length (s.log ++ e ∷ [])) } in
    let less : length (s.log ++ e ∷ []) < 2 ^ 64 = omega (arith, few, length-append s.log (e ∷ events), length-append s.log (e ∷ [])) in
    let one : HappensBy s (event_part e) next = record { event = e; place = here; next = record { comes = lawful.0; of = of.0 }; few = less; written = event_fed e; is = refl } in
    let rest = run_events events next here lawful.1 of.1 (subst (λ (l : List Event). length l < 2 ^ 64) (sym (append_assoc s.log (e ∷ []) events)) few) in
    record {
      to = rest.to;
      come = (next, inl one, rest.come);
      log = rest.log ∙ append_assoc s.log (e ∷ []) events;
      place = rest.place;
      kept = rest.kept;
      geometry = rest.geometry;
    }

-- ---- entries

-- a whole log, of which so many events came, and the replies that are to come
pub record Before (log : List Event) (before : ℕ) (cmds : List Cmd) (replies : List Reply) (s : State) : Type 0 where
  pub came : s.log ≡ take before log
  pub lawful : AreLawfulAfter [] log
  pub of : AreEventsOf s.geometry.n log
  pub few : length log < 2 ^ 64
  pub commands : Each IsCommand cmds
  pub answers : Each IsReply replies
  pub may : MayReplyEach s.kept.session s.kept.stopped cmds replies

-- these lines lead to a state between entries
pub record Reached (s : State) (lines : List (List ℕ)) : Type 0 where
  pub to : State
  pub come : ComeEach (Some s) lines (Some to)
  pub between : is_between to.place ≡ true

-- these lines lead to a state behind one more reply
record Entered (s : State) (log : List Event) (mark : ℕ) (cmd : Cmd) (reply : Reply) (lines : List (List ℕ)) : Type 0 where
  to : State
  come : ComeEach (Some s) lines (Some to)
  came : to.log ≡ take mark log
  place : to.place ≡ Answered
  kept : to.kept ≡ after s.kept cmd reply
  geometry : to.geometry ≡ s.geometry

run_entry : (log : List Event) (before mark : ℕ) (cmd : Cmd) (cmds : List Cmd) (reply : Reply) (replies : List Reply) (s : State) → Before log before (cmd ∷ cmds) (reply ∷ replies) s
    → is_between s.place ≡ true → before ≤ mark → mark ≤ length log → Entered s log mark cmd reply (entry_parts (between before mark log) cmd reply mark)
run_entry log before mark cmd cmds reply replies s h here up low =
    let asked : State = record s { place = Asked cmd } in
    let asks : AsksBy s (command_part cmd) asked = record { cmd = cmd; place = here; lawful = h.commands.0; written = refl; is = refl } in
    let there : s.log ++ between before mark log ≡ take mark log = ap (λ l. l ++ between before mark log) h.came ∙ taken_on log before mark up in
    let taken : length (take mark log) ≡ mark = length-take-le mark log low in
    let lawful : AreLawfulAfter s.log (between before mark log) = subst (λ (l : List Event). AreLawfulAfter l (between before mark log)) (sym h.came) (lawful_between log before mark h.lawful) in
    let happened = run_events (between before mark log) asked refl lawful (take_events s.geometry.n (mark - before) (drop before log) (drop_events s.geometry.n before log h.of))
    (subst (λ (l : List Event). length l < 2 ^ 64) (sym there) (omega (arith, taken, low, h.few))) in
    let t = happened.to in
    let moment : length t.log ≡ mark = ap (λ (l : List Event). length l) (happened.log ∙ there) ∙ taken in
    let may : MayReply t.kept.session t.kept.stopped cmd reply = subst (λ k. MayReply k.session k.stopped cmd reply) (sym happened.kept) h.may.0 in
    let done : State = record t { cmds = t.cmds ++ cmd ∷ []; replies = t.replies ++ reply ∷ []; marks = t.marks ++ length t.log ∷ []; kept = after t.kept cmd reply; place = Answered } in
    let answers : AnswersBy t (reply_part mark reply) done =
    record { cmd = cmd; place = happened.place; reply = reply; may = may; lawful = h.answers.0; written = ap (λ m. reply_line m (text_of_reply reply)) moment; is = refl {a = done} } in
    record {
      to = done;
      come = (asked, inr (inl asks), come_join (event_parts (between before mark log)) (reply_part mark reply ∷ []) (Some asked) (Some t) (Some done) happened.come (done, inr (inr (inl answers)), refl {a = Some done}));
      came = happened.log ∙ there;
      place = refl;
      kept = ap (λ k. after k cmd reply) happened.kept;
      geometry = happened.geometry;
    }

pub run_entries : (log : List Event) (before : ℕ) (cmds : List Cmd) (replies : List Reply) (marks : List ℕ) (s : State) → Before log before cmds replies s
    → is_between s.place ≡ true → Ascend before marks (length log) → Reached s (entries_parts log before cmds replies marks)
run_entries log before (cmd ∷ cmds) (reply ∷ replies) (mark ∷ marks) s h here up =
    let one = run_entry log before mark cmd cmds reply replies s h here up.0 (from_le mark marks (length log) up.1) in
    let now : Before log mark cmds replies one.to = record {
      came = one.came;
      lawful = h.lawful;
      of = subst (λ g. AreEventsOf g.n log) (sym one.geometry) h.of;
      few = h.few;
      commands = h.commands.1;
      answers = h.answers.1;
      may = subst (λ k. MayReplyEach k.session k.stopped cmds replies) (sym one.kept) h.may.1;
    } in
    let rest = run_entries log mark cmds replies marks one.to now (ap is_between one.place) up.1 in
    record {
      to = rest.to;
      come = come_join (entry_parts (between before mark log) cmd reply mark) (entries_parts log mark cmds replies marks) (Some s) (Some one.to) (Some rest.to) one.come rest.come;
      between = rest.between;
    }
run_entries log before other replies marks s h here up = record { to = s; come = refl; between = here }

-- ---- whole traces

-- the lines lead to an end
pub record Finished (lines : List (List ℕ)) : Type 0 where
  pub to : State
  pub come : ComeEach None lines (Some to)
  pub ended : is_ended to.place ≡ true

pub run_trace : (c : Contents) → IsTrace c → Finished (trace_parts c)
run_trace c h =
    let few : length (take c.mounted c.log) < 2 ^ 64 = omega (arith, length-take-le c.mounted c.log (from_le c.mounted c.marks (length c.log) h.lawful.ascend), from_le c.mounted c.marks (length c.log) h.lawful.ascend, h.lawful.events) in
    let mount = run_events (take c.mounted c.log) (begun c.geometry) refl (lawful_taken c.log c.mounted h.lawful.log.lawful) (take_events c.geometry.n c.mounted c.log h.lawful.log.events) few in
    let ready : Before c.log c.mounted c.cmds c.replies mount.to = record {
      came = mount.log;
      lawful = h.lawful.log.lawful;
      of = subst (λ g. AreEventsOf g.n c.log) (sym mount.geometry) h.lawful.log.events;
      few = h.lawful.events;
      commands = h.lawful.cmds;
      answers = h.lawful.replies;
      may = subst (λ k. MayReplyEach k.session k.stopped c.cmds c.replies) (sym mount.kept) h.replies;
    } in
    let served = run_entries c.log c.mounted c.cmds c.replies c.marks mount.to ready (ap is_between mount.place) h.lawful.ascend in
    let over : State = record served.to { place = Ended } in
    let ends : EndsBy served.to (codes "end") over = record { place = served.between; written = refl; is = refl {a = over} } in
    record {
      to = over;
      come = (begun c.geometry, (h.fits, refl, refl), come_join (event_parts (take c.mounted c.log)) (entries_parts c.log c.mounted c.cmds c.replies c.marks ++ codes "end" ∷ []) (Some (begun c.geometry)) (Some mount.to) (Some over) mount.come (come_join (entries_parts c.log c.mounted c.cmds c.replies c.marks) (codes "end" ∷ []) (Some mount.to) (Some served.to) (Some over) served.come (over, inr (inr (inr ends)), refl {a = Some over})));
      ended = refl;
    }
