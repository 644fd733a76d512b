-- What was read so far is a trace but for its end: what is kept of each state, and why each line keeps it.
use Rattle.std.proofs.Common.{◌≡◌, sym, ap, ap₂, refl, ◌∙◌, subst, arith, ℕ, ◌+◌, ◌-◌, ◌<◌, ◌≤◌, ◌^◌, true, false, inl, inr, List, [], ◌∷◌, ◌++◌, length, take, drop, append_assoc, Some, None}
use Rattle.std.proofs.lemmas.Bool.{false≢true}
use Rattle.std.proofs.lemmas.List.{append-nil, take-append-le, drop-append-le, length-drop, length-append, take_all, drop_all}
use Rattle.layout_geometry.specs.Geometry.{Geometry, geometry_fits}
use Rattle.disk_contract.specs.declared.event.Event.{Event}
use Rattle.disk_contract.specs.Lawful.{MayCome, AreLawfulAfter, IsEventOf, AreEventsOf, IsLogOf}
use Rattle.crash_stands.specs.Bounds.{bounds_of}
use Rattle.lang_tree.specs.declared.command.Cmd.{Cmd}
use Rattle.lang_tree.specs.declared.command.Reply.{Reply}
use Rattle.lang_tree.specs.Step.{start}
use Rattle.lang_script.specs.Text.{command_text, text_of_reply}
use Rattle.lang_script.specs.Values.{IsCommand, IsReply}
use Rattle.cmd_trace.specs.Line.{geometry_line, event_line, event_lines, command_line, reply_line, end_line}
use Rattle.cmd_trace.specs.Trace.{between, entry, entries, Ascend}
use Rattle.cmd_trace.specs.Contents.{Each, front_of}
use Rattle.cmd_trace.specs.ReadsAs.{fed}
use Rattle.cmd_trace_reader.specs.Replies.{MayReply, after}
use Rattle.cmd_trace_reader.specs.Events.{IsNext}
use Rattle.cmd_trace_reader.specs.Traces.{MayReplyEach, text_of_lines}
use Rattle.cmd_trace_reader.specs.declared.reader.Place.{Place}
use Rattle.cmd_trace_reader.specs.declared.reader.Place.TheVariants.{Mounting, Asked, Answered, Ended}
use Rattle.cmd_trace_reader.specs.Reading.{State, begun, Begins, HappensBy, AsksBy, AnswersBy, EndsBy, Follows, ComeEach, contents_of, has_events, is_between, mounted_by}
use Rattle.cmd_trace_reader.proofs.Texts.{last_mark, Within, within_low, entries_more, entries_push, lines_push}
use Rattle.cmd_trace_reader.proofs.LineTexts.{each_push}

-- ---- one more of each

lawful_push : (before log : List Event) (e : Event) → AreLawfulAfter before log → MayCome (before ++ log) e → AreLawfulAfter before (log ++ e ∷ [])
lawful_push before [] e h may = (subst (λ (l : List Event). MayCome l e) (append-nil before) may, tt)
lawful_push before (x ∷ log) e h may = (h.0, lawful_push (before ++ x ∷ []) log e h.1 (subst (λ (l : List Event). MayCome l e) (sym (append_assoc before (x ∷ []) log)) may))

events_push : (n : ℕ) (log : List Event) (e : Event) → AreEventsOf n log → IsEventOf n e → AreEventsOf n (log ++ e ∷ [])
events_push n [] e h k = (k, tt)
events_push n (x ∷ log) e h k = (h.0, events_push n log e h.1 k)

log_push : (n : ℕ) (log : List Event) (e : Event) → IsLogOf n log → IsNext n log e → IsLogOf n (log ++ e ∷ [])
log_push n log e h k = record { lawful = lawful_push [] log e h.lawful k.comes; events = events_push n log e h.events k.of }

last_within : (from : ℕ) (marks : List ℕ) (n : ℕ) → Within from marks n → last_mark from marks ≤ n
last_within from [] n h = h
last_within from (mark ∷ marks) n h = last_within mark marks n h.1

within_more : (from : ℕ) (marks : List ℕ) (n m : ℕ) → n ≤ m → Within from marks n → Within from marks m
within_more from [] n m low h = omega (arith, low, h)
within_more from (mark ∷ marks) n m low h = (h.0, within_more mark marks n m low h.1)

within_push : (from : ℕ) (marks : List ℕ) (n : ℕ) → Within from marks n → Within from (marks ++ n ∷ []) n
within_push from [] n h = (h, omega arith)
within_push from (mark ∷ marks) n h = (h.0, within_push mark marks n h.1)

last_push : (from : ℕ) (marks : List ℕ) (n : ℕ) → last_mark from (marks ++ n ∷ []) ≡ n
last_push from [] n = refl
last_push from (mark ∷ marks) n = last_push mark marks n

pub ascend : (from : ℕ) (marks : List ℕ) (n : ℕ) → Within from marks n → last_mark from marks ≡ n → Ascend from marks n
ascend from [] n h e = e
ascend from (mark ∷ marks) n h e = (h.0, ascend mark marks n h.1 e)

push_length : {A : Type 0} (xs : List A) (x : A) → length (xs ++ x ∷ []) ≡ length xs + 1
push_length xs x = length-append xs (x ∷ [])

-- ---- what is kept

-- what holds where the next line stands
abbrev pub StandsAt : Place → State → Type 0
StandsAt Mounting s = (s.cmds ≡ []) × (s.marks ≡ []) × (s.mounted ≡ length s.log)
StandsAt (Asked cmd) s = IsCommand cmd
StandsAt Answered s = last_mark s.mounted s.marks ≡ length s.log
StandsAt Ended s = last_mark s.mounted s.marks ≡ length s.log

-- the text behind the whole entries
abbrev pub pending : Place → State → List ℕ
pending Mounting s = []
pending (Asked cmd) s = command_line (command_text cmd) ++ event_lines (drop (last_mark s.mounted s.marks) s.log)
pending Answered s = []
pending Ended s = end_line

-- the replies so far may stand there, with any behind them that may stand behind the session
abbrev MayGoOn : State → Type 0
MayGoOn s = (more : List Cmd) (answers : List Reply) → MayReplyEach s.kept.session s.kept.stopped more answers
    → MayReplyEach (start (bounds_of s.geometry)) false (s.cmds ++ more) (s.replies ++ answers)

-- this text was read, and left this state
pub record Holds (s : State) (text : List ℕ) : Type 0 where
  pub fits : geometry_fits s.geometry ≡ true
  pub log : IsLogOf s.geometry.n s.log
  pub few : length s.log < 2 ^ 64
  pub cmds : Each IsCommand s.cmds
  pub replies : Each IsReply s.replies
  pub answered : length s.cmds ≡ length s.replies
  pub marked : length s.marks ≡ length s.replies
  pub within : Within s.mounted s.marks (length s.log)
  pub may : MayGoOn s
  pub stands : StandsAt s.place s
  pub read : text ≡ front_of (contents_of s) ++ pending s.place s

three_nothings : (xs : List ℕ) → xs ≡ ((xs ++ []) ++ []) ++ []
three_nothings xs = sym (append-nil ((xs ++ []) ++ []) ∙ append-nil (xs ++ []) ∙ append-nil xs)

pub begun_holds : (g : Geometry) → geometry_fits g ≡ true → Holds (begun g) (geometry_line g)
begun_holds g fits =
    let few : 0 < 2 ^ 64 = omega arith in
    let within : 0 ≤ 0 = omega arith in
    assumption (fits, few, within, three_nothings (geometry_line g), tt)

-- ---- an event

no_entries : (log : List Event) (from : ℕ) (cmds : List Cmd) (replies : List Reply) (marks : List ℕ) → cmds ≡ [] → entries log from cmds replies marks ≡ []
no_entries log from cmds replies marks e = ap (λ c. entries log from c replies marks) e

mount_text : (g : Geometry) (log : List Event) (mounted : ℕ) (cmds : List Cmd) (replies : List Reply) (marks : List ℕ) → cmds ≡ [] → mounted ≡ length log
    → (geometry_line g ++ event_lines (take mounted log) ++ entries log mounted cmds replies marks) ++ [] ≡ geometry_line g ++ event_lines log
mount_text g log mounted cmds replies marks none all =
    append-nil (geometry_line g ++ event_lines (take mounted log) ++ entries log mounted cmds replies marks)
    ∙ ap (λ r. geometry_line g ++ event_lines (take mounted log) ++ r) (no_entries log mounted cmds replies marks none)
    ∙ append-nil (geometry_line g ++ event_lines (take mounted log))
    ∙ ap (λ l. geometry_line g ++ event_lines l) (take_all mounted log (omega (arith, all)))

mount_grows : (g : Geometry) (log : List Event) (e : Event) (mounted : ℕ) (cmds : List Cmd) (replies : List Reply) (marks : List ℕ) → cmds ≡ [] → mounted ≡ length log
    → ((geometry_line g ++ event_lines (take mounted log) ++ entries log mounted cmds replies marks) ++ []) ++ event_line e
    ≡ (geometry_line g ++ event_lines (take (length (log ++ e ∷ [])) (log ++ e ∷ [])) ++ entries (log ++ e ∷ []) (length (log ++ e ∷ [])) cmds replies marks) ++ []
mount_grows g log e mounted cmds replies marks none all =
    ap (λ t. t ++ event_line e) (mount_text g log mounted cmds replies marks none all)
    ∙ append_assoc (geometry_line g) (event_lines log) (event_line e)
    ∙ ap (λ t. geometry_line g ++ t) (sym (lines_push log e))
    ∙ sym (mount_text g (log ++ e ∷ []) (length (log ++ e ∷ [])) cmds replies marks none refl)

front_grows : (g : Geometry) (log : List Event) (e : Event) (mounted : ℕ) (cmds : List Cmd) (replies : List Reply) (marks : List ℕ) → Within mounted marks (length log)
    → geometry_line g ++ event_lines (take mounted log) ++ entries log mounted cmds replies marks
    ≡ geometry_line g ++ event_lines (take mounted (log ++ e ∷ [])) ++ entries (log ++ e ∷ []) mounted cmds replies marks
front_grows g log e mounted cmds replies marks h =
    ap₂ (λ l r. geometry_line g ++ event_lines l ++ r) (sym (take-append-le mounted log (e ∷ []) (within_low mounted marks (length log) h))) (sym (entries_more log (e ∷ []) mounted cmds replies marks h))

asked_grows : (log : List Event) (e : Event) (from : ℕ) (front cmd : List ℕ) → from ≤ length log
    → (front ++ (cmd ++ event_lines (drop from log))) ++ event_line e ≡ front ++ (cmd ++ event_lines (drop from (log ++ e ∷ [])))
asked_grows log e from front cmd low =
    append_assoc front (cmd ++ event_lines (drop from log)) (event_line e)
    ∙ ap (λ t. front ++ t) (append_assoc cmd (event_lines (drop from log)) (event_line e)
    ∙ ap (λ t. cmd ++ t) (sym (lines_push (drop from log) e) ∙ ap event_lines (sym (drop-append-le from log (e ∷ []) low))))

happens : (s : State) (p : Place) (e : Event) (text : List ℕ) → Holds (record s { place = p }) text → has_events p ≡ true → IsNext s.geometry.n s.log e → length (s.log ++ e ∷ []) < 2 ^ 64
    → Holds (record s { log = s.log ++ e ∷ []; mounted = mounted_by p s.mounted (length (s.log ++ e ∷ [])); place = p }) (text ++ event_line e)
happens s Mounting e text h here next few =
    let within : Within (length (s.log ++ e ∷ [])) s.marks (length (s.log ++ e ∷ [])) = subst (λ m. Within (length (s.log ++ e ∷ [])) m (length (s.log ++ e ∷ []))) (sym h.stands.1) (omega arith) in
    let read = ap (λ t. t ++ event_line e) h.read ∙ mount_grows s.geometry s.log e s.mounted s.cmds s.replies s.marks h.stands.0 h.stands.2 in
    assumption (log_push s.geometry.n s.log e h.log next)
happens s (Asked cmd) e text h here next few =
    let read = ap (λ t. t ++ event_line e) h.read
    ∙ asked_grows s.log e (last_mark s.mounted s.marks) (front_of (contents_of s)) (command_line (command_text cmd)) (last_within s.mounted s.marks (length s.log) h.within)
    ∙ ap (λ t. t ++ (command_line (command_text cmd) ++ event_lines (drop (last_mark s.mounted s.marks) (s.log ++ e ∷ [])))) (front_grows s.geometry s.log e s.mounted s.cmds s.replies s.marks h.within) in
    assumption (log_push s.geometry.n s.log e h.log next, within_more s.mounted s.marks (length s.log) (length (s.log ++ e ∷ [])) (omega (arith, push_length s.log e)) h.within)
happens s other e text h here next few = cc here

-- ---- between entries

pub at_last : (s : State) (p : Place) → is_between p ≡ true → StandsAt p s → last_mark s.mounted s.marks ≡ length s.log
at_last s Mounting here h = ap (last_mark s.mounted) h.1 ∙ h.2
at_last s Answered here h = h
at_last s other here h = absurd (false≢true here)

none_pending : (s : State) (p : Place) → is_between p ≡ true → pending p s ≡ []
none_pending s (Asked cmd) here = cc here
none_pending s Ended here = cc here
none_pending s other here = refl

pub between_text : (s : State) (text : List ℕ) → is_between s.place ≡ true → Holds s text → text ≡ front_of (contents_of s)
between_text s text here h = h.read ∙ ap (λ r. front_of (contents_of s) ++ r) (none_pending s s.place here) ∙ append-nil (front_of (contents_of s))

no_events : (log : List Event) (from : ℕ) (cmd : List ℕ) → from ≡ length log → cmd ≡ cmd ++ event_lines (drop from log)
no_events log from cmd all = sym (ap (λ l. cmd ++ event_lines l) (drop_all from log (omega (arith, all))) ∙ append-nil cmd)

asks : (s : State) (cmd : Cmd) (text : List ℕ) → Holds s text → is_between s.place ≡ true → IsCommand cmd → Holds (record s { place = Asked cmd }) (text ++ command_line (command_text cmd))
asks s cmd text h here lawful =
    assumption (ap₂ (λ t r. t ++ r) (between_text s text here h) (no_events s.log (last_mark s.mounted s.marks) (command_line (command_text cmd)) (at_last s s.place here h.stands)))

ends : (s : State) (text : List ℕ) → Holds s text → is_between s.place ≡ true → Holds (record s { place = Ended }) (text ++ end_line)
ends s text h here = assumption (at_last s s.place here h.stands, ap (λ t. t ++ end_line) (between_text s text here h))

-- ---- a reply

all_between : (log : List Event) (from : ℕ) → from ≤ length log → between from (length log) log ≡ drop from log
all_between log from low = take_all (length log - from) (drop from log) (omega (arith, low, length-drop from log))

entry_grows : (base more cmd events reply : List ℕ) → ((base ++ more) ++ (cmd ++ events)) ++ reply ≡ (base ++ (more ++ (cmd ++ events ++ reply))) ++ []
entry_grows base more cmd events reply =
    append_assoc (base ++ more) (cmd ++ events) reply
    ∙ append_assoc base more (cmd ++ events ++ reply)
    ∙ sym (append-nil (base ++ (more ++ (cmd ++ events ++ reply))))

replied : (s : State) (cmd : Cmd) (reply : Reply) → MayGoOn s → MayReply s.kept.session s.kept.stopped cmd reply
    → MayGoOn (record s { cmds = s.cmds ++ cmd ∷ []; replies = s.replies ++ reply ∷ []; marks = s.marks ++ length s.log ∷ []; kept = after s.kept cmd reply; place = Answered })
replied s cmd reply h may more answers rest =
    subst (λ c. MayReplyEach (start (bounds_of s.geometry)) false c ((s.replies ++ reply ∷ []) ++ answers)) (sym (append_assoc s.cmds (cmd ∷ []) more))
    (subst (MayReplyEach (start (bounds_of s.geometry)) false (s.cmds ++ cmd ∷ more)) (sym (append_assoc s.replies (reply ∷ []) answers)) (h (cmd ∷ more) (reply ∷ answers) (may, rest)))

reply_text : (s : State) (cmd : Cmd) (reply : Reply) (text : List ℕ) → Holds (record s { place = Asked cmd }) text
    → text ++ reply_line (length s.log) (text_of_reply reply)
    ≡ (geometry_line s.geometry ++ event_lines (take s.mounted s.log) ++ entries s.log s.mounted (s.cmds ++ cmd ∷ []) (s.replies ++ reply ∷ []) (s.marks ++ length s.log ∷ [])) ++ []
reply_text s cmd reply text h =
    ap (λ t. t ++ reply_line (length s.log) (text_of_reply reply)) h.read
    ∙ entry_grows (geometry_line s.geometry ++ event_lines (take s.mounted s.log)) (entries s.log s.mounted s.cmds s.replies s.marks) (command_line (command_text cmd))
    (event_lines (drop (last_mark s.mounted s.marks) s.log)) (reply_line (length s.log) (text_of_reply reply))
    ∙ ap (λ l. (geometry_line s.geometry ++ event_lines (take s.mounted s.log) ++ (entries s.log s.mounted s.cmds s.replies s.marks ++ entry l cmd reply (length s.log))) ++ [])
    (sym (all_between s.log (last_mark s.mounted s.marks) (last_within s.mounted s.marks (length s.log) h.within)))
    ∙ ap (λ t. (geometry_line s.geometry ++ event_lines (take s.mounted s.log) ++ t) ++ []) (sym (entries_push s.log s.mounted s.cmds s.replies s.marks cmd reply (length s.log) h.answered h.marked))

pub answers : (s : State) (cmd : Cmd) (reply : Reply) (text : List ℕ) → Holds (record s { place = Asked cmd }) text → MayReply s.kept.session s.kept.stopped cmd reply → IsReply reply
    → Holds (record s { cmds = s.cmds ++ cmd ∷ []; replies = s.replies ++ reply ∷ []; marks = s.marks ++ length s.log ∷ []; kept = after s.kept cmd reply; place = Answered })
    (text ++ reply_line (length s.log) (text_of_reply reply))
answers s cmd reply text h may lawful =
    let answered : length (s.cmds ++ cmd ∷ []) ≡ length (s.replies ++ reply ∷ []) = omega (arith, h.answered, push_length s.cmds cmd, push_length s.replies reply) in
    let marked : length (s.marks ++ length s.log ∷ []) ≡ length (s.replies ++ reply ∷ []) = omega (arith, h.marked, push_length s.marks (length s.log), push_length s.replies reply) in
    assumption (
      each_push IsCommand s.cmds cmd h.cmds h.stands,
      each_push IsReply s.replies reply h.replies lawful,
      within_push s.mounted s.marks (length s.log) h.within,
      replied s cmd reply h.may may,
      last_push s.mounted s.marks (length s.log),
      reply_text s cmd reply text h,
    )

-- ---- lines

happens_by : (s t : State) (line text : List ℕ) → Holds s text → HappensBy s line t → Holds t (text ++ fed line)
happens_by s t line text h k =
    subst (λ u. Holds u (text ++ fed line)) (sym k.is) (subst (λ r. Holds (record s { log = s.log ++ k.event ∷ []; mounted = mounted_by s.place s.mounted (length (s.log ++ k.event ∷ [])) }) (text ++ r)) k.written (happens s s.place k.event text h k.place k.next k.few))

asks_by : (s t : State) (line text : List ℕ) → Holds s text → AsksBy s line t → Holds t (text ++ fed line)
asks_by s t line text h k =
    subst (λ u. Holds u (text ++ fed line)) (sym k.is) (subst (λ r. Holds (record s { place = Asked k.cmd }) (text ++ r)) k.written (asks s k.cmd text h k.place k.lawful))

answers_by : (s t : State) (line text : List ℕ) → Holds s text → AnswersBy s line t → Holds t (text ++ fed line)
answers_by s t line text h k =
    subst (λ u. Holds u (text ++ fed line)) (sym k.is)
    (subst (λ r. Holds (record s { cmds = s.cmds ++ k.cmd ∷ []; replies = s.replies ++ k.reply ∷ []; marks = s.marks ++ length s.log ∷ []; kept = after s.kept k.cmd k.reply; place = Answered }) (text ++ r)) k.written (answers s k.cmd k.reply text (subst (λ p. Holds (record s { place = p }) text) k.place h) k.may k.lawful))

ends_by : (s t : State) (line text : List ℕ) → Holds s text → EndsBy s line t → Holds t (text ++ fed line)
ends_by s t line text h k =
    subst (λ u. Holds u (text ++ fed line)) (sym k.is) (subst (λ r. Holds (record s { place = Ended }) (text ++ r)) (sym k.written) (ends s text h k.place))

pub follows : (s t : State) (line text : List ℕ) → Holds s text → Follows s line t → Holds t (text ++ fed line)
follows s t line text h (inl k) = happens_by s t line text h k
follows s t line text h (inr (inl k)) = asks_by s t line text h k
follows s t line text h (inr (inr (inl k))) = answers_by s t line text h k
follows s t line text h (inr (inr (inr k))) = ends_by s t line text h k

some_is : (s t : State) → Some t ≡ Some s → s ≡ t
some_is s t e = cc e

pub come_behind : (lines : List (List ℕ)) (s t : State) (text : List ℕ) → Holds s text → ComeEach (Some s) lines (Some t) → Holds t (text ++ text_of_lines lines)
come_behind [] s t text h e = subst (Holds t) (sym (append-nil text)) (subst (λ u. Holds u text) (some_is s t e) h)
come_behind (line ∷ lines) s t text h k =
    subst (Holds t) (append_assoc text (fed line) (text_of_lines lines)) (come_behind lines k.0 t (text ++ fed line) (follows s k.0 line text h k.1) k.2)

pub first_holds : (line : List ℕ) (s : State) → Begins line (Some s) → Holds s (fed line)
first_holds line s h = subst (λ u. Holds u (fed line)) (sym h.2) (subst (Holds (begun s.geometry)) h.1 (begun_holds s.geometry h.0))

not_none : (t : State) → Some t ≡ None → ⊥
not_none t e = cc e

-- what was read from the first line on holds
pub come_all : (lines : List (List ℕ)) (t : State) → ComeEach None lines (Some t) → Holds t (text_of_lines lines)
come_all [] t e = absurd (not_none t e)
come_all (line ∷ lines) t k = come_behind lines k.0 t (fed line) (first_holds line k.0 k.1) k.2
