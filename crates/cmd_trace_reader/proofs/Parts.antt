-- The lines of a trace as a list, without their line feeds.
use Rattle.std.proofs.Common.{◌≡◌, sym, ap, ap₂, refl, ◌∙◌, arith, ℕ, ◌-◌, ◌<◌, ◌≤◌, ◌^◌, true, List, [], ◌∷◌, ◌++◌, length, take, drop, codes, decimal, append_assoc}
use Rattle.std.proofs.lemmas.List.{append-nil}
use Rattle.hex.specs.Hex.{encode_lower}
use Rattle.base_types.specs.declared.layout.Layout.{Layout}
use Rattle.base_types.specs.declared.layout.Layout.TheVariants.{One, Two}
use Rattle.layout_geometry.specs.Geometry.{Geometry, IsGeometry}
use Rattle.disk_contract.specs.declared.event.Event.{Event}
use Rattle.disk_contract.specs.declared.event.Event.TheVariants.{Wrote, Lost, Noticed}
use Rattle.disk_contract.specs.Lawful.{IsEventOf, AreEventsOf}
use Rattle.lang_tree.specs.declared.command.Cmd.{Cmd}
use Rattle.lang_tree.specs.declared.command.Reply.{Reply}
use Rattle.lang_script.specs.Text.{command_text, text_of_reply}
use Rattle.lang_script.specs.Values.{IsCommand, IsReply, has_no_feed}
use Rattle.cmd_trace.specs.Line.{geometry_line, layout_mark, event_line, event_lines, command_line, reply_line, end_line}
use Rattle.cmd_trace.specs.Trace.{between, entry, entries, Ascend}
use Rattle.cmd_trace.specs.Contents.{Contents, Each, AreLawful, text_of}
use Rattle.cmd_trace.specs.ReadsAs.{fed}
use Rattle.cmd_trace.specs.Shared.{each_append, drop_events, take_events, from_le}
use Rattle.cmd_trace_reader.specs.Traces.{is_line, AreLines, text_of_lines}
use Rattle.cmd_trace_reader.proofs.LineTexts.{text_join, line_join, number_line, text_line, block_line}

-- ---- the lines

abbrev pub event_part : Event → List ℕ
event_part (Wrote ticket block bytes) = codes "w " ++ decimal ticket ++ codes " " ++ decimal block ++ codes " " ++ encode_lower bytes
event_part (Lost block bytes) = codes "f " ++ decimal block ++ codes " " ++ encode_lower bytes
event_part (Noticed ticket) = codes "d " ++ decimal ticket

abbrev pub event_parts : List Event → List (List ℕ)
event_parts [] = []
event_parts (event ∷ events) = event_part event ∷ event_parts events

abbrev pub geometry_part : Geometry → List ℕ
geometry_part g = codes "g " ++ decimal g.n ++ codes " " ++ decimal g.j ++ codes " " ++ decimal g.i ++ layout_mark g.layout

abbrev pub command_part : Cmd → List ℕ
command_part cmd = codes "c " ++ command_text cmd

abbrev pub reply_part : ℕ → Reply → List ℕ
reply_part mark reply = codes "r " ++ decimal mark ++ codes " " ++ text_of_reply reply

abbrev pub entry_parts : List Event → Cmd → Reply → ℕ → List (List ℕ)
entry_parts events cmd reply mark = command_part cmd ∷ (event_parts events ++ reply_part mark reply ∷ [])

abbrev pub entries_parts : List Event → ℕ → List Cmd → List Reply → List ℕ → List (List ℕ)
entries_parts log before [] replies marks = []
entries_parts log before (cmd ∷ cmds) [] marks = []
entries_parts log before (cmd ∷ cmds) (reply ∷ replies) [] = []
entries_parts log before (cmd ∷ cmds) (reply ∷ replies) (mark ∷ marks) = entry_parts (between before mark log) cmd reply mark ++ entries_parts log mark cmds replies marks

abbrev pub trace_parts : Contents → List (List ℕ)
trace_parts c = geometry_part c.geometry ∷ (event_parts (take c.mounted c.log) ++ (entries_parts c.log c.mounted c.cmds c.replies c.marks ++ codes "end" ∷ []))

-- ---- their text

pub event_fed : (e : Event) → event_line e ≡ fed (event_part e)
event_fed (Wrote ticket block bytes) = refl
event_fed other = refl

events_text : (events : List Event) → text_of_lines (event_parts events) ≡ event_lines events
events_text [] = refl
events_text (event ∷ events) = ap₂ (λ l r. l ++ r) (sym (event_fed event)) (events_text events)

entry_text : (events : List Event) (cmd : Cmd) (reply : Reply) (mark : ℕ) → text_of_lines (entry_parts events cmd reply mark) ≡ entry events cmd reply mark
entry_text events cmd reply mark =
    ap (λ r. command_line (command_text cmd) ++ r) (text_join (event_parts events) (reply_part mark reply ∷ [])
    ∙ ap₂ (λ l r. l ++ r) (events_text events) (append-nil (reply_line mark (text_of_reply reply))))
    ∙ sym (append_assoc (command_line (command_text cmd)) (event_lines events) (reply_line mark (text_of_reply reply)))

entries_text : (log : List Event) (before : ℕ) (cmds : List Cmd) (replies : List Reply) (marks : List ℕ)
    → text_of_lines (entries_parts log before cmds replies marks) ≡ entries log before cmds replies marks
entries_text log before (cmd ∷ cmds) (reply ∷ replies) (mark ∷ marks) =
    text_join (entry_parts (between before mark log) cmd reply mark) (entries_parts log mark cmds replies marks)
    ∙ ap₂ (λ l r. l ++ r) (entry_text (between before mark log) cmd reply mark) (entries_text log mark cmds replies marks)
entries_text log before other replies marks = refl

pub trace_text_is : (c : Contents) → text_of_lines (trace_parts c) ≡ text_of c
trace_text_is c =
    ap (λ r. geometry_line c.geometry ++ r) (text_join (event_parts (take c.mounted c.log)) (entries_parts c.log c.mounted c.cmds c.replies c.marks ++ codes "end" ∷ [])
    ∙ ap₂ (λ l r. l ++ r) (events_text (take c.mounted c.log)) (text_join (entries_parts c.log c.mounted c.cmds c.replies c.marks) (codes "end" ∷ [])
    ∙ ap (λ l. l ++ end_line) (entries_text c.log c.mounted c.cmds c.replies c.marks)))
    ∙ sym (append_assoc (geometry_line c.geometry ++ event_lines (take c.mounted c.log)) (entries c.log c.mounted c.cmds c.replies c.marks) end_line
    ∙ append_assoc (geometry_line c.geometry) (event_lines (take c.mounted c.log)) (entries c.log c.mounted c.cmds c.replies c.marks ++ end_line))

-- ---- none of them has a line feed

-- that no text of a command or a reply has one, as the law says it
pub record NoFeed : Type 0 where
  pub command_line : (cmd : Cmd) → IsCommand cmd → has_no_feed (command_text cmd) ≡ true
  pub reply_line : (reply : Reply) → IsReply reply → has_no_feed (text_of_reply reply) ≡ true

two : (w a : List ℕ) → is_line w ≡ true → is_line a ≡ true → is_line (w ++ codes " " ++ a) ≡ true
two w a h k = line_join (w ++ codes " ") a (line_join w (codes " ") h refl) k

event_one : (n : ℕ) (e : Event) → n ≤ 1048576 → IsEventOf n e → is_line (event_part e) ≡ true
event_one n (Wrote ticket block bytes) small h =
    two (codes "w " ++ decimal ticket ++ codes " " ++ decimal block) (encode_lower bytes)
    (two (codes "w " ++ decimal ticket) (decimal block) (line_join (codes "w ") (decimal ticket) refl (number_line ticket h.0)) (number_line block (omega (arith, h.1, small)))) (block_line bytes h.2)
event_one n (Lost block bytes) small h =
    two (codes "f " ++ decimal block) (encode_lower bytes) (line_join (codes "f ") (decimal block) refl (number_line block (omega (arith, h.0, small)))) (block_line bytes h.1)
event_one n (Noticed ticket) small h = line_join (codes "d ") (decimal ticket) refl (number_line ticket h)

events_ones : (n : ℕ) (events : List Event) → n ≤ 1048576 → AreEventsOf n events → AreLines (event_parts events)
events_ones n [] small h = tt
events_ones n (e ∷ events) small h = (event_one n e small h.0, events_ones n events small h.1)

reply_one : NoFeed → (mark : ℕ) (reply : Reply) → mark < 2 ^ 64 → IsReply reply → is_line (reply_part mark reply) ≡ true
reply_one l mark reply low h =
    two (codes "r " ++ decimal mark) (text_of_reply reply) (line_join (codes "r ") (decimal mark) refl (number_line mark low)) (text_line (text_of_reply reply) (l.reply_line reply h))

entries_ones : NoFeed → (n : ℕ) (log : List Event) (before : ℕ) (cmds : List Cmd) (replies : List Reply) (marks : List ℕ) → n ≤ 1048576 → AreEventsOf n log → length log < 2 ^ 64
    → Each IsCommand cmds → Each IsReply replies → Ascend before marks (length log) → AreLines (entries_parts log before cmds replies marks)
entries_ones l n log before (cmd ∷ cmds) (reply ∷ replies) (mark ∷ marks) small events few c r a =
    (line_join (codes "c ") (command_text cmd) refl (text_line (command_text cmd) (l.command_line cmd c.0)), each_append (λ line. is_line line ≡ true) (event_parts (between before mark log) ++ reply_part mark reply ∷ []) (entries_parts log mark cmds replies marks) (each_append (λ line. is_line line ≡ true) (event_parts (between before mark log)) (reply_part mark reply ∷ []) (events_ones n (between before mark log) small (take_events n (mark - before) (drop before log) (drop_events n before log events))) (reply_one l mark reply (omega (arith, few, from_le mark marks (length log) a.1)) r.0, tt)) (entries_ones l n log mark cmds replies marks small events few c.1 r.1 a.1))
entries_ones l n log before other replies marks small events few c r a = tt

mark_line : (l : Layout) → is_line (layout_mark l) ≡ true
mark_line One = refl
mark_line Two = refl

geometry_one : (g : Geometry) → IsGeometry g → is_line (geometry_part g) ≡ true
geometry_one g size =
    line_join (codes "g " ++ decimal g.n ++ codes " " ++ decimal g.j ++ codes " " ++ decimal g.i) (layout_mark g.layout)
    (two (codes "g " ++ decimal g.n ++ codes " " ++ decimal g.j) (decimal g.i)
    (two (codes "g " ++ decimal g.n) (decimal g.j) (line_join (codes "g ") (decimal g.n) refl (number_line g.n (omega (arith, size.most_blocks)))) (number_line g.j (omega (arith, size.most_journal))))
    (number_line g.i (omega (arith, size.most_nodes))))
    (mark_line g.layout)

pub trace_lines : NoFeed → (c : Contents) → IsGeometry c.geometry → AreLawful c → AreLines (trace_parts c)
trace_lines l c size h =
    (geometry_one c.geometry size, each_append (λ line. is_line line ≡ true) (event_parts (take c.mounted c.log)) (entries_parts c.log c.mounted c.cmds c.replies c.marks ++ codes "end" ∷ []) (events_ones c.geometry.n (take c.mounted c.log) size.most_blocks (take_events c.geometry.n c.mounted c.log h.log.events)) (each_append (λ line. is_line line ≡ true) (entries_parts c.log c.mounted c.cmds c.replies c.marks) (codes "end" ∷ []) (entries_ones l c.geometry.n c.log c.mounted c.cmds c.replies c.marks size.most_blocks h.log.events h.events h.cmds h.replies h.ascend) (refl, tt)))
