-- The text of a trace has one contents.
use Rattle.std.proofs.Common.{◌≡◌, sym, ap, ap₂, refl, ◌∙◌, arith, subst, ℕ, ◌+◌, ◌-◌, ◌<◌, ◌≤◌, ◌^◌, ◌==◌, ◌||◌, Bool, true, List, [], ◌∷◌, ◌++◌, take, drop, get_or, length, decimal, codes, append_assoc, append-nil, take-append-drop}
use Rattle.std.proofs.lemmas.Bool.{or_parts, false≢true}
use Rattle.std.proofs.lemmas.List.{length-take-le, drop_all}
use Rattle.std.proofs.Math.Seq.{drop-drop}
use Rattle.base_types.specs.declared.layout.Layout.{Layout}
use Rattle.base_types.specs.declared.layout.Layout.TheVariants.{One, Two}
use Rattle.layout_geometry.specs.Geometry.{Geometry}
use Rattle.disk_contract.specs.declared.event.Event.{Event}
use Rattle.disk_contract.specs.Lawful.{AreEventsOf}
use Rattle.lang_tree.specs.declared.command.Cmd.{Cmd}
use Rattle.lang_tree.specs.declared.command.Reply.{Reply}
use Rattle.lang_script.specs.Text.{command_text, text_of_reply}
use Rattle.lang_script.specs.Values.{IsCommand, IsReply, has_no_feed}
use Rattle.cmd_trace.specs.Shared.{drop_events, take_events, from_le}
use Rattle.cmd_trace.specs.Line.{geometry_line, layout_mark, event_lines, command_line, reply_line, end_line}
use Rattle.cmd_trace.specs.Trace.{between, entry, entries, Ascend}
use Rattle.cmd_trace.specs.Contents.{Contents, Each, AreLawful, front_of, text_of}
use Rattle.cmd_trace.proofs.Cuts.{part_cut, number_cut, Low, line_of_one, line_of_two, BeginsNot, is_event_byte, events_cut}

-- what is known of texts of commands and replies
pub record OneValue : Type 0 where
  pub command : (cmd other : Cmd) → IsCommand cmd → IsCommand other → command_text cmd ≡ command_text other → cmd ≡ other
  pub reply : (reply other : Reply) → IsReply reply → IsReply other → text_of_reply reply ≡ text_of_reply other → reply ≡ other
  pub command_line : (cmd : Cmd) → IsCommand cmd → has_no_feed (command_text cmd) ≡ true
  pub reply_line : (reply : Reply) → IsReply reply → has_no_feed (text_of_reply reply) ≡ true

-- Parts of a log.

-- the events from one mark on are those up to the next one and those from there on
from_mark : (before mark : ℕ) (log : List Event) → before ≤ mark → drop before log ≡ between before mark log ++ drop mark log
from_mark before mark log up =
    sym (take-append-drop (mark - before) (drop before log))
    ∙ ap (λ l. take (mark - before) (drop before log) ++ l) (drop-drop (mark - before) before log ∙ ap (λ k. drop k log) there)
  where
    there : before + (mark - before) ≡ mark
    there = omega (arith, up)

-- One entry behind the other.

abbrev is_entry_byte : ℕ → Bool
is_entry_byte b = (b == 99) || is_event_byte b

no_event_byte : (r : List ℕ) → BeginsNot is_entry_byte r → BeginsNot is_event_byte r
no_event_byte [] h = tt
no_event_byte (b ∷ r) h = (or_parts (b == 99) (is_event_byte b) h).1

-- what two texts of entries have in common
record Same (log more : List Event) (before earlier : ℕ) (cmds asked : List Cmd) (replies answered : List Reply) (marks moments : List ℕ) (r s : List ℕ) : Type 0 where
  cmds_are : cmds ≡ asked
  replies_are : replies ≡ answered
  marks_are : marks ≡ moments
  events_are : drop before log ≡ drop earlier more
  rest_is : r ≡ s

reply_cut : (v : OneValue) (mark moment : ℕ) (reply other : Reply) (r s : List ℕ) → mark < 2 ^ 64 → moment < 2 ^ 64 → IsReply reply → IsReply other
    → reply_line mark (text_of_reply reply) ++ r ≡ reply_line moment (text_of_reply other) ++ s → (mark ≡ moment) × (reply ≡ other) × (r ≡ s)
reply_cut v mark moment reply other r s big large h k e =
    let whole = sym (line_of_two (codes "r ") (decimal mark) (text_of_reply reply) r) ∙ e ∙ line_of_two (codes "r ") (decimal moment) (text_of_reply other) s in
    let one = number_cut mark moment (32 ∷ (text_of_reply reply ++ 10 ∷ r)) (32 ∷ (text_of_reply other ++ 10 ∷ s)) big large (omega arith) (omega arith) (ap (drop 2) whole) in
    let two = part_cut 10 (text_of_reply reply) (text_of_reply other) (10 ∷ r) (10 ∷ s) (v.reply_line reply h) (v.reply_line other k) (omega arith) (omega arith) (ap (drop 1) one.1) in
    (one.0, v.reply reply other h k two.0, ap (drop 1) two.1)

command_cut : (v : OneValue) (cmd other : Cmd) (r s : List ℕ) → IsCommand cmd → IsCommand other
    → command_line (command_text cmd) ++ r ≡ command_line (command_text other) ++ s → (cmd ≡ other) × (r ≡ s)
command_cut v cmd other r s h k e =
    let whole = sym (line_of_one (codes "c ") (command_text cmd) r) ∙ e ∙ line_of_one (codes "c ") (command_text other) s in
    let one = part_cut 10 (command_text cmd) (command_text other) (10 ∷ r) (10 ∷ s) (v.command_line cmd h) (v.command_line other k) (omega arith) (omega arith) (ap (drop 2) whole) in
    (v.command cmd other h k one.0, ap (drop 1) one.1)

grouped : (a b c d r : List ℕ) → ((a ++ b ++ c) ++ d) ++ r ≡ a ++ (b ++ (c ++ (d ++ r)))
grouped a b c d r = simp append_assoc

-- an entry, and what is behind it, grouped from the right
entry_text : (events : List Event) (cmd : Cmd) (reply : Reply) (mark : ℕ) (later r : List ℕ)
    → (entry events cmd reply mark ++ later) ++ r ≡ command_line (command_text cmd) ++ (event_lines events ++ (reply_line mark (text_of_reply reply) ++ (later ++ r)))
entry_text events cmd reply mark later r = grouped (command_line (command_text cmd)) (event_lines events) (reply_line mark (text_of_reply reply)) later r

entries_cut : (v : OneValue) (m n : ℕ) (log more : List Event) (before earlier : ℕ) (cmds asked : List Cmd) (replies answered : List Reply) (marks moments : List ℕ) (r s : List ℕ)
    → m < 2 ^ 64 → n < 2 ^ 64 → AreEventsOf m log → AreEventsOf n more → length log < 2 ^ 64 → length more < 2 ^ 64
    → Each IsCommand cmds → Each IsCommand asked → Each IsReply replies → Each IsReply answered
    → length cmds ≡ length replies → length asked ≡ length answered → length marks ≡ length replies → length moments ≡ length answered
    → Ascend before marks (length log) → Ascend earlier moments (length more)
    → BeginsNot is_entry_byte r → BeginsNot is_entry_byte s
    → entries log before cmds replies marks ++ r ≡ entries more earlier asked answered moments ++ s
    → Same log more before earlier cmds asked replies answered marks moments r s
entries_cut v m n log more before earlier [] [] [] [] [] [] r s big large h k few less c d p q lc ld lm ln a b stop halt e = record {
  cmds_are = refl;
  replies_are = refl;
  marks_are = refl;
  events_are = drop_all before log (omega (arith, a)) ∙ sym (drop_all earlier more (omega (arith, b)));
  rest_is = e;
}
entries_cut v m n log more before earlier [] (other ∷ asked) [] (answer ∷ answered) [] (moment ∷ moments) r s big large h k few less c d p q lc ld lm ln a b stop halt e =
    absurd (false≢true (sym (subst (BeginsNot is_entry_byte) (e ∙ entry_text (between earlier moment more) other answer moment (entries more moment asked answered moments) s) stop) ∙ refl))
entries_cut v m n log more before earlier (cmd ∷ cmds) [] (reply ∷ replies) [] (mark ∷ marks) [] r s big large h k few less c d p q lc ld lm ln a b stop halt e =
    absurd (false≢true (sym (subst (BeginsNot is_entry_byte) (sym e ∙ entry_text (between before mark log) cmd reply mark (entries log mark cmds replies marks) r) halt) ∙ refl))
entries_cut v m n log more before earlier (cmd ∷ cmds) (other ∷ asked) (reply ∷ replies) (answer ∷ answered) (mark ∷ marks) (moment ∷ moments) r s big large h k few less c d p q lc ld lm ln a b stop halt e =
    let mine = entries log mark cmds replies marks in
    let theirs = entries more moment asked answered moments in
    let whole = sym (entry_text (between before mark log) cmd reply mark mine r) ∙ e ∙ entry_text (between earlier moment more) other answer moment theirs s in
    let one = command_cut v cmd other _ _ c.0 d.0 whole in
    let two = events_cut m n (between before mark log) (between earlier moment more) (reply_line mark (text_of_reply reply) ++ (mine ++ r)) (reply_line moment (text_of_reply answer) ++ (theirs ++ s))
    big large (take_events m (mark - before) (drop before log) (drop_events m before log h)) (take_events n (moment - earlier) (drop earlier more) (drop_events n earlier more k)) refl refl one.1 in
    let reply_is = reply_cut v mark moment reply answer (mine ++ r) (theirs ++ s)
    (omega (arith, few, from_le mark marks (length log) a.1)) (omega (arith, less, from_le moment moments (length more) b.1)) p.0 q.0 two.1 in
    let rest = entries_cut v m n log more mark moment cmds asked replies answered marks moments r s big large h k few less c.1 d.1 p.1 q.1
    (omega (arith, lc)) (omega (arith, ld)) (omega (arith, lm)) (omega (arith, ln)) a.1 b.1 stop halt reply_is.2 in
    record {
      cmds_are = rw (one.0, rest.cmds_are) refl;
      replies_are = rw (reply_is.1, rest.replies_are) refl;
      marks_are = rw (reply_is.0, rest.marks_are) refl;
      events_are = from_mark before mark log a.0 ∙ rw (two.0, rest.events_are) refl ∙ sym (from_mark earlier moment more b.0);
      rest_is = rest.rest_is;
    }
entries_cut v m n log more before earlier cmds asked replies answered marks moments r s big large h k few less c d p q lc ld lm ln a b stop halt e = absurd (omega (arith, lc, ld, lm, ln))

-- The whole text.

entries_stop : (log : List Event) (before : ℕ) (cmds : List Cmd) (replies : List Reply) (marks : List ℕ) (r : List ℕ) → BeginsNot is_event_byte r
    → BeginsNot is_event_byte (entries log before cmds replies marks ++ r)
entries_stop log before (cmd ∷ cmds) (reply ∷ replies) (mark ∷ marks) r h = refl
entries_stop log before other replies marks r h = h

-- one layout is named so
mark_cut : (l k : Layout) (r s : List ℕ) → layout_mark l ++ 10 ∷ r ≡ layout_mark k ++ 10 ∷ s → (l ≡ k) × (r ≡ s)
mark_cut One One r s e = (refl, ap (drop 1) e)
mark_cut Two Two r s e = (refl, ap (drop 3) e)
mark_cut One Two r s e = absurd (omega (arith, ap (λ l. get_or l 0 0) e))
mark_cut Two One r s e = absurd (omega (arith, ap (λ l. get_or l 0 0) e))

mark_low : (l : Layout) (r : List ℕ) → Low 32 (layout_mark l ++ 10 ∷ r)
mark_low One r = omega arith
mark_low Two r = omega arith

first_line : (w a b c d r : List ℕ) → (w ++ a ++ codes " " ++ b ++ codes " " ++ c ++ d ++ codes "\n") ++ r ≡ w ++ (a ++ 32 ∷ (b ++ 32 ∷ (c ++ (d ++ 10 ∷ r))))
first_line w a b c d r = simp append_assoc

geometry_cut : (g k : Geometry) (r s : List ℕ) → g.n < 2 ^ 64 → g.j < 2 ^ 64 → g.i < 2 ^ 64 → k.n < 2 ^ 64 → k.j < 2 ^ 64 → k.i < 2 ^ 64
    → geometry_line g ++ r ≡ geometry_line k ++ s → (g ≡ k) × (r ≡ s)
geometry_cut g k r s gn gj gi kn kj ki e =
    let mine = layout_mark g.layout ++ 10 ∷ r in
    let theirs = layout_mark k.layout ++ 10 ∷ s in
    let whole = sym (first_line (codes "g ") (decimal g.n) (decimal g.j) (decimal g.i) (layout_mark g.layout) r) ∙ e
    ∙ first_line (codes "g ") (decimal k.n) (decimal k.j) (decimal k.i) (layout_mark k.layout) s in
    let one = number_cut g.n k.n (32 ∷ (decimal g.j ++ 32 ∷ (decimal g.i ++ mine))) (32 ∷ (decimal k.j ++ 32 ∷ (decimal k.i ++ theirs))) gn kn (omega arith) (omega arith) (ap (drop 2) whole) in
    let two = number_cut g.j k.j (32 ∷ (decimal g.i ++ mine)) (32 ∷ (decimal k.i ++ theirs)) gj kj (omega arith) (omega arith) (ap (drop 1) one.1) in
    let last = number_cut g.i k.i mine theirs gi ki (mark_low g.layout r) (mark_low k.layout s) (ap (drop 1) two.1) in
    let ends = mark_cut g.layout k.layout r s last.1 in
    (rw (one.0, two.0, last.0, ends.0) refl, ends.1)

front_text : (c : Contents) (r : List ℕ) → front_of c ++ r ≡ geometry_line c.geometry ++ (event_lines (take c.mounted c.log) ++ (entries c.log c.mounted c.cmds c.replies c.marks ++ r))
front_text c r = simp append_assoc

-- a mount has as many events as the log has up to there
mounts : (c d : Contents) → AreLawful c → AreLawful d → take c.mounted c.log ≡ take d.mounted d.log → c.mounted ≡ d.mounted
mounts c d h k e =
    let mine = length-take-le c.mounted c.log (from_le c.mounted c.marks (length c.log) h.ascend) in
    let theirs = length-take-le d.mounted d.log (from_le d.mounted d.marks (length d.log) k.ascend) in
    omega (arith, mine, theirs, ap length e)

all_same : (c d : Contents) → c.geometry ≡ d.geometry → c.log ≡ d.log → c.mounted ≡ d.mounted → c.cmds ≡ d.cmds → c.replies ≡ d.replies → c.marks ≡ d.marks → c ≡ d
all_same c d g l m a b k = rw (g, l, m, a, b, k) refl

front_cut : (v : OneValue) (c d : Contents) (r s : List ℕ) → AreLawful c → AreLawful d → BeginsNot is_entry_byte r → BeginsNot is_entry_byte s
    → front_of c ++ r ≡ front_of d ++ s → (c ≡ d) × (r ≡ s)
front_cut v c d r s h k stop halt e =
    let whole = sym (front_text c r) ∙ e ∙ front_text d s in
    let one = geometry_cut c.geometry d.geometry _ _ h.blocks h.journal h.nodes k.blocks k.journal k.nodes whole in
    let two = events_cut c.geometry.n d.geometry.n (take c.mounted c.log) (take d.mounted d.log) _ _ h.blocks k.blocks
    (take_events c.geometry.n c.mounted c.log h.log.events) (take_events d.geometry.n d.mounted d.log k.log.events)
    (entries_stop c.log c.mounted c.cmds c.replies c.marks r (no_event_byte r stop)) (entries_stop d.log d.mounted d.cmds d.replies d.marks s (no_event_byte s halt)) one.1 in
    let same = entries_cut v c.geometry.n d.geometry.n c.log d.log c.mounted d.mounted c.cmds d.cmds c.replies d.replies c.marks d.marks r s
    h.blocks k.blocks h.log.events k.log.events h.events k.events h.cmds k.cmds h.replies k.replies h.each_answered k.each_answered h.each_marked k.each_marked
    h.ascend k.ascend stop halt two.1 in
    let log : c.log ≡ d.log = sym (take-append-drop c.mounted c.log) ∙ ap₂ (λ x y. x ++ y) two.0 same.events_are ∙ take-append-drop d.mounted d.log in
    (all_same c d one.0 log (mounts c d h k two.0) same.cmds_are same.replies_are same.marks_are, same.rest_is)

pub one_front : OneValue → (c d : Contents) → AreLawful c → AreLawful d → front_of c ≡ front_of d → c ≡ d
one_front v c d h k e = (front_cut v c d [] [] h k tt tt (append-nil (front_of c) ∙ e ∙ sym (append-nil (front_of d)))).0

pub one_text : OneValue → (c d : Contents) → AreLawful c → AreLawful d → text_of c ≡ text_of d → c ≡ d
one_text v c d h k e = (front_cut v c d end_line end_line h k refl refl e).0
