-- The writes at each moment: a front of a log has at most those of the whole.
use Rattle.std.proofs.Common.{◌≡◌, ℕ, zero, suc, ◌+◌, ◌≤◌, Bool, List, [], ◌∷◌, ◌++◌, length, take, take_all, drop, refl, sym, ◌∙◌, subst, arith}
use Rattle.std.proofs.lemmas.List.{append-nil, append_assoc, length-append}
use Rattle.disk_contract.specs.declared.event.Event.{Event}
use Rattle.disk_contract.specs.Disk.{Grows, writes_in}
use Rattle.layout_geometry.specs.Geometry.{Geometry, bitmap_blocks}
use Rattle.crash_stands.specs.Bounds.{bounds_of}
use Rattle.crash_argument.specs.Counts.{AreAtMost}
use Rattle.lang_tree.specs.declared.command.Cmd.{Cmd}
use Rattle.lang_tree.specs.declared.command.Reply.{Reply}
use Rattle.lang_tree.specs.Step.{Session, session_on}
use Rattle.lang_tree.specs.Tree.{Tree}
use Rattle.engine_blocks.specs.State.{State}
use Rattle.cmd_trace.specs.Trace.{Ascend}
use Rattle.cmd_session.specs.Budget.{KeepsBudget, SpendsByMarks, budget_of}
use Rattle.cmd_session.specs.Ending.{ending_marks, ending_replies, ending_reply, over_after}
use Rattle.cmd_session.proofs.Ending.{budget_grows}
use Rattle.cmd_session.proofs.Histories.{ascend_more, last_is}
use Rattle.cmd_session.proofs.Marks.{each_more}

-- one event more in front
more_each : (e : Event) (xs ys : List Event) → writes_in xs ≤ writes_in ys → writes_in (e ∷ xs) ≤ writes_in (e ∷ ys)
more_each e xs ys h1 = grind arith

front_within : (k : ℕ) (log : List Event) → writes_in (take k log) ≤ writes_in log
front_within zero log = omega arith
front_within (suc k) [] = omega arith
front_within (suc k) (e ∷ log) = more_each e (take k log) log (front_within k log)

late_within : (m k : ℕ) (log : List Event) → writes_in (drop m (take k log)) ≤ writes_in (drop m log)
late_within zero k log = front_within k log
late_within (suc m) zero log = omega arith
late_within (suc m) (suc k) [] = omega arith
late_within (suc m) (suc k) (e ∷ log) = late_within m k log

-- a log has the writes of its two parts
parts_each : (e : Event) (xs ys log : List Event) → writes_in xs + writes_in ys ≡ writes_in log → writes_in (e ∷ xs) + writes_in ys ≡ writes_in (e ∷ log)
parts_each e xs ys log h1 = grind arith

parts : (m : ℕ) (log : List Event) → writes_in (take m log) + writes_in (drop m log) ≡ writes_in log
parts zero log = omega arith
parts (suc m) [] = omega arith
parts (suc m) (e ∷ log) = parts_each e (take m log) (drop m log) log (parts m log)

pub within_budget : (g : Geometry) (t : Tree) (begun owed mounted : ℕ) (cmds : List Cmd) (replies : List Reply) (s : State) → KeepsBudget g t begun cmds replies s
    → begun ≡ writes_in (take mounted s.crash.log) + owed → AreAtMost mounted s.crash.log (owed + budget_of (bitmap_blocks g) (session_on (bounds_of g) t) 0 cmds replies)
within_budget g t begun owed mounted cmds replies s keeps at_first = record { each = λ k from upto. omega (arith, keeps.writes, at_first, parts mounted s.crash.log, late_within mounted k s.crash.log) }

-- Up to each mark.

none_since : (log : List Event) → writes_in (drop (length log) log) ≡ 0
none_since [] = refl
none_since (e ∷ es) = none_since es

-- as the mount ends
pub spends_first : (g : Geometry) (s : Session) (log : List Event) → SpendsByMarks g s (length log) log [] [] []
spends_first g s log = grind (arith, late_within, none_since)

module _ (g : Geometry) (s : Session) (mounted : ℕ) where
  abbrev Within : List Event → List Cmd → List Reply → List ℕ → Type 0
  Within es cs rs ms = AreAtMost mounted es (budget_of (bitmap_blocks g) s 0 cs rs)

  -- and with one command more
  pub spends_more : (old new : List Event) (cmds : List Cmd) (replies : List Reply) (marks : List ℕ) (cmd : Cmd) (reply : Reply) → length cmds ≡ length replies → length marks ≡ length replies → Ascend mounted marks (length old) → Grows old new
      → AreAtMost mounted new (budget_of (bitmap_blocks g) s 0 (cmds ++ cmd ∷ []) (replies ++ reply ∷ [])) → SpendsByMarks g s mounted old cmds replies marks
      → SpendsByMarks g s mounted new (cmds ++ cmd ∷ []) (replies ++ reply ∷ []) (marks ++ length new ∷ [])
  spends_more old new cmds replies marks cmd reply answered marked up grows now before = record { each = λ i le. each_more Within old new mounted cmds replies marks cmd reply answered marked up grows now before.each i }

  -- the whole is what is said at the last mark
  whole_within : (log : List Event) (cmds : List Cmd) (replies : List Reply) (marks : List ℕ) → length cmds ≡ length replies → length marks ≡ length replies → Ascend mounted marks (length log) → SpendsByMarks g s mounted log cmds replies marks
      → AreAtMost mounted log (budget_of (bitmap_blocks g) s 0 cmds replies)
  whole_within log cmds replies marks answered marked up before = grind (arith, take_all, last_is, before.each)

  -- any number of commands more, with which no event comes
  pub spends_ending : (log : List Event) (over : Bool) (cmds : List Cmd) (replies : List Reply) (marks : List ℕ) (more : List Cmd) → length cmds ≡ length replies → length marks ≡ length replies → Ascend mounted marks (length log) → SpendsByMarks g s mounted log cmds replies marks
      → SpendsByMarks g s mounted log (cmds ++ more) (replies ++ ending_replies over more) (marks ++ ending_marks (length log) more)
  spends_ending log over cmds replies marks [] answered marked up before = grind (arith, append-nil)
  spends_ending log over cmds replies marks (cmd ∷ more) answered marked up before =
      let reply = ending_reply over cmd in
      let all = whole_within log cmds replies marks answered marked up before in
      let now : AreAtMost mounted log (budget_of (bitmap_blocks g) s 0 (cmds ++ cmd ∷ []) (replies ++ reply ∷ [])) = record { each = λ k from upto. omega (arith, all.each k from upto, budget_grows (bitmap_blocks g) s 0 cmds replies (cmd ∷ []) (reply ∷ []) answered) } in
      subst (λ (cs : List Cmd). SpendsByMarks g s mounted log cs (replies ++ ending_replies over (cmd ∷ more)) (marks ++ ending_marks (length log) (cmd ∷ more))) (append_assoc cmds (cmd ∷ []) more)
      (subst (λ (rs : List Reply). SpendsByMarks g s mounted log ((cmds ++ cmd ∷ []) ++ more) rs (marks ++ ending_marks (length log) (cmd ∷ more))) (append_assoc replies (reply ∷ []) (ending_replies (over_after over cmd) more))
      (subst (λ (ms : List ℕ). SpendsByMarks g s mounted log ((cmds ++ cmd ∷ []) ++ more) ((replies ++ reply ∷ []) ++ ending_replies (over_after over cmd) more) ms) (append_assoc marks (length log ∷ []) (ending_marks (length log) more))
      (spends_ending log (over_after over cmd) (cmds ++ cmd ∷ []) (replies ++ reply ∷ []) (marks ++ length log ∷ []) more
      (omega (arith, length-append cmds (cmd ∷ []), length-append replies (reply ∷ []), answered)) (omega (arith, length-append marks (length log ∷ []), length-append replies (reply ∷ []), marked)) (ascend_more mounted marks (length log) (length log) up (omega arith))
      (spends_more log log cmds replies marks cmd reply answered marked up (record { more = []; log = sym (append-nil log) }) now before))))
