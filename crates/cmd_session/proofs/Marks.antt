-- What is said of the first commands at each mark is said at one mark more.
use Rattle.std.proofs.Common.{◌≡◌, ⊎_elim, ℕ, ◌≤◌, ◌<◌, List, [], ◌∷◌, ◌++◌, length, take, sym, ◌∙◌, ap, subst, arith}
use Rattle.std.proofs.lemmas.Bool.{cases_lt}
use Rattle.std.proofs.lemmas.List.{length-append, take-append-le, take_all}
use Rattle.disk_contract.specs.declared.event.Event.{Event}
use Rattle.disk_contract.specs.Disk.{Grows}
use Rattle.lang_tree.specs.declared.command.Cmd.{Cmd}
use Rattle.lang_tree.specs.declared.command.Reply.{Reply}
use Rattle.cmd_trace.specs.Trace.{Ascend}
use Rattle.cmd_session.specs.Histories.{last_mark}
use Rattle.cmd_session.proofs.Histories.{front_mark, mark_behind}

-- P says it of some of the commands, and the events by then.
module _ (P : List Event → List Cmd → List Reply → List ℕ → Type 0) (old new : List Event) (mounted : ℕ) (cmds : List Cmd) (replies : List Reply) (marks : List ℕ) (cmd : Cmd) (reply : Reply)
    (answered : length cmds ≡ length replies) (marked : length marks ≡ length replies) (up : Ascend mounted marks (length old)) (grows : Grows old new) where
  abbrev all_cmds : List Cmd
  all_cmds = cmds ++ cmd ∷ []

  abbrev all_replies : List Reply
  all_replies = replies ++ reply ∷ []

  abbrev all_marks : List ℕ
  all_marks = marks ++ length new ∷ []

  -- of those that have these marks
  abbrev SaysOf : List Cmd → List Reply → List ℕ → Type 0
  SaysOf cs rs ms = P (take (last_mark mounted ms) new) cs rs ms

  same_events : (i : ℕ) → take (last_mark mounted (take i marks)) new ≡ take (last_mark mounted (take i marks)) old
  same_events i = ap (take (last_mark mounted (take i marks))) grows.log ∙ take-append-le (last_mark mounted (take i marks)) old grows.more (front_mark mounted i marks (length old) up)

  early : ((i : ℕ) → i ≤ length replies → P (take (last_mark mounted (take i marks)) old) (take i cmds) (take i replies) (take i marks)) → (i : ℕ) → i ≤ length replies → SaysOf (take i all_cmds) (take i all_replies) (take i all_marks)
  early before i le = grind (arith, take-append-le, same_events)

  -- of all of them
  whole : P new all_cmds all_replies all_marks → SaysOf all_cmds all_replies all_marks
  whole now = subst (λ (es : List Event). P es all_cmds all_replies all_marks) (sym (take_all (last_mark mounted all_marks) new (omega (arith, mark_behind mounted marks (length new))))) now

  late : P new all_cmds all_replies all_marks → (i : ℕ) → length replies < i → SaysOf (take i all_cmds) (take i all_replies) (take i all_marks)
  late now i past = grind (arith, take_all, length-append, whole)

  pub each_more : P new all_cmds all_replies all_marks → ((i : ℕ) → i ≤ length replies → P (take (last_mark mounted (take i marks)) old) (take i cmds) (take i replies) (take i marks)) → (i : ℕ) → SaysOf (take i all_cmds) (take i all_replies) (take i all_marks)
  each_more now before i = ⊎_elim (λ past. late now i past) (λ low. early before i low) (cases_lt (length replies) i)
