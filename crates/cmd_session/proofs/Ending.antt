-- A run may end at once: each command more is refused, no event comes, and what was said of the run holds of the longer one.
use Rattle.std.proofs.Common.{◌≡◌, ◌≢◌, ⊎_elim, ℕ, ◌≤◌, Bool, true, false, not, if◌then◌else◌, List, [], ◌∷◌, ◌++◌, length, take_all, slice_get, Some, refl, sym, ◌∙◌, ap, subst, arith}
use Rattle.std.proofs.Math.Logic.{∥∥₁_map}
use Rattle.std.proofs.lemmas.List.{append-nil, append_assoc, length-append}
use Rattle.std.proofs.lemmas.Bool.{true≢false, false≢true}
use Rattle.base_types.specs.Seal.{Blocks}
use Rattle.disk_contract.specs.declared.event.Event.{Event}
use Rattle.layout_geometry.specs.Geometry.{Geometry}
use Rattle.lang_tree.specs.declared.command.Cmd.{Cmd}
use Rattle.lang_tree.specs.declared.command.Cmd.TheVariants.{Bad}
use Rattle.lang_tree.specs.declared.command.Refusal.TheVariants as because
use Rattle.lang_tree.specs.declared.command.Reply.{Reply}
use Rattle.lang_tree.specs.declared.command.Reply.TheVariants.{Bad as NotUnderstood, Refused}
use Rattle.lang_tree.specs.Points.{Point, after_reply, made_by, points_after, points_of, begun_by, floor, top, promised_by}
use Rattle.lang_tree.specs.Run.{Answers, Run, StopsAfterFault, is_of_disk}
use Rattle.lang_tree.specs.Step.{Session, session_on}
use Rattle.lang_tree.specs.Tree.{Tree}
use Rattle.crash_stands.specs.Bounds.{bounds_of}
use Rattle.engine_blocks.specs.State.{State}
use Rattle.cmd_session.specs.Shared.{has_run, begun_append, get_behind}
use Rattle.cmd_session.specs.Budget.{budget_of, weight_by}
use Rattle.cmd_session.specs.Crashes.{StandsForOne, LeavesPoints}
use Rattle.cmd_session.specs.Ending.{HasRun, is_none, over_after, ending_reply, ending_replies, ending_marks}
use Rattle.cmd_session.specs.Histories.{session_after, last_mark, HasNoFault}
use Rattle.cmd_session.specs.Issued.{StandsForLast}
use Rattle.cmd_session.specs.Serving.{HasServed}
use Rattle.cmd_session.proofs.Histories.{points_more, session_more, run_more, floor_more, last_is, ascend_more, get_before, get_split}
use Rattle.cmd_session.proofs.Issuing.{issues_more}

-- a line that is no command is the one that there is
none_is : (cmd : Cmd) → is_none cmd ≡ true → cmd ≡ Bad
none_is cmd h1 = grind (arith, false≢true)

-- What is known of a run that may end: whether it is over is told by a fault among its replies.
pub record MayEnd (g : Geometry) (t : Tree) (base : Blocks) (log : List Event) (mounted : ℕ) (over : Bool) (cmds : List Cmd) (replies : List Reply) (marks : List ℕ) : Type 0 where
  pub is : HasRun g t base log mounted cmds replies marks
  pub ended : (i : ℕ) → slice_get replies i ≡ Some (Refused because.DiskFault) → over ≡ true
  pub fault : over ≡ true → HasNoFault replies → ⊥

-- What lang_tree promises of replies.
pub record EndLaws : Type 0 where
  pub session : (old new : Session) (cmd : Cmd) (reply : Reply) → Answers is_of_disk old cmd reply new → new ≡ after_reply old cmd reply
  pub stops : (cmds : List Cmd) (replies : List Reply) (cmd : Cmd) (reply : Reply) → length cmds ≡ length replies → StopsAfterFault cmds replies
      → ((i : ℕ) → slice_get replies i ≡ Some (Refused because.DiskFault) → cmd ≢ Bad → reply ≡ Refused because.Stopped) → StopsAfterFault (cmds ++ cmd ∷ []) (replies ++ reply ∷ [])

-- no such reply promises a point
no_promise : (none over : Bool) → promised_by (if none then NotUnderstood else Refused (if over then because.Stopped else because.DiskFault)) ≡ 0
no_promise none over = grind arith

-- the reasons are of the disk
of_disk : (over : Bool) → is_of_disk (if over then because.Stopped else because.DiskFault) ≡ true
of_disk over = grind arith

-- so the command is answered, and the session is as it was
answers_end : (f : Session) (cmd : Cmd) (over none : Bool) → is_none cmd ≡ none → Answers is_of_disk f cmd (if none then NotUnderstood else Refused (if over then because.Stopped else because.DiskFault)) f
answers_end f cmd over none h1 = grind (arith, none_is, of_disk)

module _ (laws : EndLaws) (g : Geometry) (t : Tree) (base : Blocks) (log : List Event) (mounted : ℕ) (over : Bool) (cmds : List Cmd) (replies : List Reply) (marks : List ℕ) (cmd : Cmd) (may : MayEnd g t base log mounted over cmds replies marks) where
  abbrev s : Session
  s = session_on (bounds_of g) t

  abbrev f : Session
  f = session_after s cmds replies

  abbrev reply : Reply
  reply = ending_reply over cmd

  abbrev all_cmds : List Cmd
  all_cmds = cmds ++ cmd ∷ []

  abbrev all_replies : List Reply
  all_replies = replies ++ reply ∷ []

  abbrev all_marks : List ℕ
  all_marks = marks ++ length log ∷ []

  answers : Answers is_of_disk f cmd reply f
  answers = answers_end f cmd over (is_none cmd) refl

  next_is : session_after s all_cmds all_replies ≡ f
  next_is = session_more s cmds replies cmd reply may.is.answered ∙ sym (laws.session f f cmd reply answers)

  points_are : points_of s mounted all_cmds all_replies all_marks ≡ points_of s mounted cmds replies marks ++ made_by f cmd reply (last_mark mounted marks)
  points_are = ap (λ (ps : List Point). record { tree = s.tree; begun = 0 } ∷ ps) (points_more s mounted cmds replies marks cmd reply (length log) may.is.answered may.is.marked)

  stopped : (i : ℕ) → slice_get replies i ≡ Some (Refused because.DiskFault) → cmd ≢ Bad → reply ≡ Refused because.Stopped
  stopped i is not = grind (arith, is_none cmd, may.ended i is, may.ended, none_is, false≢true)

  -- the image stands for what it stood for
  one_more : (k : ℕ) (img : Blocks) → StandsForOne g.n img (points_of s mounted cmds replies marks) (floor k replies marks) (top k s mounted cmds replies marks)
      → StandsForOne g.n img (points_of s mounted all_cmds all_replies all_marks) (floor k all_replies all_marks) (top k s mounted all_cmds all_replies all_marks)
  one_more k img one = record {
    number = one.number;
    point = one.point;
    from = floor_more k one.number replies marks reply (length log) may.is.marked one.from (λ come. omega (arith, no_promise (is_none cmd) over));
    upto = omega (arith, one.upto, ap (begun_by k) (points_more s mounted cmds replies marks cmd reply (length log) may.is.answered may.is.marked), begun_append k (points_after s mounted cmds replies marks) (made_by f cmd reply (last_mark mounted marks)));
    is = subst (λ (ps : List Point). slice_get ps one.number ≡ Some one.point) (sym points_are) (get_before (points_of s mounted cmds replies marks) (made_by f cmd reply (last_mark mounted marks)) one.number one.point one.is);
    stands = one.stands;
  }

  crashes : LeavesPoints g.n base s log mounted all_cmds all_replies all_marks
  crashes = record { each = λ k img within honest. ∥∥₁_map (may.is.crashes.each k img within honest) (one_more k img) }

  -- where no reply is that of a fault, the line was no command, and no point came
  issued_now : HasNoFault all_replies → ∥ StandsForLast g.n base log (points_of s mounted all_cmds all_replies all_marks) ∥₁
  issued_now none = by (is_none cmd) refl over refl
    where
      before : HasNoFault replies
      before i is = none i (get_before replies (reply ∷ []) i (Refused because.DiskFault) is)

      here : ∥ StandsForLast g.n base log (points_of s mounted cmds replies marks) ∥₁
      here = grind (arith, may.is.issued.each, take_all, before, g.n, last_is, may.is.ascend, may.is.marked, may.is.answered)

      no_point : is_none cmd ≡ true → points_of s mounted cmds replies marks ≡ points_of s mounted all_cmds all_replies all_marks
      no_point is = grind (arith, append-nil, none_is, points_are)

      by : (b : Bool) → is_none cmd ≡ b → (o : Bool) → over ≡ o → ∥ StandsForLast g.n base log (points_of s mounted all_cmds all_replies all_marks) ∥₁
      by true is o is_over = subst (λ (ps : List Point). ∥ StandsForLast g.n base log ps ∥₁) (no_point is) here
      by false is true is_over = absurd (may.fault is_over before)
      by false is false is_over = absurd (none (length replies) (get_behind replies reply [] ∙ ap (λ (r : Reply). Some r)
          (ap (λ (b : Bool). if b then NotUnderstood else Refused (if over then because.Stopped else because.DiskFault)) is ∙ ap (λ (o : Bool). Refused (if o then because.Stopped else because.DiskFault)) is_over)))

  pub ends_one : MayEnd g t base log mounted (over_after over cmd) all_cmds all_replies all_marks
  ends_one = record {
    is = record {
      run = subst (λ (x : Session). Run is_of_disk s all_cmds all_replies x) (sym next_is) (run_more is_of_disk s f f cmds replies cmd reply may.is.run answers);
      stops = laws.stops cmds replies cmd reply may.is.answered may.is.stops stopped;
      answered = omega (arith, length-append cmds (cmd ∷ []), length-append replies (reply ∷ []), may.is.answered);
      marked = omega (arith, length-append marks (length log ∷ []), length-append replies (reply ∷ []), may.is.marked);
      ascend = ascend_more mounted marks (length log) (length log) may.is.ascend (omega arith);
      crashes = crashes;
      issued = issues_more g.n base s log log mounted cmds replies marks cmd reply may.is.answered may.is.marked may.is.ascend (record { more = []; log = sym (append-nil log) }) issued_now may.is.issued;
    };
    ended = λ i is. ⊎_elim (λ before. after (is_none cmd) (may.ended i before)) (λ now. fails (is_none cmd) over now) (get_split replies reply (Refused because.DiskFault) i is);
    fault = λ is none. by (is_none cmd) refl over refl is none;
  }
    where
      after : (b : Bool) → over ≡ true → (if b then over else true) ≡ true
      after b h1 = grind arith

      fails : (b o : Bool) → (if b then NotUnderstood else Refused (if o then because.Stopped else because.DiskFault)) ≡ Refused because.DiskFault → (if b then o else true) ≡ true
      fails b o h1 = grind arith

      by : (b : Bool) → is_none cmd ≡ b → (o : Bool) → over ≡ o → over_after over cmd ≡ true → HasNoFault all_replies → ⊥
      by true is o is_over e none = may.fault (sym (ap (λ (b : Bool). if b then over else true) is) ∙ e) (λ i at. none i (get_before replies (reply ∷ []) i (Refused because.DiskFault) at))
      by false is true is_over e none = may.fault is_over (λ i at. none i (get_before replies (reply ∷ []) i (Refused because.DiskFault) at))
      by false is false is_over e none = none (length replies) (get_behind replies reply [] ∙ ap (λ (r : Reply). Some r)
          (ap (λ (b : Bool). if b then NotUnderstood else Refused (if over then because.Stopped else because.DiskFault)) is ∙ ap (λ (o : Bool). Refused (if o then because.Stopped else because.DiskFault)) is_over))

-- any number of commands more
ends_all : EndLaws → (g : Geometry) (t : Tree) (base : Blocks) (log : List Event) (mounted : ℕ) (over : Bool) (cmds : List Cmd) (replies : List Reply) (marks : List ℕ) (more : List Cmd) → MayEnd g t base log mounted over cmds replies marks
    → HasRun g t base log mounted (cmds ++ more) (replies ++ ending_replies over more) (marks ++ ending_marks (length log) more)
ends_all laws g t base log mounted over cmds replies marks [] may = grind (arith, append-nil, may.is)
ends_all laws g t base log mounted over cmds replies marks (cmd ∷ more) may = grind (arith, ends_all laws g t base log mounted (over_after over cmd) (cmds ++ cmd ∷ []) (replies ++ ending_reply over cmd ∷ []) (marks ++ length log ∷ []) more (ends_one laws g t base log mounted over cmds replies marks cmd may), append_assoc, ends_one)

pub ends_so : EndLaws → (g : Geometry) (t : Tree) (mounted : ℕ) (cmds : List Cmd) (replies : List Reply) (marks : List ℕ) (s : State) (more : List Cmd) → HasServed g t mounted cmds replies marks s
    → HasRun g t s.crash.base s.crash.log mounted (cmds ++ more) (replies ++ ending_replies s.books.stopped more) (marks ++ ending_marks (length s.crash.log) more)
ends_so laws g t mounted cmds replies marks s more served = ends_all laws g t s.crash.base s.crash.log mounted s.books.stopped cmds replies marks more (record {
  is = has_run g t mounted cmds replies marks s served;
  ended = served.goes_on.ended;
  fault = λ over none. true≢false (sym over ∙ served.goes_on.going none);
})

-- more commands leave no smaller budget
pub budget_grows : (bitmap : ℕ) (s : Session) (w : ℕ) (cmds : List Cmd) (replies : List Reply) (more : List Cmd) (later : List Reply) → length cmds ≡ length replies
    → budget_of bitmap s w cmds replies ≤ budget_of bitmap s w (cmds ++ more) (replies ++ later)
budget_grows bitmap s w [] replies more later e = omega arith
budget_grows bitmap s w (cmd ∷ cmds) [] more later e = absurd (omega (arith, e))
budget_grows bitmap s w (cmd ∷ cmds) (reply ∷ replies) more later e = grind (arith, budget_grows bitmap (after_reply s cmd reply) (weight_by bitmap s w cmd reply) cmds replies more later)
