-- A run of one command more.
use Rattle.std.proofs.Common.{◌≡◌, ◌⊎◌, inl, inr, ℕ, ◌+◌, ◌-◌, ◌*◌, ◌^◌, ◌<◌, ◌≤◌, Bool, true, IsTrue, List, [], ◌∷◌, ◌++◌, length, length-append, take, take_all, slice_get, Some, refl, sym, ap, ◌∙◌, subst, arith}
use Rattle.std.proofs.lemmas.List.{take-append-le}
use Rattle.std.proofs.lemmas.Bool.{leb-true}
use Rattle.base_types.specs.Seal.{Blocks}
use Rattle.disk_contract.specs.declared.bay.Mark.{Mark}
use Rattle.disk_contract.specs.declared.event.Event.{Event}
use Rattle.disk_contract.specs.Cell.{has_lost}
use Rattle.disk_contract.specs.Disk as disk
use Rattle.disk_contract.specs.Disk.{writes_in}
use Rattle.disk_contract.specs.Manner.{Manner, HasFailedBy}
use Rattle.layout_geometry.specs.Geometry.{Geometry}
use Rattle.crash_stands.specs.Bounds.{bounds_of}
use Rattle.crash_argument.specs.Points.{MountedSession}
use Rattle.lang_tree.specs.declared.command.Cmd.{Cmd}
use Rattle.lang_tree.specs.declared.command.Refusal.TheVariants as because
use Rattle.lang_tree.specs.declared.command.Reply.{Reply}
use Rattle.lang_tree.specs.declared.command.Reply.TheVariants.{Refused}
use Rattle.lang_tree.specs.Step.{Session, session_on}
use Rattle.lang_tree.specs.Tree.{Tree}
use Rattle.engine_blocks.specs.Crashes.{Advances}
use Rattle.engine_blocks.specs.State.{Bookkeeping, State}
use Rattle.fs_session.specs.Applying.{is_spent}
use Rattle.fs_session.specs.Sessions.{IsSession}
use Rattle.cmd_session.specs.Budget.{KeepsBudget, SpendsByMarks}
use Rattle.cmd_session.specs.Going.{GoesByLog}
use Rattle.cmd_session.specs.Histories.{session_after}
use Rattle.cmd_session.specs.Pacing.{Pace}
use Rattle.cmd_session.specs.Serving.{HasServed}
use Rattle.cmd_session.specs.Shared.{get_split_at}
use Rattle.cmd_image.specs.Refusals.{is_failed, is_unread}
use Rattle.cmd_image.specs.Runs.{HasReason, HaveReasons, IsSpentByNumbers, Marks, MarksGo}
use Rattle.cmd_image.specs.Serves.{pace_at_mount}
use Rattle.cmd_image.specs.Shared.{within_more, within_on}
use Rattle.cmd_image.specs.Steps.{AreWithin, KnownSoFar, SoFar, mark_in}
use Rattle.cmd_image.proofs.Counting.{Counted, over_by}
use Rattle.cmd_image.proofs.Lists.{get_behind}

-- marks with one more
marks_on : (before mid now : Mark) (replies : List Reply) (moments : List ℕ) (marks : List Mark) (reply : Reply) (moment : ℕ)
    → MarksGo before replies moments marks mid → Marks mid reply moment now → MarksGo before (replies ++ reply ∷ []) (moments ++ moment ∷ []) (marks ++ now ∷ []) now
marks_on before mid now [] [] [] reply moment go next = (subst (λ (m : Mark). Marks m reply moment now) go next, refl)
marks_on before mid now [] [] (m ∷ marks) reply moment go next = absurd go
marks_on before mid now [] (k ∷ moments) marks reply moment go next = absurd go
marks_on before mid now (r ∷ replies) [] marks reply moment go next = absurd go
marks_on before mid now (r ∷ replies) (k ∷ moments) [] reply moment go next = absurd go
marks_on before mid now (r ∷ replies) (k ∷ moments) (m ∷ marks) reply moment go next = (go.0, marks_on m mid now replies moments marks reply moment go.1 next)

-- reasons stay as events come behind, and with one more they are of one command more
reasons_stay : (m : Manner) (old more : List Event) (replies : List Reply) (moments : List ℕ) → AreWithin (length old) moments → HaveReasons m old replies moments → HaveReasons m (old ++ more) replies moments
reasons_stay m old more [] [] within have = tt
reasons_stay m old more [] (k ∷ moments) within have = absurd have
reasons_stay m old more (r ∷ replies) [] within have = absurd have
reasons_stay m old more (r ∷ replies) (k ∷ moments) within have = (subst (λ (es : List Event). HasReason m es r) (sym (take-append-le k old more within.0)) have.0, reasons_stay m old more replies moments within.1 have.1)

reasons_on : (m : Manner) (log : List Event) (replies : List Reply) (moments : List ℕ) (reply : Reply) (moment : ℕ) → HaveReasons m log replies moments → HasReason m (take moment log) reply → HaveReasons m log (replies ++ reply ∷ []) (moments ++ moment ∷ [])
reasons_on m log [] [] reply moment have next = (next, tt)
reasons_on m log [] (k ∷ moments) reply moment have next = absurd have
reasons_on m log (r ∷ replies) [] reply moment have next = absurd have
reasons_on m log (r ∷ replies) (k ∷ moments) reply moment have next = (have.0, reasons_on m log replies moments reply moment have.1 next)

-- What is known of one command that was answered over blocks that tell.
pub record Stepped (cmd : Cmd) (reply : Reply) (mark : Mark) (s u : State) : Type 0 where
  pub serves : (g : Geometry) (t : Tree) (mounted : ℕ) (cmds : List Cmd) (replies : List Reply) (moments : List ℕ) → HasServed g t mounted cmds replies moments s → HasServed g t mounted (cmds ++ cmd ∷ []) (replies ++ reply ∷ []) (moments ++ length u.crash.log ∷ []) u
  pub budget : (g : Geometry) (t : Tree) (mounted begun : ℕ) (cmds : List Cmd) (replies : List Reply) (moments : List ℕ) → HasServed g t mounted cmds replies moments s → KeepsBudget g t begun cmds replies s → KeepsBudget g t begun (cmds ++ cmd ∷ []) (replies ++ reply ∷ []) u
  pub spends : (g : Geometry) (t : Tree) (mounted : ℕ) (cmds : List Cmd) (replies : List Reply) (moments : List ℕ) → HasServed g t mounted cmds replies moments s → KeepsBudget g t (writes_in (take mounted u.crash.log)) (cmds ++ cmd ∷ []) (replies ++ reply ∷ []) u
      → SpendsByMarks g (session_on (bounds_of g) t) mounted s.crash.log cmds replies moments → SpendsByMarks g (session_on (bounds_of g) t) mounted u.crash.log (cmds ++ cmd ∷ []) (replies ++ reply ∷ []) (moments ++ length u.crash.log ∷ [])
  pub goes : (mount : MountedSession) (base : Blocks) (m : Manner) (first : Pace) (t : Tree) (cmds : List Cmd) (replies : List Reply) (moments : List ℕ) → HasServed mount.geom t mount.mounted cmds replies moments s → GoesByLog mount base m first t cmds replies moments s → GoesByLog mount base m first t (cmds ++ cmd ∷ []) (replies ++ reply ∷ []) (moments ++ length u.crash.log ∷ []) u
  pub advances : Advances s u
  pub turns : u.books.turns ≤ s.books.turns + 2 ^ 20
  pub counted : (f : Session) → IsSession s f → Counted (is_unread reply) (is_failed reply) s u
  pub stopped : (f : Session) → IsSession s f → reply ≡ Refused because.Stopped → s.books.stopped ≡ true
  pub spent : (f : Session) → IsSession s f → reply ≡ Refused because.Spent → is_spent s.books ≡ true
  pub is_mark : mark ≡ mark_in u
  pub reads : 0 < u.counts.read_faults → u.counts.ticks.manner.reads_fail ≡ true
  pub fails : u.books.stopped ≡ true → ∥ HasFailedBy u.counts.ticks.manner u.crash.log ∥₁

module _ (first : disk.State) (cmd : Cmd) (reply : Reply) (mark : Mark) (s u : State) (cmds : List Cmd) (replies : List Reply) (marks : List Mark) (step : Stepped cmd reply mark s u) (h : KnownSoFar first cmds replies marks s) where
  -- the session so far
  abbrev f : Session
  f = session_after (session_on (bounds_of h.geom) h.tree) cmds replies

  session : IsSession s f
  session = h.served.goes_on.session

  -- by the log of the disk
  at_mount : HasServed h.mount.geom h.tree h.mount.mounted cmds replies h.moments s
  at_mount = subst (λ (g : Geometry). HasServed g h.tree h.mount.mounted cmds replies h.moments s) (sym h.is_mount.geom) (subst (λ (n : ℕ). HasServed h.geom h.tree n cmds replies h.moments s) (sym h.is_mount.mounted) h.served)

  goes_now : GoesByLog h.mount first.base first.manner (pace_at_mount first h.mounted (session_on (bounds_of h.geom) h.tree) h.first_room) h.tree (cmds ++ cmd ∷ []) (replies ++ reply ∷ []) (h.moments ++ length u.crash.log ∷ []) u
  goes_now = step.goes h.mount first.base first.manner (pace_at_mount first h.mounted (session_on (bounds_of h.geom) h.tree) h.first_room) h.tree cmds replies h.moments at_mount h.goes

  -- the first events are the same
  front : take h.mounted u.crash.log ≡ take h.mounted s.crash.log
  front = ap (λ (es : List Event). take h.mounted es) step.advances.grows.log ∙ take-append-le h.mounted s.crash.log step.advances.grows.more h.within

  budget_on : KeepsBudget h.geom h.tree (writes_in (take h.mounted u.crash.log)) (cmds ++ cmd ∷ []) (replies ++ reply ∷ []) u
  budget_on = subst (λ (es : List Event). KeepsBudget h.geom h.tree (writes_in es) (cmds ++ cmd ∷ []) (replies ++ reply ∷ []) u) (sym front)
      (step.budget h.geom h.tree h.mounted (writes_in (take h.mounted s.crash.log)) cmds replies h.moments h.served h.budget)

  -- the reply's mark, behind that of the blocks before it
  marks_now : Marks (mark_in s) reply (length u.crash.log) (mark_in u)
  marks_now = record {
    moment = refl;
    read_faults = (step.counted f session).read_faults;
    faults = (step.counted f session).faults;
    stopped = λ is. h.over (step.stopped f session is);
  }

  longer : length s.crash.log ≤ length u.crash.log
  longer = omega (arith, ap (λ (es : List Event). length es) step.advances.grows.log, length-append s.crash.log step.advances.grows.more)

  -- the disk is the one with which the run began
  same_manner : u.counts.ticks.manner ≡ first.manner
  same_manner = goes_now.manner

  reason_now : HasReason first.manner (take (length u.crash.log) u.crash.log) reply
  reason_now = record {
    reads = λ is. ap (λ (m : Manner). m.reads_fail) (sym same_manner) ∙ step.reads (over_by (is_unread reply) (is_unread reply) _ _ refl (step.counted f session).read_faults (ap is_unread is));
    fails = λ is. subst (λ (m : Manner). ∥ HasFailedBy m (take (length u.crash.log) u.crash.log) ∥₁) same_manner
        (subst (λ (es : List Event). ∥ HasFailedBy u.counts.ticks.manner es ∥₁) (sym (take_all (length u.crash.log) u.crash.log (omega arith)))
        (step.fails ((step.serves h.geom h.tree h.mounted cmds replies h.moments h.served).goes_on.ended (length replies) (get_behind replies reply ∙ ap Some is))));
  }

  reasons_now : HaveReasons first.manner u.crash.log (replies ++ reply ∷ []) (h.moments ++ length u.crash.log ∷ [])
  reasons_now = reasons_on first.manner u.crash.log replies h.moments reply (length u.crash.log)
      (subst (λ (es : List Event). HaveReasons first.manner es replies h.moments) (sym step.advances.grows.log) (reasons_stay first.manner s.crash.log step.advances.grows.more replies h.moments h.among h.reasons)) reason_now

  -- numbers that are used up are far
  spent_far : (k : Bookkeeping) → is_spent k ≡ true → 2 ^ 63 - 8 ≤ k.turns
  spent_far k is = leb-true (2 ^ 63 - 8) k.turns is

  spent_on : IsSpentByNumbers h.turns (replies ++ reply ∷ [])
  spent_on i at = by (get_split_at replies reply (Refused because.Spent) i at)
    where
      by : (slice_get replies i ≡ Some (Refused because.Spent)) ⊎ ((reply ≡ Refused because.Spent) × (i ≡ length replies)) → 2 ^ 63 - 8 ≤ h.turns + i * 2 ^ 20
      by (inl earlier) = h.spent i earlier
      by (inr now) = omega (arith, now.1, h.rises, spent_far s.books (step.spent f session now.0))

  pub known_more : KnownSoFar first (cmds ++ cmd ∷ []) (replies ++ reply ∷ []) (marks ++ mark ∷ []) u
  known_more = record {
    geom = h.geom;
    tree = h.tree;
    image = h.image;
    shape = h.shape;
    base = step.advances.base ∙ h.base;
    mounted = h.mounted;
    moments = h.moments ++ length u.crash.log ∷ [];
    served = step.serves h.geom h.tree h.mounted cmds replies h.moments h.served;
    first_room = h.first_room;
    begins = h.begins;
    mount = h.mount;
    is_mount = h.is_mount;
    goes = goes_now;
    mounts = λ alone. ap has_lost front ∙ h.mounts alone;
    budget = budget_on;
    spends = step.spends h.geom h.tree h.mounted cmds replies h.moments h.served budget_on h.spends;
    within = omega (arith, h.within, longer);
    marked = record {
      later = h.marked.later ++ mark ∷ [];
      is = ap (λ (ms : List Mark). ms ++ mark ∷ []) h.marked.is;
      go = subst (λ (m : Mark). MarksGo (record { moment = h.mounted; read_faults = 0; faults = 0 }) (replies ++ reply ∷ []) (h.moments ++ length u.crash.log ∷ []) (h.marked.later ++ m ∷ []) (mark_in u)) (sym step.is_mark)
          (marks_on (record { moment = h.mounted; read_faults = 0; faults = 0 }) (mark_in s) (mark_in u) replies h.moments h.marked.later reply (length u.crash.log) h.marked.go marks_now);
    };
    manner = same_manner;
    among = within_on (length u.crash.log) h.moments (length u.crash.log) (within_more (length s.crash.log) (length u.crash.log) h.moments longer h.among) (omega arith);
    reasons = reasons_now;
    over = (step.counted f session).over h.over;
    turns = h.turns;
    numbers = h.numbers;
    rises = omega (arith, step.turns, h.rises, length-append replies (reply ∷ []));
    spent = spent_on;
  }

-- the same of blocks that may tell or not
pub more_so_far : (tells : Bool) (first : disk.State) (cmd : Cmd) (reply : Reply) (mark : Mark) (s u : State) (cmds : List Cmd) (replies : List Reply) (marks : List Mark) → (unread failed : Bool) → Counted unread failed s u → (IsTrue tells → Stepped cmd reply mark s u) → SoFar tells first cmds replies marks s
    → SoFar tells first (cmds ++ cmd ∷ []) (replies ++ reply ∷ []) (marks ++ mark ∷ []) u
more_so_far tells first cmd reply mark s u cmds replies marks unread failed moved step h = record {
  blocks = ap (λ (g : Geometry). g.n) moved.geom ∙ h.blocks;
  known = λ t. known_more first cmd reply mark s u cmds replies marks (step t) (h.known t);
}
