-- A call that is refused as `full`: which of its commands lacked blocks.
use Rattle.std.proofs.Common.{◌≡◌, ◌⊎◌, inl, inr, ℕ, Bool, true, false, List, [], ◌∷◌, ◌++◌, refl, sym, ap, ◌∙◌, subst, arith}
use Rattle.std.proofs.lemmas.Bool.{true≢false}
use Rattle.std.specs.List.{AllByRecursion}
use Rattle.layout_geometry.specs.Geometry.{Geometry}
use Rattle.lang_tree.specs.declared.command.Cmd.{Cmd}
use Rattle.lang_tree.specs.declared.command.Cmd.TheVariants.{Create, Dsync, List as ListNames, Osync, Read, Stat, Unlink, Write}
use Rattle.lang_tree.specs.declared.command.Refusal.{Refusal}
use Rattle.lang_tree.specs.declared.command.Refusal.TheVariants.{DiskFault, Full, NoMemory, ReadFault, Spent, Stopped}
use Rattle.lang_tree.specs.declared.command.Reply.{Reply}
use Rattle.lang_tree.specs.declared.command.Reply.TheVariants.{Refused}
use Rattle.lang_tree.specs.Run.{Answers, is_of_disk, is_of_memory}
use Rattle.lang_tree.specs.Step.{Session, step}
use Rattle.lang_tree.specs.Tree.{Tree}
use Rattle.lang_log.specs.declared.call.LogCall.{LogCall}
use Rattle.lang_log.specs.declared.call.LogCall.TheVariants.{Append, Bad, Count, Get, Order, Sync, Trim}
use Rattle.lang_log.specs.declared.call.LogReply.TheVariants as answered
use Rattle.fs_session.specs.Commands.{is_on_tree}
use Rattle.fs_session.specs.DiskRoom.{AnswersOn, ComesBack, RunsOn, SyncsOver}
use Rattle.fs_session.specs.Room.{IsDoneIn, IsRefusedIn, RefusesIn, Room, figures_in, left_in, most_weight}
use Rattle.fs_session.specs.Space.{FailsToFit}
use Rattle.fs_log.specs.Ways.{IsQuestion}
use Rattle.cmd_log.specs.Causes.{AnswersBy, LacksBlocks, LacksIn, MayAsk, Situation}

-- The last of some commands from a session and its room on was answered so, in the room that it had come to.
pub record LastOf (g : Geometry) (may : Cmd → Type 0) (reply : Reply) (f : Session) (r : Room) : Type 0 where
  pub asked : List Cmd
  pub replies : List Reply
  pub session : Session
  pub room : Room
  pub runs : RunsOn g f r asked replies session room
  pub cmd : Cmd
  pub is : may cmd
  pub next : Session
  pub after : Room
  pub answers : AnswersOn g session room cmd reply next after

same_first : (a b : Reply) (more others : List Reply) → a ∷ more ≡ b ∷ others → a ≡ b
same_first a b more others is = cc

same_rest : (a b : Reply) (more others : List Reply) → a ∷ more ≡ b ∷ others → more ≡ others
same_rest a b more others is = cc

some_reply : (before : List Reply) (reply : Reply) → [] ≡ before ++ reply ∷ [] → ⊥
some_reply [] reply is = cc
some_reply (r ∷ before) reply is = cc

last_of : (g : Geometry) (may : Cmd → Type 0) (reply : Reply) (before : List Reply) (f end : Session) (r room : Room) (asked : List Cmd) (replies : List Reply)
    → replies ≡ before ++ reply ∷ [] → AllByRecursion may asked → RunsOn g f r asked replies end room → LastOf g may reply f r
last_of g may reply before f end r room [] [] is are runs = absurd (some_reply before reply is)
last_of g may reply before f end r room [] (x ∷ replies) is are runs = absurd runs
last_of g may reply before f end r room (cmd ∷ asked) [] is are runs = absurd runs
last_of g may reply [] f end r room (cmd ∷ asked) (x ∷ replies) is are runs = record {
  asked = [];
  replies = [];
  session = f;
  room = r;
  runs = (refl, refl);
  cmd = cmd;
  is = are.0;
  next = runs.0;
  after = runs.1;
  answers = subst (λ (y : Reply). AnswersOn g f r cmd y runs.0 runs.1) (same_first x reply replies [] is) runs.2;
}
last_of g may reply (y ∷ before) f end r room (cmd ∷ asked) (x ∷ replies) is are runs =
    let l = last_of g may reply before runs.0 end runs.1 room asked replies (same_rest x y replies (before ++ reply ∷ []) is) are.1 runs.3 in
    record {
      asked = cmd ∷ l.asked;
      replies = x ∷ l.replies;
      session = l.session;
      room = l.room;
      runs = (runs.0, runs.1, runs.2, l.runs);
      cmd = l.cmd;
      is = l.is;
      next = l.next;
      after = l.after;
      answers = l.answers;
    }

-- What is known of refusals of a tree in memory.
abbrev AloneLaw : Type 0
AloneLaw = (old new : Session) (cmd : Cmd) (why : Refusal) → Answers is_of_memory old cmd (Refused why) new → (is_of_disk why ≡ false) ⊎ (why ≡ NoMemory)

-- the numbers of such a refusal
abbrev need_of : Refusal → ℕ
need_of (Full need left) = need
need_of _ = 0

abbrev left_of : Refusal → ℕ
left_of (Full need left) = left
left_of _ = 0

abbrev is_full : Refusal → Bool
is_full (Full need left) = true
is_full _ = false

abbrev why_of : Reply → Refusal
why_of (Refused why) = why
why_of _ = NoMemory

-- A command on the tree, or one that the disk or the end of numbers refused.
abbrev TreeStep : Geometry → Session → Room → Cmd → Reply → Session → Room → Type 0
TreeStep g f r cmd reply next room =
    RefusesIn (λ why. (why ≡ Stopped) ⊎ (why ≡ Spent)) f r reply next room
    ⊎ ((back : Room) × ComesBack g f r back
    × ((IsDoneIn g f back cmd reply next room ⊎ RefusesIn (IsRefusedIn g f back cmd) f back reply next room)
    ⊎ RefusesIn (λ why. (why ≡ DiskFault) ⊎ ((is_on_tree cmd ≡ true) × (why ≡ ReadFault))) f back reply next room))

module _ (g : Geometry) (alone : AloneLaw) (need left : ℕ) (f next : Session) (r room : Room) where
  abbrev FullReply : Reply
  FullReply = Refused (Full need left)

  other : {P : Type 0} (why : Refusal) → is_full why ≡ false → FullReply ≡ Refused why → P
  other why none is = absurd (true≢false (ap (λ (x : Reply). is_full (why_of x)) is ∙ none))

  not_by_tree : {P : Type 0} (cmd : Cmd) → step f cmd ≡ (next, FullReply) → P
  not_by_tree {P = P} cmd is = by (alone f next cmd (Full need left) (inl is))
    where
      by : (is_of_disk (Full need left) ≡ false) ⊎ (Full need left ≡ NoMemory) → P
      by (inl not) = absurd (true≢false not)
      by (inr memory) = absurd (true≢false (ap is_full memory))

  ended : {P : Type 0} (why : Refusal) → (why ≡ Stopped) ⊎ (why ≡ Spent) → FullReply ≡ Refused why → P
  ended why (inl is) reply = other why (ap is_full is) reply
  ended why (inr is) reply = other why (ap is_full is) reply

  module _ (may : Cmd → Type 0) (cmd : Cmd) (is : may cmd ⊎ IsQuestion cmd) where
    lacks : (back : Room) → ComesBack g f r back → (why : Refusal) → IsRefusedIn g f back cmd why → FullReply ≡ Refused why → LacksIn g may need left f r
    lacks back comes why (inr (inl scatters)) reply = other why (ap is_full scatters.2.is) reply
    lacks back comes why (inr (inr memory)) reply = other why (ap is_full memory) reply
    lacks back comes why (inl (accepts, fails)) reply = by fails
      where
        by : FailsToFit (left_in g f back) back.weight (most_weight g) (figures_in g f back cmd) why → LacksIn g may need left f r
        by (inr big) = other why (ap is_full big.is) reply
        by (inl full) =
            let needs : need ≡ (figures_in g f back cmd).need = ap (λ (x : Reply). need_of (why_of x)) reply ∙ ap need_of full.is in
            let has : left ≡ left_in g f back = ap (λ (x : Reply). left_of (why_of x)) reply ∙ ap left_of full.is in
            record { room = back; back = comes; cmd = cmd; is = is; needs = needs; has = has; few = omega (arith, needs, has, full.blocks) }

    by_tree : TreeStep g f r cmd FullReply next room → LacksIn g may need left f r
    by_tree (inl refused) = ended refused.0 refused.1 refused.2
    by_tree (inr (back, comes, inl (inl done))) = not_by_tree cmd done.answer
    by_tree (inr (back, comes, inl (inr refused))) = lacks back comes refused.0 refused.1 refused.2
    by_tree (inr (back, comes, inr refused)) = fault refused.0 refused.1 refused.2
      where
        fault : (why : Refusal) → (why ≡ DiskFault) ⊎ ((is_on_tree cmd ≡ true) × (why ≡ ReadFault)) → FullReply ≡ Refused why → LacksIn g may need left f r
        fault why (inl is) reply = other why (ap is_full is) reply
        fault why (inr is) reply = other why (ap is_full is.1) reply

  -- no sync is refused so
  not_by_sync : {P : Type 0} (cmd : Cmd) (back : Room) → SyncsOver f back cmd FullReply next room → P
  not_by_sync cmd back (inl done) = not_by_tree cmd done.0
  not_by_sync cmd back (inr (inl refused)) = other refused.0 (ap is_full refused.1.0) refused.2
  not_by_sync cmd back (inr (inr fault)) = other DiskFault refl fault.0

  module _ (may : Cmd → Type 0) where
    abbrev Lacks : Cmd → Type 0
    Lacks cmd = may cmd ⊎ IsQuestion cmd → AnswersOn g f r cmd FullReply next room → LacksIn g may need left f r

    by_write : (path : List (List ℕ)) (offset : ℕ) (bytes : List ℕ) → Lacks (Write path offset bytes)
    by_write path offset bytes is (inl refused) = by_tree may (Write path offset bytes) is (inl refused)
    by_write path offset bytes is (inr begun) = by_tree may (Write path offset bytes) is (inr (begun.back, begun.comes_back, begun.answers))

    by_create : (path : List (List ℕ)) → Lacks (Create path)
    by_create path is (inl refused) = by_tree may (Create path) is (inl refused)
    by_create path is (inr begun) = by_tree may (Create path) is (inr (begun.back, begun.comes_back, begun.answers))

    by_unlink : (path : List (List ℕ)) → Lacks (Unlink path)
    by_unlink path is (inl refused) = by_tree may (Unlink path) is (inl refused)
    by_unlink path is (inr begun) = by_tree may (Unlink path) is (inr (begun.back, begun.comes_back, begun.answers))

    by_stat : (path : List (List ℕ)) → Lacks (Stat path)
    by_stat path is (inl refused) = by_tree may (Stat path) is (inl refused)
    by_stat path is (inr begun) = by_tree may (Stat path) is (inr (begun.back, begun.comes_back, begun.answers))

    by_list : (path : List (List ℕ)) → Lacks (ListNames path)
    by_list path is (inl refused) = by_tree may (ListNames path) is (inl refused)
    by_list path is (inr begun) = by_tree may (ListNames path) is (inr (begun.back, begun.comes_back, begun.answers))

    by_read : (path : List (List ℕ)) (offset count : ℕ) → Lacks (Read path offset count)
    by_read path offset count is (inl refused) = by_tree may (Read path offset count) is (inl refused)
    by_read path offset count is (inr begun) = by_tree may (Read path offset count) is (inr (begun.back, begun.comes_back, begun.answers))

    by_osync : Lacks Osync
    by_osync is (inl refused) = ended refused.0 refused.1 refused.2
    by_osync is (inr begun) = not_by_sync Osync begun.back begun.answers

    by_dsync : Lacks Dsync
    by_dsync is (inl refused) = ended refused.0 refused.1 refused.2
    by_dsync is (inr begun) = not_by_sync Dsync begun.back begun.answers

    by_question : (cmd : Cmd) → IsQuestion cmd → Lacks cmd
    by_question cmd (inl (path, is)) = subst Lacks (sym is) (by_stat path)
    by_question cmd (inr (inl (path, is))) = subst Lacks (sym is) (by_list path)
    by_question cmd (inr (inr (path, offset, count, is))) = subst Lacks (sym is) (by_read path offset count)

-- so it is of the commands of a call
module _ (g : Geometry) (alone : AloneLaw) (need left : ℕ) (f next : Session) (r room : Room) (most : ℕ) (t : Tree) where
  by_call : (call : LogCall) (cmd : Cmd) → MayAsk most t call cmd → Lacks g alone need left f next r room (MayAsk most t call) cmd
  by_call (Append bytes) cmd (l, is, inl (room_left, w)) = subst (Lacks g alone need left f next r room (MayAsk most t (Append bytes))) (sym w.is) (by_write g alone need left f next r room (MayAsk most t (Append bytes)) _ _ _)
  by_call (Append bytes) cmd (l, is, inr (inl (none, inl made))) = subst (Lacks g alone need left f next r room (MayAsk most t (Append bytes))) (sym made) (by_create g alone need left f next r room (MayAsk most t (Append bytes)) _)
  by_call (Append bytes) cmd (l, is, inr (inl (none, inr wrote))) = subst (Lacks g alone need left f next r room (MayAsk most t (Append bytes))) (sym wrote) (by_write g alone need left f next r room (MayAsk most t (Append bytes)) _ _ _)
  by_call (Append bytes) cmd (l, is, inr (inr ordered)) = subst (Lacks g alone need left f next r room (MayAsk most t (Append bytes))) (sym ordered) (by_osync g alone need left f next r room (MayAsk most t (Append bytes)))
  by_call (Get number) cmd none = absurd none
  by_call (Trim number) cmd (l, is, inl removes) = subst (Lacks g alone need left f next r room (MayAsk most t (Trim number))) (sym removes.is) (by_unlink g alone need left f next r room (MayAsk most t (Trim number)) _)
  by_call (Trim number) cmd (l, is, inr ordered) = subst (Lacks g alone need left f next r room (MayAsk most t (Trim number))) (sym ordered) (by_osync g alone need left f next r room (MayAsk most t (Trim number)))
  by_call Count cmd none = absurd none
  by_call Order cmd is = subst (Lacks g alone need left f next r room (MayAsk most t Order)) (sym is) (by_osync g alone need left f next r room (MayAsk most t Order))
  by_call Sync cmd is = subst (Lacks g alone need left f next r room (MayAsk most t Sync)) (sym is) (by_dsync g alone need left f next r room (MayAsk most t Sync))
  by_call Bad cmd none = absurd none

pub lacks_blocks : AloneLaw → (g : Geometry) (most : ℕ) (call : LogCall) (old new : Situation) (need left : ℕ) → AnswersBy g most call (answered.Refused (Full need left)) old new → LacksBlocks g (MayAsk most old.session.tree call) old need left
lacks_blocks alone g most call old new need left by = from by.cause
  where
    here : LastOf g (λ cmd. MayAsk most old.session.tree call cmd ⊎ IsQuestion cmd) (Refused (Full need left)) old.session old.room → LacksBlocks g (MayAsk most old.session.tree call) old need left
    here l = record { asked = l.asked; replies = l.replies; session = l.session; before = l.room; runs = l.runs; lacks = asked l.is }
      where
        asked : MayAsk most old.session.tree call l.cmd ⊎ IsQuestion l.cmd → LacksIn g (MayAsk most old.session.tree call) need left l.session l.room
        asked (inl may) = by_call g alone need left l.session l.next l.room l.after most old.session.tree call l.cmd may (inl may) l.answers
        asked (inr question) = by_question g alone need left l.session l.next l.room l.after (MayAsk most old.session.tree call) l.cmd question (inr question) l.answers

    from : (Full need left ≡ NoMemory) ⊎ ((before : List Reply) × (by.ran.replies ≡ before ++ Refused (Full need left) ∷ [])) → LacksBlocks g (MayAsk most old.session.tree call) old need left
    from (inl memory) = absurd (true≢false (ap is_full memory))
    from (inr (before, is)) = here (last_of g (λ cmd. MayAsk most old.session.tree call cmd ⊎ IsQuestion cmd) (Refused (Full need left)) before old.session new.session old.room new.room by.ran.asked by.ran.replies is by.ran.are by.ran.rooms)
