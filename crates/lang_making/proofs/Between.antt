-- A command that is done in one session is done in each other one with the same tree and the same numbers, whatever was synced there.
use Rattle.std.proofs.Common.{◌≡◌, ℕ, ◌≤◌, ◌==◌, Bool, true, false, List, [], ◌∷◌, ◌++◌, length, replicate, Option, Some, None, if◌then◌else◌, nat_le, refl, sym, ap, ◌∙◌, subst}
use Rattle.std.specs.List.{fold}
use Rattle.std.specs.FinMap.{empty, len}
use Rattle.lang_tree.specs.declared.command.Cmd.{Cmd}
use Rattle.lang_tree.specs.declared.command.Cmd.TheVariants.{Mkdir, Create, Write, Fill, Read, Truncate, Link, Unlink, Rmdir, Rename, Stat, List as ListNames, Snap, Unsnap, Snaps, At, Osync, Dsync, Durable, Dwait, Poll, Bad}
use Rattle.lang_tree.specs.declared.command.Refusal.{Refusal}
use Rattle.lang_tree.specs.declared.command.Reply.{Reply}
use Rattle.lang_tree.specs.declared.command.Reply.TheVariants.{Ok as Done}
use Rattle.lang_tree.specs.Tree.{Tree, Bounds, IsSound, HasSmallFiles}
use Rattle.lang_tree.specs.Walk.{content, is_same_node}
use Rattle.lang_tree.specs.Conditions.{refusal}
use Rattle.lang_tree.specs.Step.{Session, step, start, answered, accepted, changed_to, written, resized, edited, moved, removed, osync, dwait}
use Rattle.lang_making.specs.Making.{making, tree_after, HasFewPaths, HasShortNames}
use Rattle.lang_making.specs.Renumbered.{DifferInNumbers}
use Rattle.lang_making.proofs.Steps.{Does, does_join}
use Rattle.lang_making.proofs.Paths.{Laws}
use Rattle.lang_making.proofs.Trees.{StartIsSound, all_done}

-- where the one command is done so is the other one, and both leave the same tree
abbrev AreAlike : Session × Reply → Session × Reply → Type 0
AreAlike a b = a.1 ≡ Done → (b.1 ≡ Done) × (b.0.tree ≡ a.0.tree)

module _ (m s : Session) where
  -- the first one with the points of the second one
  abbrev aside : Session
  aside = record m { points = s.points; changed = s.changed; durable = s.durable }

  choice : (b : Bool) (t : Tree) → AreAlike (if b then (m, Done) else changed_to m t) (if b then (aside, Done) else changed_to aside t)
  choice true t e = (refl, refl)
  choice false t e = (refl, refl)

  osyncs : (a b : Bool) → AreAlike (osync m a) (osync aside b)
  osyncs true b e = absurd cc
  osyncs false b e = absurd cc

  dwaits : (n : ℕ) (a b : Bool) → AreAlike (dwait m n a) (dwait aside n b)
  dwaits n true b e = absurd cc
  dwaits n false b e = absurd cc

  accepted_alike : (cmd : Cmd) → AreAlike (accepted m cmd) (accepted aside cmd)
  accepted_alike (Mkdir path) e = (refl, refl)
  accepted_alike (Create path) e = (refl, refl)
  accepted_alike (Write path offset bytes) e = choice (length bytes == 0) (edited m.tree path (written offset bytes)) e
  accepted_alike (Fill path offset count byte) e = choice (length (replicate count byte) == 0) (edited m.tree path (written offset (replicate count byte))) e
  accepted_alike (Read path offset count) e = (e, refl)
  accepted_alike (Truncate path size) e = choice (size == length (content m.tree path)) (edited m.tree path (resized size)) e
  accepted_alike (Link path other) e = (refl, refl)
  accepted_alike (Unlink path) e = (refl, refl)
  accepted_alike (Rmdir path) e = (refl, refl)
  accepted_alike (Rename from to) e = choice (is_same_node m.tree from to) (moved (removed m.tree to) from to) e
  accepted_alike (Stat path) e = (e, refl)
  accepted_alike (ListNames path) e = (e, refl)
  accepted_alike (Snap name) e = (refl, refl)
  accepted_alike (Unsnap name) e = (refl, refl)
  accepted_alike Snaps e = (e, refl)
  accepted_alike (At name l) e = (e, refl)
  accepted_alike Osync e = osyncs m.changed s.changed e
  accepted_alike Dsync e = absurd cc
  accepted_alike Durable e = absurd cc
  accepted_alike (Dwait n) e = dwaits n (nat_le n m.points) (nat_le n s.points) e
  accepted_alike Poll e = (refl, refl)
  accepted_alike Bad e = absurd cc

  answered_alike : (cmd : Cmd) (r : Option Refusal) → AreAlike (answered m cmd r) (answered aside cmd r)
  answered_alike cmd None e = accepted_alike cmd e
  answered_alike cmd (Some why) e = absurd cc

  step_aside : (cmd : Cmd) → AreAlike (step m cmd) (step aside cmd)
  step_aside cmd = answered_alike cmd (refusal m.limit m.tree cmd)

  is_aside : s.limit ≡ m.limit → s.tree ≡ m.tree → aside ≡ s
  is_aside limit tree = λ i. record { tree = sym tree i; limit = sym limit i; points = s.points; changed = s.changed; durable = s.durable }

  step_alike : (cmd : Cmd) → s.limit ≡ m.limit → s.tree ≡ m.tree → AreAlike (step m cmd) (step s cmd)
  step_alike cmd limit tree = subst (λ s. AreAlike (step m cmd) (step s cmd)) (is_aside limit tree) (step_aside cmd)

pub does_split : (s e : Session) (xs ys : List Cmd) → Does s (xs ++ ys) e → (m : Session) × Does s xs m × Does m ys e
does_split s e [] ys a = (s, refl, a)
does_split s e (x ∷ xs) ys a = let r = does_split a.0 e xs ys a.2 in (r.0, (a.0, a.1, r.1), r.2)

pub does_fold : (s e : Session) (cmds : List Cmd) → Does s cmds e → e ≡ fold (λ s cmd. (step s cmd).0) s cmds
does_fold s e [] a = a
does_fold s e (cmd ∷ cmds) a = does_fold a.0 e cmds a.2 ∙ ap (λ s. fold (λ s cmd. (step s cmd).0) s cmds) (sym (ap (λ x. x.0) a.1))

-- no command changes how many numbers there are
abbrev pub StepsKeepLimit : Type 0
StepsKeepLimit = (s : Session) (cmd : Cmd) → (step s cmd).0.limit ≡ s.limit

pub does_limit : StepsKeepLimit → (s e : Session) (cmds : List Cmd) → Does s cmds e → e.limit ≡ s.limit
does_limit keeps s e [] a = ap (λ s. s.limit) a
does_limit keeps s e (cmd ∷ cmds) a = does_limit keeps a.0 e cmds a.2 ∙ sym (ap (λ x. x.0.limit) a.1) ∙ keeps s cmd

module _ (laws : Laws) (start_sound : StartIsSound) (keeps : StepsKeepLimit) (limit : Bounds) (most : ℕ) (t : Tree) (ok : IsSound most t) (small : HasSmallFiles t.nodes) (few : HasFewPaths t.names) (short : HasShortNames limit.layout t.names)
    (room : len t.nodes ≤ limit.nodes) where
  pub next_done : (front back : List Cmd) (cmd : Cmd) (s : Session) → making t ≡ front ++ cmd ∷ back → s.limit ≡ limit → s.tree ≡ tree_after limit front
      → ((step s cmd).1 ≡ Done) × ((step s cmd).0.tree ≡ tree_after limit (front ++ cmd ∷ []))
  next_done front back cmd s split same_limit same_tree =
      let all = all_done laws start_sound limit most t ok room small few short in
      let r = does_split (start limit) all.0 front (cmd ∷ back) (subst (λ l. Does (start limit) l all.0) split all.1) in
      let m = r.0 in
      let next = r.2.0 in
      let is : step m cmd ≡ (next, Done) = r.2.1 in
      let m_tree : m.tree ≡ tree_after limit front = ap (λ s. s.tree) (does_fold (start limit) m front r.1) in
      let m_limit : m.limit ≡ limit = does_limit keeps (start limit) m front r.1 in
      let so = step_alike m s cmd (same_limit ∙ sym m_limit) (same_tree ∙ sym m_tree) (ap (λ x. x.1) is) in
      let behind = does_push (start limit) m next front cmd r.1 is in
      (so.0, so.1 ∙ ap (λ x. x.0.tree) is ∙ ap (λ s. s.tree) (does_fold (start limit) next (front ++ cmd ∷ []) behind))
    where
      does_push : (s m next : Session) (cmds : List Cmd) (cmd : Cmd) → Does s cmds m → step m cmd ≡ (next, Done) → Does s (cmds ++ cmd ∷ []) next
      does_push s m next cmds cmd a is = does_join s m next cmds (cmd ∷ []) a (next, is, refl)

  pub end_differs : ((tree_after limit (making t)).snapshots ≡ empty) × DifferInNumbers t (tree_after limit (making t))
  end_differs =
      let all = all_done laws start_sound limit most t ok room small few short in
      let tree : all.0.tree ≡ tree_after limit (making t) = ap (λ s. s.tree) (does_fold (start limit) all.0 (making t) all.1) in
      (ap (λ t. t.snapshots) (sym tree) ∙ all.2, subst (DifferInNumbers t) tree all.3)
