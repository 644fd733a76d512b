-- Where nothing changed since the last sync point, that point has the session's tree; so where it is on the disk, each honest image stands for that tree.
use Rattle.std.proofs.Common.{◌≡◌, ◌⊎◌, inl, inr, ℕ, zero, suc, ◌+◌, ◌≤◌, ◌==◌, ◌&&◌, Bool, true, false, if◌then◌else◌, true≢false, List, [], ◌∷◌, ◌++◌, length, take, take_all, slice_get, Option, Some, None, refl, sym, ap, ◌∙◌, subst, arith, nat_le, unwrap_or}
use Rattle.std.proofs.Math.Logic.{∥∥₁_map}
use Rattle.std.proofs.lemmas.Option.{same_Some, none-some}
use Rattle.base_types.specs.Seal.{Blocks}
use Rattle.disk_contract.specs.declared.event.Event.{Event}
use Rattle.disk_contract.specs.Crash.{IsHonest}
use Rattle.lang_tree.specs.declared.command.Cmd.{Cmd}
use Rattle.lang_tree.specs.declared.command.Cmd.TheVariants.{Mkdir, Create, Write, Fill, Read, Truncate, Link, Unlink, Rmdir, Rename, Stat, List as ListNames, Snap, Unsnap, Snaps, At, Osync, Dsync, Durable, Dwait, Poll, Bad}
use Rattle.lang_tree.specs.declared.command.Refusal.{Refusal}
use Rattle.lang_tree.specs.declared.command.Reply.{Reply}
use Rattle.lang_tree.specs.declared.command.Reply.TheVariants.{Ok as Done, Refused}
use Rattle.lang_tree.specs.Conditions.{refusal}
use Rattle.lang_tree.specs.Points.{Point, after_reply, floor, is_sync, made_by, may_have_written, points_after, points_of, top}
use Rattle.lang_tree.specs.Run.{Answers, Run, is_of_disk}
use Rattle.lang_tree.specs.Step.{Session, accepted, answered, changed_to, dsync, dwait, osync, step}
use Rattle.lang_tree.specs.Tree.{Tree}
use Rattle.lang_tree.specs.Walk.{content, is_same_node}
use Rattle.crash_stands.specs.Stands.{StandsFor}
use Rattle.cmd_session.specs.Crashes.{LeavesPoints, StandsForOne}

-- the tree of the last of these points, or this one where there is none
abbrev pub last_tree : Tree → List Point → Tree
last_tree t [] = t
last_tree t (p ∷ points) = last_tree p.tree points

last_append : (t : Tree) (xs ys : List Point) → last_tree t (xs ++ ys) ≡ last_tree (last_tree t xs) ys
last_append t [] ys = refl
last_append t (x ∷ xs) ys = last_append x.tree xs ys

none_some : (n : ℕ) → 0 ≡ suc n → ⊥
none_some n e = omega (arith, e)

one_less : (m n : ℕ) → suc m ≡ suc n → m ≡ n
one_less m n e = omega (arith, e)

-- what stands in a list stands within it, and the last point has the last tree
within : (points : List Point) (i : ℕ) (p : Point) → slice_get points i ≡ Some p → i + 1 ≤ length points
within [] i p is = absurd (none-some p is)
within (q ∷ points) zero p is = omega arith
within (q ∷ points) (suc i) p is = omega (arith, within points i p is)

at_last : (t : Tree) (begun : ℕ) (points : List Point) (i : ℕ) (p : Point) → slice_get (record { tree = t; begun = begun } ∷ points) i ≡ Some p → i ≡ length points → p.tree ≡ last_tree t points
at_last t begun [] zero p is e = ap (λ (q : Point). q.tree) (sym (same_Some (record { tree = t; begun = begun }) p is))
at_last t begun [] (suc i) p is e = absurd (none-some p is)
at_last t begun (q ∷ points) zero p is e = absurd (none_some (length points) e)
at_last t begun (q ∷ points) (suc i) p is e = at_last q.tree q.begun points i p is (one_less i (length points) e)

-- what a command leaves that is no sync: something changed, or the tree is the same and so is whether it changed
abbrev Leaves : Session → Session → Type 0
Leaves s u = (u.changed ≡ true) ⊎ ((u.tree ≡ s.tree) × (u.changed ≡ s.changed))

by_test : (s : Session) (t : Tree) (b : Bool) → Leaves s (if b then (s, Done) else changed_to s t).0
by_test s t true = inr (refl, refl)
by_test s t false = inl refl

by_number : (s : Session) (n : ℕ) (b : Bool) → Leaves s (dwait s n b).0
by_number s n true = inr (refl, refl)
by_number s n false = inr (refl, refl)

leaves : (s : Session) (cmd : Cmd) → is_sync cmd ≡ false → Leaves s (accepted s cmd).0
leaves s (Mkdir path) e = inl refl
leaves s (Create path) e = inl refl
leaves s (Write path offset bytes) e = by_test s _ (length bytes == 0)
leaves s (Fill path offset count byte) e = by_test s _ _
leaves s (Read path offset count) e = inr (refl, refl)
leaves s (Truncate path size) e = by_test s _ (size == length (content s.tree path))
leaves s (Link path other) e = inl refl
leaves s (Unlink path) e = inl refl
leaves s (Rmdir path) e = inl refl
leaves s (Rename from to) e = by_test s _ (is_same_node s.tree from to)
leaves s (Stat path) e = inr (refl, refl)
leaves s (ListNames path) e = inr (refl, refl)
leaves s (Snap name) e = inl refl
leaves s (Unsnap name) e = inl refl
leaves s Snaps e = inr (refl, refl)
leaves s (At name l) e = inr (refl, refl)
leaves s Osync e = absurd (true≢false e)
leaves s Dsync e = absurd (true≢false e)
leaves s Durable e = inr (refl, refl)
leaves s (Dwait n) e = by_number s n (nat_le n s.points)
leaves s Poll e = inr (refl, refl)
leaves s Bad e = inr (refl, refl)

-- the point that is made, or none is
abbrev made_if : Bool → Tree → ℕ → List Point
made_if b t begun = if b then record { tree = t; begun = begun } ∷ [] else []

-- no point is made where nothing changed, nor by a command that is no sync
none_made : (s : Session) (cmd : Cmd) (reply : Reply) (begun : ℕ) → s.changed ≡ false → made_by s cmd reply begun ≡ []
none_made s cmd reply begun same = ap (λ (b : Bool). made_if (is_sync cmd && (b && may_have_written reply)) s.tree begun) same ∙ by (is_sync cmd)
  where
    by : (b : Bool) → made_if (b && false) s.tree begun ≡ []
    by true = refl
    by false = refl

no_point : (s : Session) (cmd : Cmd) (reply : Reply) (begun : ℕ) → is_sync cmd ≡ false → made_by s cmd reply begun ≡ []
no_point s cmd reply begun e = ap (λ (b : Bool). made_if (b && (s.changed && may_have_written reply)) s.tree begun) e

-- the tree of the last point after one command, where nothing changed since it
abbrev Last : Session → Tree → List Point → Session → Type 0
Last s t made next = (s.changed ≡ false → t ≡ s.tree) → next.changed ≡ false → last_tree t made ≡ next.tree

still : (s : Session) (t : Tree) (cmd : Cmd) (reply : Reply) (begun : ℕ) → Last s t (made_by s cmd reply begun) s
still s t cmd reply begun before same = ap (last_tree t) (none_made s cmd reply begun same) ∙ before same

stays : (s next : Session) (t : Tree) (cmd : Cmd) (reply : Reply) (begun : ℕ) → next ≡ s → Last s t (made_by s cmd reply begun) next
stays s next t cmd reply begun e = subst (λ (u : Session). Last s t (made_by s cmd reply begun) u) (sym e) (still s t cmd reply begun)

changes : (s : Session) (t : Tree) (cmd : Cmd) (reply : Reply) (begun : ℕ) → is_sync cmd ≡ false → Last s t (made_by s cmd reply begun) (accepted s cmd).0
changes s t cmd reply begun e before same = ap (last_tree t) (no_point s cmd reply begun e) ∙ by (leaves s cmd e)
  where
    by : Leaves s (accepted s cmd).0 → t ≡ (accepted s cmd).0.tree
    by (inl changed) = absurd (true≢false (sym changed ∙ same))
    by (inr alike) = before (sym alike.1 ∙ same) ∙ sym alike.0

-- the same of a sync that is done
osynced : (s : Session) (t : Tree) (begun : ℕ) (b : Bool) → s.changed ≡ b
    → Last s t (made_if (b && true) s.tree begun) (osync s b).0
osynced s t begun true e before same = refl
osynced s t begun false e before same = before e

dsynced : (s : Session) (t : Tree) (begun : ℕ) (b : Bool) → s.changed ≡ b
    → Last s t (made_if (b && true) s.tree begun) (dsync s b).0
dsynced s t begun true e before same = refl
dsynced s t begun false e before same = before e

-- how it is answered doesn't count, but that it is done
osync_writes : (s : Session) (b : Bool) → may_have_written (osync s b).1 ≡ true
osync_writes s true = refl
osync_writes s false = refl

synced : (s : Session) (t : Tree) (cmd : Cmd) (begun : ℕ) → is_sync cmd ≡ true → Last s t (made_by s cmd (accepted s cmd).1 begun) (accepted s cmd).0
synced s t Osync begun e =
    subst (λ (w : Bool). Last s t (made_if (s.changed && w) s.tree begun) (osync s s.changed).0) (sym (osync_writes s s.changed))
    (osynced s t begun s.changed refl)
synced s t Dsync begun e = dsynced s t begun s.changed refl
synced s t other begun e = absurd (true≢false (sym e))

-- and of each command that the tree answers
answers_last : (s : Session) (t : Tree) (cmd : Cmd) (begun : ℕ) (o : Option Refusal) → Last s t (made_by s cmd (answered s cmd o).1 begun) (answered s cmd o).0
answers_last s t cmd begun (Some why) = still s t cmd (Refused why) begun
answers_last s t cmd begun None = by (is_sync cmd) refl
  where
    by : (b : Bool) → is_sync cmd ≡ b → Last s t (made_by s cmd (accepted s cmd).1 begun) (accepted s cmd).0
    by true e = synced s t cmd begun e
    by false e = changes s t cmd (accepted s cmd).1 begun e

one_more : (s next : Session) (t : Tree) (cmd : Cmd) (reply : Reply) (begun : ℕ) → Answers is_of_disk s cmd reply next → Last s t (made_by s cmd reply begun) next
one_more s next t cmd reply begun (inl is) =
    subst (λ (r : Session × Reply). Last s t (made_by s cmd r.1 begun) r.0) is (answers_last s t cmd begun (refusal s.limit s.tree cmd))
one_more s next t cmd reply begun (inr (inl refused)) = stays s next t cmd reply begun refused.3
one_more s next t cmd reply begun (inr (inr knows)) = stays s next t cmd reply begun knows.1.same

-- the same of all commands of a run
module _ (tells : (outside : Refusal → Bool) (old new : Session) (cmd : Cmd) (reply : Reply) → Answers outside old cmd reply new → new ≡ after_reply old cmd reply) where
  all_more : (s end : Session) (t : Tree) (begun : ℕ) (cmds : List Cmd) (replies : List Reply) (marks : List ℕ) → length marks ≡ length replies
      → Run is_of_disk s cmds replies end → Last s t (points_after s begun cmds replies marks) end
  all_more s end t begun [] [] marks same run before un = before (ap (λ (u : Session). u.changed) (sym run) ∙ un) ∙ ap (λ (u : Session). u.tree) (sym run)
  all_more s end t begun [] (r ∷ replies) marks same run before un = absurd run
  all_more s end t begun (c ∷ cmds) [] marks same run before un = absurd run
  all_more s end t begun (c ∷ cmds) (r ∷ replies) [] same run before un = absurd (none_some (length replies) same)
  all_more s end t begun (c ∷ cmds) (r ∷ replies) (m ∷ marks) same run before un =
      let next : Session = run.0 in
      let made : List Point = made_by s c r begun in
      last_append t made (points_after (after_reply s c r) m cmds replies marks)
      ∙ ap (λ (u : Session). last_tree (last_tree t made) (points_after u m cmds replies marks)) (sym (tells is_of_disk s next c r run.1))
      ∙ all_more next end (last_tree t made) m cmds replies marks (one_less (length marks) (length replies) same) run.2 (one_more s next t c r begun run.1 before) un

  -- Where nothing changed since the last point, and that one is on the disk, each honest image stands for the session's tree.
  pub stands_for_all : (n : ℕ) (base : Blocks) (log : List Event) (s end : Session) (mounted : ℕ) (cmds : List Cmd) (replies : List Reply) (marks : List ℕ)
      → Run is_of_disk s cmds replies end → length marks ≡ length replies → s.changed ≡ false → end.changed ≡ false
      → length (points_of s mounted cmds replies marks) ≡ end.points + 1 → end.points ≤ floor (length log) replies marks
      → LeavesPoints n base s log mounted cmds replies marks → (img : Blocks) → IsHonest n base log img → ∥ StandsFor n img end.tree ∥₁
  stands_for_all n base log s end mounted cmds replies marks run same un done count low crashes img honest =
      ∥∥₁_map (crashes.each (length log) img (omega arith) (subst (λ (es : List Event). IsHonest n base es img) (sym (take_all (length log) log (omega arith))) honest)) by
    where
      by : StandsForOne n img (points_of s mounted cmds replies marks) (floor (length log) replies marks) (top (length log) s mounted cmds replies marks) → StandsFor n img end.tree
      by one =
          subst (λ (t : Tree). StandsFor n img t) (at_last s.tree 0 (points_after s mounted cmds replies marks) one.number one.point one.is (omega (arith, one.from, low, count, within (points_of s mounted cmds replies marks) one.number one.point one.is)) ∙ all_more s end s.tree mounted cmds replies marks same run (λ _. refl) done) one.stands
