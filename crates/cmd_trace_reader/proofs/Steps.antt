-- What a step of the tree answers and leaves: the numbers of its points, and no refusal from outside.
use Rattle.std.proofs.Common.{◌≡◌, sym, ap, refl, ◌∙◌, subst, arith, ℕ, ◌<◌, ◌^◌, nat_le, Bool, true, false, inl, inr, List, Option, Some, None}
use Rattle.std.specs.Prelude.{◌⊎◌, replicate}
use Rattle.lang_tree.specs.declared.command.Cmd.{Cmd}
use Rattle.lang_tree.specs.declared.command.Cmd.TheVariants.{Write, Fill, Truncate, Rename, Stat, At, Osync, Dsync, Dwait}
use Rattle.lang_tree.specs.declared.command.Look.{Look}
use Rattle.lang_tree.specs.declared.command.Look.TheVariants as look
use Rattle.lang_tree.specs.declared.command.Reply.{Reply}
use Rattle.lang_tree.specs.declared.command.Reply.TheVariants.{Refused}
use Rattle.lang_tree.specs.declared.command.Refusal.{Refusal}
use Rattle.lang_tree.specs.declared.command.Refusal.TheVariants.{Full, TooBig, Scattered, DiskFault, NoMemory}
use Rattle.lang_tree.specs.Tree.{Tree, Kept, kept_tree}
use Rattle.lang_tree.specs.Conditions.{refusal}
use Rattle.lang_tree.specs.Step.{Session, step, answered, write, truncate, rename, stat, seen, seen_in, osync, dsync, dwait}
use Rattle.std.proofs.lemmas.Bool.{leb-true}
use Rattle.std.specs.FinMap.{get}
use Rattle.lang_tree.specs.Points.{CountsPoints}
use Rattle.lang_tree.specs.Run.{Answers, is_of_memory, is_of_disk}
use Rattle.cmd_trace.specs.ReadsAs.{HasSmallFigures}
use Rattle.cmd_trace_reader.specs.Replies.{TellsSmallFigures, is_fault, is_disk_fault, is_out_of_memory, points_by, durable_by}

-- the numbers behind a reply
pub record Counts (s : Session) (r : Session × Reply) : Type 0 where
  pub points : r.0.points ≡ points_by r.1 s.points
  pub durable : r.0.durable ≡ durable_by r.1 s.durable

-- what a stat says of any tree is no point
stat_counts : (s : Session) (t : Tree) (path : List (List ℕ)) → Counts s (s, stat t path)
stat_counts s t path = grind arith

-- nor is what a look at a snapshot shows
look_counts : (s : Session) (t : Tree) (l : Look) → Counts s (s, seen t l)
look_counts s t (look.Read path offset count) = record { points = refl; durable = refl }
look_counts s t (look.Stat path) = stat_counts s t path
look_counts s t (look.List path) = record { points = refl; durable = refl }

at_counts : (s : Session) (k : Option Kept) (l : Look) → Counts s (s, seen_in k l)
at_counts s None l = record { points = refl; durable = refl }
at_counts s (Some k) l = look_counts s (kept_tree k) l

write_counts : (s : Session) (path : List (List ℕ)) (offset : ℕ) (bytes : List ℕ) → Counts s (write s path offset bytes)
write_counts s path offset bytes = grind arith

truncate_counts : (s : Session) (path : List (List ℕ)) (size : ℕ) → Counts s (truncate s path size)
truncate_counts s path size = grind arith

rename_counts : (s : Session) (from to : List (List ℕ)) → Counts s (rename s from to)
rename_counts s from to = grind arith

osync_counts : (s : Session) (changed : Bool) → Counts s (osync s changed)
osync_counts s changed = grind arith

-- a dsync answers no point below the last one, nor one below what was answered
dsync_counts : (s : Session) (changed : Bool) → CountsPoints s → Counts s (dsync s changed)
dsync_counts s true ok = record { points = omega (arith, ok.low); durable = omega (arith, ok.made, ok.low) }
dsync_counts s false ok = record { points = omega arith; durable = omega (arith, ok.made) }

dwait_counts : (s : Session) (n : ℕ) (b : Bool) → nat_le n s.points ≡ b → Counts s (dwait s n b)
dwait_counts s n true is = record { points = omega (arith, leb-true n s.points is); durable = refl }
dwait_counts s n false is = record { points = refl; durable = refl }

answered_counts : (s : Session) (cmd : Cmd) (o : Option Refusal) → CountsPoints s → Counts s (answered s cmd o)
answered_counts s cmd (Some why) ok = record { points = refl; durable = refl }
answered_counts s (Write path offset bytes) None ok = write_counts s path offset bytes
answered_counts s (Fill path offset count byte) None ok = write_counts s path offset (replicate count byte)
answered_counts s (Truncate path size) None ok = truncate_counts s path size
answered_counts s (Rename from to) None ok = rename_counts s from to
answered_counts s (Stat path) None ok = stat_counts s s.tree path
answered_counts s (At name l) None ok = at_counts s (get s.tree.snapshots name) l
answered_counts s Osync None ok = osync_counts s s.changed
answered_counts s Dsync None ok = dsync_counts s s.changed ok
answered_counts s (Dwait n) None ok = dwait_counts s n (nat_le n s.points) refl
answered_counts s other None ok = record { points = refl; durable = refl }

pub step_counts : (s : Session) (cmd : Cmd) → CountsPoints s → Counts s (step s cmd)
step_counts s cmd ok = answered_counts s cmd (refusal s.limit s.tree cmd) ok

-- the points alone, where their number has 64 bits

dsync_points : (s : Session) (changed : Bool) → s.points < 2 ^ 64 → (dsync s changed).0.points ≡ points_by (dsync s changed).1 s.points
dsync_points s true low = omega (arith, low)
dsync_points s false low = omega arith

answered_points : (s : Session) (cmd : Cmd) (o : Option Refusal) → s.points < 2 ^ 64 → (answered s cmd o).0.points ≡ points_by (answered s cmd o).1 s.points
answered_points s cmd (Some why) low = refl
answered_points s (Write path offset bytes) None low = (write_counts s path offset bytes).points
answered_points s (Fill path offset count byte) None low = (write_counts s path offset (replicate count byte)).points
answered_points s (Truncate path size) None low = (truncate_counts s path size).points
answered_points s (Rename from to) None low = (rename_counts s from to).points
answered_points s (Stat path) None low = (stat_counts s s.tree path).points
answered_points s (At name l) None low = (at_counts s (get s.tree.snapshots name) l).points
answered_points s Osync None low = (osync_counts s s.changed).points
answered_points s Dsync None low = dsync_points s s.changed low
answered_points s (Dwait n) None low = (dwait_counts s n (nat_le n s.points) refl).points
answered_points s other None low = refl

pub step_points : (s : Session) (cmd : Cmd) → s.points < 2 ^ 64 → (step s cmd).0.points ≡ points_by (step s cmd).1 s.points
step_points s cmd low = answered_points s cmd (refusal s.limit s.tree cmd) low

-- ---- a step refuses by no reason from outside

-- what the law says of a tree in memory, as it is handed to each lemma
pub record Alone : Type 0 where
  pub exact : (old new : Session) (cmd : Cmd) (reply : Reply) → Answers is_of_memory old cmd reply new → (step old cmd ≡ (new, reply)) ⊎ ((reply ≡ Refused NoMemory) × (new ≡ old))
  pub alone : (old new : Session) (cmd : Cmd) (why : Refusal) → Answers is_of_memory old cmd (Refused why) new → (is_of_disk why ≡ false) ⊎ (why ≡ NoMemory)

small_outside : (why : Refusal) → (is_of_disk why ≡ false) ⊎ (why ≡ NoMemory) → HasSmallFigures why × (is_disk_fault why ≡ false)
small_outside (Full need left) (inl h) = cc h
small_outside (Full need left) (inr h) = cc h
small_outside (TooBig weight cost room) (inl h) = cc h
small_outside (TooBig weight cost room) (inr h) = cc h
small_outside (Scattered runs) (inl h) = cc h
small_outside (Scattered runs) (inr h) = cc h
small_outside DiskFault (inl h) = cc h
small_outside DiskFault (inr h) = cc h
small_outside other h = (tt, refl)

pub step_is_small : Alone → (s : Session) (cmd : Cmd) → TellsSmallFigures (step s cmd).1 × (is_fault (step s cmd).1 ≡ false)
step_is_small law s cmd = go (step s cmd).1 refl
  where
    go : (reply : Reply) → (step s cmd).1 ≡ reply → TellsSmallFigures reply × (is_fault reply ≡ false)
    go (Refused why) e =
        small_outside why (law.alone s (step s cmd).0 cmd why (inl (ap (λ reply. ((step s cmd).0, reply)) e)))
    go other e = (tt, refl)

-- ---- the numbers that are kept, behind a command that a tree in memory answered

memory_numbers : (reply : Reply) (points durable : ℕ) → is_out_of_memory reply ≡ true → (points_by reply points ≡ points) × (durable_by reply durable ≡ durable)
memory_numbers (Refused why) points durable h = (refl, refl)
memory_numbers other points durable h = cc h

abbrev pub KeepsCounts : ℕ → ℕ → Session → Type 0
KeepsCounts points durable s = (points ≡ s.points) × (durable ≡ s.durable) × CountsPoints s

pub counts_kept : Alone → ((s : Session) (cmd : Cmd) → CountsPoints s → CountsPoints (step s cmd).0) → (old new : Session) (cmd : Cmd) (reply : Reply) (points durable : ℕ)
    → KeepsCounts points durable old → Answers is_of_memory old cmd reply new → KeepsCounts (points_by reply points) (durable_by reply durable) new
counts_kept law more old new cmd reply points durable keeps answers = go (law.exact old new cmd reply answers)
  where
    go : (step old cmd ≡ (new, reply)) ⊎ ((reply ≡ Refused NoMemory) × (new ≡ old)) → KeepsCounts (points_by reply points) (durable_by reply durable) new
    go (inl stepped) =
        let session : (step old cmd).0 ≡ new = ap (λ (r : Session × Reply). r.0) stepped in
        let answer : (step old cmd).1 ≡ reply = ap (λ (r : Session × Reply). r.1) stepped in
        let counts = step_counts old cmd keeps.2 in (
          ap (points_by reply) keeps.0 ∙ ap (λ r. points_by r old.points) (sym answer) ∙ sym counts.points ∙ ap (λ (s : Session). s.points) session,
          ap (durable_by reply) keeps.1 ∙ ap (λ r. durable_by r old.durable) (sym answer) ∙ sym counts.durable ∙ ap (λ (s : Session). s.durable) session,
          subst CountsPoints session (more old cmd keeps.2),
        )
    go (inr refused) = (
      ap (λ r. points_by r points) refused.0 ∙ keeps.0 ∙ ap (λ (s : Session). s.points) (sym refused.1),
      ap (λ r. durable_by r durable) refused.0 ∙ keeps.1 ∙ ap (λ (s : Session). s.durable) (sym refused.1),
      subst CountsPoints (sym refused.1) keeps.2,
    )

pub memory_kept : Alone → ((s : Session) (cmd : Cmd) → CountsPoints s → CountsPoints (step s cmd).0) → (old new : Session) (cmd : Cmd) (reply : Reply) (points durable : ℕ)
    → KeepsCounts points durable old → Answers is_of_memory old cmd reply new → is_out_of_memory reply ≡ true → KeepsCounts points durable new
memory_kept law more old new cmd reply points durable keeps answers lacks =
    let kept = counts_kept law more old new cmd reply points durable keeps answers in
    let same = memory_numbers reply points durable lacks in
    (sym same.0 ∙ kept.0, sym same.1 ∙ kept.1, kept.2)
