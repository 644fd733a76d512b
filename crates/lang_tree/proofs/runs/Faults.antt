-- After a disk fault the session has ended: so it is with one command more, and in a run of a tree in memory, which meets no disk fault.
use Rattle.std.proofs.Common.{◌≡◌, ◌≢◌, ◌<◌, ◌⊎◌, ℕ, zero, suc, false, List, [], ◌∷◌, ◌++◌, length, Some, refl, inl, inr, subst, arith}
use Rattle.std.specs.Prelude.{slice_get}
use Rattle.std.proofs.lemmas.Bool.{false≢true}
use Rattle.std.proofs.lemmas.Option.{same_Some, none-some, slice_get_within}
use Rattle.lang_tree.specs.declared.command.Cmd.{Cmd}
use Rattle.lang_tree.specs.declared.command.Cmd.TheVariants.{Bad}
use Rattle.lang_tree.specs.declared.command.Reply.{Reply}
use Rattle.lang_tree.specs.declared.command.Reply.TheVariants.{Refused}
use Rattle.lang_tree.specs.declared.command.Refusal.TheVariants.{DiskFault, Stopped, NoMemory}
use Rattle.lang_tree.specs.Step.{Session}
use Rattle.lang_tree.specs.Run.{Answers, Run, StopsAfterFault, is_of_memory, is_of_disk}
use Rattle.lang_tree.proofs.runs.Outside.{memory_alone}

-- Places of a list.

in_front : {A : Type 0} (xs more : List A) (i : ℕ) (x : A) → slice_get xs i ≡ Some x → slice_get (xs ++ more) i ≡ Some x
in_front [] more i x e = absurd (none-some _ e)
in_front (y ∷ xs) more zero x e = e
in_front (y ∷ xs) more (suc i) x e = in_front xs more i x e

last_is : {A : Type 0} (xs : List A) (x : A) → slice_get (xs ++ x ∷ []) (length xs) ≡ Some x
last_is [] x = refl
last_is (y ∷ xs) x = last_is xs x

-- what is in a list with one item more is in the list, or is that item
old_or_new : {A : Type 0} (xs : List A) (new : A) (i : ℕ) (x : A) → slice_get (xs ++ new ∷ []) i ≡ Some x → (slice_get xs i ≡ Some x) ⊎ ((i ≡ length xs) × (new ≡ x))
old_or_new [] new zero x e = inr (refl, same_Some _ _ e)
old_or_new [] new (suc i) x e = absurd (none-some _ e)
old_or_new (y ∷ xs) new zero x e = inl e
old_or_new (y ∷ xs) new (suc i) x e = grind (arith, old_or_new xs new i x e)

-- One command more.

module _ (cmds : List Cmd) (replies : List Reply) (cmd : Cmd) (reply : Reply) (even : length cmds ≡ length replies) (so_far : StopsAfterFault cmds replies)
    (ends : (i : ℕ) → slice_get replies i ≡ Some (Refused DiskFault) → cmd ≢ Bad → reply ≡ Refused Stopped) where
  old_command : (i k : ℕ) (c : Cmd) → i < k → slice_get cmds k ≡ Some c → c ≢ Bad
      → (slice_get replies i ≡ Some (Refused DiskFault)) ⊎ ((i ≡ length replies) × (reply ≡ Refused DiskFault)) → slice_get (replies ++ reply ∷ []) k ≡ Some (Refused Stopped)
  old_command i k c below at good (inl fault) = in_front replies (reply ∷ []) k (Refused Stopped) (so_far.each i k c below fault at good)
  old_command i k c below at good (inr last) = absurd (omega (arith, below, last.0, even, slice_get_within cmds k c at))

  new_command : (i k : ℕ) (c : Cmd) → i < k → k ≡ length cmds → cmd ≡ c → c ≢ Bad
      → (slice_get replies i ≡ Some (Refused DiskFault)) ⊎ ((i ≡ length replies) × (reply ≡ Refused DiskFault)) → slice_get (replies ++ reply ∷ []) k ≡ Some (Refused Stopped)
  new_command i k c h1 h2 h3 h4 h5 = grind (arith, last_is)

  stops_at : (i k : ℕ) (c : Cmd) → i < k → c ≢ Bad → (slice_get replies i ≡ Some (Refused DiskFault)) ⊎ ((i ≡ length replies) × (reply ≡ Refused DiskFault))
      → (slice_get cmds k ≡ Some c) ⊎ ((k ≡ length cmds) × (cmd ≡ c)) → slice_get (replies ++ reply ∷ []) k ≡ Some (Refused Stopped)
  stops_at i k c below good fault (inl at) = old_command i k c below at good fault
  stops_at i k c below good fault (inr last) = new_command i k c below last.0 last.1 good fault

  pub stops_more : StopsAfterFault (cmds ++ cmd ∷ []) (replies ++ reply ∷ [])
  stops_more = record {
    each = λ i k c below fault at good.
        stops_at i k c below good (old_or_new replies reply i (Refused DiskFault) fault) (old_or_new cmds cmd k c at);
  }

-- A tree in memory.

no_fault : (is_of_disk DiskFault ≡ false) ⊎ (DiskFault ≡ NoMemory) → ⊥
no_fault h1 = grind (arith, false≢true)

answered_well : (old new : Session) (cmd : Cmd) (reply : Reply) → Answers is_of_memory old cmd reply new → reply ≡ Refused DiskFault → ⊥
answered_well old new cmd reply answer is =
    let P : Reply → Type 0 = λ r. Answers is_of_memory old cmd r new in
    no_fault (memory_alone old new cmd DiskFault (subst P is answer))

run_well : (s end : Session) (cmds : List Cmd) (replies : List Reply) (i : ℕ) → Run is_of_memory s cmds replies end → slice_get replies i ≡ Some (Refused DiskFault) → ⊥
run_well s end [] [] i run e = none-some _ e
run_well s end [] (reply ∷ replies) i run e = absurd run
run_well s end (cmd ∷ cmds) [] i run e = absurd run
run_well s end (cmd ∷ cmds) (reply ∷ replies) zero run e = answered_well s run.0 cmd reply run.1 (same_Some _ _ e)
run_well s end (cmd ∷ cmds) (reply ∷ replies) (suc i) run e = run_well run.0 end cmds replies i run.2 e

pub memory_stops : (s end : Session) (cmds : List Cmd) (replies : List Reply) → Run is_of_memory s cmds replies end → StopsAfterFault cmds replies
memory_stops s end cmds replies run = record { each = λ i k c below fault at good. absurd (run_well s end cmds replies i run fault) }
