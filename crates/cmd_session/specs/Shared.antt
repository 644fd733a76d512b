-- Lemmas on runs, their points, and lists, that crates above cite too. They add no meaning to the promises.
use Rattle.std.proofs.Common.{◌≡◌, ◌⊎◌, inl, inr, ⊎_elim, ℕ, zero, suc, ◌+◌, ◌≤◌, ◌==◌, ◌||◌, nat_le, Bool, true, List, [], ◌∷◌, ◌++◌, length, slice_get, Some, unwrap_or, refl, sym, ap, ◌∙◌, arith}
use Rattle.std.proofs.lemmas.Bool.{cases_Bool, cond-true, false≢true, le-leb, or_left, or_right}
use Rattle.disk_contract.specs.declared.disk.Disk.{Ghosts}
use Rattle.disk_contract.specs.declared.event.Event.{Event}
use Rattle.disk_contract.specs.declared.event.Event.TheVariants.{Wrote, Lost, Noticed}
use Rattle.disk_contract.specs.Cell.{is_accepted}
use Rattle.disk_contract.specs.Disk as disk
use Rattle.layout_geometry.specs.Geometry.{Geometry}
use Rattle.lang_tree.specs.declared.command.Cmd.{Cmd}
use Rattle.lang_tree.specs.declared.command.Reply.{Reply}
use Rattle.lang_tree.specs.Points.{Point, begun_by, floor, promised_by}
use Rattle.lang_tree.specs.Tree.{Tree}
use Rattle.engine_blocks.specs.State.{State}
use Rattle.engine_store.specs.declared.store.Store.{Store}
use Rattle.engine_store.specs.StoreOf.{state_of}
use Rattle.cmd_session.specs.Ending.{HasRun}
use Rattle.cmd_session.specs.Serving.{HasServed, IsDrawn}

-- the view of crashes of a store is drawn from its disk
pub drawn : {D : Type 0} {k : Ghosts D} (known : D → disk.State) (s : Store D k) → IsDrawn (state_of known s)
drawn known s = record {
  left = λ since k img from upto honest. record { moment = k; from = from; within = upto; honest = honest };
  holds = λ img m h. h;
  issued = λ m h. h;
}

-- what is served has run
pub has_run : (g : Geometry) (t : Tree) (mounted : ℕ) (cmds : List Cmd) (replies : List Reply) (marks : List ℕ) (s : State) → HasServed g t mounted cmds replies marks s → HasRun g t s.crash.base s.crash.log mounted cmds replies marks
has_run g t mounted cmds replies marks s served = record { run = served.run; stops = served.stops; answered = served.answered; marked = served.marked; ascend = served.ascend; crashes = served.crashes; issued = served.issued }

-- how many points of two lists began by a moment
pub begun_append : (k : ℕ) (xs ys : List Point) → begun_by k (xs ++ ys) ≡ begun_by k xs + begun_by k ys
begun_append k [] ys = omega arith
begun_append k (x ∷ xs) ys = omega (arith, begun_append k xs ys)

-- from its mark on, no crash goes back behind the point that the last reply promises
pub floor_at_last : (k : ℕ) (replies : List Reply) (marks : List ℕ) (reply : Reply) (mark : ℕ) → length marks ≡ length replies → mark ≤ k → promised_by reply ≤ floor k (replies ++ reply ∷ []) (marks ++ mark ∷ [])
floor_at_last k [] [] reply mark same le = omega (arith, cond-true {A = ℕ} (nat_le mark k) (promised_by reply) 0 (le-leb mark k le))
floor_at_last k [] (m ∷ marks) reply mark same le = absurd (omega (arith, same))
floor_at_last k (r ∷ replies) [] reply mark same le = absurd (omega (arith, same))
floor_at_last k (r ∷ replies) (m ∷ marks) reply mark same le = omega (arith, floor_at_last k replies marks reply mark (omega (arith, same)) le)

-- a ticket that was accepted stays so in a longer log
pub accepted_on : (t : ℕ) (xs ys : List Event) → is_accepted t xs ≡ true → is_accepted t (xs ++ ys) ≡ true
accepted_on t [] ys is = absurd (false≢true is)
accepted_on t (Wrote ticket block bytes ∷ xs) ys is =
    ⊎_elim (λ here. or_left (ticket == t) (is_accepted t (xs ++ ys)) here)
    (λ not. or_right (ticket == t) (is_accepted t (xs ++ ys)) (accepted_on t xs ys (sym (ap (λ (b : Bool). b || is_accepted t xs) not) ∙ is)))
    (cases_Bool (ticket == t))
accepted_on t (Lost block bytes ∷ xs) ys is = accepted_on t xs ys is
accepted_on t (Noticed ticket ∷ xs) ys is = accepted_on t xs ys is

-- the last of a list, or one before it
pub get_split_at : {A : Type 0} (xs : List A) (x y : A) (i : ℕ) → slice_get (xs ++ x ∷ []) i ≡ Some y → (slice_get xs i ≡ Some y) ⊎ ((x ≡ y) × (i ≡ length xs))
get_split_at [] x y zero is = inr (ap (λ o. unwrap_or o x) is, refl)
get_split_at [] x y (suc i) is = inl is
get_split_at (z ∷ xs) x y zero is = inl is
get_split_at (z ∷ xs) x y (suc i) is = by (get_split_at xs x y i is)
  where
    by : (slice_get xs i ≡ Some y) ⊎ ((x ≡ y) × (i ≡ length xs)) → (slice_get (z ∷ xs) (suc i) ≡ Some y) ⊎ ((x ≡ y) × (suc i ≡ length (z ∷ xs)))
    by (inl earlier) = inl earlier
    by (inr last) = inr (last.0, ap suc last.1)

-- behind a list comes the next
pub get_behind : {A : Type 0} (xs : List A) (y : A) (ys : List A) → slice_get (xs ++ y ∷ ys) (length xs) ≡ Some y
get_behind [] y ys = refl
get_behind (x ∷ xs) y ys = get_behind xs y ys
