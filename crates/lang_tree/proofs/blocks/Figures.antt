-- A command changes a session exactly where it costs something in the journal, sync points aside.
use Rattle.std.proofs.Common.{◌≡◌, ℕ, ◌<◌, ◌==◌, Bool, true, false, ◌||◌, if◌then◌else◌, nat_lt, length, replicate, Option, ap, ◌∙◌, arith, lt-ltb, le-ltb, eqb-true}
use Rattle.std.proofs.lemmas.Bool.{cases_lt, eqb-false}
use Rattle.std.proofs.lemmas.List.{length-replicate}
use Rattle.lang_tree.specs.declared.command.Cmd.{Cmd}
use Rattle.lang_tree.specs.declared.command.Reply.TheVariants.{Ok as Done}
use Rattle.lang_tree.specs.declared.command.Refusal.{Refusal}
use Rattle.lang_tree.specs.Tree.{Tree}
use Rattle.lang_tree.specs.Conditions.{refusal}
use Rattle.lang_tree.specs.Step.{Session, step, answered, changed_to, dwait}
use Rattle.lang_tree.specs.Points.{is_sync}
use Rattle.lang_tree.specs.Figures.{Figures, nothing, moving, writing, snapping, shrinking, truncate_figures, figures_by, figures}

or_false : (b : Bool) → b ≡ (b || false)
or_false b = grind arith

costs : (b : Bool) (n : ℕ) → 0 < n → true ≡ (b || nat_lt 0 n)
costs b n h1 = grind (arith, lt-ltb)

choice_costs : (s : Session) (t : Tree) (b : Bool) (f : Figures) → 0 < f.cost → (if b then (s, Done) else changed_to s t).0.changed ≡ (s.changed || nat_lt 0 (if b then nothing else f).cost)
choice_costs s t b f h1 = grind (arith, or_false, s.changed, costs, f.cost)

writing_costs : (bitmap size lo hi : ℕ) → 0 < (writing bitmap size lo hi).cost
writing_costs bitmap size lo hi = omega arith

snapping_costs : (bitmap count : ℕ) → 0 < (snapping bitmap count).cost
snapping_costs bitmap count = omega arith

shrinking_costs : (bitmap freed : ℕ) → 0 < (shrinking bitmap freed).cost
shrinking_costs bitmap freed = omega arith

moving_costs : (bitmap grown freed : ℕ) → 0 < (moving bitmap grown freed).cost
moving_costs bitmap grown freed = omega arith

move_costs : (bitmap : ℕ) (a b : Bool) (grown freed more : ℕ) → 0 < (if a then moving bitmap 0 freed else if b then moving bitmap 0 0 else moving bitmap grown more).cost
move_costs bitmap a b grown freed more = grind (arith, moving_costs)

truncate_costs : (s : Session) (t : Tree) (bitmap old new : ℕ) → (if new == old then (s, Done) else changed_to s t).0.changed ≡ (s.changed || nat_lt 0 (truncate_figures bitmap old new).cost)
truncate_costs s t bitmap old new = grind (arith, cases_lt old new, new == old, nat_lt old new, nat_lt new old, writing_costs bitmap old old new, s.changed, or_false, costs, writing_costs, eqb-true, le-ltb, cases_lt, eqb-false, lt-ltb)

fill_costs : (s : Session) (t : Tree) (count byte : ℕ) (f : Figures) → 0 < f.cost
    → (if length (replicate count byte) == 0 then (s, Done) else changed_to s t).0.changed ≡ (s.changed || nat_lt 0 (if count == 0 then nothing else f).cost)
fill_costs s t count byte f h = ap (λ n. (if n == 0 then (s, Done) else changed_to s t).0.changed) (length-replicate count byte) ∙ choice_costs s t (count == 0) f h

dwait_costs : (s : Session) (n : ℕ) (b : Bool) → (dwait s n b).0.changed ≡ (s.changed || nat_lt 0 nothing.cost)
dwait_costs s n true = or_false s.changed
dwait_costs s n false = or_false s.changed

answered_costs : (bitmap : ℕ) (s : Session) (cmd : Cmd) (r : Option Refusal) → is_sync cmd ≡ false
    → (answered s cmd r).0.changed ≡ (s.changed || nat_lt 0 (figures_by bitmap s.limit s.tree cmd r).cost)
answered_costs bitmap s cmd r h1 = grind (arith, or_false, s.changed, costs, truncate_costs, s.tree, s.limit, choice_costs, writing_costs, fill_costs, move_costs, snapping_costs, shrinking_costs, dwait_costs, s.points)

pub changed_where_it_costs : (bitmap : ℕ) (s : Session) (cmd : Cmd) → is_sync cmd ≡ false → (step s cmd).0.changed ≡ (s.changed || nat_lt 0 (figures bitmap s cmd).cost)
changed_where_it_costs bitmap s cmd e = answered_costs bitmap s cmd (refusal s.limit s.tree cmd) e
