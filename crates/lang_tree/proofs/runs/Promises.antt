-- No dsync or dwait answers a point that isn't made: the greatest one that they answered is the last point at most. And only replies to them and to durable promise a point.
use Rattle.std.proofs.Common.{◌≡◌, ℕ, nat_le, Bool, true, false, if◌then◌else◌, List, Option, None, Some, refl, sym, ap, ◌∙◌, inl, inr, arith}
use Rattle.std.proofs.lemmas.Bool.{false≢true, leb-true}
use Rattle.std.specs.FinMap.{get}
use Rattle.lang_tree.specs.declared.command.Cmd.{Cmd}
use Rattle.lang_tree.specs.declared.command.Look.{Look}
use Rattle.lang_tree.specs.declared.command.Look.TheVariants as look
use Rattle.lang_tree.specs.declared.command.Reply.{Reply}
use Rattle.lang_tree.specs.declared.command.Reply.TheVariants.{Ok as Done}
use Rattle.lang_tree.specs.declared.command.Refusal.{Refusal}
use Rattle.lang_tree.specs.Tree.{Tree, Kept, Thing, kept_tree}
use Rattle.lang_tree.specs.Conditions.{refusal}
use Rattle.lang_tree.specs.Step.{Session, step, answered, changed_to, osync, dsync, dwait, stat_of, stat_by, seen, seen_in}
use Rattle.lang_tree.specs.Run.{Answers}
use Rattle.lang_tree.specs.Points.{CountsPoints, asks_for_durability, promised_by}

choice_counts : (s : Session) (t : Tree) (b : Bool) → CountsPoints s → CountsPoints (if b then (s, Done) else changed_to s t).0
choice_counts s t b h1 = grind arith

osync_counts : (s : Session) (b : Bool) → CountsPoints s → CountsPoints (osync s b).0
osync_counts s b h1 = grind arith

dsync_counts : (s : Session) (b : Bool) → CountsPoints s → CountsPoints (dsync s b).0
dsync_counts s b h1 = grind arith

dwait_counts : (s : Session) (n : ℕ) (b : Bool) → nat_le n s.points ≡ b → CountsPoints s → CountsPoints (dwait s n b).0
dwait_counts s n true is ok = record { made = omega (arith, ok.made, leb-true n s.points is); low = ok.low }
dwait_counts s n false is ok = ok

answered_counts : (s : Session) (cmd : Cmd) (r : Option Refusal) → CountsPoints s → CountsPoints (answered s cmd r).0
answered_counts s cmd r h1 = grind (arith, choice_counts, s.tree, osync_counts, s.changed, dsync_counts, dwait_counts, s.points)

pub step_counts : (s : Session) (cmd : Cmd) → CountsPoints s → CountsPoints (step s cmd).0
step_counts s cmd ok = answered_counts s cmd (refusal s.limit s.tree cmd) ok

-- What replies promise.

choice_quiet : (s : Session) (t : Tree) (b : Bool) → promised_by (if b then (s, Done) else changed_to s t).1 ≡ 0
choice_quiet s t b = grind arith

osync_quiet : (s : Session) (b : Bool) → promised_by (osync s b).1 ≡ 0
osync_quiet s b = grind arith

thing_quiet : (t : Tree) (path : List (List ℕ)) (n : ℕ) (thing : Option Thing) → promised_by (stat_of t path n thing) ≡ 0
thing_quiet t path n thing = grind arith

stat_quiet : (t : Tree) (path : List (List ℕ)) (found : Option ℕ) → promised_by (stat_by t path found) ≡ 0
stat_quiet t path found = grind (arith, thing_quiet, t.nodes)

look_quiet : (t : Tree) (l : Look) → promised_by (seen t l) ≡ 0
look_quiet t (look.Read path offset count) = refl
look_quiet t (look.Stat path) = stat_quiet t path (get t.names path)
look_quiet t (look.List path) = refl

seen_quiet : (o : Option Kept) (l : Look) → promised_by (seen_in o l) ≡ 0
seen_quiet None l = refl
seen_quiet (Some k) l = look_quiet (kept_tree k) l

answered_quiet : (s : Session) (cmd : Cmd) (r : Option Refusal) → asks_for_durability cmd ≡ false → promised_by (answered s cmd r).1 ≡ 0
answered_quiet s cmd r h1 = grind (arith, choice_quiet, s.tree, stat_quiet, s.tree.names, seen_quiet, osync_quiet, s.changed, false≢true)

pub promises_nothing : (outside : Refusal → Bool) (old new : Session) (cmd : Cmd) (reply : Reply) → Answers outside old cmd reply new → asks_for_durability cmd ≡ false → promised_by reply ≡ 0
promises_nothing outside old new cmd reply (inl is) e = ap (λ a. promised_by a.1) (sym is) ∙ answered_quiet old cmd (refusal old.limit old.tree cmd) e
promises_nothing outside old new cmd reply (inr (inl h)) e = ap promised_by h.2
promises_nothing outside old new cmd reply (inr (inr h)) e = absurd (false≢true (sym e ∙ ap asks_for_durability h.1.asked))
