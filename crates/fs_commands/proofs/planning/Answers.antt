-- Plans that change nothing: the tree refuses the command, or the command leaves the tree as it is.
use Rattle.std.proofs.Common.{◌≡◌, ◌≤◌, Some, sym, subst, ap, arith}
use Rattle.layout_geometry.specs.Geometry.{bitmap_blocks}
use Rattle.lang_tree.specs.declared.command.Cmd.{Cmd}
use Rattle.lang_tree.specs.declared.command.Refusal.{Refusal}
use Rattle.lang_tree.specs.declared.command.Reply.TheVariants.{Ok as Done, Refused}
use Rattle.lang_tree.specs.Conditions.{refusal}
use Rattle.lang_tree.specs.Figures.{Figures, nothing}
use Rattle.lang_tree.specs.Sharing.{figures_over_by}
use Rattle.lang_tree.specs.Step.{Session, step, answered}
use Rattle.engine_blocks.specs.Calls.{IsSound}
use Rattle.engine_blocks.specs.State.{Bookkeeping, State}
use Rattle.fs_session.specs.declared.plan.Plan.TheVariants.{Answer}
use Rattle.fs_session.specs.Commands.{alone_on, figures_on, shared_on, FindsRuns}
use Rattle.fs_session.specs.Plans.{IsRight}
use Rattle.fs_session.specs.Space.{HasRoom, left_of}

-- there is room for nothing
pub room_for_nothing : (k : Bookkeeping) (f : Figures) → IsSound k → f ≡ nothing → HasRoom k f
room_for_nothing k f sound e = record {
  blocks = subst (λ n. n ≤ left_of k) (sym (ap (λ (f : Figures). f.need) e)) (omega arith);
  weight = omega (arith, sound.fits, ap (λ (f : Figures). f.cost) e);
}

-- and nothing grows
pub runs_for_nothing : (old : State) (settled : Bookkeeping) (f : Session) (cmd : Cmd) → figures_on old f cmd ≡ nothing → FindsRuns old settled f cmd
runs_for_nothing old settled f cmd e k some grown = absurd (omega (arith, some, ap (λ (f : Figures). f.need) e))

-- the tree refuses the command
pub tree_refuses : (old now : State) (f : Session) (cmd : Cmd) (why : Refusal) → IsSound old.books → now.books ≡ old.books → refusal f.limit f.tree cmd ≡ Some why → IsRight cmd (Answer (Refused why)) old now f
tree_refuses old now f cmd why sound books e =
    let none : figures_on old f cmd ≡ nothing = ap (figures_over_by (bitmap_blocks old.books.geom) (shared_on old f) (alone_on old f) f.limit f.tree cmd) e in
    record {
      answer = sym (ap (λ r. (answered f cmd r).1) e);
      session = ap (λ r. (answered f cmd r).0) e;
      room = room_for_nothing old.books (figures_on old f cmd) sound none;
      runs = runs_for_nothing old now.books f cmd none;
      costs = none;
      books = books;
    }

-- the tree stays as it is
pub tree_stays : (old now : State) (f : Session) (cmd : Cmd) → IsSound old.books → now.books ≡ old.books → step f cmd ≡ (f, Done) → figures_on old f cmd ≡ nothing → IsRight cmd (Answer Done) old now f
tree_stays old now f cmd sound books e none = record {
  answer = sym (ap (λ s. s.1) e);
  session = ap (λ s. s.0) e;
  room = room_for_nothing old.books (figures_on old f cmd) sound none;
  runs = runs_for_nothing old now.books f cmd none;
  costs = none;
  books = books;
}
