-- Plans of commands that only look: the reply, and nothing changes.
use Rattle.std.proofs.Common.{◌≡◌, Bool, false, IsTrue, List, ℕ, Option, None, Some, Result, Ok, Err, IfOk, IfErr, refl, subst, sym}
use Rattle.lang_tree.specs.declared.command.Cmd.{Cmd}
use Rattle.lang_tree.specs.declared.command.Cmd.TheVariants.{At, Read, Snaps, Stat, List as ListNames}
use Rattle.lang_tree.specs.declared.command.Look.{Look}
use Rattle.lang_tree.specs.declared.command.Refusal.{Refusal}
use Rattle.lang_tree.specs.declared.command.Reply.{Reply}
use Rattle.lang_tree.specs.Conditions.{refusal}
use Rattle.lang_tree.specs.Figures.{nothing}
use Rattle.lang_tree.specs.Sharing.{BlocksAlone, SharedNodes, figures_over, figures_over_by}
use Rattle.lang_tree.specs.Step.{Session, step, answered}
use Rattle.engine_blocks.specs.Calls.{IsSound}
use Rattle.engine_blocks.specs.State.{State}
use Rattle.layout_geometry.specs.Geometry.{bitmap_blocks}
use Rattle.fs_files.specs.declared.refusal.FileRefusal.{FileRefusal}
use Rattle.fs_files.specs.Calls.{LookRefused}
use Rattle.fs_files.specs.Content.{fails_reading}
use Rattle.fs_files.specs.Effects.{LooksOnly}
use Rattle.fs_session.specs.Commands.{alone_on, figures_on, shared_on}
use Rattle.fs_session.specs.Plans.{Plans}
use Rattle.fs_commands.specs.Looks.{answer_of}
use Rattle.fs_session.specs.Sessions.{IsSession}
use Rattle.fs_commands.proofs.planning.Answers.{room_for_nothing, runs_for_nothing}
use Rattle.fs_commands.proofs.planning.Looking.{looked_plan, cut_short}
use Rattle.fs_commands.proofs.Given.{Rests}
use Rattle.fs_session.specs.declared.plan.Plan.{Plan}
use Rattle.fs_commands.specs.Refusals.{refusal_of}
use Rattle.fs_session.specs.declared.plan.Plan.TheVariants.{Answer}

-- The command leaves each session as it is, and takes nothing.
pub record Looks (cmd : Cmd) : Type 0 where
  pub stays : (f : Session) → (step f cmd).0 ≡ f
  pub takes : (bitmap : ℕ) (shared : SharedNodes) (alone : BlocksAlone) (f : Session) → figures_over bitmap shared alone f cmd ≡ nothing

-- one that does so where the tree accepts it
looks_by : (cmd : Cmd) → ((f : Session) → (answered f cmd None).0 ≡ f) → ((bitmap : ℕ) (shared : SharedNodes) (alone : BlocksAlone) (f : Session) → figures_over_by bitmap shared alone f.limit f.tree cmd None ≡ nothing) → Looks cmd
looks_by cmd accepted costless = record { stays = λ f. stays f (refusal f.limit f.tree cmd); takes = λ bitmap shared alone f. takes bitmap shared alone f (refusal f.limit f.tree cmd) }
  where
    stays : (f : Session) (r : Option Refusal) → (answered f cmd r).0 ≡ f
    stays f None = accepted f
    stays f (Some why) = refl

    takes : (bitmap : ℕ) (shared : SharedNodes) (alone : BlocksAlone) (f : Session) (r : Option Refusal) → figures_over_by bitmap shared alone f.limit f.tree cmd r ≡ nothing
    takes bitmap shared alone f None = costless bitmap shared alone f
    takes bitmap shared alone f (Some why) = refl

pub read_looks : (path : List (List ℕ)) (offset count : ℕ) → Looks (Read path offset count)
read_looks path offset count = looks_by (Read path offset count) (λ f. refl) (λ bitmap shared alone f. refl)

pub stat_looks : (path : List (List ℕ)) → Looks (Stat path)
stat_looks path = looks_by (Stat path) (λ f. refl) (λ bitmap shared alone f. refl)

pub list_looks : (path : List (List ℕ)) → Looks (ListNames path)
list_looks path = looks_by (ListNames path) (λ f. refl) (λ bitmap shared alone f. refl)

pub snaps_looks : Looks Snaps
snaps_looks = looks_by Snaps (λ f. refl) (λ bitmap shared alone f. refl)

pub at_looks : (name : List ℕ) (l : Look) → Looks (At name l)
at_looks name l = looks_by (At name l) (λ f. refl) (λ bitmap shared alone f. refl)

-- its plan is what the look answers
pub look_plan : {S : Type 0} (tells : Bool) (state : S → State) → Rests tells state → ((s : S) → IsSound (state s).books) → (cmd : Cmd) (old new : S) (result : Result Reply FileRefusal) (plan : Result Plan Refusal) → plan ≡ answer_of result → Looks cmd
    → (state old).books.stopped ≡ false → (IsTrue tells → IfOk result (λ reply. (f : Session) → IsSession (state old) f → reply ≡ (step f cmd).1)) → IfErr result LookRefused → LooksOnly tells (fails_reading result) (state old) (state new) → Plans tells cmd plan (state old) (state new)
look_plan tells state rests sound cmd old new (Ok reply) plan is looks going answer refused only = subst (λ p. Plans tells cmd p (state old) (state new)) (sym is) (looked_plan tells state rests cmd (Ok (Answer reply)) old new going refl refl
    (λ told f h. let none = looks.takes (bitmap_blocks (state old).books.geom) (shared_on (state old) f) (alone_on (state old) f) f in record {
      answer = answer told f h;
      session = looks.stays f;
      room = room_for_nothing (state old).books (figures_on (state old) f cmd) (sound old) none;
      runs = runs_for_nothing (state old) (state new).books f cmd none;
      costs = none;
      books = only.books;
    }) only)
look_plan tells state rests sound cmd old new (Err why) plan is looks going answer refused only =
    subst (λ p. Plans tells cmd p (state old) (state new)) (sym is) (cut_short tells state rests cmd old new why (refusal_of why) refl going refused only)
