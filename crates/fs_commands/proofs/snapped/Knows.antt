-- What is so of geometry and blocks stays so where both are the same, and over a command that leaves the snapshots if it stays over its draft. So does what is known of snapshots.
use Rattle.std.proofs.Common.{◌≡◌, ℕ, nat_lt, Bool, false, IsTrue, List, Option, Result, Ok, Err, OnOk, OnErr, refl, sym, subst, ◌∙◌, arith}
use Rattle.std.proofs.lemmas.Bool.{true≢false}
use Rattle.crash_stands.specs.Bounds.{bounds_of}
use Rattle.base_types.specs.Seal.{Blocks}
use Rattle.layout_geometry.specs.Geometry.{Geometry}
use Rattle.lang_tree.specs.declared.command.Cmd.{Cmd}
use Rattle.lang_tree.specs.declared.command.Cmd.TheVariants.{Snap, Unsnap}
use Rattle.lang_tree.specs.declared.command.Refusal.{Refusal}
use Rattle.lang_tree.specs.declared.command.Reply.{Reply}
use Rattle.lang_tree.specs.Step.{Session, changes_snapshots}
use Rattle.lang_tree.specs.Tree.{Tree}
use Rattle.crash_stands.specs.Stands.{IsTreeOf}
use Rattle.engine_blocks.specs.State.{State}
use Rattle.fs_files.specs.Drafts.{DraftState}
use Rattle.fs_files.specs.Sound.{IsDraftOf}
use Rattle.fs_snapshots.specs.Known.{KnowsSnapshots}
use Rattle.fs_session.specs.declared.plan.Plan.{Plan}
use Rattle.fs_session.specs.declared.plan.Plan.TheVariants.{Answer, Change}
use Rattle.fs_session.specs.Commands.{SpendsNothing}
use Rattle.fs_session.specs.Plans.{HasDrafted, LeavesMap, MakesSnapshots, MayBeMade, OnChange, Plans, StaysBeside}
use Rattle.fs_session.specs.Sessions.{IsSession, Stands}
use Rattle.fs_session.specs.Staying.{tree_stays}

-- where blocks and geometry are the same
pub same_so : (P : Geometry → Blocks → Type 0) (s t : State) → t.books.geom ≡ s.books.geom → t.map ≡ s.map → P s.books.geom s.map → P t.books.geom t.map
same_so P s t geom map h = subst (λ (g : Geometry). P g t.map) (sym geom) (subst (P s.books.geom) (sym map) h)

pub knows_same : (s t : State) (counts : List ℕ) (numbers : List ℕ → Option ℕ) → t.books.geom ≡ s.books.geom → t.map ≡ s.map → KnowsSnapshots s.books.geom s.map counts numbers → KnowsSnapshots t.books.geom t.map counts numbers
knows_same s t counts numbers = same_so (λ g m. KnowsSnapshots g m counts numbers) s t

-- blocks where a tree stands have a session
pub session_of : (s : State) (stands : Stands s) → (f : Session) × IsSession s f
session_of s (t, tree) = (
  record { tree = t; limit = bounds_of s.books.geom; points = s.books.point; changed = nat_lt 0 s.books.running.weight; durable = 0 },
  record {
    tree = tree;
    limit = refl;
    points = λ going. refl;
    changed = λ going. refl;
    durable = omega arith;
  },
)

stays_beside : (cmd : Cmd) (d : DraftState) (now : State) (f : Session) → changes_snapshots cmd ≡ false → MakesSnapshots cmd d now f → StaysBeside d now
stays_beside (Snap name) d now f e h = absurd (true≢false e)
stays_beside (Unsnap name) d now f e h = absurd (true≢false e)
stays_beside cmd d now f e h = h

-- it stays over a draft that leaves the snapshots
abbrev pub StaysOver : (Geometry → Blocks → Type 0) → Bool → State → Type 0
StaysOver P tells q = (d : DraftState) (m : Blocks) (t : Tree) → IsTreeOf q.books.geom q.map t → IsDraftOf tells q d → StaysBeside d q → HasDrafted q d m → P q.books.geom q.map → P q.books.geom m

module _ (P : Geometry → Blocks → Type 0) (tells : Bool) (s q t : State) (cmd : Cmd) (told : IsTrue tells) (leaves : changes_snapshots cmd ≡ false) (stands : Stands s) (geom : q.books.geom ≡ s.books.geom) (map : q.map ≡ s.map) (end : t.books.geom ≡ s.books.geom) (law : StaysOver P tells q)
    (was : P s.books.geom s.map) where
  planned_so : (planned : Result Plan Refusal) → Plans tells cmd planned s q → OnChange planned (λ d cost nodes. MayBeMade tells d cost nodes q) → LeavesMap planned q t → P q.books.geom t.map
  planned_so (Err why) plans made left = absurd left
  planned_so (Ok (Answer reply)) plans made left = subst (P q.books.geom) (sym left) (same_so P s q geom map was)
  planned_so (Ok (Change d cost nodes)) plans made left =
      let session = session_of s stands in
      law d t.map stands.0 (tree_stays s q stands.0 geom map stands.1) made.draft (stays_beside cmd d q session.0 leaves (plans.is told session.0 session.1).snapshots) left (same_so P s q geom map was)

  pub carried_so : (planned : Result Plan Refusal) (r : Result Reply Refusal) → Plans tells cmd planned s q → OnChange planned (λ d cost nodes. MayBeMade tells d cost nodes q) → OnOk r (LeavesMap planned q t) → OnErr r (SpendsNothing tells s t)
      → P t.books.geom t.map
  carried_so planned (Ok reply) plans made left spent = subst (λ (g : Geometry). P g t.map) (geom ∙ sym end) (planned_so planned plans made left)
  carried_so planned (Err why) plans made left spent = same_so P s t end (spent.map told) was
