-- Whether what stands under a name may go, from what its path comes to.
use Rattle.std.proofs.Common.{◌≡◌, ◌≢◌, ◌≤◌, ℕ, Bool, false, IsTrue, List, [], ◌∷◌, ◌++◌, length, Option, None, Some, IfSome, Result, Ok, Err, sym, subst, ◌∙◌}
use Rattle.base_types.specs.declared.layout.Layout.{Layout}
use Rattle.lang_tree.specs.declared.command.Cmd.{Cmd}
use Rattle.lang_tree.specs.declared.command.Kind.{Kind}
use Rattle.lang_tree.specs.declared.command.Refusal.{Refusal}
use Rattle.crash_stands.specs.Files.{Files}
use Rattle.crash_stands.specs.Inodes.{Inodes, inodes_of}
use Rattle.fs_inodes.specs.Lookups.{walk_on}
use Rattle.engine_blocks.specs.State.{State, reusable_blocks}
use Rattle.fs_files.specs.Calls.{files_in}
use Rattle.fs_files.specs.Drafts.{nothing_drafted}
use Rattle.fs_files.specs.Effects.{LooksOnly}
use Rattle.fs_commands.specs.declared.paths.Entry.{Entry}
use Rattle.fs_commands.specs.declared.paths.Spot.TheVariants.{Inside}
use Rattle.fs_commands.specs.declared.removing.Named.{Named}
use Rattle.fs_session.specs.declared.plan.Plan.{Plan}
use Rattle.fs_session.specs.Commands.{figures_on}
use Rattle.fs_commands.specs.Looks.{ComesTo, ShowsFacts, entry_number}
use Rattle.fs_session.specs.Plans.{Plans, PlanIs}
use Rattle.fs_commands.specs.Removing.{IsLoss, MayLose, lose_reason}
use Rattle.fs_commands.proofs.looking.Found.{over_same}

-- a path with a last name isn't the root
pub not_root : (path up : List (List ℕ)) (name : List ℕ) → path ≡ up ++ name ∷ [] → path ≢ []
not_root path up name is none = some up (sym is ∙ none)
  where
    some : (up : List (List ℕ)) → up ++ name ∷ [] ≡ [] → ⊥
    some [] e = absurd cc
    some (a ∷ up) e = absurd cc

-- what was decided of the entry holds for each map and path that lead to it
abbrev pub LosesLaw : Kind → Option Entry → Result Entry Refusal → Type 0
LosesLaw kind entry r = (m : Inodes) (path : List (List ℕ)) → walk_on m 1 path ≡ entry_number entry → path ≢ [] → IfSome entry (λ e. ShowsFacts m path e.node.facts) → MayLose kind m path entry r

-- it may go, or the tree refuses it
abbrev pub Decides : Kind → Layout → Files → List (List ℕ) → ℕ → ℕ → Result Entry Refusal → Type 0
Decides kind l files path dir count (Ok e) = IsLoss kind l files path (record { dir = dir; count = count; entry = e })
Decides kind l files path dir count (Err why) = lose_reason kind (inodes_of l files) path ≡ Some why

module _ (kind : Kind) (l : Layout) (files : Files) (path : List (List ℕ)) (dir count : ℕ) (entry : Option Entry) (comes : ComesTo l files path (Ok (Inside dir count entry)))
    (walked : walk_on (inodes_of l files) 1 path ≡ entry_number entry) (shows : (e : Entry) → ComesTo l files path (Ok (Inside dir count (Some e))) → ShowsFacts (inodes_of l files) path e.node.facts) where
  shown : (o : Option Entry) → ComesTo l files path (Ok (Inside dir count o)) → IfSome o (λ e. ShowsFacts (inodes_of l files) path e.node.facts)
  shown None h = tt
  shown (Some e) h = shows e h

  may_lose : (r : Result Entry Refusal) → LosesLaw kind entry r → MayLose kind (inodes_of l files) path entry r
  may_lose r law = law (inodes_of l files) path walked (not_root path comes.0 comes.1 comes.2) (shown entry comes)

  pub decides : (r : Result Entry Refusal) → LosesLaw kind entry r → Decides kind l files path dir count r
  decides (Err why) law = may_lose (Err why) law
  decides (Ok e) law = let may = may_lose (Ok e) law in record { comes = subst (λ (o : Option Entry). ComesTo l files path (Ok (Inside dir count o))) may.0 comes; accepted = may.1 }

-- the plan of a command is that of one that is the same where the blocks are known
pub plans_as : (tells : Bool) (cmd other : Cmd) (result : Result Plan Refusal) (s t : State) → (IsTrue tells → cmd ≡ other) → Plans tells cmd result s t → Plans tells other result s t
plans_as tells cmd other result s t same plans = record {
  is = λ told f h. subst (λ (c : Cmd). PlanIs c result s t f) (same told) (plans.is told f h);
  going = plans.going;
  quiet = λ told f h enough. plans.quiet told f h (subst (λ (c : Cmd). (figures_on s f c).need ≤ length (reusable_blocks s.books)) (sym (same told)) enough);
  settles = plans.settles;
}

-- what goes is there still behind reads
pub loss_still : (tells : Bool) (s t : State) (kind : Kind) (path : List (List ℕ)) (n : Named) → LooksOnly tells false s t → IsTrue tells → IsLoss kind s.books.geom.layout (files_in s nothing_drafted) path n → IsLoss kind t.books.geom.layout (files_in t nothing_drafted) path n
loss_still tells s t kind path n looks told loss = over_same tells s t looks told (λ l files. IsLoss kind l files path n) loss
