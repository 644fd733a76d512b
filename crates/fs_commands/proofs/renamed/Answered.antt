-- The plan of a rename that the tree refuses, and of one whose paths lead to one node.
use Rattle.std.proofs.Common.{◌≡◌, ℕ, Bool, true, false, IsTrue, List, Option, None, Some, Ok, refl, ap, ap₂, subst, sym, ◌∙◌, if◌then◌else◌}
use Rattle.base_types.specs.declared.layout.Layout.{Layout}
use Rattle.layout_geometry.specs.Geometry.{bitmap_blocks}
use Rattle.lang_tree.specs.declared.command.Cmd.TheVariants.{Rename}
use Rattle.lang_tree.specs.declared.command.Refusal.{Refusal}
use Rattle.lang_tree.specs.declared.command.Reply.TheVariants.{Ok as Done, Refused}
use Rattle.lang_tree.specs.Figures.{nothing}
use Rattle.lang_tree.specs.Step.{Session, step}
use Rattle.lang_tree.specs.Tree.{Bounds, Tree}
use Rattle.lang_tree.specs.Walk.{are_same}
use Rattle.crash_stands.specs.Inodes.{Inodes}
use Rattle.crash_stands.specs.Maps.{IsMapOf}
use Rattle.crash_stands.specs.Stands.{IsTreeOf}
use Rattle.crash_stands.specs.Walks.{LeadsTo}
use Rattle.fs_inodes.specs.Figures.{cost_over_by, move_cost}
use Rattle.fs_inodes.specs.Lookups.{number_at}
use Rattle.fs_inodes.specs.Refusals.{rename_reason}
use Rattle.fs_inodes.specs.Replies.{reply_by}
use Rattle.engine_blocks.specs.Calls.{IsSound}
use Rattle.engine_blocks.specs.State.{State}
use Rattle.fs_files.specs.Effects.{LooksOnly}
use Rattle.fs_session.specs.declared.plan.Plan.TheVariants.{Answer}
use Rattle.fs_session.specs.Commands.{alone_on, figures_on, shared_on}
use Rattle.fs_session.specs.Plans.{Plans}
use Rattle.fs_session.specs.Sessions.{inodes}
use Rattle.fs_commands.proofs.planning.Looking.{done_plan, reason_plan}
use Rattle.fs_commands.proofs.renamed.Reasons.{same_is}
use Rattle.fs_commands.proofs.Given.{RefusalLaw, FiguresLaw, ReplyLaw, MapLaw, Rests, session_map}

-- a rename of a node to itself leaves the session as it is
abbrev SameLaw : Type 0
SameLaw = (s : Session) (m : Inodes) (from to : List (List ℕ)) (node : ℕ) → IsMapOf s.limit.nodes m s.tree → LeadsTo m from node → LeadsTo m to node → (step s (Rename from to)).0 ≡ s

-- the tree refuses it
pub refused_rename : {S : Type 0} (tells : Bool) (state : S → State) → Rests tells state → ((s : S) → IsSound (state s).books) → MapLaw → RefusalLaw → (from to : List (List ℕ)) (old new : S) (why : Refusal) → (state old).books.stopped ≡ false
    → (IsTrue tells → (u : Tree) → IsTreeOf (state old).books.geom (state old).map u → rename_reason (state old).books.geom.layout (inodes (state old)) from to ≡ Some why) → LooksOnly tells false (state old) (state new) → Plans tells (Rename from to) (Ok (Answer (Refused why))) (state old) (state new)
refused_rename tells state rests sound map law from to old new why going refuses = reason_plan tells state rests sound map law (Rename from to) old new why going (λ told u h least kept. refuses told u h)

-- both paths lead to one node
pub record LeadToOne (l : Layout) (m : Inodes) (from to : List (List ℕ)) : Type 0 where
  pub node : ℕ
  pub from_leads : LeadsTo m from node
  pub to_leads : LeadsTo m to node
  pub same : are_same (number_at m from) (number_at m to) ≡ true
  pub accepted : rename_reason l m from to ≡ None

pub lead_to_one : (l : Layout) (m : Inodes) (from to : List (List ℕ)) (k : ℕ) (b : Option ℕ) → number_at m from ≡ Some k → number_at m to ≡ b → are_same (Some k) b ≡ true → rename_reason l m from to ≡ None → LeadToOne l m from to
lead_to_one l m from to k b num there is none =
    let same : are_same (number_at m from) (number_at m to) ≡ true = ap₂ are_same num there ∙ is in
    record { node = k; from_leads = num; to_leads = there ∙ same_is k b is; same = same; accepted = none }

module _ (s : State) (f : Session) (from to : List (List ℕ)) (map : IsMapOf f.limit.nodes (inodes s) f.tree) (one : LeadToOne f.limit.layout (inodes s) from to) where
  stays : ReplyLaw → SameLaw → step f (Rename from to) ≡ (f, Done)
  stays replies same =
      ap₂ (λ (a : Session) b. (a, b)) (same f (inodes s) from to one.node map one.from_leads one.to_leads)
      (replies f (inodes s) (Rename from to) map refl ∙ ap (reply_by f.tree.snapshots (inodes s) (Rename from to)) one.accepted)

  no_figures : FiguresLaw → figures_on s f (Rename from to) ≡ nothing
  no_figures counted =
      counted (bitmap_blocks s.books.geom) (shared_on s f) (alone_on s f) f (inodes s) (Rename from to) map
      ∙ ap (cost_over_by (bitmap_blocks s.books.geom) (shared_on s f) (alone_on s f) f.limit f.tree.snapshots (inodes s) (Rename from to)) one.accepted
      ∙ ap (λ b. if b then nothing else move_cost (bitmap_blocks s.books.geom) (shared_on s f) f.limit.layout (inodes s) from to) one.same

pub same_rename : {S : Type 0} (tells : Bool) (state : S → State) → Rests tells state → ((s : S) → IsSound (state s).books) → MapLaw → ReplyLaw → SameLaw → FiguresLaw → (from to : List (List ℕ)) (old new : S) → (state old).books.stopped ≡ false
    → (IsTrue tells → (u : Tree) → IsTreeOf (state old).books.geom (state old).map u → LeadToOne (state old).books.geom.layout (inodes (state old)) from to) → LooksOnly tells false (state old) (state new) → Plans tells (Rename from to) (Ok (Answer Done)) (state old) (state new)
same_rename tells state rests sound map replies same counted from to old new going one looks =
    done_plan tells state rests sound (Rename from to) old new going
    (λ told f h.
    let m = session_map map (state old) f h in
    let o = subst (λ (b : Bounds). LeadToOne b.layout (inodes (state old)) from to) (sym h.limit) (one told f.tree h.tree) in
    (stays (state old) f from to m o replies same, no_figures (state old) f from to m o counted)) looks
