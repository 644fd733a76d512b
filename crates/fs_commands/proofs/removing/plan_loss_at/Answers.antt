use Rattle.std.proofs.Common.{[], Ok, Err, sym, subst, ap, ◌∙◌, Result, IsTrue}
use Rattle.fs_files.specs.Calls.{files_in}
use Rattle.fs_files.specs.Drafts.{nothing_drafted}
use Rattle.fs_commands.specs.declared.paths.Entry.{Entry}
use Rattle.fs_commands.specs.declared.paths.Spot.{Spot}
use Rattle.fs_commands.specs.Looks.{ComesTo, walk_of}
use Rattle.fs_commands.specs.Removing.{lose_cmd}
use Rattle.fs_commands.proofs.removed.Decided.{Decides, LosesLaw, decides, plans_as}
use Rattle.fs_commands.proofs.removed.Refused.{refused_loss}
use Rattle.fs_commands.proofs.removing.plan_loss_at.Given as given
use Rattle.fs_commands.proofs.removing.plan_loss_at.Goals as goal
use Rattle.fs_commands.proofs.removing.plan_loss_at.Goals.{After-entry_to_lose}
use Rattle.fs_commands.proofs.planning.Looking.{no_look}
use Rattle.lang_tree.specs.declared.command.Refusal.{Refusal}
use Rattle.lang_tree.specs.Tree.{Tree}
use Rattle.crash_stands.specs.Stands.{IsTreeOf}

pub returns-in-Root-clause-plans : goal.returns-in-Root-clause-plans
returns-in-Root-clause-plans g c =
    let s = g.S.Blocks.state c.args.blocks.now in
    plans_as g.S.Blocks.tells (lose_cmd c.args.kind []) (lose_cmd c.args.kind c.args.path.now) c.plan_root_loss.result s (g.S.Blocks.state c.plan_root_loss.new.blocks)
    (λ told. ap (lose_cmd c.args.kind) (sym (subst (λ (p : Spot). ComesTo s.books.geom.layout (files_in s nothing_drafted) c.args.path.now (Ok p)) c.in-Root.is (c.requires.comes told))))
    c.plan_root_loss.ensures.plans

-- where the path comes to an entry, what may be lost there is decided
decided : (g : given.Over) (c : goal.After-entry_to_lose g) (r : Result Entry Refusal) → LosesLaw c.args.kind c.in-Inside.entry r → IsTrue g.S.Blocks.tells → (t : Tree) → IsTreeOf (g.S.Blocks.state c.args.blocks.now).books.geom (g.S.Blocks.state c.args.blocks.now).map t
    → Decides c.args.kind (g.S.Blocks.state c.args.blocks.now).books.geom.layout (files_in (g.S.Blocks.state c.args.blocks.now) nothing_drafted) c.args.path.now c.in-Inside.dir c.in-Inside.count r
decided g c r law told t h =
    let here = c.in-Inside in
    let files = files_in (g.S.Blocks.state c.args.blocks.now) nothing_drafted in
    decides c.args.kind (g.S.Blocks.state c.args.blocks.now).books.geom.layout files c.args.path.now here.dir here.count here.entry
    (subst (λ (p : Spot). ComesTo (g.S.Blocks.state c.args.blocks.now).books.geom.layout files c.args.path.now (Ok p)) here.is (c.requires.comes told))
    (c.what_a_path_comes_to_gives_the_walk.ensures.walk (g.S.Blocks.state c.args.blocks.now).books.geom.layout files c.args.path.now (Ok c.args.spot.now) (c.requires.comes told) ∙ ap (λ (p : Spot). walk_of (Ok p)) here.is)
    (λ e k. c.what_stands_there_is_shown.ensures told t c.args.path.now here.dir here.count e h k) r law

pub plan_name_loss-requires-clause-loss : goal.plan_name_loss-requires-clause-loss
plan_name_loss-requires-clause-loss g c = λ told.
    let tree = c.requires.may.stands told in
    (c.args.path.now, decided g (goal.at.plan_name_loss-requires-clause-loss g c).After-entry_to_lose (Ok c.in-Ok.entry) c.in-Ok.ensures.loses told tree.0 tree.1)

pub returns-in-Ok-clause-plans : goal.returns-in-Ok-clause-plans
returns-in-Ok-clause-plans g c =
    c.plan_name_loss.ensures.plans c.args.path.now (λ told. let tree = c.requires.may.stands told in decided g (goal.at.returns-in-Ok-clause-plans g c).After-entry_to_lose (Ok c.in-Ok.entry) c.in-Ok.ensures.loses told tree.0 tree.1)

pub returns-in-Err-clause-plans : goal.returns-in-Err-clause-plans
returns-in-Err-clause-plans g c =
    refused_loss g.S.Blocks.tells g.S.Blocks.state c.calls_compose.ensures.rests g.met.S.Blocks.is_sound c.blocks_have_the_map_of_their_tree.ensures.map c.the_map_gives_the_refusal.ensures.refusal c.args.kind c.args.path.now c.args.blocks.now c.args.blocks.now c.in-Err.why c.requires.may.begin.going
    (λ told t h. decided g (goal.at.returns-in-Err-clause-plans g c).After-entry_to_lose (Err c.in-Err.why) c.in-Err.ensures.loses told t h) (no_look g.S.Blocks.tells (g.S.Blocks.state c.args.blocks.now))
