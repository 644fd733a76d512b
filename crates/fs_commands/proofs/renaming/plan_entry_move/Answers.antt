use Rattle.std.proofs.Common.{◌++◌, Ok, None, Some, option_map, [], ◌∷◌, if◌then◌else◌, sym, ap, ◌∙◌, IsTrue, false, ◌≡◌}
use Rattle.layout_geometry.specs.Geometry.{Geometry}
use Rattle.fs_files.specs.Calls.{files_in}
use Rattle.fs_files.specs.Drafts.{nothing_drafted}
use Rattle.fs_commands.specs.declared.paths.Entry.{Entry}
use Rattle.fs_commands.specs.declared.paths.Spot.TheVariants.{Inside}
use Rattle.fs_session.specs.Sessions.{inodes}
use Rattle.fs_commands.proofs.planning.Looking.{no_look}
use Rattle.fs_commands.proofs.renamed.Reasons.{moved_reason}
use Rattle.fs_commands.proofs.renamed.Answered.{lead_to_one, refused_rename, same_rename}
use Rattle.fs_commands.proofs.renamed.Moves.{is_move}
use Rattle.fs_commands.proofs.renaming.plan_entry_move.Given as given
use Rattle.lang_tree.specs.Tree.{Tree}
use Rattle.crash_stands.specs.Stands.{IsTreeOf}
use Rattle.fs_commands.specs.Moving.{IsMove}
use Rattle.fs_commands.proofs.renaming.plan_entry_move.Goals as goal
use Rattle.fs_commands.proofs.renaming.plan_entry_move.Goals.{After-ends_refusal}
use Rattle.lang_tree.specs.declared.command.Refusal.TheVariants.{NameTooLong}
use Rattle.lang_tree.specs.Conditions.{first_reason, when}
use Rattle.lang_tree.specs.Paths.{is_too_long, parent}
use Rattle.lang_tree.specs.Walk.{are_same}
use Rattle.fs_inodes.specs.Refusals.{onto_reason, rename_reason}

-- the tree's reason is the one that was found
reasoned : (g : given.Over) (c : goal.After-ends_refusal g) → IsTrue g.S.Blocks.tells → (t : Tree) → IsTreeOf (g.S.Blocks.state c.args.blocks.now).books.geom (g.S.Blocks.state c.args.blocks.now).map t → rename_reason (g.S.Blocks.state c.args.blocks.now).books.geom.layout (inodes (g.S.Blocks.state c.args.blocks.now)) c.args.from.now c.args.to.now ≡ c.ends_refusal.result
reasoned g c told tree h =
    let l = (g.S.Blocks.state c.args.blocks.now).books.geom.layout in
    let m = inodes (g.S.Blocks.state c.args.blocks.now) in
    let from = c.args.from.now in
    let to = c.args.to.now in
    let files = files_in (g.S.Blocks.state c.args.blocks.now) nothing_drafted in
    let shown = c.what_is_found_is_shown.ensures.entry told tree from c.args.ends.now.source.dir c.args.ends.now.source.count (Some c.args.ends.now.source.entry) h (c.requires.comes told) in
    let target = c.what_is_found_is_shown.ensures.entry told tree to c.args.ends.now.goal.dir c.args.ends.now.goal.count c.args.ends.now.goal.found h (c.requires.target told) in
    let law = c.what_a_path_comes_to_gives_the_walk.ensures in
    let long : is_too_long c.layout-layout.result to ≡ is_too_long c.layout-layout.result (parent to ++ c.args.name.now ∷ []) = ap (is_too_long c.layout-layout.result) c.requires.last in
    let same : c.layout-layout.result ≡ l = c.layout-layout.ensures ∙ ap (λ (k : Geometry). k.layout) c.geom.ensures in
    moved_reason l m from to c.args.ends.now.source.entry.node.number (option_map (λ (e : Entry). e.node.number) c.args.ends.now.goal.found) c.ends_refusal.result
    (law.walk l files from (Ok (Inside c.args.ends.now.source.dir c.args.ends.now.source.count (Some c.args.ends.now.source.entry))) (c.requires.comes told)) shown.0.0
    (law.parent l files to (Inside c.args.ends.now.goal.dir c.args.ends.now.goal.count c.args.ends.now.goal.found) (c.requires.target told)) (law.number l files to (Inside c.args.ends.now.goal.dir c.args.ends.now.goal.count c.args.ends.now.goal.found) (c.requires.target told))
    (ap (λ l. first_reason ((if are_same (Some c.args.ends.now.source.entry.node.number) (option_map (λ (e : Entry). e.node.number) c.args.ends.now.goal.found) then None else onto_reason m from to) ∷ when (is_too_long l to) NameTooLong ∷ [])) (sym same)
    ∙ ap (λ b. first_reason ((if are_same (Some c.args.ends.now.source.entry.node.number) (option_map (λ (e : Entry). e.node.number) c.args.ends.now.goal.found) then None else onto_reason m from to) ∷ when b NameTooLong ∷ [])) (long ∙ c.layouts_differ_in_long_names_alone.ensures.last c.layout-layout.result (parent to) c.args.name.now)
    ∙ c.ends_refusal.ensures.reason m from to shown.0.1 target.0 (sym c.is_below.ensures))

pub returns-in-Some-clause-plans : goal.returns-in-Some-clause-plans
returns-in-Some-clause-plans g c =
    refused_rename g.S.Blocks.tells g.S.Blocks.state c.calls_compose.ensures.rests g.met.S.Blocks.is_sound c.blocks_have_the_map_of_their_tree.ensures.map c.the_map_gives_the_refusal.ensures.refusal c.args.from.now c.args.to.now c.args.blocks.now c.args.blocks.now c.in-Some.why c.requires.may.begin.going
    (λ told tree h. reasoned g (goal.at.returns-in-Some-clause-plans g c).After-ends_refusal told tree h ∙ c.in-Some.is) (no_look g.S.Blocks.tells (g.S.Blocks.state c.args.blocks.now))

pub returns-then-is_node-clause-plans : goal.returns-then-is_node-clause-plans
returns-then-is_node-clause-plans g c =
    same_rename g.S.Blocks.tells g.S.Blocks.state c.calls_compose.ensures.rests g.met.S.Blocks.is_sound c.blocks_have_the_map_of_their_tree.ensures.map c.the_map_gives_the_reply.ensures.reply c.what_changes_nothing_keeps_the_map.ensures.same_node c.the_map_gives_the_figures.ensures.over c.args.from.now c.args.to.now c.args.blocks.now c.args.blocks.now c.requires.may.begin.going
    (λ told tree h.
    let shown = c.what_is_found_is_shown.ensures.entry told tree c.args.from.now c.args.ends.now.source.dir c.args.ends.now.source.count (Some c.args.ends.now.source.entry) h (c.requires.comes told) in
    let l = (g.S.Blocks.state c.args.blocks.now).books.geom.layout in
    lead_to_one l (inodes (g.S.Blocks.state c.args.blocks.now)) c.args.from.now c.args.to.now c.args.ends.now.source.entry.node.number (option_map (λ (e : Entry). e.node.number) c.args.ends.now.goal.found) shown.0.0
    (c.what_a_path_comes_to_gives_the_walk.ensures.number l (files_in (g.S.Blocks.state c.args.blocks.now) nothing_drafted) c.args.to.now (Inside c.args.ends.now.goal.dir c.args.ends.now.goal.count c.args.ends.now.goal.found) (c.requires.target told)) (sym c.is_node.ensures ∙ c.if-is_node.true)
    (reasoned g (goal.at.returns-then-is_node-clause-plans g c).After-ends_refusal told tree h ∙ c.in_default.is)) (no_look g.S.Blocks.tells (g.S.Blocks.state c.args.blocks.now))

-- so where there is none it is a move
moves : (g : given.Over) (c : goal.After-ends_refusal g) → are_same (Some c.args.ends.now.source.entry.node.number) (option_map (λ (e : Entry). e.node.number) c.args.ends.now.goal.found) ≡ false → c.ends_refusal.result ≡ None → IsTrue g.S.Blocks.tells → IsMove (g.S.Blocks.state c.args.blocks.now).books.geom.layout (files_in (g.S.Blocks.state c.args.blocks.now) nothing_drafted) c.args.from.now c.args.to.now c.args.ends.now.source c.args.ends.now.goal.dir c.args.ends.now.goal.count c.args.ends.now.goal.found c.args.name.now
moves g c apart none told =
    let tree = c.requires.may.stands told in
    is_move (g.S.Blocks.state c.args.blocks.now).books.geom.layout (files_in (g.S.Blocks.state c.args.blocks.now) nothing_drafted) c.args.from.now c.args.to.now c.args.ends.now.source c.args.ends.now.goal.dir c.args.ends.now.goal.count c.args.ends.now.goal.found c.args.name.now (c.requires.comes told) (c.requires.target told) c.requires.last apart (reasoned g c told tree.0 tree.1 ∙ none)

pub plan_move-requires-clause-known : goal.plan_move-requires-clause-known
plan_move-requires-clause-known g c = λ told. (c.args.from.now, c.args.to.now, moves g (goal.at.plan_move-requires-clause-known g c).After-ends_refusal (sym c.is_node.ensures ∙ c.if-is_node.false) c.in_default.is told)

pub returns-clause-plans : goal.returns-clause-plans
returns-clause-plans g c =
    c.plan_move.ensures.plans c.args.from.now c.args.to.now (moves g (goal.at.returns-clause-plans g c).After-ends_refusal (sym c.is_node.ensures ∙ c.if-is_node.false) c.in_default.is)
