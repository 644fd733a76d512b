use Rattle.std.proofs.Common.{IsTrue, ap, option_map, subst, ◌∙◌}
use Rattle.base_types.specs.Seal.{Blocks}
use Rattle.layout_geometry.specs.Geometry.{IsGeometry}
use Rattle.lang_tree.specs.declared.command.Cmd.TheVariants.{Unsnap}
use Rattle.crash_snapshots.specs.Taking.{TakesSnapshot}
use Rattle.crash_stands.specs.Files.{file_of}
use Rattle.fs_session.specs.declared.unused.NodeUse.TheVariants.{Dropped}
use Rattle.fs_session.specs.Plans.{HasDrafted}
use Rattle.fs_session.specs.Snapshots.{alone_among, live_files}
use Rattle.fs_commands.proofs.Given.{session_map}
use Rattle.fs_commands.proofs.planning.Looking.{cut_short, looked_change}
use Rattle.fs_commands.proofs.unsnapped.Lost.{goes_is}
use Rattle.fs_commands.proofs.unsnapped.Planned.{makes_unsnap, takes_before, takes_of, unsnap_is, unsnap_made}
use Rattle.fs_commands.proofs.snapshot_drafts.plan_unsnap.Given as given
use Rattle.fs_commands.proofs.snapshot_drafts.plan_unsnap.Goals as goal
use Rattle.fs_commands.proofs.snapshot_drafts.plan_unsnap.Goals.{After-a_node_that_a_draft_leaves_stays}

limits : (g : given.Over) (c : After-a_node_that_a_draft_leaves_stays g) → IsGeometry (g.S.Blocks.state c.args.blocks.now).books.geom
limits g c = subst IsGeometry c.geom.ensures c.lawful.ensures.limits

-- what the draft makes of the blocks
taken : (g : given.Over) (c : After-a_node_that_a_draft_leaves_stays g) → IsTrue g.S.Blocks.tells → (m : Blocks) → HasDrafted (g.S.Blocks.state c.draft_loss.new.blocks) c.in-Ok.draft m
    → TakesSnapshot (g.S.Blocks.state c.draft_loss.new.blocks).books.geom (g.S.Blocks.state c.draft_loss.new.blocks).map m c.args.gone.now.number
taken g c told m made =
    takes_of g.S.Blocks.tells (g.S.Blocks.state c.args.blocks.now) (g.S.Blocks.state c.draft_loss.new.blocks) c.in-Ok.ensures.looks told c.args.name.now c.args.gone.now c.args.shared.now c.requires.may
    c.what_is_known_of_snapshots_is_so.ensures.named c.sound_beside_what_is_kept.ensures.to c.what_is_known_of_snapshots_is_so.ensures.each (limits g c) c.a_sound_snapshot_is_whole.ensures.«data»
    (c.a_node_that_a_draft_leaves_stays.ensures.same told) (c.a_node_that_a_draft_leaves_stays.ensures.bare told) c.in-Ok.draft c.in-Ok.ensures.draft (c.in-Ok.ensures.loss told) m made

pub returns-in-Ok-clause-plans : goal.returns-in-Ok-clause-plans
returns-in-Ok-clause-plans g c =
    let s = g.S.Blocks.state c.args.blocks.now in
    let may = c.requires.may in
    let gone = c.args.gone.now in
    let looks = c.in-Ok.ensures.looks in
    looked_change g.S.Blocks.tells g.S.Blocks.state c.calls_compose.ensures.rests (Unsnap c.args.name.now) c.args.blocks.now c.draft_loss.new.blocks c.in-Ok.draft gone.cost (Dropped gone.number) may.may.begin.going
    (λ told f h.
    let named = c.what_is_known_of_snapshots_is_so.ensures.named in
    let it = goes_is g.S.Blocks.tells s c.args.name.now gone c.args.shared.now may named c.sound_beside_what_is_kept.ensures.to told in
    let is = unsnap_is s c.args.name.now may.counts gone.alone.items gone.number f h named
    (λ k at. c.counts_tell_what_is_shared.ensures.alone c.args.blocks.now f may.counts c.args.name.now k h (may.known told) at)
    (λ k at. c.counts_tell_what_is_shared.ensures.blocks c.args.blocks.now f c.args.name.now k h at) (may.goes.named told)
    (may.goes.alone told ∙ ap (alone_among may.counts (live_files s.books.geom s.map)) (may.goes.kept told)) in
    makes_unsnap s (g.S.Blocks.state c.draft_loss.new.blocks) c.args.name.now gone f is c.in-Ok.draft (c.in-Ok.ensures.loss told) (file_of s.books.geom.layout s.map it.0) (ap (option_map (file_of s.books.geom.layout s.map)) it.1) it.2 h.tree.inodes h.tree.read
    (session_map c.blocks_have_the_map_of_their_tree.ensures.map s f h) (may.goes.cost told) (may.goes.room told) looks.books (taken g (goal.at.returns-in-Ok-clause-plans g c).After-a_node_that_a_draft_leaves_stays told))
    looks

pub returns-in-Ok-clause-made : goal.returns-in-Ok-clause-made
returns-in-Ok-clause-made g c =
    unsnap_made g.S.Blocks.tells (g.S.Blocks.state c.args.blocks.now) (g.S.Blocks.state c.draft_loss.new.blocks) c.in-Ok.ensures.looks c.args.name.now c.args.gone.now c.args.shared.now c.requires.may
    c.what_is_known_of_snapshots_is_so.ensures.named c.a_snapshot_goes.ensures (limits g (goal.at.returns-in-Ok-clause-made g c).After-a_node_that_a_draft_leaves_stays) c.in-Ok.draft c.in-Ok.ensures.draft c.in-Ok.ensures.loss
    (taken g (goal.at.returns-in-Ok-clause-made g c).After-a_node_that_a_draft_leaves_stays)

pub returns-in-Ok-clause-takes : goal.returns-in-Ok-clause-takes
returns-in-Ok-clause-takes g c = λ told end made.
    takes_before g.S.Blocks.tells (g.S.Blocks.state c.args.blocks.now) (g.S.Blocks.state c.draft_loss.new.blocks) c.in-Ok.ensures.looks told c.args.gone.now.number (g.S.Blocks.state end).map
    (taken g (goal.at.returns-in-Ok-clause-takes g c).After-a_node_that_a_draft_leaves_stays told (g.S.Blocks.state end).map made)

pub returns-in-Err-clause-plans : goal.returns-in-Err-clause-plans
returns-in-Err-clause-plans g c =
    cut_short g.S.Blocks.tells g.S.Blocks.state c.calls_compose.ensures.rests (Unsnap c.args.name.now) c.args.blocks.now c.draft_loss.new.blocks c.in-Err.why c.refusal_of.result c.refusal_of.ensures c.requires.may.may.begin.going c.in-Err.ensures.refused c.in-Err.ensures.looks
