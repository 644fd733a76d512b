use Rattle.std.proofs.Common.{◌≡◌, ◌≤◌, false, IsTrue, None, Err, length, take, sym, subst, ap, ◌∙◌, arith}
use Rattle.lang_tree.specs.Tree.{Bounds}
use Rattle.base_types.specs.Seal.{Blocks}
use Rattle.layout_geometry.specs.Geometry.{Geometry, IsGeometry}
use Rattle.lang_tree.specs.declared.command.Cmd.TheVariants.{Snap}
use Rattle.lang_tree.specs.Step.{Session}
use Rattle.crash_stands.specs.Maps.{IsMapOf}
use Rattle.crash_snapshots.specs.Adding.{AddsSnapshot}
use Rattle.engine_blocks.specs.State.{reusable_blocks}
use Rattle.engine_blocks.specs.Running.{Running}
use Rattle.fs_files.specs.Calls.{files_in}
use Rattle.fs_files.specs.Drafts.{nothing_drafted}
use Rattle.fs_session.specs.Plans.{HasDrafted, Plans}
use Rattle.fs_session.specs.Sessions.{IsSession, inodes}
use Rattle.fs_commands.specs.Gathering.{snapshot_count}
use Rattle.fs_commands.proofs.looking.Found.{settled_files}
use Rattle.fs_commands.proofs.naming.Drafting.{DoesRead}
use Rattle.fs_commands.proofs.naming.Least.{least_unused}
use Rattle.fs_commands.proofs.planning.Looking.{growth_plan}
use Rattle.fs_commands.proofs.snapped.Added.{added, data_law, tree_settled}
use Rattle.fs_commands.proofs.snapped.Answers.{none_named}
use Rattle.fs_commands.proofs.snapped.Planned.{AcceptsSnapshot, keeps_used, makes, snap_accepted, snap_refused}
use Rattle.fs_commands.proofs.snapshot_drafts.plan_snap.Given as given
use Rattle.fs_commands.proofs.snapshot_drafts.plan_snap.Goals as goal
use Rattle.fs_commands.proofs.snapshot_drafts.plan_snap.Goals.{After-a_node_that_a_draft_leaves_stays, After-draft_snapshot}

-- a snapshot is accepted
accepts : (g : given.Over) (c : After-draft_snapshot g) → IsTrue g.S.Blocks.tells → (f : Session) → IsSession (g.S.Blocks.state c.args.blocks.now) f → AcceptsSnapshot (g.S.Blocks.state c.args.blocks.now) f c.args.name.now c.args.new.now.number
accepts g c told f h =
    let s = g.S.Blocks.state c.args.blocks.now in
    snap_accepted s f c.args.name.now c.args.new.now.number h (none_named s.books.geom s.map f.tree c.args.name.now h.tree c.what_is_known_of_snapshots_is_so.ensures.named (c.requires.new.free told))
    (c.counts_tell_what_is_shared.ensures.least c.args.blocks.now f h ∙ c.requires.new.least told) (c.counts_tell_what_is_shared.ensures.live c.args.blocks.now f h)

-- no node had its number
unused : (g : given.Over) (c : After-draft_snapshot g) → IsTrue g.S.Blocks.tells → files_in (g.S.Blocks.state c.args.blocks.now) nothing_drafted c.args.new.now.number ≡ None
unused g c told = let s = g.S.Blocks.state c.args.blocks.now in least_unused s.books.geom.i (files_in s nothing_drafted) c.args.new.now.number (c.requires.new.least told)

-- what has the draft has one snapshot more
more : (g : given.Over) (c : After-a_node_that_a_draft_leaves_stays g) → IsTrue g.S.Blocks.tells → (m : Blocks) → HasDrafted (g.S.Blocks.state c.draft_snapshot.new.blocks) c.in-Ok.draft m
    → AddsSnapshot (g.S.Blocks.state c.draft_snapshot.new.blocks).books.geom (g.S.Blocks.state c.draft_snapshot.new.blocks).map m c.args.new.now.number c.args.name.now
    (take (snapshot_count (g.S.Blocks.state c.args.blocks.now).books.geom (g.S.Blocks.state c.args.blocks.now).map) (reusable_blocks (g.S.Blocks.state c.draft_snapshot.new.blocks).books))
more g c told m made =
    let s = g.S.Blocks.state c.args.blocks.now in
    let v = g.S.Blocks.state c.draft_snapshot.new.blocks in
    added g.S.Blocks.tells false false s v c.in-Ok.ensures.settles told c.args.name.now c.args.new.now c.requires.new (c.requires.may.begin.sound told) (subst IsGeometry c.geom.ensures c.lawful.ensures.limits)
    c.in-Ok.draft (c.in-Ok.ensures.drafts told) c.in-Ok.ensures.draft (g.met.S.Blocks.is_told c.draft_snapshot.new.blocks told) (g.met.S.Blocks.is_sound c.draft_snapshot.new.blocks) c.a_name_is_lawful.ensures
    c.a_node_in_use_has_data_blocks.ensures.count c.a_snapshot_can_be_made.ensures (c.a_node_that_a_draft_leaves_stays.ensures.same told) (c.a_node_that_a_draft_leaves_stays.ensures.bare told)
    (data_law c.a_node_in_use_has_data_blocks.ensures.within) m made

pub returns-in-Ok-clause-plans : goal.returns-in-Ok-clause-plans
returns-in-Ok-clause-plans g c =
    let s = g.S.Blocks.state c.args.blocks.now in
    let v = g.S.Blocks.state c.draft_snapshot.new.blocks in
    let new = c.requires.new in
    let at = (goal.at.returns-in-Ok-clause-plans g c).After-draft_snapshot in
    record {
      is = λ told f h.
          let reads : DoesRead s.books.geom.layout (files_in s nothing_drafted) = λ k file is plain. c.blocks_have_a_map.ensures.reads s.books.geom s.map f.tree k file h.tree is plain in
          makes s v f c.args.name.now c.args.new.now.number c.args.new.now.cost c.in-Ok.draft h (accepts g at told f h) (c.in-Ok.ensures.drafts told) (unused g at told) (new.least told) c.in-Ok.ensures.settles.pipeline.geom (new.cost told) (new.room told)
          (subst (λ (b : Bounds). IsMapOf b.nodes (inodes s) f.tree) (sym h.limit) (c.blocks_have_a_map.ensures.map s.books.geom s.map (inodes s) f.tree (c.files_have_one_map.ensures.read s.books.geom.layout (files_in s nothing_drafted) reads) h.tree))
          reads c.files_have_one_map.ensures.read (more g c told) (λ few. (c.in-Ok.ensures.quiet told few).0);
      going = c.requires.may.begin.going;
      quiet = λ told f h enough. c.in-Ok.ensures.quiet told (subst (λ n. n ≤ length (reusable_blocks s.books)) (ap (λ n. n.need) (accepts g at told f h).figures) enough);
      settles = c.in-Ok.ensures.settles;
    }

pub returns-in-Ok-clause-made : goal.returns-in-Ok-clause-made
returns-in-Ok-clause-made g c =
    let s = g.S.Blocks.state c.args.blocks.now in
    let v = g.S.Blocks.state c.draft_snapshot.new.blocks in
    let new = c.requires.new in
    let settles = c.in-Ok.ensures.settles in
    record {
      draft = c.in-Ok.ensures.draft;
      sound = λ told sound m made.
          let before = c.requires.may.stands told in
          (c.a_snapshot_stands.ensures v.books.geom v.map m before.0 c.args.new.now.number c.args.name.now (take (snapshot_count s.books.geom s.map) (reusable_blocks v.books)) (subst IsGeometry (c.geom.ensures ∙ sym settles.pipeline.geom) c.lawful.ensures.limits)
          (tree_settled g.S.Blocks.tells false false s v settles told before.0 before.1)
          (none_named s.books.geom s.map before.0 c.args.name.now before.1 c.what_is_known_of_snapshots_is_so.ensures.named (new.free told)) (more g c told m made)).sound;
      weight = omega (arith, new.weight, ap (λ (r : Running). r.weight) settles.pipeline.running, settles.pipeline.room);
      used = λ told. keeps_used s v c.args.name.now c.args.new.now.number c.in-Ok.draft (c.in-Ok.ensures.drafts told) (settled_files g.S.Blocks.tells false false s v settles told) (new.least told);
    }

pub returns-in-Ok-clause-adds : goal.returns-in-Ok-clause-adds
returns-in-Ok-clause-adds g c = λ told end leaves.
    let s = g.S.Blocks.state c.args.blocks.now in
    let v = g.S.Blocks.state c.draft_snapshot.new.blocks in
    let e = (g.S.Blocks.state end).map in
    let ps = take (snapshot_count s.books.geom s.map) (reusable_blocks v.books) in (
      ps,
      subst (λ (k : Geometry). AddsSnapshot k s.map e c.args.new.now.number c.args.name.now ps) c.in-Ok.ensures.settles.pipeline.geom
          (subst (λ m. AddsSnapshot v.books.geom m e c.args.new.now.number c.args.name.now ps) (c.in-Ok.ensures.settles.map told) (more g c told e leaves)),
    )

pub returns-in-Err-clause-plans : goal.returns-in-Err-clause-plans
returns-in-Err-clause-plans g c =
    let s = g.S.Blocks.state c.args.blocks.now in
    let v = g.S.Blocks.state c.draft_snapshot.new.blocks in
    let new = c.requires.new in
    let at = (goal.at.returns-in-Err-clause-plans g c).After-draft_snapshot in
    subst (λ w. Plans g.S.Blocks.tells (Snap c.args.name.now) (Err w) s v) (sym c.refusal_of.ensures)
    (growth_plan g.S.Blocks.tells (Snap c.args.name.now) s v c.in-Err.why c.requires.may.begin.going
    (λ told f h. snap_refused s v f c.args.name.now c.args.new.now.number (accepts g at told f h) (unused g at told) (new.least told) (new.room told) (g.met.S.Blocks.is_sound c.draft_snapshot.new.blocks) c.in-Err.ensures.settles.pipeline
    (subst (λ (k : Geometry). k.n ≤ 1048576) c.geom.ensures c.lawful.ensures.limits.most_blocks) c.in-Err.why (c.in-Err.ensures.refused told))
    (λ told f h enough. c.in-Err.ensures.quiet told (subst (λ n. n ≤ length (reusable_blocks s.books)) (ap (λ n. n.need) (accepts g at told f h).figures) enough))
    c.in-Err.ensures.settles)
