use Rattle.std.proofs.Common.{false, IsTrue, Err, sym, subst, ap, ap₂, ◌∙◌, arith}
use Rattle.layout_geometry.specs.Geometry.{Geometry}
use Rattle.lang_tree.specs.Figures.{adding, growth}
use Rattle.lang_tree.specs.Step.{Session}
use Rattle.lang_tree.specs.Values.{value_of}
use Rattle.fs_inodes.specs.Changes.{new_inode}
use Rattle.engine_blocks.specs.Running.{Running}
use Rattle.fs_files.specs.Calls.{files_in}
use Rattle.fs_files.specs.Drafts.{nothing_drafted}
use Rattle.fs_dirs.specs.Directories.{inodes_in}
use Rattle.fs_commands.specs.Making.{AcceptsName, AddsName, first_thing, make_cmd}
use Rattle.fs_session.specs.declared.unused.NodeUse.TheVariants.{Taken}
use Rattle.fs_session.specs.Plans.{Plans}
use Rattle.fs_session.specs.Sessions.{IsSession}
use Rattle.fs_commands.proofs.keeping.Leaves.{stands_settled, stays_beside}
use Rattle.fs_commands.proofs.looking.Found.{settled_files, uses_of}
use Rattle.fs_commands.proofs.naming.Least.{least_unused}
use Rattle.fs_commands.proofs.naming.Planning.{named_plan, name_refused}
use Rattle.fs_commands.proofs.planning.Looking.{full_plan}
use Rattle.fs_commands.proofs.making.make_node.Goals as goal

pub returns-in-Err-clause-plans : goal.returns-in-Err-clause-plans
returns-in-Err-clause-plans g c = λ path appears least.
    full_plan g.S.Blocks.tells g.S.Blocks.state c.calls_compose.ensures.rests (make_cmd c.args.kind path) c.args.blocks.now (value_of c.new_name_figures-figures.result) c.in-Err.why c.requires.may.begin.going c.in-Err.ensures.refused
    (λ told f h. let a = c.the_tree_makes_nodes.ensures.accepted c.args.blocks.now f c.args.kind path c.args.vacancy.now c.args.node h (appears told) (least told) c.requires.short in
    (a.accepted, a.figures ∙ sym (c.new_name_figures-figures.ensures.value ∙ ap₂ (λ l n. adding (growth l n)) (c.layout.ensures ∙ ap (λ (k : Geometry). k.layout) c.geom.ensures) c.from.ensures)))

pub returns-in-Ok-draft_node-clause-plans : goal.returns-in-Ok-draft_node-clause-plans
returns-in-Ok-draft_node-clause-plans g c = λ path appears least.
    let s = g.S.Blocks.state c.args.blocks.now in
    let new = g.S.Blocks.state c.draft_node.new.blocks in
    let v = c.args.vacancy.now in
    let node = c.args.node in
    let d = c.in-Ok-draft_node.draft in
    let accepts : IsTrue g.S.Blocks.tells → (f : Session) → IsSession s f → AcceptsName s f (make_cmd c.args.kind path) v.dir v.count =
    λ told f h. c.the_tree_makes_nodes.ensures.accepted c.args.blocks.now f c.args.kind path v node h (appears told) (least told) c.requires.short in
    named_plan g.S.Blocks.tells (make_cmd c.args.kind path) s new v.dir v.count (value_of c.new_name_figures-figures.result) c.requires.may.begin.going (c.new_name_figures-figures.ensures.value ∙ ap₂ (λ l n. adding (growth l n)) (c.layout.ensures ∙ ap (λ (k : Geometry). k.layout) c.geom.ensures) c.from.ensures)
    c.in-Ok.ensures.room accepts c.in-Ok-draft_node.ensures.quiet d (Taken node) c.in-Ok-draft_node.ensures.settles
    (λ told f h.
    let slots = (accepts told f h).slots in
    let adds : AddsName s new d v.dir node v.name (new_inode (first_thing c.args.kind)) slots = subst (λ name. AddsName s new d v.dir node name (new_inode (first_thing c.args.kind)) slots) c.copy.ensures
    (c.in-Ok-draft_node.ensures.names told f.tree slots h.tree (least_unused s.books.geom.i (files_in s nothing_drafted) node (least told)) (accepts told f h).is_dir) in
    record {
      node = node;
      name = v.name;
      inode = new_inode (first_thing c.args.kind);
      adds = adds;
      map = c.the_tree_makes_nodes.ensures.map c.args.blocks.now (inodes_in new d) f c.args.kind path v node h (appears told) (least told) c.requires.short adds.adds;
      stays = stays_beside g.S.Blocks.tells false false s new d c.args.shared.now c.in-Ok-draft_node.ensures.settles c.requires.may.begin c.in-Ok-draft_node.ensures.kept told (c.in-Ok-draft_node.ensures.leaves told);
    })

pub returns-in-Ok-draft_node-clause-made : goal.returns-in-Ok-draft_node-clause-made
returns-in-Ok-draft_node-clause-made g c =
    let s = g.S.Blocks.state c.args.blocks.now in
    let new = g.S.Blocks.state c.draft_node.new.blocks in
    let d = c.in-Ok-draft_node.draft in
    let settles = c.in-Ok-draft_node.ensures.settles in
    record {
      draft = c.in-Ok-draft_node.ensures.draft;
      sound = λ told sound m drafted.
          let t = stands_settled g.S.Blocks.tells false false s new settles told (c.requires.may.stands told) in
          c.a_draft_that_leaves_snapshots_makes_its_tree.ensures.sound told d m t.0 t.1 c.in-Ok-draft_node.ensures.draft
          (stays_beside g.S.Blocks.tells false false s new d c.args.shared.now settles c.requires.may.begin c.in-Ok-draft_node.ensures.kept told (c.in-Ok-draft_node.ensures.leaves told)) drafted;
      weight = omega (arith, c.in-Ok.ensures.room.weight, ap (λ (r : Running). r.weight) settles.pipeline.running, settles.pipeline.room);
      used = λ told. uses_of (Taken c.args.node) s new d (settled_files g.S.Blocks.tells false false s new settles told) (c.in-Ok-draft_node.ensures.used told);
    }

pub returns-in-Err-draft_node-clause-plans : goal.returns-in-Err-draft_node-clause-plans
returns-in-Err-draft_node-clause-plans g c = λ path appears least.
    let s = g.S.Blocks.state c.args.blocks.now in
    let new = g.S.Blocks.state c.draft_node.new.blocks in
    let v = c.args.vacancy.now in
    subst (λ why. Plans g.S.Blocks.tells (make_cmd c.args.kind path) (Err why) s new) (sym c.refusal_of.ensures)
    (name_refused g.S.Blocks.tells (make_cmd c.args.kind path) s new v.dir v.count (value_of c.new_name_figures-figures.result) c.requires.may.begin.going (c.new_name_figures-figures.ensures.value ∙ ap₂ (λ l n. adding (growth l n)) (c.layout.ensures ∙ ap (λ (k : Geometry). k.layout) c.geom.ensures) c.from.ensures)
    c.in-Ok.ensures.room (λ told f h. c.the_tree_makes_nodes.ensures.accepted c.args.blocks.now f c.args.kind path v c.args.node h (appears told) (least told) c.requires.short) c.in-Err-draft_node.ensures.quiet
    (g.met.S.Blocks.is_sound c.draft_node.new.blocks) c.a_disk_is_small.ensures.disk (λ told. c.a_disk_is_small.ensures.places told c.args.shared.now c.requires.may.begin v.dir) c.in-Err-draft_node.why c.in-Err-draft_node.ensures.settles c.in-Err-draft_node.ensures.refused)
