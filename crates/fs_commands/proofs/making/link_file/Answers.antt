use Rattle.std.proofs.Common.{false, Err, sym, subst, ap, ap₂, ◌∙◌, arith}
use Rattle.layout_geometry.specs.Geometry.{Geometry}
use Rattle.lang_tree.specs.Figures.{adding, growth}
use Rattle.lang_tree.specs.Values.{value_of}
use Rattle.crash_stands.specs.Inodes.{AFile}
use Rattle.engine_blocks.specs.Running.{Running}
use Rattle.fs_dirs.specs.Directories.{inodes_in}
use Rattle.fs_session.specs.declared.unused.NodeUse.TheVariants.{Stays}
use Rattle.fs_session.specs.Plans.{Plans}
use Rattle.fs_commands.proofs.keeping.Leaves.{stands_settled, stays_beside}
use Rattle.fs_commands.proofs.looking.Found.{settled_files, uses_of}
use Rattle.fs_commands.proofs.naming.Planning.{named_plan, name_refused}
use Rattle.fs_commands.proofs.planning.Looking.{full_plan}
use Rattle.fs_commands.proofs.making.link_file.Goals as goal

pub returns-in-Err-clause-plans : goal.returns-in-Err-clause-plans
returns-in-Err-clause-plans g c = λ cmd may.
    full_plan g.S.Blocks.tells g.S.Blocks.state c.calls_compose.ensures.rests (cmd) c.args.blocks.now (value_of c.new_name_figures-figures.result) c.in-Err.why c.requires.may.begin.going c.in-Err.ensures.refused
    (λ told f h. let a = (may told f h).accepts in (a.accepted, a.figures ∙ sym (c.new_name_figures-figures.ensures.value ∙ ap₂ (λ l n. adding (growth l n)) (c.layout.ensures ∙ ap (λ (k : Geometry). k.layout) c.geom.ensures) c.from.ensures)))

pub returns-in-Ok-draft_link-clause-plans : goal.returns-in-Ok-draft_link-clause-plans
returns-in-Ok-draft_link-clause-plans g c = λ cmd may.
    let s = g.S.Blocks.state c.args.blocks.now in
    let new = g.S.Blocks.state c.draft_link.new.blocks in
    let v = c.args.vacancy.now in
    let slot = c.args.slot.now in
    let d = c.in-Ok-draft_link.draft in
    named_plan g.S.Blocks.tells cmd s new v.dir v.count (value_of c.new_name_figures-figures.result) c.requires.may.begin.going (c.new_name_figures-figures.ensures.value ∙ ap₂ (λ l n. adding (growth l n)) (c.layout.ensures ∙ ap (λ (k : Geometry). k.layout) c.geom.ensures) c.from.ensures)
    c.in-Ok.ensures.room (λ told f h. (may told f h).accepts) c.in-Ok-draft_link.ensures.quiet d Stays c.in-Ok-draft_link.ensures.settles
    (λ told f h.
    let m = may told f h in
    let adds = c.in-Ok-draft_link.ensures.names told f.tree m.accepts.slots m.before m.bytes h.tree m.file m.accepts.is_dir in
    record { node = slot.node; name = slot.name; inode = AFile c.args.links m.bytes; adds = adds; map = m.map (inodes_in new d) adds.adds; stays = stays_beside g.S.Blocks.tells false false s new d c.args.shared.now c.in-Ok-draft_link.ensures.settles c.requires.may.begin c.in-Ok-draft_link.ensures.kept told (c.in-Ok-draft_link.ensures.leaves told (c.requires.plain told)) })

pub returns-in-Ok-draft_link-clause-made : goal.returns-in-Ok-draft_link-clause-made
returns-in-Ok-draft_link-clause-made g c =
    let s = g.S.Blocks.state c.args.blocks.now in
    let new = g.S.Blocks.state c.draft_link.new.blocks in
    let d = c.in-Ok-draft_link.draft in
    let settles = c.in-Ok-draft_link.ensures.settles in
    record {
      draft = c.in-Ok-draft_link.ensures.draft;
      sound = λ told sound m drafted.
          let t = stands_settled g.S.Blocks.tells false false s new settles told (c.requires.may.stands told) in
          c.a_draft_that_leaves_snapshots_makes_its_tree.ensures.sound told d m t.0 t.1 c.in-Ok-draft_link.ensures.draft
          (stays_beside g.S.Blocks.tells false false s new d c.args.shared.now settles c.requires.may.begin c.in-Ok-draft_link.ensures.kept told (c.in-Ok-draft_link.ensures.leaves told (c.requires.plain told))) drafted;
      weight = omega (arith, c.in-Ok.ensures.room.weight, ap (λ (r : Running). r.weight) settles.pipeline.running, settles.pipeline.room);
      used = λ told. uses_of Stays s new d (settled_files g.S.Blocks.tells false false s new settles told) (c.in-Ok-draft_link.ensures.used told);
    }

pub returns-in-Err-draft_link-clause-plans : goal.returns-in-Err-draft_link-clause-plans
returns-in-Err-draft_link-clause-plans g c = λ cmd may.
    let s = g.S.Blocks.state c.args.blocks.now in
    let new = g.S.Blocks.state c.draft_link.new.blocks in
    let v = c.args.vacancy.now in
    subst (λ why. Plans g.S.Blocks.tells cmd (Err why) s new) (sym c.refusal_of.ensures)
    (name_refused g.S.Blocks.tells cmd s new v.dir v.count (value_of c.new_name_figures-figures.result) c.requires.may.begin.going (c.new_name_figures-figures.ensures.value ∙ ap₂ (λ l n. adding (growth l n)) (c.layout.ensures ∙ ap (λ (k : Geometry). k.layout) c.geom.ensures) c.from.ensures)
    c.in-Ok.ensures.room (λ told f h. (may told f h).accepts) c.in-Err-draft_link.ensures.quiet
    (g.met.S.Blocks.is_sound c.draft_link.new.blocks) c.a_disk_is_small.ensures.disk (λ told. c.a_disk_is_small.ensures.places told c.args.shared.now c.requires.may.begin v.dir) c.in-Err-draft_link.why c.in-Err-draft_link.ensures.settles c.in-Err-draft_link.ensures.refused)
