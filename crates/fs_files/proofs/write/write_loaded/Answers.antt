use Rattle.std.proofs.Common.{◌≡◌, ◌+◌, length, min, subst, ◌∙◌, arith, ap}
use Rattle.fs_files.specs.Growing.{taken_by}
use Rattle.fs_files.specs.Shared.{is_kept}
use Rattle.fs_files.specs.Writing.{KeepsSize}
use Rattle.fs_files.proofs.calling.Loaded.{loaded_draft, loaded_file, loaded_kept}
use Rattle.fs_files.proofs.write.write_loaded.Goals as goal

-- the node was stored, as the definitions say it
module _ (g : _) (c : goal.In_ok-keep_size g) where
  keeps : KeepsSize c.geom-geom.result c.args.number (c.args.offset + length c.args.bytes.now) (taken_by (is_kept c.args.draft.now.kept) (min c.args.offset c.args.node.now.size) (c.args.offset + length c.args.bytes.now) c.args.node.now.places) c.write_open.new.node c.args.table.now c.write_open.new.draft c.keep_size.new.draft
  keeps = subst (λ n. KeepsSize c.geom-geom.result c.args.number (c.args.offset + length c.args.bytes.now) n c.write_open.new.node c.args.table.now c.write_open.new.draft c.keep_size.new.draft)
      (c.taken_by-need.ensures ∙ ap (λ lo. taken_by (is_kept c.args.draft.now.kept) lo (c.args.offset + length c.args.bytes.now) c.args.node.now.places) low) c.in_ok-keep_size.ensures
    where
      low : c.min-lo.result ≡ min c.args.offset c.args.node.now.size
      low = omega (arith, c.min-lo.ensures)

pub returns-clause-draft : goal.returns-clause-draft
returns-clause-draft g c =
    loaded_draft g.S.Blocks.tells (g.S.Blocks.state c.args.blocks.now) (g.S.Blocks.state c.write_open.new.blocks) c.geom-geom.result c.args.number c.args.offset c.args.bytes.now c.args.node.now c.write_open.new.node c.args.draft.now c.write_open.new.draft c.keep_size.new.draft c.args.table.now
    c.geom-geom.ensures c.lawful.ensures.limits c.requires.open c.requires.draft c.in_ok-write_open.ensures.settles c.requires.some c.in_ok-write_open.ensures.writes c.requires.above_zero c.requires.in_table (keeps g c)
    (g.met.S.Blocks.is_sound c.write_open.new.blocks).unmarked c.requires.used c.a_list_has_its_runs.ensures.places c.a_list_has_its_runs.ensures.count c.a_list_has_its_runs.ensures.tidy c.requires.table c.requires.size c.requires.slots

pub returns-clause-kept : goal.returns-clause-kept
returns-clause-kept g c =
    loaded_kept g.S.Blocks.tells (g.S.Blocks.state c.args.blocks.now) (g.S.Blocks.state c.write_open.new.blocks) c.geom-geom.result c.args.number c.args.offset c.args.bytes.now c.args.node.now c.write_open.new.node c.args.draft.now c.write_open.new.draft c.keep_size.new.draft c.args.table.now
    c.geom-geom.ensures c.lawful.ensures.limits c.requires.open c.requires.draft c.in_ok-write_open.ensures.settles c.requires.some c.in_ok-write_open.ensures.writes c.requires.above_zero c.requires.in_table (keeps g c)
    (g.met.S.Blocks.is_sound c.write_open.new.blocks).unmarked c.requires.used c.a_list_has_its_runs.ensures.places c.a_list_has_its_runs.ensures.count c.a_list_has_its_runs.ensures.tidy c.requires.table c.requires.size c.requires.slots

pub returns-clause-file : goal.returns-clause-file
returns-clause-file g c =
    loaded_file g.S.Blocks.tells (g.S.Blocks.state c.args.blocks.now) (g.S.Blocks.state c.write_open.new.blocks) c.geom-geom.result c.args.number c.args.offset c.args.bytes.now c.args.node.now c.write_open.new.node c.args.draft.now c.write_open.new.draft c.keep_size.new.draft c.args.table.now
    c.geom-geom.ensures c.lawful.ensures.limits c.requires.open c.requires.draft c.in_ok-write_open.ensures.settles c.requires.some c.in_ok-write_open.ensures.writes c.requires.above_zero c.requires.in_table (keeps g c)
    (g.met.S.Blocks.is_sound c.write_open.new.blocks).unmarked c.requires.used c.a_list_has_its_runs.ensures.places c.a_list_has_its_runs.ensures.count c.a_list_has_its_runs.ensures.tidy c.requires.table c.requires.size c.requires.slots
