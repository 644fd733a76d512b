use Rattle.std.proofs.Common.{◌≡◌, ◌++◌, false, [], All, length, sym, subst, ap, ◌∙◌, rules, tests}
use Rattle.std.specs.List.{flat_map}
use Rattle.base_types.specs.Seal.{Blocks}
use Rattle.layout_bytes.specs.SnapshotName.{name_block}
use Rattle.crash_stands.specs.Places.{table_blocks}
use Rattle.crash_snapshots.specs.Making.{blocks_at, kept_blocks}
use Rattle.engine_blocks.specs.Puts.{IsData}
use Rattle.fs_files.specs.Content.{fails_reading}
use Rattle.fs_files.specs.Places.{looks_more}
use Rattle.fs_commands.specs.Gathering.{live_dirs, table_to_keep}
use Rattle.fs_commands.proofs.snapped.Bytes.{joined_append, pieces_join}
use Rattle.fs_commands.proofs.snapped.Live.{dirs_whole}
use Rattle.fs_commands.proofs.snapshot_drafts.bytes_to_keep.Goals as goal

pub returns-in_err-push_dirs-clause-looks : goal.returns-in_err-push_dirs-clause-looks
returns-in_err-push_dirs-clause-looks g c =
    looks_more g.S.Blocks.tells (fails_reading c.from_residual-in_err-push_dirs.result) (g.S.Blocks.state c.args.blocks.now) (g.S.Blocks.state c.push_table.new.blocks) (g.S.Blocks.state c.push_dirs.new.blocks) c.in_ok-push_table.ensures.looks (search (rules, tests))

pub returns-clause-bytes : goal.returns-clause-bytes
returns-clause-bytes g c = λ told.
    let s = g.S.Blocks.state c.args.blocks.now in
    let t = g.S.Blocks.state c.push_table.new.blocks in
    let is = c.requires.dirs told in
    let begun : c.new-bytes.result.items ≡ [] = search rules in
    let map : t.map ≡ s.map = c.in_ok-push_table.ensures.looks.map told in
    let whole = dirs_whole s.books.geom s.map (c.requires.sound told) (subst (All (IsData s.books.geom)) is c.requires.«data») in
    let there : All (λ b. length (t.map b) ≡ 1024) c.args.dirs.now = subst (λ (m : Blocks). All (λ b. length (m b) ≡ 1024) c.args.dirs.now) (sym map) (subst (All (λ b. length (s.map b) ≡ 1024)) (sym is) whole) in
    pieces_join c.push_name.new.bytes.items c.push_table.new.bytes.items c.push_dirs.new.bytes.items (name_block c.args.name.now) (table_to_keep s.books.geom s.map) (flat_map (λ block. block) (blocks_at s.map (live_dirs s.books.geom s.map)))
    (c.in_ok-push_name.ensures.bytes ∙ ap (λ xs. xs ++ name_block c.args.name.now) begun) (c.in_ok-push_table.ensures.bytes told)
    (c.in_ok-push_dirs.ensures.bytes told there ∙ ap (λ (m : Blocks). c.push_table.new.bytes.items ++ flat_map (λ block. block) (blocks_at m c.args.dirs.now)) map ∙ ap (λ bs. c.push_table.new.bytes.items ++ flat_map (λ block. block) (blocks_at s.map bs)) is)
    ∙ ap (λ xs. name_block c.args.name.now ++ xs) (sym (joined_append (kept_blocks s.books.geom s.map 0 (table_blocks s.books.geom)) (blocks_at s.map (live_dirs s.books.geom s.map))))

pub returns-clause-looks : goal.returns-clause-looks
returns-clause-looks g c =
    looks_more g.S.Blocks.tells false (g.S.Blocks.state c.args.blocks.now) (g.S.Blocks.state c.push_table.new.blocks) (g.S.Blocks.state c.push_dirs.new.blocks) c.in_ok-push_table.ensures.looks c.in_ok-push_dirs.ensures.looks
