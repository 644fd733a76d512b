use Rattle.std.proofs.Common.{◌≡◌, ◌-◌, Some, None, option_map, sym, ap, subst, ◌∙◌, arith}
use Rattle.base_types.specs.Layouts.{node_size, node_block, node_rank}
use Rattle.layout_geometry.specs.Geometry.{Geometry, IsGeometry}
use Rattle.layout_bytes.specs.declared.node.NodeKind.TheVariants.{Dir}
use Rattle.fs_files.specs.Given.{node_of_file}
use Rattle.fs_files.specs.Nodes.{AreWholeSlots}
use Rattle.fs_snapshots.specs.Kept.{KeptState}
use Rattle.fs_snapshots.specs.Nodes.{part_data}
use Rattle.fs_snapshots.proofs.KeptOpens.{dir_told, facts_told, file_told, node_read, none_told, table_read}
use Rattle.fs_snapshots.proofs.reading.KeptNodesNodes.open.Goals as goal

pub returns-in_default-clause-facts : goal.returns-in_default-clause-facts
returns-in_default-clause-facts g c = λ tells.
    let s = g.S.Blocks.state c.args.blocks.now in
    let places = c.args.self.now.places in
    let limits = subst IsGeometry c.geom-geom.ensures c.lawful.ensures.limits in
    let read = table_read s.books.geom c.geom-geom.result s.map places c.self.inside.places c.args.number c.node_place-block.result.0 c.table_start.result c.read_block_at.new.into limits c.geom-geom.ensures
    (ap (λ (v : KeptState). v.places) c.self.view_is) c.node_place-block.ensures.block c.table_start.ensures c.requires.from c.requires.upto c.requires.may.gone.table (c.requires.may.whole tells).own (c.in_ok-read_block_at.ensures.block tells) in
    none_told s.books.geom s.map places c.args.number
    (node_read s.books.geom c.geom-geom.result s.map places c.args.number c.node_place-block.result.1 c.node_length.result c.read_block_at.new.into None c.geom-geom.ensures c.node_place-block.ensures.byte (c.node_length.ensures ∙ ap node_size c.layout-layout.ensures) c.requires.from c.requires.upto read
    (ap (option_map (node_of_file s.books.geom.layout)) (sym c.in_default.is) ∙ ap (λ (x : Geometry). option_map (node_of_file x.layout) c.node_in.result) (sym c.geom-geom.ensures) ∙ c.node_in.ensures.node))

pub returns-in-Dir-clause-facts : goal.returns-in-Dir-clause-facts
returns-in-Dir-clause-facts g c = λ tells.
    let s = g.S.Blocks.state c.args.blocks.now in
    let places = c.args.self.now.places in
    let limits = subst IsGeometry c.geom-geom.ensures c.lawful.ensures.limits in
    let read = table_read s.books.geom c.geom-geom.result s.map places c.self.inside.places c.args.number c.node_place-block.result.0 c.table_start.result c.read_block_at.new.into limits c.geom-geom.ensures
    (ap (λ (v : KeptState). v.places) c.self.view_is) c.node_place-block.ensures.block c.table_start.ensures c.requires.from c.requires.upto c.requires.may.gone.table (c.requires.may.whole tells).own (c.in_ok-read_block_at.ensures.block tells) in
    facts_told s.books.geom s.map places c.args.number c.in-Some.file (subst (λ (x : Geometry). c.in-Some.file.facts.kind ≡ Dir → AreWholeSlots x.layout c.in-Some.file.facts.size) c.geom-geom.ensures c.in-Some.ensures.open.slots) c.requires.may.gone.«data» (c.requires.may.whole tells)
    (node_read s.books.geom c.geom-geom.result s.map places c.args.number c.node_place-block.result.1 c.node_length.result c.read_block_at.new.into (Some (node_of_file s.books.geom.layout c.in-Some.file)) c.geom-geom.ensures c.node_place-block.ensures.byte (c.node_length.ensures ∙ ap node_size c.layout-layout.ensures) c.requires.from c.requires.upto read
    (ap (option_map (node_of_file s.books.geom.layout)) (sym c.in-Some.is) ∙ ap (λ (x : Geometry). option_map (node_of_file x.layout) c.node_in.result) (sym c.geom-geom.ensures) ∙ c.node_in.ensures.node))

pub returns-in-Dir-clause-places : goal.returns-in-Dir-clause-places
returns-in-Dir-clause-places g c = λ tells.
    let s = g.S.Blocks.state c.args.blocks.now in
    let places = c.args.self.now.places in
    let limits = subst IsGeometry c.geom-geom.ensures c.lawful.ensures.limits in
    let read = table_read s.books.geom c.geom-geom.result s.map places c.self.inside.places c.args.number c.node_place-block.result.0 c.table_start.result c.read_block_at.new.into limits c.geom-geom.ensures
    (ap (λ (v : KeptState). v.places) c.self.view_is) c.node_place-block.ensures.block c.table_start.ensures c.requires.from c.requires.upto c.requires.may.gone.table (c.requires.may.whole tells).own (c.in_ok-read_block_at.ensures.block tells) in
    dir_told s.books.geom c.geom-geom.result s.map places c.args.self.now.before c.directory_places.result c.args.number (c.node_place-block.result.0 - c.table_start.result) c.node_rank-before.result c.count.result c.read_block_at.new.into c.in-Some.file
    limits c.geom-geom.ensures c.requires.from c.requires.upto c.requires.may.gone.counts c.requires.may.gone.«data» (c.requires.may.whole tells) (c.requires.may.gone.right tells) c.different_blocks_are_few.ensures
    read (omega (arith, c.node_place-block.ensures.block, c.table_start.ensures, ap (λ (x : Geometry). node_block x.layout c.args.number) c.geom-geom.ensures))
    (c.node_rank-before.ensures ∙ ap (λ l. node_rank l c.args.number) (c.layout-layout.ensures ∙ ap (λ (x : Geometry). x.layout) c.geom-geom.ensures))
    (subst (λ (x : Geometry). c.in-Some.file.facts.kind ≡ Dir → AreWholeSlots x.layout c.in-Some.file.facts.size) c.geom-geom.ensures c.in-Some.ensures.open.slots) c.in-Dir.is (c.count.ensures.value ∙ c.in-Some.ensures.open.count)
    (node_read s.books.geom c.geom-geom.result s.map places c.args.number c.node_place-block.result.1 c.node_length.result c.read_block_at.new.into (Some (node_of_file s.books.geom.layout c.in-Some.file)) c.geom-geom.ensures c.node_place-block.ensures.byte (c.node_length.ensures ∙ ap node_size c.layout-layout.ensures) c.requires.from c.requires.upto read
    (ap (option_map (node_of_file s.books.geom.layout)) (sym c.in-Some.is) ∙ ap (λ (x : Geometry). option_map (node_of_file x.layout) c.node_in.result) (sym c.geom-geom.ensures) ∙ c.node_in.ensures.node))
    c.directory_places.ensures

pub returns-in-Dir-clause-data : goal.returns-in-Dir-clause-data
returns-in-Dir-clause-data g c =
    part_data (g.S.Blocks.state c.args.blocks.now).books.geom c.args.self.now.places c.directory_places.result _ _ c.requires.may.gone.«data» c.directory_places.ensures

pub returns-in-File-clause-facts : goal.returns-in-File-clause-facts
returns-in-File-clause-facts g c = λ tells.
    let s = g.S.Blocks.state c.args.blocks.now in
    let places = c.args.self.now.places in
    let limits = subst IsGeometry c.geom-geom.ensures c.lawful.ensures.limits in
    let read = table_read s.books.geom c.geom-geom.result s.map places c.self.inside.places c.args.number c.node_place-block.result.0 c.table_start.result c.read_block_at.new.into limits c.geom-geom.ensures
    (ap (λ (v : KeptState). v.places) c.self.view_is) c.node_place-block.ensures.block c.table_start.ensures c.requires.from c.requires.upto c.requires.may.gone.table (c.requires.may.whole tells).own (c.in_ok-read_block_at.ensures.block tells) in
    facts_told s.books.geom s.map places c.args.number c.in-Some.file (subst (λ (x : Geometry). c.in-Some.file.facts.kind ≡ Dir → AreWholeSlots x.layout c.in-Some.file.facts.size) c.geom-geom.ensures c.in-Some.ensures.open.slots) c.requires.may.gone.«data» (c.requires.may.whole tells)
    (node_read s.books.geom c.geom-geom.result s.map places c.args.number c.node_place-block.result.1 c.node_length.result c.read_block_at.new.into (Some (node_of_file s.books.geom.layout c.in-Some.file)) c.geom-geom.ensures c.node_place-block.ensures.byte (c.node_length.ensures ∙ ap node_size c.layout-layout.ensures) c.requires.from c.requires.upto read
    (ap (option_map (node_of_file s.books.geom.layout)) (sym c.in-Some.is) ∙ ap (λ (x : Geometry). option_map (node_of_file x.layout) c.node_in.result) (sym c.geom-geom.ensures) ∙ c.node_in.ensures.node))

pub returns-in-File-clause-places : goal.returns-in-File-clause-places
returns-in-File-clause-places g c = λ tells.
    let s = g.S.Blocks.state c.args.blocks.now in
    let places = c.args.self.now.places in
    let limits = subst IsGeometry c.geom-geom.ensures c.lawful.ensures.limits in
    let read = table_read s.books.geom c.geom-geom.result s.map places c.self.inside.places c.args.number c.node_place-block.result.0 c.table_start.result c.read_block_at.new.into limits c.geom-geom.ensures
    (ap (λ (v : KeptState). v.places) c.self.view_is) c.node_place-block.ensures.block c.table_start.ensures c.requires.from c.requires.upto c.requires.may.gone.table (c.requires.may.whole tells).own (c.in_ok-read_block_at.ensures.block tells) in
    file_told s.books.geom s.map places c.args.number c.in-Some.file c.a_list_has_its_runs.ensures.places c.in-File.is
    (node_read s.books.geom c.geom-geom.result s.map places c.args.number c.node_place-block.result.1 c.node_length.result c.read_block_at.new.into (Some (node_of_file s.books.geom.layout c.in-Some.file)) c.geom-geom.ensures c.node_place-block.ensures.byte (c.node_length.ensures ∙ ap node_size c.layout-layout.ensures) c.requires.from c.requires.upto read
    (ap (option_map (node_of_file s.books.geom.layout)) (sym c.in-Some.is) ∙ ap (λ (x : Geometry). option_map (node_of_file x.layout) c.node_in.result) (sym c.geom-geom.ensures) ∙ c.node_in.ensures.node))

pub returns-in-Snapshot-clause-facts : goal.returns-in-Snapshot-clause-facts
returns-in-Snapshot-clause-facts g c = λ tells.
    let s = g.S.Blocks.state c.args.blocks.now in
    let places = c.args.self.now.places in
    let limits = subst IsGeometry c.geom-geom.ensures c.lawful.ensures.limits in
    let read = table_read s.books.geom c.geom-geom.result s.map places c.self.inside.places c.args.number c.node_place-block.result.0 c.table_start.result c.read_block_at.new.into limits c.geom-geom.ensures
    (ap (λ (v : KeptState). v.places) c.self.view_is) c.node_place-block.ensures.block c.table_start.ensures c.requires.from c.requires.upto c.requires.may.gone.table (c.requires.may.whole tells).own (c.in_ok-read_block_at.ensures.block tells) in
    absurd ((c.requires.may.whole tells).sound.plain c.args.number (node_of_file s.books.geom.layout c.in-Some.file)
    (node_read s.books.geom c.geom-geom.result s.map places c.args.number c.node_place-block.result.1 c.node_length.result c.read_block_at.new.into (Some (node_of_file s.books.geom.layout c.in-Some.file)) c.geom-geom.ensures c.node_place-block.ensures.byte (c.node_length.ensures ∙ ap node_size c.layout-layout.ensures) c.requires.from c.requires.upto read
    (ap (option_map (node_of_file s.books.geom.layout)) (sym c.in-Some.is) ∙ ap (λ (x : Geometry). option_map (node_of_file x.layout) c.node_in.result) (sym c.geom-geom.ensures) ∙ c.node_in.ensures.node)) c.in-Snapshot.is)
