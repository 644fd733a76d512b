use Rattle.std.proofs.Common.{◌≡◌, None, false, length, option_map, sym, ap, ◌∙◌, rules}
use Rattle.layout_geometry.specs.Geometry.{Geometry}
use Rattle.fs_files.specs.declared.node_blocks.OpenFile.{OpenFile}
use Rattle.fs_files.specs.Content.{fails_reading}
use Rattle.fs_files.specs.Drafts.{begun_beside}
use Rattle.fs_files.specs.Places.{looks_more}
use Rattle.fs_session.specs.Snapshots.{alone_among}
use Rattle.fs_commands.specs.Known.{counts_in}
use Rattle.fs_commands.proofs.looking.Found.{look_begins}
use Rattle.fs_commands.proofs.snapped.Kept.{opened_places}
use Rattle.fs_commands.proofs.unsnapped.Going.{alone_data, data_before, data_below, kept_before, live_before, unopened}
use Rattle.fs_commands.proofs.snapping.what_goes.Goals as goal

pub open-requires : goal.open-requires
open-requires g c =
    look_begins g.S.Blocks.tells (g.S.Blocks.state c.args.blocks.now) c.beside-draft.result c.args.number (c.beside-draft.ensures ∙ ap begun_beside c.shared.ensures) c.requires.begin c.requires.number c.a_draft_may_begin.ensures

pub alone-requires-clause-within : goal.alone-requires-clause-within
alone-requires-clause-within g c =
    let s = g.S.Blocks.state c.gather_kept.new.blocks in
    data_below s.books.geom c.n.result c.in_ok-live.live.files.items c.deref.result.now c.in_ok-live.ensures.«data» c.deref.ensures.value
    (c.n.ensures ∙ ap (λ (k : Geometry). k.n) c.geom.ensures ∙ ap (λ b. b.geom.n) c.in_ok-live.ensures.looks.books)

pub alone-requires-clause-below : goal.alone-requires-clause-below
alone-requires-clause-below g c =
    let s = g.S.Blocks.state c.open.new.blocks in
    data_below s.books.geom c.n.result c.in_ok-kept.kept.files.items c.deref-2.result.now c.in_ok-kept.ensures.«data» c.deref-2.ensures.value
    (c.n.ensures ∙ ap (λ (k : Geometry). k.n) c.geom.ensures ∙ ap (λ b. b.geom.n) (c.in_ok-live.ensures.looks.books ∙ c.in_ok-kept.ensures.looks.books))

pub returns-clause-data : goal.returns-clause-data
returns-clause-data g c =
    let s = g.S.Blocks.state c.args.blocks.now in
    alone_data s.books.geom (counts_in c.args.known.now) c.deref.result.now c.in_ok-kept.kept.files.items c.deref-2.result.now c.in_ok-alone.alone.items
    (data_before g.S.Blocks.tells s (g.S.Blocks.state c.open.new.blocks) c.in_ok-file.ensures.looks c.in_ok-kept.kept.files.items c.in_ok-kept.ensures.«data»)
    c.deref-2.ensures.value c.in_ok-alone.ensures

pub returns-clause-lists : goal.returns-clause-lists
returns-clause-lists g c = λ told.
    let s = g.S.Blocks.state c.args.blocks.now in
    let t = g.S.Blocks.state c.open.new.blocks in
    let u = g.S.Blocks.state c.gather_kept.new.blocks in
    let places = opened_places s c.beside-draft.result c.args.number c.in_ok-file.field-0 c.in-Some.file (c.beside-draft.ensures ∙ ap begun_beside c.shared.ensures) c.in-Some.is (c.in_ok-file.ensures.places told) in
    let first = c.in_ok-file.ensures.looks in
    record {
      own = c.count.ensures.value ∙ ap (λ xs. length xs) places;
      kept = kept_before g.S.Blocks.tells s t first told (c.requires.begin.sound told) c.a_sound_snapshot_is_whole.ensures.whole c.a_sound_snapshot_is_whole.ensures.parts c.args.number c.in-Some.file.blocks c.in_ok-kept.kept.files.items
          places (c.requires.snapshot told) (c.in_ok-kept.ensures.files told);
      alone = c.in_ok-alone.ensures
          ∙ ap (λ fs. alone_among (counts_in c.args.known.now) fs c.deref-2.result.now) (c.deref.ensures.value
          ∙ live_before g.S.Blocks.tells s u (looks_more g.S.Blocks.tells false s t u first c.in_ok-kept.ensures.looks) told c.in_ok-live.live.files.items (c.in_ok-live.ensures.files told))
          ∙ ap (alone_among (counts_in c.args.known.now) _) c.deref-2.ensures.value;
    }

pub returns-in_default-clause-lists : goal.returns-in_default-clause-lists
returns-in_default-clause-lists g c = λ told.
    let s = g.S.Blocks.state c.args.blocks.now in
    let is : c.in_ok-file.field-0 ≡ None = search rules in
    absurd (unopened s c.beside-draft.result c.args.number (c.beside-draft.ensures ∙ ap begun_beside c.shared.ensures) (c.requires.snapshot told)
    (sym (ap (option_map {T = OpenFile} (λ f. f.facts)) is) ∙ c.in_ok-file.ensures.facts told))

pub returns-clause-looks : goal.returns-clause-looks
returns-clause-looks g c =
    let s = g.S.Blocks.state c.args.blocks.now in
    let t = g.S.Blocks.state c.open.new.blocks in
    let u = g.S.Blocks.state c.gather_kept.new.blocks in
    looks_more g.S.Blocks.tells false s u (g.S.Blocks.state c.gather_live.new.blocks) (looks_more g.S.Blocks.tells false s t u c.in_ok-file.ensures.looks c.in_ok-kept.ensures.looks) c.in_ok-live.ensures.looks

pub returns-in_err-kept-clause-looks : goal.returns-in_err-kept-clause-looks
returns-in_err-kept-clause-looks g c =
    looks_more g.S.Blocks.tells (fails_reading c.from_residual-in_err-kept.result) (g.S.Blocks.state c.args.blocks.now) (g.S.Blocks.state c.open.new.blocks) (g.S.Blocks.state c.gather_kept.new.blocks) c.in_ok-file.ensures.looks (search rules)

pub returns-in_err-live-clause-looks : goal.returns-in_err-live-clause-looks
returns-in_err-live-clause-looks g c =
    let s = g.S.Blocks.state c.args.blocks.now in
    let t = g.S.Blocks.state c.open.new.blocks in
    let u = g.S.Blocks.state c.gather_kept.new.blocks in
    looks_more g.S.Blocks.tells (fails_reading c.from_residual-in_err-live.result) s u (g.S.Blocks.state c.gather_live.new.blocks) (looks_more g.S.Blocks.tells false s t u c.in_ok-file.ensures.looks c.in_ok-kept.ensures.looks) (search rules)

pub returns-in_err-alone-clause-looks : goal.returns-in_err-alone-clause-looks
returns-in_err-alone-clause-looks g c =
    let s = g.S.Blocks.state c.args.blocks.now in
    let t = g.S.Blocks.state c.open.new.blocks in
    let u = g.S.Blocks.state c.gather_kept.new.blocks in
    looks_more g.S.Blocks.tells (fails_reading c.from_residual-in_err-alone.result) s u (g.S.Blocks.state c.gather_live.new.blocks) (looks_more g.S.Blocks.tells false s t u c.in_ok-file.ensures.looks c.in_ok-kept.ensures.looks) (search rules)
