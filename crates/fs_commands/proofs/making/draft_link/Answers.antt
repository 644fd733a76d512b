use Rattle.base_types.specs.Layouts.{most_runs}
use Rattle.std.proofs.Common.{◌≡◌, ◌≢◌, ◌≤◌, ◌++◌, ◌∷◌, false, Some, [], sym, subst, ap, ◌∙◌, length, take}
use Rattle.layout_extent.specs.Runs.{stretches}
use Rattle.lang_tree.specs.Figures.{growth}
use Rattle.crash_stands.specs.Inodes.{ADir, AFile}
use Rattle.engine_blocks.specs.State.{reusable_blocks}
use Rattle.fs_files.specs.Calls.{files_in, places_in, IsUsed, IsWithPlaces, GrowthRefused, with_links}
use Rattle.fs_files.specs.Drafts.{DraftState, nothing_drafted}
use Rattle.fs_dirs.specs.Changing.{Alters, HasCount, IsWithSlots}
use Rattle.fs_dirs.specs.Directories.{inodes_in}
use Rattle.fs_session.specs.Commands.{places_of}
use Rattle.fs_session.specs.Sessions.{inodes}
use Rattle.fs_commands.proofs.Placing.{placed_kept}
use Rattle.fs_commands.proofs.keeping.Begun.{links_leave, plain_still, slots_leave}
use Rattle.fs_commands.proofs.keeping.Leaves.{leaves_then}
use Rattle.fs_commands.proofs.naming.Drafting.{DoesRead, dir_no_file, name_added}
use Rattle.fs_commands.proofs.planning.Looking.{settled_then, settled_cut, calm_on, looked_calmly}
use Rattle.fs_commands.proofs.looking.InUse.{node_there, still_used}
use Rattle.fs_commands.proofs.looking.Found.{look_begins}
use Rattle.fs_commands.proofs.making.draft_link.Goals as goal

pub returns-in-Err-clause-refused : goal.returns-in-Err-clause-refused
returns-in-Err-clause-refused g c = λ told slots at.
    let s = g.S.Blocks.state c.args.blocks.now in
    let mid = g.S.Blocks.state c.add_slot.new.blocks in
    subst (λ d. inodes_in s d c.args.dir ≡ Some (ADir slots) → GrowthRefused (growth s.books.geom.layout (length slots)) (λ more. places_in s d c.args.dir ++ more) s.books mid.books c.in-Err.why) c.beside-draft.ensures (c.in-Err.ensures.refused told slots) at

pub set_links-requires-clause-used : goal.set_links-requires-clause-used
set_links-requires-clause-used g c = λ told.
    let s = g.S.Blocks.state c.args.blocks.now in
    c.in-Ok.ensures.used told c.args.slot.now.node (subst (λ d. IsUsed (files_in s d) c.args.slot.now.node) (sym c.beside-draft.ensures) (c.requires.used told))

pub returns-in-Ok-set_links-clause-used : goal.returns-in-Ok-set_links-clause-used
returns-in-Ok-set_links-clause-used g c = λ told l used.
    let s = g.S.Blocks.state c.args.blocks.now in
    let mid = g.S.Blocks.state c.add_slot.new.blocks in
    let new = g.S.Blocks.state c.set_links.new.blocks in
    let there = c.in-Ok.ensures.used told c.args.slot.now.node (subst (λ d. IsUsed (files_in s d) c.args.slot.now.node) (sym c.beside-draft.ensures) (c.requires.used told)) in
    still_used (files_in mid c.add_slot.new.draft) (files_in new c.set_links.new.self) c.args.slot.now.node (with_links there.0 c.args.links) (c.in-Ok-set_links.ensures.file told there.0 there.1) l
    (c.in-Ok.ensures.used told l (subst (λ d. IsUsed (files_in s d) l) (sym c.beside-draft.ensures) used))

pub returns-in-Ok-set_links-clause-leaves : goal.returns-in-Ok-set_links-clause-leaves
returns-in-Ok-set_links-clause-leaves g c = λ told plain.
    let s = g.S.Blocks.state c.args.blocks.now in
    let mid = g.S.Blocks.state c.add_slot.new.blocks in
    let new = g.S.Blocks.state c.set_links.new.blocks in
    let d = c.add_slot.new.draft in
    let e = c.set_links.new.self in
    let node = c.args.slot.now.node in
    let has = c.requires.there told in
    let slots = has.0 in
    let slotted = subst (λ b. inodes_in s b c.args.dir ≡ Some (ADir slots) → IsWithSlots s.books.geom.layout (files_in s b) (files_in mid d) c.args.dir (slots ++ c.args.slot.now ∷ [])) c.beside-draft.ensures (c.in-Ok.ensures.slots told slots) has.1 in
    let grown = subst (λ b. inodes_in s b c.args.dir ≡ Some (ADir slots) → IsWithPlaces (places_in s b) (places_in mid d) c.args.dir (places_in s b c.args.dir ++ take (growth s.books.geom.layout (length slots)) (reusable_blocks mid.books))) c.beside-draft.ensures (c.in-Ok.ensures.places told slots) has.1 in
    let there = c.in-Ok.ensures.used told node (subst (λ b. IsUsed (files_in s b) node) (sym c.beside-draft.ensures) (c.requires.used told)) in
    leaves_then (files_in s nothing_drafted) (files_in mid d) (files_in new e) (places_of s) (places_in mid d) (places_in new e)
    (slots_leave s.books.geom.layout (files_in s nothing_drafted) (files_in mid d) (places_of s) (places_in mid d) c.args.dir _ grown slots (slots ++ c.args.slot.now ∷ []) has.1 slotted)
    (links_leave mid.books.geom.layout (files_in mid d) (files_in new e) (places_in mid d) (places_in new e) node (places_in mid d node) (c.in-Ok-set_links.ensures.places told) there.0 c.args.links there.1 (c.in-Ok-set_links.ensures.file told there.0 there.1)
    (plain_still s.books.geom.layout (files_in s nothing_drafted) (files_in mid d) c.args.dir (slots ++ c.args.slot.now ∷ []) slotted node plain))

pub returns-in-Ok-set_links-clause-kept : goal.returns-in-Ok-set_links-clause-kept
returns-in-Ok-set_links-clause-kept g c = c.in-Ok-set_links.ensures.kept ∙ c.in-Ok.ensures.kept ∙ ap (λ (d : DraftState). d.kept) c.beside-draft.ensures

pub returns-in-Ok-set_links-clause-settles : goal.returns-in-Ok-set_links-clause-settles
returns-in-Ok-set_links-clause-settles g c = settled_then g.S.Blocks.tells g.S.Blocks.state c.calls_compose.ensures.rests c.calls_compose.ensures.advances c.args.blocks.now c.add_slot.new.blocks c.set_links.new.blocks c.in-Ok.ensures.settles false c.in-Ok-set_links.ensures.looks

pub returns-clause-settles : goal.returns-clause-settles
returns-clause-settles g c =
    settled_cut g.S.Blocks.tells g.S.Blocks.state c.calls_compose.ensures.rests c.calls_compose.ensures.advances c.args.blocks.now c.add_slot.new.blocks c.set_links.new.blocks c.in-Ok.ensures.settles c.in-Err-set_links.why c.in-Err-set_links.ensures.refused c.in-Err-set_links.ensures.looks

pub returns-in-Ok-set_links-clause-names : goal.returns-in-Ok-set_links-clause-names
returns-in-Ok-set_links-clause-names g c = λ told t slots before bytes h here at.
    let s = g.S.Blocks.state c.args.blocks.now in
    let mid = g.S.Blocks.state c.add_slot.new.blocks in
    let new = g.S.Blocks.state c.set_links.new.blocks in
    let d = c.add_slot.new.draft in
    let e = c.set_links.new.self in
    let node = c.args.slot.now.node in
    let reads : DoesRead s.books.geom.layout (files_in s nothing_drafted) = λ k file is plain. c.blocks_have_a_map.ensures.reads s.books.geom s.map t k file h is plain in
    let apart : c.args.dir ≢ node = λ same. dir_no_file slots before bytes (sym at ∙ ap (inodes s) same ∙ here) in
    let slotted = subst (λ b. inodes_in s b c.args.dir ≡ Some (ADir slots) → IsWithSlots s.books.geom.layout (files_in s b) (files_in mid d) c.args.dir (slots ++ c.args.slot.now ∷ [])) c.beside-draft.ensures (c.in-Ok.ensures.slots told slots) at in
    let altered = subst (λ b. inodes_in s b c.args.dir ≡ Some (ADir slots) → Alters 2 (take (growth s.books.geom.layout (length slots)) (reusable_blocks mid.books)) 0 b d) c.beside-draft.ensures (c.in-Ok.ensures.alters told slots) at in
    let grown = subst (λ b. inodes_in s b c.args.dir ≡ Some (ADir slots) → IsWithPlaces (places_in s b) (places_in mid d) c.args.dir (places_in s b c.args.dir ++ take (growth s.books.geom.layout (length slots)) (reusable_blocks mid.books))) c.beside-draft.ensures (c.in-Ok.ensures.places told slots) at in
    let at_first = subst (λ b. inodes_in s b c.args.dir ≡ Some (ADir slots)) (sym c.beside-draft.ensures) at in
    let there = node_there _ (files_in s nothing_drafted node) (AFile before bytes) here in
    name_added g.S.Blocks.tells s mid new d e c.args.dir node c.args.slot.now.name slots (AFile c.args.links bytes) (with_links there.0 c.args.links) at apart reads slotted
    (c.in-Ok-set_links.ensures.file told there.0 (slotted.others node (λ same. apart (sym same)) ∙ there.1))
    (c.a_file_reads_as_itself.ensures.others s.books.geom.layout there.0 before c.args.links bytes there.0.bytes there.2 ∙ ap (λ b. Some (AFile c.args.links b)) (c.a_file_reads_as_itself.ensures.parts s.books.geom.layout there.0 before bytes there.2).1)
    c.args.shared.now altered
    (c.alterations_add_up.ensures.node mid.books.geom node [] d e (c.in-Ok-set_links.ensures.among told) (c.in-Ok-set_links.ensures.changes told))
    c.in-Ok.ensures.settles c.in-Ok-set_links.ensures.looks (λ few. c.in-Ok.ensures.looks told slots at_first few) grown
    (placed_kept (places_in mid d) (places_in new e) node [] (c.in-Ok-set_links.ensures.places told)) (c.in-Ok.ensures.room told slots at_first)
    (subst (λ b. inodes_in s b c.args.dir ≡ Some (ADir slots) → stretches (places_in s b c.args.dir ++ take (growth s.books.geom.layout (length slots)) (reusable_blocks mid.books)) ≤ most_runs s.books.geom.layout) c.beside-draft.ensures (c.in-Ok.ensures.runs told slots) at)
    c.alterations_add_up.ensures.both c.alterations_add_up.ensures.price c.files_have_one_map.ensures.read

pub returns-in-Err-clause-quiet : goal.returns-in-Err-clause-quiet
returns-in-Err-clause-quiet g c = λ told slots at enough.
    looked_calmly g.S.Blocks.tells _ (g.S.Blocks.state c.args.blocks.now) (g.S.Blocks.state c.add_slot.new.blocks) (c.in-Err.ensures.looks told slots (ap (λ d. inodes_in (g.S.Blocks.state c.args.blocks.now) d c.args.dir) c.beside-draft.ensures ∙ at) enough) told

pub returns-in-Ok-set_links-clause-quiet : goal.returns-in-Ok-set_links-clause-quiet
returns-in-Ok-set_links-clause-quiet g c = λ told slots at enough.
    calm_on (g.S.Blocks.state c.args.blocks.now) (g.S.Blocks.state c.add_slot.new.blocks) (g.S.Blocks.state c.set_links.new.blocks) (looked_calmly g.S.Blocks.tells _ (g.S.Blocks.state c.args.blocks.now) (g.S.Blocks.state c.add_slot.new.blocks) (c.in-Ok.ensures.looks told slots (ap (λ d. inodes_in (g.S.Blocks.state c.args.blocks.now) d c.args.dir) c.beside-draft.ensures ∙ at) enough) told) (looked_calmly g.S.Blocks.tells _ (g.S.Blocks.state c.add_slot.new.blocks) (g.S.Blocks.state c.set_links.new.blocks) c.in-Ok-set_links.ensures.looks told)

pub returns-clause-quiet : goal.returns-clause-quiet
returns-clause-quiet g c = λ told slots at enough.
    calm_on (g.S.Blocks.state c.args.blocks.now) (g.S.Blocks.state c.add_slot.new.blocks) (g.S.Blocks.state c.set_links.new.blocks) (looked_calmly g.S.Blocks.tells _ (g.S.Blocks.state c.args.blocks.now) (g.S.Blocks.state c.add_slot.new.blocks) (c.in-Ok.ensures.looks told slots (ap (λ d. inodes_in (g.S.Blocks.state c.args.blocks.now) d c.args.dir) c.beside-draft.ensures ∙ at) enough) told) (looked_calmly g.S.Blocks.tells _ (g.S.Blocks.state c.add_slot.new.blocks) (g.S.Blocks.state c.set_links.new.blocks) c.in-Err-set_links.ensures.looks told)

pub add_slot-requires-clause-there : goal.add_slot-requires-clause-there
add_slot-requires-clause-there g c = λ told. subst (λ d. HasCount (g.S.Blocks.state c.args.blocks.now) d c.args.dir c.args.count) (sym c.beside-draft.ensures) (c.requires.there told)

pub add_slot-requires-clause-look : goal.add_slot-requires-clause-look
add_slot-requires-clause-look g c = look_begins g.S.Blocks.tells _ _ _ c.beside-draft.ensures c.requires.begin c.requires.dir c.a_draft_may_begin.ensures
