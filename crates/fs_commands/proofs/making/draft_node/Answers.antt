use Rattle.base_types.specs.Layouts.{most_runs}
use Rattle.std.proofs.Common.{◌≡◌, ◌≢◌, ◌≤◌, ◌++◌, ◌∷◌, ℕ, false, Some, IfSome, [], option_and_then, sym, subst, ap, ◌∙◌, arith, length, take, refl}
use Rattle.std.proofs.lemmas.Option.{none-some}
use Rattle.layout_geometry.specs.Geometry.{Geometry}
use Rattle.layout_extent.specs.Runs.{stretches}
use Rattle.lang_tree.specs.Figures.{growth}
use Rattle.crash_stands.specs.Inodes.{ADir, inode_of}
use Rattle.fs_inodes.specs.Changes.{new_inode}
use Rattle.engine_blocks.specs.State.{reusable_blocks}
use Rattle.fs_files.specs.Calls.{files_in, places_in, IsUsed, IsWithPlaces, GrowthRefused, SetsNode}
use Rattle.fs_files.specs.Drafts.{DraftState, ChangesSome, nothing_drafted}
use Rattle.fs_dirs.specs.Changing.{Alters, HasCount, IsWithSlots}
use Rattle.fs_dirs.specs.Directories.{inodes_in}
use Rattle.fs_commands.specs.Making.{first_thing}
use Rattle.fs_session.specs.Commands.{places_of}
use Rattle.fs_session.specs.Sessions.{inodes}
use Rattle.fs_commands.proofs.Placing.{placed_by}
use Rattle.fs_commands.proofs.looking.Found.{same_files, look_begins}
use Rattle.fs_commands.proofs.keeping.Begun.{slots_leave, sought_leaves}
use Rattle.fs_commands.proofs.keeping.Leaves.{leaves_then}
use Rattle.fs_commands.proofs.naming.Drafting.{DoesRead, used_upto, used_with, found_is, plain_kind, first_read, name_added}
use Rattle.fs_commands.proofs.planning.Looking.{settled_then, settled_cut, calm_on, looked_calmly}
use Rattle.fs_commands.proofs.making.draft_node.Goals as goal

pub returns-in-Err-clause-refused : goal.returns-in-Err-clause-refused
returns-in-Err-clause-refused g c = λ told slots at.
    let s = g.S.Blocks.state c.args.blocks.now in
    let mid = g.S.Blocks.state c.add_slot.new.blocks in
    subst (λ d. inodes_in s d c.args.dir ≡ Some (ADir slots) → GrowthRefused (growth s.books.geom.layout (length slots)) (λ more. places_in s d c.args.dir ++ more) s.books mid.books c.in-Err.why) c.beside-draft.ensures (c.in-Err.ensures.refused told slots) at

pub new_node-requires-clause-below : goal.new_node-requires-clause-below
new_node-requires-clause-below g c = λ told l above below.
    let s = g.S.Blocks.state c.args.blocks.now in
    c.in-Ok.ensures.used told l (subst (λ d. IsUsed (files_in s d) l) (sym c.beside-draft.ensures) (c.requires.below told l above below))

pub returns-in-Ok-new_node-clause-used : goal.returns-in-Ok-new_node-clause-used
returns-in-Ok-new_node-clause-used g c = λ told.
    let s = g.S.Blocks.state c.args.blocks.now in
    let mid = g.S.Blocks.state c.add_slot.new.blocks in
    let new = g.S.Blocks.state c.new_node.new.blocks in
    let same : c.new_node.new.self ≡ c.add_slot.new.draft → (l : ℕ) → files_in new c.new_node.new.self l ≡ files_in mid c.add_slot.new.draft l = λ e l. ap (λ d. files_in new d l) e ∙ ap (λ f. f l) (same_files g.S.Blocks.tells false mid new c.add_slot.new.draft c.in-Ok-new_node.ensures.looks told) in
    let slotted : (l : ℕ) → IsUsed (files_in s nothing_drafted) l → IsUsed (files_in mid c.add_slot.new.draft) l = λ l u. c.in-Ok.ensures.used told l (subst (λ d. IsUsed (files_in s d) l) (sym c.beside-draft.ensures) u) in (
      λ l u. used_with mid.books.geom.i (files_in mid c.add_slot.new.draft) (files_in new c.new_node.new.self) _ _ c.in-Ok-new_node.field-0 same (c.in-Ok-new_node.ensures.node told) (c.in-Ok-new_node.ensures.none told) l (slotted l u),
      used_upto mid.books.geom.i c.args.slot.now.node (files_in mid c.add_slot.new.draft) (files_in new c.new_node.new.self) _ _ c.in-Ok-new_node.field-0
          (omega (arith, c.requires.node.upto, ap (λ (h : Geometry). h.i) c.in-Ok.ensures.settles.pipeline.geom))
          (λ l above below. slotted l (c.requires.below told l above below)) same (c.in-Ok-new_node.ensures.node told) (c.in-Ok-new_node.ensures.none told),
    )

pub returns-in-Ok-new_node-clause-leaves : goal.returns-in-Ok-new_node-clause-leaves
returns-in-Ok-new_node-clause-leaves g c = λ told.
    let s = g.S.Blocks.state c.args.blocks.now in
    let mid = g.S.Blocks.state c.add_slot.new.blocks in
    let new = g.S.Blocks.state c.new_node.new.blocks in
    let d = c.add_slot.new.draft in
    let e = c.new_node.new.self in
    let there = c.requires.there told in
    let slots = there.0 in
    let slotted = subst (λ b. inodes_in s b c.args.dir ≡ Some (ADir slots) → IsWithSlots s.books.geom.layout (files_in s b) (files_in mid d) c.args.dir (slots ++ c.args.slot.now ∷ [])) c.beside-draft.ensures (c.in-Ok.ensures.slots told slots) there.1 in
    let grown = subst (λ b. inodes_in s b c.args.dir ≡ Some (ADir slots) → IsWithPlaces (places_in s b) (places_in mid d) c.args.dir (places_in s b c.args.dir ++ take (growth s.books.geom.layout (length slots)) (reusable_blocks mid.books))) c.beside-draft.ensures (c.in-Ok.ensures.places told slots) there.1 in
    leaves_then (files_in s nothing_drafted) (files_in mid d) (files_in new e) (places_of s) (places_in mid d) (places_in new e)
    (slots_leave s.books.geom.layout (files_in s nothing_drafted) (files_in mid d) (places_of s) (places_in mid d) c.args.dir _ grown slots (slots ++ c.args.slot.now ∷ []) there.1 slotted)
    (sought_leaves g.S.Blocks.tells mid new d e c.in-Ok-new_node.ensures.looks told (record { kind = c.node_kind.result; links = 1; bytes = [] }) (λ same. plain_kind c.args.kind (sym c.node_kind.ensures.value ∙ same))
    mid.books.geom.i _ c.in-Ok-new_node.field-0 (c.in-Ok-new_node.ensures.node told) (c.in-Ok-new_node.ensures.places told) (c.in-Ok-new_node.ensures.none told))

pub returns-in-Ok-new_node-clause-names : goal.returns-in-Ok-new_node-clause-names
returns-in-Ok-new_node-clause-names g c = λ told t slots h unused at.
    let s = g.S.Blocks.state c.args.blocks.now in
    let mid = g.S.Blocks.state c.add_slot.new.blocks in
    let new = g.S.Blocks.state c.new_node.new.blocks in
    let d = c.add_slot.new.draft in
    let e = c.new_node.new.self in
    let node = c.args.slot.now.node in
    let reads : DoesRead s.books.geom.layout (files_in s nothing_drafted) = λ k file is plain. c.blocks_have_a_map.ensures.reads s.books.geom s.map t k file h is plain in
    let apart : c.args.dir ≢ node = λ same. none-some (ADir slots) (sym (ap (option_and_then (inode_of s.books.geom.layout)) unused) ∙ ap (inodes s) (sym same) ∙ at) in
    let slotted = subst (λ b. inodes_in s b c.args.dir ≡ Some (ADir slots) → IsWithSlots s.books.geom.layout (files_in s b) (files_in mid d) c.args.dir (slots ++ c.args.slot.now ∷ [])) c.beside-draft.ensures (c.in-Ok.ensures.slots told slots) at in
    let altered = subst (λ b. inodes_in s b c.args.dir ≡ Some (ADir slots) → Alters 2 (take (growth s.books.geom.layout (length slots)) (reusable_blocks mid.books)) 0 b d) c.beside-draft.ensures (c.in-Ok.ensures.alters told slots) at in
    let grown = subst (λ b. inodes_in s b c.args.dir ≡ Some (ADir slots) → IsWithPlaces (places_in s b) (places_in mid d) c.args.dir (places_in s b c.args.dir ++ take (growth s.books.geom.layout (length slots)) (reusable_blocks mid.books))) c.beside-draft.ensures (c.in-Ok.ensures.places told slots) at in
    let at_first = subst (λ b. inodes_in s b c.args.dir ≡ Some (ADir slots)) (sym c.beside-draft.ensures) at in
    let found = found_is mid.books.geom.i node (files_in mid d) _ _ c.in-Ok-new_node.field-0 c.requires.node.from (omega (arith, c.requires.node.upto, ap (λ (h : Geometry). h.i) c.in-Ok.ensures.settles.pipeline.geom))
    (slotted.others node (λ same. apart (sym same)) ∙ unused)
    (λ l above below. c.in-Ok.ensures.used told l (subst (λ b. IsUsed (files_in s b) l) (sym c.beside-draft.ensures) (c.requires.below told l above below)))
    (c.in-Ok-new_node.ensures.node told) (c.in-Ok-new_node.ensures.none told) in
    name_added g.S.Blocks.tells s mid new d e c.args.dir node c.args.slot.now.name slots (new_inode (first_thing c.args.kind)) (record { kind = c.node_kind.result; links = 1; bytes = [] }) at apart reads slotted found.1
    (subst (λ q. inode_of s.books.geom.layout (record { kind = q; links = 1; bytes = [] }) ≡ Some (new_inode (first_thing c.args.kind))) (sym c.node_kind.ensures.value) (first_read s.books.geom.layout (c.a_file_reads_as_itself.ensures.directory s.books.geom.layout) (c.a_file_reads_as_itself.ensures.file s.books.geom.layout) c.args.kind))
    c.args.shared.now altered
    (c.alterations_add_up.ensures.node mid.books.geom node [] d e (subst (λ o. IfSome o (λ k. SetsNode mid.books.geom k [] d e)) found.0 c.in-Ok-new_node.ensures.among) (subst (λ o. IfSome o (λ k. ChangesSome e)) found.0 c.in-Ok-new_node.ensures.changes))
    c.in-Ok.ensures.settles c.in-Ok-new_node.ensures.looks (λ few. c.in-Ok.ensures.looks told slots at_first few) grown
    (placed_by (places_in mid d) (places_in new e) node [] [] (subst (λ o. IfSome o (λ k. IsWithPlaces (places_in mid d) (places_in new e) k [])) found.0 (c.in-Ok-new_node.ensures.places told)) refl) (c.in-Ok.ensures.room told slots at_first)
    (subst (λ b. inodes_in s b c.args.dir ≡ Some (ADir slots) → stretches (places_in s b c.args.dir ++ take (growth s.books.geom.layout (length slots)) (reusable_blocks mid.books)) ≤ most_runs s.books.geom.layout) c.beside-draft.ensures (c.in-Ok.ensures.runs told slots) at)
    c.alterations_add_up.ensures.both c.alterations_add_up.ensures.price c.files_have_one_map.ensures.read

pub returns-in-Ok-new_node-clause-kept : goal.returns-in-Ok-new_node-clause-kept
returns-in-Ok-new_node-clause-kept g c = c.in-Ok-new_node.ensures.kept ∙ c.in-Ok.ensures.kept ∙ ap (λ (d : DraftState). d.kept) c.beside-draft.ensures

pub returns-in-Ok-new_node-clause-settles : goal.returns-in-Ok-new_node-clause-settles
returns-in-Ok-new_node-clause-settles g c = settled_then g.S.Blocks.tells g.S.Blocks.state c.calls_compose.ensures.rests c.calls_compose.ensures.advances c.args.blocks.now c.add_slot.new.blocks c.new_node.new.blocks c.in-Ok.ensures.settles false c.in-Ok-new_node.ensures.looks

pub returns-clause-settles : goal.returns-clause-settles
returns-clause-settles g c =
    settled_cut g.S.Blocks.tells g.S.Blocks.state c.calls_compose.ensures.rests c.calls_compose.ensures.advances c.args.blocks.now c.add_slot.new.blocks c.new_node.new.blocks c.in-Ok.ensures.settles c.in-Err-new_node.why c.in-Err-new_node.ensures.refused c.in-Err-new_node.ensures.looks

pub returns-in-Err-clause-quiet : goal.returns-in-Err-clause-quiet
returns-in-Err-clause-quiet g c = λ told slots at enough.
    looked_calmly g.S.Blocks.tells _ (g.S.Blocks.state c.args.blocks.now) (g.S.Blocks.state c.add_slot.new.blocks) (c.in-Err.ensures.looks told slots (ap (λ d. inodes_in (g.S.Blocks.state c.args.blocks.now) d c.args.dir) c.beside-draft.ensures ∙ at) enough) told

pub returns-in-Ok-new_node-clause-quiet : goal.returns-in-Ok-new_node-clause-quiet
returns-in-Ok-new_node-clause-quiet g c = λ told slots at enough.
    calm_on (g.S.Blocks.state c.args.blocks.now) (g.S.Blocks.state c.add_slot.new.blocks) (g.S.Blocks.state c.new_node.new.blocks) (looked_calmly g.S.Blocks.tells _ (g.S.Blocks.state c.args.blocks.now) (g.S.Blocks.state c.add_slot.new.blocks) (c.in-Ok.ensures.looks told slots (ap (λ d. inodes_in (g.S.Blocks.state c.args.blocks.now) d c.args.dir) c.beside-draft.ensures ∙ at) enough) told) (looked_calmly g.S.Blocks.tells _ (g.S.Blocks.state c.add_slot.new.blocks) (g.S.Blocks.state c.new_node.new.blocks) c.in-Ok-new_node.ensures.looks told)

pub returns-clause-quiet : goal.returns-clause-quiet
returns-clause-quiet g c = λ told slots at enough.
    calm_on (g.S.Blocks.state c.args.blocks.now) (g.S.Blocks.state c.add_slot.new.blocks) (g.S.Blocks.state c.new_node.new.blocks) (looked_calmly g.S.Blocks.tells _ (g.S.Blocks.state c.args.blocks.now) (g.S.Blocks.state c.add_slot.new.blocks) (c.in-Ok.ensures.looks told slots (ap (λ d. inodes_in (g.S.Blocks.state c.args.blocks.now) d c.args.dir) c.beside-draft.ensures ∙ at) enough) told) (looked_calmly g.S.Blocks.tells _ (g.S.Blocks.state c.add_slot.new.blocks) (g.S.Blocks.state c.new_node.new.blocks) c.in-Err-new_node.ensures.looks told)

pub add_slot-requires-clause-there : goal.add_slot-requires-clause-there
add_slot-requires-clause-there g c = λ told. subst (λ d. HasCount (g.S.Blocks.state c.args.blocks.now) d c.args.dir c.args.count) (sym c.beside-draft.ensures) (c.requires.there told)

pub add_slot-requires-clause-look : goal.add_slot-requires-clause-look
add_slot-requires-clause-look g c = look_begins g.S.Blocks.tells _ _ _ c.beside-draft.ensures c.requires.may.begin c.requires.dir c.a_draft_may_begin.ensures
