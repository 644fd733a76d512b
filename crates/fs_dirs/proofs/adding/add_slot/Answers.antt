use Rattle.std.proofs.Common.{◌≡◌, ◌+◌, ◌<◌, ◌≤◌, ◌++◌, IsTrue, List, length, min, take, Some, refl, rules, sym, subst, arith, ap, ◌∙◌}
use Rattle.std.proofs.lemmas.Option.{same_Some}
use Rattle.std.proofs.lemmas.Result.{IfErr-weaker, on_ok_weaker}
use Rattle.base_types.specs.Layouts.{directory_bytes, most_runs, slot_place, slot_size}
use Rattle.base_types.specs.LayoutLaws.{directory_needs, slot_size_is}
use Rattle.layout_geometry.specs.Geometry.{Geometry}
use Rattle.layout_extent.specs.Runs.{stretches}
use Rattle.layout_bytes.specs.declared.slot.Slot.{Slot}
use Rattle.layout_bytes.specs.Slot.{slot_spelling}
use Rattle.layout_directory.specs.Slots.{IsLawful}
use Rattle.lang_tree.specs.Figures.{growth}
use Rattle.crash_stands.specs.Files.{FileNode}
use Rattle.crash_stands.specs.Inodes.{ADir}
use Rattle.engine_blocks.specs.State.{reusable_blocks}
use Rattle.fs_files.specs.Bytes.{blocks_for, overwritten}
use Rattle.fs_files.specs.Calls.{files_in, places_in, with_bytes}
use Rattle.fs_files.specs.Shared.{is_kept}
use Rattle.fs_dirs.specs.Directories.{inodes_in}
use Rattle.fs_dirs.proofs.reading.Kinds.{node_of_inode}
use Rattle.fs_dirs.proofs.writing.Nodes.{DirNode, dir_node, count_of_slots}
use Rattle.fs_dirs.proofs.writing.Adding.{GrowsBehind, grows_behind, place_behind, still_whole, sets_behind, still_used, placed_behind, alters_behind, room_behind, runs_behind, refused_behind, ok_both}
use Rattle.fs_dirs.proofs.adding.add_slot.Goals as goal

pub write_at-requires-clause-used : goal.write_at-requires-clause-used
write_at-requires-clause-used g c = λ told.
    let l = (g.S.Blocks.state c.args.blocks.now).books.geom.layout in
    let there = c.requires.there told in
    let r = node_of_inode l (files_in (g.S.Blocks.state c.args.blocks.now) c.args.draft.now c.args.dir) (ADir there.0) there.1 in
    (r.file, r.is)

pub write_at-requires-clause-slots : goal.write_at-requires-clause-slots
write_at-requires-clause-slots g c = λ told x at dir.
    let s = g.S.Blocks.state c.args.blocks.now in
    let l = s.books.geom.layout in
    let same : c.layout-layout.result ≡ l = c.layout-layout.ensures ∙ ap (λ (h : Geometry). h.layout) c.geom.ensures in
    let there = c.requires.there told in
    let r = dir_node l (files_in s c.args.draft.now c.args.dir) there.0 there.1 (λ x at dir. c.a_directory_has_whole_slots.ensures c.args.blocks.now c.args.draft.now c.args.dir x told c.requires.look.may at dir) (c.slots_follow_the_bytes.ensures.count l) in
    let long : length x.bytes ≡ directory_bytes l (length there.0) = ap (λ (y : FileNode). length y.bytes) (same_Some x r.file (sym at ∙ r.is)) ∙ r.long in
    let place = place_behind c.layout-layout.result l c.args.count (length there.0) (length x.bytes) c.offset_of.result same there.2 long (c.a_file_fits_the_disk.ensures c.args.draft.now c.args.dir x told c.requires.look.may at) c.offset_of.ensures.place in
    still_whole l (length x.bytes) (length there.0) c.offset_of.result (length (take c.slot_length.result c.slot_text-text.result)) long place (search rules)

pub returns : goal.returns
returns g c =
    let s = g.S.Blocks.state c.args.blocks.now in
    let new = g.S.Blocks.state c.write_at.new.blocks in
    let l = s.books.geom.layout in
    let before = files_in s c.args.draft.now in
    let after = files_in new c.write_at.new.self in
    let text = take c.slot_length.result c.slot_text-text.result in
    let same : c.layout-layout.result ≡ l = c.layout-layout.ensures ∙ ap (λ (h : Geometry). h.layout) c.geom.ensures in
    let long : c.slot_length.result ≡ slot_size l = c.slot_length.ensures ∙ ap (λ k. slot_size k) same in
    let size : length text ≡ slot_size l = search rules in
    let spelled : text ≡ slot_spelling l c.args.slot.now = ap (λ n. take n c.slot_text-text.result) c.slot_length.ensures ∙ c.slot_text-text.ensures.text ∙ ap (λ k. slot_spelling k c.args.slot.now) same in
    let lawful : IsLawful l c.args.slot.now = subst (λ k. IsLawful k c.args.slot.now) same c.slot_text-text.ensures.lawful in
    let node : IsTrue g.S.Blocks.tells → (slots : List Slot) → inodes_in s c.args.draft.now c.args.dir ≡ Some (ADir slots) → DirNode l (before c.args.dir) slots = λ told slots is.
    dir_node l (before c.args.dir) slots is (λ x at dir. c.a_directory_has_whole_slots.ensures c.args.blocks.now c.args.draft.now c.args.dir x told c.requires.look.may at dir) (c.slots_follow_the_bytes.ensures.count l) in
    let many : IsTrue g.S.Blocks.tells → (slots : List Slot) → inodes_in s c.args.draft.now c.args.dir ≡ Some (ADir slots) → c.args.count ≡ length slots = λ told slots is. count_of_slots _ c.args.count slots (c.requires.there told) is in
    let some : 0 < length text = omega (arith, size, slot_size_is l) in
    let at : (told : IsTrue g.S.Blocks.tells) (slots : List Slot) → inodes_in s c.args.draft.now c.args.dir ≡ Some (ADir slots) → c.offset_of.result ≡ slot_place l (length slots) = λ told slots is.
    let r = node told slots is in
    place_behind c.layout-layout.result l c.args.count (length slots) (length r.file.bytes) c.offset_of.result same (many told slots is) r.long (c.a_file_fits_the_disk.ensures c.args.draft.now c.args.dir r.file told c.requires.look.may r.is) c.offset_of.ensures.place in
    let behind : (told : IsTrue g.S.Blocks.tells) (slots : List Slot) (is : inodes_in s c.args.draft.now c.args.dir ≡ Some (ADir slots))
    → GrowsBehind l (is_kept c.args.draft.now.kept) (min c.offset_of.result (length (node told slots is).file.bytes)) (c.offset_of.result + length text) (places_in s c.args.draft.now c.args.dir) (length slots) = λ told slots is.
    let r = node told slots is in
    let free = c.a_directory_shares_no_block.ensures c.args.blocks.now c.args.draft.now c.args.dir r.file told c.requires.look.may r.is r.kind in
    grows_behind l (is_kept c.args.draft.now.kept) (min c.offset_of.result (length r.file.bytes)) (length r.file.bytes) (length slots) c.offset_of.result (length text) (places_in s c.args.draft.now c.args.dir)
    (c.where_nothing_is_kept.ensures.takes (is_kept c.args.draft.now.kept) _ _ _ free) (λ more. c.where_nothing_is_kept.ensures.behind (is_kept c.args.draft.now.kept) _ _ _ more free)
    (c.a_file_has_its_blocks.ensures c.args.blocks.now c.args.draft.now c.args.dir r.file told c.requires.look.may r.is) r.long (at told slots is) size in
    record {
      slots = λ told.
          on_ok_weaker c.write_at.result (λ write slots is.
          sets_behind l before after c.args.dir c.args.count c.offset_of.result text slots c.args.slot.now (node told slots is) (many told slots is) (at told slots is ∙ ap (slot_place l) (sym (many told slots is))) some
          spelled lawful (c.slots_follow_the_bytes.ensures.behind l) write) (c.write_at.ensures.file told);
      used = λ told.
          let there = c.requires.there told in
          let r = node_of_inode l (before c.args.dir) (ADir there.0) there.1 in
          on_ok_weaker c.write_at.result (λ write l used. still_used before after c.args.dir (with_bytes r.file (overwritten c.offset_of.result text r.file.bytes)) (write r.file r.is) l used) (c.write_at.ensures.file told);
      places = λ told.
          on_ok_weaker c.write_at.result (λ places slots is.
          let r = node told slots is in
          placed_behind l (places_in s c.args.draft.now) (places_in new c.write_at.new.self) c.args.dir (is_kept c.args.draft.now.kept) _ _ (length slots) (reusable_blocks new.books) (behind told slots is) (places r.file r.is some)) (c.write_at.ensures.places told);
      draft = c.write_at.ensures.draft;
      kept = c.write_at.ensures.kept;
      room = λ told.
          on_ok_weaker c.write_at.result (λ grows slots is.
          let r = node told slots is in
          room_behind l new.books (length slots) r.file _ _ (places_in s c.args.draft.now c.args.dir) (places_in new c.write_at.new.self c.args.dir) c.args.draft.now c.write_at.new.self (grows r.file r.is some) (behind told slots is)) (c.write_at.ensures.grows told);
      runs = λ told.
          on_ok_weaker c.write_at.result (λ grows slots is.
          let r = node told slots is in
          subst (λ (h : Geometry). stretches (places_in s c.args.draft.now c.args.dir ++ take (growth l (length slots)) (reusable_blocks new.books)) ≤ most_runs h.layout) c.write_at.ensures.settles.pipeline.geom
          (runs_behind l new.books (length slots) r.file _ _ (places_in s c.args.draft.now c.args.dir) (places_in new c.write_at.new.self c.args.dir) c.args.draft.now c.write_at.new.self (grows r.file r.is some) (behind told slots is))) (c.write_at.ensures.grows told);
      alters = λ told.
          ok_both c.write_at.result (λ grows among slots is.
          let r = node told slots is in
          let own = c.a_file_has_its_blocks.ensures c.args.blocks.now c.args.draft.now c.args.dir r.file told c.requires.look.may r.is in
          alters_behind l new.books s.books.geom c.args.dir (min c.offset_of.result (length r.file.bytes)) c.offset_of.result (c.offset_of.result + length text) (length slots) r.file
          (places_in s c.args.draft.now c.args.dir) (places_in new c.write_at.new.self c.args.dir) c.args.draft.now c.write_at.new.self (grows r.file r.is some) (behind told slots is) r.kind
          (at told slots is) refl (own ∙ ap blocks_for r.long ∙ directory_needs l (length slots)) (among r.file r.is some))
          (c.write_at.ensures.grows told) (c.write_at.ensures.among told);
      refused = λ told.
          IfErr-weaker c.write_at.result _ _ (λ why refused slots is.
          let r = node told slots is in
          refused_behind _ _ _ (λ more. places_in s c.args.draft.now c.args.dir ++ more) s.books new.books why (behind told slots is).takes (behind told slots is).behind (refused r.file r.is)) (c.write_at.ensures.refused told);
      settles = c.write_at.ensures.settles;
      looks = λ told slots is few.
          let r = node told slots is in
          c.write_at.ensures.looks told r.file r.is (omega (arith, few, (behind told slots is).takes));
    }
