use Rattle.std.proofs.Common.{◌≡◌, ◌+◌, ◌<◌, IsTrue, List, length, take, Some, sym, subst, ap, ◌∙◌, rules, arith}
use Rattle.std.proofs.lemmas.Option.{same_Some}
use Rattle.base_types.specs.declared.layout.Layout.{Layout}
use Rattle.base_types.specs.Layouts.{directory_bytes, slot_place, slot_size}
use Rattle.base_types.specs.LayoutLaws.{directory_holds, slot_size_is}
use Rattle.layout_bytes.specs.declared.slot.Slot.{Slot}
use Rattle.layout_geometry.specs.Geometry.{Geometry}
use Rattle.layout_bytes.specs.Slot.{slot_spelling}
use Rattle.layout_directory.specs.Slots.{IsLawful}
use Rattle.crash_stands.specs.Files.{FileNode}
use Rattle.crash_stands.specs.Inodes.{ADir}
use Rattle.fs_files.specs.Bytes.{met}
use Rattle.fs_files.specs.Calls.{files_in, places_in}
use Rattle.fs_dirs.specs.Directories.{inodes_in}
use Rattle.fs_dirs.proofs.reading.Kinds.{dir_kind, node_of_inode}
use Rattle.fs_dirs.proofs.writing.Nodes.{DirNode, dir_node, place_of_slots}
use Rattle.fs_dirs.proofs.writing.Setting.{place_within, sets_over, one_block, alters_one}
use Rattle.fs_dirs.proofs.changing.set_slot.Goals as goal

pub overwrite-requires-clause-used : goal.overwrite-requires-clause-used
overwrite-requires-clause-used g c = λ told.
    let l = (g.S.Blocks.state c.args.blocks.now).books.geom.layout in
    let there = c.requires.there told in
    let r = node_of_inode l (files_in (g.S.Blocks.state c.args.blocks.now) c.args.draft.now c.args.dir) (ADir there.0) there.1 in
    (r.file, r.is)

pub overwrite-requires-clause-within : goal.overwrite-requires-clause-within
overwrite-requires-clause-within g c = λ told x at.
    let s = g.S.Blocks.state c.args.blocks.now in
    let l = s.books.geom.layout in
    let same : c.layout-layout.result ≡ l = c.layout-layout.ensures ∙ ap (λ (h : Geometry). h.layout) c.geom.ensures in
    let there = c.requires.there told in
    let r = dir_node l (files_in s c.args.draft.now c.args.dir) there.0 there.1 (λ x at dir. c.a_directory_has_whole_slots.ensures c.args.blocks.now c.args.draft.now c.args.dir x told c.requires.look.may at dir) (c.slots_follow_the_bytes.ensures.count l) in
    let long : length x.bytes ≡ directory_bytes l (length there.0) = ap (λ (y : FileNode). length y.bytes) (same_Some x r.file (sym at ∙ r.is)) ∙ r.long in
    let place = place_within c.layout-layout.result l c.args.place (length there.0) (length x.bytes) c.offset_of.result same there.2 long (c.a_file_fits_the_disk.ensures c.args.draft.now c.args.dir x told c.requires.look.may at) c.offset_of.ensures.place in
    let size : length (take c.slot_length.result c.slot_text-text.result) ≡ slot_size l = search rules in
    omega (arith, place, size, long, directory_holds l c.args.place (length there.0) there.2)

pub overwrite-requires-clause-apart : goal.overwrite-requires-clause-apart
overwrite-requires-clause-apart g c = λ told.
    let l = (g.S.Blocks.state c.args.blocks.now).books.geom.layout in
    let there = c.requires.there told in
    let r = node_of_inode l (files_in (g.S.Blocks.state c.args.blocks.now) c.args.draft.now c.args.dir) (ADir there.0) there.1 in
    c.a_directory_shares_no_block.ensures c.args.blocks.now c.args.draft.now c.args.dir r.file told c.requires.look.may r.is (dir_kind l r.file there.0 r.reads)

module _ (g : _) (c : goal.In_ok-overwrite g) where
  abbrev l : Layout
  l = (g.S.Blocks.state c.args.blocks.now).books.geom.layout

  same : c.layout-layout.result ≡ l
  same = c.layout-layout.ensures ∙ ap (λ (h : Geometry). h.layout) c.geom.ensures

  node : IsTrue g.S.Blocks.tells → (slots : List Slot) → inodes_in (g.S.Blocks.state c.args.blocks.now) c.args.draft.now c.args.dir ≡ Some (ADir slots) → DirNode l (files_in (g.S.Blocks.state c.args.blocks.now) c.args.draft.now c.args.dir) slots
  node told slots is =
      dir_node l (files_in (g.S.Blocks.state c.args.blocks.now) c.args.draft.now c.args.dir) slots is
      (λ x at dir. c.a_directory_has_whole_slots.ensures c.args.blocks.now c.args.draft.now c.args.dir x told c.requires.look.may at dir) (c.slots_follow_the_bytes.ensures.count l)

  -- where it is written
  at : IsTrue g.S.Blocks.tells → (slots : List Slot) → inodes_in (g.S.Blocks.state c.args.blocks.now) c.args.draft.now c.args.dir ≡ Some (ADir slots) → c.offset_of.result ≡ slot_place l c.args.place
  at told slots is =
      let r = node told slots is in
      place_within c.layout-layout.result l c.args.place (length slots) (length r.file.bytes) c.offset_of.result same (place_of_slots _ c.args.place slots (c.requires.there told) is) r.long
      (c.a_file_fits_the_disk.ensures c.args.draft.now c.args.dir r.file told c.requires.look.may r.is) c.offset_of.ensures.place

pub returns : goal.returns
returns g c =
    let text = take c.slot_length.result c.slot_text-text.result in
    let l = (g.S.Blocks.state c.args.blocks.now).books.geom.layout in
    let same : c.layout-layout.result ≡ l = c.layout-layout.ensures ∙ ap (λ (h : Geometry). h.layout) c.geom.ensures in
    let long : c.slot_length.result ≡ slot_size l = c.slot_length.ensures ∙ ap (λ k. slot_size k) same in
    let size : length text ≡ slot_size l = search rules in
    let spelled : text ≡ slot_spelling l c.args.slot.now = ap (λ n. take n c.slot_text-text.result) c.slot_length.ensures ∙ c.slot_text-text.ensures.text ∙ ap (λ k. slot_spelling k c.args.slot.now) same in
    let lawful : IsLawful l c.args.slot.now = subst (λ k. IsLawful k c.args.slot.now) same c.slot_text-text.ensures.lawful in
    let some : 0 < length text = omega (arith, size, slot_size_is l) in
    record {
      slots = λ told slots is.
          sets_over l _ _ c.args.dir c.args.place c.offset_of.result text slots c.args.slot.now (node g c told slots is) (place_of_slots _ c.args.place slots (c.requires.there told) is) (at g c told slots is) some
          spelled lawful (c.slots_follow_the_bytes.ensures.over l) (c.in_ok-overwrite.ensures.file told);
      places = c.in_ok-overwrite.ensures.places;
      draft = c.in_ok-overwrite.ensures.draft;
      kept = c.in_ok-overwrite.ensures.kept;
      alters = λ told.
          let there = c.requires.there told in
          alters_one (met c.offset_of.result (c.offset_of.result + length text) (places_in (g.S.Blocks.state c.args.blocks.now) c.args.draft.now c.args.dir)) c.args.draft.now c.overwrite.new.self
          (one_block l c.args.place c.offset_of.result (length text) _ (at g c told there.0 there.1) size (c.bytes_lie_in_blocks.ensures.most c.offset_of.result (c.offset_of.result + length text) (places_in (g.S.Blocks.state c.args.blocks.now) c.args.draft.now c.args.dir)))
          (c.in_ok-overwrite.ensures.overwrites told) (c.in_ok-overwrite.ensures.changes told some);
      refused = tt;
      looks = c.in_ok-overwrite.ensures.looks;
    }
