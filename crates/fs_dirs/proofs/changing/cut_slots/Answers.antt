use Rattle.std.proofs.Common.{◌≡◌, false, IsTrue, List, length, Some, take, subst, sym, ap, ◌∙◌, arith}
use Rattle.std.proofs.lemmas.Option.{same_Some}
use Rattle.std.proofs.lemmas.List.Elements.{All-drop}
use Rattle.base_types.specs.declared.layout.Layout.{Layout}
use Rattle.base_types.specs.Layouts.{directory_bytes}
use Rattle.base_types.specs.LayoutLaws.{directory_before, directory_holds, directory_needs, slot_size_is}
use Rattle.layout_geometry.specs.Geometry.{Geometry}
use Rattle.layout_bytes.specs.declared.slot.Slot.{Slot}
use Rattle.crash_stands.specs.Files.{FileNode}
use Rattle.crash_stands.specs.Inodes.{ADir}
use Rattle.engine_blocks.specs.State.{State}
use Rattle.fs_files.specs.Bytes.{blocks_for}
use Rattle.fs_files.specs.Calls.{files_in, places_in, IsWithPlaces}
use Rattle.fs_files.specs.Nodes.{MayEndAt}
use Rattle.fs_files.specs.Shared.{is_kept}
use Rattle.fs_dirs.specs.Directories.{inodes_in}
use Rattle.fs_dirs.proofs.reading.Kinds.{node_of_inode, slots_read}
use Rattle.fs_dirs.proofs.writing.Nodes.{DirNode, dir_node, place_of_slots}
use Rattle.fs_dirs.proofs.writing.Taking.{alters_cut, bytes_within, cut_at, sets_cut}
use Rattle.fs_dirs.proofs.changing.cut_slots.Goals as goal

pub cut_to-requires-clause-used : goal.cut_to-requires-clause-used
cut_to-requires-clause-used g c = λ told.
    let l = (g.S.Blocks.state c.args.blocks.now).books.geom.layout in
    let there = c.requires.there told in
    let r = node_of_inode l (files_in (g.S.Blocks.state c.args.blocks.now) c.args.draft.now c.args.dir) (ADir there.0) there.1 in
    (r.file, r.is)

pub cut_to-requires-clause-cuts : goal.cut_to-requires-clause-cuts
cut_to-requires-clause-cuts g c =
    let s = g.S.Blocks.state c.args.blocks.now in
    let l = s.books.geom.layout in
    let same : c.layout-layout.result ≡ l = c.layout-layout.ensures ∙ ap (λ (h : Geometry). h.layout) c.geom.ensures in
    let node : (told : IsTrue g.S.Blocks.tells) → DirNode l (files_in s c.args.draft.now c.args.dir) (c.requires.there told).0 = λ told.
    dir_node l (files_in s c.args.draft.now c.args.dir) (c.requires.there told).0 (c.requires.there told).1 (λ x at dir. c.a_directory_has_whole_slots.ensures c.args.blocks.now c.args.draft.now c.args.dir x told c.requires.look.may at dir) (c.slots_follow_the_bytes.ensures.count l) in
    let size : (told : IsTrue g.S.Blocks.tells) → c.end_of.result ≡ directory_bytes l c.args.count = λ told.
    let r = node told in
    bytes_within c.layout-layout.result l c.args.count (length (c.requires.there told).0) (length r.file.bytes) c.end_of.result same (c.requires.there told).2 r.long (c.a_file_fits_the_disk.ensures c.args.draft.now c.args.dir r.file told c.requires.look.may r.is) c.end_of.ensures.count in
    record {
      size = c.end_of.ensures.within;
      slots = λ told x at dir.
          let there = c.requires.there told in
          let r = node told in
          let same_file = same_Some x r.file (sym at ∙ r.is) in
          subst (λ (y : FileNode). MayEndAt l y.bytes c.end_of.result) (sym same_file)
          (cut_at l r.file.bytes there.0 c.args.count c.end_of.result (size told) (omega (arith, there.2)) (slots_read l r.file there.0 r.reads r.long) c.entries_follow_their_bytes.ensures.gaps);
      shorter = λ told x at.
          let there = c.requires.there told in
          let r = node told in
          let long : length x.bytes ≡ directory_bytes l (length there.0) = ap (λ (y : FileNode). length y.bytes) (same_Some x r.file (sym at ∙ r.is)) ∙ r.long in
          omega (arith, size told, long, there.2, directory_holds l c.args.count (length there.0) there.2, directory_before l c.args.count, slot_size_is l);
    }

module _ (g : _) (c : goal.In_ok-cut_to g) where
  abbrev l : Layout
  l = (g.S.Blocks.state c.args.blocks.now).books.geom.layout

  same : c.layout-layout.result ≡ l
  same = c.layout-layout.ensures ∙ ap (λ (h : Geometry). h.layout) c.geom.ensures

  abbrev s : State
  s = g.S.Blocks.state c.args.blocks.now

  node : IsTrue g.S.Blocks.tells → (slots : List Slot) → inodes_in s c.args.draft.now c.args.dir ≡ Some (ADir slots) → DirNode l (files_in s c.args.draft.now c.args.dir) slots
  node told slots is =
      dir_node l (files_in s c.args.draft.now c.args.dir) slots is
      (λ x at dir. c.a_directory_has_whole_slots.ensures c.args.blocks.now c.args.draft.now c.args.dir x told c.requires.look.may at dir) (c.slots_follow_the_bytes.ensures.count l)

  -- where it is cut
  told_size : IsTrue g.S.Blocks.tells → (slots : List Slot) → inodes_in s c.args.draft.now c.args.dir ≡ Some (ADir slots) → c.end_of.result ≡ directory_bytes l c.args.count
  told_size told slots is =
      let r = node told slots is in
      bytes_within c.layout-layout.result l c.args.count (length slots) (length r.file.bytes) c.end_of.result same (place_of_slots _ c.args.count slots (c.requires.there told) is) r.long
      (c.a_file_fits_the_disk.ensures c.args.draft.now c.args.dir r.file told c.requires.look.may r.is) c.end_of.ensures.count

pub returns : goal.returns
returns g c = record {
  slots = λ told slots is.
      sets_cut (l g c) _ _ c.args.dir c.args.count c.end_of.result slots (node g c told slots is) (place_of_slots _ c.args.count slots (c.requires.there told) is) (told_size g c told slots is)
      (c.slots_follow_the_bytes.ensures.cut (l g c)) (c.in_ok-cut_to.ensures.file told);
  places = λ told.
      let new = g.S.Blocks.state c.cut_to.new.blocks in
      let there = c.requires.there told in
      subst (λ n. IsWithPlaces (places_in (s g c) c.args.draft.now) (places_in new c.cut_to.new.self) c.args.dir (take n (places_in (s g c) c.args.draft.now c.args.dir)))
      (ap blocks_for (told_size g c told there.0 there.1) ∙ directory_needs (l g c) c.args.count)
      (c.in_ok-cut_to.ensures.places told);
  draft = c.in_ok-cut_to.ensures.draft;
  kept = c.in_ok-cut_to.ensures.kept;
  alters = λ told slots is.
      let r = node g c told slots is in
      alters_cut (s g c).books.geom c.args.dir c.args.count c.end_of.result slots _ r (places_in (s g c) c.args.draft.now c.args.dir) (places_in (g.S.Blocks.state c.cut_to.new.blocks) c.cut_to.new.self c.args.dir) c.args.draft.now c.cut_to.new.self
      (told_size g c told slots is) (c.a_file_has_its_blocks.ensures c.args.blocks.now c.args.draft.now c.args.dir r.file told c.requires.look.may r.is)
      (c.where_nothing_is_kept.ensures.all (is_kept c.args.draft.now.kept) _
      (All-drop (λ b. is_kept c.args.draft.now.kept b ≡ false) (blocks_for c.end_of.result) _ (c.a_directory_shares_no_block.ensures c.args.blocks.now c.args.draft.now c.args.dir r.file told c.requires.look.may r.is r.kind)))
      (c.in_ok-cut_to.ensures.shrinks told r.file r.is) (c.in_ok-cut_to.ensures.among told r.file r.is);
  refused = tt;
  looks = c.in_ok-cut_to.ensures.looks;
}
