use Rattle.std.proofs.Common.{◌≡◌, false, rules, IsTrue, Some, refl, sym, subst, ap, ◌∙◌, option_map}
use Rattle.base_types.specs.declared.layout.Layout.{Layout}
use Rattle.layout_geometry.specs.Geometry.{IsGeometry}
use Rattle.engine_blocks.specs.State.{Bookkeeping, State}
use Rattle.crash_stands.specs.Files.{FileNode, files_of}
use Rattle.fs_files.specs.Calls.{IsWithFile, IsWithPlaces, files_in, places_in, places_of, with_links}
use Rattle.fs_files.specs.Drafts.{ChangesSome, drafted}
use Rattle.fs_files.specs.Nodes.{node_of_open, IsOpen}
use Rattle.fs_files.specs.Sound.{FitsBooks, IsSoundDraft}
use Rattle.fs_files.proofs.frames.Carry.{draft_looks, looked_places}
use Rattle.fs_files.proofs.frames.Puts.{put_changes}
use Rattle.fs_files.proofs.calling.Drops.{put_sets}
use Rattle.fs_files.proofs.calling.Nodes.{links_set, has_table, none_found, put_still_fits, looked_files}
use Rattle.fs_files.proofs.draft.Draft.set_links.Goals as goal

module _ (g : _) (c : goal.In_ok-store g) where
  abbrev s : State
  s = g.S.Blocks.state c.args.blocks.now

  abbrev k : Bookkeeping
  k = s.books

  fits : FitsBooks k c.store.new.draft
  fits = put_still_fits k c.geom-geom.result c.args.number _ c.args.self.now c.store.new.draft c.geom-geom.ensures c.lawful.ensures.limits c.requires.look.from c.requires.look.upto c.requires.look.may.fits c.in_ok-store.ensures.ok

  changed : ChangesSome c.store.new.draft
  changed = put_changes k c.geom-geom.result c.args.number _ c.args.self.now c.store.new.draft c.geom-geom.ensures c.lawful.ensures.limits c.requires.look.from c.requires.look.upto fits c.in_ok-store.ensures.ok

  -- what was made of the draft, where the blocks are known
  made : IsTrue g.S.Blocks.tells → (x : FileNode) → files_in s c.args.self.now c.args.number ≡ Some x
      → IsSoundDraft k s.map c.store.new.draft × IsWithFile (files_in s c.args.self.now) (files_of k.geom (drafted c.store.new.draft s.map)) c.args.number (Some (with_links x c.args.links))
      × IsWithPlaces (places_in s c.args.self.now) (places_of k.geom (drafted c.store.new.draft s.map)) c.args.number (places_in s c.args.self.now c.args.number)
  made tells x at =
      let sound = c.requires.look.may.sound tells in
      let there = has_table s c.args.self.now c.args.number (subst IsGeometry c.geom-geom.ensures c.lawful.ensures.limits) c.requires.look.from c.requires.look.upto sound in
      let opened : IsOpen k.geom c.in-Some.node = search rules in
      links_set k s.map c.geom-geom.result c.args.number c.args.links c.in-Some.node c.to_node-node.result x c.load.new.table c.args.self.now c.store.new.draft
      c.geom-geom.ensures c.lawful.ensures.limits c.requires.look.from c.requires.look.upto c.requires.look.may.fits sound opened c.requires.some c.requires.most
      (ap (option_map (node_of_open s.books.geom.layout)) (sym c.in-Some.is) ∙ c.in_ok-node.ensures.node tells there) (c.in_ok-node.ensures.table tells there) (c.to_node-node.ensures ∙ ap (λ (l : Layout). record (node_of_open l c.in-Some.node) { links = c.args.links }) c.layout.ensures)
      c.in_ok-store.ensures.ok c.in_ok-store.ensures.back at

pub returns-in_default : goal.returns-in_default
returns-in_default g c =
    let s = g.S.Blocks.state c.args.blocks.now in
    let t = g.S.Blocks.state c.load.new.blocks in
    let d = c.args.self.now in
    let geom = subst IsGeometry c.geom-geom.ensures c.lawful.ensures.limits in
    let node = λ (tells : IsTrue g.S.Blocks.tells). c.in_ok-node.ensures.node tells (has_table s d c.args.number geom c.requires.look.from c.requires.look.upto (c.requires.look.may.sound tells)) in
    record {
      file = λ tells x at. none_found s d c.args.number x c.in_ok-node.field-0 c.in_default.is (node tells) at;
      places = λ tells. let used = c.requires.used tells in none_found s d c.args.number used.0 c.in_ok-node.field-0 c.in_default.is (node tells) used.1;
      draft = draft_looks g.S.Blocks.tells false s t d c.in_ok-node.ensures.looks c.requires.look.may;
      kept = refl;
      among = λ tells. let used = c.requires.used tells in none_found s d c.args.number used.0 c.in_ok-node.field-0 c.in_default.is (node tells) used.1;
      changes = λ tells. let used = c.requires.used tells in none_found s d c.args.number used.0 c.in_ok-node.field-0 c.in_default.is (node tells) used.1;
      refused = tt;
      looks = c.in_ok-node.ensures.looks;
    }

pub returns : goal.returns
returns g c = record {
  file = λ tells x at. looked_files g.S.Blocks.tells _ (s g c) (g.S.Blocks.state c.load.new.blocks) c.args.self.now c.store.new.draft c.args.number _ c.load.ensures.looks tells (made g c tells x at).1;
  places = λ tells.
      let used = c.requires.used tells in
      looked_places g.S.Blocks.tells _ (s g c) (g.S.Blocks.state c.load.new.blocks) c.args.self.now c.store.new.draft c.args.number _ _ c.load.ensures.looks tells refl (made g c tells used.0 used.1).2;
  draft =
      draft_looks g.S.Blocks.tells _ (s g c) (g.S.Blocks.state c.load.new.blocks) c.store.new.draft c.load.ensures.looks
      (record { fits = fits g c; sound = λ tells. let used = c.requires.used tells in (made g c tells used.0 used.1).0; content = λ b some. changed g c });
  kept = c.in_ok-store.ensures.ok.kept;
  among = λ tells. put_sets (k g c) c.geom-geom.result c.args.number _ c.args.self.now c.store.new.draft c.geom-geom.ensures c.lawful.ensures.limits c.requires.look.from c.requires.look.upto c.requires.look.may.fits c.in_ok-store.ensures.ok;
  changes = λ tells. changed g c;
  refused = tt;
  looks = c.in_ok-node.ensures.looks;
}
