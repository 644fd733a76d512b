use Rattle.std.proofs.Common.{rules, IsTrue, [], None, refl, sym, subst, ap, ◌∙◌, option_map}
use Rattle.layout_geometry.specs.Geometry.{IsGeometry}
use Rattle.engine_blocks.specs.Puts.{IsData}
use Rattle.engine_blocks.specs.State.{Bookkeeping, State}
use Rattle.crash_stands.specs.Files.{files_of}
use Rattle.fs_files.specs.Calls.{IsWithFile, IsWithPlaces, SetsNode, files_in, places_in, places_of}
use Rattle.fs_files.specs.Drafts.{ChangesSome, drafted}
use Rattle.fs_files.specs.Growing.{alone}
use Rattle.fs_files.specs.Nodes.{node_of_open, IsOpen}
use Rattle.fs_files.specs.Shared.{is_kept}
use Rattle.fs_files.specs.Sound.{FitsBooks, IsSoundDraft}
use Rattle.fs_files.proofs.drafts.Lists.{each_of, in_alone}
use Rattle.fs_files.proofs.frames.Places.{all_of}
use Rattle.fs_files.proofs.frames.Carry.{draft_looks, looked_places}
use Rattle.fs_files.proofs.frames.Puts.{put_changes}
use Rattle.fs_files.proofs.calling.Nodes.{has_table, looked_files}
use Rattle.fs_files.proofs.calling.Drops.{drops, drop_fits}
use Rattle.fs_files.proofs.draft.Draft.drop_node.Goals as goal

module _ (g : _) (c : goal.In_ok-store g) where
  opened : IsOpen (g.S.Blocks.state c.args.blocks.now).books.geom c.in-Some.node
  opened = search rules

  abbrev s : State
  s = g.S.Blocks.state c.args.blocks.now

  abbrev k : Bookkeeping
  k = s.books

  fits : FitsBooks k c.store.new.draft
  fits = drop_fits k c.geom-geom.result c.args.number (alone (is_kept c.args.self.now.kept) c.in-Some.node.places) _ c.args.self.now c.shrink.new.draft c.store.new.draft c.geom-geom.ensures c.lawful.ensures.limits c.requires.look.from c.requires.look.upto c.requires.look.may.fits
      (all_of (IsData k.geom) (alone (is_kept c.args.self.now.kept) c.in-Some.node.places) (λ b is. each_of (IsData k.geom) c.in-Some.node.places opened.«data» b (in_alone (is_kept c.args.self.now.kept) c.in-Some.node.places b is)))
      c.in_ok-shrink.ensures.frees c.in_ok-store.ensures.ok

  changed : ChangesSome c.store.new.draft
  changed = put_changes k c.geom-geom.result c.args.number _ c.shrink.new.draft c.store.new.draft c.geom-geom.ensures c.lawful.ensures.limits c.requires.look.from c.requires.look.upto fits c.in_ok-store.ensures.ok

  -- what was made of the draft, where the blocks are known
  made : IsTrue g.S.Blocks.tells → IsSoundDraft k s.map c.store.new.draft × IsWithFile (files_in s c.args.self.now) (files_of k.geom (drafted c.store.new.draft s.map)) c.args.number None × SetsNode k.geom c.args.number (alone (is_kept c.args.self.now.kept) (places_in s c.args.self.now c.args.number)) c.args.self.now c.store.new.draft
      × IsWithPlaces (places_in s c.args.self.now) (places_of k.geom (drafted c.store.new.draft s.map)) c.args.number []
  made tells =
      let sound = c.requires.look.may.sound tells in
      let there = has_table s c.args.self.now c.args.number (subst IsGeometry c.geom-geom.ensures c.lawful.ensures.limits) c.requires.look.from c.requires.look.upto sound in
      drops k s.map c.geom-geom.result c.args.number c.in-Some.node c.free_node.result c.load.new.table c.args.self.now c.shrink.new.draft c.store.new.draft
      c.geom-geom.ensures c.lawful.ensures.limits c.requires.look.from c.requires.look.upto c.requires.look.may.fits sound opened.«data» (c.a_list_has_its_runs.ensures.places c.in-Some.node.places)
      (ap (option_map (node_of_open s.books.geom.layout)) (sym c.in-Some.is) ∙ c.in_ok-node.ensures.node tells there) (c.in_ok-node.ensures.table tells there)
      c.in_ok-shrink.ensures.frees c.free_node.ensures c.in_ok-store.ensures.ok c.in_ok-store.ensures.back

pub returns : goal.returns
returns g c = record {
  file = λ tells. looked_files g.S.Blocks.tells _ (s g c) (g.S.Blocks.state c.load.new.blocks) c.args.self.now c.store.new.draft c.args.number _ c.load.ensures.looks tells (made g c tells).1;
  places = λ tells. looked_places g.S.Blocks.tells _ (s g c) (g.S.Blocks.state c.load.new.blocks) c.args.self.now c.store.new.draft c.args.number _ _ c.load.ensures.looks tells refl (made g c tells).3;
  draft = draft_looks g.S.Blocks.tells _ (s g c) (g.S.Blocks.state c.load.new.blocks) c.store.new.draft c.load.ensures.looks (record { fits = fits g c; sound = λ tells. (made g c tells).0; content = λ b some. changed g c });
  kept = c.in_ok-store.ensures.ok.kept ∙ c.in_ok-shrink.ensures.frees.kept;
  among = λ tells. (made g c tells).2;
  changes = λ tells. changed g c;
  refused = tt;
  looks = c.in_ok-node.ensures.looks;
}
