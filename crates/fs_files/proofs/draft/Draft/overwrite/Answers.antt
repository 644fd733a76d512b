use Rattle.std.proofs.Common.{◌≡◌, ◌+◌, ℕ, List, false, All, IsTrue, length, option_map, Some, refl, sym, ap, subst, ◌∙◌, rules, arith}
use Rattle.std.specs.Prelude.{IfSome}
use Rattle.std.proofs.lemmas.Bool.{eqb-false}
use Rattle.base_types.specs.Seal.{Blocks}
use Rattle.base_types.specs.declared.words.Class.{Class}
use Rattle.layout_geometry.specs.Geometry.{IsGeometry}
use Rattle.engine_blocks.specs.State.{State}
use Rattle.crash_stands.specs.Files.{joined, used_node}
use Rattle.fs_files.specs.Bytes.{met, overwrite}
use Rattle.fs_files.specs.Calls.{places_in, places_or_none, ChangesAmong}
use Rattle.fs_files.specs.Changing.{OverwritesFile}
use Rattle.fs_files.specs.Content.{HasContent, WritesContent}
use Rattle.fs_files.specs.Drafts.{drafted}
use Rattle.fs_files.specs.Effects.{LooksOnly}
use Rattle.fs_files.specs.Shared.{is_kept}
use Rattle.fs_files.specs.Nodes.{node_of_open, IsOpen}
use Rattle.fs_files.specs.Places.{looks_more}
use Rattle.fs_files.proofs.frames.Carry.{draft_looks}
use Rattle.fs_files.proofs.calling.Nodes.{has_table}
use Rattle.fs_files.proofs.drafts.Refused.{same_error}
use Rattle.fs_files.proofs.calling.WriteAt.{is_long}
use Rattle.fs_files.proofs.calling.Within.{WritesWithin, within_draft, within_file, within_places, within_changes}
use Rattle.fs_files.proofs.draft.Draft.overwrite.Goals as goal
use Rattle.fs_files.proofs.draft.Draft.overwrite.Goals.{In-Some}

-- the node that was read
module _ (g : _) (c : In-Some g) where
  abbrev s : State
  s = g.S.Blocks.state c.args.blocks.now

  abbrev t : State
  t = g.S.Blocks.state c.load.new.blocks

  opened : IsOpen s.books.geom c.in-Some.node
  opened = search (rules, c.in_ok-node.ensures.open)

  used : IsTrue g.S.Blocks.tells → Some (node_of_open s.books.geom.layout c.in-Some.node) ≡ used_node s.books.geom (drafted c.args.self.now s.map) c.args.number
  used told =
      ap (option_map (node_of_open s.books.geom.layout)) (sym c.in-Some.is)
      ∙ c.in_ok-node.ensures.node told (has_table s c.args.self.now c.args.number (subst IsGeometry c.geom.ensures c.lawful.ensures.limits) c.requires.look.from c.requires.look.upto (c.requires.look.may.sound told))

pub returns-then-node-offset : goal.returns-then-node-offset
returns-then-node-offset g c =
    let b = (goal.at.returns-then-node-offset g c).In-Some in
    let there = c.requires.used in
    let short = λ (told : IsTrue g.S.Blocks.tells). is_long g.S.Blocks.tells (s g b) (t g b) c.args.number c.args.self.now c.in-Some.node c.in_ok-node.ensures.looks told (c.requires.look.may.sound told) (opened g b) (used g b told) c.a_list_has_its_runs.ensures.places (there told).0 (there told).1 in
    record {
      file = λ told x at. absurd (omega (arith, c.if-node-offset.true, c.requires.within told (there told).0 (there told).1, short told));
      places = λ told. absurd (omega (arith, c.if-node-offset.true, c.requires.within told (there told).0 (there told).1, short told));
      draft = draft_looks g.S.Blocks.tells false (s g b) (t g b) c.args.self.now c.in_ok-node.ensures.looks c.requires.look.may;
      kept = refl;
      overwrites = λ told. absurd (omega (arith, c.if-node-offset.true, c.requires.within told (there told).0 (there told).1, short told));
      changes = λ told some. absurd (omega (arith, c.if-node-offset.true, c.requires.within told (there told).0 (there told).1, short told));
      refused = tt;
      looks = c.in_ok-node.ensures.looks;
    }

-- the node was written
module _ (g : _) (c : goal.In_ok-write_content g) where
  abbrev old : State
  old = g.S.Blocks.state c.args.blocks.now

  abbrev mid : State
  mid = g.S.Blocks.state c.load.new.blocks

  abbrev new : State
  new = g.S.Blocks.state c.write_content.new.blocks

  looks : LooksOnly g.S.Blocks.tells false old new
  looks = looks_more g.S.Blocks.tells false old mid new c.in_ok-node.ensures.looks c.in_ok-write_content.ensures.looks

  written : WritesWithin g.S.Blocks.tells old c.args.number c.args.offset c.args.bytes.now c.in-Some.node c.args.self.now c.write_content.new.draft
  written = record {
    geom = subst IsGeometry c.geom.ensures c.lawful.ensures.limits;
    from = c.requires.look.from;
    upto = c.requires.look.upto;
    draft = c.requires.look.may;
    opened = subst (λ f. IfSome f (IsOpen old.books.geom)) c.in-Some.is c.in_ok-node.ensures.open;
    used = λ told. ap (option_map (node_of_open old.books.geom.layout)) (sym c.in-Some.is)
        ∙ c.in_ok-node.ensures.node told (has_table old c.args.self.now c.args.number (subst IsGeometry c.geom.ensures c.lawful.ensures.limits) c.requires.look.from c.requires.look.upto (c.requires.look.may.sound told));
    within = omega (arith, c.if-node-offset.false);
    few = c.requires.size;
    some = omega (arith, eqb-false (length c.args.bytes.now) 0 ((sym c.is_empty.ensures ∙ c.if-is_empty.false)));
    apart = λ told. subst (All (λ b. is_kept c.args.self.now.kept b ≡ false))
        (sym (ap places_or_none (ap (option_map (node_of_open old.books.geom.layout)) (sym c.in-Some.is)
        ∙ c.in_ok-node.ensures.node told (has_table old c.args.self.now c.args.number (subst IsGeometry c.geom.ensures c.lawful.ensures.limits) c.requires.look.from c.requires.look.upto (c.requires.look.may.sound told))))
        ∙ c.a_list_has_its_runs.ensures.places c.in-Some.node.places)
        (c.requires.apart told);
    writes = subst (λ (x : Class). WritesContent x (met c.args.offset (c.args.offset + length c.args.bytes.now) c.in-Some.node.places) c.args.self.now c.write_content.new.draft) c.class_of-class.ensures c.in_ok-write_content.ensures.writes;
    new = c.in_ok-write_content.ensures.some;
    content = λ told. subst (λ (m : Blocks). HasContent m c.args.self.now c.in-Some.node.places → HasContent m c.write_content.new.draft c.in-Some.node.places) (c.in_ok-node.ensures.looks.map told) (c.in_ok-write_content.ensures.content told);
    bytes = λ told. subst (λ (m : Blocks). HasContent m c.args.self.now c.in-Some.node.places → joined (drafted c.write_content.new.draft m) c.in-Some.node.places ≡ overwrite c.args.offset c.args.bytes.now (joined (drafted c.args.self.now m) c.in-Some.node.places)) (c.in_ok-node.ensures.looks.map told) (c.in_ok-write_content.ensures.bytes told);
    places = c.a_list_has_its_runs.ensures.places;
  }

pub returns : goal.returns
returns g c = record {
  file = within_file g.S.Blocks.tells (old g c) c.args.number c.args.offset c.args.bytes.now c.in-Some.node c.args.self.now c.write_content.new.draft (written g c) false (new g c) (looks g c);
  places = within_places g.S.Blocks.tells (old g c) c.args.number c.args.offset c.args.bytes.now c.in-Some.node c.args.self.now c.write_content.new.draft (written g c) false (new g c) (looks g c);
  draft = within_draft g.S.Blocks.tells (old g c) c.args.number c.args.offset c.args.bytes.now c.in-Some.node c.args.self.now c.write_content.new.draft (written g c) false (new g c) (looks g c);
  kept = c.in_ok-write_content.ensures.writes.kept;
  overwrites = λ told.
      let bs = met c.args.offset (c.args.offset + length c.args.bytes.now) in
      let same : c.in-Some.node.places ≡ places_in (old g c) c.args.self.now c.args.number = sym (c.a_list_has_its_runs.ensures.places c.in-Some.node.places) ∙ ap places_or_none ((written g c).used told) in
      let w = (written g c).writes in
      record {
        among = subst (λ (ps : List ℕ). ChangesAmong (bs ps) c.args.self.now c.write_content.new.draft) same w.keys;
        taken = w.taken;
        freed = w.freed;
        fresh = omega (arith, w.fresh_len);
      };
  changes = λ told some. within_changes g.S.Blocks.tells (old g c) c.args.number c.args.offset c.args.bytes.now c.in-Some.node c.args.self.now c.write_content.new.draft (written g c);
  refused = tt;
  looks = looks g c;
}

pub returns-in_err-write_content : goal.returns-in_err-write_content
returns-in_err-write_content g c =
    let tells = g.S.Blocks.tells in
    let start = g.S.Blocks.state c.args.blocks.now in
    let read = g.S.Blocks.state c.load.new.blocks in
    let end = g.S.Blocks.state c.write_content.new.blocks in
    same_error c.from_residual-in_err-write_content.result c.in_err-write_content.field-0.0 (λ r. OverwritesFile tells c.args.number c.args.offset c.args.bytes.now r start end c.args.self.now c.write_content.new.draft) c.from_residual-in_err-write_content.ensures.1
    (search (rules, c.in_err-write_content.ensures.refused, looks_more tells _ start read end c.in_ok-node.ensures.looks c.in_err-write_content.ensures.looks))
