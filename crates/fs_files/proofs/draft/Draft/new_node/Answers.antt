use Rattle.std.proofs.Common.{rules, ap, refl, ◌+◌, ◌≡◌, ◌≤◌, arith, IsTrue}
use Rattle.std.proofs.lemmas.Grind.{common_steps}
use Rattle.engine_blocks.specs.State.{Bookkeeping}
use Rattle.fs_files.specs.Calls.{AreUsed, IsFirstUnused}
use Rattle.fs_files.specs.Drafts.{ChangesSome, drafted}
use Rattle.fs_files.specs.Nodes.{node_block}
use Rattle.fs_files.specs.Sound.{FitsBooks}
use Rattle.fs_files.proofs.frames.Carry.{draft_looks, looked_places}
use Rattle.fs_files.proofs.frames.Puts.{put_changes}
use Rattle.fs_files.proofs.calling.Drops.{put_sets}
use Rattle.fs_files.proofs.calling.Nodes.{put_still_fits, looked_files}
use Rattle.fs_files.proofs.calling.News.{news, all_used}
use Rattle.fs_files.proofs.draft.Draft.new_node.Goals as goal

pub returns-in_default : goal.returns-in_default
returns-in_default g c = record {
  node = λ tells. tt;
  places = λ tells. tt;
  none = λ tells.
      let s = g.S.Blocks.state c.args.blocks.now in
      let used : AreUsed s.books.geom (drafted c.args.self.now s.map) c.args.from (s.books.geom.i + 1) = search rules in
      (λ l low high. all_used s.books.geom (drafted c.args.self.now s.map) c.args.from (s.books.geom.i + 1) (c.requires.below tells) used l low (omega (arith, high)), refl);
  number = tt;
  draft = first_of (search rules, grind (arith, common_steps));
  kept = refl;
  among = tt;
  changes = tt;
  refused = tt;
  looks = first_of (search rules, grind (arith, common_steps));
}

module _ (g : _) (c : goal.In_ok-store g) where
  abbrev first : Type 0
  first = IsFirstUnused (g.S.Blocks.state c.args.blocks.now).books.geom (drafted c.args.self.now (g.S.Blocks.state c.args.blocks.now).map) c.args.from c.in-Some.number
      × (c.least_unused.new.table ≡ drafted c.args.self.now (g.S.Blocks.state c.args.blocks.now).map (node_block (g.S.Blocks.state c.args.blocks.now).books.geom c.in-Some.number))

  range : (1 ≤ c.in-Some.number) × (c.in-Some.number ≤ (g.S.Blocks.state c.args.blocks.now).books.geom.i)
  range = search rules

  abbrev k : Bookkeeping
  k = (g.S.Blocks.state c.args.blocks.now).books

  fits : FitsBooks k c.store.new.draft
  fits = put_still_fits k c.geom-geom.result c.in-Some.number _ c.args.self.now c.store.new.draft c.geom-geom.ensures c.lawful.ensures.limits range.0 range.1 c.requires.draft.fits c.in_ok-store.ensures.ok

  changed : ChangesSome c.store.new.draft
  changed = put_changes k c.geom-geom.result c.in-Some.number _ c.args.self.now c.store.new.draft c.geom-geom.ensures c.lawful.ensures.limits range.0 range.1 fits c.in_ok-store.ensures.ok

pub returns : goal.returns
returns g c =
    let s = g.S.Blocks.state c.args.blocks.now in
    let made = λ (tells : IsTrue g.S.Blocks.tells). let found : first g c = search rules in
    news s.books s.map c.geom-geom.result c.args.from c.in-Some.number c.args.kind (record { kind = c.args.kind; links = 1; size = 0; runs = c.new.result }) c.least_unused.new.table c.args.self.now c.store.new.draft
    c.geom-geom.ensures c.lawful.ensures.limits (range g c).0 (range g c).1 c.requires.draft.fits (c.requires.draft.sound tells) c.requires.kind (c.requires.below tells) found.0 found.1
    (ap (λ rs. record { kind = c.args.kind; links = 1; size = 0; runs = rs }) c.new.ensures) c.in_ok-store.ensures.ok c.in_ok-store.ensures.back in
    record {
      node = λ tells. ((made tells).2, looked_files g.S.Blocks.tells _ s (g.S.Blocks.state c.least_unused.new.blocks) c.args.self.now c.store.new.draft c.in-Some.number _ c.least_unused.ensures.looks tells (made tells).1);
      places = λ tells. looked_places g.S.Blocks.tells _ s (g.S.Blocks.state c.least_unused.new.blocks) c.args.self.now c.store.new.draft c.in-Some.number _ _ c.least_unused.ensures.looks tells refl (made tells).3;
      none = λ tells. tt;
      number = range g c;
      draft =
          draft_looks g.S.Blocks.tells _ s (g.S.Blocks.state c.least_unused.new.blocks) c.store.new.draft c.least_unused.ensures.looks (record {
            fits = fits g c;
            sound = λ tells. (made tells).0;
            content = λ b some. changed g c;
          });
      kept = c.in_ok-store.ensures.ok.kept;
      among = put_sets (k g c) c.geom-geom.result c.in-Some.number _ c.args.self.now c.store.new.draft c.geom-geom.ensures c.lawful.ensures.limits (range g c).0 (range g c).1 c.requires.draft.fits c.in_ok-store.ensures.ok;
      changes = changed g c;
      refused = tt;
      looks = first_of (search rules, grind (arith, common_steps));
    }
