use Rattle.std.proofs.Common.{◌≡◌, [], rules, refl, false, subst, ap, ◌∙◌, arith}
use Rattle.layout_geometry.specs.Geometry.{Geometry}
use Rattle.engine_blocks.specs.State.{Bookkeeping}
use Rattle.fs_commands.specs.Listing.{turns_in, HaveNumbers}
use Rattle.fs_commands.proofs.looking.Found.{looks_more}
use Rattle.fs_commands.proofs.listed.Texts.{on_err}
use Rattle.fs_commands.proofs.listed.Reads.{map_stays}
use Rattle.fs_commands.proofs.listed.Walks.{turns_join}
use Rattle.fs_commands.proofs.listed.Whole.{whole_front, whole_writes, numbers_split, turn_front, turn_writes, ended}
use Rattle.fs_commands.proofs.listing.list_from_root.Goals as goal

pub returns-in_err-show-clause-front : goal.returns-in_err-show-clause-front
returns-in_err-show-clause-front g c = λ told.
    let s = g.S.Blocks.state c.args.blocks.now in
    on_err _ _ (whole_front s (g.N.Nodes.nodes s c.args.files.now) _ c.new.ensures.items c.new-2.ensures.items (c.i.ensures ∙ ap (λ (x : Geometry). x.i) c.geom-geom.ensures) c.a_map_is_of_one_tree.ensures.sound c.paths_are_counted.ensures.directory c.a_listing_goes_down.ensures.root
    _ _ (c.in_err-show.ensures.front told))

pub loop-frame-init : goal.loop-frame-init
loop-frame-init g c =
    let s = g.S.Blocks.state c.args.blocks.now in
    record {
      looks = c.in_ok-show.ensures.lists.looks;
      faults = c.in_ok-show.ensures.lists.pushes.1;
      numbers = c.in_ok-show.ensures.numbers;
      text = λ told. whole_writes s (g.N.Nodes.nodes s c.args.files.now) _ c.new.ensures.items c.new-2.ensures.items (c.i.ensures ∙ ap (λ (x : Geometry). x.i) c.geom-geom.ensures) c.a_map_is_of_one_tree.ensures.sound c.paths_are_counted.ensures.directory c.a_listing_goes_down.ensures.root
          _ _ _ (c.in_ok-show.ensures.writes told);
    }

pub turn-requires-clause-read : goal.turn-requires-clause-read
turn-requires-clause-read g c =
    let looks = c.loop-frame.invariant.looks in
    record {
      going = ap (λ (b : Bookkeeping). b.stopped) looks.books ∙ c.requires.read.going;
      may = c.laws.ensures.stays false c.args.blocks.now c.loop-frame.blocks looks c.requires.read.may;
    }

pub turn-requires-clause-numbers : goal.turn-requires-clause-numbers
turn-requires-clause-numbers g c =
    (numbers_split (g.S.Blocks.state c.args.blocks.now).books.geom.i (g.S.Blocks.state c.loop-frame.blocks).books.geom.i c.loop-frame.walk.frames.items c.pop.new.self.items c.in-Some.frame (ap (λ (b : Bookkeeping). b.geom.i) c.loop-frame.invariant.looks.books)
    c.in-Some.ensures.items c.loop-frame.invariant.numbers).0

pub turn-requires-clause-number : goal.turn-requires-clause-number
turn-requires-clause-number g c =
    (numbers_split (g.S.Blocks.state c.args.blocks.now).books.geom.i (g.S.Blocks.state c.loop-frame.blocks).books.geom.i c.loop-frame.walk.frames.items c.pop.new.self.items c.in-Some.frame (ap (λ (b : Bookkeeping). b.geom.i) c.loop-frame.invariant.looks.books)
    c.in-Some.ensures.items c.loop-frame.invariant.numbers).1

pub loop-frame-preserved : goal.loop-frame-preserved
loop-frame-preserved g c =
    let s = g.S.Blocks.state c.args.blocks.now in
    let mid = g.S.Blocks.state c.loop-frame.blocks in
    let invariant = c.loop-frame.invariant in
    record {
      looks = looks_more g.S.Blocks.tells false s mid (g.S.Blocks.state c.turn.new.blocks) invariant.looks c.in_ok-turn.ensures.lists.looks;
      faults = c.in_ok-turn.ensures.lists.pushes.1 ∙ invariant.faults;
      numbers = subst (λ n. HaveNumbers n c.turn.new.walk.frames.items) (ap (λ (b : Bookkeeping). b.geom.i) invariant.looks.books) c.in_ok-turn.ensures.numbers;
      text = λ told. turn_writes s mid (g.N.Nodes.nodes s c.args.files.now) (g.N.Nodes.nodes mid c.args.files.now) (g.K.Sink.taken c.args.out.now) c.loop-frame.walk c.in-Some.frame _ refl c.in-Some.ensures.items refl (g.K.Sink.taken c.loop-frame.out) (invariant.text told)
          c.turn.new.walk (g.K.Sink.taken c.turn.new.out) (map_stays g.S.Blocks.tells false s mid _ _ invariant.looks (c.laws.ensures.same false c.args.blocks.now c.loop-frame.blocks invariant.looks told)) (c.in_ok-turn.ensures.writes told);
    }

pub loop-frame-smaller : goal.loop-frame-smaller
loop-frame-smaller g c = omega (arith, c.in_ok-turn.ensures.turns, ap turns_in c.in-Some.ensures.items, turns_join c.pop.new.self.items c.in-Some.frame)

pub returns-in_err-turn-clause-front : goal.returns-in_err-turn-clause-front
returns-in_err-turn-clause-front g c = λ told.
    let s = g.S.Blocks.state c.args.blocks.now in
    let mid = g.S.Blocks.state c.loop-frame.blocks in
    on_err _ _ (turn_front s mid (g.N.Nodes.nodes s c.args.files.now) (g.N.Nodes.nodes mid c.args.files.now) (g.K.Sink.taken c.args.out.now) c.loop-frame.walk c.in-Some.frame _ refl c.in-Some.ensures.items refl (g.K.Sink.taken c.loop-frame.out) (c.loop-frame.invariant.text told)
    _ c.prefixes_join.ensures.second c.a_listing_goes_down.ensures.root (map_stays g.S.Blocks.tells false s mid _ _ c.loop-frame.invariant.looks (c.laws.ensures.same false c.args.blocks.now c.loop-frame.blocks c.loop-frame.invariant.looks told)) (c.in_err-turn.ensures.front told))

pub returns-clause-all : goal.returns-clause-all
returns-clause-all g c = λ told m t h.
    let none : c.loop-frame.walk.frames.items ≡ [] = search rules in
    ended m t c.loop-frame.walk _ _ none (c.a_listing_goes_down.ensures.root t) (c.loop-frame.invariant.text told m t h)
