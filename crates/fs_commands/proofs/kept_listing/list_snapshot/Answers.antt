use Rattle.std.proofs.Common.{◌≡◌, ◌++◌, codes, IfSome, sym, subst, ap, ◌∙◌, rules, arith}
use Rattle.std.proofs.KnownBytes.{Appends-trans}
use Rattle.std.proofs.lemmas.Option.{none-some, same_Some}
use Rattle.base_types.specs.Counts.{after_call}
use Rattle.base_io.specs.Prefix.{TakesPrefix}
use Rattle.lang_tree.specs.Listing.{path_lines, snapshot_lines}
use Rattle.lang_tree.specs.Tree.{Kept, kept_tree}
use Rattle.crash_stands.specs.Inodes.{inodes_of}
use Rattle.crash_stands.specs.Stands.{KeepsTree}
use Rattle.engine_blocks.specs.State.{Bookkeeping}
use Rattle.fs_files.specs.Places.{looks_more}
use Rattle.fs_snapshots.specs.Kept.{KeptState, MayReadKept, kept_map}
use Rattle.fs_session.specs.Commands.{places_of}
use Rattle.fs_commands.specs.Listing.{ended_by_push, ended_by_read}
use Rattle.fs_commands.proofs.listed.Texts.{on_err, took_nothing}
use Rattle.fs_commands.proofs.snapped.Answers.{on_ok_more, on_err_more}
use Rattle.fs_commands.proofs.snapped.Kept.{still}
use Rattle.fs_commands.proofs.kept_listing.list_snapshot.Goals as goal

pub list_from_root-requires : goal.list_from_root-requires
list_from_root-requires g c = record {
  read = record {
    going = ap (λ (b : Bookkeeping). b.stopped) c.in_ok-kept.ensures.looks.books ∙ c.requires.begin.going;
    may = subst (λ o. IfSome o (MayReadKept g.S.Blocks.tells (g.S.Blocks.state c.kept_nodes.new.blocks))) c.in-Some.is c.in_ok-kept.ensures.may;
  };
}

pub returns-in-Some-clause-all : goal.returns-in-Some-clause-all
returns-in-Some-clause-all g c = λ told.
    let s = g.S.Blocks.state c.args.blocks.now in
    let t = g.S.Blocks.state c.kept_nodes.new.blocks in
    let v = c.in-Some.kept in
    let found = c.in_ok-kept.ensures.kept told in
    let places : v.places ≡ places_of s c.args.number = ap (λ (v : KeptState). v.places) (same_Some v found.0 (sym c.in-Some.is ∙ found.1)) ∙ found.2 in
    on_ok_more c.list_from_root.result (λ h k keeps.
    Appends-trans _ _ _ (codes "snap " ++ c.args.name.now ++ codes "\n") (path_lines k.names k.nodes) c.in_ok-write_snapshot.ensures.all
    (h (inodes_of t.books.geom.layout (kept_map t.books.geom t.map v.places).files) (kept_tree k) (record {
      same = search rules;
      map = c.kept_nodes_have_the_map_of_their_tree.ensures t.books.geom t.map v.places k
          (still g.S.Blocks.tells s t c.in_ok-kept.ensures.looks (λ g m. KeepsTree g m v.places k) told (subst (λ ps. KeepsTree s.books.geom s.map ps k) (sym places) keeps));
    }))) (c.list_from_root.ensures.all told)

pub returns-in-Some-clause-front : goal.returns-in-Some-clause-front
returns-in-Some-clause-front g c = λ told.
    let s = g.S.Blocks.state c.args.blocks.now in
    let t = g.S.Blocks.state c.kept_nodes.new.blocks in
    let v = c.in-Some.kept in
    let found = c.in_ok-kept.ensures.kept told in
    let places : v.places ≡ places_of s c.args.number = ap (λ (v : KeptState). v.places) (same_Some v found.0 (sym c.in-Some.is ∙ found.1)) ∙ found.2 in
    on_err_more c.list_from_root.result (λ h k keeps.
    c.prefixes_join.ensures.second _ _ _ (codes "snap " ++ c.args.name.now ++ codes "\n") (path_lines k.names k.nodes) c.in_ok-write_snapshot.ensures.all
    (h (inodes_of t.books.geom.layout (kept_map t.books.geom t.map v.places).files) (kept_tree k) (record {
      same = search rules;
      map = c.kept_nodes_have_the_map_of_their_tree.ensures t.books.geom t.map v.places k
          (still g.S.Blocks.tells s t c.in_ok-kept.ensures.looks (λ g m. KeepsTree g m v.places k) told (subst (λ ps. KeepsTree s.books.geom s.map ps k) (sym places) keeps));
    }))) (c.list_from_root.ensures.front told)

pub returns-in-Some-clause-lists : goal.returns-in-Some-clause-lists
returns-in-Some-clause-lists g c = record {
  looks = looks_more g.S.Blocks.tells (ended_by_read c.list_from_root.result) (g.S.Blocks.state c.args.blocks.now) (g.S.Blocks.state c.kept_nodes.new.blocks) (g.S.Blocks.state c.list_from_root.new.blocks) c.in_ok-kept.ensures.looks c.list_from_root.ensures.lists.looks;
  pushes = (omega (arith, c.in_ok-write_snapshot.ensures.cause.0, c.list_from_root.ensures.lists.pushes.0), c.list_from_root.ensures.lists.pushes.1 ∙ ap (λ n. after_call (ended_by_push c.list_from_root.result) n) c.in_ok-write_snapshot.ensures.cause.1);
  going = c.list_from_root.ensures.lists.going;
}

pub returns-in-None-clause-all : goal.returns-in-None-clause-all
returns-in-None-clause-all g c = λ told. let found = c.in_ok-kept.ensures.kept told in absurd (none-some found.0 (sym c.in-None.is ∙ found.1))

pub returns-in-None-clause-lists : goal.returns-in-None-clause-lists
returns-in-None-clause-lists g c = record { looks = c.in_ok-kept.ensures.looks; pushes = c.in_ok-write_snapshot.ensures.cause; going = search rules }

pub returns-in_err-write_snapshot-clause-front : goal.returns-in_err-write_snapshot-clause-front
returns-in_err-write_snapshot-clause-front g c = λ told.
    let s = g.S.Blocks.state c.args.blocks.now in
    on_err _ ((k : Kept) → KeepsTree s.books.geom s.map (places_of s c.args.number) k → TakesPrefix (g.K.Sink.taken c.args.out.now) (g.K.Sink.taken c.write_snapshot.new.out) (snapshot_lines c.args.name.now k)) (λ k keeps. c.prefixes_join.ensures.first _ _ (codes "snap " ++ c.args.name.now ++ codes "\n") (path_lines k.names k.nodes) c.in_err-write_snapshot.ensures.front)

pub returns-in_err-kept-clause-front : goal.returns-in_err-kept-clause-front
returns-in_err-kept-clause-front g c = λ told.
    let s = g.S.Blocks.state c.args.blocks.now in
    on_err _ ((k : Kept) → KeepsTree s.books.geom s.map (places_of s c.args.number) k → TakesPrefix (g.K.Sink.taken c.args.out.now) (g.K.Sink.taken c.write_snapshot.new.out) (snapshot_lines c.args.name.now k)) (λ k keeps. c.prefixes_join.ensures.second _ _ _ (codes "snap " ++ c.args.name.now ++ codes "\n") (path_lines k.names k.nodes) c.in_ok-write_snapshot.ensures.all (took_nothing _ (path_lines k.names k.nodes)))
