use Rattle.std.proofs.Common.{◌≡◌, Some, IfSome, sym, subst, ap, ◌∙◌}
use Rattle.crash_stands.specs.Bounds.{bounds_of}
use Rattle.std.proofs.lemmas.Option.{none-some, same_Some}
use Rattle.lang_tree.specs.Step.{look_command, step}
use Rattle.crash_stands.specs.Inodes.{inodes_of}
use Rattle.crash_stands.specs.Stands.{KeepsTree}
use Rattle.engine_blocks.specs.State.{Bookkeeping}
use Rattle.fs_files.specs.Calls as fc
use Rattle.fs_files.specs.Content.{fails_reading}
use Rattle.fs_files.specs.Places.{looks_more}
use Rattle.lang_tree.specs.Step.{Session}
use Rattle.fs_snapshots.specs.Kept.{MayReadKept, kept_map}
use Rattle.fs_session.specs.Commands.{places_of}
use Rattle.fs_commands.specs.declared.held.HeldNodes.{HeldNodes}
use Rattle.fs_commands.specs.Held.{AreHeld}
use Rattle.fs_commands.specs.Looks.{IsMapOfSession}
use Rattle.fs_commands.proofs.Holding.{holds_looked, places_at}
use Rattle.fs_commands.proofs.snapped.Answers.{ok_more}
use Rattle.fs_commands.proofs.snapped.Kept.{still}
use Rattle.fs_commands.proofs.kept_looks.look_at_kept.Goals as goal

pub look_in-requires : goal.look_in-requires
look_in-requires g c = record {
  read = record {
    going = ap (λ (b : Bookkeeping). b.stopped) c.in_ok-hold.ensures.looks.books ∙ c.requires.begin.going;
    may = subst (λ o. IfSome o (λ (h : HeldNodes). MayReadKept g.S.Blocks.tells (g.S.Blocks.state c.hold.new.blocks) h.nodes)) c.in-Some.is c.in_ok-hold.ensures.may;
  };
}

pub returns-in-Some-clause-answer : goal.returns-in-Some-clause-answer
returns-in-Some-clause-answer g c = λ told.
    let s = g.S.Blocks.state c.args.blocks.now in
    let t = g.S.Blocks.state c.hold.new.blocks in
    let kept = c.in-Some.kept in
    let v = kept.nodes in
    let are : AreHeld g.S.Blocks.tells t kept = subst (λ o. IfSome o (AreHeld g.S.Blocks.tells t)) c.in-Some.is c.in_ok-hold.ensures.holds in
    let found = c.in_ok-hold.ensures.there told in
    let number : kept.number ≡ c.args.number = ap (λ (h : HeldNodes). h.number) (same_Some kept found.0 (sym c.in-Some.is ∙ found.1)) ∙ found.2 in
    let places : v.places ≡ places_of t c.args.number = places_at t kept.number v.places (are.there told) ∙ ap (places_of t) number in
    ok_more (λ reply. (f : Session) → IsMapOfSession (bounds_of t.books.geom) (inodes_of t.books.geom.layout (kept_map t.books.geom t.map v.places).files) f → reply ≡ (step f (look_command c.args.look.now)).1) _ c.look_in.result
    (λ reply h k f keeps is. h f (subst (λ f. IsMapOfSession (bounds_of t.books.geom) (inodes_of t.books.geom.layout (kept_map t.books.geom t.map v.places).files) f) (sym is) (record {
      map = c.kept_nodes_have_the_map_of_their_tree.ensures t.books.geom t.map v.places k
          (subst (λ ps. KeepsTree t.books.geom t.map ps k) (sym places) (still g.S.Blocks.tells s t c.in_ok-hold.ensures.looks (λ g m. KeepsTree g m (fc.places_of g m c.args.number) k) told keeps));
      limit_is = ap (λ (b : Bookkeeping). bounds_of b.geom) (sym c.in_ok-hold.ensures.looks.books);
    }))) (c.look_in.ensures.answer told)

pub returns-in-Some-clause-looks : goal.returns-in-Some-clause-looks
returns-in-Some-clause-looks g c = looks_more g.S.Blocks.tells (fails_reading c.look_in.result) (g.S.Blocks.state c.args.blocks.now) (g.S.Blocks.state c.hold.new.blocks) (g.S.Blocks.state c.look_in.new.blocks) c.in_ok-hold.ensures.looks c.look_in.ensures.looks

pub returns-in-Some-clause-holds : goal.returns-in-Some-clause-holds
returns-in-Some-clause-holds g c =
    let t = g.S.Blocks.state c.hold.new.blocks in
    holds_looked g.S.Blocks.tells (fails_reading c.look_in.result) t (g.S.Blocks.state c.look_in.new.blocks) c.look_in.ensures.looks (Some c.in-Some.kept)
    (subst (λ o. IfSome o (AreHeld g.S.Blocks.tells t)) c.in-Some.is c.in_ok-hold.ensures.holds)

pub returns-in-None-clause-answer : goal.returns-in-None-clause-answer
returns-in-None-clause-answer g c = λ told. let found = c.in_ok-hold.ensures.there told in absurd (none-some found.0 (sym c.in-None.is ∙ found.1))
