use Rattle.std.proofs.Common.{◌≡◌, IfSome, sym, subst, ap, ◌∙◌}
use Rattle.std.proofs.lemmas.Option.{none-some, same_Some}
use Rattle.fs_snapshots.specs.Kept.{IsSnapshotAt, KeptState, MayReadKept}
use Rattle.fs_session.specs.Commands.{places_of}
use Rattle.fs_commands.proofs.Holding.{may_hold, snapshot_at}
use Rattle.fs_commands.proofs.planning.Looking.{no_look}
use Rattle.fs_commands.proofs.snapped.Kept.{still}
use Rattle.fs_commands.proofs.held.hold.Goals as goal

pub returns-then-is_held-clause-may : goal.returns-then-is_held-clause-may
returns-then-is_held-clause-may g c = may_hold g.S.Blocks.tells (g.S.Blocks.state c.args.blocks.now) c.requires.begin.sound c.a_sound_snapshot_is_whole.ensures.whole c.args.held.now c.requires.holds

pub returns-then-is_held-clause-looks : goal.returns-then-is_held-clause-looks
returns-then-is_held-clause-looks g c = no_look g.S.Blocks.tells (g.S.Blocks.state c.args.blocks.now)

pub returns-in-Some-clause-holds : goal.returns-in-Some-clause-holds
returns-in-Some-clause-holds g c =
    let s = g.S.Blocks.state c.args.blocks.now in
    let t = g.S.Blocks.state c.kept_nodes.new.blocks in
    let v = c.in-Some.nodes in
    let may : MayReadKept g.S.Blocks.tells t v = subst (λ o. IfSome o (MayReadKept g.S.Blocks.tells t)) c.in-Some.is c.in_ok-nodes.ensures.may in
    record {
      gone = may.gone;
      there = λ told.
          let found = c.in_ok-nodes.ensures.kept told in
          let places : v.places ≡ places_of s c.args.number = ap (λ (v : KeptState). v.places) (same_Some v found.0 (sym c.in-Some.is ∙ found.1)) ∙ found.2 in
          still g.S.Blocks.tells s t c.in_ok-nodes.ensures.looks (λ g m. IsSnapshotAt g m c.args.number v.places) told (snapshot_at s c.args.number v.places (c.requires.snapshot told) places);
    }

pub returns-in-Some-clause-may : goal.returns-in-Some-clause-may
returns-in-Some-clause-may g c = subst (λ o. IfSome o (MayReadKept g.S.Blocks.tells (g.S.Blocks.state c.kept_nodes.new.blocks))) c.in-Some.is c.in_ok-nodes.ensures.may

pub returns-in-None-clause-there : goal.returns-in-None-clause-there
returns-in-None-clause-there g c = λ told. let found = c.in_ok-nodes.ensures.kept told in absurd (none-some found.0 (sym c.in-None.is ∙ found.1))
