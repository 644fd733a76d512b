use Rattle.std.proofs.Common.{refl, ◌∙◌, inl, inr, ⊎_elim, ◌<◌, ◌∷◌, [], length, subst, sym, arith}
use Rattle.std.proofs.lemmas.List.{length-append}
use Rattle.fs_commands.specs.Opened.{blocks_in}
use Rattle.fs_log.specs.Causes.{AsksForRoom, AsksToMake}
use Rattle.fs_log.proofs.Causes.{passed_on}
use Rattle.fs_log.proofs.Mirroring.{on_err}
use Rattle.fs_log.proofs.Writing.{no_time, resting}
use Rattle.fs_log.proofs.Ways.{asks_nothing, asks_so}
use Rattle.fs_log.proofs.log.AppLog.make_room.Goals as goal

pub returns-then-has_room-clause-rests : goal.returns-then-has_room-clause-rests
returns-then-has_room-clause-rests g c = λ told.
    (resting g.S.Blocks.state (blocks_in c.args.self.now.fs) (c.calls_compose.ensures.rests told) (λ s trees img known left. c.a_crash_leaves_the_tree_of_a_point.ensures.now s trees img told known left)).takes

pub add_segment-requires : goal.add_segment-requires
add_segment-requires g c = record { used = ⊎_elim (λ none. inl none) (λ past. inr (omega (arith, past, c.has_room.ensures.least, c.requires.short))) (c.has_room.ensures.none c.if-has_room.false) }

pub returns-clause-room : goal.returns-clause-room
returns-clause-room g c =
    let made = c.in_ok-add_segment.ensures.made in (
      subst (λ q. 0 < length q) (sym made.0) (omega (arith, length-append c.args.self.now.firsts (c.args.self.now.next ∷ []))),
      omega (arith, made.1, c.add_segment.ensures.same, c.has_room.ensures.least, c.requires.short),
    )

pub returns-then-has_room-clause-time : goal.returns-then-has_room-clause-time
returns-then-has_room-clause-time g c = λ told. no_time g.S.Blocks.state (c.calls_compose.ensures.rests told) (blocks_in c.args.self.now.fs)

pub returns-then-has_room-clause-made : goal.returns-then-has_room-clause-made
returns-then-has_room-clause-made g c = inl (sym c.has_room.ensures.is ∙ c.if-has_room.true, refl, refl)

pub returns-in_err-add_segment-clause-none : goal.returns-in_err-add_segment-clause-none
returns-in_err-add_segment-clause-none g c = on_err c.from_residual.result _ (sym c.has_room.ensures.is ∙ c.if-has_room.false)

pub returns-in_err-add_segment-clause-cause : goal.returns-in_err-add_segment-clause-cause
returns-in_err-add_segment-clause-cause g c = passed_on c.from_residual.result c.in_err-add_segment.field-0.0 _ c.from_residual.ensures.1 c.in_err-add_segment.ensures.cause

pub returns-clause-made : goal.returns-clause-made
returns-clause-made g c = let made = c.in_ok-add_segment.ensures.made in inr (sym c.has_room.ensures.is ∙ c.if-has_room.false, made.0, made.1)

pub returns-then-has_room-clause-asked : goal.returns-then-has_room-clause-asked
returns-then-has_room-clause-asked g c = λ told. asks_nothing g.S.Blocks.tells g.S.Blocks.state (AsksForRoom c.args.self.now c.args.count) (blocks_in c.args.self.now.fs)

pub returns-clause-asked : goal.returns-clause-asked
returns-clause-asked g c = λ told.
    let old = c.args.self.now in
    asks_so g.S.Blocks.tells g.S.Blocks.state (AsksToMake old) (AsksForRoom old c.args.count) (blocks_in old.fs) (blocks_in c.add_segment.new.self.fs)
    (λ cmd asked. (sym c.has_room.ensures.is ∙ c.if-has_room.false, asked)) (c.in_ok-add_segment.ensures.asked told)
