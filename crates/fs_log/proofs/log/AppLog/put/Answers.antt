use Rattle.std.proofs.Common.{◌+◌, inr, length}
use Rattle.fs_commands.specs.Opened.{blocks_in}
use Rattle.lang_log.specs.History.{appended}
use Rattle.fs_log.specs.Keeping.{as_before}
use Rattle.fs_log.specs.Causes.{AsksForRoom, AsksToAppend, AsksToMake, AsksToWrite}
use Rattle.fs_log.specs.Refusals.{is_of_none}
use Rattle.fs_log.proofs.Appending.{makes_so, writes_so}
use Rattle.fs_log.proofs.Causes.{cause_later, passed_on}
use Rattle.fs_log.proofs.Mirroring.{on_err}
use Rattle.fs_log.proofs.Syncing.{same_history}
use Rattle.fs_log.proofs.Writing.{no_time, takes_twice}
use Rattle.fs_log.proofs.Ways.{asks_later, asks_nothing, asks_so}
use Rattle.fs_log.proofs.log.AppLog.put.Goals as goal

pub returns-in_err-make_room-clause-refused : goal.returns-in_err-make_room-clause-refused
returns-in_err-make_room-clause-refused g c = λ told. on_err c.from_residual.result _ (c.make_room.ensures.rests told)

pub returns-in_err-write-clause-refused : goal.returns-in_err-write-clause-refused
returns-in_err-write-clause-refused g c = λ told. on_err c.from_residual-in_err-write.result _
    (takes_twice g.S.Blocks.state c.calls_compose.ensures.advances as_before as_before same_history
    (blocks_in c.args.self.now.fs) (blocks_in c.make_room.new.self.fs) (blocks_in c.write.new.self.fs) (c.make_room.ensures.rests told) (c.in_err-write.ensures.refused told))

pub returns-clause-done : goal.returns-clause-done
returns-clause-done g c = λ told.
    takes_twice g.S.Blocks.state c.calls_compose.ensures.advances as_before (appended c.args.bytes.now) (λ h l may. inr may)
    (blocks_in c.args.self.now.fs) (blocks_in c.make_room.new.self.fs) (blocks_in c.write.new.self.fs) (c.make_room.ensures.rests told) (c.in_ok-write.ensures.done told)

pub returns-in_err-make_room-clause-cause : goal.returns-in_err-make_room-clause-cause
returns-in_err-make_room-clause-cause g c =
    let old = c.args.self.now in
    passed_on c.from_residual.result c.in_err-make_room.field-0.0 _ c.from_residual.ensures.1
    (cause_later g.S.Blocks.tells g.S.Blocks.state c.calls_compose.ensures.advances (λ told s. no_time g.S.Blocks.state (c.calls_compose.ensures.rests told) s)
    is_of_none is_of_none (AsksToMake old) (AsksToAppend old c.args.bytes.now) c.in_err-make_room.field-0.0 (blocks_in old.fs) (blocks_in old.fs) (blocks_in c.make_room.new.self.fs)
    (λ why own. own) (makes_so c.args.bytes.now old old c.in_err-make_room.ensures.none) (λ told. no_time g.S.Blocks.state (c.calls_compose.ensures.rests told) (blocks_in old.fs))
    (λ told. asks_nothing g.S.Blocks.tells g.S.Blocks.state (AsksToAppend old c.args.bytes.now) (blocks_in old.fs)) c.in_err-make_room.ensures.cause)

pub returns-in_err-write-clause-cause : goal.returns-in_err-write-clause-cause
returns-in_err-write-clause-cause g c =
    let old = c.args.self.now in
    let mid = c.make_room.new.self in
    passed_on c.from_residual-in_err-write.result c.in_err-write.field-0.0 _ c.from_residual-in_err-write.ensures.1
    (cause_later g.S.Blocks.tells g.S.Blocks.state c.calls_compose.ensures.advances (λ told s. no_time g.S.Blocks.state (c.calls_compose.ensures.rests told) s)
    is_of_none is_of_none (AsksToWrite mid c.args.bytes.now) (AsksToAppend old c.args.bytes.now) c.in_err-write.field-0.0 (blocks_in old.fs) (blocks_in mid.fs) (blocks_in c.write.new.self.fs)
    (λ why own. own) (writes_so c.args.bytes.now old mid c.in_ok-make_room.ensures.made) c.make_room.ensures.time
    (λ told. asks_so g.S.Blocks.tells g.S.Blocks.state (AsksForRoom old (4 + length c.args.bytes.now)) (AsksToAppend old c.args.bytes.now) (blocks_in old.fs) (blocks_in mid.fs)
    (λ cmd asked. makes_so c.args.bytes.now old old asked.0 cmd asked.1) (c.in_ok-make_room.ensures.asked told)) c.in_err-write.ensures.cause)

pub returns-clause-asked : goal.returns-clause-asked
returns-clause-asked g c = λ told.
    let old = c.args.self.now in
    let mid = c.make_room.new.self in
    asks_later g.S.Blocks.tells g.S.Blocks.state (AsksToAppend old c.args.bytes.now) (blocks_in old.fs) (blocks_in mid.fs) (blocks_in c.write.new.self.fs)
    (asks_so g.S.Blocks.tells g.S.Blocks.state (AsksForRoom old (4 + length c.args.bytes.now)) (AsksToAppend old c.args.bytes.now) (blocks_in old.fs) (blocks_in mid.fs)
    (λ cmd asked. makes_so c.args.bytes.now old old asked.0 cmd asked.1) (c.in_ok-make_room.ensures.asked told))
    (asks_so g.S.Blocks.tells g.S.Blocks.state (AsksToWrite mid c.args.bytes.now) (AsksToAppend old c.args.bytes.now) (blocks_in mid.fs) (blocks_in c.write.new.self.fs)
    (writes_so c.args.bytes.now old mid c.in_ok-make_room.ensures.made) (c.in_ok-write.ensures.asked told))
