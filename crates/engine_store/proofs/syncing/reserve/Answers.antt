use Rattle.std.proofs.Common.{◌+◌, ◌∙◌, arith}
use Rattle.engine_store.proofs.Reserving.{may_commit, same_store, still_kept}
use Rattle.engine_store.proofs.syncing.reserve.Goals as goal

pub overflow_add-laid : goal.overflow_add-laid
overflow_add-laid c = omega (arith, c.counts-paid.ensures.fresh, c.a_commit_has_what_the_roles_say.ensures.fresh c.args.parts.now.books c.requires.sound.kept, c.places_needed-places.ensures.small)

pub returns-in_err-reserve-clause-keeps : goal.returns-in_err-reserve-clause-keeps
returns-in_err-reserve-clause-keeps c = still_kept c.args.parts.now c.reserve.new.self c.in_err-reserve.ensures.same c.in_err-reserve.ensures.fit.order c.in_err-reserve.ensures.fit.room c.in_err-reserve.ensures.index c.in_err-reserve.ensures.agrees

pub returns-in_err-reserve-clause-same : goal.returns-in_err-reserve-clause-same
returns-in_err-reserve-clause-same c = same_store c.args.parts.now c.reserve.new.self c.in_err-reserve.ensures.same

pub returns-clause-may : goal.returns-clause-may
returns-clause-may c =
    let laid = c.counts-paid.ensures.fresh ∙ c.a_commit_has_what_the_roles_say.ensures.fresh c.args.parts.now.books c.requires.sound.kept in
    let paid = c.counts-paid.ensures.payloads ∙ c.a_commit_has_what_the_roles_say.ensures.payloads c.args.parts.now.books c.requires.sound.kept in
    may_commit c.args.parts.now c.reserve.new.self c.in_ok-reserve.ensures.same c.in_ok-room.room (c.counts-paid.result.1 + c.places_needed-places.result) c.counts-paid.result.0 c.in_ok-reserve.ensures.ok
    (omega (arith, laid, c.places_needed-places.ensures.places)) (omega (arith, paid)) c.in_ok-room.ensures

pub returns-clause-keeps : goal.returns-clause-keeps
returns-clause-keeps c = still_kept c.args.parts.now c.reserve.new.self c.in_ok-reserve.ensures.same c.in_ok-reserve.ensures.fit.order c.in_ok-reserve.ensures.fit.room c.in_ok-reserve.ensures.index c.in_ok-reserve.ensures.agrees

pub returns-clause-same : goal.returns-clause-same
returns-clause-same c = same_store c.args.parts.now c.reserve.new.self c.in_ok-reserve.ensures.same
