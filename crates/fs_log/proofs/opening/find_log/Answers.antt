use Rattle.std.proofs.Common.{◌≡◌, ◌∙◌, subst}
use Rattle.fs_commands.specs.Opened.{blocks_in}
use Rattle.fs_log.specs.Finding.{HasAtLog}
use Rattle.fs_log.specs.Keeping.{as_before}
use Rattle.fs_log.specs.Opening.{AsksToOpen}
use Rattle.fs_log.proofs.Causes.{passed_on}
use Rattle.fs_log.proofs.Holding.{session_of}
use Rattle.fs_log.proofs.Mirroring.{on_err}
use Rattle.fs_log.proofs.OpenCauses.{open_later}
use Rattle.fs_log.proofs.Opened.{mirrors_found, mirrors_nothing, range_found, range_nothing}
use Rattle.fs_log.proofs.Questioning.{asks_twice, keeps_twice, no_point_twice, session_sound}
use Rattle.fs_log.proofs.Syncing.{same_history}
use Rattle.fs_log.proofs.Writing.{no_time, takes_twice}
use Rattle.fs_log.proofs.Ways.{asks_later, asks_only}
use Rattle.fs_log.proofs.opening.find_log.Goals as goal

pub returns-in_err-found-in-Some-clause-time : goal.returns-in_err-found-in-Some-clause-time
returns-in_err-found-in-Some-clause-time g c = λ told. (asks_twice g.S.Blocks.state c.calls_compose.ensures.advances g.S.Blocks.tells (blocks_in c.args.fs.now) (blocks_in c.find_at_log.new.fs) (blocks_in c.find_there.new.fs) (c.find_at_log.ensures.asks told) (c.find_there.ensures.asks told)).keeps.time

pub returns-in_err-found-in-Some-clause-bad : goal.returns-in_err-found-in-Some-clause-bad
returns-in_err-found-in-Some-clause-bad g c = λ told.
    passed_on c.from_residual-in_err-found-in-Some.result c.in_err-found-in-Some.field-0.0 _ c.from_residual-in_err-found-in-Some.ensures.1
    (λ bad f session. c.in_err-found-in-Some.ensures.bad told bad f ((c.find_at_log.ensures.asks told).keeps.session f session) (subst (λ kind. HasAtLog f.tree kind) c.in-Some.is (c.in_ok-at_log.ensures.there told f session)))

pub returns-in_err-found-in-Some-clause-same : goal.returns-in_err-found-in-Some-clause-same
returns-in_err-found-in-Some-clause-same g c = λ told. on_err c.from_residual-in_err-found-in-Some.result _ (asks_twice g.S.Blocks.state c.calls_compose.ensures.advances g.S.Blocks.tells (blocks_in c.args.fs.now) (blocks_in c.find_at_log.new.fs) (blocks_in c.find_there.new.fs) (c.find_at_log.ensures.asks told) (c.find_there.ensures.asks told)).keeps

pub returns-in_err-found-in-Some-clause-cause : goal.returns-in_err-found-in-Some-clause-cause
returns-in_err-found-in-Some-clause-cause g c = λ empty.
    passed_on c.from_residual-in_err-found-in-Some.result c.in_err-found-in-Some.field-0.0 _ c.from_residual-in_err-found-in-Some.ensures.1
    (open_later g.S.Blocks.tells g.S.Blocks.state c.calls_compose.ensures.advances (λ told s. no_time g.S.Blocks.state (c.calls_compose.ensures.rests told) s) c.in_err-found-in-Some.field-0.0 (blocks_in c.args.fs.now) (blocks_in c.find_at_log.new.fs) (blocks_in c.find_there.new.fs) c.find_at_log.ensures.asks
    (c.in_err-found-in-Some.ensures.cause (λ told.
    let s = session_of (g.S.Blocks.state (blocks_in c.args.fs.now)) (c.requires.follows.stands told) in
    let f = s.0 in
    let session = s.1 in
    (f, ((c.find_at_log.ensures.asks told).keeps.session f session), (subst (λ kind. HasAtLog f.tree kind) c.in-Some.is (c.in_ok-at_log.ensures.there told f session))))))

pub returns-in_err-found-in-None-clause-time : goal.returns-in_err-found-in-None-clause-time
returns-in_err-found-in-None-clause-time g c = λ told. no_point_twice g.S.Blocks.state c.calls_compose.ensures.advances (blocks_in c.args.fs.now) (blocks_in c.find_at_log.new.fs) (blocks_in c.begin_log.new.fs) (c.find_at_log.ensures.asks told).keeps.time (c.begin_log.ensures.time told)

pub returns-in_err-found-in-None-clause-bad : goal.returns-in_err-found-in-None-clause-bad
returns-in_err-found-in-None-clause-bad g c = λ told.
    passed_on c.from_residual-in_err-found-in-None.result c.in_err-found-in-None.field-0.0 _ c.from_residual-in_err-found-in-None.ensures.1
    (λ bad f session. absurd (c.in_err-found-in-None.ensures.bad told bad))

pub returns-in_err-found-in-None-clause-same : goal.returns-in_err-found-in-None-clause-same
returns-in_err-found-in-None-clause-same g c = λ told. on_err c.from_residual-in_err-found-in-None.result _ (keeps_twice g.S.Blocks.state c.calls_compose.ensures.advances (blocks_in c.args.fs.now) (blocks_in c.find_at_log.new.fs) (blocks_in c.begin_log.new.fs) (c.find_at_log.ensures.asks told).keeps (c.in_err-found-in-None.ensures.same told))

pub returns-in_err-found-in-None-clause-cause : goal.returns-in_err-found-in-None-clause-cause
returns-in_err-found-in-None-clause-cause g c = λ empty.
    passed_on c.from_residual-in_err-found-in-None.result c.in_err-found-in-None.field-0.0 _ c.from_residual-in_err-found-in-None.ensures.1
    (open_later g.S.Blocks.tells g.S.Blocks.state c.calls_compose.ensures.advances (λ told s. no_time g.S.Blocks.state (c.calls_compose.ensures.rests told) s) c.in_err-found-in-None.field-0.0 (blocks_in c.args.fs.now) (blocks_in c.find_at_log.new.fs) (blocks_in c.begin_log.new.fs) c.find_at_log.ensures.asks
    (c.in_err-found-in-None.ensures.cause (λ told.
    let s = session_of (g.S.Blocks.state (blocks_in c.args.fs.now)) (c.requires.follows.stands told) in
    let f = s.0 in
    let session = s.1 in
    (f, (c.find_at_log.ensures.asks told).weight ∙ empty, ((c.find_at_log.ensures.asks told).keeps.session f session), (subst (λ kind. HasAtLog f.tree kind) c.in-None.is (c.in_ok-at_log.ensures.there told f session))))))

pub returns-in_ok-found-in-Some-clause-goes : goal.returns-in_ok-found-in-Some-clause-goes
returns-in_ok-found-in-Some-clause-goes g c = λ told. (asks_twice g.S.Blocks.state c.calls_compose.ensures.advances g.S.Blocks.tells (blocks_in c.args.fs.now) (blocks_in c.find_at_log.new.fs) (blocks_in c.find_there.new.fs) (c.find_at_log.ensures.asks told) (c.find_there.ensures.asks told)).rests.takes

pub returns-in_ok-found-in-Some-clause-time : goal.returns-in_ok-found-in-Some-clause-time
returns-in_ok-found-in-Some-clause-time g c = λ told. (asks_twice g.S.Blocks.state c.calls_compose.ensures.advances g.S.Blocks.tells (blocks_in c.args.fs.now) (blocks_in c.find_at_log.new.fs) (blocks_in c.find_there.new.fs) (c.find_at_log.ensures.asks told) (c.find_there.ensures.asks told)).keeps.time

pub returns-in_ok-found-in-Some-clause-mirrors : goal.returns-in_ok-found-in-Some-clause-mirrors
returns-in_ok-found-in-Some-clause-mirrors g c = λ told.
    let s = session_of (g.S.Blocks.state (blocks_in c.args.fs.now)) (c.requires.follows.stands told) in
    let f = s.0 in
    let session = s.1 in
    let found = c.in_ok-found-in-Some.ensures.found told f ((c.find_at_log.ensures.asks told).keeps.session f session) (subst (λ kind. HasAtLog f.tree kind) c.in-Some.is (c.in_ok-at_log.ensures.there told f session)) in
    mirrors_found c.an_image_stands_for_one_tree.ensures.blocks (g.S.Blocks.state (blocks_in c.find_there.new.fs)) f c.in_ok-found-in-Some.found.firsts.items c.in_ok-found-in-Some.found.size c.in_ok-found-in-Some.found.next ((c.find_there.ensures.asks told).keeps.session f ((c.find_at_log.ensures.asks told).keeps.session f session)) found.0 found.1

pub returns-in_ok-found-in-Some-clause-range : goal.returns-in_ok-found-in-Some-clause-range
returns-in_ok-found-in-Some-clause-range g c = λ told f session.
    range_found f.tree c.in_ok-found-in-Some.found.firsts.items c.in_ok-found-in-Some.found.size c.in_ok-found-in-Some.found.next (c.in_ok-found-in-Some.ensures.found told f ((c.find_at_log.ensures.asks told).keeps.session f session) (subst (λ kind. HasAtLog f.tree kind) c.in-Some.is (c.in_ok-at_log.ensures.there told f session))).1

pub returns-in_ok-found-in-None-clause-goes : goal.returns-in_ok-found-in-None-clause-goes
returns-in_ok-found-in-None-clause-goes g c = λ told.
    let s = session_of (g.S.Blocks.state (blocks_in c.args.fs.now)) (c.requires.follows.stands told) in
    let f = s.0 in
    let session = s.1 in
    takes_twice g.S.Blocks.state c.calls_compose.ensures.advances as_before as_before same_history (blocks_in c.args.fs.now) (blocks_in c.find_at_log.new.fs) (blocks_in c.begin_log.new.fs) (c.find_at_log.ensures.asks told).rests.takes (c.in_ok-found-in-None.ensures.goes told f ((c.find_at_log.ensures.asks told).keeps.session f session) (subst (λ kind. HasAtLog f.tree kind) c.in-None.is (c.in_ok-at_log.ensures.there told f session)))

pub returns-in_ok-found-in-None-clause-time : goal.returns-in_ok-found-in-None-clause-time
returns-in_ok-found-in-None-clause-time g c = λ told. no_point_twice g.S.Blocks.state c.calls_compose.ensures.advances (blocks_in c.args.fs.now) (blocks_in c.find_at_log.new.fs) (blocks_in c.begin_log.new.fs) (c.find_at_log.ensures.asks told).keeps.time (c.begin_log.ensures.time told)

pub returns-in_ok-found-in-None-clause-mirrors : goal.returns-in_ok-found-in-None-clause-mirrors
returns-in_ok-found-in-None-clause-mirrors g c = λ told.
    let s = session_of (g.S.Blocks.state (blocks_in c.args.fs.now)) (c.requires.follows.stands told) in
    let f = s.0 in
    let session = s.1 in
    mirrors_nothing (g.S.Blocks.state (blocks_in c.begin_log.new.fs)) c.in_ok-found-in-None.found.firsts.items c.in_ok-found-in-None.found.size c.in_ok-found-in-None.found.next c.in_ok-found-in-None.ensures.empty.0 c.in_ok-found-in-None.ensures.empty.1 c.in_ok-found-in-None.ensures.empty.2 (c.in_ok-found-in-None.ensures.holds told f ((c.find_at_log.ensures.asks told).keeps.session f session) (subst (λ kind. HasAtLog f.tree kind) c.in-None.is (c.in_ok-at_log.ensures.there told f session)))

pub returns-in_ok-found-in-None-clause-range : goal.returns-in_ok-found-in-None-clause-range
returns-in_ok-found-in-None-clause-range g c = λ told f session.
    range_nothing f.tree c.in_ok-found-in-None.found.firsts.items c.in_ok-found-in-None.found.next c.in_ok-found-in-None.ensures.empty.0 c.in_ok-found-in-None.ensures.empty.2 (c.a_log_begins_empty.ensures.before f.limit.nodes f.tree (session_sound c.a_tree_that_stands_is_sound.ensures.sound (g.S.Blocks.state (blocks_in c.args.fs.now)) f session) (subst (λ kind. HasAtLog f.tree kind) c.in-None.is (c.in_ok-at_log.ensures.there told f session))) c.segments_make_a_log.ensures.none

pub returns-in_ok-found-in-Some-clause-asked : goal.returns-in_ok-found-in-Some-clause-asked
returns-in_ok-found-in-Some-clause-asked g c = λ told.
    asks_only g.S.Blocks.tells g.S.Blocks.state AsksToOpen (blocks_in c.args.fs.now) (blocks_in c.find_there.new.fs)
    (asks_twice g.S.Blocks.state c.calls_compose.ensures.advances g.S.Blocks.tells (blocks_in c.args.fs.now) (blocks_in c.find_at_log.new.fs) (blocks_in c.find_there.new.fs) (c.find_at_log.ensures.asks told) (c.find_there.ensures.asks told)).way

pub returns-in_ok-found-in-None-clause-asked : goal.returns-in_ok-found-in-None-clause-asked
returns-in_ok-found-in-None-clause-asked g c = λ told.
    asks_later g.S.Blocks.tells g.S.Blocks.state AsksToOpen (blocks_in c.args.fs.now) (blocks_in c.find_at_log.new.fs) (blocks_in c.begin_log.new.fs)
    (asks_only g.S.Blocks.tells g.S.Blocks.state AsksToOpen (blocks_in c.args.fs.now) (blocks_in c.find_at_log.new.fs) (c.find_at_log.ensures.asks told).way) (c.in_ok-found-in-None.ensures.asked told)
