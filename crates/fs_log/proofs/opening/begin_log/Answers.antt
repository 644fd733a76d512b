use Rattle.std.proofs.Common.{◌≡◌, ap, inl, inr, ◌∙◌, None, refl, subst, sym}
use Rattle.std.specs.FinMap.{get}
use Rattle.layout_geometry.specs.Geometry.{IsGeometry}
use Rattle.lang_tree.specs.declared.command.Refusal.TheVariants.{NoMemory}
use Rattle.lang_tree.specs.declared.command.Cmd.TheVariants.{Mkdir}
use Rattle.lang_log.specs.Names.{log_path}
use Rattle.fs_commands.specs.Opened.{blocks_in}
use Rattle.fs_log.specs.declared.refusal.OpenRefusal.TheVariants.{Fs as FsRefused}
use Rattle.fs_log.specs.Opening.{AsksToOpen, IsNotOpened}
use Rattle.fs_log.proofs.Begun.{answered_refused, holds_nothing, keeps_if_refused, mkdir_not_bad, takes_nothing}
use Rattle.fs_log.proofs.Causes.{passed_on, was_asked}
use Rattle.fs_log.proofs.Holding.{session_of}
use Rattle.fs_log.proofs.Mirroring.{on_err}
use Rattle.fs_log.proofs.OpenCauses.{mkdir_fits, mkdir_not_opened, mkdir_refusal, open_lacking}
use Rattle.fs_log.proofs.Questioning.{asks_none, keeps_tree, session_sound}
use Rattle.fs_log.proofs.Telling.{refused_not_bad}
use Rattle.fs_log.proofs.Writing.{no_time}
use Rattle.fs_log.proofs.Ways.{asks_nothing, asks_one}
use Rattle.fs_log.proofs.opening.begin_log.Goals as goal

pub returns-in_err-path-clause-time : goal.returns-in_err-path-clause-time
returns-in_err-path-clause-time g c = λ told.
    (asks_none g.S.Blocks.state g.S.Blocks.tells (blocks_in c.args.fs.now) (c.calls_compose.ensures.rests told) (λ s trees img known left. c.a_crash_leaves_the_tree_of_a_point.ensures.now s trees img told known left)).keeps.time

pub returns-in_err-path-clause-same : goal.returns-in_err-path-clause-same
returns-in_err-path-clause-same g c = λ told.
    on_err c.from_residual.result _ (asks_none g.S.Blocks.state g.S.Blocks.tells (blocks_in c.args.fs.now) (c.calls_compose.ensures.rests told) (λ s trees img known left. c.a_crash_leaves_the_tree_of_a_point.ensures.now s trees img told known left)).keeps

pub returns-in_err-made-clause-time : goal.returns-in_err-made-clause-time
returns-in_err-made-clause-time g c = λ told.
    keeps_tree g.S.Blocks.tells g.S.Blocks.state (Mkdir c.in_ok-path.path) c.ask-reply.result (blocks_in c.args.fs.now) (blocks_in c.ask-reply.new.fs) (mkdir_not_bad c.in_ok-path.path) refl (c.requires.follows.stands told) c.ask-reply.ensures.applies
    (c.a_command_answers_its_session.ensures.time told (blocks_in c.args.fs.now) (blocks_in c.ask-reply.new.fs) (Mkdir c.in_ok-path.path) c.ask-reply.result c.ask-reply.ensures.applies)
    (λ some going left. c.a_command_begins_with_a_tick.ensures (Mkdir c.in_ok-path.path) c.ask-reply.result (blocks_in c.args.fs.now) (blocks_in c.ask-reply.new.fs) some going left c.ask-reply.ensures.applies) (c.ask-reply.ensures.asked told)

pub returns-in_err-made-clause-same : goal.returns-in_err-made-clause-same
returns-in_err-made-clause-same g c = λ told.
    on_err c.from_residual-in_err-made.result _
    (keeps_if_refused g.S.Blocks.tells g.S.Blocks.state c.in_ok-path.path c.ask-reply.result (blocks_in c.args.fs.now) (blocks_in c.ask-reply.new.fs) (c.ask-reply.ensures.asked told) c.in_err-made.ensures.fails.1
    (keeps_tree g.S.Blocks.tells g.S.Blocks.state (Mkdir c.in_ok-path.path) c.ask-reply.result (blocks_in c.args.fs.now) (blocks_in c.ask-reply.new.fs) (mkdir_not_bad c.in_ok-path.path) refl (c.requires.follows.stands told) c.ask-reply.ensures.applies
    (c.a_command_answers_its_session.ensures.time told (blocks_in c.args.fs.now) (blocks_in c.ask-reply.new.fs) (Mkdir c.in_ok-path.path) c.ask-reply.result c.ask-reply.ensures.applies)
    (λ some going left. c.a_command_begins_with_a_tick.ensures (Mkdir c.in_ok-path.path) c.ask-reply.result (blocks_in c.args.fs.now) (blocks_in c.ask-reply.new.fs) some going left c.ask-reply.ensures.applies) (c.ask-reply.ensures.asked told)))

pub returns-in_err-made-clause-bad : goal.returns-in_err-made-clause-bad
returns-in_err-made-clause-bad g c = λ told.
    let f = session_of (g.S.Blocks.state (blocks_in c.args.fs.now)) (c.requires.follows.stands told) in
    let a = c.ask-reply.ensures.asked told f.0 f.1 in
    let refused = answered_refused f.0 a.next c.in_ok-path.path c.ask-reply.result a.answers c.in_err-made.ensures.fails.1 in
    passed_on c.from_residual-in_err-made.result c.in_err-made.field-0.0 _ c.from_residual-in_err-made.ensures.1
    (refused_not_bad c.ask-reply.result c.in_err-made.field-0.0 refused.0 c.in_err-made.ensures.fails.0 refused.1)

pub returns-clause-goes : goal.returns-clause-goes
returns-clause-goes g c = λ told f session free.
    takes_nothing g.S.Blocks.tells g.S.Blocks.state c.in_ok-path.path c.ask-reply.result (blocks_in c.args.fs.now) (blocks_in c.ask-reply.new.fs) (c.ask-reply.ensures.asked told) c.in_ok-path.ensures c.in_ok-made.ensures.done f session
    (session_sound c.a_tree_that_stands_is_sound.ensures.sound (g.S.Blocks.state (blocks_in c.args.fs.now)) f session) free c.a_log_begins_empty.ensures.before c.a_log_begins_empty.ensures.made c.segments_make_a_log.ensures.none c.a_tree_has_one_log.ensures

pub returns-clause-holds : goal.returns-clause-holds
returns-clause-holds g c = λ told f session free.
    holds_nothing g.S.Blocks.tells g.S.Blocks.state c.in_ok-path.path c.ask-reply.result (blocks_in c.args.fs.now) (blocks_in c.ask-reply.new.fs) (c.ask-reply.ensures.asked told) c.in_ok-path.ensures c.in_ok-made.ensures.done f session
    (session_sound c.a_tree_that_stands_is_sound.ensures.sound (g.S.Blocks.state (blocks_in c.args.fs.now)) f session) free c.a_log_begins_empty.ensures.before c.a_log_begins_empty.ensures.made c.segments_make_a_log.ensures.none

pub returns-clause-time : goal.returns-clause-time
returns-clause-time g c = λ told.
    keeps_tree g.S.Blocks.tells g.S.Blocks.state (Mkdir c.in_ok-path.path) c.ask-reply.result (blocks_in c.args.fs.now) (blocks_in c.ask-reply.new.fs) (mkdir_not_bad c.in_ok-path.path) refl (c.requires.follows.stands told) c.ask-reply.ensures.applies
    (c.a_command_answers_its_session.ensures.time told (blocks_in c.args.fs.now) (blocks_in c.ask-reply.new.fs) (Mkdir c.in_ok-path.path) c.ask-reply.result c.ask-reply.ensures.applies)
    (λ some going left. c.a_command_begins_with_a_tick.ensures (Mkdir c.in_ok-path.path) c.ask-reply.result (blocks_in c.args.fs.now) (blocks_in c.ask-reply.new.fs) some going left c.ask-reply.ensures.applies) (c.ask-reply.ensures.asked told)

pub returns-in_err-path-clause-cause : goal.returns-in_err-path-clause-cause
returns-in_err-path-clause-cause g c = λ has. passed_on c.from_residual.result (FsRefused NoMemory) _ c.from_residual.ensures.1 (open_lacking g.S.Blocks.tells g.S.Blocks.state (blocks_in c.args.fs.now) (blocks_in c.args.fs.now) (λ told. asks_nothing g.S.Blocks.tells g.S.Blocks.state (λ cmd. ⊥) (blocks_in c.args.fs.now)))

pub returns-in_err-made-clause-cause : goal.returns-in_err-made-clause-cause
returns-in_err-made-clause-cause g c = λ has.
    let old = blocks_in c.args.fs.now in
    let new = blocks_in c.ask-reply.new.fs in
    passed_on c.from_residual-in_err-made.result c.in_err-made.field-0.0 _ c.from_residual-in_err-made.ensures.1
    (subst (λ why. IsNotOpened g.S.Blocks.tells g.S.Blocks.state why old new) (sym c.in_err-made.ensures.fails.0)
    (mkdir_not_opened g.S.Blocks.tells g.S.Blocks.state c.in_ok-path.path c.ask-reply.result old new c.in_ok-path.ensures
    (was_asked g.S.Blocks.tells g.S.Blocks.state c.calls_compose.ensures.advances (λ told s. no_time g.S.Blocks.state (c.calls_compose.ensures.rests told) s) (λ cmd. cmd ≡ Mkdir c.in_ok-path.path) (Mkdir c.in_ok-path.path) c.ask-reply.result old new refl
    (record {
      applies = c.ask-reply.ensures.applies;
      asked = c.ask-reply.ensures.asked;
      session = λ told. session_of (g.S.Blocks.state old) (c.requires.follows.stands told);
    }))
    (λ told why is.
    let h = has told in
    let f = h.0 in
    let session = h.2 in
    let fits = mkdir_fits g.S.Blocks.tells g.S.Blocks.state (c.a_command_is_answered_in_a_room_that_came_back.ensures.answers told) c.a_tree_in_memory_refuses_for_no_disk.ensures.alone c.in_ok-path.path c.ask-reply.result old new
    (subst (λ b. IsGeometry (g.S.Blocks.state b).books.geom) c.blocks-2.ensures (subst IsGeometry c.geom.ensures c.lawful.ensures.limits)) f session c.ask-reply.ensures.applies h.1 in
    mkdir_refusal c.a_log_begins_empty.ensures.before c.a_log_begins_empty.ensures.made f (c.ask-reply.ensures.asked told f session).next c.in_ok-path.path c.ask-reply.result c.in_ok-path.ensures
    (session_sound c.a_tree_that_stands_is_sound.ensures.sound (g.S.Blocks.state old) f session) h.3 (c.ask-reply.ensures.asked told f session).answers fits why is)
    (λ told t stands.
    let h = has told in
    let s = g.S.Blocks.state old in
    subst (λ u. get u.names log_path ≡ None) (c.an_image_stands_for_one_tree.ensures.blocks s.books.geom s.map h.0.tree t h.2.tree stands) h.3)))

pub returns-clause-asked : goal.returns-clause-asked
returns-clause-asked g c = λ told.
    asks_one g.S.Blocks.tells g.S.Blocks.state AsksToOpen (Mkdir c.in_ok-path.path) c.ask-reply.result (blocks_in c.args.fs.now) (blocks_in c.ask-reply.new.fs) (inl (inr (inl (ap Mkdir c.in_ok-path.ensures)))) c.ask-reply.ensures.applies
