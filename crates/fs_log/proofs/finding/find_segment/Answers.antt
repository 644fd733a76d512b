use Rattle.std.proofs.Common.{◌≡◌, ◌+◌, arith}
use Rattle.fs_commands.specs.Opened.{blocks_in}
use Rattle.fs_log.proofs.Added.{past_the_end, segment_found}
use Rattle.fs_log.proofs.Causes.{passed_on}
use Rattle.fs_log.proofs.Questioning.{asks_twice}
use Rattle.fs_log.proofs.OpenCauses.{open_later}
use Rattle.fs_log.proofs.Writing.{no_time}
use Rattle.fs_log.proofs.finding.find_segment.Goals as goal

pub returns-in_err-file-clause-bad : goal.returns-in_err-file-clause-bad
returns-in_err-file-clause-bad g c = λ told. passed_on c.from_residual.result c.in_err-file.field-0.0 _ c.from_residual.ensures.1 (c.in_err-file.ensures.bad told)

pub returns-in_err-count-clause-asks : goal.returns-in_err-count-clause-asks
returns-in_err-count-clause-asks g c = λ told.
    asks_twice g.S.Blocks.state c.calls_compose.ensures.advances g.S.Blocks.tells (blocks_in c.args.fs.now) (blocks_in c.find_file.new.fs) (blocks_in c.count_appends.new.fs) (c.find_file.ensures.asks told) (c.count_appends.ensures.asks told)

pub returns-in_err-count-clause-bad : goal.returns-in_err-count-clause-bad
returns-in_err-count-clause-bad g c = λ told.
    passed_on c.from_residual-in_err-count.result c.in_err-count.field-0.0 _ c.from_residual-in_err-count.ensures.1
    (λ bad f session leads.
    let file = c.in_ok-file.ensures.file told f session leads in
    c.in_err-count.ensures.bad told bad f c.in_ok-file.file.node file.0 ((c.find_file.ensures.asks told).keeps.session f session) file.1 file.2)

pub returns-in-None-clause-asks : goal.returns-in-None-clause-asks
returns-in-None-clause-asks g c = λ told.
    asks_twice g.S.Blocks.state c.calls_compose.ensures.advances g.S.Blocks.tells (blocks_in c.args.fs.now) (blocks_in c.find_file.new.fs) (blocks_in c.count_appends.new.fs) (c.find_file.ensures.asks told) (c.count_appends.ensures.asks told)

pub returns-in-None-clause-bad : goal.returns-in-None-clause-bad
returns-in-None-clause-bad g c = λ told bad f session leads.
    let file = c.in_ok-file.ensures.file told f session leads in
    let whole = c.in_ok-count.ensures.count told f c.in_ok-file.file.node file.0 ((c.find_file.ensures.asks told).keeps.session f session) file.1 file.2 in
    past_the_end c.a_tree_has_no_log_where.ensures.end f.tree c.args.first c.in_ok-file.file.node c.in_ok-count.count file.0 file.1 whole (omega arith) (omega (arith, c.in-None.ensures))

pub returns-clause-asks : goal.returns-clause-asks
returns-clause-asks g c = λ told.
    asks_twice g.S.Blocks.state c.calls_compose.ensures.advances g.S.Blocks.tells (blocks_in c.args.fs.now) (blocks_in c.find_file.new.fs) (blocks_in c.count_appends.new.fs) (c.find_file.ensures.asks told) (c.count_appends.ensures.asks told)

pub returns-clause-segment : goal.returns-clause-segment
returns-clause-segment g c = λ told f session leads.
    let file = c.in_ok-file.ensures.file told f session leads in
    let whole = c.in_ok-count.ensures.count told f c.in_ok-file.file.node file.0 ((c.find_file.ensures.asks told).keeps.session f session) file.1 file.2 in
    segment_found f.tree c.args.first c.in_ok-file.file.node c.in_ok-file.file.size c.in_ok-count.count c.in-Some.next file.0 file.1 file.2 whole (omega (arith, c.in-Some.ensures))

pub returns-in_err-file-clause-cause : goal.returns-in_err-file-clause-cause
returns-in_err-file-clause-cause g c = λ has. passed_on c.from_residual.result c.in_err-file.field-0.0 _ c.from_residual.ensures.1 (c.in_err-file.ensures.cause has)

pub returns-in_err-count-clause-cause : goal.returns-in_err-count-clause-cause
returns-in_err-count-clause-cause g c = λ has.
    passed_on c.from_residual-in_err-count.result c.in_err-count.field-0.0 _ c.from_residual-in_err-count.ensures.1
    (open_later g.S.Blocks.tells g.S.Blocks.state c.calls_compose.ensures.advances (λ told s. no_time g.S.Blocks.state (c.calls_compose.ensures.rests told) s) c.in_err-count.field-0.0 (blocks_in c.args.fs.now) (blocks_in c.find_file.new.fs) (blocks_in c.count_appends.new.fs) c.find_file.ensures.asks
    (c.in_err-count.ensures.cause (λ told.
    let h = has told in
    let file = c.in_ok-file.ensures.file told h.0 h.1 h.2 in
    (h.0, c.in_ok-file.file.node, file.0, (c.find_file.ensures.asks told).keeps.session h.0 h.1, file.1))))
