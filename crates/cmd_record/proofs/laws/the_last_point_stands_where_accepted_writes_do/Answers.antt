use Rattle.layout_journal.specs.Formatted.{formatted}
use Rattle.lang_tree.specs.Step.{start}
use Rattle.crash_stands.specs.Bounds.{bounds_of}
use Rattle.cmd_host.specs.Behaving.{session_by}
use Rattle.cmd_record.specs.Behaving.{pace_at_first}
use Rattle.cmd_record.proofs.laws.the_last_point_stands_where_accepted_writes_do.Goals as goal

pub returns : goal.returns
returns c = λ set cmds text s.
    let g = set.shape in
    c.what_was_issued_was_accepted.ensures (session_by g s.served.mounted) (formatted g) set.manner s.served.log (start (bounds_of g)) (pace_at_first g s.served.mounted) s.goes.last cmds s.served.replies s.served.marks
    s.goes.alone s.goes.mounts s.goes.paces s.served.issued
