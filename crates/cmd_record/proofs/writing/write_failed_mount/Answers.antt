-- What a mount left, and the end of the trace.
use Rattle.std.proofs.Common.{◌++◌}
use Rattle.std.proofs.KnownBytes.{Appends-trans}
use Rattle.cmd_trace.specs.Line.{geometry_line, event_lines, end_line}
use Rattle.cmd_record.proofs.EventLines.{first_cut, second_cut}
use Rattle.cmd_record.proofs.writing.write_failed_mount.Goals as goal

pub returns-in_err-write_head-clause-front : goal.returns-in_err-write_head-clause-front
returns-in_err-write_head-clause-front g c = first_cut _ _ _ (geometry_line c.args.geom.now ++ event_lines c.args.disk.now.log) end_line c.in_err-write_head.ensures.front.0 c.in_err-write_head.ensures.front.1

pub returns-in_err-write_end-clause-front : goal.returns-in_err-write_end-clause-front
returns-in_err-write_end-clause-front g c = second_cut _ _ _ _ (geometry_line c.args.geom.now ++ event_lines c.args.disk.now.log) end_line c.in_err-write_end.ensures.front.0 c.in_ok-write_head.ensures.all c.in_err-write_end.ensures.front.1

pub returns-clause-all : goal.returns-clause-all
returns-clause-all g c = Appends-trans _ _ _ (geometry_line c.args.geom.now ++ event_lines c.args.disk.now.log) end_line c.in_ok-write_head.ensures.all c.in_ok-write_end.ensures.all
