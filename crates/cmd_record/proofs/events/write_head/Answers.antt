-- The line of the geometry, and then those of the events.
use Rattle.std.proofs.KnownBytes.{Appends-trans}
use Rattle.cmd_trace.specs.Line.{geometry_line, event_lines}
use Rattle.cmd_record.proofs.EventLines.{first_cut, second_cut}
use Rattle.cmd_record.proofs.events.write_head.Goals as goal

pub returns-in_err-write_geom-clause-front : goal.returns-in_err-write_geom-clause-front
returns-in_err-write_geom-clause-front g c = first_cut _ _ _ (geometry_line c.args.geom.now) (event_lines c.args.disk.now.log) c.in_err-write_geom.ensures.front.0 c.in_err-write_geom.ensures.front.1

pub returns-in_err-write_events-clause-front : goal.returns-in_err-write_events-clause-front
returns-in_err-write_events-clause-front g c = second_cut _ _ _ _ (geometry_line c.args.geom.now) (event_lines c.args.disk.now.log) c.in_err-write_events.ensures.front.0 c.in_ok-write_geom.ensures.all c.in_err-write_events.ensures.front.1

pub returns-clause-all : goal.returns-clause-all
returns-clause-all g c = Appends-trans _ _ _ (geometry_line c.args.geom.now) (event_lines c.args.disk.now.log) c.in_ok-write_geom.ensures.all c.in_ok-write_events.ensures.all
