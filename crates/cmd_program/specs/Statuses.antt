-- The number of each status, with which the process exits. It is described in docs/TRACE.md.
use Rattle.std.specs.Prelude.{ℕ}
use Rattle.cmd_program.specs.declared.status.Status.{Status}
use Rattle.cmd_program.specs.declared.status.Status.TheVariants.{Done, Usage, BadTrace, NoMemory, DiskFault, Damaged, SourceFault, SinkFault, Spent, NoPrefix, BadShape, LongInput, BadChoice, NoRoom, Unlike, BadLog}

abbrev pub status_number : Status → ℕ
status_number Done = 0
status_number Usage = 2
status_number BadTrace = 3
status_number NoMemory = 4
status_number DiskFault = 5
status_number (Damaged damage) = 6
status_number SourceFault = 7
status_number SinkFault = 8
status_number Spent = 9
status_number NoPrefix = 10
status_number BadShape = 11
status_number LongInput = 12
status_number BadChoice = 13
status_number NoRoom = 14
status_number Unlike = 15
status_number BadLog = 17
