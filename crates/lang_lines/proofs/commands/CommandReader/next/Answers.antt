-- A reader of commands is one of the lines that say them.
use Rattle.std.proofs.Common.{rules}
use Rattle.lang_lines.specs.declared.next.Next.TheVariants.{Command, End, SourceFault, LongInput}
use Rattle.lang_lines.proofs.Calling.{held}
use Rattle.lang_lines.proofs.Commanding.{holds_commands, reads_command}
use Rattle.lang_lines.proofs.commands.CommandReader.next.Goals.{in-Ok-Item, in-Ok-End, in-Ok-SourceFault, in-Ok-LongInput, in-Err}
use Rattle.lang_lines.proofs.commands.CommandReader.next.Goals as goal

pub returns-clause-err : goal.returns-clause-err
returns-clause-err g c = elim c.match-next.branch [
  | in-Ok-Item w ↦ search rules
  | in-Ok-End w ↦ search rules
  | in-Ok-SourceFault w ↦ search rules
  | in-Ok-LongInput w ↦ search rules
  | in-Err w ↦ held c.match-next.result _ (holds_commands _ _ _ _ _ c.self.view_is w.in-Err.ensures.err)
]

pub returns-clause-ok : goal.returns-clause-ok
returns-clause-ok g c = elim c.match-next.branch [
  | in-Ok-Item w ↦ reads_command _ (Command w.in-Ok-Item.cmd) _ _ _ _ _ _ _ _ w.result-is w.in-Ok-Item.field-0-is c.self.view_is w.in-Ok-Item.ensures.ok
  | in-Ok-End w ↦ reads_command _ End _ _ _ _ _ _ _ _ w.result-is w.in-Ok-End.field-0-is c.self.view_is w.in-Ok-End.ensures.ok
  | in-Ok-SourceFault w ↦ reads_command _ SourceFault _ _ _ _ _ _ _ _ w.result-is w.in-Ok-SourceFault.field-0-is c.self.view_is w.in-Ok-SourceFault.ensures.ok
  | in-Ok-LongInput w ↦ reads_command _ LongInput _ _ _ _ _ _ _ _ w.result-is w.in-Ok-LongInput.field-0-is c.self.view_is w.in-Ok-LongInput.ensures.ok
  | in-Err w ↦ search rules
]
