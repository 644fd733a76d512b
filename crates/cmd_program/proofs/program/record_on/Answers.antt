-- The last line of each ending.
use Rattle.std.proofs.Common.{refl, arith}
use Rattle.cmd_program.proofs.ProgramLemmas.{closes_end, closes_source, closes_long, halts_memory, halts_sink, source_rose, tells_fault}
use Rattle.cmd_program.specs.declared.status.Status.TheVariants.{Done, SourceFault, LongInput}
use Rattle.cmd_program.proofs.program.record_on.Goals as goal

pub returns-in-Err-NoMemory-clause-records : goal.returns-in-Err-NoMemory-clause-records
returns-in-Err-NoMemory-clause-records g c = λ m opened. halts_memory (record { shape = c.args.geom.now; manner = m }) c.lines_are_commands.ensures.lawful _ _ _ _ _ _ (c.in-Err-NoMemory.ensures.err m opened)

pub returns-in-Err-SinkFault-clause-records : goal.returns-in-Err-SinkFault-clause-records
returns-in-Err-SinkFault-clause-records g c = λ m opened. halts_sink (record { shape = c.args.geom.now; manner = m }) c.lines_are_commands.ensures.lawful _ _ _ _ _ _ (c.in-Err-SinkFault.ensures.err m opened)

pub returns-in-Ok-End-clause-records : goal.returns-in-Ok-End-clause-records
returns-in-Ok-End-clause-records g c = λ m opened. closes_end (record { shape = c.args.geom.now; manner = m }) c.lines_are_commands.ensures.lawful _ _ _ _ _ _ _ _ _ _ _ _ c.in-Ok-End.field-0-is refl (c.in-Ok-End.ensures.ok m opened) c.tell.ensures.told

pub returns-in-Ok-SourceFault-clause-records : goal.returns-in-Ok-SourceFault-clause-records
returns-in-Ok-SourceFault-clause-records g c = λ m opened. closes_source (record { shape = c.args.geom.now; manner = m }) c.lines_are_commands.ensures.lawful _ _ _ _ _ _ _ _ _ _ _ _ c.in-Ok-SourceFault.field-0-is refl (c.in-Ok-SourceFault.ensures.ok m opened) c.tell-in-Ok-SourceFault.ensures.told

pub returns-in-Ok-LongInput-clause-records : goal.returns-in-Ok-LongInput-clause-records
returns-in-Ok-LongInput-clause-records g c = λ m opened. closes_long (record { shape = c.args.geom.now; manner = m }) c.lines_are_commands.ensures.lawful _ _ _ _ _ _ _ _ _ _ _ _ c.in-Ok-LongInput.field-0-is refl (c.in-Ok-LongInput.ensures.ok m opened) c.tell-in-Ok-LongInput.ensures.told

pub returns-in-Ok-End-clause-faults : goal.returns-in-Ok-End-clause-faults
returns-in-Ok-End-clause-faults g c = tells_fault Done _ _ _ _ _ _ _ _ _ (omega (arith, c.in-Ok-End.ensures.cause)) tt c.tell.ensures.told

pub returns-in-Ok-SourceFault-clause-faults : goal.returns-in-Ok-SourceFault-clause-faults
returns-in-Ok-SourceFault-clause-faults g c =
    let opened = c.requires.opened in
    tells_fault SourceFault _ _ _ _ _ _ _ _ _ (omega (arith, c.in-Ok-SourceFault.ensures.cause))
    (source_rose (record { shape = c.args.geom.now; manner = opened.0 }) _ _ _ _ _ _ _ c.in-Ok-SourceFault.field-0-is (c.in-Ok-SourceFault.ensures.ok opened.0 opened.1)) c.tell-in-Ok-SourceFault.ensures.told

pub returns-in-Ok-LongInput-clause-faults : goal.returns-in-Ok-LongInput-clause-faults
returns-in-Ok-LongInput-clause-faults g c = tells_fault LongInput _ _ _ _ _ _ _ _ _ (omega (arith, c.in-Ok-LongInput.ensures.cause)) tt c.tell-in-Ok-LongInput.ensures.told
