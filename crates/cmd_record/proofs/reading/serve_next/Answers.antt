-- What the reader brings is answered, or ends the reading.
use Rattle.std.proofs.Common.{subst}
use Rattle.disk_memory.specs.MemDisk.{state_of as disk_state}
use Rattle.engine_store.specs.StoreOf.{state_of}
use Rattle.fs_commands.specs.Opened.{blocks_in}
use Rattle.lang_lines.specs.declared.next.Next.{Next}
use Rattle.lang_lines.specs.Reading.{ReadsOn}
use Rattle.cmd_record.proofs.ReadingLemmas.{command_at, end_at, fault_at, held_at, long_at, stops_at, stops_turn}
use Rattle.cmd_record.proofs.reading.serve_next.Goals as goal

pub returns-in_err-cmd-clause-turns : goal.returns-in_err-cmd-clause-turns
returns-in_err-cmd-clause-turns g c = λ set first left told le h.
    stops_turn set first _ left (g.S.Source.remaining c.next.new.input) told (g.K.Sink.taken c.args.out.now) (state_of disk_state (blocks_in c.args.system.now)) c.next.new.self _ c.from_residual.result c.from_residual.ensures.1
    (held_at (record { first = c.all_was_given.ensures.first; end = c.all_was_given.ensures.end; whole = c.all_was_given.ensures.whole; front = c.all_was_given.ensures.front; few = c.all_was_given.ensures.few }) set left (g.S.Source.remaining c.args.input.now) (g.S.Source.remaining c.next.new.input) told (g.K.Sink.taken c.args.out.now) (state_of disk_state (blocks_in c.args.system.now)) c.args.reader.now c.next.new.self h c.in_err-cmd.ensures.err c.next.ensures.rest)

pub returns-in_err-serve-in-Command-clause-turns : goal.returns-in_err-serve-in-Command-clause-turns
returns-in_err-serve-in-Command-clause-turns g c = λ set first left told le h.
    stops_turn set first _ left (g.S.Source.remaining c.next.new.input) told (g.K.Sink.taken c.serve.new.out) (state_of disk_state (blocks_in c.serve.new.system)) c.next.new.self _ c.from_residual-in_err-serve-in-Command.result c.from_residual-in_err-serve-in-Command.ensures.1
    (stops_at (record { first = c.all_was_given.ensures.first; end = c.all_was_given.ensures.end; whole = c.all_was_given.ensures.whole; front = c.all_was_given.ensures.front; few = c.all_was_given.ensures.few }) set left (g.S.Source.remaining c.args.input.now) (g.S.Source.remaining c.next.new.input) told (g.K.Sink.taken c.args.out.now) (state_of disk_state (blocks_in c.args.system.now)) c.args.reader.now c.next.new.self h (g.S.Source.faults c.args.input.now) (g.S.Source.faults c.next.new.input) c.in-Command.cmd (g.K.Sink.taken c.serve.new.out) (subst (λ (n : Next). ReadsOn n c.args.reader.now c.next.new.self (g.S.Source.remaining c.args.input.now) (g.S.Source.remaining c.next.new.input) (g.S.Source.faults c.args.input.now) (g.S.Source.faults c.next.new.input)) c.in-Command.is c.in_ok-cmd.ensures.ok) c.next.ensures.rest c.in_err-serve-in-Command.ensures.err)

pub returns-in_ok-serve-in-Command-clause-turns : goal.returns-in_ok-serve-in-Command-clause-turns
returns-in_ok-serve-in-Command-clause-turns g c = λ set first left told le h.
    command_at (record { first = c.all_was_given.ensures.first; end = c.all_was_given.ensures.end; whole = c.all_was_given.ensures.whole; front = c.all_was_given.ensures.front; few = c.all_was_given.ensures.few }) set left (g.S.Source.remaining c.args.input.now) (g.S.Source.remaining c.next.new.input) told (g.K.Sink.taken c.args.out.now) (state_of disk_state (blocks_in c.args.system.now)) c.args.reader.now c.next.new.self h (g.S.Source.faults c.args.input.now) (g.S.Source.faults c.next.new.input) c.in-Command.cmd (state_of disk_state (blocks_in c.serve.new.system)) (g.K.Sink.taken c.serve.new.out) (subst (λ (n : Next). ReadsOn n c.args.reader.now c.next.new.self (g.S.Source.remaining c.args.input.now) (g.S.Source.remaining c.next.new.input) (g.S.Source.faults c.args.input.now) (g.S.Source.faults c.next.new.input)) c.in-Command.is c.in_ok-cmd.ensures.ok) c.in_ok-serve-in-Command.ensures.ok

pub returns-in_ok-serve-in-Command-clause-gives : goal.returns-in_ok-serve-in-Command-clause-gives
returns-in_ok-serve-in-Command-clause-gives g c = λ seen cmds given. let reads = (subst (λ (n : Next). ReadsOn n c.args.reader.now c.next.new.self (g.S.Source.remaining c.args.input.now) (g.S.Source.remaining c.next.new.input) (g.S.Source.faults c.args.input.now) (g.S.Source.faults c.next.new.input)) c.in-Command.is c.in_ok-cmd.ensures.ok) in (reads.more, c.in-Command.cmd, reads.given seen cmds given)

pub returns-in-End-clause-turns : goal.returns-in-End-clause-turns
returns-in-End-clause-turns g c = λ set first left told le h. end_at (record { first = c.all_was_given.ensures.first; end = c.all_was_given.ensures.end; whole = c.all_was_given.ensures.whole; front = c.all_was_given.ensures.front; few = c.all_was_given.ensures.few }) set left (g.S.Source.remaining c.args.input.now) (g.S.Source.remaining c.next.new.input) told (g.K.Sink.taken c.args.out.now) (state_of disk_state (blocks_in c.args.system.now)) c.args.reader.now c.next.new.self h (g.S.Source.faults c.args.input.now) (g.S.Source.faults c.next.new.input) (subst (λ (n : Next). ReadsOn n c.args.reader.now c.next.new.self (g.S.Source.remaining c.args.input.now) (g.S.Source.remaining c.next.new.input) (g.S.Source.faults c.args.input.now) (g.S.Source.faults c.next.new.input)) c.in-End.is c.in_ok-cmd.ensures.ok)

pub returns-in-SourceFault-clause-turns : goal.returns-in-SourceFault-clause-turns
returns-in-SourceFault-clause-turns g c = λ set first left told le h. fault_at (record { first = c.all_was_given.ensures.first; end = c.all_was_given.ensures.end; whole = c.all_was_given.ensures.whole; front = c.all_was_given.ensures.front; few = c.all_was_given.ensures.few }) set left (g.S.Source.remaining c.args.input.now) (g.S.Source.remaining c.next.new.input) told (g.K.Sink.taken c.args.out.now) (state_of disk_state (blocks_in c.args.system.now)) c.args.reader.now c.next.new.self h (g.S.Source.faults c.args.input.now) (g.S.Source.faults c.next.new.input) first le (subst (λ (n : Next). ReadsOn n c.args.reader.now c.next.new.self (g.S.Source.remaining c.args.input.now) (g.S.Source.remaining c.next.new.input) (g.S.Source.faults c.args.input.now) (g.S.Source.faults c.next.new.input)) c.in-SourceFault.is c.in_ok-cmd.ensures.ok)

pub returns-in-LongInput-clause-turns : goal.returns-in-LongInput-clause-turns
returns-in-LongInput-clause-turns g c = λ set first left told le h. long_at (record { first = c.all_was_given.ensures.first; end = c.all_was_given.ensures.end; whole = c.all_was_given.ensures.whole; front = c.all_was_given.ensures.front; few = c.all_was_given.ensures.few }) set left (g.S.Source.remaining c.args.input.now) (g.S.Source.remaining c.next.new.input) told (g.K.Sink.taken c.args.out.now) (state_of disk_state (blocks_in c.args.system.now)) c.args.reader.now c.next.new.self h (g.S.Source.faults c.args.input.now) (g.S.Source.faults c.next.new.input) (subst (λ (n : Next). ReadsOn n c.args.reader.now c.next.new.self (g.S.Source.remaining c.args.input.now) (g.S.Source.remaining c.next.new.input) (g.S.Source.faults c.args.input.now) (g.S.Source.faults c.next.new.input)) c.in-LongInput.is c.in_ok-cmd.ensures.ok)
