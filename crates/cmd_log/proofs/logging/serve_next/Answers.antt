use Rattle.std.proofs.Common.{refl, subst}
use Rattle.fs_commands.specs.Opened.{blocks_in}
use Rattle.lang_lines.specs.declared.next.NextItem.{NextItem}
use Rattle.lang_log.specs.declared.call.LogCall.{LogCall}
use Rattle.lang_log_lines.specs.Reading.{ReadsCall}
use Rattle.engine_store.specs.StoreOf.{state_of}
use Rattle.cmd_log.proofs.Reading.{call_at, end_at, fault_at, held_at, long_at, stops_at, stops_turn}
use Rattle.cmd_log.proofs.logging.serve_next.Goals as goal

pub returns-in_err-call-clause-turns : goal.returns-in_err-call-clause-turns
returns-in_err-call-clause-turns g c = λ first before le h.
    stops_turn g.D.Disk.tells first c.args.running.now.marks.items (state_of g.D.Disk.state (blocks_in c.args.running.now.logged.fs)) c.next.new.self before (record { left = g.S.Source.remaining c.next.new.input; source_faults = g.S.Source.faults c.next.new.input; taken = g.K.Sink.taken c.args.out.now; sink_faults = g.K.Sink.faults c.args.out.now }) _ c.from_residual.result c.from_residual.ensures.1
    (λ why. held_at g.D.Disk.tells first c.args.running.now.marks.items (state_of g.D.Disk.state (blocks_in c.args.running.now.logged.fs)) c.args.reader.now c.next.new.self before (record { left = g.S.Source.remaining c.args.input.now; source_faults = g.S.Source.faults c.args.input.now; taken = g.K.Sink.taken c.args.out.now; sink_faults = g.K.Sink.faults c.args.out.now }) (record { left = g.S.Source.remaining c.next.new.input; source_faults = g.S.Source.faults c.next.new.input; taken = g.K.Sink.taken c.args.out.now; sink_faults = g.K.Sink.faults c.args.out.now }) (record { first = c.all_calls_were_given.ensures.first; end = c.all_calls_were_given.ensures.end; whole = c.all_calls_were_given.ensures.whole; front = c.all_calls_were_given.ensures.front }) h refl why c.in_err-call.ensures.err c.next.ensures.rest)

pub returns-in_err-serve-in-Item-clause-turns : goal.returns-in_err-serve-in-Item-clause-turns
returns-in_err-serve-in-Item-clause-turns g c = λ first before le h.
    stops_turn g.D.Disk.tells first c.serve.new.self.marks.items (state_of g.D.Disk.state (blocks_in c.serve.new.self.logged.fs)) c.next.new.self before (record { left = g.S.Source.remaining c.next.new.input; source_faults = g.S.Source.faults c.next.new.input; taken = g.K.Sink.taken c.serve.new.out; sink_faults = g.K.Sink.faults c.serve.new.out }) _ c.from_residual-in_err-serve-in-Item.result c.from_residual-in_err-serve-in-Item.ensures.1
    (λ why. stops_at g.D.Disk.tells first c.args.running.now.marks.items (state_of g.D.Disk.state (blocks_in c.args.running.now.logged.fs)) c.args.reader.now c.next.new.self before (record { left = g.S.Source.remaining c.args.input.now; source_faults = g.S.Source.faults c.args.input.now; taken = g.K.Sink.taken c.args.out.now; sink_faults = g.K.Sink.faults c.args.out.now }) (record { left = g.S.Source.remaining c.next.new.input; source_faults = g.S.Source.faults c.next.new.input; taken = g.K.Sink.taken c.serve.new.out; sink_faults = g.K.Sink.faults c.serve.new.out }) (record { first = c.all_calls_were_given.ensures.first; end = c.all_calls_were_given.ensures.end; whole = c.all_calls_were_given.ensures.whole; front = c.all_calls_were_given.ensures.front }) h c.in-Item.call c.serve.new.self.marks.items (state_of g.D.Disk.state (blocks_in c.serve.new.self.logged.fs)) why (subst (λ (n : NextItem LogCall). ReadsCall n c.args.reader.now c.next.new.self (g.S.Source.remaining c.args.input.now) (g.S.Source.remaining c.next.new.input) (g.S.Source.faults c.args.input.now) (g.S.Source.faults c.next.new.input)) c.in-Item.is c.in_ok-call.ensures.ok) c.next.ensures.rest c.in_err-serve-in-Item.ensures.err)

pub returns-in_ok-serve-in-Item-clause-turns : goal.returns-in_ok-serve-in-Item-clause-turns
returns-in_ok-serve-in-Item-clause-turns g c = λ first before le h.
    call_at g.D.Disk.tells first c.args.running.now.marks.items (state_of g.D.Disk.state (blocks_in c.args.running.now.logged.fs)) c.args.reader.now c.next.new.self before (record { left = g.S.Source.remaining c.args.input.now; source_faults = g.S.Source.faults c.args.input.now; taken = g.K.Sink.taken c.args.out.now; sink_faults = g.K.Sink.faults c.args.out.now }) (record { left = g.S.Source.remaining c.next.new.input; source_faults = g.S.Source.faults c.next.new.input; taken = g.K.Sink.taken c.serve.new.out; sink_faults = g.K.Sink.faults c.serve.new.out }) (record { first = c.all_calls_were_given.ensures.first; end = c.all_calls_were_given.ensures.end; whole = c.all_calls_were_given.ensures.whole; front = c.all_calls_were_given.ensures.front }) h c.in-Item.call c.serve.new.self.marks.items (state_of g.D.Disk.state (blocks_in c.serve.new.self.logged.fs)) (subst (λ (n : NextItem LogCall). ReadsCall n c.args.reader.now c.next.new.self (g.S.Source.remaining c.args.input.now) (g.S.Source.remaining c.next.new.input) (g.S.Source.faults c.args.input.now) (g.S.Source.faults c.next.new.input)) c.in-Item.is c.in_ok-call.ensures.ok) c.in_ok-serve-in-Item.ensures.ok

pub returns-in_ok-serve-in-Item-clause-gives : goal.returns-in_ok-serve-in-Item-clause-gives
returns-in_ok-serve-in-Item-clause-gives g c = λ seen calls given. let reads = (subst (λ (n : NextItem LogCall). ReadsCall n c.args.reader.now c.next.new.self (g.S.Source.remaining c.args.input.now) (g.S.Source.remaining c.next.new.input) (g.S.Source.faults c.args.input.now) (g.S.Source.faults c.next.new.input)) c.in-Item.is c.in_ok-call.ensures.ok) in record { more = reads.more; call = c.in-Item.call; given = reads.given seen calls given }

pub returns-in-End-clause-turns : goal.returns-in-End-clause-turns
returns-in-End-clause-turns g c = λ first before le h. end_at g.D.Disk.tells first c.args.running.now.marks.items (state_of g.D.Disk.state (blocks_in c.args.running.now.logged.fs)) c.args.reader.now c.next.new.self before (record { left = g.S.Source.remaining c.args.input.now; source_faults = g.S.Source.faults c.args.input.now; taken = g.K.Sink.taken c.args.out.now; sink_faults = g.K.Sink.faults c.args.out.now }) (record { left = g.S.Source.remaining c.next.new.input; source_faults = g.S.Source.faults c.next.new.input; taken = g.K.Sink.taken c.args.out.now; sink_faults = g.K.Sink.faults c.args.out.now }) (record { first = c.all_calls_were_given.ensures.first; end = c.all_calls_were_given.ensures.end; whole = c.all_calls_were_given.ensures.whole; front = c.all_calls_were_given.ensures.front }) h refl (subst (λ (n : NextItem LogCall). ReadsCall n c.args.reader.now c.next.new.self (g.S.Source.remaining c.args.input.now) (g.S.Source.remaining c.next.new.input) (g.S.Source.faults c.args.input.now) (g.S.Source.faults c.next.new.input)) c.in-End.is c.in_ok-call.ensures.ok)

pub returns-in-SourceFault-clause-turns : goal.returns-in-SourceFault-clause-turns
returns-in-SourceFault-clause-turns g c = λ first before le h. fault_at g.D.Disk.tells first c.args.running.now.marks.items (state_of g.D.Disk.state (blocks_in c.args.running.now.logged.fs)) c.args.reader.now c.next.new.self before (record { left = g.S.Source.remaining c.args.input.now; source_faults = g.S.Source.faults c.args.input.now; taken = g.K.Sink.taken c.args.out.now; sink_faults = g.K.Sink.faults c.args.out.now }) (record { left = g.S.Source.remaining c.next.new.input; source_faults = g.S.Source.faults c.next.new.input; taken = g.K.Sink.taken c.args.out.now; sink_faults = g.K.Sink.faults c.args.out.now }) (record { first = c.all_calls_were_given.ensures.first; end = c.all_calls_were_given.ensures.end; whole = c.all_calls_were_given.ensures.whole; front = c.all_calls_were_given.ensures.front }) h refl le (subst (λ (n : NextItem LogCall). ReadsCall n c.args.reader.now c.next.new.self (g.S.Source.remaining c.args.input.now) (g.S.Source.remaining c.next.new.input) (g.S.Source.faults c.args.input.now) (g.S.Source.faults c.next.new.input)) c.in-SourceFault.is c.in_ok-call.ensures.ok)

pub returns-in-LongInput-clause-turns : goal.returns-in-LongInput-clause-turns
returns-in-LongInput-clause-turns g c = λ first before le h. long_at g.D.Disk.tells first c.args.running.now.marks.items (state_of g.D.Disk.state (blocks_in c.args.running.now.logged.fs)) c.args.reader.now c.next.new.self before (record { left = g.S.Source.remaining c.args.input.now; source_faults = g.S.Source.faults c.args.input.now; taken = g.K.Sink.taken c.args.out.now; sink_faults = g.K.Sink.faults c.args.out.now }) (record { left = g.S.Source.remaining c.next.new.input; source_faults = g.S.Source.faults c.next.new.input; taken = g.K.Sink.taken c.args.out.now; sink_faults = g.K.Sink.faults c.args.out.now }) (record { first = c.all_calls_were_given.ensures.first; end = c.all_calls_were_given.ensures.end; whole = c.all_calls_were_given.ensures.whole; front = c.all_calls_were_given.ensures.front }) h refl (subst (λ (n : NextItem LogCall). ReadsCall n c.args.reader.now c.next.new.self (g.S.Source.remaining c.args.input.now) (g.S.Source.remaining c.next.new.input) (g.S.Source.faults c.args.input.now) (g.S.Source.faults c.next.new.input)) c.in-LongInput.is c.in_ok-call.ensures.ok)
