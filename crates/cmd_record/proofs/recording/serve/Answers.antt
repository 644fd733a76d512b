-- A failure leaves a front of the entry with the sink, and success all of it.
use Rattle.std.proofs.Common.{ℕ, length, drop, ap, ◌∙◌}
use Rattle.disk_memory.specs.MemDisk.{MemDiskState, state_of as disk_state}
use Rattle.engine_store.specs.StoreOf.{disk_in, state_of}
use Rattle.fs_commands.specs.Opened.{blocks_in}
use Rattle.cmd_record.proofs.Runs.{records_on}
use Rattle.cmd_record.proofs.RecordingLemmas.{nothing_told, command_cut, events_cut, reply_cut, one_served}
use Rattle.cmd_record.proofs.recording.serve.Goals as goal

pub returns-in_err-asked-clause-err : goal.returns-in_err-asked-clause-err
returns-in_err-asked-clause-err g c = nothing_told _ _ _ _

pub returns-in_err-write_command-clause-err : goal.returns-in_err-write_command-clause-err
returns-in_err-write_command-clause-err g c =
    let front = c.in_err-write_command.ensures.front in
    command_cut _ _ _ _ _ _ _ _ front.0 (records_on _ _ _ _ c.answer-reply.ensures c.a_run_is_known.ensures.laws c.a_run_is_known.ensures.known c.in_ok-told.ensures.lawful)
    (c.as_slice.ensures.value ∙ c.in_ok-asked.ensures.text) front.1

pub returns-in_err-told-clause-err : goal.returns-in_err-told-clause-err
returns-in_err-told-clause-err g c = nothing_told _ _ _ _

pub returns-in_err-write_events-clause-err : goal.returns-in_err-write_events-clause-err
returns-in_err-write_events-clause-err g c =
    let front = c.in_err-write_events.ensures.front in
    events_cut _ _ _ _ _ _ _ _ _ _ front.0 (records_on _ _ _ _ c.answer-reply.ensures c.a_run_is_known.ensures.laws c.a_run_is_known.ensures.known c.in_ok-told.ensures.lawful)
    (c.as_slice.ensures.value ∙ c.in_ok-asked.ensures.text)
    (ap (λ (n : ℕ). drop n c.disk.result.now.log) c.moment_of-before.ensures ∙ ap (λ (d : MemDiskState). drop (length (state_of disk_state (blocks_in c.args.system.now)).crash.log) d.log) (c.disk.ensures.value ∙ ap disk_in c.blocks-2.ensures))
    c.in_ok-write_command.ensures.all front.1

pub returns-in_err-write_reply-clause-err : goal.returns-in_err-write_reply-clause-err
returns-in_err-write_reply-clause-err g c =
    let front = c.in_err-write_reply.ensures.front in
    reply_cut _ _ _ _ _ _ _ _ _ _ _ _ _ front.0 (records_on _ _ _ _ c.answer-reply.ensures c.a_run_is_known.ensures.laws c.a_run_is_known.ensures.known c.in_ok-told.ensures.lawful)
    (c.as_slice.ensures.value ∙ c.in_ok-asked.ensures.text)
    (ap (λ (n : ℕ). drop n c.disk.result.now.log) c.moment_of-before.ensures ∙ ap (λ (d : MemDiskState). drop (length (state_of disk_state (blocks_in c.args.system.now)).crash.log) d.log) (c.disk.ensures.value ∙ ap disk_in c.blocks-2.ensures))
    c.moment_of.ensures (c.as_slice-2.ensures.value ∙ c.in_ok-told.ensures.text) c.in_ok-write_command.ensures.all c.in_ok-write_events.ensures.all front.1

pub returns-clause-ok : goal.returns-clause-ok
returns-clause-ok g c =
    one_served _ _ _ _ _ _ _ _ _ _ _ _ (records_on _ _ _ _ c.answer-reply.ensures c.a_run_is_known.ensures.laws c.a_run_is_known.ensures.known c.in_ok-told.ensures.lawful)
    (c.as_slice.ensures.value ∙ c.in_ok-asked.ensures.text)
    (ap (λ (n : ℕ). drop n c.disk.result.now.log) c.moment_of-before.ensures ∙ ap (λ (d : MemDiskState). drop (length (state_of disk_state (blocks_in c.args.system.now)).crash.log) d.log) (c.disk.ensures.value ∙ ap disk_in c.blocks-2.ensures))
    c.moment_of.ensures (c.as_slice-2.ensures.value ∙ c.in_ok-told.ensures.text) c.in_ok-write_command.ensures.all c.in_ok-write_events.ensures.all c.in_ok-write_reply.ensures.all
