-- The numbers at the end are those of the summary.
use Rattle.std.proofs.Common.{◌∙◌}
use Rattle.disk_memory.specs.MemDisk.{state_of as disk_state}
use Rattle.engine_store.specs.StoreOf.{state_of}
use Rattle.fs_commands.specs.Opened.{blocks_in}
use Rattle.cmd_load.proofs.Loads.{sums_up}
use Rattle.cmd_load.proofs.loading.run_on.Goals as goal

pub digest_of-requires-clause-going : goal.digest_of-requires-clause-going
digest_of-requires-clause-going c = c.in_ok-refused.ensures.serves.0.going

pub digest_of-requires-clause-readable : goal.digest_of-requires-clause-readable
digest_of-requires-clause-readable c = c.in_ok-refused.ensures.serves.0.readable

pub returns : goal.returns
returns c = c.new.ensures ∙ sums_up c.args.seed c.args.count c.in_ok-refused.refused c.figures-points.result.point c.in_ok-digest.digest (state_of disk_state (blocks_in c.serve.new.fs)) c.in_ok-refused.ensures.serves.0 c.in_ok-refused.ensures.serves.1 c.figures-points.ensures.point c.in_ok-digest.ensures
