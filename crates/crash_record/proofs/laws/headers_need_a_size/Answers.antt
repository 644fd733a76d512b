use Rattle.crash_record.proofs.Headers.{no_header}
use Rattle.crash_record.proofs.laws.headers_need_a_size.Goals as goal

pub returns : goal.returns
returns c = no_header c.geometries_are_within_limits.ensures c.journal_blocks_keep_to_their_bounds.ensures.headers
