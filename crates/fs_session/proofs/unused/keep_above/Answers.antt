use Rattle.std.proofs.Common.{rules, tests}
use Rattle.arrayvec.proofs.ArrayVecLemmas.{filter-from_retain}
use Rattle.fs_session.proofs.unused.keep_above.Goals as goal

pub returns : goal.returns
returns c = filter-from_retain _ _ _ (λ x b f' y called. search (rules, tests)) _ _ c.retain.ensures.filtered
