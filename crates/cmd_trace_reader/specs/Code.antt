-- How a replayed session is stored as a value. It adds no meaning.
use Rattle.std.specs.Prelude.{ℕ, Bool, refl}
use Rattle.std.specs.Coded.{Coded, code_by, coded_ℕ, coded_bool, coded×}
use Rattle.lang_tree.specs.Step.{Session}
use Rattle.fs_memtree.specs.Code.{coded_session}
use Rattle.cmd_trace_reader.specs.Replies.{Kept}

pub coded_kept : Coded Kept
coded_kept = code_by (Session × (ℕ × (ℕ × Bool))) (coded× coded_session (coded× coded_ℕ (coded× coded_ℕ coded_bool)))
    (λ k. (k.session, (k.points, (k.durable, k.stopped))))
    (λ p. record { session = p.0; points = p.1.0; durable = p.1.1.0; stopped = p.1.1.1 })
    (λ _. refl)
