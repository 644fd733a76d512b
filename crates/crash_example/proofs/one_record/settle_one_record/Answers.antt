use Rattle.std.proofs.Common.{◌-◌, [], ◌∷◌, ◌++◌, true, false, refl, ap, arith}
use Rattle.crash_argument.specs.PipelineData.{with_committed}
use Rattle.crash_example.specs.OneRecord.{with_known_record, with_sure_record}
use Rattle.crash_example.proofs.RecordLife.{released_failed, sure_reads, made_sure, last_sure, release_reads, made_free, one_batch}
use Rattle.crash_example.proofs.Spending.{spends_on, spends_less}
use Rattle.crash_example.specs.OneRecord.{writes_of, writes_of_life}
use Rattle.crash_example.proofs.Orders.{amid_none, amid_then, amid_waited, prefix_durable, prefix_behind, in_order_failed}
use Rattle.crash_example.proofs.one_record.settle_one_record.Goals as goal

pub returns-in_err-write_and_wait-clause-released : goal.returns-in_err-write_and_wait-clause-released
returns-in_err-write_and_wait-clause-released g c = λ tells s l p w m t floor freed none is may are_freed settles safe knows idle.
    let failed = c.in_err-write_and_wait.ensures.known tells s l p w m t floor freed is may safe knows idle are_freed none.records in
    released_failed s l w m t floor c.from_residual.result _ c.from_residual.ensures.0 failed

pub returns-in_err-make_sure-clause-released : goal.returns-in_err-make_sure-clause-released
returns-in_err-make_sure-clause-released g c = λ tells s l p w m t floor freed none is may are_freed settles safe knows idle.
    let known = c.in_ok-write_and_wait.ensures.known tells s l p w m t floor freed is may safe knows idle are_freed none.records in
    let joined = with_committed p l w c.in_ok-write_and_wait.field-0 freed in
    let failed = c.in_err-make_sure.ensures.turned tells s (with_known_record l w m) joined t floor settles.slot none.next (sure_reads l p w m _ none.placed settles.sure) known.0 known.1 in
    released_failed s l w m t floor c.from_residual-in_err-make_sure.result _ c.from_residual-in_err-make_sure.ensures.0 failed

pub returns-in_err-checkpoint-clause-released : goal.returns-in_err-checkpoint-clause-released
returns-in_err-checkpoint-clause-released g c = λ tells s l p w m t floor freed none is may are_freed settles safe knows idle.
    let known = c.in_ok-write_and_wait.ensures.known tells s l p w m t floor freed is may safe knows idle are_freed none.records in
    let joined = with_committed p l w c.in_ok-write_and_wait.field-0 freed in
    let turned = c.in_ok-make_sure.ensures.turned tells s (with_known_record l w m) joined t floor settles.slot none.next (sure_reads l p w m _ none.placed settles.sure) known.0 known.1 in
    let sure = made_sure s l p w m c.in_ok-write_and_wait.field-0 freed t floor _ _ none.placed none.batch turned in
    let batch = one_batch l w m sure.1.of.placed none.records sure.1.placed_is _ _ settles.home settles.alone in
    let failed = c.in_err-checkpoint.ensures.placed tells s (with_sure_record l w m) sure.1.of t floor 1 sure.1.batch_is (last_sure l w m sure.1.of.placed none.records sure.1.placed_is) batch.0 batch.1 sure.0 sure.1.agree in
    released_failed s l w m t floor c.from_residual-in_err-checkpoint.result _ c.from_residual-in_err-checkpoint.ensures.0 failed

pub returns-in_err-make_sure-2-clause-released : goal.returns-in_err-make_sure-2-clause-released
returns-in_err-make_sure-2-clause-released g c = λ tells s l p w m t floor freed none is may are_freed settles safe knows idle.
    let known = c.in_ok-write_and_wait.ensures.known tells s l p w m t floor freed is may safe knows idle are_freed none.records in
    let joined = with_committed p l w c.in_ok-write_and_wait.field-0 freed in
    let turned = c.in_ok-make_sure.ensures.turned tells s (with_known_record l w m) joined t floor settles.slot none.next (sure_reads l p w m _ none.placed settles.sure) known.0 known.1 in
    let sure = made_sure s l p w m c.in_ok-write_and_wait.field-0 freed t floor _ _ none.placed none.batch turned in
    let batch = one_batch l w m sure.1.of.placed none.records sure.1.placed_is _ _ settles.home settles.alone in
    let placed = c.in_ok-checkpoint.ensures.placed tells s (with_sure_record l w m) sure.1.of t floor 1 sure.1.batch_is (last_sure l w m sure.1.of.placed none.records sure.1.placed_is) batch.0 batch.1 sure.0 sure.1.agree in
    let failed = c.in_err-make_sure-2.ensures.turned tells s (with_sure_record l w m) _ t floor (ap (λ n. 1 - n) settles.slot) refl (release_reads l w m _ sure.1.of.placed sure.1.placed_is settles.release) placed.0 placed.1.1 in
    released_failed s l w m t floor c.from_residual-in_err-make_sure-2.result _ c.from_residual-in_err-make_sure-2.ensures.0 failed

pub returns-clause-released : goal.returns-clause-released
returns-clause-released g c = λ tells s l p w m t floor freed none is may are_freed settles safe knows idle.
    let known = c.in_ok-write_and_wait.ensures.known tells s l p w m t floor freed is may safe knows idle are_freed none.records in
    let joined = with_committed p l w c.in_ok-write_and_wait.field-0 freed in
    let turned = c.in_ok-make_sure.ensures.turned tells s (with_known_record l w m) joined t floor settles.slot none.next (sure_reads l p w m _ none.placed settles.sure) known.0 known.1 in
    let sure = made_sure s l p w m c.in_ok-write_and_wait.field-0 freed t floor _ _ none.placed none.batch turned in
    let batch = one_batch l w m sure.1.of.placed none.records sure.1.placed_is _ _ settles.home settles.alone in
    let placed = c.in_ok-checkpoint.ensures.placed tells s (with_sure_record l w m) sure.1.of t floor 1 sure.1.batch_is (last_sure l w m sure.1.of.placed none.records sure.1.placed_is) batch.0 batch.1 sure.0 sure.1.agree in
    let released = c.in_ok-make_sure-2.ensures.turned tells s (with_sure_record l w m) _ t floor (ap (λ n. 1 - n) settles.slot) refl (release_reads l w m _ sure.1.of.placed sure.1.placed_is settles.release) placed.0 placed.1.1 in
    made_free s l w m t floor sure.1.of.placed _ _ sure.1.placed_is released.0

pub returns-in_err-make_sure-clause-spends : goal.returns-in_err-make_sure-clause-spends
returns-in_err-make_sure-clause-spends g c = spends_less _ 5 7 _ _ c.from_residual-in_err-make_sure.ensures.0 (omega arith) (spends_on true 4 1 _ _ _ c.in_ok-write_and_wait.ensures.spends c.in_err-make_sure.ensures.spends)

pub returns-in_err-checkpoint-clause-spends : goal.returns-in_err-checkpoint-clause-spends
returns-in_err-checkpoint-clause-spends g c = spends_less _ 6 7 _ _ c.from_residual-in_err-checkpoint.ensures.0 (omega arith) (spends_on true 5 1 _ _ _ (spends_on false 4 1 _ _ _ c.in_ok-write_and_wait.ensures.spends c.in_ok-make_sure.ensures.spends) c.in_err-checkpoint.ensures.spends)

pub returns-in_err-make_sure-2-clause-spends : goal.returns-in_err-make_sure-2-clause-spends
returns-in_err-make_sure-2-clause-spends g c =
    let two = spends_on false 4 1 _ _ _ c.in_ok-write_and_wait.ensures.spends c.in_ok-make_sure.ensures.spends in
    let three = spends_on false 5 1 _ _ _ two c.in_ok-checkpoint.ensures.spends in
    spends_less _ 7 7 _ _ c.from_residual-in_err-make_sure-2.ensures.0 (omega arith) (spends_on true 6 1 _ _ _ three c.in_err-make_sure-2.ensures.spends)

pub returns-in_err-write_and_wait-clause-log : goal.returns-in_err-write_and_wait-clause-log
returns-in_err-write_and_wait-clause-log g c = λ tells.
    let o = c.args.record.now in let q = c.args.settling.now in
    in_order_failed (writes_of_life o q) _ _ _ c.from_residual.ensures.0 (prefix_behind [] (writes_of o) ((1 - q.slot, q.sure) ∷ (q.home_block, q.home) ∷ (1 - (1 - q.slot), q.release) ∷ []) _ _ _ (amid_none _) (c.in_err-write_and_wait.ensures.log tells))

pub returns-in_err-make_sure-clause-log : goal.returns-in_err-make_sure-clause-log
returns-in_err-make_sure-clause-log g c = λ tells.
    let o = c.args.record.now in let q = c.args.settling.now in
    in_order_failed (writes_of_life o q) _ _ _ c.from_residual-in_err-make_sure.ensures.0 (prefix_behind (writes_of o) ((1 - q.slot, q.sure) ∷ []) ((q.home_block, q.home) ∷ (1 - (1 - q.slot), q.release) ∷ []) _ _ _ (c.in_ok-write_and_wait.ensures.log tells) (prefix_durable (1 - q.slot) q.sure _ _ (c.in_err-make_sure.ensures.log tells)))

pub returns-in_err-checkpoint-clause-log : goal.returns-in_err-checkpoint-clause-log
returns-in_err-checkpoint-clause-log g c = λ tells.
    let o = c.args.record.now in let q = c.args.settling.now in
    let one = amid_then (writes_of o) [] ((1 - q.slot, q.sure) ∷ []) [] _ _ _ (c.in_ok-write_and_wait.ensures.log tells) (amid_waited (1 - q.slot) q.sure _ _ (c.in_ok-make_sure.ensures.log tells).0) in
    in_order_failed (writes_of_life o q) _ _ _ c.from_residual-in_err-checkpoint.ensures.0 (prefix_behind (writes_of o ++ (1 - q.slot, q.sure) ∷ []) ((q.home_block, q.home) ∷ []) ((1 - (1 - q.slot), q.release) ∷ []) _ _ _ one (prefix_durable q.home_block q.home _ _ (c.in_err-checkpoint.ensures.log tells)))

pub returns-in_err-make_sure-2-clause-log : goal.returns-in_err-make_sure-2-clause-log
returns-in_err-make_sure-2-clause-log g c = λ tells.
    let o = c.args.record.now in let q = c.args.settling.now in
    let one = amid_then (writes_of o) [] ((1 - q.slot, q.sure) ∷ []) [] _ _ _ (c.in_ok-write_and_wait.ensures.log tells) (amid_waited (1 - q.slot) q.sure _ _ (c.in_ok-make_sure.ensures.log tells).0) in
    let two = amid_then (writes_of o ++ (1 - q.slot, q.sure) ∷ []) [] ((q.home_block, q.home) ∷ []) [] _ _ _ one (amid_waited q.home_block q.home _ _ (c.in_ok-checkpoint.ensures.log tells).0) in
    in_order_failed (writes_of_life o q) _ _ _ c.from_residual-in_err-make_sure-2.ensures.0 (prefix_behind (writes_of o ++ (1 - q.slot, q.sure) ∷ (q.home_block, q.home) ∷ []) ((1 - (1 - q.slot), q.release) ∷ []) [] _ _ _ two (prefix_durable (1 - (1 - q.slot)) q.release _ _ (c.in_err-make_sure-2.ensures.log tells)))

pub returns-clause-log : goal.returns-clause-log
returns-clause-log g c = λ tells.
    let o = c.args.record.now in let q = c.args.settling.now in
    let one = amid_then (writes_of o) [] ((1 - q.slot, q.sure) ∷ []) [] _ _ _ (c.in_ok-write_and_wait.ensures.log tells) (amid_waited (1 - q.slot) q.sure _ _ (c.in_ok-make_sure.ensures.log tells).0) in
    let two = amid_then (writes_of o ++ (1 - q.slot, q.sure) ∷ []) [] ((q.home_block, q.home) ∷ []) [] _ _ _ one (amid_waited q.home_block q.home _ _ (c.in_ok-checkpoint.ensures.log tells).0) in
    amid_then (writes_of o ++ (1 - q.slot, q.sure) ∷ (q.home_block, q.home) ∷ []) [] ((1 - (1 - q.slot), q.release) ∷ []) [] _ _ _ two (amid_waited (1 - (1 - q.slot)) q.release _ _ (c.in_ok-make_sure-2.ensures.log tells).0)
