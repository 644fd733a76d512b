use Rattle.std.proofs.Common.{◌+◌, ◌≤◌, [], arith, ◌∷◌}
use Rattle.std.proofs.lemmas.List.{length-append}
use Rattle.crash_argument.specs.Ledger.{next_number}
use Rattle.crash_argument.specs.Steps.{with_record}
use Rattle.crash_argument.specs.PipelineData.{with_committed}
use Rattle.crash_example.proofs.RecordClient.{left_unknown, only_noticed}
use Rattle.crash_example.proofs.SettlingSteps.{somehow}
use Rattle.crash_example.specs.OneRecord.{writes_of}
use Rattle.crash_example.proofs.Orders.{amid_then, prefix_all, in_order_failed}
use Rattle.crash_example.proofs.one_record.write_and_wait.Goals as goal

pub returns-in_err-tickets-clause-known : goal.returns-in_err-tickets-clause-known
returns-in_err-tickets-clause-known g c = λ tells s l p w m t floor freed is may safe knows idle are_freed none.
    left_unknown s l p w m freed t floor c.from_residual.result _ c.from_residual.ensures.0 (c.in_err-tickets.ensures.leaves tells s l p w m t floor is may safe knows idle)

pub returns-in_err-make_known-clause-known : goal.returns-in_err-make_known-clause-known
returns-in_err-make_known-clause-known g c = λ tells s l p w m t floor freed is may safe knows idle are_freed none.
    let written = c.in_ok-tickets.ensures.leaves tells s l p w m t floor is may safe knows idle in
    left_unknown s l p w m freed t floor c.from_residual-in_err-make_known.result _ c.from_residual-in_err-make_known.ensures.0 (somehow s _ _ (with_record l w m) t floor (c.make_known.ensures.safe tells s (with_record l w m) t floor written.safe))

pub returns-clause-known : goal.returns-clause-known
returns-clause-known g c = λ tells s l p w m t floor freed is may safe knows idle are_freed none.
    let written = c.in_ok-tickets.ensures.leaves tells s l p w m t floor is may safe knows idle in
    let joined = with_committed p l w c.in_ok-tickets.tickets freed in
    let both = c.make_known.ensures.knows tells (with_record l w m) joined (written.safe.keeps, written.joined freed are_freed) in
    let from : l.known ≤ next_number l + 1 = omega (arith, safe.keeps.known) in
    let noticed = only_noticed _ _ l p w m c.in_ok-tickets.tickets freed (next_number l + 1) both.1 none (c.in_ok-make_known.ensures.noticed tells) in
    let durable = c.records_become_durable.ensures.noticed _ _ (with_record l w m) joined (next_number l + 1) both.0 both.1 from (omega (arith, length-append l.records (w ∷ []))) noticed in (
      c.noticed_records_are_known.ensures.known s _ _ (with_record l w m) t floor (next_number l + 1) durable (c.make_known.ensures.safe tells s (with_record l w m) t floor written.safe),
      c.records_become_durable.ensures.knows _ _ (with_record l w m) joined (next_number l + 1) both.0 both.1 from,
    )

pub returns-in_err-make_known-clause-log : goal.returns-in_err-make_known-clause-log
returns-in_err-make_known-clause-log g c = λ tells.
    in_order_failed (writes_of c.args.record.now) _ _ _ c.from_residual-in_err-make_known.ensures.0 (prefix_all (writes_of c.args.record.now) _ _ (amid_then (writes_of c.args.record.now) [] [] [] _ _ _ (c.in_ok-tickets.ensures.log tells) (c.make_known.ensures.log tells)))

pub returns-clause-log : goal.returns-clause-log
returns-clause-log g c = λ tells. amid_then (writes_of c.args.record.now) [] [] [] _ _ _ (c.in_ok-tickets.ensures.log tells) (c.make_known.ensures.log tells)
