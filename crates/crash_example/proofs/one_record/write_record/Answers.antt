use Rattle.std.proofs.Common.{◌∷◌, [], arith}
use Rattle.crash_example.proofs.Tests.{get_some}
use Rattle.crash_example.proofs.RecordClient.{nothing_issued, all_but_commit, refused, left}
use Rattle.crash_example.proofs.SettlingSteps.{somehow}
use Rattle.crash_example.specs.OneRecord.{writes_of}
use Rattle.crash_example.proofs.Orders.{amid_none, amid_then, amid_wrote, prefix_write, prefix_behind, in_order_failed}
use Rattle.crash_example.proofs.one_record.write_record.Goals as goal

pub returns-in_err-fresh-clause-leaves : goal.returns-in_err-fresh-clause-leaves
returns-in_err-fresh-clause-leaves g c = λ tells s l p w m t floor is may safe knows idle.
    let e = get_some w.says.fresh 0 (omega (arith, is.one)) in
    left s l p w m t floor c.from_residual.result _ c.from_residual.ensures.0 (somehow s _ _ l t floor (c.in_err-fresh.ensures.under_way tells s l p w m t floor 0 1 e.0 [] knows.new may e.1 (is.fresh_block e.0 e.1) is.fresh safe (nothing_issued _ _ l p w idle knows)))

pub returns-in_err-descriptor-clause-leaves : goal.returns-in_err-descriptor-clause-leaves
returns-in_err-descriptor-clause-leaves g c = λ tells s l p w m t floor is may safe knows idle.
    let e = get_some w.says.fresh 0 (omega (arith, is.one)) in
    let fresh = c.in_ok-fresh.ensures.under_way tells s l p w m t floor 0 1 e.0 [] knows.new may e.1 (is.fresh_block e.0 e.1) is.fresh safe (nothing_issued _ _ l p w idle knows) in
    left s l p w m t floor c.from_residual-in_err-descriptor.result _ c.from_residual-in_err-descriptor.ensures.0 (somehow s _ _ l t floor (c.in_err-descriptor.ensures.under_way tells s l p w m t floor 1 1 (c.in_ok-fresh.fresh ∷ []) knows.new may (omega arith) (omega (arith, is.three)) is.descriptor_block is.descriptor fresh.0 fresh.1))

pub returns-in_err-payload-clause-leaves : goal.returns-in_err-payload-clause-leaves
returns-in_err-payload-clause-leaves g c = λ tells s l p w m t floor is may safe knows idle.
    let e = get_some w.says.fresh 0 (omega (arith, is.one)) in
    let fresh = c.in_ok-fresh.ensures.under_way tells s l p w m t floor 0 1 e.0 [] knows.new may e.1 (is.fresh_block e.0 e.1) is.fresh safe (nothing_issued _ _ l p w idle knows) in
    let descriptor = c.in_ok-descriptor.ensures.under_way tells s l p w m t floor 1 1 (c.in_ok-fresh.fresh ∷ []) knows.new may (omega arith) (omega (arith, is.three)) is.descriptor_block is.descriptor fresh.0 fresh.1 in
    left s l p w m t floor c.from_residual-in_err-payload.result _ c.from_residual-in_err-payload.ensures.0 (somehow s _ _ l t floor (c.in_err-payload.ensures.under_way tells s l p w m t floor 2 1 (c.in_ok-fresh.fresh ∷ c.in_ok-descriptor.descriptor ∷ []) knows.new may (omega arith) (omega (arith, is.three)) is.payload_block is.payload descriptor.0 descriptor.1))

pub returns-in_err-commit-clause-leaves : goal.returns-in_err-commit-clause-leaves
returns-in_err-commit-clause-leaves g c = λ tells s l p w m t floor is may safe knows idle.
    let e = get_some w.says.fresh 0 (omega (arith, is.one)) in
    let fresh = c.in_ok-fresh.ensures.under_way tells s l p w m t floor 0 1 e.0 [] knows.new may e.1 (is.fresh_block e.0 e.1) is.fresh safe (nothing_issued _ _ l p w idle knows) in
    let descriptor = c.in_ok-descriptor.ensures.under_way tells s l p w m t floor 1 1 (c.in_ok-fresh.fresh ∷ []) knows.new may (omega arith) (omega (arith, is.three)) is.descriptor_block is.descriptor fresh.0 fresh.1 in
    let payload = c.in_ok-payload.ensures.under_way tells s l p w m t floor 2 1 (c.in_ok-fresh.fresh ∷ c.in_ok-descriptor.descriptor ∷ []) knows.new may (omega arith) (omega (arith, is.three)) is.payload_block is.payload descriptor.0 descriptor.1 in
    left s l p w m t floor c.from_residual-in_err-commit.result _ c.from_residual-in_err-commit.ensures.0 (refused s _ _ _ l w m t floor (c.in_err-commit.ensures.recorded tells s l p w m t floor (c.in_ok-fresh.fresh ∷ c.in_ok-descriptor.descriptor ∷ c.in_ok-payload.payload ∷ []) knows.new may is.commit_block is.commit payload.0 (all_but_commit _ _ l p w c.args.record.now _ is payload.1)))

pub returns-clause-leaves : goal.returns-clause-leaves
returns-clause-leaves g c = λ tells s l p w m t floor is may safe knows idle.
    let e = get_some w.says.fresh 0 (omega (arith, is.one)) in
    let fresh = c.in_ok-fresh.ensures.under_way tells s l p w m t floor 0 1 e.0 [] knows.new may e.1 (is.fresh_block e.0 e.1) is.fresh safe (nothing_issued _ _ l p w idle knows) in
    let descriptor = c.in_ok-descriptor.ensures.under_way tells s l p w m t floor 1 1 (c.in_ok-fresh.fresh ∷ []) knows.new may (omega arith) (omega (arith, is.three)) is.descriptor_block is.descriptor fresh.0 fresh.1 in
    let payload = c.in_ok-payload.ensures.under_way tells s l p w m t floor 2 1 (c.in_ok-fresh.fresh ∷ c.in_ok-descriptor.descriptor ∷ []) knows.new may (omega arith) (omega (arith, is.three)) is.payload_block is.payload descriptor.0 descriptor.1 in
    c.in_ok-commit.ensures.recorded tells s l p w m t floor (c.in_ok-fresh.fresh ∷ c.in_ok-descriptor.descriptor ∷ c.in_ok-payload.payload ∷ []) knows.new may is.commit_block is.commit payload.0 (all_but_commit _ _ l p w c.args.record.now _ is payload.1)

pub returns-in_err-fresh-clause-log : goal.returns-in_err-fresh-clause-log
returns-in_err-fresh-clause-log g c = λ tells.
    let o = c.args.record.now in
    in_order_failed (writes_of o) _ _ _ c.from_residual.ensures.0 (prefix_behind [] ((o.fresh_block, o.fresh) ∷ []) ((o.descriptor_block, o.descriptor) ∷ (o.payload_block, o.payload) ∷ (o.commit_block, o.commit) ∷ []) _ _ _ (amid_none _) (prefix_write _ _ c.in_err-fresh.field-0.0 _ _ (c.in_err-fresh.ensures.log tells)))

pub returns-in_err-descriptor-clause-log : goal.returns-in_err-descriptor-clause-log
returns-in_err-descriptor-clause-log g c = λ tells.
    let o = c.args.record.now in
    let one = amid_wrote o.fresh_block c.in_ok-fresh.fresh o.fresh _ _ (c.in_ok-fresh.ensures.log tells) in
    in_order_failed (writes_of o) _ _ _ c.from_residual-in_err-descriptor.ensures.0 (prefix_behind ((o.fresh_block, o.fresh) ∷ []) ((o.descriptor_block, o.descriptor) ∷ []) ((o.payload_block, o.payload) ∷ (o.commit_block, o.commit) ∷ []) _ _ _ one (prefix_write _ _ c.in_err-descriptor.field-0.0 _ _ (c.in_err-descriptor.ensures.log tells)))

pub returns-in_err-payload-clause-log : goal.returns-in_err-payload-clause-log
returns-in_err-payload-clause-log g c = λ tells.
    let o = c.args.record.now in
    let one = amid_wrote o.fresh_block c.in_ok-fresh.fresh o.fresh _ _ (c.in_ok-fresh.ensures.log tells) in
    let two = amid_then ((o.fresh_block, o.fresh) ∷ []) [] ((o.descriptor_block, o.descriptor) ∷ []) [] _ _ _ one (amid_wrote o.descriptor_block c.in_ok-descriptor.descriptor o.descriptor _ _ (c.in_ok-descriptor.ensures.log tells)) in
    in_order_failed (writes_of o) _ _ _ c.from_residual-in_err-payload.ensures.0 (prefix_behind ((o.fresh_block, o.fresh) ∷ (o.descriptor_block, o.descriptor) ∷ []) ((o.payload_block, o.payload) ∷ []) ((o.commit_block, o.commit) ∷ []) _ _ _ two (prefix_write _ _ c.in_err-payload.field-0.0 _ _ (c.in_err-payload.ensures.log tells)))

pub returns-in_err-commit-clause-log : goal.returns-in_err-commit-clause-log
returns-in_err-commit-clause-log g c = λ tells.
    let o = c.args.record.now in
    let one = amid_wrote o.fresh_block c.in_ok-fresh.fresh o.fresh _ _ (c.in_ok-fresh.ensures.log tells) in
    let two = amid_then ((o.fresh_block, o.fresh) ∷ []) [] ((o.descriptor_block, o.descriptor) ∷ []) [] _ _ _ one (amid_wrote o.descriptor_block c.in_ok-descriptor.descriptor o.descriptor _ _ (c.in_ok-descriptor.ensures.log tells)) in
    let three = amid_then ((o.fresh_block, o.fresh) ∷ (o.descriptor_block, o.descriptor) ∷ []) [] ((o.payload_block, o.payload) ∷ []) [] _ _ _ two (amid_wrote o.payload_block c.in_ok-payload.payload o.payload _ _ (c.in_ok-payload.ensures.log tells)) in
    in_order_failed (writes_of o) _ _ _ c.from_residual-in_err-commit.ensures.0 (prefix_behind ((o.fresh_block, o.fresh) ∷ (o.descriptor_block, o.descriptor) ∷ (o.payload_block, o.payload) ∷ []) ((o.commit_block, o.commit) ∷ []) [] _ _ _ three (prefix_write _ _ c.in_err-commit.field-0.0 _ _ (c.in_err-commit.ensures.log tells)))
