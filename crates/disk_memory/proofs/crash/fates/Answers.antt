use Rattle.std.proofs.Common.{subst, refl, sym, take, []}
use Rattle.disk_memory.specs.Choice.{Refuses}
use Rattle.disk_memory.specs.Settled.{AreFates}
use Rattle.disk_memory.proofs.crash_images.FateEach.{fates_count, refused, handed_on, one_more, all_named, all_pending}
use Rattle.disk_memory.proofs.crash.fates.Goals as goal

pub loop-named-init : goal.loop-named-init
loop-named-init c = (subst (λ all. AreFates (take c.args.moment c.args.log.now.events) all [] c.in_ok-fates.fates.items) c.stands_all.ensures c.in_ok-fates.ensures, refl)

pub loop-named-preserved : goal.loop-named-preserved
loop-named-preserved c = one_more c.args.log.now.events c.args.moment c.args.choice.now.all c.named-named-items.result.now c.loop-named.named-index _ c.loop-named.fates.items c.as_mut_slice.result.now c.name_fate.new.fates _ c.in_ok-name_fate.field-0
    c.requires.there c.loop-named-test.true (sym c.as_mut_slice.ensures.len) c.as_mut_slice.ensures.value c.loop-named.invariant.0 c.loop-named.invariant.1 c.in_ok-name_fate.ensures.answer c.in_ok-name_fate.ensures.fates

pub returns-clause-fates : goal.returns-clause-fates
returns-clause-fates c = all_named (take c.args.moment c.args.log.now.events) c.args.choice.now.all c.named-named-items.result.now c.args.choice.now.named c.loop-named.named-index c.loop-named.fates.items c.loop-named-test.false c.named-named-items.ensures c.loop-named.invariant.0

pub returns-clause-pending : goal.returns-clause-pending
returns-clause-pending c = all_pending (take c.args.moment c.args.log.now.events) c.named-named-items.result.now c.args.choice.now.named c.loop-named.named-index c.loop-named-test.false c.named-named-items.ensures c.loop-named.invariant.1

pub returns-in_err-name_fate-clause-bad : goal.returns-in_err-name_fate-clause-bad
returns-in_err-name_fate-clause-bad c =
    let its : Refuses c.args.choice.now c.args.moment c.args.log.now.events c.in_err-name_fate.field-0.0 =
    refused c.args.choice.now c.args.moment _ c.args.log.now.events c.named-named-items.result.now c.loop-named.named-index _ _ c.requires.there c.loop-named-test.true
    (fates_count c.args.log.now.events c.args.moment c.args.choice.now.all _ c.loop-named.fates.items c.as_mut_slice.result.now c.requires.there c.as_mut_slice.ensures.value c.loop-named.invariant.0) c.named-named-items.ensures c.loop-named.invariant.1 c.in_err-name_fate.ensures.answer in
    handed_on c.from_residual-in_err-name_fate.result (Refuses c.args.choice.now c.args.moment c.args.log.now.events) c.in_err-name_fate.field-0.0 c.from_residual-in_err-name_fate.ensures.1 its
