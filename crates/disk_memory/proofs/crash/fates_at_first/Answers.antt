use Rattle.std.proofs.Common.{◌≡◌, ◌∙◌, ap, arith, length, take, is_ok, length-take}
use Rattle.std.proofs.lemmas.Bool.{cond-true}
use Rattle.std.proofs.lemmas.List.{length-map}
use Rattle.disk_memory.specs.Logged.{event_of}
use Rattle.disk_memory.proofs.crash_images.FateSaid.{first_step, first_end}
use Rattle.disk_memory.proofs.crash.fates_at_first.Goals as goal

pub loop-place-init : goal.loop-place-init
loop-place-init c = (c.in_ok-fates.ensures.items, c.in_ok-fates.ensures.capacity)

pub unwrap-requires : goal.unwrap-requires
unwrap-requires c =
    let long : length c.loop-place.fates.items ≡ length (take c.loop-place.place c.args.log.now.events) = ap length c.loop-place.invariant.0 ∙ length-map _ _ in
    c.push.ensures.succeeds (omega (arith, long, c.loop-place.fates.ok, c.loop-place.invariant.1, c.loop-place-test.true, length-take c.loop-place.place c.args.log.now.events))

pub loop-place-preserved : goal.loop-place-preserved
loop-place-preserved c = (
  first_step c.args.all c.args.log.now.events c.loop-place.place (event_of c.event.result) c.loop-place.fates.items _ c.fate_at_first-fate.result c.loop-place.invariant.0 c.event.ensures c.fate_at_first-fate.ensures
      (c.push.ensures.items ∙ cond-true _ _ _ (ap is_ok c.unwrap.ensures)),
  omega (arith, c.loop-place.invariant.1, c.push.ensures.capacity),
)

pub returns : goal.returns
returns c = first_end c.args.all c.args.log.now.events c.loop-place.place c.args.moment c.loop-place.fates.items c.loop-place.invariant.0 (omega arith)
