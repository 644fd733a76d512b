use Rattle.std.proofs.Common.{[], sym, subst, take, arith}
use Rattle.disk_memory.specs.Settled.{AreSettledPlaces}
use Rattle.disk_memory.proofs.settled_places.SettledMoments.{places_start, places_passed}
use Rattle.disk_memory.proofs.settled.settled_places.Goals as goal

pub loop-place-init : goal.loop-place-init
loop-place-init c = subst (AreSettledPlaces c.args.blocks []) (sym (c.in_ok-places.ensures.items_if_clones_equal (λ y same. same))) (places_start c.args.blocks)

pub loop-place-preserved : goal.loop-place-preserved
loop-place-preserved c =
    places_passed c.args.log.now.events c.loop-place.place c.args.blocks c.loop-place.places.len c.loop-place.places.items c.as_mut_slice.result.now c.pass.new.places
    c.as_mut_slice.ensures.value c.loop-place.places.ok.0 c.pass.auto.places c.pass.ensures c.loop-place.invariant

pub returns : goal.returns
returns c = subst (λ m. AreSettledPlaces c.args.blocks (take m c.args.log.now.events) c.loop-place.places.items) (omega arith) c.loop-place.invariant
