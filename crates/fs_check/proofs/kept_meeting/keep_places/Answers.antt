use Rattle.std.proofs.Common.{◌∙◌, sym, subst, arith}
use Rattle.std.proofs.lemmas.Result.{err_from_is_err_and}
use Rattle.base_types.specs.Seal.{blocks_of}
use Rattle.fs_check.specs.declared.kept_meeting.Tally.{Tally}
use Rattle.fs_check.specs.BrokenSnapshots.{places_of}
use Rattle.fs_check.specs.KeptMeeting.{CountsMet, HasMetKept}
use Rattle.fs_check.proofs.keeping.Counts.{counts_more, room_more}
use Rattle.fs_check.proofs.keeping.Meets.{IsKeptFile, keep_more, unkeepable}
use Rattle.fs_check.proofs.sound.Nodes.{data_at}
use Rattle.fs_check.proofs.kept_meeting.keep_places.Goals as goal

pub keep_block-requires-clause-below : goal.keep_block-requires-clause-below
keep_block-requires-clause-below c =
    let is = data_at c.args.geom.now c.args.places.now c.loop-i.i c.place.result c.requires.data c.place.ensures.value in is.below

pub returns-in_err-keep_block-clause-counts : goal.returns-in_err-keep_block-clause-counts
returns-in_err-keep_block-clause-counts c = λ before begun.
    subst (λ (t : Tally). CountsMet (blocks_of t.met.items) before t.counts) (sym c.in_err-keep_block.ensures.same) (c.loop-i.invariant.counts before begun)

pub loop-i-preserved : goal.loop-i-preserved
loop-i-preserved c =
    let is = data_at c.args.geom.now c.args.places.now c.loop-i.i c.place.result c.requires.data c.place.ensures.value in
    let so_far = c.loop-i.invariant in
    let step = c.in_ok-keep_block.ensures in
    record {
      size = step.size ∙ so_far.size;
      dirs = step.dirs ∙ so_far.dirs;
      room = room_more c.args.geom.now (blocks_of c.loop-i.tally.met.items) (blocks_of c.keep_block.new.tally.met.items) c.place.result c.loop-i.tally.counts c.keep_block.new.tally.counts so_far.room step.met step.counted;
      counts = λ before begun. counts_more (blocks_of c.loop-i.tally.met.items) (blocks_of c.keep_block.new.tally.met.items) c.place.result before c.loop-i.tally.counts c.keep_block.new.tally.counts step.unmet step.met step.counted (so_far.counts before begun);
      met = λ m own k maps node begun. keep_more c.args.geom.now m c.args.maps.now.marked.items c.args.maps.now.firm.items own c.args.places.now (blocks_of c.loop-i.tally.met.items) (blocks_of c.keep_block.new.tally.met.items) k c.loop-i.i c.place.result
          maps node (so_far.met m own k maps node begun) c.place.ensures.value is.below (omega (arith, is.below)) step.marked step.apart step.unmet step.met;
    }

pub returns-clause-met : goal.returns-clause-met
returns-clause-met c = λ m own number node maps is_node kind places begun.
    let file : IsKeptFile c.args.geom.now m own number c.args.places.now = record { node = node; is_node = is_node; kind = kind; places = places } in
    subst (λ i. HasMetKept c.args.geom.now m own number i (blocks_of c.loop-i.tally.met.items)) (omega (arith, c.loop-i-test.false, c.loop-i.auto.i-end, c.count-i-end.ensures.value))
    (c.loop-i.invariant.met m own number maps file begun)

pub returns-in_err-keep_block-clause-damage : goal.returns-in_err-keep_block-clause-damage
returns-in_err-keep_block-clause-damage c = λ m snapshot number node maps is_node kind places begun.
    let is = data_at c.args.geom.now c.args.places.now c.loop-i.i c.place.result c.requires.data c.place.ensures.value in
    let file : IsKeptFile c.args.geom.now m (places_of snapshot.node) number c.args.places.now = record { node = node; is_node = is_node; kind = kind; places = places } in
    let p = err_from_is_err_and c.from_residual.result c.from_residual.ensures.1 in
    rw (p.1, p.2) (unkeepable c.args.geom.now m c.args.maps.now.marked.items c.args.maps.now.firm.items c.args.places.now (blocks_of c.loop-i.tally.met.items) c.args.snapshot number c.loop-i.i c.place.result snapshot c.in_err-keep_block.field-0.0
    maps file (c.loop-i.invariant.met m (places_of snapshot.node) number maps file begun) c.place.ensures.value is.below (omega (arith, is.below)) c.in_err-keep_block.ensures.damage)
