use Rattle.std.proofs.Common.{◌++◌, ap, ◌∙◌, arith, take_all}
use Rattle.fs_dirs.proofs.reading.Listings.{one_more}
use Rattle.fs_dirs.proofs.listing.push_block.Goals as goal

pub loop-place-preserved : goal.loop-place-preserved
loop-place-preserved c = λ slots count reads.
    one_more c.args.into.now.items c.loop-place.into.items c.push_slot.new.into.items slots c.loop-place.place (omega (arith, count, c.loop-place-test.true)) (c.loop-place.invariant slots count reads)
    (λ s at. c.in_ok-push_slot.ensures slots s (omega (arith, count, c.loop-place-test.true)) reads at)

pub returns : goal.returns
returns c = λ slots count reads.
    c.loop-place.invariant slots count reads ∙ ap (λ l. c.args.into.now.items ++ l) (take_all c.loop-place.place slots (omega (arith, count, c.loop-place-test.false)))
