use Rattle.std.proofs.Common.{◌≡◌, ℕ, ◌+◌, max, List, sym, ◌∙◌, ap, ap₂, add-one, rules}
use Rattle.base_types.specs.Seal.{Blocks}
use Rattle.layout_geometry.specs.Geometry.{Geometry, ring_block}
use Rattle.engine_recover.specs.Epoch.{record_epoch}
use Rattle.engine_recover.proofs.Epochs.{greatest_of, is_greatest}
use Rattle.engine_recover.proofs.Readings.{read_on, still_gives}
use Rattle.engine_recover.proofs.epoch.epoch_of_all.Goals as goal

more : (g : Geometry) (img : Blocks) (k e r n : ℕ) (x : List ℕ) → e ≡ greatest_of g img k → x ≡ img (ring_block g k) → r ≡ record_epoch x → n ≡ max e r → n ≡ greatest_of g img (k + 1)
more g img k e r n x before is epoch now = now ∙ ap₂ max before (epoch ∙ ap record_epoch is) ∙ sym (ap (greatest_of g img) (add-one k))

pub loop-place-preserved : goal.loop-place-preserved
loop-place-preserved g c = record {
  only = read_on _ _ _ _ _ c.loop-place.invariant.only c.in_ok-read_ring.ensures.reads;
  value = λ img gives. more c.args.geom img c.loop-place.place c.loop-place.greatest c.record_epoch.result c.greater-greatest.result c.read_ring.new.into
      (c.loop-place.invariant.value img gives) (c.in_ok-read_ring.ensures.gives img (still_gives _ _ _ _ img c.loop-place.invariant.only gives)) c.record_epoch.ensures c.greater-greatest.ensures;
}

pub returns-clause-value : goal.returns-clause-value
returns-clause-value g c = λ img gives.
    let all : c.loop-place.place ≡ c.args.geom.j = search rules in
    is_greatest c.args.geom img _ (c.loop-place.invariant.value img gives ∙ ap (greatest_of c.args.geom img) all)
