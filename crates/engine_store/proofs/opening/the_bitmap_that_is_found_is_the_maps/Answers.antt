use Rattle.engine_store.proofs.Bitmaps.{books_have_it, found_under}
use Rattle.engine_store.proofs.opening.the_bitmap_that_is_found_is_the_maps.Goals as goal

pub returns : goal.returns
returns c = record {
  has = books_have_it c.an_image_holds_one_map.ensures.newest c.an_image_holds_one_map.ensures.runs c.journal_blocks_keep_to_their_bounds.ensures.headers (λ k fits. (c.geometries_are_within_limits.ensures k).0 fits);
  geom = found_under c.an_image_holds_one_map.ensures.newest;
}
