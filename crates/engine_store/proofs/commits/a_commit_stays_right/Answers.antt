use Rattle.engine_store.proofs.NextRecord.{stays_right, newest_is, next_more, bitmap_then, began_then, map_then}
use Rattle.engine_store.proofs.commits.a_commit_stays_right.Goals as goal

pub returns : goal.returns
returns c = record {
  right = λ s base then_base log then_log l w t floor number p then_p ring then_ring v d kept began geom right accepts leaves. stays_right c.the_map_has_the_bits.ensures.bits c.calls_change_what_is_dead.ensures.sealed s base then_base log then_log l w t floor number p then_p ring then_ring v d kept began geom right accepts leaves.0 leaves.1;
  newest = newest_is;
  next = next_more;
  bitmap = λ l w v d last began. bitmap_then c.the_map_has_the_bits.ensures.bitmap l w v last began;
  began = began_then c.the_map_has_the_bits.ensures.bitmap;
  map = map_then;
}
