use Rattle.std.proofs.Common.{refl, ap, arith}
use Rattle.layout_geometry.specs.Geometry.{Geometry, data_start}
use Rattle.engine_store.specs.Store.{beside_books}
use Rattle.engine_store.proofs.store.StoreBlocks.figures.Goals as goal

pub returns : goal.returns
returns g c = record {
  area = omega (arith, c.n.ensures, c.data_start.ensures, ap (λ (x : Geometry). x.n) c.geom-geom.ensures, ap (λ (x : Geometry). data_start x) c.geom-geom.ensures);
  live = c.live.ensures (beside_books c.args.self.now.parts);
  held = c.held.ensures;
  waiting = c.waiting.ensures;
  weight = c.weight.ensures;
  room = omega (arith, c.j.ensures, ap (λ (x : Geometry). x.j) c.geom-geom.ensures);
  point = refl;
  floor = refl;
  free_places = c.free.ensures;
  stopped = refl;
  spent = c.is_spent.ensures;
}
