use Rattle.std.proofs.Common.{◌≢◌, ℕ, ◌+◌, ◌-◌, ◌*◌, ◌≤◌, List, length, All, AllPairs, subst, arith}
use Rattle.layout_geometry.specs.Geometry.{Geometry, IsGeometry, data_start}
use Rattle.engine_blocks.specs.Puts.{IsData}
use Rattle.fs_files.proofs.finishing.Few.{few_below}
use Rattle.fs_files.proofs.given.different_blocks_are_few.Goals as goal

-- there are fewer than 2^20 data blocks, so no more different ones
few_data : (g : Geometry) (places : List ℕ) → IsGeometry g → All (IsData g) places → AllPairs (λ a b. a ≢ b) places → 1024 * length places + 1024 ≤ 1073741824
few_data g places limits inside once =
    let few = few_below (λ b. b - data_start g) places (g.n - data_start g)
    (λ i j d low high e. once i j d low high (omega (arith, e, low, high, (inside i d (omega (arith, low, high))).from, (inside j d high).from)))
    (λ i d low. omega (arith, (inside i d low).from, (inside i d low).below)) in
    omega (arith, few, limits.most_blocks, limits.least_journal, limits.data_room)

pub returns : goal.returns
returns g c = λ places inside once. few_data (g.S.Blocks.state c.args.blocks.now).books.geom places (subst IsGeometry c.geom.ensures c.lawful.ensures.limits) inside once
