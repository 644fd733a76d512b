-- The lowest numbers that may be taken may be taken together.
use Rattle.std.proofs.Common.{◌≡◌, ℕ, ◌-◌, ◌<◌, ◌≤◌, Bool, true, List, length, take, filter, get_or, All, AllPairs, sym, subst, arith}
use Rattle.std.proofs.lemmas.List.{get_or-take, length-take}
use Rattle.std.proofs.lemmas.List.Elements.{All-filter, filter_passes}
use Rattle.std.proofs.lemmas.List.FromFn.{length-range_with_len, get_or-range_with_len}
use Rattle.std.proofs.lemmas.List.Kept.{AllPairs-filter}
use Rattle.layout_geometry.specs.Geometry.{Geometry, data_start}
use Rattle.engine_blocks.specs.State.{Bookkeeping, IsReusable, MayBeTaken, data_blocks, reusable_blocks}

within : (g : Geometry) (reusable : ℕ → Bool) → All (λ b. (data_start g ≤ b) × (b < g.n)) (filter reusable (data_blocks g))
within g reusable = All-filter reusable (λ b. (data_start g ≤ b) × (b < g.n)) (data_blocks g) (λ k d low.
    let len = length-range_with_len (data_start g) (g.n - data_start g) in
    let e = get_or-range_with_len (data_start g) (g.n - data_start g) k d (omega (arith, low, len)) in
    (omega (arith, e), omega (arith, e, low, len)))

ascend : (g : Geometry) (reusable : ℕ → Bool) → AllPairs (λ x y. x < y) (filter reusable (data_blocks g))
ascend g reusable = AllPairs-filter (λ x y. x < y) reusable (data_blocks g) (λ i j d before low.
    let len = length-range_with_len (data_start g) (g.n - data_start g) in
    let x = get_or-range_with_len (data_start g) (g.n - data_start g) i d (omega (arith, before, low, len)) in
    let y = get_or-range_with_len (data_start g) (g.n - data_start g) j d (omega (arith, low, len)) in
    omega (arith, x, y, before))

front_of : (g : Geometry) (reusable : ℕ → Bool) (n : ℕ) (xs : List ℕ) → All (λ b. (data_start g ≤ b) × (b < g.n)) xs → All (λ b. reusable b ≡ true) xs → AllPairs (λ x y. x < y) xs → MayBeTaken g reusable (take n xs)
front_of g reusable n xs lies passes ascends = record {
  each = λ i d low.
      let short : i < length xs = omega (arith, low, length-take n xs) in
      let one : IsReusable g reusable (get_or xs i d) = record { from = (lies i d short).0; below = (lies i d short).1; free = passes i d short } in
      subst (IsReusable g reusable) (sym (get_or-take n xs i d (omega (arith, low, length-take n xs)))) one;
  distinct = λ i j d before low same.
      omega (arith, same, ascends i j d before (omega (arith, low, length-take n xs)), get_or-take n xs i d (omega (arith, before, low, length-take n xs)), get_or-take n xs j d (omega (arith, low, length-take n xs)));
}

pub front : (g : Geometry) (reusable : ℕ → Bool) (n : ℕ) → MayBeTaken g reusable (take n (filter reusable (data_blocks g)))
front g reusable n = front_of g reusable n (filter reusable (data_blocks g)) (within g reusable) (filter_passes reusable (data_blocks g)) (ascend g reusable)

pub reusable_front : (k : Bookkeeping) (n : ℕ) → MayBeTaken k.geom k.reusable (take n (reusable_blocks k))
reusable_front k n = front k.geom k.reusable n
