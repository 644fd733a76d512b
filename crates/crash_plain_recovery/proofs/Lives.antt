-- Live blocks of maps that agree on the disk.
use Rattle.std.proofs.Common.{◌≡◌, ℕ, ◌+◌, ◌/◌, ◌%◌, ◌<◌, ◌≤◌, Bool, true, false, ◌&&◌, ◌||◌, ◌==◌, nat_le, nat_lt, List, [], if◌then◌else◌, slice_index, refl, ap, ap₂, arith}
use Rattle.std.proofs.lemmas.Bool.{ltb-true}
use Rattle.std.specs.Int.{bit_at}
use Rattle.base_types.specs.Seal.{Blocks}
use Rattle.base_types.specs.Layouts.{table_blocks}
use Rattle.layout_geometry.specs.Geometry.{Geometry, IsGeometry, bitmap_start, data_start}
use Rattle.layout_bytes.specs.Bitmap.{is_set}
use Rattle.layout_journal.specs.Run.{live_part}

-- a choice by tests that agree where the middle one holds
pick : (a c d s t : Bool) (x y : List ℕ) → (c ≡ true → (s ≡ t) × (x ≡ y)) → (if a && (c && (d || s)) then x else []) ≡ (if a && (c && (d || t)) then y else [])
pick false c d s t x y f = refl
pick true false d s t x y f = refl
pick true true d s t x y f = let e = f refl in ap₂ (λ q (z : List ℕ). if d || q then z else []) e.0 e.1

-- maps that agree below n have the same live blocks
pub same_live : (g : Geometry) (m q : Blocks) → IsGeometry g → ((b : ℕ) → b < g.n → m b ≡ q b) → (b : ℕ) → live_part g m b ≡ live_part g q b
same_live g m q limits same b = pick (nat_le (bitmap_start g) b) (nat_lt b g.n) (nat_lt b (data_start g)) (is_set g m b) (is_set g q b) (m b) (q b)
    (λ t. let lt : b < g.n = ltb-true b g.n t in
    (ap (λ (x : List ℕ). bit_at (slice_index x (b % 8192 / 8)) (b % 8) == 1) (same (bitmap_start g + b / 8192) (inside b g.n (bitmap_start g) (table_blocks g.layout g.i) lt limits.data_room)), same b lt))
  where
    inside : (b n s k : ℕ) → b < n → s + (n + 8191) / 8192 + k + 8 ≤ n → s + b / 8192 < n
    inside b n s k lt room = omega arith
