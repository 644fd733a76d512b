-- The end of a transaction in memory.
use Rattle.std.proofs.Common.{◌≡◌, ℕ, ◌+◌, ◌-◌, ◌/◌, ◌%◌, ◌<◌, ◌≤◌, ◌==◌, Bool, false, not, List, length, replicate, slice_index, refl, ap, ap₂, ◌∙◌, arith, inl, inr}
use Rattle.std.proofs.lemmas.Bool.{cases_lt}
use Rattle.std.proofs.lemmas.List.{get_or-replicate, get_or_past, length-replicate}
use Rattle.std.specs.Int.{bit_at}
use mathlib.Core.Path.{fun_ext}
use Rattle.base_types.specs.Seal.{Blocks, blocks_of}
use Rattle.layout_geometry.specs.Geometry.{Geometry, bitmap_start, bitmap_blocks, data_start}
use Rattle.layout_bytes.specs.Bitmap.{bit_in, is_set}
use Rattle.layout_bitmap.specs.Bits.{free_blocks}
use Rattle.engine_blocks.specs.declared.role.Role.{Role}
use Rattle.engine_blocks.specs.declared.role.Role.TheVariants.{Untouched}
use Rattle.engine_blocks.specs.Running.{is_taken, count_roles, nothing_running}
use Rattle.engine_blocks.specs.State.{Bookkeeping}
use Rattle.engine_blocks.specs.Plain.{role_in, bits_of}
use Rattle.engine_blocks.specs.Ranges.{same_from}
use Rattle.engine_blocks.proofs.Ranges.{none_from}

-- Roles.

untouched_at : (n c : ℕ) → role_in (replicate n Untouched) c ≡ Untouched
untouched_at n c = elim (cases_lt c n) [
  | inl low ↦ get_or-replicate n c Untouched Untouched low
  | inr high ↦ get_or_past (replicate n Untouched) c Untouched (omega (arith, high, length-replicate n Untouched))
]

pub untouched : (roles : List Role) (n : ℕ) → roles ≡ replicate n Untouched → role_in roles ≡ (λ c. Untouched)
untouched roles n e = fun_ext (λ c. ap (λ rs. role_in rs c) e ∙ untouched_at n c)

pub none_of : (g : Geometry) (test : Role → Bool) (roles : ℕ → Role) → roles ≡ (λ c. Untouched) → test Untouched ≡ false → count_roles g test roles ≡ 0
none_of g test roles e out = ap (count_roles g test) e ∙ ap length (none_from (λ c. test Untouched) 0 g.n (λ b low high. out))

pub none_taken : (g : Geometry) (roles : ℕ → Role) → roles ≡ (λ c. Untouched) → count_roles g is_taken roles ≤ 0
none_taken g roles e = omega (arith, none_of g is_taken roles e refl)

-- Bits.

pub copied_bit : (g : Geometry) (m : Blocks) (into : List (List ℕ)) → ((k : ℕ) → k < bitmap_blocks g → blocks_of into k ≡ m (bitmap_start g + k)) → (b : ℕ) → b < g.n → bit_in (blocks_of into) b ≡ is_set g m b
copied_bit g m into copied b low = ap (λ x. bit_at (slice_index x (b % 8192 / 8)) (b % 8) == 1) (copied (b / 8192) (omega (arith, low)))

pub copied_free : (g : Geometry) (m : Blocks) (into : List (List ℕ)) → ((k : ℕ) → k < bitmap_blocks g → blocks_of into k ≡ m (bitmap_start g + k)) → length (free_blocks g (blocks_of into)) ≡ length (free_blocks g (bits_of g m))
copied_free g m into copied = ap length (same_from (λ b. not (bit_in (blocks_of into) b)) (λ b. not (is_set g m b)) (data_start g) (g.n - data_start g)
    (λ b from below. ap not (copied_bit g m into copied b (omega (arith, from, below)))))

-- The bookkeeping.

pub end_books : (k : Bookkeeping) (roles : ℕ → Role) (marked reusable : ℕ → Bool) (point : ℕ) → roles ≡ (λ b. Untouched) → marked ≡ k.marked → point ≡ k.point + 1
    → record k { running = record { roles = roles; weight = 0; held = 0; took = 0 }; marked = marked; reusable = reusable; point = point } ≡ record k { running = nothing_running; reusable = reusable; point = k.point + 1 }
end_books k roles marked reusable point r m q =
    ap₂ (λ x y. record k { running = record { roles = x; weight = 0; held = 0; took = 0 }; marked = y; reusable = reusable; point = point }) r m
    ∙ ap (λ z. record k { running = nothing_running; reusable = reusable; point = z }) q
