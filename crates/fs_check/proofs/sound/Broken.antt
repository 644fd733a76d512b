-- Where something is broken in blocks they aren't sound.
use Rattle.std.proofs.Common.{◌≡◌, ◌⊎◌, inl, inr, ℕ, ◌*◌, ◌<◌, ◌≤◌, true, false, not, ◌&&◌, nat_lt, nat_le, ◌∙◌, arith, ⊎_elim}
use Rattle.std.proofs.lemmas.Bool.{and_parts, both_ways, leb-true, ltb-true, not-true, or_cases}
use Rattle.base_types.specs.Seal.{Blocks}
use Rattle.layout_geometry.specs.Geometry.{Geometry, bitmap_blocks, data_start}
use Rattle.layout_bytes.specs.Bitmap.{bit_in, is_set}
use Rattle.layout_bitmap.specs.Bits.{is_bad_bit}
use Rattle.crash_stands.specs.Stands.{AreSound}
use Rattle.fs_check.specs.declared.block_damage.BlockDamage.{BlockDamage}
use Rattle.fs_check.specs.declared.block_damage.BlockDamage.TheVariants.{WrongBit, BadNode, Unmarked, Shared, Tail, Lost}
use Rattle.fs_check.specs.Broken.{IsBroken, Precedes, bitmap_of}
use Rattle.fs_check.proofs.sound.Nodes.{has_data}

-- which bits are bad
pub bad_cases : (g : Geometry) (m : Blocks) (b : ℕ) → is_bad_bit g m b ≡ true → ((b < data_start g) × (bit_in m b ≡ false)) ⊎ ((g.n ≤ b) × (b < 8192 * bitmap_blocks g) × (bit_in m b ≡ true))
bad_cases g m b e = ⊎_elim (λ fixed. let p = and_parts (nat_lt b (data_start g)) (not (bit_in m b)) fixed in inl (ltb-true b (data_start g) p.0, not-true (bit_in m b) p.1))
    (λ past. let p = and_parts (nat_le g.n b) (nat_lt b (8192 * bitmap_blocks g) && bit_in m b) past in
    let q = and_parts (nat_lt b (8192 * bitmap_blocks g)) (bit_in m b) p.1 in
    inr (leb-true g.n b p.0, ltb-true b (8192 * bitmap_blocks g) q.0, q.1))
    (or_cases (nat_lt b (data_start g) && not (bit_in m b)) (nat_le g.n b && (nat_lt b (8192 * bitmap_blocks g) && bit_in m b)) e)

pub not_before : (l j k i : ℕ) → (l ≡ k) × (j ≡ i) → Precedes l j k i → ⊥
not_before l j k i same (inl low) = omega (arith, same.0, low)
not_before l j k i same (inr low) = omega (arith, same.1, low.1)

pub broken_unsound : (g : Geometry) (m : Blocks) (damage : BlockDamage) → IsBroken g m damage → AreSound g m → ⊥
broken_unsound g m (WrongBit b) bad sound = ⊎_elim (λ low. both_ways (is_set g m b) low.1 (sound.fixed b low.0))
    (λ high. both_ways (is_set g m b) (sound.past b high.0 high.1) high.2)
    (bad_cases g (bitmap_of g m) b bad)
broken_unsound g m (BadNode k) bad sound = bad.carries (sound.free k bad.from bad.upto bad.unread)
broken_unsound g m (Unmarked k b) bad sound =
    let is = has_data g m k bad.place b bad.has in
    both_ways (is_set g m b) bad.clear ((sound.marked b is.from is.below).1 (inl (k, bad.place, bad.has)))
broken_unsound g m (Shared k b) bad sound =
    not_before bad.other bad.other_place k bad.place (sound.own bad.other k bad.other_place bad.place b bad.other_has bad.has) bad.before
broken_unsound g m (Tail k) bad sound = both_ways _ bad.carries (sound.tail k bad.node bad.is_node bad.is_dir)
broken_unsound g m (Lost b) bad sound =
    ⊎_elim (λ owner. bad.unowned owner.0 owner.1 owner.2) bad.unkept ((sound.marked b bad.from bad.below).0 bad.marked)
