-- What an image holds rests on the disk's own blocks alone: those below its number of blocks.
use Rattle.std.proofs.Common.{◌≡◌, ℕ, ◌+◌, ◌-◌, ◌/◌, ◌%◌, ◌<◌, ◌≤◌, ◌==◌, Bool, true, false, ◌&&◌, ◌||◌, nat_lt, nat_le, if◌then◌else◌, List, [], ◌∷◌, slice_index, Option, Some, None, refl, sym, ◌∙◌, ap, ap₂, subst, arith}
use Rattle.std.specs.Int.{bit_at}
use Rattle.std.proofs.lemmas.Bool.{ltb-true}
use Rattle.std.proofs.lemmas.Nat.{mod_below}
use Rattle.layout_journal.proofs.FitEntries.{fresh_in_disk}
use Rattle.base_types.specs.Seal.{Blocks, sha256}
use Rattle.layout_geometry.specs.Geometry.{Geometry, ring_block, bitmap_start, data_start}
use Rattle.layout_journal.specs.declared.header.Header.{Header}
use Rattle.layout_journal.specs.declared.entry.Entry.{Entry}
use Rattle.layout_journal.specs.Layout.{header_of, commit_of, descriptor_of, unescaped}
use Rattle.layout_journal.specs.Run.{Newest, Record, heads, names_block, Fits, IsWhole, AreWhole, IsRun, payload_from, payload_of, or_else, covered_by, otherwise, replayed, live_part, HeldIs}
use Rattle.layout_journal.proofs.Bounds.{header_bounds}
use Rattle.layout_journal.proofs.Geometries.{IsSized, sizes}

-- the same bytes in each of the first n blocks
abbrev AreAlike : ℕ → Blocks → Blocks → Type 0
AreAlike n img other = (b : ℕ) → b < n → img b ≡ other b

-- and the other way round
turned : (n : ℕ) (img other : Blocks) → AreAlike n img other → AreAlike n other img
turned n img other alike b low = sym (alike b low)

-- each ring place is a block of the disk
ring_below : (g : Geometry) (p : ℕ) → IsSized g → ring_block g p < g.n
ring_below g p size = omega (arith, mod_below p g.j (omega (arith, size.ring_from)), size.room)

-- so is each block of the bitmap
bits_below : (g : Geometry) (b : ℕ) → IsSized g → b < g.n → bitmap_start g + b / 8192 < g.n
bits_below g b size low = omega (arith, size.room)

-- a record that is whole in one image is whole in the other
whole_alike : (img other : Blocks) (h : Header) (r : Record) → IsSized h.geom → AreAlike h.geom.n img other → IsWhole img h r → IsWhole other h r
whole_alike img other h r size alike w = record {
  fit = w.fit;
  commit = ap (commit_of h.geom) (sym (ring r.place)) ∙ w.commit;
  descriptors = λ i lt. ap (descriptor_of h.geom) (sym (ring (r.place + 1 + i))) ∙ w.descriptors i lt;
  payloads = λ i e is. subst (Fits e) (ring (r.place + heads r + i)) (w.payloads i e is);
  fresh = λ past i e is. ap sha256 (sym (alike e.block (fresh_in_disk h.geom r i e w.fit is).1)) ∙ w.fresh past i e is;
}
  where
    ring : (p : ℕ) → img (ring_block h.geom p) ≡ other (ring_block h.geom p)
    ring p = alike (ring_block h.geom p) (ring_below h.geom p size)

-- and so are records
all_whole_alike : (img other : Blocks) (h : Header) (rs : List Record) → IsSized h.geom → AreAlike h.geom.n img other → AreWhole img h rs → AreWhole other h rs
all_whole_alike img other h [] size alike w = tt
all_whole_alike img other h (r ∷ rs) size alike w = (whole_alike img other h r size alike w.0, all_whole_alike img other h rs size alike w.1)

-- the run of one image is the run of the other: a record that follows in one follows in both
run_alike : (img other : Blocks) (h : Header) (rs : List Record) → IsSized h.geom → AreAlike h.geom.n img other → IsRun img h rs → IsRun other h rs
run_alike img other h rs size alike run = record {
  consecutive = run.consecutive;
  whole = all_whole_alike img other h rs size alike run.whole;
  let_in = run.let_in;
  within = run.within;
  longest = λ r f. run.longest r (record { next = f.next; whole = whole_alike other img h r size (turned h.geom.n img other alike) f.whole; let_in = f.let_in; within = f.within });
}

-- the newest header of one image is the newest of the other
newest_alike : (n : ℕ) (img other : Blocks) (s : ℕ) (h : Header) → 2 ≤ n → AreAlike n img other → Newest n img s h → Newest n other s h
newest_alike n img other s h some alike new = record {
  is_slot = new.is_slot;
  stands = ap (header_of n) (sym (alike s (omega (arith, new.is_slot)))) ∙ new.stands;
  other = λ k is. new.other k (ap (header_of n) (alike (1 - s) (omega arith)) ∙ is);
}

-- payloads in the ring have the same bytes
payload_alike : (g : Geometry) (img other : Blocks) (place : ℕ) (es : List Entry) (b : ℕ) → IsSized g → AreAlike g.n img other → payload_from g img place es b ≡ payload_from g other place es b
payload_alike g img other place [] b size alike = refl
payload_alike g img other place (e ∷ es) b size alike =
    ap₂ (λ (x : List ℕ) (y : Option (List ℕ)). if e.block == b then Some (unescaped e.kind x) else y)
    (alike (ring_block g place) (ring_below g place size)) (payload_alike g img other (place + 1) es b size alike)

-- so records leave the same in a block
covered_alike : (g : Geometry) (img other : Blocks) (before : Option (List ℕ)) (rs : List Record) (b : ℕ) → IsSized g → AreAlike g.n img other → covered_by g img before rs b ≡ covered_by g other before rs b
covered_alike g img other before [] b size alike = refl
covered_alike g img other before (r ∷ rs) b size alike =
    ap (λ (o : Option (List ℕ)). covered_by g img (or_else o (if names_block r.fresh b then None else before)) rs b) (payload_alike g img other (r.place + heads r) r.payloads b size alike)
    ∙ covered_alike g img other (or_else (payload_of g other r b) (if names_block r.fresh b then None else before)) rs b size alike

-- and the replayed blocks are alike
replayed_alike : (g : Geometry) (img other : Blocks) (rs : List Record) → IsSized g → AreAlike g.n img other → AreAlike g.n (replayed g img rs) (replayed g other rs)
replayed_alike g img other rs size alike b low = ap₂ otherwise (covered_alike g img other None rs b size alike) (alike b low)

-- blocks that are alike have the same live part, which looks at the disk's blocks alone
live_alike : (g : Geometry) (m k : Blocks) (b : ℕ) → IsSized g → AreAlike g.n m k → live_part g m b ≡ live_part g k b
live_alike g m k b size alike = by (nat_lt b g.n) refl
  where
    bits : List ℕ → Bool
    bits bytes = bit_at (slice_index bytes (b % 8192 / 8)) (b % 8) == 1

    dead : (x t y : Bool) (w : List ℕ) → t ≡ false → (if x && (t && y) then w else []) ≡ []
    dead true true y w e = cc
    dead true false y w e = refl
    dead false t y w e = refl

    by : (t : Bool) → nat_lt b g.n ≡ t → live_part g m b ≡ live_part g k b
    by true e =
        let low = ltb-true b g.n e in
        ap₂ (λ (x bytes : List ℕ). if nat_le (bitmap_start g) b && (nat_lt b g.n && (nat_lt b (data_start g) || bits bytes)) then x else [])
        (alike b low) (alike (bitmap_start g + b / 8192) (bits_below g b size low))
    by false e = dead (nat_le (bitmap_start g) b) (nat_lt b g.n) _ (m b) e ∙ sym (dead (nat_le (bitmap_start g) b) (nat_lt b g.n) _ (k b) e)

-- images that are alike on the disk hold the same
pub held_alike : (n : ℕ) (img other m : Blocks) → ((b : ℕ) → b < n → img b ≡ other b) → HeldIs n img m → HeldIs n other m
held_alike n img other m alike held =
    let of_disk = header_bounds n (img held.slot) held.header held.newest.stands in
    let size = sizes held.header.geom of_disk.geom in
    let on_disk : AreAlike held.header.geom.n img other = subst (λ (k : ℕ). AreAlike k img other) (sym of_disk.blocks) alike in
    record {
      slot = held.slot;
      header = held.header;
      run = held.run;
      newest = newest_alike n img other held.slot held.header (omega (arith, of_disk.blocks, size.room)) alike held.newest;
      is_run = run_alike img other held.header held.run size on_disk held.is_run;
      each = λ b. held.each b ∙ live_alike held.header.geom (replayed held.header.geom img held.run) (replayed held.header.geom other held.run) b size (replayed_alike held.header.geom img other held.run size on_disk);
    }
