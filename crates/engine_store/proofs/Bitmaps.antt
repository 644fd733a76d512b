-- The bitmap that a run leaves, read block by block, and whose map it is.
use Rattle.std.proofs.Common.{◌≡◌, ◌⊎◌, ⊎_elim, ℕ, ◌+◌, ◌*◌, ◌/◌, ◌%◌, ◌&&◌, ◌||◌, not, nat_le, nat_lt, ◌==◌, slice_index, Result, Ok, Err, IfErr, ◌<◌, ◌≤◌, Bool, true, false, IsTrue, Some, List, [], length, if◌then◌else◌, sym, ◌∙◌, ap, ap₂, subst, arith}
use Rattle.std.proofs.lemmas.Bool.{cases_lt, le-ltb}
use Rattle.std.specs.Int.{bit_at}
use Rattle.base_types.specs.Seal.{Blocks, blocks_of}
use Rattle.disk_contract.specs.Cell.{cell_of}
use Rattle.disk_contract.specs.Disk.{State}
use Rattle.layout_geometry.specs.Geometry.{Geometry, IsGeometry, geometry_fits, bitmap_blocks, bitmap_start, data_start}
use Rattle.layout_bitmap.specs.Bits.{bit_in, is_bad_bit}
use Rattle.layout_journal.specs.declared.header.Header.{Header}
use Rattle.layout_journal.specs.Layout.{header_of, IsWithinDisk}
use Rattle.layout_journal.specs.Run.{Newest, Record, IsRun, live_part, replayed}
use Rattle.engine_recover.specs.Reading.{Searches}
use Rattle.engine_recover.specs.Search.{FoundRun, IsFound}
use Rattle.crash_argument.specs.Ledger.{HoldsUnder}
use Rattle.engine_mount.specs.Mount.{FoundDisk, IsIdle, settled_on}
use Rattle.engine_books.specs.Books.{TransactionBooks}
use Rattle.engine_books.specs.Point.{HasBitmap}
use Rattle.engine_store.specs.Refusal.{HasNumbersLeft, IsReplayedBitmap, IsLeastBad, NamesBadBit, RefusalSays, replayed_bitmap}
use Rattle.engine_store.specs.declared.refusal.StoreRefusal.{StoreRefusal}
use Rattle.engine_store.specs.declared.refusal.StoreRefusal.TheVariants.{NoHeader, BadBit, Spent, ReadFault, DiskFault, NoMemory}
use Rattle.engine_store.proofs.OnePoint.{low_live}

-- What is read.

-- a disk is as idle as it was
pub idle_still : (tells : Bool) (old now : State) → IsTrue tells → Searches tells false old now → IsIdle old → IsIdle now
idle_still tells old now t s idle b = ap₂ (λ base log. (cell_of base log b).pending) s.only.same.base (s.log t) ∙ idle b

-- and the same is settled on it
pub settled_still : (tells : Bool) (old now : State) → IsTrue tells → Searches tells false old now → settled_on now ≡ settled_on old
settled_still tells old now t s = ap₂ (λ base log. λ (b : ℕ). (cell_of base log b).settled) s.only.same.base (s.log t)

-- each block that was read so far is as it will be
abbrev pub AreRead : FoundRun → Blocks → List (List ℕ) → Type 0
AreRead r at xs = (j : ℕ) → j < length xs → blocks_of xs j ≡ replayed_bitmap r at j

-- Whose map it is.

-- What layout_journal says of the newest header, of runs and of headers.
abbrev pub OneNewest : Type 0
OneNewest = (n : ℕ) (img : Blocks) (s t : ℕ) (h k : Header) → Newest n img s h → Newest n img t k → (s ≡ t) × (h ≡ k)

abbrev pub OneRun : Type 0
OneRun = (img : Blocks) (h : Header) (rs qs : List Record) → IsRun img h rs → IsRun img h qs → rs ≡ qs

-- the disk holds its map under the header that was found
pub found_under : OneNewest → (d : State) (g : Geometry) (m : Blocks) (r : FoundRun) → HoldsUnder d.blocks g (settled_on d) m → IsFound d.blocks (settled_on d) r → r.header.geom ≡ g
found_under one d g m r held found = ap (λ (h : Header). h.geom) (sym (one d.blocks (settled_on d) held.held.slot r.slot held.held.header r.header held.held.newest found.newest).1) ∙ held.geom

-- and the map is what the run leaves
found_map_is : OneNewest → OneRun → (d : State) (g : Geometry) (m : Blocks) (r : FoundRun) (b : ℕ) → HoldsUnder d.blocks g (settled_on d) m → IsFound d.blocks (settled_on d) r → m b ≡ live_part r.header.geom (replayed r.header.geom (settled_on d) r.records) b
found_map_is one runs d g m r b held found =
    let same : held.held.header ≡ r.header = (one d.blocks (settled_on d) held.held.slot r.slot held.held.header r.header held.held.newest found.newest).1 in
    let run : held.held.run ≡ r.records = runs (settled_on d) r.header held.held.run r.records (subst (λ (k : Header). IsRun (settled_on d) k held.held.run) same held.held.is_run) found.is_run in
    held.held.each b ∙ ap₂ (λ (h : Header) (rs : List Record). live_part h.geom (replayed h.geom (settled_on d) rs) b) same run

-- What layout_journal says of a header's numbers, and layout_geometry of a geometry's.
abbrev pub Bounds : Type 0
Bounds = (n : ℕ) (b : List ℕ) (h : Header) → header_of n b ≡ Some h → IsWithinDisk n h

abbrev pub Limits : Type 0
Limits = (g : Geometry) → geometry_fits g ≡ true → IsGeometry g

-- the map that the disk holds has the bitmap that was read
read_is_held : OneNewest → OneRun → Bounds → Limits → (d : State) (g : Geometry) (m : Blocks) (r : FoundRun) (bitmap : List (List ℕ)) → HoldsUnder d.blocks g (settled_on d) m → IsFound d.blocks (settled_on d) r → IsReplayedBitmap r (settled_on d) bitmap
    → (k : ℕ) → k < bitmap_blocks r.header.geom → m (bitmap_start r.header.geom + k) ≡ blocks_of bitmap k
read_is_held one runs bounds limits d g m r bitmap held found read k low =
    let q : Geometry = r.header.geom in
    let left : Blocks = replayed q (settled_on d) r.records in
    let room = (limits q (bounds d.blocks (settled_on d r.slot) r.header found.newest.stands).geom).data_room in
    found_map_is one runs d g m r (bitmap_start q + k) held found
    ∙ ap (λ (t : Bool). if t then left (bitmap_start q + k) else []) (low_live q left (bitmap_start q + k) (omega (arith, room)) (omega arith) (omega (arith, low)))
    ∙ sym (read.each k low)

-- so books with this bitmap have the map's
pub books_have_it : OneNewest → OneRun → Bounds → Limits → (d : State) (g : Geometry) (m : Blocks) (r : FoundRun) (books : TransactionBooks) → HoldsUnder d.blocks g (settled_on d) m → IsFound d.blocks (settled_on d) r → IsReplayedBitmap r (settled_on d) books.bitmap → books.geom ≡ g → HasBitmap books m
books_have_it one runs bounds limits d g m r books held found read geom =
    subst (λ (q : Geometry). (k : ℕ) → k < bitmap_blocks q → m (bitmap_start q + k) ≡ blocks_of books.bitmap k) (found_under one d g m r held found ∙ sym geom)
    (read_is_held one runs bounds limits d g m r books.bitmap held found read)

-- A refusal for a wrong bit.

-- a test on the bits of one block or the other, where the bit isn't looked at
unlooked : (low high : Bool) (p q : Bool) → ((false && not p) || (high && (false && p))) ≡ ((false && not q) || (high && (false && q)))
unlooked low high p q = grind arith

-- which bits are wrong is said by the bitmap's blocks alone
same_bad : (g : Geometry) (m q : Blocks) (b : ℕ) → data_start g ≤ g.n → ((k : ℕ) → k < bitmap_blocks g → m k ≡ q k) → is_bad_bit g m b ≡ is_bad_bit g q b
same_bad g m q b room same = ⊎_elim
    (λ low. ap (λ (x : List ℕ). (nat_lt b (data_start g) && not (bit_at (slice_index x (b % 8192 / 8)) (b % 8) == 1)) || (nat_le g.n b && (nat_lt b (8192 * bitmap_blocks g) && (bit_at (slice_index x (b % 8192 / 8)) (b % 8) == 1)))) (same (b / 8192) (omega (arith, low))))
    (λ high.
    ap₂ (λ (t u : Bool). (t && not (bit_in m b)) || (nat_le g.n b && (u && bit_in m b))) (le-ltb b (data_start g) (omega (arith, room, high, past g.n b high))) (le-ltb b (8192 * bitmap_blocks g) high)
    ∙ unlooked false (nat_le g.n b) (bit_in m b) (bit_in q b)
    ∙ sym (ap₂ (λ (t u : Bool). (t && not (bit_in q b)) || (nat_le g.n b && (u && bit_in q b))) (le-ltb b (data_start g) (omega (arith, room, high, past g.n b high))) (le-ltb b (8192 * bitmap_blocks g) high)))
    (cases_lt b (8192 * bitmap_blocks g))
  where
    past : (n b : ℕ) → 8192 * ((n + 8191) / 8192) ≤ b → n ≤ b
    past n b high = omega (arith, high)

-- the least wrong bit of the bitmap that was read is that of the one that the run leaves
least_there : (g : Geometry) (m q : Blocks) (b : ℕ) → data_start g ≤ g.n → ((k : ℕ) → k < bitmap_blocks g → m k ≡ q k) → IsLeastBad g m b → IsLeastBad g q b
least_there g m q b room same is = record { bad = sym (same_bad g m q b room same) ∙ is.bad; least = λ c low. sym (same_bad g m q c room same) ∙ is.least c low }

-- a bitmap that was read without a wrong bit is one that the run leaves so
pub none_bad : (g : Geometry) (r : FoundRun) (at : Blocks) (bitmap : List (List ℕ)) → IsGeometry g → g ≡ r.header.geom → IsReplayedBitmap r at bitmap → ((b : ℕ) → is_bad_bit g (blocks_of bitmap) b ≡ false)
    → (b : ℕ) → is_bad_bit r.header.geom (replayed_bitmap r at) b ≡ false
none_bad g r at bitmap limits geom read none b =
    let room : data_start r.header.geom ≤ r.header.geom.n = subst (λ (q : Geometry). data_start q ≤ q.n) geom (omega (arith, limits.data_room)) in
    sym (same_bad r.header.geom (blocks_of bitmap) (replayed_bitmap r at) b room read.each) ∙ subst (λ (q : Geometry). is_bad_bit q (blocks_of bitmap) b ≡ false) geom (none b)

-- so its refusal says what is on the disk
pub bad_says : (old new : State) (g : Geometry) (f : FoundDisk) (bitmap : List (List ℕ)) → IsGeometry g → g ≡ f.run.header.geom → HasNumbersLeft old f → IsReplayedBitmap f.run (settled_on old) bitmap → new.log ≡ old.log
    → (why : StoreRefusal) → NamesBadBit g (blocks_of bitmap) why → RefusalSays old new why
bad_says old new g f bitmap limits geom left read log NoHeader is = absurd is
bad_says old new g f bitmap limits geom left read log (BadBit b) is =
    let room : data_start f.run.header.geom ≤ f.run.header.geom.n = subst (λ (q : Geometry). data_start q ≤ q.n) geom (omega (arith, limits.data_room)) in
    (record { found = f; left = left; bad = least_there f.run.header.geom (blocks_of bitmap) (replayed_bitmap f.run (settled_on old)) b room read.each (subst (λ (q : Geometry). IsLeastBad q (blocks_of bitmap) b) geom is) }, log)
bad_says old new g f bitmap limits geom left read log Spent is = absurd is
bad_says old new g f bitmap limits geom left read log ReadFault is = absurd is
bad_says old new g f bitmap limits geom left read log DiskFault is = absurd is
bad_says old new g f bitmap limits geom left read log NoMemory is = absurd is

-- one statement on a refusal for another
pub if_err : {T E : Type 0} (r : Result T E) (P Q : E → Type 0) → ((e : E) → P e → Q e) → IfErr r P → IfErr r Q
if_err (Ok x) P Q f p = p
if_err (Err e) P Q f p = f e p
