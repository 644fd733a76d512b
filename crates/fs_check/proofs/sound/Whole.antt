-- The check as a whole: what is left once the bits that no data block has and all nodes were found sound.
use Rattle.std.proofs.Common.{◌≡◌, ◌≢◌, ◌⊎◌, inl, inr, ℕ, ◌+◌, ◌*◌, ◌/◌, ◌%◌, ◌<◌, ◌≤◌, Bool, true, false, not, ◌&&◌, ◌||◌, ◌==◌, IsTrue, nat_le, nat_lt, List, [], ◌++◌, length, take, drop, replicate, get_or, Some, ⊎_elim, refl, sym, ap, subst, ◌∙◌, arith}
use Rattle.std.specs.Int.{bit_at}
use Rattle.std.proofs.lemmas.Bool.{cases_Bool, and_parts, or_parts, cases_lt, le-leb, lt-ltb, ltb-true, leb-true, false≢true, or_cases}
use Rattle.std.proofs.lemmas.List.{get_or-replicate, get_or_past, length-replicate}
use Rattle.std.proofs.Math.Seq.{take-append_seam}
use Rattle.std.proofs.lemmas.Nat.Bits.{bit_at-zero}
use Rattle.base_types.specs.Seal.{Blocks, blocks_of}
use Rattle.layout_bitmap.specs.Bits.{is_bad_bit}
use Rattle.engine_blocks.specs.Crashes.{IsTold}
use Rattle.engine_blocks.specs.Running.{HasNoBare}
use Rattle.engine_blocks.specs.State.{State}
use Rattle.layout_geometry.specs.Geometry.{Geometry, IsGeometry, bitmap_blocks, bitmap_start, data_start}
use Rattle.layout_journal.specs.Run.{is_live}
use Rattle.layout_bytes.specs.Bitmap.{bit_in, is_set}
use Rattle.layout_bytes.specs.declared.node.Node.{Node}
use Rattle.layout_bytes.specs.declared.node.NodeKind.{NodeKind}
use Rattle.layout_bytes.specs.declared.node.NodeKind.TheVariants.{Free, Dir, File, Snapshot}
use Rattle.crash_stands.specs.Files.{used_node}
use Rattle.crash_stands.specs.Sharing.{IsKeptBlock}
use Rattle.crash_stands.specs.Stands.{AreSound, HasBlock}
use Rattle.fs_files.specs.Shared.{is_kept}
use Rattle.fs_files.specs.Sound.{TellsKept}
use Rattle.fs_check.specs.Snapshots.{IsGoodSnapshot}
use Rattle.fs_check.specs.Broken.{IsLost, Precedes}
use Rattle.fs_files.specs.Effects.{LooksOnly}
use Rattle.fs_check.specs.Meeting.{IsCheckedTo, IsUnmet}
use Rattle.fs_check.proofs.sound.Nodes.{used_is}
use Rattle.fs_check.proofs.sound.Told.{defined_front, defined_data}

-- Bits.

-- a bitmap of zeros has no bit
zero_in : (i : ℕ) → (i < 1024) ⊎ (1024 ≤ i) → get_or (replicate {A = ℕ} 1024 0) i 0 ≡ 0
zero_in i (inl low) = get_or-replicate 1024 i 0 0 low
zero_in i (inr high) = get_or_past (replicate {A = ℕ} 1024 0) i 0 (omega (arith, high, length-replicate {A = ℕ} 1024 0))

zero_byte : (n k i : ℕ) → (k < n) ⊎ (n ≤ k) → get_or (get_or (replicate n (replicate {A = ℕ} 1024 0)) k []) i 0 ≡ 0
zero_byte n k i (inl low) = ap (λ (xs : List ℕ). get_or xs i 0) (get_or-replicate n k (replicate {A = ℕ} 1024 0) [] low) ∙ zero_in i (cases_lt i 1024)
zero_byte n k i (inr high) = ap (λ (xs : List ℕ). get_or xs i 0) (get_or_past (replicate n (replicate {A = ℕ} 1024 0)) k [] (omega (arith, high, length-replicate n (replicate {A = ℕ} 1024 0))))

pub zero_bits : (n b : ℕ) → bit_in (blocks_of (replicate n (replicate 1024 0))) b ≡ false
zero_bits n b = ap (λ x. bit_at x (b % 8) == 1) (zero_byte n (b / 8192) (b % 8192 / 8) (cases_lt (b / 8192) n)) ∙ ap (λ x. x == 1) (bit_at-zero (b % 8))

not_clear : (t : Bool) → not t ≡ false → t ≡ true
not_clear true e = refl
not_clear false e = absurd (false≢true (sym e))

second_false : (s t : Bool) → s ≡ true → (s && t) ≡ false → t ≡ false
second_false true t is e = e
second_false false t is e = absurd (false≢true is)

-- what bits are that aren't bad
good_before : (g : Geometry) (m : Blocks) (b : ℕ) → is_bad_bit g m b ≡ false → b < data_start g → bit_in m b ≡ true
good_before g m b good low =
    let p = or_parts (nat_lt b (data_start g) && not (bit_in m b)) (nat_le g.n b && (nat_lt b (8192 * bitmap_blocks g) && bit_in m b)) good in
    not_clear (bit_in m b) (second_false (nat_lt b (data_start g)) (not (bit_in m b)) (lt-ltb b (data_start g) low) p.0)

good_past : (g : Geometry) (m : Blocks) (b : ℕ) → is_bad_bit g m b ≡ false → g.n ≤ b → b < 8192 * bitmap_blocks g → bit_in m b ≡ false
good_past g m b good from below =
    let p = or_parts (nat_lt b (data_start g) && not (bit_in m b)) (nat_le g.n b && (nat_lt b (8192 * bitmap_blocks g) && bit_in m b)) good in
    second_false (nat_lt b (8192 * bitmap_blocks g)) (bit_in m b) (lt-ltb b (8192 * bitmap_blocks g) below)
    (second_false (nat_le g.n b) (nat_lt b (8192 * bitmap_blocks g) && bit_in m b) (le-leb g.n b from) p.1)

-- Blocks.

-- each place is one before the end
pub before_end : (g : Geometry) (m : Blocks) (k i b : ℕ) → HasBlock g m k i b → Precedes k i (g.i + 1) 0
before_end g m k i b has = let upto = (used_is g m k has.node has.is_node).upto in inl (omega (arith, upto))

-- a block that is left over is no node's and no snapshot keeps it
pub lost : (g : Geometry) (m : Blocks) (bits met : List (List ℕ)) (found : Bool) (counts : List ℕ) (b : ℕ) → IsCheckedTo g m bits met found (g.i + 1) → TellsKept g (is_kept counts) m
    → IsUnmet g (blocks_of bits) (blocks_of met) b → is_kept counts b ≡ false → IsLost g m b
lost g m bits met found counts b checked tells is unkept =
    let low : b < 8192 * bitmap_blocks g = let below = is.below in omega (arith, below) in
    record {
      from = is.from;
      below = is.below;
      marked = sym (checked.are b low) ∙ is.marked;
      unowned = λ k i has. false≢true (sym is.unmet ∙ (checked.sound.blocks.bits b is.below).1 (record { node = k; place = i; before = before_end g m k i b has; has = has }));
      unkept = λ kept. false≢true (sym unkept ∙ (tells b).1 kept);
    }

-- a live block is whole
live_whole : (s : State) → data_start s.books.geom ≤ s.books.geom.n → HasNoBare s.books.running → IsTold s → (b : ℕ) → IsTrue (is_live s.books.geom s.map b) → length (s.map b) ≡ 1024
live_whole s room none told b live =
    let p = and_parts (nat_le (bitmap_start s.books.geom) b) (nat_lt b s.books.geom.n && (nat_lt b (data_start s.books.geom) || is_set s.books.geom s.map b)) live in
    let q = and_parts (nat_lt b s.books.geom.n) (nat_lt b (data_start s.books.geom) || is_set s.books.geom s.map b) p.1 in
    by (leb-true (bitmap_start s.books.geom) b p.0) (ltb-true b s.books.geom.n q.0) (cases_lt b (data_start s.books.geom)) (or_cases (nat_lt b (data_start s.books.geom)) (is_set s.books.geom s.map b) q.1)
  where
    by : bitmap_start s.books.geom ≤ b → b < s.books.geom.n → (b < data_start s.books.geom) ⊎ (data_start s.books.geom ≤ b) → (nat_lt b (data_start s.books.geom) ≡ true) ⊎ (is_set s.books.geom s.map b ≡ true) → length (s.map b) ≡ 1024
    by from below (inl front) either = told.whole b below (defined_front s.books b from front)
    by from below (inr behind) (inl front) = absurd (let low = ltb-true b (data_start s.books.geom) front in omega (arith, low, behind))
    by from below (inr behind) (inr marked) = told.whole b below (defined_data s b none told (record { from = behind; below = below }) marked)

-- each data block whose bit is set was met, or a snapshot keeps it
abbrev pub LeavesNone : Geometry → List (List ℕ) → List (List ℕ) → List ℕ → Type 0
LeavesNone g bits met counts = (b : ℕ) → data_start g ≤ b → b < g.n → bit_in (blocks_of bits) b ≡ true → is_kept counts b ≡ false → bit_in (blocks_of met) b ≡ true

-- what was found of all blocks and nodes: no bit is bad, all nodes are sound, the counts tell what snapshots keep, and no block is left over
pub record IsThrough (g : Geometry) (m : Blocks) (bits met : List (List ℕ)) (found : Bool) (counts : List ℕ) : Type 0 where
  pub good : (b : ℕ) → is_bad_bit g (blocks_of bits) b ≡ false
  pub checked : IsCheckedTo g m bits met found (g.i + 1)
  pub tells : TellsKept g (is_kept counts) m
  pub snapshots : (n : ℕ) (node : Node) → used_node g m n ≡ Some node → node.kind ≡ Snapshot → IsGoodSnapshot g m node
  pub rest : LeavesNone g bits met counts

-- a block that a snapshot keeps is marked
kept_marked : (g : Geometry) (m : Blocks) (bits met : List (List ℕ)) (found : Bool) (counts : List ℕ) → IsThrough g m bits met found counts → (b : ℕ) → IsKeptBlock g m b → is_set g m b ≡ true
kept_marked g m bits met found counts h b is = (h.snapshots is.snapshot is.node is.is_node is.kind).marked is.number is.place b is.has

-- a node that has a block that a snapshot keeps is a file: it isn't free, and it is no directory and no snapshot
kept_file : (g : Geometry) (m : Blocks) (bits met : List (List ℕ)) (found : Bool) (counts : List ℕ) → IsThrough g m bits met found counts → (k i b : ℕ) (has : HasBlock g m k i b) → IsKeptBlock g m b → has.node.kind ≡ File
kept_file g m bits met found counts h k i b has is = by has.node.kind refl
  where
    firm : has.node.kind ≢ File → ⊥
    firm other = (h.snapshots is.snapshot is.node is.is_node is.kind).apart is.number is.place b is.has (record { number = k; place = i; has = has; kind = other })

    by : (kind : NodeKind) → has.node.kind ≡ kind → has.node.kind ≡ File
    by Free e = absurd (firm (λ f. cc))
    by Dir e = absurd (firm (λ f. cc))
    by File e = e
    by Snapshot e = absurd (firm (λ f. cc))

-- the blocks are sound then
whole_here : (s : State) (bits met : List (List ℕ)) (found : Bool) (counts : List ℕ) → IsGeometry s.books.geom → HasNoBare s.books.running → IsTold s → IsThrough s.books.geom s.map bits met found counts → AreSound s.books.geom s.map
whole_here s bits met found counts geom none told h =
    let room : data_start s.books.geom ≤ s.books.geom.n = let more = geom.data_room in omega (arith, more) in
    let g = s.books.geom in
    let m = s.map in
    record {
      whole = live_whole s room none told;
      own = λ k l i j b has other. h.checked.sound.blocks.once k i l j b (before_end g m k i b has) (before_end g m l j b other) has other;
      fixed = λ b low. sym (h.checked.are b (omega (arith, low, room))) ∙ good_before g (blocks_of bits) b (h.good b) low;
      marked = λ b from below. (
        λ is. owner b from below (h.checked.are b (omega (arith, below)) ∙ is) (cases_Bool (is_kept counts b)),
        ⊎_elim (λ is. h.checked.sound.blocks.marked is.0 is.1 b (before_end g m is.0 is.1 b is.2) is.2) (kept_marked g m bits met found counts h b),
      );
      past = λ b from below. sym (h.checked.are b below) ∙ good_past g (blocks_of bits) b (h.good b) from below;
      free = λ k from upto unread. h.checked.sound.free k from (omega (arith, upto)) unread;
      tail = λ k node used dir. let is = used_is g m k node used in let upto = is.upto in h.checked.sound.tail k node (omega (arith, upto)) used dir;
      shared = kept_file g m bits met found counts h;
      kept = λ k node used kind. (h.snapshots k node used kind).sound;
    }
  where
    owner : (b : ℕ) → data_start s.books.geom ≤ b → b < s.books.geom.n → bit_in (blocks_of bits) b ≡ true → (is_kept counts b ≡ true) ⊎ (is_kept counts b ≡ false)
        → ((k : ℕ) × (i : ℕ) × HasBlock s.books.geom s.map k i b) ⊎ IsKeptBlock s.books.geom s.map b
    owner b from below marked (inl kept) = inr ((h.tells b).0 kept)
    owner b from below marked (inr unkept) = let is = (h.checked.sound.blocks.bits b below).0 (h.rest b from below marked unkept) in inl (is.node, is.place, is.has)

pub whole_sound : (s : State) (g : Geometry) (bits met : List (List ℕ)) (found : Bool) (counts : List ℕ) → s.books.geom ≡ g → IsGeometry g → HasNoBare s.books.running → IsTold s → IsThrough g s.map bits met found counts → AreSound g s.map
whole_sound s g bits met found counts same geom none told h =
    subst (λ (h : Geometry). IsGeometry h → IsThrough h s.map bits met found counts → AreSound h s.map) same (λ here through. whole_here s bits met found counts here none told through) geom h

-- what was said of a later state holds of the first
pub held_first : (P : Geometry → Blocks → Type 0) (tells : Bool) (s t : State) (g : Geometry) → LooksOnly tells false s t → g ≡ s.books.geom → IsTrue tells → P g t.map → P s.books.geom s.map
held_first P tells s t g looks same told p = subst (λ (h : Geometry). P h s.map) same (subst (P g) (looks.map told) p)

-- a vector whose blocks were all written
pub written_back : (n : ℕ) (new old : List (List ℕ)) → length new ≡ n → take n (new ++ drop (length new) old) ≡ new
written_back n new old size = ap (λ k. take k (new ++ drop (length new) old)) (sym size) ∙ take-append_seam new (drop (length new) old)
