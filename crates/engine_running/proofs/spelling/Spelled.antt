-- A transaction's record is spelled by its blocks.
use Rattle.std.proofs.Common.{◌≡◌, ℕ, zero, suc, ◌+◌, ◌*◌, ◌/◌, ◌<◌, ◌≤◌, ◌==◌, Bool, true, false, IsTrue, List, [], ◌∷◌, ◌++◌, length, take, drop, map, slice_get, slice_index_or, Some, None, refl, sym, ◌∙◌, ap, subst, arith, length-append, length-drop}
use Rattle.std.proofs.lemmas.Bool.Decides.{nat_tests}
use Rattle.std.proofs.lemmas.List.{length-map, length-take}
use Rattle.std.proofs.lemmas.Bool.{eqb-true, cond-true, cond-false}
use Rattle.std.proofs.lemmas.Option.{same_Some}
use Rattle.sha2.proofs.Facts256.{length-sha256}
use Rattle.base_types.specs.Seal.{Blocks, sha256}
use Rattle.layout_geometry.specs.Geometry.{Geometry, bitmap_start, data_start}
use Rattle.layout_journal.specs.declared.record.Commit.{Commit}
use Rattle.layout_journal.specs.declared.record.Descriptor.{Descriptor}
use Rattle.layout_journal.specs.declared.entry.Entry.{Entry}
use Rattle.layout_journal.specs.Layout.{unescaped, is_stored, descriptor_count, commit_of, descriptor_of, first_named}
use Rattle.layout_journal.specs.Spelling.{stored_of, stored_kind, fits_in, commit_block, descriptor_block, IsEntry, AreEntries}
use Rattle.layout_journal.specs.Run.{Record, Fits, entries_fit, entries, heads, places, names_block, is_live, commit_says, descriptor_says}
use Rattle.crash_argument.specs.Ledger.{Ledger, IsSpelled, block_at, payload_among}
use Rattle.crash_argument.specs.LastWrites.{IsDead}
use Rattle.crash_argument.specs.Recording.{IsNextRecord}
use Rattle.engine_running.specs.declared.put.Put.{Put}
use Rattle.engine_running.specs.Record.{payload_entry, fresh_entry, stored_put, bytes_of, record_of, written_of, descriptors_from, descriptor_blocks, IsTransaction}
use Rattle.engine_running.proofs.spelling.Forms.{get_is, get_map, index_map, index_behind, index_front, get_drop}

pub entries_length : (number place : ℕ) (paid laid : List Put) → length (entries (record_of number place paid laid)) ≡ length paid + length laid
entries_length number place paid laid = omega (arith, length-append (map payload_entry paid) (map fresh_entry laid), length-map paid payload_entry, length-map laid fresh_entry)

-- the blocks of the descriptors, one by one
length_descriptors : (epoch : ℕ) (r : Record) (i more : ℕ) → length (descriptors_from epoch r i more) ≡ more
length_descriptors epoch r i zero = refl
length_descriptors epoch r i (suc more) = omega (arith, length_descriptors epoch r (i + 1) more)

descriptor_there : (epoch : ℕ) (r : Record) (i more k : ℕ) → k < more → slice_index_or (descriptors_from epoch r i more) k [] ≡ descriptor_block (descriptor_says epoch r (i + k))
descriptor_there epoch r i zero k lt = absurd (omega arith)
descriptor_there epoch r i (suc more) zero lt = grind (arith, nat_tests)
descriptor_there epoch r i (suc more) (suc k) lt = descriptor_there epoch r (i + 1) more k (omega arith) ∙ ap (λ n. descriptor_block (descriptor_says epoch r n)) (s i k)
  where
    s : (i k : ℕ) → i + 1 + k ≡ i + suc k
    s i k = omega arith

pub length_descriptor_blocks : (epoch : ℕ) (r : Record) → length (descriptor_blocks epoch r) ≡ descriptor_count (length (entries r))
length_descriptor_blocks epoch r = length_descriptors epoch r 0 (descriptor_count (length (entries r)))

pub descriptor_block_at : (epoch : ℕ) (r : Record) (i : ℕ) → i < descriptor_count (length (entries r)) → slice_index_or (descriptor_blocks epoch r) i [] ≡ descriptor_block (descriptor_says epoch r i)
descriptor_block_at epoch r i lt = grind (arith, nat_tests, descriptor_there)

pub descriptor_block_is : (epoch : ℕ) (r : Record) (i : ℕ) → i < descriptor_count (length (entries r)) → slice_get (descriptor_blocks epoch r) i ≡ Some (descriptor_block (descriptor_says epoch r i))
descriptor_block_is epoch r i lt = get_is (descriptor_blocks epoch r) i [] (omega (arith, lt, length_descriptor_blocks epoch r)) ∙ ap Some (descriptor_block_at epoch r i lt)

-- a record's descriptors don't say its place
same_from : (epoch number a b : ℕ) (paid laid : List Put) (i more : ℕ) → descriptors_from epoch (record_of number a paid laid) i more ≡ descriptors_from epoch (record_of number b paid laid) i more
same_from epoch number a b paid laid i zero = refl
same_from epoch number a b paid laid i (suc more) = ap (λ (l : List (List ℕ)). descriptor_block (descriptor_says epoch (record_of number a paid laid) i) ∷ l) (same_from epoch number a b paid laid (i + 1) more)

pub same_descriptors : (epoch number a b : ℕ) (paid laid : List Put) → descriptor_blocks epoch (record_of number a paid laid) ≡ descriptor_blocks epoch (record_of number b paid laid)
same_descriptors epoch number a b paid laid = same_from epoch number a b paid laid 0 (descriptor_count (length (entries (record_of number a paid laid))))

-- where the blocks of a record are in it
pub ring_descriptor : (epoch number place : ℕ) (paid laid : List Put) (i : ℕ) → i < descriptor_count (length (entries (record_of number place paid laid)))
    → block_at (written_of epoch number place paid laid).ring (1 + i) ≡ descriptor_block (descriptor_says epoch (record_of number place paid laid) i)
ring_descriptor epoch number place paid laid i lt = grind (arith, nat_tests, index_front, length_descriptor_blocks, descriptor_there)

pub ring_payload : (epoch number place : ℕ) (paid laid : List Put) (k : ℕ) (p : Put) → slice_get paid k ≡ Some p
    → block_at (written_of epoch number place paid laid).ring (heads (record_of number place paid laid) + k) ≡ stored_of p.bytes
ring_payload epoch number place paid laid k p is =
    ap (λ n. slice_index_or (commit_block (commit_says epoch r) ∷ (descriptor_blocks epoch r ++ map stored_put paid)) n []) (index (descriptor_count (length (entries r))) k (length (descriptor_blocks epoch r)) (length_descriptor_blocks epoch r))
    ∙ index_behind (descriptor_blocks epoch r) (map stored_put paid) k ∙ index_map stored_put paid k p is
  where
    r : Record
    r = record_of number place paid laid

    index : (d k n : ℕ) → n ≡ d → (1 + d) + k ≡ suc (n + k)
    index d k n e = omega (arith, e)

-- entries one by one
are_entries : (g : Geometry) (es : List Entry) → ((k : ℕ) (e : Entry) → slice_get es k ≡ Some e → IsEntry g e) → AreEntries g es
are_entries g [] each = tt
are_entries g (e ∷ es) each = (each 0 e refl, are_entries g es (λ k f is. each (suc k) f is))

get_take : {A : Type 0} (n : ℕ) (xs : List A) (k : ℕ) (x : A) → slice_get (take n xs) k ≡ Some x → slice_get xs k ≡ Some x
get_take zero xs k x e = cc
get_take (suc n) [] k x e = cc
get_take (suc n) (y ∷ xs) zero x e = e
get_take (suc n) (y ∷ xs) (suc k) x e = get_take n xs k x e

get_either : {A : Type 0} (P : A → Type 0) (xs ys : List A) → ((k : ℕ) (x : A) → slice_get xs k ≡ Some x → P x) → ((k : ℕ) (x : A) → slice_get ys k ≡ Some x → P x) → (k : ℕ) (x : A) → slice_get (xs ++ ys) k ≡ Some x → P x
get_either P [] ys one two k x e = two k x e
get_either P (z ∷ xs) ys one two zero x e = one 0 x e
get_either P (z ∷ xs) ys one two (suc k) x e = get_either P xs ys (λ i y is. one (suc i) y is) two k x e

kind_low : (g : Geometry) (x : List ℕ) (b : ℕ) → bitmap_start g ≤ b → first_named g (stored_kind x) ≤ b
kind_low g x b le = grind (arith, nat_tests)

-- a payload of the record is that of a put
payload_is : ((x : List ℕ) → unescaped (stored_kind x) (stored_of x) ≡ x) → (ring : List (List ℕ)) (es : List Put) (i b : ℕ) (y : List ℕ) → ((k : ℕ) (p : Put) → slice_get es k ≡ Some p → block_at ring (i + k) ≡ stored_of p.bytes) → payload_among ring i (map payload_entry es) b ≡ Some y
    → (k : ℕ) × (p : Put) × (slice_get es k ≡ Some p) × (p.block ≡ b) × (p.bytes ≡ y)
payload_is reads ring [] i b y at is = cc
payload_is reads ring (p ∷ es) i b y at is = by (p.block == b) refl (payload_is reads ring es (i + 1) b y (λ k q at_q. ap (block_at ring) (s i k) ∙ at (suc k) q at_q))
  where
    s : (i k : ℕ) → i + 1 + k ≡ i + suc k
    s i k = omega arith

    z : (i : ℕ) → i ≡ i + 0
    z i = omega arith

    by : (v : Bool) → (p.block == b) ≡ v
        → (payload_among ring (i + 1) (map payload_entry es) b ≡ Some y → (k : ℕ) × (q : Put) × (slice_get es k ≡ Some q) × (q.block ≡ b) × (q.bytes ≡ y))
        → (k : ℕ) × (q : Put) × (slice_get (p ∷ es) k ≡ Some q) × (q.block ≡ b) × (q.bytes ≡ y)
    by true own rest =
        let here = same_Some _ _ (sym (cond-true (p.block == b) (Some (unescaped (stored_kind p.bytes) (block_at ring i))) (payload_among ring (i + 1) (map payload_entry es) b) own) ∙ is) in
        (0, p, refl, eqb-true p.block b own, sym (reads p.bytes) ∙ sym (ap (unescaped (stored_kind p.bytes)) (ap (block_at ring) (z i) ∙ at 0 p refl)) ∙ here)
    by false other rest = let one = rest (sym (cond-false (p.block == b) (Some (unescaped (stored_kind p.bytes) (block_at ring i))) (payload_among ring (i + 1) (map payload_entry es) b) other) ∙ is) in
        (suc one.0, one.1, one.2, one.3, one.4)

payload_none : (ring : List (List ℕ)) (es : List Put) (i b : ℕ) → payload_among ring i (map payload_entry es) b ≡ None → names_block (map payload_entry es) b ≡ false
payload_none ring [] i b is = refl
payload_none ring (p ∷ es) i b is = grind (arith, nat_tests, payload_none ring es (i + 1) b)

-- what the journal's laws say of its blocks: payloads, commit blocks and descriptors read back, and entries that fit keep to the disk
module _ (reads : (x : List ℕ) → unescaped (stored_kind x) (stored_of x) ≡ x) (stored : (x : List ℕ) → is_stored (stored_kind x) (stored_of x) ≡ true)
    (commits : (g : Geometry) (c : Commit) → fits_in 8 c.epoch → fits_in 8 c.number → fits_in 4 c.descriptors → fits_in 4 c.payloads → fits_in 4 c.fresh
    → 0 < c.payloads → c.descriptors ≡ descriptor_count (c.payloads + c.fresh) → 1 + c.descriptors + c.payloads ≤ g.j → commit_of g (commit_block c) ≡ Some c)
    (descriptors : (g : Geometry) (d : Descriptor) → g.n ≤ 1048576 → fits_in 8 d.epoch → fits_in 8 d.number → fits_in 4 d.index → 0 < length d.entries → length d.entries ≤ 24
    → AreEntries g d.entries → descriptor_of g (descriptor_block d) ≡ Some d)
    (payloads_in : (g : Geometry) (r : Record) (i : ℕ) (e : Entry) → IsTrue (entries_fit g r) → slice_get r.payloads i ≡ Some e → (bitmap_start g ≤ e.block) × (e.block < g.n))
    (fresh_in : (g : Geometry) (r : Record) (i : ℕ) (e : Entry) → IsTrue (entries_fit g r) → slice_get r.fresh i ≡ Some e → (data_start g ≤ e.block) × (e.block < g.n))
    (g : Geometry) (epoch number place : ℕ) (paid laid : List Put) (fit : IsTrue (entries_fit g (record_of number place paid laid)))
    (epoch_small : fits_in 8 epoch) (number_small : fits_in 8 number) (disk_small : g.n ≤ 1048576) (few : length paid + length laid ≤ 2097152) where
  private_entry : (k : ℕ) (e : Entry) → slice_get (entries (record_of number place paid laid)) k ≡ Some e → IsEntry g e
  private_entry = get_either (IsEntry g) (map payload_entry paid) (map fresh_entry laid)
      (λ k e is. let p = get_map payload_entry paid k e is in let here = payloads_in g (record_of number place paid laid) k e fit is in
      subst (λ (f : Entry). IsEntry g f) p.2 (record { low = kind_low g p.0.bytes p.0.block (omega (arith, here.0, ap (λ (f : Entry). f.block) p.2)); high = omega (arith, here.1, ap (λ (f : Entry). f.block) p.2); digest = length-sha256 (stored_of p.0.bytes) }))
      (λ k e is. let p = get_map fresh_entry laid k e is in let here = fresh_in g (record_of number place paid laid) k e fit is in
      subst (λ (f : Entry). IsEntry g f) p.2 (record { low = omega (arith, here.0, ap (λ (f : Entry). f.block) p.2); high = omega (arith, here.1, ap (λ (f : Entry). f.block) p.2); digest = length-sha256 p.0.bytes }))

  descriptor_reads : (i : ℕ) → i < descriptor_count (length (entries (record_of number place paid laid))) → descriptor_of g (descriptor_block (descriptor_says epoch (record_of number place paid laid) i)) ≡ Some (descriptor_says epoch (record_of number place paid laid) i)
  descriptor_reads i lt = descriptors g (descriptor_says epoch (record_of number place paid laid) i) disk_small epoch_small number_small (index_small i (length (entries (record_of number place paid laid))) lt (omega (arith, few, entries_length number place paid laid)))
      (some i (entries (record_of number place paid laid)) lt) (most (drop (24 * i) (entries (record_of number place paid laid))))
      (are_entries g (take 24 (drop (24 * i) (entries (record_of number place paid laid)))) (λ k e is. private_entry (24 * i + k) e (sym (get_drop (24 * i) (entries (record_of number place paid laid)) k) ∙ get_take 24 (drop (24 * i) (entries (record_of number place paid laid))) k e is)))
    where
      index_small : (i n : ℕ) → i < (n + 23) / 24 → n ≤ 2097152 → fits_in 4 i
      index_small i n lt le = omega arith

      some : (i : ℕ) (es : List Entry) → i < (length es + 23) / 24 → 0 < length (take 24 (drop (24 * i) es))
      some i es lt = omega (arith, lt, length-take 24 (drop (24 * i) es), length-drop (24 * i) es)

      most : (es : List Entry) → length (take 24 es) ≤ 24
      most es = omega (arith, length-take 24 es)

  -- the blocks of the record are spelled as it says
  pub is_spelled : 0 < length paid → places (record_of number place paid laid) ≤ g.j → g.j ≤ 65536 → IsSpelled g epoch (written_of epoch number place paid laid)
  is_spelled some room ring_small = record {
    fit = fit;
    commit = commits g (commit_says epoch (record_of number place paid laid)) epoch_small number_small (omega (arith, room, ring_small)) (omega (arith, room, ring_small)) (omega (arith, few, length-map laid fresh_entry))
        (omega (arith, some, length-map paid payload_entry)) (ap descriptor_count (length-append (map payload_entry paid) (map fresh_entry laid))) room;
    descriptors = λ i lt. ap (descriptor_of g) (ring_descriptor epoch number place paid laid i lt) ∙ descriptor_reads i lt;
    payloads = λ i e is. let p = get_map payload_entry paid i e is in
        subst (λ (x : List ℕ). Fits e x) (sym (ring_payload epoch number place paid laid i p.0 p.1)) (subst (λ (f : Entry). Fits f (stored_of p.0.bytes)) p.2 (record { digest = refl; kind = stored p.0.bytes }));
    fresh = λ i e is. let p = get_map fresh_entry laid i e is in ap sha256 (index_map bytes_of laid i p.0 p.1) ∙ ap (λ (f : Entry). f.digest) p.2;
  }

  -- so it may be the next record
  pub is_next : (l : Ledger) (m : Blocks) → g ≡ l.geom → g.j ≤ 65536 → 0 < length paid → IsTransaction l epoch number place paid laid m → IsNextRecord l (written_of epoch number place paid laid) m
  is_next l m same ring_small some may = record {
    number = may.is_next;
    not_closed = may.not_closed;
    place = may.is_place;
    within = may.within;
    spelled = subst (λ n. IsSpelled l.geom n (written_of epoch number place paid laid)) may.is_epoch (subst (λ (q : Geometry). IsSpelled q epoch (written_of epoch number place paid laid)) same
        (is_spelled some (omega (arith, may.within, ap (λ (q : Geometry). q.j) same)) ring_small));
    dead = λ i e is. let p = get_map fresh_entry laid i e is in subst (λ (f : Entry). IsDead l f.block) p.2 (may.dead i p.0 p.1);
    live = λ i e is. let p = get_map fresh_entry laid i e is in subst (λ (f : Entry). IsTrue (is_live l.geom m f.block)) p.2 (may.live i p.0 p.1);
    paid = λ b y is. let p = payload_is reads (written_of epoch number place paid laid).ring paid (heads (record_of number place paid laid)) b y (ring_payload epoch number place paid laid) is in ap m (sym p.3) ∙ may.paid_in p.0 p.1 p.2 ∙ p.4;
    paid_live = λ b y is. let p = payload_is reads (written_of epoch number place paid laid).ring paid (heads (record_of number place paid laid)) b y (ring_payload epoch number place paid laid) is in
        subst (λ n. IsTrue (is_live l.geom m n)) p.3 (may.paid_live p.0 p.1 p.2);
    laid = λ i e is. let p = get_map fresh_entry laid i e is in ap (λ (f : Entry). m f.block) (sym p.2) ∙ may.laid_in i p.0 p.1 ∙ sym (index_map bytes_of laid i p.0 p.1);
    same = λ b none unnamed live. may.same b (payload_none (written_of epoch number place paid laid).ring paid (heads (record_of number place paid laid)) b none) unnamed live;
  }
