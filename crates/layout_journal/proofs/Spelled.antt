-- Headers, commit blocks and descriptors that are written as they are spelled read as themselves.
use Rattle.std.proofs.Common.{◌+◌, ◌≡◌, ℕ, ◌≤◌, ◌==◌, Bool, true, false, List, ◌∷◌, ◌++◌, length, take, drop, replicate, Option, Some, refl, sym, ◌∙◌, ap, ap₂, arith, nat_lt, nat_le, length-append, ◌&&◌, ◌<◌, ◌*◌, ◌-◌, [], append_assoc, take_all}
use Rattle.std.specs.Prelude.{codes}
use Rattle.std.proofs.Math.Seq.{take-append_seam, drop-append_seam}
use Rattle.std.proofs.lemmas.List.{length-replicate, drop-drop}
use Rattle.std.proofs.lemmas.Slice.Eq.{bytes_eq-Decides}
use Rattle.std.proofs.lemmas.Bool.{and_from, le-leb, lt-ltb, eq-eqb}
use Rattle.byteorder.specs.Endian.{little_number, little_bytes}
use Rattle.byteorder.specs.Numbers.{little_number-reads_back}
use Rattle.base_types.specs.Seal.{sha256, is_sealed}
use Rattle.base_types.specs.declared.layout.Layout.{Layout}
use Rattle.base_types.specs.Layouts.{layout_number, layout_of}
use Rattle.base_types.specs.LayoutLaws.{layout_back}
use Rattle.layout_geometry.specs.Geometry.{Geometry}
use Rattle.layout_bytes.specs.Bytes.{field, are_zeros, has_zeros}
use Rattle.layout_journal.proofs.Fields.{when_is, zeros_first}
use Rattle.layout_journal.specs.declared.header.Header.{Header}
use Rattle.layout_journal.specs.declared.record.Commit.{Commit}
use Rattle.layout_journal.specs.declared.record.Descriptor.{Descriptor}
use Rattle.layout_journal.specs.declared.entry.Entry.{Entry}
use Rattle.layout_journal.specs.declared.entry.EntryKind.{EntryKind}
use Rattle.layout_journal.specs.declared.entry.EntryKind.TheVariants.{Payload, Fresh, Escaped}
use Rattle.layout_journal.specs.Layout.{header_tag, layout_in, header_fields, header_fits, header_of, descriptor_count, commit_fields, commit_fits, commit_of, first_named, entry_of, then_entry, entries_in, descriptor_with, descriptor_fits, descriptor_of}
use Rattle.layout_journal.specs.Spelling.{fits_in, closed_number, header_body, header_block, IsHeader, commit_body, commit_block, kind_number, entry_bytes, all_entry_bytes, descriptor_body, descriptor_block, IsEntry, AreEntries}
use Rattle.layout_journal.proofs.Geometries.{sizes}

-- a number that fits reads back from its bytes
reads_back : (n v : ℕ) (rest : List ℕ) → fits_in n v → little_number n (little_bytes n v ++ rest) ≡ v
reads_back n v rest f = little_number-reads_back n v rest f

-- a number that a disk's block numbers bound fits in four bytes
small4 : (v : ℕ) → v ≤ 1048576 → fits_in 4 v
small4 v low = omega arith

-- a body of 992 bytes behind which its digest stands is sealed
pub sealed_is : (body : List ℕ) → length body ≡ 992 → is_sealed (body ++ sha256 body) ≡ true
sealed_is body len = (bytes_eq-Decides _ _).1 (ap (λ n. drop n (body ++ sha256 body)) (sym len) ∙ drop-append_seam body (sha256 body) ∙ ap sha256 (sym (ap (λ n. take n (body ++ sha256 body)) (sym len) ∙ take-append_seam body (sha256 body))))

-- the bytes before a header's seal are 992
pub header_length : (h : Header) → length (header_body h) ≡ 992
header_length h = omega (arith, length-replicate {A = ℕ} 932 0)

-- the byte that says whether a header is closed reads back, and is 0 or 1
closed_reads : (c : Bool) → (little_number 4 (little_bytes 4 (closed_number c)) == 1) ≡ c
closed_reads true = refl
closed_reads false = refl

closed_upto : (c : Bool) → little_number 4 (little_bytes 4 (closed_number c)) ≤ 1
closed_upto true = omega arith
closed_upto false = omega arith

-- a header of fields that are each another's is that one
header_from : (h : Header) (epoch turn start sure at n j i : ℕ) (closed : Bool) (layout : Layout) → epoch ≡ h.epoch → turn ≡ h.turn → start ≡ h.start → sure ≡ h.sure → at ≡ h.at → closed ≡ h.closed
    → n ≡ h.geom.n → j ≡ h.geom.j → i ≡ h.geom.i → layout ≡ h.geom.layout → ◌≡◌ {A = Header} (record { epoch = epoch; turn = turn; start = start; sure = sure; at = at; closed = closed; geom = record { n = n; j = j; i = i; layout = layout } }) h
header_from h epoch turn start sure at n j i closed layout e t s u a c gn gj gi l = rw (e, t, s, u, a, c, gn, gj, gi, l) refl

-- the layout of a header reads back from its tag
layout_reads : (h : Header) → layout_in (header_block h) ≡ h.geom.layout
layout_reads h = ap layout_of {x = 48 + layout_number h.geom.layout - 48} {y = layout_number h.geom.layout} (omega arith) ∙ layout_back h.geom.layout

-- the fields of a written header are its own
pub fields_read : (h : Header) → IsHeader h → header_fields (header_block h) ≡ h
fields_read h is =
    let g = sizes h.geom is.geom in
    header_from h _ _ _ _ _ _ _ _ _ _ (reads_back 8 h.epoch [] is.epoch) (reads_back 8 h.turn [] is.turn) (reads_back 8 h.start [] is.first) (reads_back 8 h.sure [] is.sure)
    (reads_back 4 h.at [] (small4 h.at (omega (arith, is.at, g.ring_upto)))) (closed_reads h.closed)
    (reads_back 4 h.geom.n [] (small4 h.geom.n g.blocks_upto)) (reads_back 4 h.geom.j [] (small4 h.geom.j (omega (arith, g.ring_upto)))) (reads_back 4 h.geom.i [] (small4 h.geom.i (omega (arith, g.nodes_upto)))) (layout_reads h)

-- and a written header fits
header_may : (h : Header) → IsHeader h → header_fits h.geom.n (header_block h) h ≡ true
header_may h is =
    and_from _ _ ((bytes_eq-Decides (take 8 (header_block h)) (header_tag h.geom.layout)).1 refl)
    (and_from _ _ (lt-ltb _ _ is.epoch_from) (and_from _ _ (lt-ltb _ _ is.turn_from) (and_from _ _ (lt-ltb _ _ is.start_from) (and_from _ _ (le-leb _ _ is.start_upto)
    (and_from _ _ (lt-ltb _ _ is.at) (and_from _ _ (le-leb _ _ (closed_upto h.closed)) (and_from _ _ is.geom (and_from _ _ (eq-eqb h.geom.n h.geom.n refl) (zeros_first 932 (sha256 (header_body h)))))))))))

-- a header that was written reads as itself
pub header_reads : (h : Header) → IsHeader h → header_of h.geom.n (header_block h) ≡ Some h
unfolding header_of
header_reads h is =
    let same = fields_read h is in
    when_is (is_sealed (header_block h)) _ (sealed_is (header_body h) (header_length h))
    ∙ when_is (header_fits h.geom.n (header_block h) (header_fields (header_block h))) _ (ap (header_fits h.geom.n (header_block h)) same ∙ header_may h is)
    ∙ ap (λ (k : Header). Some k) same

-- the bytes before a commit block's seal are 992
pub commit_length : (c : Commit) → length (commit_body c) ≡ 992
commit_length c = omega (arith, length-replicate {A = ℕ} 956 0)

-- a commit block of fields that are each another's is that one
commit_from : (c : Commit) (epoch number descriptors payloads fresh : ℕ) → epoch ≡ c.epoch → number ≡ c.number → descriptors ≡ c.descriptors → payloads ≡ c.payloads → fresh ≡ c.fresh
    → ◌≡◌ {A = Commit} (record { epoch = epoch; number = number; descriptors = descriptors; payloads = payloads; fresh = fresh }) c
commit_from c epoch number descriptors payloads fresh e n d p f = rw (e, n, d, p, f) refl

-- a written commit block fits
commit_may : (g : Geometry) (c : Commit) → 0 < c.payloads → c.descriptors ≡ descriptor_count (c.payloads + c.fresh) → 1 + c.descriptors + c.payloads ≤ g.j → commit_fits g (commit_block c) c ≡ true
commit_may g c some count room =
    and_from _ _ ((bytes_eq-Decides (take 8 (commit_block c)) (codes "OPTC0001")).1 refl)
    (and_from _ _ (lt-ltb _ _ some) (and_from _ _ (eq-eqb c.descriptors (descriptor_count (c.payloads + c.fresh)) count) (and_from _ _ (le-leb _ _ room) (zeros_first 956 (sha256 (commit_body c))))))

-- the fields of a written commit block are its own
pub commit_read : (c : Commit) → fits_in 8 c.epoch → fits_in 8 c.number → fits_in 4 c.descriptors → fits_in 4 c.payloads → fits_in 4 c.fresh → commit_fields (commit_block c) ≡ c
commit_read c fe fn fd fp ff =
    commit_from c _ _ _ _ _ (reads_back 8 c.epoch [] fe) (reads_back 8 c.number [] fn) (reads_back 4 c.descriptors [] fd) (reads_back 4 c.payloads [] fp) (reads_back 4 c.fresh [] ff)

-- a commit block that was written reads as itself
pub commit_reads : (g : Geometry) (c : Commit) → fits_in 8 c.epoch → fits_in 8 c.number → fits_in 4 c.descriptors → fits_in 4 c.payloads → fits_in 4 c.fresh
    → 0 < c.payloads → c.descriptors ≡ descriptor_count (c.payloads + c.fresh) → 1 + c.descriptors + c.payloads ≤ g.j → commit_of g (commit_block c) ≡ Some c
unfolding commit_of
commit_reads g c fe fn fd fp ff some count room =
    let same = commit_read c fe fn fd fp ff in
    when_is (is_sealed (commit_block c)) _ (sealed_is (commit_body c) (commit_length c))
    ∙ when_is (commit_fits g (commit_block c) (commit_fields (commit_block c))) _ (ap (commit_fits g (commit_block c)) same ∙ commit_may g c some count room)
    ∙ ap (λ (k : Commit). Some k) same

-- an entry has 40 bytes
entry_length : (e : Entry) → length e.digest ≡ 32 → length (entry_bytes e) ≡ 40
entry_length e len = omega (arith, len)

-- and entries have 40 each
pub all_length : (g : Geometry) (es : List Entry) → AreEntries g es → length (all_entry_bytes es) ≡ 40 * length es
all_length g [] are = refl
all_length g (e ∷ es) are = omega (arith, length-append (entry_bytes e) (all_entry_bytes es), entry_length e are.0.digest, all_length g es are.1)

-- a written entry names a block of the disk that it may name
entry_may : (g : Geometry) (block : ℕ) (kind : EntryKind) → block < g.n → first_named g kind ≤ block → g.n ≤ 1048576
    → (nat_lt (little_number 4 (little_bytes 4 block)) g.n && nat_le (first_named g kind) (little_number 4 (little_bytes 4 block))) ≡ true
entry_may g block kind high low small =
    let is = reads_back 4 block [] (small4 block (omega (arith, small, high))) in
    and_from _ _ (lt-ltb (little_number 4 (little_bytes 4 block)) g.n (omega (arith, is, high))) (le-leb (first_named g kind) (little_number 4 (little_bytes 4 block)) (omega (arith, is, low)))

-- and its fields are its own
entry_made : (g : Geometry) (block : ℕ) (digest : List ℕ) (kind : EntryKind) → block < g.n → g.n ≤ 1048576 → length digest ≡ 32
    → ◌≡◌ {A = Option Entry} (Some (record { block = little_number 4 (little_bytes 4 block); kind = kind; digest = take 32 digest })) (Some (record { block = block; kind = kind; digest = digest }))
entry_made g block digest kind high small len =
    ap₂ (λ (b : ℕ) (d : List ℕ). Some (record { block = b; kind = kind; digest = d })) (reads_back 4 block [] (small4 block (omega (arith, small, high)))) (take_all 32 digest (omega (arith, len)))

-- an entry of each kind reads as itself
entry_by : (g : Geometry) (block : ℕ) (digest : List ℕ) (kind : EntryKind) → block < g.n → first_named g kind ≤ block → g.n ≤ 1048576 → length digest ≡ 32
    → entry_of g (little_bytes 4 block ++ (kind_number kind ∷ 0 ∷ 0 ∷ 0 ∷ digest)) ≡ Some (record { block = block; kind = kind; digest = digest })
unfolding entry_of
entry_by g block digest Payload high low small len = when_is _ _ (entry_may g block Payload high low small) ∙ entry_made g block digest Payload high small len
entry_by g block digest Fresh high low small len = when_is _ _ (entry_may g block Fresh high low small) ∙ entry_made g block digest Fresh high small len
entry_by g block digest Escaped high low small len = when_is _ _ (entry_may g block Escaped high low small) ∙ entry_made g block digest Escaped high small len

-- an entry that was written reads as itself
pub entry_reads : (g : Geometry) (e : Entry) → g.n ≤ 1048576 → IsEntry g e → entry_of g (entry_bytes e) ≡ Some e
entry_reads g e small is = entry_by g e.block e.digest e.kind is.high is.low small is.digest

-- the first part of bytes that are joined
pub take_front : (n : ℕ) (xs ys : List ℕ) → length xs ≡ n → take n (xs ++ ys) ≡ xs
take_front n xs ys e = ap (λ k. take k (xs ++ ys)) (sym e) ∙ take-append_seam xs ys

-- and the second
drop_front : (n : ℕ) (xs ys : List ℕ) → length xs ≡ n → drop n (xs ++ ys) ≡ ys
drop_front n xs ys e = ap (λ k. drop k (xs ++ ys)) (sym e) ∙ drop-append_seam xs ys

-- entries that were written one behind the other read as themselves
entries_read : (g : Geometry) (es : List Entry) (rest : List ℕ) → g.n ≤ 1048576 → AreEntries g es → entries_in g (length es) (all_entry_bytes es ++ rest) ≡ Some es
entries_read g [] rest small are = refl
entries_read g (e ∷ es) rest small are =
    let whole : all_entry_bytes (e ∷ es) ++ rest ≡ entry_bytes e ++ (all_entry_bytes es ++ rest) = append_assoc (entry_bytes e) (all_entry_bytes es) rest in
    let len = entry_length e are.0.digest in
    ap₂ then_entry
    (ap (λ l. entry_of g (take 40 l)) whole ∙ ap (entry_of g) (take_front 40 (entry_bytes e) (all_entry_bytes es ++ rest) len) ∙ entry_reads g e small are.0)
    (ap (λ l. entries_in g (length es) (drop 40 l)) whole ∙ ap (entries_in g (length es)) (drop_front 40 (entry_bytes e) (all_entry_bytes es ++ rest) len) ∙ entries_read g es rest small are.1)

-- the bytes before a descriptor's seal are 992
pub descriptor_length : (d : Descriptor) (g : Geometry) → AreEntries g d.entries → length d.entries ≤ 24 → length (descriptor_body d) ≡ 992
descriptor_length d g are low =
    omega (arith, length-append (all_entry_bytes d.entries) (replicate (960 - 40 * length d.entries) 0), all_length g d.entries are, length-replicate {A = ℕ} (960 - 40 * length d.entries) 0, low)

-- the bytes of a descriptor from its entries on
behind_head : (d : Descriptor) → drop 32 (descriptor_block d) ≡ all_entry_bytes d.entries ++ (replicate (960 - 40 * length d.entries) 0 ++ sha256 (descriptor_body d))
behind_head d = append_assoc (all_entry_bytes d.entries) (replicate (960 - 40 * length d.entries) 0) (sha256 (descriptor_body d))

-- as many zeros as are before other bytes
zeros_by : (a z : ℕ) (xs rest : List ℕ) → a ≡ z → xs ≡ replicate z 0 ++ rest → are_zeros (take a xs) ≡ true
zeros_by a z xs rest count is = rw (count, is) (zeros_first z rest)

-- behind its entries a written descriptor has zeros
behind_entries : (g : Geometry) (d : Descriptor) → AreEntries g d.entries → has_zeros (descriptor_block d) (32 + 40 * length d.entries) 992 ≡ true
behind_entries g d are =
    zeros_by (992 - (32 + 40 * length d.entries)) (960 - 40 * length d.entries) (drop (32 + 40 * length d.entries) (descriptor_block d)) (sha256 (descriptor_body d)) (omega arith)
    (sym (drop-drop (40 * length d.entries) 32 (descriptor_block d)) ∙ ap (drop (40 * length d.entries)) (behind_head d)
    ∙ drop_front (40 * length d.entries) (all_entry_bytes d.entries) (replicate (960 - 40 * length d.entries) 0 ++ sha256 (descriptor_body d)) (all_length g d.entries are))

-- a written descriptor fits
descriptor_may : (g : Geometry) (d : Descriptor) → field (descriptor_block d) 28 4 ≡ length d.entries → 0 < length d.entries → length d.entries ≤ 24 → AreEntries g d.entries → descriptor_fits (descriptor_block d) ≡ true
descriptor_may g d count some few are =
    and_from _ _ ((bytes_eq-Decides (take 8 (descriptor_block d)) (codes "OPTD0001")).1 refl)
    (and_from _ _ (le-leb (field (descriptor_block d) 28 4) 24 (omega (arith, count, few))) (and_from _ _ (lt-ltb 0 (field (descriptor_block d) 28 4) (omega (arith, count, some)))
    (ap (λ n. has_zeros (descriptor_block d) (32 + 40 * n) 992) count ∙ behind_entries g d are)))

-- a descriptor of fields that are each another's is that one
descriptor_from : (d : Descriptor) (epoch number index : ℕ) → epoch ≡ d.epoch → number ≡ d.number → index ≡ d.index
    → ◌≡◌ {A = Descriptor} (record { epoch = epoch; number = number; index = index; entries = d.entries }) d
descriptor_from d epoch number index e n i = rw (e, n, i) refl

-- a descriptor that was written reads as itself
pub descriptor_reads : (g : Geometry) (d : Descriptor) → g.n ≤ 1048576 → fits_in 8 d.epoch → fits_in 8 d.number → fits_in 4 d.index → 0 < length d.entries → length d.entries ≤ 24 → AreEntries g d.entries
    → descriptor_of g (descriptor_block d) ≡ Some d
unfolding descriptor_of
descriptor_reads g d small fe fn fi some few are =
    let count : field (descriptor_block d) 28 4 ≡ length d.entries = reads_back 4 (length d.entries) [] (small4 (length d.entries) (omega (arith, few))) in
    when_is (is_sealed (descriptor_block d)) _ (sealed_is (descriptor_body d) (descriptor_length d g are few))
    ∙ when_is (descriptor_fits (descriptor_block d)) _ (descriptor_may g d count some few are)
    ∙ ap (descriptor_with (descriptor_block d)) (ap (λ n. entries_in g n (drop 32 (descriptor_block d))) count ∙ ap (entries_in g (length d.entries)) (behind_head d)
    ∙ entries_read g d.entries (replicate (960 - 40 * length d.entries) 0 ++ sha256 (descriptor_body d)) small are)
    ∙ ap (λ (k : Descriptor). Some k) (descriptor_from d _ _ _ (reads_back 8 d.epoch [] fe) (reads_back 8 d.number [] fn) (reads_back 4 d.index [] fi))
