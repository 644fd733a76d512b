-- A header, a commit block or a descriptor that reads is the spelling of what it reads as, and no other value is spelled so.
use Rattle.std.proofs.Common.{◌≡◌, ℕ, zero, suc, ◌+◌, ◌-◌, ◌*◌, ◌≤◌, ◌==◌, nat_lt, nat_le, Bool, true, false, if◌then◌else◌, List, [], ◌∷◌, ◌++◌, length, take, drop, replicate, Option, Some, None, bytes_eq, refl, sym, subst, ap, ap₂, ◌∙◌, arith, append_assoc, drop-drop, length-drop, eqb-true, take_all}
use Rattle.std.proofs.lemmas.Slice.Eq.{bytes_eq-Decides}
use Rattle.std.proofs.lemmas.Bool.{and_parts, leb-true, ltb-true}
use Rattle.std.proofs.lemmas.List.{take-append-drop, length-take-le}
use Rattle.std.proofs.lemmas.Option.{same_Some}
use Rattle.byteorder.specs.Endian.{little_number, little_bytes}
use Rattle.byteorder.specs.Numbers.{little_from-lt}
use Rattle.base_types.specs.Seal.{is_sealed, sha256}
use Rattle.layout_geometry.specs.Geometry.{Geometry, geometry_fits}
use Rattle.layout_bytes.specs.Bytes.{field, are_zeros, has_zeros, ZerosAreTold, FirstZerosAreTold, NumbersAreTold}
use Rattle.layout_journal.specs.declared.header.Header.{Header}
use Rattle.layout_journal.specs.declared.record.Commit.{Commit}
use Rattle.layout_journal.specs.declared.record.Descriptor.{Descriptor}
use Rattle.layout_journal.specs.declared.entry.Entry.{Entry}
use Rattle.layout_journal.specs.declared.entry.EntryKind.{EntryKind}
use Rattle.layout_journal.specs.declared.entry.EntryKind.TheVariants.{Payload, Fresh, Escaped}
use Rattle.layout_journal.specs.Layout.{has_tag, descriptor_count, header_tag, layout_in, commit_tag, descriptor_tag, header_fields, header_fits, header_of, IsWithinDisk, commit_fields, commit_fits, commit_of, IsWithinRing, kind_of, first_named, entry_fields, entry_with, entry_of, then_entry, entries_in, descriptor_with, descriptor_fits, descriptor_of}
use Rattle.layout_journal.specs.Spelling.{closed_number, header_body, header_block, IsHeader, commit_body, commit_block, IsCommit, kind_number, entry_bytes, all_entry_bytes, descriptor_body, descriptor_block, IsEntry, AreEntries, IsDescriptor}
use Rattle.layout_journal.proofs.Bounds.{header_bounds, commit_bounds}
use Rattle.layout_journal.proofs.Fields.{when_some, when_inner, AreBytes, bytes_drop, bytes_take}
use Rattle.layout_journal.proofs.Sealed.{is_sealed-IsSealed}
use Rattle.layout_journal.proofs.Spelled.{header_length, commit_length, descriptor_length, take_front}

-- from this byte on, up to its seal, the block has these bytes
record Goes (b : List ℕ) (at : ℕ) (xs : List ℕ) : Type 0 where
  is : drop at b ≡ xs ++ drop 992 b

-- what is read from a field tells its bytes, as the law of fields says
module _ (zeros_are : ZerosAreTold) (first_zeros_are : FirstZerosAreTold) (numbers_are : NumbersAreTold) where
  -- the number v in n bytes, and others behind it
  number_then : (n at v : ℕ) (b xs : List ℕ) → at + n ≤ length b → AreBytes b → field b at n ≡ v → Goes b (at + n) xs → Goes b at (little_bytes n v ++ xs)
  number_then n at v b xs few low is behind = record {
    is =
        numbers_are n (drop at b) (omega (arith, few, length-drop at b)) (bytes_drop at b low)
        ∙ ap₂ (λ m ys. little_bytes n m ++ ys) is (drop-drop n at b ∙ behind.is)
        ∙ sym (append_assoc (little_bytes n v) xs (drop 992 b));
  }

  -- a tag, and others behind it
  tag_then : (tag b xs : List ℕ) → take 8 b ≡ tag → Goes b 8 xs → Goes b 0 (tag ++ xs)
  tag_then tag b xs is behind = record { is = sym (take-append-drop 8 b) ∙ ap₂ ◌++◌ is behind.is ∙ sym (append_assoc tag xs (drop 992 b)) }

  -- the last bytes before the seal are zeros
  zeros_last : (at n : ℕ) (b : List ℕ) → at + n ≡ 992 → length b ≡ 1024 → are_zeros (take n (drop at b)) ≡ true → Goes b at (replicate n 0)
  zeros_last at n b end len zeros = record {
    is = first_zeros_are n (drop at b) (omega (arith, end, len, length-drop at b)) zeros ∙ ap (λ xs. replicate n 0 ++ xs) (drop-drop n at b ∙ ap (λ k. drop k b) end);
  }

  -- a sealed block is its bytes up to the seal, and their digest
  whole : (b body : List ℕ) → length body ≡ 992 → Goes b 0 body → is_sealed b ≡ true → b ≡ body ++ sha256 body
  whole b body len goes sealed =
      goes.is ∙ ap (λ s. body ++ s) (is_sealed-IsSealed b sealed ∙ ap sha256 (ap (take 992) goes.is ∙ take_front 992 body (drop 992 b) len))

  tag_is : (tag b : List ℕ) → bytes_eq (take 8 b) tag ≡ true → take 8 b ≡ tag
  tag_is tag b e = (bytes_eq-Decides (take 8 b) tag).0 e

  -- Headers.

  -- what reads as a header passed its tests
  header_tests : (n : ℕ) (b : List ℕ) (h : Header) → header_of n b ≡ Some h → (is_sealed b ≡ true) × (header_fits n b (header_fields b) ≡ true) × (header_fields b ≡ h)
  unfolding header_of
  header_tests n b h e =
      let inner = when_inner (is_sealed b) _ h e in
      (when_some (is_sealed b) _ h e, when_some (header_fits n b (header_fields b)) _ h inner, same_Some _ _ (when_inner (header_fits n b (header_fields b)) _ h inner))

  -- 0 or 1 is the number of its own test
  closed_again : (v : ℕ) → v ≤ 1 → v ≡ closed_number (v == 1)
  closed_again zero few = refl
  closed_again (suc zero) few = refl
  closed_again (suc (suc v)) few = absurd (omega arith)

  header_again : (b : List ℕ) → length b ≡ 1024 → AreBytes b → take 8 b ≡ header_tag (layout_in b) → field b 44 4 ≤ 1 → has_zeros b 60 992 ≡ true → Goes b 0 (header_body (header_fields b))
  header_again b len low tag closed zeros =
      tag_then (header_tag (layout_in b)) b _ tag
      (number_then 8 8 _ b _ (omega (arith, len)) low refl
      (number_then 8 16 _ b _ (omega (arith, len)) low refl
      (number_then 8 24 _ b _ (omega (arith, len)) low refl
      (number_then 8 32 _ b _ (omega (arith, len)) low refl
      (number_then 4 40 _ b _ (omega (arith, len)) low refl
      (number_then 4 44 _ b _ (omega (arith, len)) low (closed_again (field b 44 4) closed)
      (number_then 4 48 _ b _ (omega (arith, len)) low refl
      (number_then 4 52 _ b _ (omega (arith, len)) low refl
      (number_then 4 56 _ b _ (omega (arith, len)) low refl
      (zeros_last 60 932 b refl len zeros))))))))))

  pub header_spelled : (n : ℕ) (b : List ℕ) (h : Header) → length b ≡ 1024 → AreBytes b → header_of n b ≡ Some h → IsHeader h × (h.geom.n ≡ n) × (b ≡ header_block h)
  header_spelled n b h len low e =
      let tests = header_tests n b h e in
      let f : Header = header_fields b in
      let bounds : IsWithinDisk n f = subst (IsWithinDisk n) (sym tests.2) (header_bounds n b h e) in
      let tag = and_parts (has_tag (header_tag (layout_in b)) b) _ tests.1 in
      let epoch = and_parts (nat_lt 0 f.epoch) _ tag.1 in
      let turn = and_parts (nat_lt 0 f.turn) _ epoch.1 in
      let first = and_parts (nat_lt 0 f.start) _ turn.1 in
      let sure = and_parts (nat_le f.start (f.sure + 1)) _ first.1 in
      let at = and_parts (nat_lt f.at f.geom.j) _ sure.1 in
      let closed = and_parts (nat_le (field b 44 4) 1) _ at.1 in
      let geom = and_parts (geometry_fits f.geom) _ closed.1 in
      let zeros = and_parts (f.geom.n == n) _ geom.1 in
      let is : IsHeader f = record {
        epoch = little_from-lt 0 8 (drop 8 b) (bytes_drop 8 b low);
        turn = little_from-lt 0 8 (drop 16 b) (bytes_drop 16 b low);
        first = little_from-lt 0 8 (drop 24 b) (bytes_drop 24 b low);
        sure = little_from-lt 0 8 (drop 32 b) (bytes_drop 32 b low);
        epoch_from = bounds.epoch;
        turn_from = bounds.turn;
        start_from = bounds.first;
        start_upto = bounds.sure;
        at = bounds.at;
        geom = bounds.geom;
      } in
      subst (λ (k : Header). IsHeader k × (k.geom.n ≡ n) × (b ≡ header_block k)) tests.2
      (is, bounds.blocks, whole b (header_body f) (header_length f) (header_again b len low (tag_is (header_tag (layout_in b)) b tag.0) (leb-true _ 1 closed.0) zeros.1) tests.0)

  -- Commit blocks.

  commit_tests : (g : Geometry) (b : List ℕ) (c : Commit) → commit_of g b ≡ Some c → (is_sealed b ≡ true) × (commit_fits g b (commit_fields b) ≡ true) × (commit_fields b ≡ c)
  unfolding commit_of
  commit_tests g b c e =
      let inner = when_inner (is_sealed b) _ c e in
      (when_some (is_sealed b) _ c e, when_some (commit_fits g b (commit_fields b)) _ c inner, same_Some _ _ (when_inner (commit_fits g b (commit_fields b)) _ c inner))

  commit_again : (b : List ℕ) → length b ≡ 1024 → AreBytes b → take 8 b ≡ commit_tag → has_zeros b 36 992 ≡ true → Goes b 0 (commit_body (commit_fields b))
  commit_again b len low tag zeros =
      tag_then commit_tag b _ tag
      (number_then 8 8 _ b _ (omega (arith, len)) low refl
      (number_then 8 16 _ b _ (omega (arith, len)) low refl
      (number_then 4 24 _ b _ (omega (arith, len)) low refl
      (number_then 4 28 _ b _ (omega (arith, len)) low refl
      (number_then 4 32 _ b _ (omega (arith, len)) low refl
      (zeros_last 36 956 b refl len zeros))))))

  pub commit_spelled : (g : Geometry) (b : List ℕ) (c : Commit) → length b ≡ 1024 → AreBytes b → commit_of g b ≡ Some c → IsCommit g c × (b ≡ commit_block c)
  commit_spelled g b c len low e =
      let tests = commit_tests g b c e in
      let f : Commit = commit_fields b in
      let tag = and_parts (has_tag commit_tag b) _ tests.1 in
      let some = and_parts (nat_lt 0 f.payloads) _ tag.1 in
      let count = and_parts (f.descriptors == descriptor_count (f.payloads + f.fresh)) _ some.1 in
      let zeros = and_parts (nat_le (1 + f.descriptors + f.payloads) g.j) _ count.1 in
      let is : IsCommit g f = record {
        epoch = little_from-lt 0 8 (drop 8 b) (bytes_drop 8 b low);
        number = little_from-lt 0 8 (drop 16 b) (bytes_drop 16 b low);
        descriptors = little_from-lt 0 4 (drop 24 b) (bytes_drop 24 b low);
        payloads = little_from-lt 0 4 (drop 28 b) (bytes_drop 28 b low);
        fresh = little_from-lt 0 4 (drop 32 b) (bytes_drop 32 b low);
        within = subst (IsWithinRing g) (sym tests.2) (commit_bounds g b c e);
      } in
      subst (λ (k : Commit). IsCommit g k × (b ≡ commit_block k)) tests.2
      (is, whole b (commit_body f) (commit_length f) (commit_again b len low (tag_is commit_tag b tag.0) zeros.1) tests.0)

  -- Entries.

  -- the number of a kind is the one that it was read from
  kind_again : (n : ℕ) (kind : EntryKind) → kind_of n ≡ Some kind → n ≡ kind_number kind
  kind_again n kind e = by (n == 1) (n == 2) (n == 3) refl refl refl e
    where
      by : (p q r : Bool) → (n == 1) ≡ p → (n == 2) ≡ q → (n == 3) ≡ r → (if p then Some Payload else if q then Some Fresh else if r then Some Escaped else None) ≡ Some kind → n ≡ kind_number kind
      by true q r t u v e = eqb-true n 1 t ∙ ap kind_number (same_Some _ _ e)
      by false true r t u v e = eqb-true n 2 u ∙ ap kind_number (same_Some _ _ e)
      by false false true t u v e = eqb-true n 3 v ∙ ap kind_number (same_Some _ _ e)
      by false false false t u v e = cc

  -- the bytes of an entry behind its block
  behind_block : (d : List ℕ) (k : ℕ) → length d ≡ 36 → little_number 1 d ≡ k → are_zeros (take 3 (drop 1 d)) ≡ true → d ≡ k ∷ 0 ∷ 0 ∷ 0 ∷ take 32 (drop 4 d)
  behind_block (x ∷ p ∷ q ∷ r ∷ rest) k len is zeros =
      let first : x ≡ k = omega (arith, is) in
      let three : (p ∷ q ∷ r ∷ []) ≡ 0 ∷ 0 ∷ 0 ∷ [] = zeros_are (p ∷ q ∷ r ∷ []) zeros in
      ap (λ (t : List ℕ). x ∷ p ∷ q ∷ r ∷ t) (sym (take_all 32 rest (omega (arith, len))))
      ∙ ap₂ (λ (y : ℕ) (ys : List ℕ). y ∷ (ys ++ take 32 rest)) first three
  behind_block [] k len is zeros = absurd (omega arith)
  behind_block (x ∷ []) k len is zeros = absurd (omega arith)
  behind_block (x ∷ p ∷ []) k len is zeros = absurd (omega arith)
  behind_block (x ∷ p ∷ q ∷ []) k len is zeros = absurd (omega arith)

  entry_again : (g : Geometry) (b : List ℕ) (e : Entry) (k : Option EntryKind) → length b ≡ 40 → AreBytes b → kind_of (field b 4 1) ≡ k → entry_with g b k ≡ Some e → IsEntry g e × (b ≡ entry_bytes e)
  entry_again g b e None len low is read = cc
  entry_again g b e (Some kind) len low is read =
      let tests = and_parts (has_zeros b 5 8) _ (when_some _ (Some (entry_fields kind b)) e read) in
      let block = and_parts (nat_lt (field b 0 4) g.n) _ tests.1 in
      let same = same_Some _ _ (when_inner _ (Some (entry_fields kind b)) e read) in
      let rest : length (drop 8 b) ≡ 32 = omega (arith, len, length-drop 8 b) in
      let entry : IsEntry g (entry_fields kind b) = record {
        low = leb-true (first_named g kind) (field b 0 4) block.1;
        high = ltb-true (field b 0 4) g.n block.0;
        digest = length-take-le 32 (drop 8 b) (omega (arith, rest));
      } in
      let behind : drop 4 b ≡ kind_number kind ∷ 0 ∷ 0 ∷ 0 ∷ take 32 (drop 8 b) =
      behind_block (drop 4 b) (kind_number kind) (omega (arith, len, length-drop 4 b)) (kind_again (field b 4 1) kind is) (ap (λ xs. are_zeros (take 3 xs)) (drop-drop 1 4 b) ∙ tests.0)
      ∙ ap (λ xs. kind_number kind ∷ 0 ∷ 0 ∷ 0 ∷ take 32 xs) (drop-drop 4 4 b) in
      subst (λ (x : Entry). IsEntry g x × (b ≡ entry_bytes x)) same
      (entry, numbers_are 4 b (omega (arith, len)) low ∙ ap (λ xs. little_bytes 4 (field b 0 4) ++ xs) behind)

  entry_spelled : (g : Geometry) (b : List ℕ) (e : Entry) → length b ≡ 40 → AreBytes b → entry_of g b ≡ Some e → IsEntry g e × (b ≡ entry_bytes e)
  unfolding entry_of
  entry_spelled g b e len low read = entry_again g b e (kind_of (field b 4 1)) len low refl read

  -- entries that read are spelled one behind the other
  abbrev AreAgain : Geometry → ℕ → List ℕ → List Entry → Type 0
  AreAgain g n b es = (length es ≡ n) × AreEntries g es × (b ≡ all_entry_bytes es ++ drop (40 * n) b)

  one_more : (g : Geometry) (n : ℕ) (b : List ℕ) (es : List Entry) (x : Option Entry) (xs : Option (List Entry)) → 40 * suc n ≤ length b → AreBytes b → entry_of g (take 40 b) ≡ x
      → ((rest : List Entry) → xs ≡ Some rest → AreAgain g n (drop 40 b) rest) → then_entry x xs ≡ Some es → AreAgain g (suc n) b es
  one_more g n b es None xs few low first others e = cc
  one_more g n b es (Some x) None few low first others e = cc
  one_more g n b es (Some x) (Some xs) few low first others e =
      let entry = entry_spelled g (take 40 b) x (length-take-le 40 b (omega (arith, few))) (bytes_take 40 b low) first in
      let rest = others xs refl in
      let end : drop (40 * n) (drop 40 b) ≡ drop (40 * suc n) b = drop-drop (40 * n) 40 b ∙ ap (λ k. drop k b) {x = 40 + 40 * n} {y = 40 * suc n} (omega arith) in
      subst (AreAgain g (suc n) b) (same_Some _ _ e) (
        ap suc rest.0,
        (entry.0, rest.1),
        sym (take-append-drop 40 b) ∙ ap₂ ◌++◌ entry.1 (rest.2 ∙ ap (λ t. all_entry_bytes xs ++ t) end) ∙ sym (append_assoc (entry_bytes x) (all_entry_bytes xs) (drop (40 * suc n) b)),
      )

  entries_again : (g : Geometry) (n : ℕ) (b : List ℕ) (es : List Entry) → 40 * n ≤ length b → AreBytes b → entries_in g n b ≡ Some es → AreAgain g n b es
  entries_again g zero b es few low e = subst (AreAgain g zero b) (same_Some _ _ e) (refl, tt, refl)
  entries_again g (suc n) b es few low e =
      one_more g n b es (entry_of g (take 40 b)) (entries_in g n (drop 40 b)) few low refl
      (λ rest f. entries_again g n (drop 40 b) rest (omega (arith, few, length-drop 40 b)) (bytes_drop 40 b low) f) e

  -- Descriptors.

  abbrev descriptor_from : List ℕ → List Entry → Descriptor
  descriptor_from b es = record { epoch = field b 8 8; number = field b 16 8; index = field b 24 4; entries = es }

  -- what reads as a descriptor passed its tests, and so did its entries
  descriptor_tests : (g : Geometry) (b : List ℕ) (d : Descriptor) → descriptor_of g b ≡ Some d
      → (is_sealed b ≡ true) × (descriptor_fits b ≡ true) × (es : List Entry) × (entries_in g (field b 28 4) (drop 32 b) ≡ Some es) × (descriptor_from b es ≡ d)
  unfolding descriptor_of
  descriptor_tests g b d e =
      let inner = when_inner (is_sealed b) _ d e in
      let made = by (entries_in g (field b 28 4) (drop 32 b)) refl (when_inner (descriptor_fits b) _ d inner) in
      (when_some (is_sealed b) _ d e, when_some (descriptor_fits b) _ d inner, made.0, made.1, made.2)
    where
      by : (o : Option (List Entry)) → entries_in g (field b 28 4) (drop 32 b) ≡ o → descriptor_with b o ≡ Some d → (es : List Entry) × (entries_in g (field b 28 4) (drop 32 b) ≡ Some es) × (descriptor_from b es ≡ d)
      by None is e = cc
      by (Some es) is e = (es, is, same_Some _ _ e)

  descriptor_again : (b : List ℕ) (es : List Entry) → length b ≡ 1024 → AreBytes b → take 8 b ≡ descriptor_tag → length es ≡ field b 28 4 → length es ≤ 24 → drop 32 b ≡ all_entry_bytes es ++ drop (40 * length es) (drop 32 b)
      → has_zeros b (32 + 40 * length es) 992 ≡ true → Goes b 0 (descriptor_body (descriptor_from b es))
  descriptor_again b es len low tag count few entries zeros =
      let n = length es in
      let room : 992 - (32 + 40 * n) ≡ 960 - 40 * n = omega arith in
      let last : Goes b (32 + 40 * n) (replicate (960 - 40 * n) 0) =
      zeros_last (32 + 40 * n) (960 - 40 * n) b (omega (arith, few)) len (ap (λ k. are_zeros (take k (drop (32 + 40 * n) b))) (sym room) ∙ zeros) in
      let behind : Goes b 32 (all_entry_bytes es ++ replicate (960 - 40 * n) 0) = record {
        is = entries ∙ ap (λ t. all_entry_bytes es ++ t) (drop-drop (40 * n) 32 b ∙ last.is) ∙ sym (append_assoc (all_entry_bytes es) (replicate (960 - 40 * n) 0) (drop 992 b));
      } in
      tag_then descriptor_tag b _ tag
      (number_then 8 8 _ b _ (omega (arith, len)) low refl
      (number_then 8 16 _ b _ (omega (arith, len)) low refl
      (number_then 4 24 _ b _ (omega (arith, len)) low refl
      (number_then 4 28 n b _ (omega (arith, len)) low (sym count) behind))))

  pub descriptor_spelled : (g : Geometry) (b : List ℕ) (d : Descriptor) → length b ≡ 1024 → AreBytes b → descriptor_of g b ≡ Some d → IsDescriptor g d × (b ≡ descriptor_block d)
  descriptor_spelled g b d len low e =
      let tests = descriptor_tests g b d e in
      let es = tests.2 in
      let tag = and_parts (has_tag descriptor_tag b) _ tests.1 in
      let upto = and_parts (nat_le (field b 28 4) 24) _ tag.1 in
      let some = and_parts (nat_lt 0 (field b 28 4)) _ upto.1 in
      let count : field b 28 4 ≤ 24 = leb-true (field b 28 4) 24 upto.0 in
      let again = entries_again g (field b 28 4) (drop 32 b) es (omega (arith, len, count, length-drop 32 b)) (bytes_drop 32 b low) tests.3 in
      let few : length es ≤ 24 = omega (arith, again.0, count) in
      let is : IsDescriptor g (descriptor_from b es) = record {
        epoch = little_from-lt 0 8 (drop 8 b) (bytes_drop 8 b low);
        number = little_from-lt 0 8 (drop 16 b) (bytes_drop 16 b low);
        index = little_from-lt 0 4 (drop 24 b) (bytes_drop 24 b low);
        some = omega (arith, again.0, ltb-true 0 (field b 28 4) some.0);
        few = few;
        entries = again.1;
      } in
      let body = descriptor_again b es len low (tag_is descriptor_tag b tag.0) again.0 few (again.2 ∙ ap (λ n. all_entry_bytes es ++ drop (40 * n) (drop 32 b)) (sym again.0)) (ap (λ n. has_zeros b (32 + 40 * n) 992) again.0 ∙ some.1) in
      subst (λ (k : Descriptor). IsDescriptor g k × (b ≡ descriptor_block k)) tests.4
      (is, whole b (descriptor_body (descriptor_from b es)) (descriptor_length (descriptor_from b es) g again.1 few) body tests.0)
