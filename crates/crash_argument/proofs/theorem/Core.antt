-- An image stands for the map after some of the records.
use Rattle.std.proofs.Common.{◌≡◌, ◌⊎◌, inl, inr, ⊎_elim, ℕ, zero, suc, ◌+◌, ◌-◌, ◌/◌, ◌%◌, ◌<◌, ◌≤◌, nat_le, nat_lt, ◌&&◌, ◌||◌, slice_index, Bool, true, false, IsTrue, if◌then◌else◌, ◌==◌, List, [], ◌∷◌, length, Option, Some, None, slice_get, refl, sym, ◌∙◌, ap, subst, arith, length-append}
use Rattle.std.proofs.lemmas.Bool.{cases_lt, cases_Bool, and_from, and_parts, leb-true, ltb-true, le-leb, lt-ltb, le-ltb, cond-true, cond-false, or_left}
use Rattle.std.proofs.lemmas.Option.{none-some, same_Some, slice_get_within}
use Rattle.std.specs.Int.{bit_at}
use Rattle.base_types.specs.Seal.{Blocks, sha256}
use Rattle.disk_contract.specs.Cell.{Cell}
use Rattle.disk_contract.specs.declared.event.Event.{Event}
use Rattle.layout_geometry.specs.Geometry.{Geometry, ring_block, data_start, bitmap_start}
use Rattle.layout_journal.specs.declared.header.Header.{Header}
use Rattle.layout_journal.specs.declared.record.Commit.{Commit}
use Rattle.layout_journal.specs.declared.record.Descriptor.{Descriptor}
use Rattle.layout_journal.specs.declared.entry.Entry.{Entry}
use Rattle.layout_journal.specs.Layout.{header_of, commit_of, descriptor_of, descriptor_count, unescaped}
use Rattle.layout_bytes.specs.Bitmap.{is_set}
use Rattle.layout_journal.specs.Run.{entries_fit, Newest, Record, entries, heads, places, commit_says, descriptor_says, Fits, IsWhole, AreConsecutive, AreWhole, AreLetIn, payload_from, payload_of, names_block, or_else, covered_by, is_live, live_part}
use Rattle.crash_argument.specs.JournalLaws.{JournalLaws}
use Rattle.crash_argument.specs.Ledger.{Ledger, WrittenRecord, IsIssued, IsSpelled, IsStanding, FitsRecords, HeadersAlternate, NumbersUsedOnce, block_at, all_say, payload_among, payload_in, cover}
use Rattle.crash_argument.proofs.log.Lists.{inspect, bytes_same, decide_below, get_some}
use Rattle.crash_argument.proofs.theorem.Images.{IsFaithful, idle_settled, idle_latest, sealed_stands}

-- the newest header of the image is a standing one
pub record Found (l : Ledger) (img : Blocks) : Type 0 where
  pub slot : ℕ
  pub header : Header
  pub standing : IsStanding l header
  pub newest : Newest l.geom.n img slot header

-- all blocks of the record are in the image
pub record Stands (l : Ledger) (img : Blocks) (h : Header) (w : WrittenRecord) : Type 0 where
  pub ring : (i : ℕ) → i < places w.says → img (ring_block l.geom (w.says.place + i)) ≡ block_at w.ring i
  pub fresh : h.sure < w.says.number → (i : ℕ) (e : Entry) → slice_get w.says.fresh i ≡ Some e → img e.block ≡ block_at w.fresh i

module _ (laws : JournalLaws) (cells : ℕ → Cell) (l : Ledger) (img : Blocks) (f : IsFaithful cells l img) where
  -- the newest header of a faithful image is a standing one
  pub find_newest : HeadersAlternate cells l → Found l img
  find_newest a = ⊎_elim none some (inspect (header_of l.geom.n (img (1 - l.slot))))
    where
      here : header_of l.geom.n (img l.slot) ≡ Some l.header
      here = ap (header_of l.geom.n) (idle_settled cells l img l.slot (f.slots l.slot a.is_slot) f a.alone) ∙ a.durable

      none : header_of l.geom.n (img (1 - l.slot)) ≡ None → Found l img
      none e = record { slot = l.slot; header = l.header; standing = inl refl; newest = record { is_slot = a.is_slot; stands = here; other = λ k is. cc } }

      some : (k : Header) × (header_of l.geom.n (img (1 - l.slot)) ≡ Some k) → Found l img
      some p =
          let stands = sealed_stands cells l img (1 - l.slot) (f.slots (1 - l.slot) (omega arith)) f (laws.header_sealed l.geom.n _ p.0 p.1) in
          ⊎_elim (λ old. record { slot = l.slot; header = l.header; standing = inl refl; newest = record { is_slot = a.is_slot; stands = here; other = λ k is. inl (subst (λ (h : Header). h.turn < l.header.turn) (same_Some _ _ (sym p.1 ∙ is)) old) } })
          (λ new. record { slot = 1 - l.slot; header = p.0; standing = inr new; newest = record { is_slot = omega arith; stands = p.1; other = λ k is. inl (subst (λ (h : Header). h.turn < p.0.turn) (same_Some _ _ (sym here ∙ ap (λ s. header_of l.geom.n (img s)) (sym (omega (arith, a.is_slot))) ∙ is)) (a.newer p.0 new)) } })
          (a.other _ p.0 stands p.1)

  -- whether the bytes of a fresh entry are in the image is decided
  decide_fresh : (w : WrittenRecord) (i : ℕ) → ((e : Entry) → slice_get w.says.fresh i ≡ Some e → img e.block ≡ block_at w.fresh i) ⊎ ¬ ((e : Entry) → slice_get w.says.fresh i ≡ Some e → img e.block ≡ block_at w.fresh i)
  decide_fresh w i = ⊎_elim (λ none. inl (λ e is. absurd (none-some e (sym none ∙ is)))) (λ p. ⊎_elim (λ yes. inl (λ e is. subst (λ (x : Entry). img x.block ≡ block_at w.fresh i) (same_Some _ _ (sym p.1 ∙ is)) yes)) (λ no. inr (λ all. no (all p.0 p.1))) (bytes_same (img p.0.block) (block_at w.fresh i))) (inspect (slice_get w.says.fresh i))

  -- and so is whether all blocks of a record do
  pub decide_stands : (h : Header) (w : WrittenRecord) → Stands l img h w ⊎ ¬ Stands l img h w
  decide_stands h w =
      ⊎_elim (λ ring. ⊎_elim (λ late. ⊎_elim (λ all. inl (record { ring = ring; fresh = λ _ i e is. all i (slice_get_within w.says.fresh i e is) e is })) (λ some. inr (λ s. some.2 (λ e is. s.fresh late some.0 e is))) (decide_below (λ i. (e : Entry) → slice_get w.says.fresh i ≡ Some e → img e.block ≡ block_at w.fresh i) (decide_fresh w) (length w.says.fresh)))
      (λ early. inl (record { ring = ring; fresh = λ late. absurd (omega arith) })) (cases_lt h.sure w.says.number))
      (λ some. inr (λ s. some.2 (s.ring some.0 some.1)))
      (decide_below (λ i. img (ring_block l.geom (w.says.place + i)) ≡ block_at w.ring i) (λ i. bytes_same _ _) (places w.says))

  -- a record whose blocks stand is whole
  pub stands_whole : (h : Header) (w : WrittenRecord) → h.geom ≡ l.geom → h.epoch ≡ l.epoch → IsSpelled l.geom l.epoch w → Stands l img h w → IsWhole img h w.says
  stands_whole h w geom epoch spelled s = record {
    fit = subst (λ (g : Geometry). IsTrue (entries_fit g w.says)) (sym geom) spelled.fit;
    commit = ap (λ g. commit_of g (img (ring_block g w.says.place))) geom ∙ ap (λ p. commit_of l.geom (img (ring_block l.geom p))) {x = w.says.place} {y = w.says.place + 0} (omega arith) ∙ ap (commit_of l.geom) (s.ring 0 (omega arith)) ∙ spelled.commit ∙ ap (λ n. Some (commit_says n w.says)) (sym epoch);
    descriptors = λ i lt. ap (λ g. descriptor_of g (img (ring_block g (w.says.place + 1 + i)))) geom ∙ ap (λ p. descriptor_of l.geom (img (ring_block l.geom p))) {x = w.says.place + 1 + i} {y = w.says.place + (1 + i)} (omega arith) ∙ ap (descriptor_of l.geom) (s.ring (1 + i) (omega arith)) ∙ spelled.descriptors i lt ∙ ap (λ n. Some (descriptor_says n w.says i)) (sym epoch);
    payloads = λ i e is.
        let at : img (ring_block h.geom (w.says.place + heads w.says + i)) ≡ block_at w.ring (heads w.says + i) = ap (λ (g : Geometry). img (ring_block g (w.says.place + heads w.says + i))) geom ∙ ap (λ p. img (ring_block l.geom p)) {x = w.says.place + heads w.says + i} {y = w.says.place + (heads w.says + i)} (omega arith) ∙ s.ring (heads w.says + i) (omega (arith, slice_get_within w.says.payloads i e is)) in
        subst (λ (x : List ℕ). Fits e x) (sym at) (spelled.payloads i e is);
    fresh = λ late i e is. ap sha256 (s.fresh late i e is) ∙ spelled.fresh i e is;
  }

  -- a whole record with the number and the place of one that was written is that one, and all its blocks stand
  pub whole_stands : (h : Header) (w : WrittenRecord) (r : Record) (k : ℕ) → FitsRecords l h → IsSpelled l.geom l.epoch w → NumbersUsedOnce cells l
      → slice_get l.records k ≡ Some w → k ≡ r.number - l.header.start → l.header.start ≤ r.number → r.number ≡ w.says.number → r.place ≡ w.says.place → IsWhole img h r → Stands l img h w
  whole_stands h w r k fits spelled once is k_is from number place whole = record { ring = ring; fresh = fresh }
    where
      got : slice_get l.records (r.number - l.header.start) ≡ Some w
      got = ap (slice_get l.records) (sym k_is) ∙ is

      commit_in : commit_of l.geom (img (ring_block l.geom r.place)) ≡ Some (commit_says h.epoch r)
      commit_in = ap (λ (g : Geometry). commit_of g (img (ring_block g r.place))) (sym fits.geom) ∙ whole.commit

      first : img (ring_block l.geom r.place) ≡ block_at w.ring 0
      first =
          let found = once.commit r.place _ _ (sealed_stands cells l img _ (f.places_in _) f (laws.commit_sealed l.geom _ _ commit_in)) commit_in fits.epoch from in
          found.2 ∙ ap (λ (v : WrittenRecord). block_at v.ring 0) (same_Some _ _ (sym found.1 ∙ got))

      commits : Some (commit_says h.epoch r) ≡ Some (commit_says l.epoch w.says)
      commits = sym commit_in ∙ ap (commit_of l.geom) first ∙ spelled.commit

      m_same : length r.payloads ≡ length w.says.payloads
      m_same = ap (λ (c : Commit). c.payloads) (same_Some _ _ commits)

      n_same : length r.fresh ≡ length w.says.fresh
      n_same = ap (λ (c : Commit). c.fresh) (same_Some _ _ commits)

      d_same : descriptor_count (length (entries r)) ≡ descriptor_count (length (entries w.says))
      d_same = ap descriptor_count {x = length (entries r)} {y = length (entries w.says)} (omega (arith, m_same, n_same, length-append r.payloads r.fresh, length-append w.says.payloads w.says.fresh))

      heads_same : heads r ≡ heads w.says
      heads_same = ap (λ n. 1 + n) d_same

      descriptor_in : (i : ℕ) → i < descriptor_count (length (entries r)) → descriptor_of l.geom (img (ring_block l.geom (r.place + 1 + i))) ≡ Some (descriptor_says h.epoch r i)
      descriptor_in i lt = ap (λ (g : Geometry). descriptor_of g (img (ring_block g (r.place + 1 + i)))) (sym fits.geom) ∙ whole.descriptors i lt

      head : (i : ℕ) → i < descriptor_count (length (entries r)) → img (ring_block l.geom (r.place + 1 + i)) ≡ block_at w.ring (1 + i)
      head i lt = once.descriptor (r.place + 1 + i) _ _ w (sealed_stands cells l img _ (f.places_in _) f (laws.descriptor_sealed l.geom _ _ (descriptor_in i lt))) (descriptor_in i lt) fits.epoch from got

      parts : (r.payloads ≡ w.says.payloads) × (r.fresh ≡ w.says.fresh)
      parts = laws.told_entries r w.says m_same n_same (λ i lt.
          ap (λ (d : Descriptor). d.entries) (same_Some _ _ (sym (descriptor_in i lt) ∙ ap (descriptor_of l.geom) (head i lt) ∙ spelled.descriptors i (omega (arith, lt, d_same)))))

      place_at : (i : ℕ) → img (ring_block l.geom (w.says.place + i)) ≡ img (ring_block l.geom (r.place + i))
      place_at i = ap (λ p. img (ring_block l.geom (p + i))) (sym place)

      payload : (j : ℕ) → j < length w.says.payloads → img (ring_block l.geom (w.says.place + (heads w.says + j))) ≡ block_at w.ring (heads w.says + j)
      payload j lt =
          let e = get_some w.says.payloads j lt in
          let here : img (ring_block h.geom (r.place + heads r + j)) ≡ img (ring_block l.geom (w.says.place + (heads w.says + j))) =
          ap (λ (g : Geometry). img (ring_block g (r.place + heads r + j))) fits.geom ∙ ap (λ p. img (ring_block l.geom p)) {x = r.place + heads r + j} {y = w.says.place + (heads w.says + j)} (omega (arith, place, heads_same)) in
          let in_image = whole.payloads j e.0 (ap (λ (es : List Entry). slice_get es j) parts.0 ∙ e.1) in
          f.ring k (heads w.says + j) w is (omega arith) (ap sha256 (sym here) ∙ in_image.digest ∙ sym (spelled.payloads j e.0 e.1).digest)

      zero_in : (i : ℕ) → i ≡ 0 → img (ring_block l.geom (w.says.place + i)) ≡ block_at w.ring i
      zero_in i e = ap (λ p. img (ring_block l.geom p)) (omega arith) ∙ first ∙ ap (block_at w.ring) (sym e)

      head_in : (i j : ℕ) → i ≡ 1 + j → j < descriptor_count (length (entries r)) → img (ring_block l.geom (w.says.place + i)) ≡ block_at w.ring i
      head_in i j e lt = ap (λ p. img (ring_block l.geom p)) (omega arith) ∙ head j lt ∙ ap (block_at w.ring) (sym e)

      payload_at : (i j : ℕ) → i ≡ heads w.says + j → j < length w.says.payloads → img (ring_block l.geom (w.says.place + i)) ≡ block_at w.ring i
      payload_at i j e lt = ap (λ n. img (ring_block l.geom (w.says.place + n))) e ∙ payload j lt ∙ ap (block_at w.ring) (sym e)

      ring : (i : ℕ) → i < places w.says → img (ring_block l.geom (w.says.place + i)) ≡ block_at w.ring i
      ring zero lt = zero_in 0 refl
      ring (suc j) lt =
          ⊎_elim (λ low. head_in (suc j) j (omega arith) (omega (arith, low, d_same)))
          (λ high. payload_at (suc j) (suc j - heads w.says) (omega (arith, high)) (omega (arith, high)))
          (cases_lt j (descriptor_count (length (entries w.says))))

      fresh : h.sure < w.says.number → (i : ℕ) (e : Entry) → slice_get w.says.fresh i ≡ Some e → img e.block ≡ block_at w.fresh i
      fresh late i e at =
          f.fresh k i w e is at (omega (arith, fits.sure_grows)) (whole.fresh (omega arith) i e (ap (λ (es : List Entry). slice_get es i) parts.1 ∙ at) ∙ sym (spelled.fresh i e at))

  -- a record that is known stands
  pub known_stands : (base : Blocks) (log : List Event) (h : Header) (w : WrittenRecord) → FitsRecords l h → IsIssued base cells log l w → w.says.number < l.known → Stands l img h w
  known_stands base log h w fits issue low = record {
    ring = λ i lt. idle_latest cells l img _ (f.places_in _) f (issue.intact low i lt) ∙ issue.ring i lt;
    fresh = λ late i e is. let later : l.header.sure < w.says.number = omega (arith, fits.sure_grows) in idle_latest cells l img _ (laws.fresh_below l.geom w.says i e issue.spelled.fit is) f (issue.intact_fresh later low i e is) ∙ issue.fresh later i e is;
  }

  -- a payload is read from the ring as it was written
  payload_same : (p i : ℕ) (blocks : List (List ℕ)) (es : List Entry) (b : ℕ) → ((j : ℕ) → j < length es → img (ring_block l.geom (p + j)) ≡ block_at blocks (i + j)) → payload_from l.geom img p es b ≡ payload_among blocks i es b
  payload_same p i blocks [] b at = refl
  payload_same p i blocks (e ∷ es) b at =
      let first : img (ring_block l.geom p) ≡ block_at blocks i = ap (λ q. img (ring_block l.geom q)) (omega arith) ∙ at 0 (omega arith) ∙ ap (block_at blocks) (sym (omega arith)) in
      ap (λ x. if e.block == b then Some (unescaped e.kind x) else payload_from l.geom img (p + 1) es b) first
      ∙ ap (λ x. if e.block == b then Some (unescaped e.kind (block_at blocks i)) else x)
      (payload_same (p + 1) (i + 1) blocks es b (λ j lt. ap (λ q. img (ring_block l.geom q)) (omega arith) ∙ at (suc j) (omega arith) ∙ ap (block_at blocks) (sym (omega arith))))

  -- so a payload of a record that stands is read as it was written
  pub payload_read : (h : Header) (w : WrittenRecord) (b : ℕ) → Stands l img h w → payload_of l.geom img w.says b ≡ payload_in w b
  payload_read h w b s = payload_same (w.says.place + heads w.says) (heads w.says) w.ring w.says.payloads b
      (λ j lt. ap (λ q. img (ring_block l.geom q)) (omega arith) ∙ s.ring (heads w.says + j) (omega (arith, lt)))

  -- and what records that stand leave in a block is read so too
  pub cover_read : (h : Header) (ws : List WrittenRecord) (before : Option (List ℕ)) (b : ℕ) → ((k : ℕ) (w : WrittenRecord) → slice_get ws k ≡ Some w → Stands l img h w) → covered_by l.geom img before (all_say ws) b ≡ cover before ws b
  cover_read h [] before b each = refl
  cover_read h (w ∷ ws) before b each =
      ap (λ x. covered_by l.geom img (or_else x (if names_block w.says.fresh b then None else before)) (all_say ws) b) (payload_read h w b (each 0 w refl))
      ∙ cover_read h ws _ b (λ k v is. each (suc k) v is)

  -- records of which each is whole are whole together
  pub whole_all : (h : Header) (ws : List WrittenRecord) → ((k : ℕ) (w : WrittenRecord) → slice_get ws k ≡ Some w → IsWhole img h w.says) → AreWhole img h (all_say ws)
  whole_all h [] each = tt
  whole_all h (w ∷ ws) each = (each 0 w refl, whole_all h ws (λ k v is. each (suc k) v is))

  -- a header lets consecutive records in where, if it is closed, none is past its `sure`
  pub let_in_all : (h : Header) (j n p : ℕ) (rs : List Record) → AreConsecutive j n p rs → (IsTrue h.closed → n + length rs ≤ h.sure + 1) → AreLetIn h rs
  let_in_all h j n p [] c within = tt
  let_in_all h j n p (r ∷ rs) c within = (λ closed. omega (arith, within closed, c.0), let_in_all h j (n + 1) ((p + places r) % j) rs c.2 (λ closed. omega (arith, within closed)))

-- live blocks lie within the disk
pub live_below : (g : Geometry) (m : Blocks) (b : ℕ) → IsTrue (is_live g m b) → b < g.n
live_below g m b live = ltb-true _ _ (and_parts _ _ (and_parts _ _ live).1).0

-- and behind the journal
pub live_from : (g : Geometry) (m : Blocks) (b : ℕ) → IsTrue (is_live g m b) → bitmap_start g ≤ b
live_from g m b live = leb-true _ _ (and_parts _ _ live).0

-- maps that agree where one is live have the same live blocks
module _ (g : Geometry) (m r : Blocks) (shape : data_start g ≤ g.n) (same : (b : ℕ) → IsTrue (is_live g m b) → r b ≡ m b) where
  -- the bitmap block that has the bit of a block lies before the data
  in_bitmap : (b : ℕ) → b < g.n → bitmap_start g + b / 8192 < data_start g
  in_bitmap b lt = omega (arith, part g.n b lt)
    where
      part : (n b : ℕ) → b < n → b / 8192 < (n + 8191) / 8192
      part n b lt = omega arith

  -- what lies between the journal and the data is live
  low_live : (b : ℕ) → bitmap_start g ≤ b → b < data_start g → IsTrue (is_live g m b)
  low_live b ge lt = and_from _ _ (le-leb _ _ ge) (and_from _ _ (lt-ltb _ _ (omega (arith, shape))) (or_left _ _ (lt-ltb _ _ lt)))

  -- the two maps have the same bits
  set_same : (b : ℕ) → b < g.n → is_set g r b ≡ is_set g m b
  set_same b lt = ap (λ (x : List ℕ). bit_at (slice_index x (b % 8192 / 8)) (b % 8) == 1) (same (bitmap_start g + b / 8192) (low_live _ (omega arith) (in_bitmap b lt)))

  -- so a block is live in both or in neither
  live_same : (b : ℕ) → is_live g r b ≡ is_live g m b
  live_same b = ⊎_elim (λ lt. ap (λ t. nat_le (bitmap_start g) b && (nat_lt b g.n && (nat_lt b (data_start g) || t))) (set_same b lt))
      (λ ge. beyond _ _ _ _ (le-ltb b g.n ge)) (cases_lt b g.n)
    where
      beyond : (p q s t : Bool) → q ≡ false → (p && (q && s)) ≡ (p && (q && t))
      beyond true true s t e = cc
      beyond true false s t e = refl
      beyond false q s t e = refl

  -- and their live parts are the same
  pub live_part_same : (b : ℕ) → live_part g m b ≡ live_part g r b
  live_part_same b = ⊎_elim (λ live. cond-true _ _ _ live ∙ sym (same b live) ∙ sym (cond-true _ _ _ (live_same b ∙ live)))
      (λ dead. cond-false _ _ _ dead ∙ sym (cond-false _ _ _ (live_same b ∙ dead))) (cases_Bool (is_live g m b))
