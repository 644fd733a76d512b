-- An image has one newest header, one run under a header, and holds one map.
use Rattle.std.proofs.Common.{◌≡◌, ◌⊎◌, inl, inr, ⊎_elim, ℕ, ◌+◌, ◌-◌, ◌%◌, ◌<◌, ◌≤◌, List, [], ◌∷◌, ◌++◌, length, Some, refl, sym, ◌∙◌, ap, subst, arith, length-append, append_assoc}
use Rattle.base_types.specs.Seal.{Blocks}
use Rattle.layout_geometry.specs.Geometry.{ring_block}
use Rattle.layout_journal.specs.declared.header.Header.{Header}
use Rattle.layout_journal.specs.declared.record.Commit.{Commit}
use Rattle.layout_journal.specs.declared.record.Descriptor.{Descriptor}
use Rattle.layout_journal.specs.declared.entry.Entry.{Entry}
use Rattle.layout_journal.specs.Layout.{header_of, commit_of, descriptor_of, descriptor_count}
use Rattle.layout_journal.specs.Run.{Newest, Record, entries, places, commit_says, IsWhole, AreConsecutive, AreWhole, AreLetIn, IsLetIn, IsRun, all_places, replayed, live_part, HeldIs}
use Rattle.layout_journal.proofs.SameEntries.{same_entries, same_parts}
use Rattle.std.proofs.lemmas.Option.{same_Some}

-- the newest header and its slot: of two in two slots, the greater turn or slot 0 decides
pub newest_same : (n : ℕ) (img : Blocks) (s t : ℕ) (h k : Header) → Newest n img s h → Newest n img t k → (s ≡ t) × (h ≡ k)
newest_same n img s t h k a b = ⊎_elim same apart (slots s t a.is_slot b.is_slot)
  where
    same : s ≡ t → (s ≡ t) × (h ≡ k)
    same e = (e, same_Some _ _ (sym a.stands ∙ ap (λ i. header_of n (img i)) e ∙ b.stands))

    slots : (i j : ℕ) → i < 2 → j < 2 → (i ≡ j) ⊎ ((1 - i ≡ j) × (1 - j ≡ i))
    slots i j p q = grind arith

    apart : (1 - s ≡ t) × (1 - t ≡ s) → (s ≡ t) × (h ≡ k)
    apart e = absurd (⊎_elim (λ lt. ⊎_elim (λ gt. omega arith) (λ eq. omega (arith, eq.0)) back) (λ eq. ⊎_elim (λ gt. omega (arith, eq.0)) (λ eq2. omega (arith, eq.1, eq2.1, e.0)) back) there)
      where
        there : (k.turn < h.turn) ⊎ ((k.turn ≡ h.turn) × (s ≡ 0))
        there = a.other k (ap (λ i. header_of n (img i)) e.0 ∙ b.stands)

        back : (h.turn < k.turn) ⊎ ((h.turn ≡ k.turn) × (t ≡ 0))
        back = b.other h (ap (λ i. header_of n (img i)) e.1 ∙ a.stands)

-- a whole record is described by its number and place
pub record_same : (img : Blocks) (h : Header) (r q : Record) → IsWhole img h r → IsWhole img h q → r.number ≡ q.number → r.place ≡ q.place → r ≡ q
record_same img h r q a b number place = ap {B = Record} (λ n. record { number = n; place = r.place; payloads = r.payloads; fresh = r.fresh }) number ∙ ap {B = Record} (λ p. record { number = q.number; place = p; payloads = r.payloads; fresh = r.fresh }) place ∙ ap {B = Record} (λ (es : List Entry). record { number = q.number; place = q.place; payloads = es; fresh = r.fresh }) parts.0 ∙ ap {B = Record} (λ (es : List Entry). record { number = q.number; place = q.place; payloads = q.payloads; fresh = es }) parts.1
  where
    commits : Some (commit_says h.epoch r) ≡ Some (commit_says h.epoch q)
    commits = sym a.commit ∙ ap (λ p. commit_of h.geom (img (ring_block h.geom p))) place ∙ b.commit

    m_same : length r.payloads ≡ length q.payloads
    m_same = ap (λ (c : Commit). c.payloads) (same_Some _ _ commits)

    n_same : length r.fresh ≡ length q.fresh
    n_same = ap (λ (c : Commit). c.fresh) (same_Some _ _ commits)

    all_same : length (entries r) ≡ length (entries q)
    all_same = omega (arith, m_same, n_same, length-append r.payloads r.fresh, length-append q.payloads q.fresh)

    entries_same : entries r ≡ entries q
    entries_same = same_entries (entries r) (entries q) all_same (λ i lt.
        ap (λ (d : Descriptor). d.entries) (same_Some _ _ (sym (a.descriptors i lt) ∙ ap (λ p. descriptor_of h.geom (img (ring_block h.geom (p + 1 + i)))) place ∙ b.descriptors i (omega (arith, lt, ap descriptor_count all_same)))))

    parts : (r.payloads ≡ q.payloads) × (r.fresh ≡ q.fresh)
    parts = same_parts r.payloads r.fresh q.payloads q.fresh m_same entries_same

-- the second list goes on where the first ends
pub record Longer (xs ys : List Record) : Type 0 where
  pub next : Record
  pub rest : List Record
  pub whole : ys ≡ xs ++ next ∷ rest

-- one of two lists goes on where the other ends, or they are the same
meet : (img : Blocks) (h : Header) (n p : ℕ) (xs ys : List Record) → AreConsecutive h.geom.j n p xs → AreConsecutive h.geom.j n p ys → AreWhole img h xs → AreWhole img h ys → (xs ≡ ys) ⊎ Longer xs ys ⊎ Longer ys xs
meet img h n p [] [] cx cy wx wy = inl refl
meet img h n p [] (y ∷ ys) cx cy wx wy = inr (inl (record { next = y; rest = ys; whole = refl }))
meet img h n p (x ∷ xs) [] cx cy wx wy = inr (inr (record { next = x; rest = xs; whole = refl }))
meet img h n p (x ∷ xs) (y ∷ ys) cx cy wx wy =
    let same = record_same img h x y wx.0 wy.0 (cx.0 ∙ sym cy.0) (cx.1 ∙ sym cy.1) in
    let later = meet img h (n + 1) ((p + places x) % h.geom.j) xs ys cx.2 (subst (λ (r : Record). AreConsecutive h.geom.j (n + 1) ((p + places r) % h.geom.j) ys) (sym same) cy.2) wx.1 wy.1 in
    ⊎_elim (λ e. inl (ap (λ (l : List Record). x ∷ l) e ∙ ap (λ (r : Record). r ∷ ys) same))
    (λ r. ⊎_elim (λ a. inr (inl (record { next = a.next; rest = a.rest; whole = ap (λ (l : List Record). y ∷ l) a.whole ∙ ap (λ (q : Record). q ∷ (xs ++ a.next ∷ a.rest)) (sym same) }))) (λ b. inr (inr (record { next = b.next; rest = b.rest; whole = ap (λ (l : List Record). x ∷ l) b.whole ∙ ap (λ (q : Record). q ∷ (ys ++ b.next ∷ b.rest)) same }))) r) later

-- the first of consecutive records are consecutive
front_consecutive : (j n p : ℕ) (xs ys : List Record) → AreConsecutive j n p (xs ++ ys) → AreConsecutive j n p xs
front_consecutive j n p [] ys h = tt
front_consecutive j n p (x ∷ xs) ys h = (h.0, h.1, front_consecutive j (n + 1) ((p + places x) % j) xs ys h.2)

-- and take no more places
front_places : (xs ys : List Record) → all_places xs ≤ all_places (xs ++ ys)
front_places [] ys = omega arith
front_places (x ∷ xs) ys = omega (arith, front_places xs ys)

-- each of them is whole
whole_at : (img : Blocks) (h : Header) (xs : List Record) (r : Record) (rest : List Record) → AreWhole img h (xs ++ r ∷ rest) → IsWhole img h r
whole_at img h [] r rest w = w.0
whole_at img h (x ∷ xs) r rest w = whole_at img h xs r rest w.1

-- and let in
let_in_at : (h : Header) (xs : List Record) (r : Record) (rest : List Record) → AreLetIn h (xs ++ r ∷ rest) → IsLetIn h r
let_in_at h [] r rest w = w.0
let_in_at h (x ∷ xs) r rest w = let_in_at h xs r rest w.1

-- no run goes on where another ends, since that one is the longest
too_long : (img : Blocks) (h : Header) (xs ys : List Record) → IsRun img h xs → IsRun img h ys → ¬ Longer xs ys
too_long img h xs ys a b more =
    let regroup : ys ≡ (xs ++ more.next ∷ []) ++ more.rest = more.whole ∙ sym (append_assoc xs (more.next ∷ []) more.rest) in
    a.longest more.next (record {
      next = front_consecutive h.geom.j h.start h.at (xs ++ more.next ∷ []) more.rest (subst (λ (l : List Record). AreConsecutive h.geom.j h.start h.at l) regroup b.consecutive);
      whole = whole_at img h xs more.next more.rest (subst (λ (l : List Record). AreWhole img h l) more.whole b.whole);
      let_in = let_in_at h xs more.next more.rest (subst (λ (l : List Record). AreLetIn h l) more.whole b.let_in);
      within = omega (arith, front_places (xs ++ more.next ∷ []) more.rest, ap all_places regroup, b.within);
    })

-- so there is one run under a header
pub run_same : (img : Blocks) (h : Header) (xs ys : List Record) → IsRun img h xs → IsRun img h ys → xs ≡ ys
run_same img h xs ys a b = ⊎_elim (λ e. e) (λ r. ⊎_elim (λ l. absurd (too_long img h xs ys a b l)) (λ l. absurd (too_long img h ys xs b a l)) r) (meet img h h.start h.at xs ys a.consecutive b.consecutive a.whole b.whole)

-- and one map that an image holds
pub held_same : (n : ℕ) (img m q : Blocks) → HeldIs n img m → HeldIs n img q → (b : ℕ) → m b ≡ q b
held_same n img m q a c b =
    let header = (newest_same n img a.slot c.slot a.header c.header a.newest c.newest).1 in
    let run = run_same img a.header a.run c.run a.is_run (subst (λ (h : Header). IsRun img h c.run) (sym header) c.is_run) in
    a.each b ∙ ap (λ (h : Header). live_part h.geom (replayed h.geom img a.run) b) header ∙ ap (λ (l : List Record). live_part c.header.geom (replayed c.header.geom img l) b) run ∙ sym (c.each b)
