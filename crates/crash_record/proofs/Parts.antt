-- What the commit block and the descriptors of a record say of its entries.
use Rattle.std.proofs.Common.{◌≡◌, ◌⊎◌, ⊎_elim, ℕ, ◌+◌, ◌-◌, ◌*◌, ◌/◌, ◌<◌, ◌≤◌, min, List, ◌++◌, length, take, drop, Some, refl, sym, ◌∙◌, ap, ap₂, subst, arith, length-append, length-take, length-drop, take_all, take-append-drop}
use Rattle.std.proofs.Math.Seq.{take-add, take-append_seam, drop-append_seam, take-append-le, drop-append-le}
use Rattle.std.proofs.lemmas.Option.{same_Some}
use Rattle.base_types.specs.Seal.{Blocks}
use Rattle.layout_geometry.specs.Geometry.{Geometry, ring_block}
use Rattle.layout_journal.specs.declared.header.Header.{Header}
use Rattle.layout_journal.specs.declared.record.Commit.{Commit}
use Rattle.layout_journal.specs.declared.record.Descriptor.{Descriptor}
use Rattle.layout_journal.specs.declared.entry.Entry.{Entry}
use Rattle.layout_journal.specs.Layout.{commit_of, IsWithinRing, descriptor_of, descriptor_count}
use Rattle.layout_journal.specs.Run.{Record, entries, commit_says}
use Rattle.crash_record.specs.Found.{IsOnly, IsDescribed, HasCommit, HasPart, HasParts}

-- commit blocks are the same where their fields are
commit_same : (c d : Commit) → c.epoch ≡ d.epoch → c.number ≡ d.number → c.descriptors ≡ d.descriptors → c.payloads ≡ d.payloads → c.fresh ≡ d.fresh → c ≡ d
commit_same c d epoch number descriptors payloads fresh =
    ap {B = Commit} (λ x. record { epoch = x; number = c.number; descriptors = c.descriptors; payloads = c.payloads; fresh = c.fresh }) epoch
    ∙ ap {B = Commit} (λ x. record { epoch = d.epoch; number = x; descriptors = c.descriptors; payloads = c.payloads; fresh = c.fresh }) number
    ∙ ap {B = Commit} (λ x. record { epoch = d.epoch; number = d.number; descriptors = x; payloads = c.payloads; fresh = c.fresh }) descriptors
    ∙ ap {B = Commit} (λ x. record { epoch = d.epoch; number = d.number; descriptors = d.descriptors; payloads = x; fresh = c.fresh }) payloads
    ∙ ap {B = Commit} (λ x. record { epoch = d.epoch; number = d.number; descriptors = d.descriptors; payloads = d.payloads; fresh = x }) fresh

-- and so are records
record_same : (r q : Record) → r.number ≡ q.number → r.place ≡ q.place → r.payloads ≡ q.payloads → r.fresh ≡ q.fresh → r ≡ q
record_same r q number place payloads fresh =
    ap {B = Record} (λ x. record { number = x; place = r.place; payloads = r.payloads; fresh = r.fresh }) number
    ∙ ap {B = Record} (λ x. record { number = q.number; place = x; payloads = r.payloads; fresh = r.fresh }) place
    ∙ ap {B = Record} (λ (x : List Entry). record { number = q.number; place = q.place; payloads = x; fresh = r.fresh }) payloads
    ∙ ap {B = Record} (λ (x : List Entry). record { number = q.number; place = q.place; payloads = q.payloads; fresh = x }) fresh

-- the law of the journal on the numbers of commit blocks
abbrev pub CommitsKeep : Type 0
CommitsKeep = (g : Geometry) (b : List ℕ) (c : Commit) → commit_of g b ≡ Some c → IsWithinRing g c

module _ (img : Blocks) (h : Header) (number place : ℕ) where
  -- the commit block at the place of a described record is what it says
  pub described_commit : (c : Commit) (r : Record) → HasCommit img h number place c → r.place ≡ place → IsDescribed img h r → commit_says h.epoch r ≡ c
  described_commit c r has at described = same_Some _ _ (sym described.commit ∙ ap (λ p. commit_of h.geom (img (ring_block h.geom p))) at ∙ has.stands)

  -- where no commit block fits, no record is described
  pub no_commit : ((c : Commit) → ¬ HasCommit img h number place c) → (r : Record) → r.number ≡ number → r.place ≡ place → ¬ IsDescribed img h r
  no_commit none r is at described = none (commit_says h.epoch r) (record { stands = sym (ap (λ p. commit_of h.geom (img (ring_block h.geom p))) at) ∙ described.commit; epoch = refl; is_number = is })

  -- each descriptor of a described record has its part of the entries
  described_part : (r : Record) (k : ℕ) → r.number ≡ number → r.place ≡ place → IsDescribed img h r → k < descriptor_count (length (entries r)) → HasPart img h number place k (take 24 (drop (24 * k) (entries r)))
  described_part r k is at described lt =
      sym (ap (λ p. descriptor_of h.geom (img (ring_block h.geom (p + 1 + k)))) at) ∙ described.descriptors k lt
      ∙ ap (λ n. Some (record { epoch = h.epoch; number = n; index = k; entries = take 24 (drop (24 * k) (entries r)) })) is

  -- a descriptor has one list of entries
  part_same : (k : ℕ) (es fs : List Entry) → HasPart img h number place k es → HasPart img h number place k fs → es ≡ fs
  part_same k es fs a b = ap (λ (d : Descriptor). d.entries) (same_Some _ _ (sym a ∙ b))

  -- how many entries a described record has
  total_is : (c : Commit) (r : Record) → HasCommit img h number place c → r.place ≡ place → IsDescribed img h r → length (entries r) ≡ c.payloads + c.fresh
  total_is c r has at described =
      let same = described_commit c r has at described in
      length-append r.payloads r.fresh ∙ ap₂ (λ m n. m + n) (ap (λ (x : Commit). x.payloads) same) (ap (λ (x : Commit). x.fresh) same)

  -- where a descriptor is missing, no record is described
  pub no_part : (c : Commit) (k : ℕ) → HasCommit img h number place c → k < c.descriptors → ((es : List Entry) → ¬ HasPart img h number place k es)
      → (r : Record) → r.number ≡ number → r.place ≡ place → ¬ IsDescribed img h r
  no_part c k has lt none r is at described =
      none (take 24 (drop (24 * k) (entries r))) (described_part r k is at described (subst (λ n. k < n) (sym (ap (λ (x : Commit). x.descriptors) (described_commit c r has at described))) lt))

  -- so it is where one has too few or too many entries
  pub bad_part : (c : Commit) (k : ℕ) (es new : List Entry) → HasCommit img h number place c → k < c.descriptors → HasParts img h number place (c.payloads + c.fresh) k es
      → HasPart img h number place k new → (length new ≡ min 24 (c.payloads + c.fresh - length es) → ⊥)
      → (r : Record) → r.number ≡ number → r.place ≡ place → ¬ IsDescribed img h r
  bad_part c k es new has lt parts part other r is at described =
      let all = total_is c r has at described in
      let few : k < descriptor_count (length (entries r)) = subst (λ n. k < n) (sym (ap (λ (x : Commit). x.descriptors) (described_commit c r has at described))) lt in
      let same = part_same k new _ part (described_part r k is at described few) in
      other (ap length same ∙ length-take 24 (drop (24 * k) (entries r)) ∙ ap (λ n. min 24 n) (length-drop (24 * k) (entries r)) ∙ ap (λ n. min 24 n) (counts k (length es) (length (entries r)) (c.payloads + c.fresh) all parts.count few))
    where
      counts : (k l e t : ℕ) → e ≡ t → l ≡ min (24 * k) t → k < (e + 23) / 24 → e - 24 * k ≡ t - l
      counts k l e t p q lt = omega arith

  -- one part more
  pub parts_more : CommitsKeep → (c : Commit) (k : ℕ) (es new : List Entry) → HasCommit img h number place c → k < c.descriptors → HasParts img h number place (c.payloads + c.fresh) k es
      → HasPart img h number place k new → length new ≡ min 24 (c.payloads + c.fresh - length es)
      → HasParts img h number place (c.payloads + c.fresh) (k + 1) (es ++ new)
  parts_more keep c k es new has lt parts part len =
      let total = c.payloads + c.fresh in
      let few : k < (total + 23) / 24 = subst (λ n. k < n) ((keep h.geom _ c has.stands).descriptors) lt in
      let full : length es ≡ 24 * k = filled k (length es) total parts.count few in
      let short : length new ≤ 24 = omega (arith, len) in
      record {
        count = length-append es new ∙ grown k (length es) (length new) total parts.count len few;
        each = λ i below. ⊎_elim
            (λ eq. subst (λ j. HasPart img h number place j (take 24 (drop (24 * j) (es ++ new)))) (sym eq)
            (subst (HasPart img h number place k) (sym (last k full short)) part))
            (λ under. subst (HasPart img h number place i) (sym (front k i full under)) (parts.each i under)) (split k i below);
        alone = λ r is at described.
            let all = total_is c r has at described in
            let same = part_same k new _ part (described_part r k is at described (subst (λ n. k < (n + 23) / 24) (sym all) few)) in
            ap₂ (λ (a b : List Entry). a ++ b) (parts.alone r is at described) same ∙ sym (take-add (24 * k) 24 (entries r)) ∙ ap (λ n. take n (entries r)) (next k);
      }
    where
      filled : (k l t : ℕ) → l ≡ min (24 * k) t → k < (t + 23) / 24 → l ≡ 24 * k
      filled k l t p lt = omega arith

      grown : (k l n t : ℕ) → l ≡ min (24 * k) t → n ≡ min 24 (t - l) → k < (t + 23) / 24 → l + n ≡ min (24 * (k + 1)) t
      grown k l n t p q lt = omega arith

      next : (k : ℕ) → 24 * k + 24 ≡ 24 * (k + 1)
      next k = omega arith

      split : (k i : ℕ) → i < k + 1 → (i ≡ k) ⊎ (i < k)
      split k i lt = grind arith

      last : (k : ℕ) → length es ≡ 24 * k → length new ≤ 24 → take 24 (drop (24 * k) (es ++ new)) ≡ new
      last k full short = ap (λ n. take 24 (drop n (es ++ new))) (sym full) ∙ ap (take 24) (drop-append_seam es new) ∙ take_all 24 new short

      front : (k i : ℕ) → length es ≡ 24 * k → i < k → take 24 (drop (24 * i) (es ++ new)) ≡ take 24 (drop (24 * i) es)
      front k i full lt = ap (take 24) (drop-append-le (24 * i) es new (omega arith)) ∙ take-append-le 24 (drop (24 * i) es) new (omega (arith, length-drop (24 * i) es))

  -- there are enough entries for the payloads
  pub enough : CommitsKeep → (c : Commit) (es : List Entry) → HasCommit img h number place c → HasParts img h number place (c.payloads + c.fresh) c.descriptors es → length es ≡ c.payloads + c.fresh
  enough keep c es has parts = all (length es) c.descriptors (c.payloads + c.fresh) parts.count ((keep h.geom _ c has.stands).descriptors)
    where
      all : (l d t : ℕ) → l ≡ min (24 * d) t → d ≡ (t + 23) / 24 → l ≡ t
      all l d t p q = omega arith

  -- the entries of all descriptors are those of the one record that is described
  pub described_is : CommitsKeep → (c : Commit) (es : List Entry) (r : Record) → HasCommit img h number place c → HasParts img h number place (c.payloads + c.fresh) c.descriptors es
      → r ≡ record { number = number; place = place; payloads = take c.payloads es; fresh = drop c.payloads es } → IsOnly (IsDescribed img h) number place r
  described_is keep c es r has parts is = subst (IsOnly (IsDescribed img h) number place) (sym is) only
    where
      all : length es ≡ c.payloads + c.fresh
      all = enough keep c es has parts

      whole : take c.payloads es ++ drop c.payloads es ≡ es
      whole = take-append-drop c.payloads es

      m_is : length (take c.payloads es) ≡ c.payloads
      m_is = length-take c.payloads es ∙ omega (arith, all)

      n_is : length (drop c.payloads es) ≡ c.fresh
      n_is = length-drop c.payloads es ∙ omega (arith, all)

      d_is : descriptor_count (length (take c.payloads es ++ drop c.payloads es)) ≡ c.descriptors
      d_is = ap (λ (l : List Entry). descriptor_count (length l)) whole ∙ ap descriptor_count all ∙ sym ((keep h.geom _ c has.stands).descriptors)

      only : IsOnly (IsDescribed img h) number place (record { number = number; place = place; payloads = take c.payloads es; fresh = drop c.payloads es })
      only = record {
        is_number = refl;
        is_place = refl;
        has = record {
          commit = has.stands ∙ ap (λ (x : Commit). Some x) (commit_same c _ has.epoch has.is_number (sym d_is) (sym m_is) (sym n_is));
          descriptors = λ i lt. subst (λ (l : List Entry). HasPart img h number place i (take 24 (drop (24 * i) l))) (sym whole) (parts.each i (subst (λ n. i < n) d_is lt));
        };
        alone = λ q num at described.
            let same = described_commit c q has at described in
            let qm : length q.payloads ≡ c.payloads = ap (λ (x : Commit). x.payloads) same in
            let list : es ≡ q.payloads ++ q.fresh = parts.alone q num at described ∙ take_all (24 * c.descriptors) (entries q) (room (length (entries q)) c.descriptors (c.payloads + c.fresh) (total_is c q has at described) ((keep h.geom _ c has.stands).descriptors)) in
            record_same q _ num at
            (sym (take-append_seam q.payloads q.fresh) ∙ ap₂ (λ n (l : List Entry). take n l) qm (sym list))
            (sym (drop-append_seam q.payloads q.fresh) ∙ ap₂ (λ n (l : List Entry). drop n l) qm (sym list));
      }
        where
          room : (e d t : ℕ) → e ≡ t → d ≡ (t + 23) / 24 → e ≤ 24 * d
          room e d t p q = omega arith
