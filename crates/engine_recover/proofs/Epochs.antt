-- No epoch on the disk is above the greatest.
use Rattle.std.proofs.Common.{◌≡◌, ◌⊎◌, ⊎_elim, inl, inr, ℕ, zero, suc, ◌+◌, ◌<◌, ◌≤◌, ◌%◌, max, Bool, true, false, ◌&&◌, ◌||◌, if◌then◌else◌, List, Option, Some, None, refl, sym, ◌∙◌, ap, ap₂, subst, arith}
use Rattle.std.proofs.lemmas.Bool.{and_parts, or_right, cases_lt}
use Rattle.std.proofs.lemmas.Nat.{mod_below}
use Rattle.std.proofs.Math.Nat.{mod-mod}
use Rattle.std.proofs.lemmas.Option.{same_Some}
use Rattle.base_types.specs.Seal.{Blocks, is_sealed}
use Rattle.layout_geometry.specs.Geometry.{Geometry, ring_block}
use Rattle.layout_bytes.specs.Bytes.{field, when}
use Rattle.layout_journal.specs.declared.header.Header.{Header}
use Rattle.layout_journal.specs.declared.record.Commit.{Commit}
use Rattle.layout_journal.specs.declared.record.Descriptor.{Descriptor}
use Rattle.layout_journal.specs.declared.entry.Entry.{Entry}
use Rattle.layout_journal.specs.Layout.{header_of, commit_of, descriptor_of, descriptor_with, has_tag, commit_tag, descriptor_tag}
use Rattle.engine_recover.specs.Epoch.{IsHeaderEpoch, IsRecordEpoch, IsGreatestEpoch, is_of_record, record_epoch, epoch_of, header_epoch}

-- the greatest of the slots and of the first so many ring places, as the code goes over them
abbrev pub greatest_of : Geometry → Blocks → ℕ → ℕ
greatest_of g img zero = max (header_epoch g.n (img 0)) (header_epoch g.n (img 1))
greatest_of g img (suc k) = max (greatest_of g img k) (record_epoch (img (ring_block g k)))

-- the epochs of the places below k
places_below : (g : Geometry) (img : Blocks) (k p : ℕ) → p < k → record_epoch (img (ring_block g p)) ≤ greatest_of g img k
places_below g img zero p lt = absurd (omega (arith, lt))
places_below g img (suc k) p lt = elim (cases_lt p k) [
  | inl under ↦ omega (arith, places_below g img k p under)
  | inr over ↦ omega (arith, ap (λ n. record_epoch (img (ring_block g n))) {x = p} {y = k} (omega (arith, lt, over)))
]

-- those of the slots
slots_below : (g : Geometry) (img : Blocks) (k : ℕ) → max (header_epoch g.n (img 0)) (header_epoch g.n (img 1)) ≤ greatest_of g img k
slots_below g img zero = omega arith
slots_below g img (suc k) = omega (arith, slots_below g img k)

slot_below : (g : Geometry) (img : Blocks) (s : ℕ) (h : Header) → s < 2 → header_of g.n (img s) ≡ Some h → h.epoch ≤ greatest_of g img g.j
slot_below g img s h lt is =
    let own : header_epoch g.n (img s) ≡ h.epoch = ap epoch_of is in
    let slot : (s ≡ 0) ⊎ (s ≡ 1) = grind (arith, lt) in
    ⊎_elim (λ e. omega (arith, slots_below g img g.j, own, ap (λ n. header_epoch g.n (img n)) e)) (λ e. omega (arith, slots_below g img g.j, own, ap (λ n. header_epoch g.n (img n)) e)) slot

-- 0, or an epoch on the disk
abbrev IsOne : Geometry → Blocks → ℕ → Type 0
IsOne g img e = (e ≡ 0) ⊎ (IsHeaderEpoch g img e ⊎ IsRecordEpoch g img e)

one_of_two : (P : ℕ → Type 0) (a b : ℕ) → P a → P b → P (max a b)
one_of_two P a b p q =
    let which : (max a b ≡ a) ⊎ (max a b ≡ b) = grind arith in
    ⊎_elim (λ e. subst P (sym e) p) (λ e. subst P (sym e) q) which

one_of_slot : (g : Geometry) (img : Blocks) (s : ℕ) (o : Option Header) → s < 2 → header_of g.n (img s) ≡ o → IsOne g img (epoch_of o)
one_of_slot g img s None lt is = inl refl
one_of_slot g img s (Some h) lt is = inr (inl (s, h, lt, is, refl))

one_of_place : (g : Geometry) (img : Blocks) (p : ℕ) (t : Bool) → p < g.j → is_of_record (img (ring_block g p)) ≡ t
    → IsOne g img (if t then field (img (ring_block g p)) 8 8 else 0)
one_of_place g img p true lt is = inr (inr (p, lt, is, refl))
one_of_place g img p false lt is = inl refl

one_of_first : (g : Geometry) (img : Blocks) (k : ℕ) → k ≤ g.j → IsOne g img (greatest_of g img k)
one_of_first g img zero le = one_of_two (IsOne g img) _ _ (one_of_slot g img 0 _ (omega arith) refl) (one_of_slot g img 1 _ (omega arith) refl)
one_of_first g img (suc k) le = one_of_two (IsOne g img) _ _ (one_of_first g img k (omega (arith, le))) (one_of_place g img k _ (omega (arith, le)) refl)

pub is_greatest : (g : Geometry) (img : Blocks) (e : ℕ) → e ≡ greatest_of g img g.j → IsGreatestEpoch g img e
is_greatest g img e is = subst (IsGreatestEpoch g img) (sym is) (record {
  headers = λ a h. subst (λ n. n ≤ greatest_of g img g.j) h.4 (slot_below g img h.0 h.1 h.2 h.3);
  blocks = λ a r. subst (λ n. n ≤ greatest_of g img g.j) (ap (λ t. if t then field (img (ring_block g r.0)) 8 8 else 0) r.2 ∙ r.3) (places_below g img g.j r.0 r.1);
  is_one = one_of_first g img g.j (omega arith);
})

pub header_below : (g : Geometry) (img : Blocks) (e s : ℕ) (h : Header) → IsGreatestEpoch g img e → s < 2 → header_of g.n (img s) ≡ Some h → h.epoch ≤ e
header_below g img e s h greatest lt is = greatest.headers h.epoch (s, h, lt, is, refl)

-- a value that is read under a test
under_test : {A : Type 0} (t : Bool) (o : Option A) (y : A) → when t o ≡ Some y → (t ≡ true) × (o ≡ Some y)
under_test true o y e = (refl, e)
under_test false o y e = cc

-- a sealed block with one of the tags begins as one of a record does
tagged : (b : List ℕ) → is_sealed b ≡ true → (has_tag commit_tag b || has_tag descriptor_tag b) ≡ true → is_of_record b ≡ true
tagged b sealed tag = ap₂ (λ x y. x && y) tag sealed

pub commit_epoch : (g : Geometry) (b : List ℕ) (c : Commit) → commit_of g b ≡ Some c → (is_of_record b ≡ true) × (field b 8 8 ≡ c.epoch)
unfolding commit_of
commit_epoch g b c e =
    let sealed = under_test (is_sealed b) _ c e in
    let fit = under_test _ _ c sealed.1 in
    let tag = and_parts (has_tag commit_tag b) _ fit.0 in
    (tagged b sealed.0 (ap (λ t. t || has_tag descriptor_tag b) tag.0), ap (λ (x : Commit). x.epoch) (same_Some _ _ fit.1))

described_epoch : (b : List ℕ) (o : Option (List Entry)) (d : Descriptor) → descriptor_with b o ≡ Some d → field b 8 8 ≡ d.epoch
described_epoch b None d e = cc
described_epoch b (Some es) d e = ap (λ (x : Descriptor). x.epoch) (same_Some _ _ e)

pub descriptor_epoch : (g : Geometry) (b : List ℕ) (d : Descriptor) → descriptor_of g b ≡ Some d → (is_of_record b ≡ true) × (field b 8 8 ≡ d.epoch)
unfolding descriptor_of
descriptor_epoch g b d e =
    let sealed = under_test (is_sealed b) _ d e in
    let fit = under_test _ _ d sealed.1 in
    let tag = and_parts (has_tag descriptor_tag b) _ fit.0 in
    (tagged b sealed.0 (or_right (has_tag commit_tag b) (has_tag descriptor_tag b) tag.0), described_epoch b _ d fit.1)

-- each ring place is one of the first j
at_place : (g : Geometry) (img : Blocks) (e p a : ℕ) → IsGreatestEpoch g img e → 0 < g.j → (is_of_record (img (ring_block g p)) ≡ true) × (field (img (ring_block g p)) 8 8 ≡ a) → a ≤ e
at_place g img e p a greatest some is = greatest.blocks a (p % g.j, mod_below p g.j some, subst (λ n. is_of_record (img (2 + n)) ≡ true) (sym (mod-mod p g.j)) is.0, subst (λ n. field (img (2 + n)) 8 8 ≡ a) (sym (mod-mod p g.j)) is.1)

pub commit_below : (g : Geometry) (img : Blocks) (e p : ℕ) (c : Commit) → IsGreatestEpoch g img e → 0 < g.j → commit_of g (img (ring_block g p)) ≡ Some c → c.epoch ≤ e
commit_below g img e p c greatest some is = at_place g img e p c.epoch greatest some (commit_epoch g (img (ring_block g p)) c is)

pub descriptor_below : (g : Geometry) (img : Blocks) (e p : ℕ) (d : Descriptor) → IsGreatestEpoch g img e → 0 < g.j → descriptor_of g (img (ring_block g p)) ≡ Some d → d.epoch ≤ e
descriptor_below g img e p d greatest some is = at_place g img e p d.epoch greatest some (descriptor_epoch g (img (ring_block g p)) d is)
