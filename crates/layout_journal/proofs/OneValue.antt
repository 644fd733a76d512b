-- Values that are written alike are one, and a stored payload is the escape of what it stands for.
use Rattle.std.proofs.Common.{◌≡◌, ◌≤◌, ℕ, Bool, true, false, if◌then◌else◌, List, [], ◌∷◌, take, drop, Some, refl, sym, ap, ◌∙◌}
use Rattle.std.proofs.lemmas.Slice.Eq.{bytes_eq-Decides}
use Rattle.std.proofs.lemmas.Option.{same_Some}
use Rattle.layout_geometry.specs.Geometry.{Geometry}
use Rattle.layout_journal.specs.declared.header.Header.{Header}
use Rattle.layout_journal.specs.declared.record.Commit.{Commit}
use Rattle.layout_journal.specs.declared.record.Descriptor.{Descriptor}
use Rattle.layout_journal.specs.declared.entry.EntryKind.{EntryKind}
use Rattle.layout_journal.specs.declared.entry.EntryKind.TheVariants.{Payload, Fresh, Escaped}
use Rattle.layout_journal.specs.Layout.{header_fields, header_of, commit_fields, commit_of, descriptor_of, unescaped, is_stored}
use Rattle.layout_journal.specs.Spelling.{header_block, IsHeader, commit_block, IsCommit, descriptor_block, IsDescriptor, begins_tag, stored_of, stored_kind}
use Rattle.layout_journal.proofs.Spelled.{fields_read, header_reads, commit_read, commit_reads, descriptor_reads}

-- what is spelled reads
pub header_is_read : (n : ℕ) (b : List ℕ) (h : Header) → IsHeader h × (h.geom.n ≡ n) × (b ≡ header_block h) → header_of n b ≡ Some h
header_is_read n b h is = ap (λ k. header_of k b) (sym is.1) ∙ ap (header_of h.geom.n) is.2 ∙ header_reads h is.0

pub commit_is_read : (g : Geometry) (b : List ℕ) (c : Commit) → IsCommit g c × (b ≡ commit_block c) → commit_of g b ≡ Some c
commit_is_read g b c (is, spelled) =
    ap (commit_of g) spelled ∙ commit_reads g c is.epoch is.number is.descriptors is.payloads is.fresh is.within.some is.within.descriptors is.within.room

pub descriptor_is_read : (g : Geometry) (b : List ℕ) (d : Descriptor) → g.n ≤ 1048576 → IsDescriptor g d × (b ≡ descriptor_block d) → descriptor_of g b ≡ Some d
descriptor_is_read g b d small (is, spelled) =
    ap (descriptor_of g) spelled ∙ descriptor_reads g d small is.epoch is.number is.index is.some is.few is.entries

-- so values of one spelling are one
pub one_header : (h k : Header) → IsHeader h → IsHeader k → header_block h ≡ header_block k → h ≡ k
one_header h k is other e = sym (fields_read h is) ∙ ap header_fields e ∙ fields_read k other

pub one_commit : (g k : Geometry) (c d : Commit) → IsCommit g c → IsCommit k d → commit_block c ≡ commit_block d → c ≡ d
one_commit g k c d is other e =
    sym (commit_read c is.epoch is.number is.descriptors is.payloads is.fresh) ∙ ap commit_fields e ∙ commit_read d other.epoch other.number other.descriptors other.payloads other.fresh

pub one_descriptor : (g : Geometry) (d f : Descriptor) → g.n ≤ 1048576 → IsDescriptor g d → IsDescriptor g f → descriptor_block d ≡ descriptor_block f → d ≡ f
one_descriptor g d f small is other e =
    same_Some d f (sym (descriptor_is_read g (descriptor_block d) d small (is, refl)) ∙ descriptor_is_read g (descriptor_block d) f small (other, e))

-- a payload of a kind that is stored is the escape of what it stands for, and has that kind
pub stored_again : (k : EntryKind) (x : List ℕ) → is_stored k x ≡ true → (x ≡ stored_of (unescaped k x)) × (k ≡ stored_kind (unescaped k x))
unfolding is_stored
stored_again Payload x s = by (begins_tag x) refl
  where
    by : (v : Bool) → begins_tag x ≡ v → (x ≡ (if v then 0 ∷ drop 1 x else x)) × (Payload ≡ (if v then Escaped else Payload))
    by true e = cc
    by false e = (refl, refl)
stored_again Fresh x s = cc
stored_again Escaped x s = by (begins_tag (79 ∷ drop 1 x)) begins
  where
    zero_first : (x : List ℕ) → take 3 x ≡ 0 ∷ 80 ∷ 84 ∷ [] → (x ≡ 0 ∷ drop 1 x) × (take 3 (79 ∷ drop 1 x) ≡ 79 ∷ 80 ∷ 84 ∷ [])
    zero_first [] e = cc
    zero_first (a ∷ []) e = cc
    zero_first (a ∷ b ∷ []) e = cc
    zero_first (a ∷ b ∷ c ∷ x) e = (cc, cc)

    first : (x ≡ 0 ∷ drop 1 x) × (take 3 (79 ∷ drop 1 x) ≡ 79 ∷ 80 ∷ 84 ∷ [])
    first = zero_first x ((bytes_eq-Decides (take 3 x) (0 ∷ 80 ∷ 84 ∷ [])).0 s)

    begins : begins_tag (79 ∷ drop 1 x) ≡ true
    begins = (bytes_eq-Decides (take 3 (79 ∷ drop 1 x)) (79 ∷ 80 ∷ 84 ∷ [])).1 first.1

    by : (v : Bool) → v ≡ true → (x ≡ (if v then 0 ∷ drop 1 (79 ∷ drop 1 x) else 79 ∷ drop 1 x)) × (Escaped ≡ (if v then Escaped else Payload))
    by true e = (first.0, refl)
    by false e = cc
