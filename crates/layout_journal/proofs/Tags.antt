-- A block reads as one kind of block at most, and a stored payload as none.
use Rattle.std.proofs.Common.{◌≡◌, ℕ, true, List, [], ◌∷◌, take, slice_index, Option, Some, None, refl, sym, ◌∙◌, ap, arith}
use Rattle.std.specs.Prelude.{codes}
use Rattle.std.proofs.lemmas.Slice.Eq.{bytes_eq-Decides}
use Rattle.std.proofs.lemmas.Bool.{and_parts, both_ways, not-true}
use Rattle.base_types.specs.Seal.{is_sealed}
use Rattle.layout_geometry.specs.Geometry.{Geometry}
use Rattle.layout_journal.specs.declared.header.Header.{Header}
use Rattle.layout_journal.specs.declared.record.Commit.{Commit}
use Rattle.layout_journal.specs.declared.record.Descriptor.{Descriptor}
use Rattle.layout_journal.specs.declared.entry.EntryKind.{EntryKind}
use Rattle.layout_journal.specs.declared.entry.EntryKind.TheVariants.{Payload, Fresh, Escaped}
use Rattle.layout_journal.specs.Layout.{header_tag, layout_in, has_tag, header_fits, header_fields, header_of, commit_fits, commit_fields, commit_of, descriptor_fits, descriptor_of, is_stored}
use Rattle.layout_journal.proofs.Fields.{when_some, when_inner}

-- a block with a tag begins with its bytes
tag_is : (tag block : List ℕ) → has_tag tag block ≡ true → take 8 block ≡ tag
tag_is tag block e = (bytes_eq-Decides (take 8 block) tag).0 e

-- a header begins with its tag
pub header_begins : (n : ℕ) (b : List ℕ) (h : Header) → header_of n b ≡ Some h → take 8 b ≡ header_tag (layout_in b)
unfolding header_of
header_begins n b h e = tag_is _ b (and_parts _ _ (when_some (header_fits n b (header_fields b)) _ h (when_inner (is_sealed b) _ h e))).0

-- a commit block begins with its tag
pub commit_tag : (g : Geometry) (b : List ℕ) (c : Commit) → commit_of g b ≡ Some c → take 8 b ≡ codes "OPTC0001"
unfolding commit_of
commit_tag g b c e = tag_is _ b (and_parts _ _ (when_some (commit_fits g b (commit_fields b)) _ c (when_inner (is_sealed b) _ c e))).0

-- a descriptor begins with its tag
pub descriptor_tag : (g : Geometry) (b : List ℕ) (d : Descriptor) → descriptor_of g b ≡ Some d → take 8 b ≡ codes "OPTD0001"
unfolding descriptor_of
descriptor_tag g b d e = tag_is _ b (and_parts _ _ (when_some (descriptor_fits b) _ d (when_inner (is_sealed b) _ d e))).0

-- a reading that can give no value gives none
pub none_of : {A : Type 0} (o : Option A) → ((x : A) → o ≡ Some x → ⊥) → o ≡ None
none_of None f = refl
none_of (Some x) f = absurd (f x refl)

-- tags whose fourth bytes differ are two
tags_apart : (b s t : List ℕ) → take 8 b ≡ s → take 8 b ≡ t → (slice_index s 3 ≡ slice_index t 3 → ⊥) → ⊥
tags_apart b s t p q apart = apart (ap (λ (l : List ℕ). slice_index l 3) (sym p ∙ q))

-- the fourth bytes of the tags of headers, commit blocks and descriptors
h_c : ◌≡◌ {A = ℕ} 72 67 → ⊥
h_c e = omega arith

h_d : ◌≡◌ {A = ℕ} 72 68 → ⊥
h_d e = omega arith

c_d : ◌≡◌ {A = ℕ} 67 68 → ⊥
c_d e = omega arith

-- a commit block is no descriptor
pub commit_no_descriptor : (g k : Geometry) (b : List ℕ) (c : Commit) → commit_of g b ≡ Some c → descriptor_of k b ≡ None
commit_no_descriptor g k b c e = none_of (descriptor_of k b) (λ d f. tags_apart b _ _ (commit_tag g b c e) (descriptor_tag k b d f) c_d)

-- nor a header
pub commit_no_header : (g : Geometry) (n : ℕ) (b : List ℕ) (c : Commit) → commit_of g b ≡ Some c → header_of n b ≡ None
commit_no_header g n b c e = none_of (header_of n b) (λ h f. tags_apart b _ _ (header_begins n b h f) (commit_tag g b c e) h_c)

-- a descriptor is no commit block
pub descriptor_no_commit : (g k : Geometry) (b : List ℕ) (d : Descriptor) → descriptor_of g b ≡ Some d → commit_of k b ≡ None
descriptor_no_commit g k b d e = none_of (commit_of k b) (λ c f. tags_apart b _ _ (commit_tag k b c f) (descriptor_tag g b d e) c_d)

-- nor a header
pub descriptor_no_header : (g : Geometry) (n : ℕ) (b : List ℕ) (d : Descriptor) → descriptor_of g b ≡ Some d → header_of n b ≡ None
descriptor_no_header g n b d e = none_of (header_of n b) (λ h f. tags_apart b _ _ (header_begins n b h f) (descriptor_tag g b d e) h_d)

-- the first three bytes of a block with a tag are the tag's
take_three : (b tag : List ℕ) → take 8 b ≡ tag → take 3 b ≡ take 3 tag
take_three b tag e = three b ∙ ap (take 3) e
  where
    three : (b : List ℕ) → take 3 b ≡ take 3 (take 8 b)
    three [] = refl
    three (x ∷ []) = refl
    three (x ∷ y ∷ []) = refl
    three (x ∷ y ∷ z ∷ b) = refl

-- a stored payload begins as no tag does
stored_no_tag : (k : EntryKind) (b tag : List ℕ) → is_stored k b ≡ true → take 8 b ≡ tag → take 3 tag ≡ 79 ∷ 80 ∷ 84 ∷ [] → ⊥
unfolding is_stored
stored_no_tag Payload b tag s e t = both_ways _ (not-true _ s) ((bytes_eq-Decides (take 3 b) (79 ∷ 80 ∷ 84 ∷ [])).1 (take_three b tag e ∙ t))
stored_no_tag Escaped b tag s e t = differ (sym ((bytes_eq-Decides (take 3 b) (0 ∷ 80 ∷ 84 ∷ [])).0 s) ∙ take_three b tag e ∙ t)
  where
    differ : ◌≡◌ {A = List ℕ} (0 ∷ 80 ∷ 84 ∷ []) (79 ∷ 80 ∷ 84 ∷ []) → ⊥
    differ e = cc
stored_no_tag Fresh b tag s e t = cc

-- so it reads as no header
pub stored_no_header : (k : EntryKind) (n : ℕ) (b : List ℕ) → is_stored k b ≡ true → header_of n b ≡ None
stored_no_header k n b s = none_of (header_of n b) (λ h e. stored_no_tag k b _ s (header_begins n b h e) refl)

-- as no commit block
pub stored_no_commit : (k : EntryKind) (g : Geometry) (b : List ℕ) → is_stored k b ≡ true → commit_of g b ≡ None
stored_no_commit k g b s = none_of (commit_of g b) (λ c e. stored_no_tag k b _ s (commit_tag g b c e) refl)

-- and as no descriptor
pub stored_no_descriptor : (k : EntryKind) (g : Geometry) (b : List ℕ) → is_stored k b ≡ true → descriptor_of g b ≡ None
stored_no_descriptor k g b s = none_of (descriptor_of g b) (λ d e. stored_no_tag k b _ s (descriptor_tag g b d e) refl)
