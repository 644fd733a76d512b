-- Headers, commit blocks and descriptors are sealed, and a header tells its disk's geometry.
use Rattle.std.proofs.Common.{◌≡◌, ℕ, true, List, Some, take, drop}
use Rattle.std.proofs.lemmas.Slice.Eq.{bytes_eq-Decides}
use Rattle.base_types.specs.Seal.{IsSealed, is_sealed, sha256}
use Rattle.layout_geometry.specs.Geometry.{Geometry}
use Rattle.layout_journal.proofs.Fields.{when_some}
use Rattle.layout_journal.specs.declared.header.Header.{Header}
use Rattle.layout_journal.specs.declared.record.Commit.{Commit}
use Rattle.layout_journal.specs.declared.record.Descriptor.{Descriptor}
use Rattle.layout_journal.specs.Layout.{header_of, commit_of, descriptor_of}

-- the test of a seal finds sealed blocks alone
pub is_sealed-IsSealed : (b : List ℕ) → is_sealed b ≡ true → IsSealed b
is_sealed-IsSealed b e = (bytes_eq-Decides (drop 992 b) (sha256 (take 992 b))).0 e

-- what reads as a header is sealed
pub header_sealed : (n : ℕ) (b : List ℕ) (h : Header) → header_of n b ≡ Some h → IsSealed b
unfolding header_of
header_sealed n b h e = is_sealed-IsSealed b (when_some (is_sealed b) _ h e)

-- what reads as a commit block is sealed
pub commit_sealed : (g : Geometry) (b : List ℕ) (c : Commit) → commit_of g b ≡ Some c → IsSealed b
unfolding commit_of
commit_sealed g b c e = is_sealed-IsSealed b (when_some (is_sealed b) _ c e)

-- what reads as a descriptor is sealed
pub descriptor_sealed : (g : Geometry) (b : List ℕ) (d : Descriptor) → descriptor_of g b ≡ Some d → IsSealed b
unfolding descriptor_of
descriptor_sealed g b d e = is_sealed-IsSealed b (when_some (is_sealed b) _ d e)
