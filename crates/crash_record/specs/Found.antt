-- What a search for the run looks for: the one record with a number and a place, or that there is none.
use Rattle.std.specs.Prelude.{◌≡◌, ℕ, ◌+◌, ◌*◌, ◌<◌, ◌≤◌, min, Bool, true, ◌&&◌, bytes_eq, List, [], ◌∷◌, length, take, drop, slice_get, Option, Some, None}
use Rattle.base_types.specs.Seal.{Blocks, sha256}
use Rattle.layout_geometry.specs.Geometry.{Geometry, ring_block}
use Rattle.layout_journal.specs.declared.header.Header.{Header}
use Rattle.layout_journal.specs.declared.record.Commit.{Commit}
use Rattle.layout_journal.specs.declared.entry.Entry.{Entry}
use Rattle.layout_journal.specs.Layout.{commit_of, descriptor_of, descriptor_count, is_stored}
use Rattle.layout_journal.specs.Run.{Record, entries, places, commit_says, descriptor_says, Fits, IsWhole, AreConsecutive, AreWhole, IsLetIn, AreLetIn, all_places, place_after}

-- of all records with this number and place, r alone has P
pub record IsOnly (P : Record → Type 0) (number place : ℕ) (r : Record) : Type 0 where
  pub is_number : r.number ≡ number
  pub is_place : r.place ≡ place
  pub has : P r
  pub alone : (q : Record) → q.number ≡ number → q.place ≡ place → P q → q ≡ r

-- the answer is the one record with this number and place that has P, and none where there is none
abbrev pub Finds : (Record → Type 0) → ℕ → ℕ → Option Record → Type 0
Finds P number place (Some r) = IsOnly P number place r
Finds P number place None = (q : Record) → q.number ≡ number → q.place ≡ place → ¬ P q

-- the record is described: its commit block and descriptors are in the image
pub record IsDescribed (img : Blocks) (h : Header) (r : Record) : Type 0 where
  pub commit : commit_of h.geom (img (ring_block h.geom r.place)) ≡ Some (commit_says h.epoch r)
  pub descriptors : (i : ℕ) → i < descriptor_count (length (entries r))
      → descriptor_of h.geom (img (ring_block h.geom (r.place + 1 + i))) ≡ Some (descriptor_says h.epoch r i)

-- the record is whole, let in, and takes at most so many ring places
pub record MayCome (img : Blocks) (h : Header) (left : ℕ) (r : Record) : Type 0 where
  pub whole : IsWhole img h r
  pub let_in : IsLetIn h r
  pub within : places r ≤ left

-- the first records of the run: the next one begins at this place, and so many ring places are left
pub record IsFront (img : Blocks) (h : Header) (rs : List Record) (place left : ℕ) : Type 0 where
  pub consecutive : AreConsecutive h.geom.j h.start h.at rs
  pub whole : AreWhole img h rs
  pub let_in : AreLetIn h rs
  pub place_is : place ≡ place_after h.geom.j h.at rs
  pub left_is : all_places rs + left ≡ h.geom.j

-- the commit block at the place is this one
pub record HasCommit (img : Blocks) (h : Header) (number place : ℕ) (c : Commit) : Type 0 where
  pub stands : commit_of h.geom (img (ring_block h.geom place)) ≡ Some c
  pub epoch : c.epoch ≡ h.epoch
  pub is_number : c.number ≡ number

-- descriptor i of the record with this number and place has these entries
abbrev pub HasPart : Blocks → Header → ℕ → ℕ → ℕ → List Entry → Type 0
HasPart img h number place i es =
    descriptor_of h.geom (img (ring_block h.geom (place + 1 + i))) ≡ Some (record { epoch = h.epoch; number = number; index = i; entries = es })

-- of so many entries in all, the first k descriptors of the record with this number and place have these
pub record HasParts (img : Blocks) (h : Header) (number place total k : ℕ) (es : List Entry) : Type 0 where
  pub count : length es ≡ min (24 * k) total
  pub each : (i : ℕ) → i < k → HasPart img h number place i (take 24 (drop (24 * i) es))
  pub alone : (r : Record) → r.number ≡ number → r.place ≡ place → IsDescribed img h r → es ≡ take (24 * k) (entries r)

-- each payload, from this ring place on, fits its entry
abbrev pub AllFit : Geometry → Blocks → ℕ → List Entry → Type 0
AllFit g img place es = (i : ℕ) (e : Entry) → slice_get es i ≡ Some e → Fits e (img (ring_block g (place + i)))

-- each of these blocks has the digest of its entry
abbrev pub AllMatch : Blocks → List Entry → Type 0
AllMatch img es = (i : ℕ) (e : Entry) → slice_get es i ≡ Some e → sha256 (img e.block) ≡ e.digest

-- the same as tests, of one payload as it is in the ring and of all of them
abbrev pub fits : Entry → List ℕ → Bool
fits e stored = bytes_eq (sha256 stored) e.digest && is_stored e.kind stored

abbrev pub payloads_fit : Geometry → Blocks → ℕ → List Entry → Bool
payloads_fit g img place [] = true
payloads_fit g img place (e ∷ es) = fits e (img (ring_block g place)) && payloads_fit g img (place + 1) es

abbrev pub fresh_fit : Blocks → List Entry → Bool
fresh_fit img [] = true
fresh_fit img (e ∷ es) = bytes_eq (sha256 (img e.block)) e.digest && fresh_fit img es
