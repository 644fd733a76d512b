-- The laws by which a search for the run goes on: from block to block, from record to record.
use Rattle.std.specs.Prelude.{◌≡◌, ◌⊎◌, ℕ, ◌+◌, ◌-◌, ◌%◌, ◌<◌, min, true, List, [], ◌∷◌, ◌++◌, length, take, drop, None}
use Rattle.base_types.specs.Seal.{Blocks}
use Rattle.layout_journal.specs.declared.header.Header.{Header}
use Rattle.layout_journal.specs.declared.record.Commit.{Commit}
use Rattle.layout_journal.specs.declared.entry.Entry.{Entry}
use Rattle.layout_journal.specs.Layout.{header_of}
use Rattle.layout_journal.specs.Run.{Record, heads, places, entries_fit, commit_says, IsWhole, IsRun}
use Rattle.crash_record.specs.Found.{IsOnly, IsDescribed, MayCome, IsFront, HasCommit, HasPart, HasParts, payloads_fit, fresh_fit}

-- no header is in a block of a disk of a size that no geometry has
abbrev pub HeadersNeedASize : Type 0
HeadersNeedASize = (n : ℕ) (b : List ℕ) → (n < 64) ⊎ (1048576 < n) → header_of n b ≡ None

-- what the commit block and the descriptors at a place say of a record with this number
pub record DescriptionLaws (img : Blocks) (h : Header) (number place : ℕ) : Type 0 where
  -- a record that is described at the place has the commit block there
  pub commit_is : (c : Commit) (r : Record) → HasCommit img h number place c → r.place ≡ place → IsDescribed img h r → commit_says h.epoch r ≡ c
  -- none is, where there is no commit block, where a descriptor is missing, or has too few or too many entries
  pub no_commit : ((c : Commit) → ¬ HasCommit img h number place c) → (r : Record) → r.number ≡ number → r.place ≡ place → ¬ IsDescribed img h r
  pub no_part : (c : Commit) (k : ℕ) → HasCommit img h number place c → k < c.descriptors → ((es : List Entry) → ¬ HasPart img h number place k es)
      → (r : Record) → r.number ≡ number → r.place ≡ place → ¬ IsDescribed img h r
  pub bad_part : (c : Commit) (k : ℕ) (es new : List Entry) → HasCommit img h number place c → k < c.descriptors → HasParts img h number place (c.payloads + c.fresh) k es
      → HasPart img h number place k new → (length new ≡ min 24 (c.payloads + c.fresh - length es) → ⊥)
      → (r : Record) → r.number ≡ number → r.place ≡ place → ¬ IsDescribed img h r
  -- one descriptor more adds its entries
  pub part_more : (c : Commit) (k : ℕ) (es new : List Entry) → HasCommit img h number place c → k < c.descriptors → HasParts img h number place (c.payloads + c.fresh) k es
      → HasPart img h number place k new → length new ≡ min 24 (c.payloads + c.fresh - length es)
      → HasParts img h number place (c.payloads + c.fresh) (k + 1) (es ++ new)
  -- all of them have as many as the commit block says, and describe one record
  pub all_parts : (c : Commit) (es : List Entry) → HasCommit img h number place c → HasParts img h number place (c.payloads + c.fresh) c.descriptors es → length es ≡ c.payloads + c.fresh
  pub one_record : (c : Commit) (es : List Entry) (r : Record) → HasCommit img h number place c → HasParts img h number place (c.payloads + c.fresh) c.descriptors es
      → r ≡ record { number = number; place = place; payloads = take c.payloads es; fresh = drop c.payloads es } → IsOnly (IsDescribed img h) number place r

-- a described record is whole where its entries are in order, its payloads pass, and its fresh blocks past `sure` do, and only there
pub record WholeLaws (img : Blocks) (h : Header) (r : Record) : Type 0 where
  pub is_whole : IsDescribed img h r → entries_fit h.geom r ≡ true → payloads_fit h.geom img (r.place + heads r) r.payloads ≡ true
      → (h.sure < r.number → fresh_fit img r.fresh ≡ true) → IsWhole img h r
  pub described : IsWhole img h r → IsDescribed img h r
  pub payloads : IsWhole img h r → payloads_fit h.geom img (r.place + heads r) r.payloads ≡ true
  pub fresh : IsWhole img h r → h.sure < r.number → fresh_fit img r.fresh ≡ true

-- the first records of a run grow by the one that may come, and are the run where none may
pub record RunLaws (img : Blocks) (h : Header) : Type 0 where
  pub none : IsFront img h [] h.at h.geom.j
  pub step : (rs new : List Record) (place after left taken count : ℕ) (r : Record) → IsFront img h rs place left
      → IsOnly (MayCome img h left) (h.start + count) place r → count ≡ length rs
      → new ≡ rs ++ r ∷ [] → after ≡ (r.place + places r) % h.geom.j → taken ≡ places r → IsFront img h new after (left - taken)
  pub whole : (rs : List Record) (place left : ℕ) → IsFront img h rs place left
      → ((r : Record) → r.number ≡ h.start + length rs → r.place ≡ place → ¬ MayCome img h left r) → IsRun img h rs
