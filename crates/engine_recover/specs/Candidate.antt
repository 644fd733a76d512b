-- A record that may be the next one of the run, before its payloads and its fresh blocks are read.
use Rattle.std.specs.Prelude.{ℕ, ◌+◌, ◌≤◌, IsTrue}
use Rattle.base_types.specs.Seal.{Blocks}
use Rattle.layout_journal.specs.declared.header.Header.{Header}
use Rattle.layout_journal.specs.declared.record.Commit.{Commit}
use Rattle.layout_journal.specs.Run.{Record, places, IsLetIn}
use Rattle.crash_record.specs.Found.{IsDescribed}

-- the record is described, let in, and takes at most so many ring places
pub record IsCandidate (img : Blocks) (h : Header) (left : ℕ) (r : Record) : Type 0 where
  pub described : IsDescribed img h r
  pub let_in : IsLetIn h r
  pub within : places r ≤ left

-- its commit block alone says that it is let in, and how many ring places it takes
pub record CommitMayCome (h : Header) (left : ℕ) (c : Commit) : Type 0 where
  pub let_in : IsTrue h.closed → c.number ≤ h.sure
  pub within : 1 + c.descriptors + c.payloads ≤ left
