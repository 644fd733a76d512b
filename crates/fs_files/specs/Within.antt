-- What a write within a file's bytes makes of a draft. It is described in docs/FILES.md.
use Rattle.std.specs.Prelude.{◌≡◌, ℕ, ◌≤◌, List, length}
use Rattle.fs_files.specs.Calls.{ChangesAmong}
use Rattle.fs_files.specs.Drafts.{DraftState}

-- Bytes of these blocks changed: nothing more is taken or freed, and there is no more new content.
pub record Overwrites (bs : List ℕ) (d e : DraftState) : Type 0 where
  pub among : ChangesAmong bs d e
  pub taken : e.taken ≡ d.taken
  pub freed : e.freed ≡ d.freed
  pub fresh : length e.fresh ≤ length d.fresh
