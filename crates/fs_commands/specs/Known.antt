-- What a file system knows of the snapshots in its blocks, and what becomes of that. It is described in docs/FILE-SYSTEM.md.
use Rattle.std.specs.Prelude.{◌≡◌, ◌+◌, ℕ, Bool, IsTrue, if◌then◌else◌, List, length, Option}
use Rattle.std.specs.FinMap.{get, keys}
use Rattle.engine_blocks.specs.Running.{has}
use Rattle.engine_blocks.specs.State.{State}
use Rattle.fs_files.specs.Shared.{keepers}
use Rattle.fs_check.specs.Snapshots.{Numbers, numbers_in}
use Rattle.fs_snapshots.specs.Known.{KnowsSnapshots}

-- What is known of the snapshots: how many keep each block, and the number of each with its name.
pub record Known : Type 0 where
  pub counts : List ℕ
  pub numbers : List (List ℕ × ℕ)

-- how many snapshots keep each block
abbrev pub counts_in : Known → List ℕ
counts_in k = k.counts

-- the numbers of the snapshots, by their names
abbrev pub numbers_by_name : Known → Numbers
numbers_by_name k = numbers_in k.numbers

-- the number of the snapshot of a name
abbrev pub number_in : Known → List ℕ → Option ℕ
number_in k name = get (numbers_by_name k) name

-- the names, ascending
abbrev pub names_in : Known → List (List ℕ)
names_in k = keys (numbers_by_name k)

-- it is so of these blocks, where they are known
abbrev pub Knows : Bool → State → Known → Type 0
Knows tells s k = IsTrue tells → KnowsSnapshots s.books.geom s.map (counts_in k) (number_in k)

-- One snapshot more keeps each of these blocks, and no other block is kept by more or fewer.
pub record CountsIn (bs : List ℕ) (old new : List ℕ) : Type 0 where
  pub each : (b : ℕ) → keepers new b ≡ keepers old b + (if has bs b then 1 else 0)
  pub room : length new ≡ length old

-- One snapshot less keeps each of them.
abbrev pub CountsOut : List ℕ → List ℕ → List ℕ → Type 0
CountsOut bs old new = CountsIn bs new old
