-- A cache of blocks: what it keeps, when it agrees with a disk, and what its calls make of it. The rules are
-- described in docs/CACHE.md.
use Rattle.std.specs.Prelude.{◌≡◌, ◌≢◌, ℕ, ◌<◌, ◌≤◌, List, Some, IfSome, IsSome, refl}
use Rattle.std.specs.Coded.{Coded, code_by, coded×, coded_list, coded_ℕ}
use Rattle.std.specs.FinMap as map
use Rattle.std.specs.FinMap.{FinMap, get, len, empty, remove}
use Rattle.std.specs.Ordering.{nat_cmp}
use Rattle.disk_contract.specs.Disk.{State, Reads}

-- a cache: the blocks that are kept, by their numbers, and how many may be
pub record Cache : Type 0 where
  pub kept : FinMap nat_cmp (List ℕ)
  pub capacity : ℕ

-- how a cache is stored as a value
abbrev pub coded_cache : Coded Cache
coded_cache = code_by (FinMap nat_cmp (List ℕ) × ℕ) (coded× (map.code coded_ℕ (coded_list coded_ℕ)) coded_ℕ)
    (λ c. (c.kept, c.capacity)) (λ p. record { kept = p.0; capacity = p.1 }) (λ _. refl)

-- a cache that may keep so many blocks, and keeps none
abbrev pub empty_cache : ℕ → Cache
empty_cache capacity = record { kept = empty; capacity = capacity }

-- the cache with a block forgotten
abbrev pub without : ℕ → Cache → Cache
without b c = record { kept = remove c.kept b; capacity = c.capacity }

-- a block is kept
abbrev pub IsKept : ℕ → Cache → Type 0
IsKept b c = IsSome (get c.kept b)

-- where a block is kept, it has these bytes
abbrev pub IsKeptAs : ℕ → List ℕ → Cache → Type 0
IsKeptAs b x c = IfSome (get c.kept b) (λ kept. kept ≡ x)

-- where a block is kept, it has bytes that a read of the disk may give
abbrev pub IsTheDisks : ℕ → Cache → State → Type 0
IsTheDisks b c s = IfSome (get c.kept b) (Reads s b)

-- a cache agrees with a disk: each kept block has bytes that a read of the disk may give
abbrev pub Agrees : Cache → State → Type 0
Agrees c s = (b : ℕ) → IsTheDisks b c s

-- of each block but this one, the same is kept
abbrev pub SameElsewhere : ℕ → Cache → Cache → Type 0
SameElsewhere b old new = (n : ℕ) → n ≢ b → get new.kept n ≡ get old.kept n

-- each block but this one that is kept was kept with the same bytes
abbrev pub NothingNewElsewhere : ℕ → Cache → Cache → Type 0
NothingNewElsewhere b old new = (n : ℕ) → n ≢ b → IfSome (get new.kept n) (λ x. get old.kept n ≡ Some x)

-- A block comes in: it is kept with these bytes or not at all, and another one is dropped only for want of room.
pub record ComesIn (b : ℕ) (x : List ℕ) (old new : Cache) : Type 0 where
  pub block : IsKeptAs b x new
  pub others : NothingNewElsewhere b old new
  pub again : IsKept b old → IsKept b new × SameElsewhere b old new
  pub room : len old.kept < old.capacity → SameElsewhere b old new
  pub no_fewer : len old.kept ≤ len new.kept
  pub capacity : new.capacity ≡ old.capacity
