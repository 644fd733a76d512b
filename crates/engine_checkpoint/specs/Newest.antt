-- Where the newest payload of a block is, in a list of records. It is described in docs/PIPELINE.md.
use Rattle.std.specs.Prelude.{◌≡◌, ℕ, ◌+◌, ◌==◌, nat_le, nat_eq, Bool, true, false, if◌then◌else◌, List, [], ◌∷◌, slice_get, Option, Some, None, IsSome}
use Rattle.crash_argument.specs.HomeTest.{is_one_of}
use Rattle.engine_running.specs.declared.put.Put.{Put}
use Rattle.engine_running.specs.Running.{IsRisingNumbers}
use Rattle.std.specs.HashMap.{get, hash_map_len, spare}
use Rattle.engine_checkpoint.specs.declared.newest.Spot.{Spot}
use Rattle.engine_checkpoint.specs.declared.newest.Newest.{Newest}

-- where the newest payload of a block is, if it has one; how many blocks have one; and for how many more there is room
abbrev pub spot_of : Newest → ℕ → Option Spot
spot_of n b = get nat_eq n.spots b

abbrev pub spot_count : Newest → ℕ
spot_count n = hash_map_len n.spots

abbrev pub spot_room : Newest → ℕ
spot_room n = spare n.spots

-- the first of two, or else the second
abbrev pub spot_or : Option Spot → Option Spot → Option Spot
spot_or (Some s) other = Some s
spot_or None other = other

-- the first payload of a block among these, of which the first is at place k
abbrev pub spot_in : ℕ → ℕ → List Put → ℕ → Option Spot
spot_in number k [] b = None
spot_in number k (p ∷ ps) b = if p.block == b then Some (record { number = number; at = k }) else spot_in number (k + 1) ps b

-- what a record makes of a block's newest payload: within one record a free of the block comes last
abbrev pub spot_after : Option Spot → ℕ → List Put → List ℕ → List ℕ → ℕ → Option Spot
spot_after before number payloads fresh freed b = if is_one_of b freed then None else spot_or (spot_in number 0 payloads b) (if is_one_of b fresh then None else before)

-- one of the puts is of the block
abbrev pub has_block : ℕ → List Put → Bool
has_block b [] = false
has_block b (p ∷ ps) = if p.block == b then true else has_block b ps

-- a payload of a record up to this number
abbrev pub is_upto : ℕ → Option Spot → Bool
is_upto number None = false
is_upto number (Some s) = nat_le s.number number

-- these are the blocks that have a newest payload, ascending
pub record IsSpotList (n : Newest) (bs : List ℕ) : Type 0 where
  pub rising : IsRisingNumbers bs
  pub all : (b : ℕ) → IsSome (spot_of n b) → is_one_of b bs ≡ true
  pub only : (k b : ℕ) → slice_get bs k ≡ Some b → IsSome (spot_of n b)
