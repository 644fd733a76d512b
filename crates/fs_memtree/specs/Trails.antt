-- Where a path ends, as the code finds it by one walk, and the path that a trail of names leads to.
use Rattle.std.specs.Prelude.{◌≡◌, ℕ, List, [], ◌∷◌, ◌++◌, Option, IfSome, option_map}
use Rattle.crash_stands.specs.Inodes.{Inodes}
use Rattle.crash_stands.specs.Walks.{entry_in}
use Rattle.fs_inodes.specs.Lookups.{number_at}
use Rattle.fs_memtree.specs.declared.listing.Trail.{Trail, Root, Below'}
use Rattle.fs_memtree.specs.declared.walks.End.{End}
use Rattle.fs_memtree.specs.Kept.{spot_at}

-- the number of what is above the end of a path, and the last name
abbrev pub spot_of : End → Option (ℕ × List ℕ)
spot_of end = option_map (λ spot. (spot.0, spot.1.now)) end.spot

-- the path ends there
abbrev pub IsEnd : Inodes → List (List ℕ) → End → Type 0
IsEnd m path end = (spot_at m path ≡ spot_of end) × (number_at m path ≡ end.number)

-- what is under the last name is what is at the end
abbrev pub IsUnder : Inodes → End → Type 0
IsUnder m end = IfSome end.spot (λ spot. entry_in (m spot.0) spot.1.now ≡ end.number)

-- the names from the root down
abbrev pub path_on : Trail → List (List ℕ)
path_on Root = []
path_on (Below' p up name) = path_on up ++ name.now ∷ []
