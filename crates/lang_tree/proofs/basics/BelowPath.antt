-- A path lies below another one where it begins with all its names and has more.
use Rattle.std.proofs.Common.{◌≡◌, ℕ, ◌<◌, ◌≤◌, Bool, false, ◌&&◌, List, [], ◌∷◌, length, refl, arith}
use Rattle.std.specs.Prelude.{bytes_eq, if◌then◌else◌, Option, None}
use Rattle.std.specs.List.{starts_with}
use Rattle.lang_tree.specs.Paths.{is_below, strip, has_names}

no_more_at : (b : Bool) (rest : Option (List (List ℕ))) → false ≡ has_names rest → false ≡ has_names (if b then rest else None)
no_more_at b rest h1 = grind arith

pub below_longer : (top path : List (List ℕ)) → length path ≤ length top → false ≡ is_below top path
below_longer [] [] short = refl
below_longer [] (b ∷ path) short = absurd (omega arith)
below_longer (a ∷ top) [] short = refl
below_longer (a ∷ top) (b ∷ path) short = no_more_at (bytes_eq a b) (strip top path) (below_longer top path (omega arith))

both_at : (b r : Bool) (rest : Option (List (List ℕ))) → r ≡ has_names rest → b && r ≡ has_names (if b then rest else None)
both_at b r rest h1 = grind arith

pub starts_below : (top path : List (List ℕ)) → length top < length path → starts_with bytes_eq path top ≡ is_below top path
starts_below [] [] long = absurd (omega arith)
starts_below [] (b ∷ path) long = refl
starts_below (a ∷ top) [] long = absurd (omega arith)
starts_below (a ∷ top) (b ∷ path) long = both_at (bytes_eq a b) (starts_with bytes_eq path top) (strip top path) (starts_below top path (omega arith))
