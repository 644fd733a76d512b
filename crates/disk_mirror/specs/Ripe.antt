-- Where the writes are that are to be reported: a tree in a list, whose root is at 1, and below place p the places 2 p and 2 p + 1. Its leaves are the places from `size` on, one for each write.
use Rattle.std.specs.Prelude.{◌≡◌, ℕ, ◌+◌, ◌*◌, ◌^◌, ◌<◌, ◌≤◌, ◌&&◌, ◌||◌, not, Bool, true, false, if◌then◌else◌, List, length, get_or}
use Rattle.disk_mirror.specs.declared.entry.Heard.{Heard}
use Rattle.disk_mirror.specs.declared.entry.Ripe.{Ripe}
use Rattle.disk_mirror.specs.Twin.{unheard}

abbrev pub none_ripe : Ripe
none_ripe = record { both = false; first = false; second = false }

-- one write is to be reported where it wasn't yet, and its notice came from each disk that is live
abbrev pub ripe_of : Heard → Ripe
ripe_of h = record { both = not h.reported && (h.first && h.second); first = not h.reported && h.first; second = not h.reported && h.second }

-- what two parts have together
abbrev pub joined : Ripe → Ripe → Ripe
joined a b = record { both = a.both || b.both; first = a.first || b.first; second = a.second || b.second }

-- whether there is one to be reported, where such disks are live
abbrev pub is_ripe : Bool → Bool → Ripe → Bool
is_ripe first second r = if first then (if second then r.both else r.first) else (if second then r.second else false)

-- what stands at a place
abbrev pub ripe_at : List Ripe → ℕ → Ripe
ripe_at nodes p = get_or nodes p none_ripe

-- each place above the leaves has what the two below it have together
abbrev pub AreJoined : List Ripe → ℕ → Type 0
AreJoined nodes size = (p : ℕ) → 0 < p → p < size → ripe_at nodes p ≡ joined (ripe_at nodes (2 * p)) (ripe_at nodes (2 * p + 1))

-- the first leaf that has one to be reported
pub record IsFirstRipe (first second : Bool) (nodes : List Ripe) (size leaf : ℕ) : Type 0 where
  pub within : leaf < size
  pub here : is_ripe first second (ripe_at nodes (size + leaf)) ≡ true
  pub before : (i : ℕ) → i < leaf → is_ripe first second (ripe_at nodes (size + i)) ≡ false

-- a tree over these rows, with leaves for so many at least
pub record IsTree (nodes : List Ripe) (size : ℕ) (heard : List Heard) (room : ℕ) : Type 0 where
  pub twice : length nodes ≡ 2 * size
  pub power : (times : ℕ) × (size ≡ 2 ^ times)
  pub enough : room ≤ size
  pub joins : AreJoined nodes size
  pub leaves : (i : ℕ) → i < size → ripe_at nodes (size + i) ≡ ripe_of (get_or heard i unheard)
