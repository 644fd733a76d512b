-- A list of block numbers of which some make way for new ones.
use Rattle.std.specs.Prelude.{◌≡◌, ℕ, ◌+◌, ◌≤◌, Bool, ◌&&◌, if◌then◌else◌, List, [], ◌∷◌, get_or, slice_get, nat_le, nat_lt, Some}
use Rattle.layout_extent.specs.declared.renew.Joining.{Joining}
use Rattle.layout_extent.specs.Next.{next_number}
use Rattle.layout_extent.specs.Runs.{stretches}

-- The places from number i on, with more numbers: the first of these stand where the test holds, in the stead of what was there, and the others behind all.
abbrev pub renew : (ℕ → Bool) → ℕ → List ℕ → List ℕ → List ℕ
renew test i [] more = more
renew test i (b ∷ bs) [] = b ∷ bs
renew test i (b ∷ bs) (c ∷ more) = if test i then c ∷ renew test (i + 1) bs more else b ∷ renew test (i + 1) bs (c ∷ more)

-- at how many of these places, counted from number i on, the test holds
abbrev pub renewals : (ℕ → Bool) → ℕ → List ℕ → ℕ
renewals test i [] = 0
renewals test i (b ∷ bs) = (if test i then 1 else 0) + renewals test (i + 1) bs

-- whether a place lies from `from` on below `past`, and the number there is in the set
abbrev pub makes_way : ℕ → ℕ → (ℕ → Bool) → List ℕ → ℕ → Bool
makes_way from past has places i = nat_le from i && (nat_lt i past && has (get_or places i 0))

-- the list of which the numbers of the set at places from `from` on below `past` made way
abbrev pub renewed : ℕ → ℕ → (ℕ → Bool) → List ℕ → List ℕ → List ℕ
renewed from past has places more = renew (makes_way from past has places) 0 places more

-- the number is one of these
abbrev pub IsAmong : List ℕ → ℕ → Type 0
IsAmong xs b = (i : ℕ) × (slice_get xs i ≡ Some b)

-- no number is there twice
abbrev pub AreOnce : List ℕ → Type 0
AreOnce xs = (i j b : ℕ) → slice_get xs i ≡ Some b → slice_get xs j ≡ Some b → i ≡ j

-- no number is in both
abbrev pub AreApart : List ℕ → List ℕ → Type 0
AreApart xs ys = (b : ℕ) → IsAmong xs b → IsAmong ys b → ⊥

-- A list was joined: it has so many stretches, this number would go on with it, and where it has room these are its numbers.
pub record IsJoined (j : Joining) (xs : List ℕ) : Type 0 where
  pub runs : j.runs ≡ stretches xs
  pub next : j.next ≡ next_number xs
  pub kept : j.runs ≤ 60 → j.kept ≡ xs
