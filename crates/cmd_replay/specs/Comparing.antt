-- A sink that compares what it is pushed with a text, as a value. Only private contracts speak of it.
use Rattle.std.specs.Prelude.{◌≡◌, ℕ, ◌≤◌, List, [], ◌∷◌, ◌++◌, length, take, slice_get, Option, Some, None}

-- the text, how many bytes of it came, the first byte that came in place of another, and how many pushes failed
pub record ComparingState : Type 0 where
  pub text : List ℕ
  pub done : ℕ
  pub other : Option ℕ
  pub faults : ℕ

abbrev pub byte_of : Option ℕ → List ℕ
byte_of None = []
byte_of (Some b) = b ∷ []

-- what came: the first bytes of the text, and then the one that differs, where one did
abbrev pub came : ComparingState → List ℕ
came s = take s.done s.text ++ byte_of s.other

-- What it took, as it is told: the text stands before it with its length, so that it is known of whoever pushes that the text stays.
abbrev pub taken_by : ComparingState → List ℕ
taken_by s = length s.text ∷ (s.text ++ came s)

-- the byte isn't the one that stands there in the text
abbrev pub Differs : List ℕ → ℕ → Option ℕ → Type 0
Differs text done None = Unit {0}
Differs text done (Some b) = slice_get text done ≡ Some b → ⊥

-- a push failed only behind a byte that differs
abbrev pub FailsBehind : ℕ → Option ℕ → Type 0
FailsBehind faults None = faults ≡ 0
FailsBehind faults (Some b) = Unit {0}

pub record IsComparing (text : List ℕ) (done : ℕ) (other : Option ℕ) (faults : ℕ) : Type 0 where
  pub within : done ≤ length text
  pub differs : Differs text done other
  pub fails : FailsBehind faults other
