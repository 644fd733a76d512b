-- What it is to read a text as a value of some kind.
use Rattle.std.specs.Prelude.{◌≡◌, ◌<◌, ◌^◌, ℕ, true, List, ◌++◌, codes, Option, Some, None}
use Rattle.lang_tree.specs.declared.command.Refusal.{Refusal}
use Rattle.lang_tree.specs.declared.command.Refusal.TheVariants.{Full, TooBig, Scattered}
use Rattle.lang_tree.specs.Run.{is_of_disk}

-- The answer is the value of this kind that is written so, and none exactly where no such value is.
abbrev pub IsReadAs : {A : Type 0} → (A → List ℕ) → (A → Type 0) → List ℕ → Option A → Type 0
IsReadAs written IsOne text (Some value) = IsOne value × (written value ≡ text)
IsReadAs written IsOne text None = (value : _) → IsOne value → written value ≡ text → ⊥

-- the line with its line feed
abbrev pub fed : List ℕ → List ℕ
fed line = line ++ codes "\n"

-- the figures of a refusal have 32 bits
abbrev pub HasSmallFigures : Refusal → Type 0
HasSmallFigures (Full need left) = (need < 2 ^ 32) × (left < 2 ^ 32)
HasSmallFigures (TooBig weight cost room) = (weight < 2 ^ 32) × (cost < 2 ^ 32) × (room < 2 ^ 32)
HasSmallFigures (Scattered runs) = runs < 2 ^ 32
HasSmallFigures _ = Unit {0}

-- a refusal that may come from outside the tree
pub record IsOutside (why : Refusal) : Type 0 where
  pub number : is_of_disk why ≡ true
  pub figures : HasSmallFigures why
