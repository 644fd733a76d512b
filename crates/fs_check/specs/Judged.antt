-- Whether what was counted and reached agrees with what was seen of each node.
use Rattle.std.specs.Prelude.{◌≡◌, ◌≢◌, ⊤, ℕ, ◌^◌, ◌<◌, Bool, true, false, List, get_or, length}
use Rattle.fs_check.specs.declared.damage.TreeDamage.{TreeDamage}
use Rattle.fs_check.specs.declared.damage.TreeDamage.TheVariants as damage
use Rattle.fs_check.specs.declared.looked.Looked.{Looked}
use Rattle.fs_check.specs.declared.looked.Looked.TheVariants.{Unused, Directory, Links}
use Rattle.fs_check.specs.Looked.{seen}
use Rattle.fs_check.specs.Marks.{has_mark}

-- a node in use was reached, one slot names a directory but for the root, and as many a file as it has links
abbrev pub Agrees : ℕ → Looked → ℕ → Bool → Type 0
Agrees node Unused count mark = ⊤
Agrees node (Directory size) count mark = (mark ≡ true) × (node ≢ 1 → count ≡ 1)
Agrees node (Links links) count mark = (mark ≡ true) × (count ≡ links) × (links < 2 ^ 32)

-- the same of all nodes below k
abbrev pub Agree : List Looked → List ℕ → List Bool → ℕ → Type 0
Agree nodes named marks k = (n : ℕ) → n < k → Agrees n (seen nodes n) (get_or named n 0) (has_mark marks n)

-- what is wrong with a node
abbrev pub IsUnmarked : Looked → Bool → Type 0
IsUnmarked look mark = (look ≢ Unused) × (mark ≡ false)

-- a directory but for the root that isn't named once
pub record IsMiscounted (node : ℕ) (look : Looked) (count : ℕ) : Type 0 where
  pub size : ℕ
  pub is_dir : look ≡ Directory size
  pub other : node ≢ 1
  pub differ : count ≢ 1

-- a file that isn't named as often as it has links
pub record HasOtherLinks (look : Looked) (count : ℕ) : Type 0 where
  pub links : ℕ
  pub is_file : look ≡ Links links
  pub few : links < 2 ^ 32
  pub differ : count ≢ links

abbrev pub IsWrongOne : ℕ → Looked → ℕ → Bool → TreeDamage → Type 0
IsWrongOne node look count mark (damage.Unreached n) = (n ≡ node) × IsUnmarked look mark
IsWrongOne node look count mark (damage.NotNamedOnce n) = (n ≡ node) × IsMiscounted node look count
IsWrongOne node look count mark (damage.WrongLinks n) = (n ≡ node) × HasOtherLinks look count
IsWrongOne node look count mark _ = ⊥

-- what is wrong with some node that was counted
abbrev pub IsWrong : List Looked → List ℕ → List Bool → TreeDamage → Type 0
IsWrong nodes named marks why = (n : ℕ) × (n < length nodes) × IsWrongOne n (seen nodes n) (get_or named n 0) (has_mark marks n) why
