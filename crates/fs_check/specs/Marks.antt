-- Which nodes a search from the root has reached: each has a mark, and the directories stand in a queue.
use Rattle.std.specs.Prelude.{◌≡◌, ◌⊎◌, ℕ, ◌+◌, ◌<◌, ◌≤◌, Bool, true, false, IsTrue, List, [], ◌∷◌, ◌++◌, map, get_or, length, slice_get, Some, if◌then◌else◌}
use Rattle.layout_bytes.specs.declared.slot.Slot.{Slot}
use Rattle.crash_stands.specs.Inodes.{Inodes, ADir}
use Rattle.crash_stands.specs.Walks.{LeadsTo}
use Rattle.fs_check.specs.declared.looked.Looked.{Looked}
use Rattle.fs_check.specs.declared.looked.Looked.TheVariants.{Directory}
use Rattle.fs_check.specs.Looked.{seen}

-- whether node k has a mark
abbrev pub has_mark : List Bool → ℕ → Bool
has_mark marks k = get_or marks k false

-- how many marks are set
abbrev pub marked : List Bool → ℕ
marked [] = 0
marked (b ∷ bs) = (if b then 1 else 0) + marked bs

-- the node is one of these
pub record Stands (ns : List ℕ) (node : ℕ) : Type 0 where
  pub place : ℕ
  pub at : slice_get ns place ≡ Some node

-- the nodes that these slots name, in order
abbrev pub targets : List Slot → List ℕ
targets slots = map (λ s. s.node) slots

-- a node was seen as a directory
abbrev pub WasDir : List Looked → ℕ → Type 0
WasDir nodes k = (size : ℕ) × (seen nodes k ≡ Directory size)

-- These nodes have marks now, and the directories among them that had none stand in the queue, behind those that stood there.
pub record Marks (nodes : List Looked) (ns : List ℕ) (marks new_marks : List Bool) (queue new_queue : List ℕ) : Type 0 where
  pub count : length new_marks ≡ length marks
  pub keeps : (k : ℕ) → has_mark marks k ≡ true → has_mark new_marks k ≡ true
  pub each : (k : ℕ) → Stands ns k → k < length marks → has_mark new_marks k ≡ true
  pub only : (k : ℕ) → has_mark new_marks k ≡ true → (has_mark marks k ≡ true) ⊎ Stands ns k
  pub front : (rest : List ℕ) × (new_queue ≡ queue ++ rest)
  pub queued : (k : ℕ) → has_mark new_marks k ≡ true → WasDir nodes k → (has_mark marks k ≡ true) ⊎ Stands new_queue k
  pub dirs : (k : ℕ) → Stands new_queue k → Stands queue k ⊎ ((has_mark new_marks k ≡ true) × WasDir nodes k)
  pub room : length new_queue + marked marks ≤ length queue + marked new_marks

-- The nodes that the slots of a directory name have marks now.
pub record MarksDir (tells : Bool) (nodes : List Looked) (m : Inodes) (dir : ℕ) (marks new_marks : List Bool) (queue new_queue : List ℕ) : Type 0 where
  pub named : List ℕ
  pub sets : Marks nodes named marks new_marks queue new_queue
  pub those : IsTrue tells → (slots : List Slot) → m dir ≡ Some (ADir slots) → named ≡ targets slots

-- The search came to a place of the queue: each marked node is reached, the directories among them stand in the queue, and what the directories before that place name has marks.
pub record Searches (nodes : List Looked) (m : Inodes) (marks : List Bool) (queue : List ℕ) (at : ℕ) : Type 0 where
  pub root : has_mark marks 1 ≡ true
  pub paths : (k : ℕ) → has_mark marks k ≡ true → (path : List (List ℕ)) × LeadsTo m path k
  pub queued : (k : ℕ) → has_mark marks k ≡ true → WasDir nodes k → Stands queue k
  pub done : (j k : ℕ) (slots : List Slot) → j < at → slice_get queue j ≡ Some k → m k ≡ Some (ADir slots) → (n : ℕ) → Stands (targets slots) n → has_mark marks n ≡ true

-- what holds of the queue whatever the blocks hold
pub record IsQueue (nodes : List Looked) (marks : List Bool) (queue : List ℕ) : Type 0 where
  pub count : length marks ≡ length nodes
  pub dirs : (k : ℕ) → Stands queue k → (has_mark marks k ≡ true) × WasDir nodes k
  pub room : length queue ≤ marked marks

-- just the nodes to which a path leads have marks
pub record AreReached (m : Inodes) (marks : List Bool) : Type 0 where
  pub paths : (k : ℕ) → has_mark marks k ≡ true → (path : List (List ℕ)) × LeadsTo m path k
  pub others : (path : List (List ℕ)) (k : ℕ) → LeadsTo m path k → has_mark marks k ≡ true
