-- What is told of a crash of a trace. It is described in docs/REPLAY.md.
use Rattle.std.specs.Prelude.{◌≡◌, ℕ, false, IsTrue, List, ◌++◌, codes, decimal, length, take, Option, None, Some, Result, Ok, Err}
use Rattle.base_types.specs.Seal.{blocks_of}
use Rattle.disk_contract.specs.declared.event.Event.{Event}
use Rattle.layout_geometry.specs.Geometry.{Geometry}
use Rattle.layout_journal.specs.Formatted.{formatted}
use Rattle.disk_memory.specs.Choice.{ChoiceState, AreBlocksOf, can_choose, chosen}
use Rattle.lang_tree.specs.Tree.{Tree}
use Rattle.lang_tree.specs.Listing.{listing}
use Rattle.cmd_trace.specs.Contents.{Contents}
use Rattle.cmd_session.specs.Images.{StandsMounted}
use Rattle.cmd_replay.specs.declared.refusal.ReplayRefusal.{ReplayRefusal}
use Rattle.cmd_replay.specs.declared.refusal.ReplayRefusal.TheVariants.{Choice, Damaged, Spent, NoMemory}
use Rattle.cmd_replay.specs.Images.{RefusesImage}
use Rattle.cmd_replay.specs.Named.{AreAlike}
use Rattle.cmd_replay.specs.Newest.{IsNewest}
use Rattle.cmd_replay.specs.Points.{points_in, floor_at, top_at}

-- what was found: the listing of a tree, and the number of the sync point that has it, where there is one
pub record Found : Type 0 where
  pub text : List ℕ
  pub point : Option ℕ

-- the line of the point
abbrev pub point_line : Option ℕ → List ℕ
point_line None = codes "prefix none\n"
point_line (Some point) = codes "prefix " ++ (decimal point ++ codes "\n")

-- that line, and the listing
abbrev pub found_text : Found → List ℕ
found_text found = point_line found.point ++ found.text

-- A crash after the first events of this log leaves this image by the choice, on a disk that was formatted with this geometry. The log has so many events, and each write that the choice names is pending then.
pub record LeavesImage (g : Geometry) (log : List Event) (moment : ℕ) (choice : ChoiceState) (image : List (List ℕ)) : Type 0 where
  pub may : IsTrue (can_choose choice moment log)
  pub is : AreBlocksOf g.n (chosen choice (formatted g) (take moment log)) image

-- The image stands for a tree, whose listing was found. Of the sync points from floor to top at the moment the newest one with that tree, numbers of snapshots aside, was found, or there is none.
pub record ShowsFound (c : Contents) (moment : ℕ) (image : List (List ℕ)) (found : Found) : Type 0 where
  pub tree : Tree
  pub stands : StandsMounted (length image) (blocks_of image) tree
  pub text : found.text ≡ listing tree
  pub newest : IsNewest (λ t. AreAlike t tree) (points_in c) (floor_at moment c) (top_at moment c) found.point

-- the crash leaves an image, and this holds of it
abbrev pub OfImage : Contents → ℕ → ChoiceState → (List (List ℕ) → Type 0) → Type 0
OfImage c moment choice P = (image : List (List ℕ)) × LeavesImage c.geometry c.log moment choice image × P image

-- What the answer says of the crash: what was found in its image, or why nothing was; want of memory says nothing.
abbrev pub Answers : Contents → ℕ → ChoiceState → Result Found ReplayRefusal → Type 0
Answers c moment choice (Ok found) = OfImage c moment choice (λ image. ShowsFound c moment image found)
Answers c moment choice (Err Choice) = can_choose choice moment c.log ≡ false
Answers c moment choice (Err (Damaged damage)) = OfImage c moment choice (λ image. RefusesImage (length image) (blocks_of image) (Damaged damage))
Answers c moment choice (Err Spent) = OfImage c moment choice (λ image. RefusesImage (length image) (blocks_of image) Spent)
Answers c moment choice (Err NoMemory) = Unit {0}

-- why a crash leaves no image: the choice can't be made at the moment, or memory is wanting; only private contracts speak of it
abbrev pub RefusesChoice : List Event → ℕ → ChoiceState → ReplayRefusal → Type 0
RefusesChoice log moment choice Choice = can_choose choice moment log ≡ false
RefusesChoice log moment choice (Damaged damage) = ⊥
RefusesChoice log moment choice Spent = ⊥
RefusesChoice log moment choice NoMemory = Unit {0}
