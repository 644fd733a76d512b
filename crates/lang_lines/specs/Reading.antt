-- How far a reader is in an input, and what one call of it pulls and gives: items, which are what lines say, and commands.
use Rattle.std.specs.Prelude.{◌≡◌, ◌⊎◌, ℕ, ◌+◌, ◌^◌, ◌≤◌, Bool, true, false, if◌then◌else◌, List, [], ◌∷◌, ◌++◌, length, take, Option, ⊤}
use Rattle.std.specs.Io.KnownBytes.{Consumes, IsAtEnd}
use Rattle.base_types.specs.Counts.{Rose}
use Rattle.lang_tree.specs.declared.command.Cmd.{Cmd}
use Rattle.lang_lines.specs.Lines.{longest, open_line, whole_items, items_of, commands_of_line}
use Rattle.lang_lines.specs.declared.next.Next.{Next}
use Rattle.lang_lines.specs.declared.next.Next.TheVariants as next
use Rattle.lang_lines.specs.declared.next.NextItem.{NextItem}
use Rattle.lang_lines.specs.declared.next.NextItem.TheVariants.{Item, End, SourceFault, LongInput}

-- a reader: how many bytes it has pulled, those of them that it hasn't looked at yet, the open line as far as it is kept, and whether the input is over
pub record ReaderState : Type 0 where
  pub count : ℕ
  pub ahead : List ℕ
  pub line : List ℕ
  pub over : Bool

-- a reader that has pulled nothing
abbrev pub first_state : ReaderState
first_state = record { count = 0; ahead = []; line = []; over = false }

-- a reader says that the input is over only where no byte is left of it
abbrev pub KnowsEnd : ReaderState → Option (List ℕ) → Type 0
KnowsEnd r left = r.over ≡ true → IsAtEnd left

module _ {A : Type 0} where
  -- the item that was given, if it was one
  abbrev pub items_in : NextItem A → List A
  items_in (Item item) = item ∷ []
  items_in _ = []

  -- what is consumed where these bytes are pulled: they, and one byte behind them where the input is too long
  abbrev pub Pulls : NextItem A → Option (List ℕ) → Option (List ℕ) → List ℕ → Type 0
  Pulls LongInput left left_now more = (b : ℕ) × Consumes left left_now (more ++ b ∷ [])
  Pulls _ left left_now more = Consumes left left_now more

  -- when each answer but an item comes: behind all bytes that were pulled, at the end of the input, at a fault of the source, or at the most bytes of an input
  abbrev pub EndsBy : NextItem A → ReaderState → ℕ → ℕ → Type 0
  EndsBy (Item item) new faults faults_now = ⊤
  EndsBy End new faults faults_now = (new.over ≡ true) × (new.ahead ≡ [])
  EndsBy SourceFault new faults faults_now = Rose faults faults_now × (new.over ≡ false) × (new.ahead ≡ [])
  EndsBy LongInput new faults faults_now = (new.count ≡ 2 ^ 30) × (new.over ≡ false) × (new.ahead ≡ [])

module _ {A : Type 0} (each : List ℕ → List A) where
  -- The reader has pulled these bytes, and these are the items that it has given of them: those of the whole lines that it has looked at, and at the end of the input that of the last line too.
  pub record HasGivenItems (seen : List ℕ) (items : List A) (r : ReaderState) : Type 0 where
    -- the bytes that it has looked at
    pub front : List ℕ
    pub split : seen ≡ front ++ r.ahead
    pub count : r.count ≡ length seen
    pub most : length seen ≤ 2 ^ 30
    pub are : items ≡ (if r.over then items_of each front else whole_items each front)
    pub line : r.over ≡ false → r.line ≡ take (longest + 1) (open_line front)

  -- bytes are pulled only where the items of all whole lines before them were given
  abbrev pub AsksLate : ReaderState → List ℕ → Type 0
  AsksLate r more = (seen : List ℕ) (items : List A) → HasGivenItems seen items r → (more ≡ []) ⊎ (items ≡ whole_items each seen)

  -- what one call pulled, and what it gave
  pub record ReadsItem (next : NextItem A) (old new : ReaderState) (left left_now : Option (List ℕ)) (faults faults_now : ℕ) : Type 0 where
    -- the bytes that were pulled
    pub more : List ℕ
    pub read : Pulls next left left_now more
    pub given : (seen : List ℕ) (items : List A) → HasGivenItems seen items old → HasGivenItems (seen ++ more) (items ++ items_in next) new
    pub late : AsksLate old more
    pub over : KnowsEnd old left → KnowsEnd new left_now
    pub ends : EndsBy next new faults faults_now

  -- what a call pulled that gave nothing and lost nothing
  pub record HoldsItems (old new : ReaderState) (left left_now : Option (List ℕ)) : Type 0 where
    pub more : List ℕ
    pub read : Consumes left left_now more
    pub given : (seen : List ℕ) (items : List A) → HasGivenItems seen items old → HasGivenItems (seen ++ more) items new
    pub late : AsksLate old more
    pub over : KnowsEnd old left → KnowsEnd new left_now

-- The same of commands, which are the items of a script.

-- what comes next, with a command as the item that it is
abbrev pub as_item : Next → NextItem Cmd
as_item (next.Command cmd) = Item cmd
as_item next.End = End
as_item next.SourceFault = SourceFault
as_item next.LongInput = LongInput

-- these are the commands that the reader has given of the bytes that it has pulled
abbrev pub HasGiven : List ℕ → List Cmd → ReaderState → Type 0
HasGiven seen cmds r = HasGivenItems (commands_of_line longest) seen cmds r

-- what one call pulled, and which command it gave
abbrev pub ReadsOn : Next → ReaderState → ReaderState → Option (List ℕ) → Option (List ℕ) → ℕ → ℕ → Type 0
ReadsOn found old new left left_now faults faults_now = ReadsItem (commands_of_line longest) (as_item found) old new left left_now faults faults_now

-- what a call pulled that gave no command and lost none
abbrev pub HoldsOn : ReaderState → ReaderState → Option (List ℕ) → Option (List ℕ) → Type 0
HoldsOn old new left left_now = HoldsItems (commands_of_line longest) old new left left_now
