-- The lines of an input, what they say, and the commands that they are. It is described in docs/SCRIPT.md.
use Rattle.std.specs.Prelude.{ℕ, ◌==◌, Bool, true, if◌then◌else◌, nat_lt, List, [], ◌∷◌, length}
use Rattle.std.specs.List.{slice_split, flat_map}
use Rattle.lang_tree.specs.declared.command.Cmd.{Cmd}
use Rattle.lang_tree.specs.declared.command.Cmd.TheVariants.{Bad}
use Rattle.lang_script.specs.Grammar.{command_of}

-- the longest line, in bytes
unfoldable pub longest : ℕ
longest = 262144

-- the parts between the line feeds; the last part has no line feed behind it
abbrev pub parts_of : List ℕ → List (List ℕ)
parts_of input = slice_split (λ b. b == 10) input

-- all but the last
abbrev pub all_but_last : List (List ℕ) → List (List ℕ)
all_but_last [] = []
all_but_last (part ∷ []) = []
all_but_last (part ∷ next ∷ parts) = part ∷ all_but_last (next ∷ parts)

abbrev pub last_of : List (List ℕ) → List ℕ
last_of [] = []
last_of (part ∷ []) = part
last_of (part ∷ next ∷ parts) = last_of (next ∷ parts)

-- the lines whose line feed is in the input
abbrev pub whole_lines : List ℕ → List (List ℕ)
whole_lines input = all_but_last (parts_of input)

-- what is behind the last line feed
abbrev pub open_line : List ℕ → List ℕ
open_line input = last_of (parts_of input)

-- an empty line, or one that begins with `#`
abbrev pub is_skipped : List ℕ → Bool
is_skipped [] = true
is_skipped (b ∷ line) = b == 35

module _ {A : Type 0} where
  -- what a line says, where `says` tells it of the text of one: nothing where it is skipped, and `bad` where it is longer than a line may be
  abbrev pub items_of_line : A → (List ℕ → A) → ℕ → List ℕ → List A
  items_of_line bad says longest line = if is_skipped line then [] else ((if nat_lt longest (length line) then bad else says line) ∷ [])

  -- what the lines say whose line feed is in the input, for `each` that tells it of a line
  abbrev pub whole_items : (List ℕ → List A) → List ℕ → List A
  whole_items each input = flat_map each (whole_lines input)

  -- what an input says that has been read to its end: the last line may lack its line feed
  abbrev pub items_of : (List ℕ → List A) → List ℕ → List A
  items_of each input = flat_map each (parts_of input)

-- the command that a line is: none where it is skipped, and `Bad` where it is longer than a line may be
abbrev pub commands_of_line : ℕ → List ℕ → List Cmd
commands_of_line longest line = items_of_line Bad command_of longest line

-- the commands of the lines whose line feed is in the input, for lines of at most `longest` bytes
abbrev pub whole_commands : ℕ → List ℕ → List Cmd
whole_commands longest input = whole_items (commands_of_line longest) input

-- the commands of an input that has been read to its end: the last line may lack its line feed
abbrev pub commands_of : ℕ → List ℕ → List Cmd
commands_of longest input = items_of (commands_of_line longest) input
