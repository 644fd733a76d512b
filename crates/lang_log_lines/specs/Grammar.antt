-- Which call of a log a line is. Its parts are parted by exactly one blank; whatever is outside the grammar is `Bad`. A line is given without
-- its line feed.
use Rattle.std.specs.Prelude.{ℕ, ◌==◌, if◌then◌else◌, List, [], ◌∷◌, codes, bytes_eq, Option, None, Some}
use Rattle.std.specs.List.{slice_split}
use Rattle.lang_lines.specs.Lines.{items_of, items_of_line, whole_items}
use Rattle.lang_log.specs.declared.call.LogCall.{LogCall}
use Rattle.lang_log.specs.declared.call.LogCall.TheVariants.{Append, Get, Trim, Count, Order, Sync, Bad}
use Rattle.lang_script.specs.Grammar.{bytes_of, small_number_of}

-- the call of a word alone
abbrev pub word_call : List ℕ → LogCall
word_call word =
    if bytes_eq word (codes "append") then Append []
    else if bytes_eq word (codes "count") then Count
    else if bytes_eq word (codes "order") then Order
    else if bytes_eq word (codes "sync") then Sync
    else Bad

-- an append, where there are bytes
abbrev pub append_call : Option (List ℕ) → LogCall
append_call (Some bytes) = Append bytes
append_call None = Bad

-- a get, where there is a number
abbrev pub get_call : Option ℕ → LogCall
get_call (Some number) = Get number
get_call None = Bad

-- a trim, where there is a number
abbrev pub trim_call : Option ℕ → LogCall
trim_call (Some number) = Trim number
trim_call None = Bad

-- the call of a word and one argument: at least one byte in pairs of digits, or a number below 2^32
abbrev pub two_part_call : List ℕ → List ℕ → LogCall
two_part_call word part =
    if bytes_eq word (codes "append") then append_call (bytes_of part)
    else if bytes_eq word (codes "get") then get_call (small_number_of part)
    else if bytes_eq word (codes "trim") then trim_call (small_number_of part)
    else Bad

-- the call whose word and argument the parts are
abbrev pub call_of_parts : List (List ℕ) → LogCall
call_of_parts (word ∷ []) = word_call word
call_of_parts (word ∷ part ∷ []) = two_part_call word part
call_of_parts _ = Bad

-- the call that a line is
abbrev pub call_of : List ℕ → LogCall
call_of line = call_of_parts (slice_split (λ b. b == 32) line)

-- The lines of an input are those of scripts: an empty one and a comment are skipped, and one that is longer than a line may be is `Bad`.

-- the call that a line is: none where it is skipped
abbrev pub calls_of_line : ℕ → List ℕ → List LogCall
calls_of_line longest line = items_of_line Bad call_of longest line

-- the calls of the lines whose line feed is in the input, for lines of at most `longest` bytes
abbrev pub whole_calls : ℕ → List ℕ → List LogCall
whole_calls longest input = whole_items (calls_of_line longest) input

-- the calls of an input that has been read to its end: the last line may lack its line feed
abbrev pub calls_of : ℕ → List ℕ → List LogCall
calls_of longest input = items_of (calls_of_line longest) input
