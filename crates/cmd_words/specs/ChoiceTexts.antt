-- Which choice of what a crash leaves two texts say. The rules are described in docs/CRASHES.md.
use Rattle.std.specs.Prelude.{◌≡◌, ℕ, ◌==◌, true, false, nat_lt, if◌then◌else◌, List, [], ◌∷◌, ◌++◌, codes, map, Option, Some, None, option_map, option_and_then, Result, Ok, Err}
use Rattle.std.specs.Borrow.{Bor}
use Rattle.std.specs.List.{slice_split}
use Rattle.std.specs.Str.{bytes_eq}
use Rattle.lang_script.specs.Decimal.{number_of}
use Rattle.disk_memory.specs.Choice.{ChoiceState}
use Rattle.disk_memory.specs.declared.choice.WriteName.{WriteName}
use Rattle.disk_memory.specs.declared.choice.WriteName.TheVariants.{Accepted, Lost}
use Rattle.disk_memory.specs.declared.choice.Fate.TheVariants.{Stands, Torn}
use Rattle.disk_memory.specs.declared.choice.Named.{Named}
use Rattle.cmd_words.specs.declared.choice_refusal.ChoiceRefusal.{ChoiceRefusal}
use Rattle.cmd_words.specs.declared.choice_refusal.ChoiceRefusal.TheVariants.{BadText, NoMemory}

-- the number, where it is one and isn't 0
abbrev pub positive : Option ℕ → Option ℕ
positive (Some number) = if nat_lt 0 number then Some number else None
positive None = None

-- the number from 1 to 2^64 - 1 that a text writes
abbrev pub counted : List ℕ → Option ℕ
counted text = positive (number_of text)

-- the write that a part names: `f` and the number of a lost write, or the ticket of an accepted one
abbrev pub write_of : List ℕ → Option WriteName
write_of [] = None
write_of (first ∷ rest) =
    if first == 102 then option_map (λ number. Lost number) (counted rest)
    else option_map (λ ticket. Accepted ticket) (counted (first ∷ rest))

-- that the write stands which the part names
abbrev pub stand_of : List ℕ → Option Named
stand_of part = option_map (λ write. record { write = write; fate = Stands }) (write_of part)

-- so many bytes, where a tear may leave them of a block: at least one, and not all
abbrev pub some_of_a_block : Option ℕ → Option ℕ
some_of_a_block (Some bytes) = if nat_lt bytes 1024 then Some bytes else None
some_of_a_block None = None

-- that the accepted write of this ticket is torn behind so many bytes
abbrev pub torn : Option ℕ → Option ℕ → Option Named
torn (Some ticket) (Some bytes) = Some record { write = Accepted ticket; fate = Torn bytes }
torn _ _ = None

-- the same of the two texts that a colon parts
abbrev pub tear_of_parts : List (List ℕ) → Option Named
tear_of_parts (ticket ∷ bytes ∷ []) = torn (counted ticket) (some_of_a_block (counted bytes))
tear_of_parts _ = None

-- the tear that a part says
abbrev pub tear_of : List ℕ → Option Named
tear_of part = tear_of_parts (slice_split (λ b. b == 58) part)

-- all of them, where each is there
abbrev pub all_of : List (Option Named) → Option (List Named)
all_of [] = Some []
all_of (None ∷ more) = None
all_of (Some one ∷ more) = option_map (λ others. one ∷ others) (all_of more)

-- what each of the parts says that commas part, where each says something
abbrev pub each_of : (List ℕ → Option Named) → List ℕ → Option (List Named)
each_of says text = all_of (map says (slice_split (λ b. b == 44) text))

-- which writes stand: all accepted ones that are pending, none, or those that the text lists
abbrev pub stands_of : List ℕ → Option ChoiceState
stands_of text =
    if bytes_eq text (codes "all") then Some record { all = true; named = [] }
    else if bytes_eq text (codes "none") then Some record { all = false; named = [] }
    else option_map (λ names. record { all = false; named = names }) (each_of stand_of text)

-- which writes are torn: those that the text lists, and none where there is no text
abbrev pub tears_of : Option (List ℕ) → Option (List Named)
tears_of None = Some []
tears_of (Some text) = each_of tear_of text

-- this is said too, where something is said at all
abbrev pub with_more : ChoiceState → Option (List Named) → Option ChoiceState
with_more choice more = option_map (λ names. record choice { named = choice.named ++ names }) more

-- the choice that a text says of which writes stand and perhaps one of which are torn
abbrev pub choice_of : List ℕ → Option (List ℕ) → Option ChoiceState
choice_of stand tear = option_and_then (λ choice. with_more choice (tears_of tear)) (stands_of stand)

-- the text behind a reference, where there is one
abbrev pub text_at : Option (Bor (List ℕ)) → Option (List ℕ)
text_at text = option_map (λ t. t.now) text

-- the answer is the choice that is wanted, or that there is none; out of memory asks for nothing
abbrev pub Answers : Option ChoiceState → Result ChoiceState ChoiceRefusal → Type 0
Answers wanted (Ok choice) = wanted ≡ Some choice
Answers wanted (Err BadText) = wanted ≡ None
Answers wanted (Err NoMemory) = Unit {0}

-- what adding says of the choice: with all that is wanted, or that something isn't there; out of memory asks for nothing
abbrev pub Adds : ChoiceState → Option (List Named) → ChoiceState → Result (Unit {0}) ChoiceRefusal → Type 0
Adds old more new (Ok _) = with_more old more ≡ Some new
Adds old more new (Err BadText) = more ≡ None
Adds old more new (Err NoMemory) = Unit {0}
