-- What the words of the command line ask for. The rules are described in docs/WORDS.md.
use Rattle.std.specs.Prelude.{◌≤◌, ◌≢◌, ⊤, ℕ, ◌==◌, ◌&&◌, Bool, true, false, not, List, [], ◌∷◌, Option, Some, None, IfSome, is_some, find, map, length, nat_lt, nat_le, if◌then◌else◌, codes, decimal, option_map, option_and_then, slice_get, string_bytes, unwrap_or}
use Rattle.std.specs.List.{list_any}
use Rattle.std.specs.Str.{bytes_eq, all_ascii_digits, chars}
use Rattle.std.specs.Str.Parse.{digits_value, without_leading_plus}
use Rattle.std.specs.declared.string.String.{String}
use Rattle.std.specs.declared.alloc.Global.{Global}
use Rattle.clap.specs.Lexer.{long_of}
use Rattle.base_types.specs.declared.layout.Layout.{Layout}
use Rattle.base_types.specs.declared.layout.Layout.TheVariants.{One, Two}
use Rattle.disk_memory.specs.Choice.{ChoiceState}
use Rattle.cmd_words.specs.ChoiceTexts.{choice_of}
use Rattle.cmd_words.specs.declared.request.Request.{Request}
use Rattle.cmd_words.specs.declared.request.Request.TheVariants.{Record, Replay, Tree, Make, Run, RunMirrored, Copy, Load, AppLog, Upgrade}
use Rattle.cmd_words.specs.declared.request.Notices.{Notices}
use Rattle.cmd_words.specs.declared.request.Notices.TheVariants.{Silent, Fifo, Seed}

-- ---- what one text says

-- the number from low to high that a text writes: decimal digits, one at least, behind a plus sign or none
abbrev pub number_in : ℕ → ℕ → List ℕ → Option ℕ
number_in low high text =
    let digits = without_leading_plus text in
    let number = digits_value 10 digits in
    if (nat_lt 0 (length digits) && all_ascii_digits digits) && (nat_le low number && nat_le number high)
    then Some number else None

-- the number from 1 to 4294967295 whose decimal text it is
abbrev pub seed_of : List ℕ → Option ℕ
seed_of text =
    let number = digits_value 10 text in
    if bytes_eq (decimal number) text && (nat_le 1 number && nat_le number 4294967295) then Some number else None

-- the rule of notices that a text names
abbrev pub notices_of : List ℕ → Option Notices
notices_of text =
    if bytes_eq text (codes "none") then Some Silent
    else if bytes_eq text (codes "fifo") then Some Fifo
    else option_map (λ seed. Seed seed) (seed_of text)

-- the layout that a text names
abbrev pub layout_in : List ℕ → Option Layout
layout_in text =
    if bytes_eq text (codes "1") then Some One
    else if bytes_eq text (codes "2") then Some Two
    else None

-- ---- the commands

-- what a run is asked for: to record a script, to replay a trace, to show the tree of an image, to make an image, to run a script on one or two, a load, to copy an image, to serve the log in one, or to make the tree of an image again on a new one
pub data Command : Type 0 where
  to_record : Command
  to_replay : Command
  to_show : Command
  to_make : Command
  to_run : Command
  to_load : Command
  to_copy : Command
  to_log : Command
  to_upgrade : Command

-- the word that names the command
abbrev pub name_of : Command → List ℕ
name_of to_record = codes "record"
name_of to_replay = codes "replay"
name_of to_show = codes "tree"
name_of to_make = codes "mkfs"
name_of to_run = codes "run"
name_of to_load = codes "load"
name_of to_copy = codes "copy"
name_of to_log = codes "applog"
name_of to_upgrade = codes "upgrade"

-- the words that must stand behind it, in their order
abbrev pub words_of : Command → List (List ℕ)
words_of to_record = codes "blocks" ∷ codes "journal" ∷ codes "nodes" ∷ []
words_of to_replay = []
words_of to_show = codes "image" ∷ []
words_of to_make = codes "image" ∷ codes "blocks" ∷ codes "journal" ∷ codes "nodes" ∷ []
words_of to_run = codes "image" ∷ []
words_of to_load = []
words_of to_copy = codes "image" ∷ codes "other" ∷ []
words_of to_log = codes "image" ∷ []
words_of to_upgrade = codes "image" ∷ codes "other" ∷ codes "blocks" ∷ codes "journal" ∷ codes "nodes" ∷ []

-- its options
abbrev pub options_of : Command → List (List ℕ)
options_of to_record = codes "notices" ∷ codes "room" ∷ codes "fail" ∷ codes "layout" ∷ []
options_of to_replay = codes "at" ∷ codes "stand" ∷ codes "tear" ∷ []
options_of to_show = []
options_of to_make = codes "layout" ∷ []
options_of to_run = codes "mirror" ∷ []
options_of to_load = codes "seed" ∷ codes "count" ∷ []
options_of to_copy = []
options_of to_log = []
options_of to_upgrade = []

-- the command that a word names
abbrev pub command_of : List ℕ → Option Command
command_of word =
    if bytes_eq (codes "record") word then Some to_record
    else if bytes_eq (codes "replay") word then Some to_replay
    else if bytes_eq (codes "tree") word then Some to_show
    else if bytes_eq (codes "mkfs") word then Some to_make
    else if bytes_eq (codes "run") word then Some to_run
    else if bytes_eq (codes "load") word then Some to_load
    else if bytes_eq (codes "copy") word then Some to_copy
    else if bytes_eq (codes "applog") word then Some to_log
    else if bytes_eq (codes "upgrade") word then Some to_upgrade else None

-- ---- which texts stand behind the command

-- a name and its text
abbrev pub Named : Type 0
Named = List ℕ × List ℕ

-- whether a word is taken for an option: a minus sign, and a character behind it
abbrev pub is_flag : List ℕ → Bool
is_flag [] = false
is_flag (first ∷ rest) = first == 45 && is_some (slice_get (chars rest) 0)

-- one more text with its name
abbrev pub before : Named → Option (List Named) → Option (List Named)
before one = option_map (λ texts. one ∷ texts)

-- a word that must stand, with the first of the names that are left
abbrev pub with_next : List ℕ → List (List ℕ) → (List (List ℕ) → Option (List Named)) → Option (List Named)
with_next word [] more = None
with_next word (name ∷ names) more = before (name, word) (more names)

-- an option with its value, which is the next word where it isn't in this one
abbrev pub with_option : Option (List ℕ) → Option (List ℕ) → (Option (List ℕ) → Option (List Named)) → Option (List Named)
with_option None value more = None
with_option (Some name) (Some value) more = before (name, value) (more None)
with_option (Some name) None more = more (Some name)

-- a word by its look: that of `--name=value` or `--name`; another one that is taken for an option, and there is none such; or else one that must stand
abbrev pub with_word : List (List ℕ) → List ℕ → Option (List ℕ × Option (List ℕ)) → List (List ℕ)
    → (Option (List ℕ) → List (List ℕ) → Option (List Named)) → Option (List Named)
with_word options word None names more = if is_flag word then None else with_next word names (more None)
with_word options word (Some long) names more = with_option (find (λ name. bytes_eq name long.0) options) long.1 (λ waiting. more waiting names)

-- the words behind `--`: each is one that must stand
abbrev pub placed : List (List ℕ) → List (List ℕ) → Option (List Named)
placed [] names = Some []
placed (word ∷ words) names = with_next word names (placed words)

-- The texts that the words say, each with its name: an option's stands in its word, and that of a word that must stand has the next of `names`.
-- The first word is the value of the option that waits for one, where one does.
abbrev pub named : List (List ℕ) → List (List ℕ) → Option (List ℕ) → List (List ℕ) → Option (List Named)
named options [] None names = Some []
named options [] (Some option) names = None
named options (word ∷ words) (Some option) names = if is_flag word then None else before (option, word) (named options words None names)
named options (word ∷ words) None names =
    if bytes_eq word (codes "--") then placed words names else with_word options word (long_of word) names (named options words)

-- ---- what they ask for

-- a text has the name
abbrev pub has_name : List ℕ → List Named → Bool
has_name name = list_any (λ text. bytes_eq text.0 name)

-- no two texts have one name
abbrev pub are_apart : List Named → Bool
are_apart [] = true
are_apart (text ∷ texts) = not (has_name text.0 texts) && are_apart texts

-- the text of a name
abbrev pub text_of : List Named → List ℕ → Option (List ℕ)
text_of texts name = option_map (λ text. text.1) (find (λ text. bytes_eq text.0 name) texts)

-- what the text of an option says, or what holds without it
abbrev pub value_or : {A : Type 0} → A → (List ℕ → Option A) → Option (List ℕ) → Option A
value_or default read None = Some default
value_or default read (Some text) = read text

-- the recording with these numbers and options, where each of them is one
abbrev pub record_of : Option ℕ → Option ℕ → Option ℕ → Option Layout → Option Notices → Option ℕ → Option (Option ℕ) → Option Request
record_of (Some blocks) (Some journal) (Some nodes) (Some layout) (Some notices) (Some room) (Some fail) =
    Some (Record blocks journal nodes layout notices room fail)
record_of _ _ _ _ _ _ _ = None

-- The recording whose numbers and options have these texts: blocks, journal blocks, nodes; the layout, or layout 1; the rule of notices,
-- or none of them come; the room for writes, or 4,096; and the write that fails, or none.
abbrev pub recording_of : (List ℕ → Option (List ℕ)) → Option Request
recording_of text = record_of
    (option_and_then (number_in 64 1048576) (text (codes "blocks")))
    (option_and_then (number_in 16 65536) (text (codes "journal")))
    (option_and_then (number_in 16 65536) (text (codes "nodes")))
    (value_or One layout_in (text (codes "layout")))
    (value_or Silent notices_of (text (codes "notices")))
    (value_or 4096 (number_in 1 65536) (text (codes "room")))
    (value_or None (λ t. option_map (λ write. Some write) (number_in 1 4294967295 t)) (text (codes "fail")))

-- the replay up to this moment, with this choice of what a crash leaves then, where both are there
abbrev pub replay_at : Option ℕ → Option ChoiceState → Option Request
replay_at (Some moment) (Some choice) = Some (Replay moment choice)
replay_at _ _ = None

-- The replay whose options have these texts: the moment; and the choice of which pending writes stand, or none of them do, and of which are torn.
abbrev pub replay_of : (List ℕ → Option (List ℕ)) → Option Request
replay_of text = replay_at
    (option_and_then (number_in 0 4294967295) (text (codes "at")))
    (choice_of (unwrap_or (text (codes "stand")) (codes "none")) (text (codes "tear")))

-- the tree of the image with this name
abbrev pub tree_of : (List ℕ → Option (List ℕ)) → Option Request
tree_of text = option_map (λ image. Tree image) (text (codes "image"))

-- the making of this image with these numbers and this layout, where each of them is one
abbrev pub make_with : Option (List ℕ) → Option ℕ → Option ℕ → Option ℕ → Option Layout → Option Request
make_with (Some image) (Some blocks) (Some journal) (Some nodes) (Some layout) = Some (Make image blocks journal nodes layout)
make_with _ _ _ _ _ = None

-- The making whose words and option have these texts: the name of the image; blocks, journal blocks, nodes, in the ranges that a recording has;
-- and the layout, or layout 1.
abbrev pub make_of : (List ℕ → Option (List ℕ)) → Option Request
make_of text = make_with
    (text (codes "image"))
    (option_and_then (number_in 64 1048576) (text (codes "blocks")))
    (option_and_then (number_in 16 65536) (text (codes "journal")))
    (option_and_then (number_in 16 65536) (text (codes "nodes")))
    (value_or One layout_in (text (codes "layout")))

-- the run on the image with this name; or on it and another one with that name, where the names differ
abbrev pub run_with : Option (List ℕ) → Option (List ℕ) → Option Request
run_with None other = None
run_with (Some image) None = Some (Run image)
run_with (Some image) (Some other) = if bytes_eq image other then None else Some (RunMirrored image other)

-- the run whose word and option have these texts: the name of the image; and that of the one that is kept alike, or none is
abbrev pub run_of : (List ℕ → Option (List ℕ)) → Option Request
run_of text = run_with (text (codes "image")) (text (codes "mirror"))

-- the copying of the image with this name to the one with that name, where the names differ
abbrev pub copy_with : Option (List ℕ) → Option (List ℕ) → Option Request
copy_with (Some image) (Some other) = if bytes_eq image other then None else Some (Copy image other)
copy_with _ _ = None

-- the copying whose words have these texts
abbrev pub copy_of : (List ℕ → Option (List ℕ)) → Option Request
copy_of text = copy_with (text (codes "image")) (text (codes "other"))

-- the load of this seed with so many commands, where both are there
abbrev pub load_with : Option ℕ → Option ℕ → Option Request
load_with (Some seed) (Some count) = Some (Load seed count)
load_with _ _ = None

-- the load whose options have these texts: the seed, and how many commands it has
abbrev pub load_of : (List ℕ → Option (List ℕ)) → Option Request
load_of text = load_with
    (option_and_then (number_in 0 4294967295) (text (codes "seed")))
    (option_and_then (number_in 0 2000) (text (codes "count")))

-- the log that is kept in the image with this name
abbrev pub log_of : (List ℕ → Option (List ℕ)) → Option Request
log_of text = option_map (λ image. AppLog image) (text (codes "image"))

-- the upgrade of this image onto that one with these numbers, where each of them is one and the names differ
abbrev pub upgrade_with : Option (List ℕ) → Option (List ℕ) → Option ℕ → Option ℕ → Option ℕ → Option Request
upgrade_with (Some image) (Some other) (Some blocks) (Some journal) (Some nodes) =
    if bytes_eq image other then None else Some (Upgrade image other blocks journal nodes)
upgrade_with _ _ _ _ _ = None

-- the upgrade whose words have these texts: the names of the two images; blocks, journal blocks and nodes of the new one, in the ranges that a recording has
abbrev pub upgrade_of : (List ℕ → Option (List ℕ)) → Option Request
upgrade_of text = upgrade_with
    (text (codes "image"))
    (text (codes "other"))
    (option_and_then (number_in 64 1048576) (text (codes "blocks")))
    (option_and_then (number_in 16 65536) (text (codes "journal")))
    (option_and_then (number_in 16 65536) (text (codes "nodes")))

-- what a command asks for, by the texts of its words and options
abbrev pub asked : Command → (List ℕ → Option (List ℕ)) → Option Request
asked to_record = recording_of
asked to_replay = replay_of
asked to_show = tree_of
asked to_make = make_of
asked to_run = run_of
asked to_load = load_of
asked to_copy = copy_of
asked to_log = log_of
asked to_upgrade = upgrade_of

-- the same of the command that a word names
abbrev pub asked_by : List ℕ → (List ℕ → Option (List ℕ)) → Option Request
asked_by name text = option_and_then (λ command. asked command text) (command_of name)

-- what a command asks for by texts of which no two have one name
abbrev pub asked_apart : Command → List Named → Option Request
asked_apart command texts = if are_apart texts then asked command (text_of texts) else None

-- what a command asks for with these words behind its name
abbrev pub asked_with : List (List ℕ) → Command → Option Request
asked_with words command = option_and_then (asked_apart command) (named (options_of command) words None (words_of command))

-- the name of a command and what that takes, and nothing else
abbrev pub request_of_texts : List (List ℕ) → Option Request
request_of_texts [] = None
request_of_texts (name ∷ words) = option_and_then (asked_with words) (command_of name)

-- the same of the words as the program has them
abbrev pub request_of : List (String Global) → Option Request
request_of words = request_of_texts (map string_bytes words)

-- a seed is in its range
abbrev pub HasSeedInRange : Notices → Type 0
HasSeedInRange (Seed seed) = (1 ≤ seed) × (seed ≤ 4294967295)
HasSeedInRange _ = ⊤

-- each number of a request is in its range, and two images have two names; which numbers a choice has is said where it is read
abbrev pub IsInRange : Option Request → Type 0
IsInRange None = ⊤
IsInRange (Some (Record blocks journal nodes layout notices room fail)) =
    (64 ≤ blocks) × (blocks ≤ 1048576) × (16 ≤ journal) × (journal ≤ 65536) × (16 ≤ nodes) × (nodes ≤ 65536)
    × HasSeedInRange notices × (1 ≤ room) × (room ≤ 65536) × IfSome fail (λ write. (1 ≤ write) × (write ≤ 4294967295))
IsInRange (Some (Replay moment choice)) = moment ≤ 4294967295
IsInRange (Some (Tree image)) = ⊤
IsInRange (Some (Make image blocks journal nodes layout)) =
    (64 ≤ blocks) × (blocks ≤ 1048576) × (16 ≤ journal) × (journal ≤ 65536) × (16 ≤ nodes) × (nodes ≤ 65536)
IsInRange (Some (Run image)) = ⊤
IsInRange (Some (RunMirrored image other)) = image ≢ other
IsInRange (Some (Copy image other)) = image ≢ other
IsInRange (Some (Load seed count)) = (seed ≤ 4294967295) × (count ≤ 2000)
IsInRange (Some (AppLog image)) = ⊤
IsInRange (Some (Upgrade image other blocks journal nodes)) =
    (image ≢ other) × (64 ≤ blocks) × (blocks ≤ 1048576) × (16 ≤ journal) × (journal ≤ 65536) × (16 ≤ nodes) × (nodes ≤ 65536)
