-- The command line as a value of `clap`'s words.
use Rattle.std.specs.Prelude.{ℕ, List, [], ◌∷◌, true, Some, None, codes}
use Rattle.clap.specs.Words.{App, Row, Rule, Shape, new_app, new_rule, with_rule, with_subcommand}
use Rattle.clap.specs.declared.builder.action.ArgAction.TheVariants.{Set}
use Rattle.clap.specs.declared.builder.value_parser.Reading.TheVariants.{AsWritten}
use Rattle.clap.specs.declared.parser.matches.ValueSource.TheVariants.{CommandLine}
use Rattle.cmd_words.specs.Words.{Named}

-- a word that must stand
abbrev pub word : List ℕ → Rule
word id = record (new_rule id) { required = true; action = Some Set }

-- an option with one value, which may be missing
abbrev pub option : List ℕ → Rule
option id = record (new_rule id) { long = Some id; action = Some Set }

-- an option with one value, which must stand
abbrev pub needed : List ℕ → Rule
needed id = record (option id) { required = true }

-- `record` with its three numbers and its options
abbrev pub recording : App
recording = with_rule (with_rule (with_rule (with_rule (with_rule (with_rule (with_rule (new_app (codes "record"))
    (word (codes "blocks"))) (word (codes "journal"))) (word (codes "nodes")))
    (option (codes "notices"))) (option (codes "room"))) (option (codes "fail"))) (option (codes "layout"))

-- `replay` with its options
abbrev pub replaying : App
replaying = with_rule (with_rule (with_rule (new_app (codes "replay"))
    (needed (codes "at"))) (option (codes "stand"))) (option (codes "tear"))

-- `tree` with its word
abbrev pub showing : App
showing = with_rule (new_app (codes "tree")) (word (codes "image"))

-- `mkfs` with its word, its three numbers and its option
abbrev pub making : App
making = with_rule (with_rule (with_rule (with_rule (with_rule (new_app (codes "mkfs"))
    (word (codes "image"))) (word (codes "blocks"))) (word (codes "journal"))) (word (codes "nodes"))) (option (codes "layout"))

-- `run` with its word and its option
abbrev pub running : App
running = with_rule (with_rule (new_app (codes "run")) (word (codes "image"))) (option (codes "mirror"))

-- `load` with its options
abbrev pub loading : App
loading = with_rule (with_rule (new_app (codes "load")) (needed (codes "seed"))) (needed (codes "count"))

-- `copy` with its two words
abbrev pub copying : App
copying = with_rule (with_rule (new_app (codes "copy")) (word (codes "image"))) (word (codes "other"))

-- `applog` with its word
abbrev pub logging : App
logging = with_rule (new_app (codes "applog")) (word (codes "image"))

-- `upgrade` with its two words and its three numbers
abbrev pub upgrading : App
upgrading = with_rule (with_rule (with_rule (with_rule (with_rule (new_app (codes "upgrade"))
    (word (codes "image"))) (word (codes "other"))) (word (codes "blocks"))) (word (codes "journal"))) (word (codes "nodes"))

-- words behind the program's name, of which the first is a subcommand; and no help
abbrev pub bare : Shape
bare = record (new_app (codes "optfs")).top {
  no_binary_name = true;
  disable_help_flag = true;
  disable_help_subcommand = true;
  subcommand_required = true;
}

-- the whole command line
abbrev pub program : App
program = with_subcommand (with_subcommand (with_subcommand (with_subcommand (with_subcommand (with_subcommand (with_subcommand (with_subcommand (with_subcommand (record { top = bare; subs = [] })
    recording.top) replaying.top) showing.top) making.top) running.top) loading.top) copying.top) logging.top) upgrading.top

-- what `clap` keeps of a text with a name
abbrev pub kept : Named → Row
kept text = record { id = text.0; values = text.1 ∷ []; count = None; source = Some CommandLine; reading = AsWritten }
