-- Which commands may be asked for, and which replies their types allow. Each of them is written in a text of its own.
use Rattle.std.specs.Prelude.{◌≡◌, ℕ, ◌<◌, ◌^◌, Bool, true, nat_lt, List}
use Rattle.std.specs.List.{list_all}
use Rattle.base_types.specs.Name.{is_name}
use Rattle.lang_tree.specs.declared.command.Cmd.{Cmd}
use Rattle.lang_tree.specs.declared.command.Reply.{Reply}
use Rattle.lang_tree.specs.declared.command.Reply.TheVariants.{Bytes, Stat as StatReply, Names, Synced, DurableAt, Known, Refused}
use Rattle.lang_tree.specs.declared.command.Refusal.{Refusal}
use Rattle.lang_tree.specs.declared.command.Refusal.TheVariants.{Full, TooBig, Scattered, NoPoint}
use Rattle.lang_script.specs.Grammar.{has_lawful_arguments}

-- a command whose arguments are lawful, or none
abbrev pub IsCommand : Cmd → Type 0
IsCommand cmd = has_lawful_arguments cmd ≡ true

-- the figures of a refusal have 64 bits
abbrev pub HasFigures : Refusal → Type 0
HasFigures (Full need left) = (need < 2 ^ 64) × (left < 2 ^ 64)
HasFigures (TooBig weight cost room) = (weight < 2 ^ 64) × (cost < 2 ^ 64) × (room < 2 ^ 64)
HasFigures (Scattered runs) = runs < 2 ^ 64
HasFigures (NoPoint last) = last < 2 ^ 64
HasFigures _ = Unit {0}

-- a reply whose numbers have 64 bits, whose bytes are below 256 and whose names are lawful
abbrev pub IsReply : Reply → Type 0
IsReply (Bytes bytes) = list_all (λ b. nat_lt b 256) bytes ≡ true
IsReply (StatReply stat) = (stat.number < 2 ^ 64) × (stat.size < 2 ^ 64) × (stat.links < 2 ^ 64)
IsReply (Names names) = list_all is_name names ≡ true
IsReply (Synced point) = point < 2 ^ 64
IsReply (DurableAt point) = point < 2 ^ 64
IsReply (Known point) = point < 2 ^ 64
IsReply (Refused why) = HasFigures why
IsReply _ = Unit {0}

-- a text without a line feed: each of its bytes is above it
abbrev pub has_no_feed : List ℕ → Bool
has_no_feed text = list_all (λ b. nat_lt 10 b) text
