-- From the contracts of `clap`'s calls to the request: the program's command, and what a parse gives.
use Rattle.std.proofs.Common.{◌≡◌, inl, inr, ◌||◌, Bool, true, false, List, [], ◌∷◌, Option, Some, None, refl, sym, ap, subst, ◌∙◌, codes}
use Rattle.std.specs.Prelude.{option_and_then, option_map}
use Rattle.std.proofs.lemmas.Bool.{and_parts, false≢true}
use Rattle.clap.specs.Kinds.{HasKind, Kinds}
use Rattle.clap.specs.Values.{kind_of}
use Rattle.clap.specs.Faults.{fault_of, is_free_app, is_simple_and_free}
use Rattle.clap.specs.Matches.{first_value}
use Rattle.clap.specs.Walk.{Row, Text, first_of, rows_of}
use Rattle.clap.specs.Simple.{App, Shape, app_of_fields, built, is_simple, matches_of, new_app, on_top, subcommand_of}
use Rattle.clap.specs.declared.builder.command.Command.{Command}
use Rattle.clap.specs.declared.builder.command.Command.TheOpen.{Command-F}
use Rattle.clap.specs.declared.error.Error.{Error}
use Rattle.clap.specs.declared.error.kind.ErrorKind.TheVariants.{OutOfMemory}
use Rattle.clap.specs.declared.parser.matches.Found.{Found}
use Rattle.clap.proofs.OnLiterals.{clap_on_literals}
use Rattle.clap.proofs.WalkLemmas.{first_value-rows}
use Rattle.cmd_words.specs.declared.request.Request.{Request}
use Rattle.cmd_words.specs.Program.{bare, program}
use Rattle.cmd_words.specs.Words.{Command as Wanted, to_record, name_of, words_of, options_of, command_of, Named, named, asked, asked_apart, asked_by, asked_with, request_of_texts, text_of}
use Rattle.cmd_words.proofs.Apart.{rows}
use Rattle.cmd_words.proofs.Asked.{first_is, asked_same, refused_none}
use Rattle.cmd_words.proofs.Line.{LineFate, LineRefused, behind_command, from_line, line_goes}
use Rattle.cmd_words.proofs.Steps.{is_clean}

-- the settings of the command above the others
pub bare_of : (a b c d e : Command-F Command) → app_of_fields a ≡ new_app (codes "optfs")
    → b ≡ record a { no_binary_name = true } → c ≡ record b { disable_help_flag = true }
    → d ≡ record c { disable_help_subcommand = true } → e ≡ record d { subcommand_required = true }
    → app_of_fields e ≡ record { top = bare; subs = [] }
bare_of a b c d e start first second third fourth =
    ap app_of_fields fourth ∙ ap (on_top (λ (s : Shape). record s { subcommand_required = true }))
    (ap app_of_fields third ∙ ap (on_top (λ (s : Shape). record s { disable_help_subcommand = true }))
    (ap app_of_fields second ∙ ap (on_top (λ (s : Shape). record s { disable_help_flag = true }))
    (ap app_of_fields first ∙ ap (on_top (λ (s : Shape). record s { no_binary_name = true })) start)))

-- a command with one argument more that isn't global has a global one if it had one
pub same_globals : (old more new : Bool) → new ≡ (old || more) → more ≡ false → new ≡ old
same_globals true more new is none = is
same_globals false more new is none = is ∙ none

-- `clap` tells exactly what it makes of the words for this command
is_free : is_simple_and_free program ≡ true
unfolding clap_on_literals
is_free = refl

is_plain : is_simple program ≡ true
is_plain = (and_parts (is_simple program) (is_free_app (built program)) is_free).0

-- the request of words by the command and the texts that they say
abbrev asked_of : Option (Wanted × List Named) → Option Request
asked_of = option_and_then (λ p. asked_apart p.0 p.1)

request_is : (words : List Text) → request_of_texts words ≡ asked_of (from_line words)
request_is [] = refl
request_is (word ∷ words) = by_command (command_of word)
  where
    by_texts : (k : Wanted) (o : Option (List Named)) → option_and_then (asked_apart k) o ≡ asked_of (option_map (λ texts. (k, texts)) o)
    by_texts k None = refl
    by_texts k (Some texts) = refl

    by_command : (o : Option Wanted) → option_and_then (asked_with words) o ≡ asked_of (option_and_then (behind_command words) o)
    by_command None = refl
    by_command (Some k) = by_texts k (named (options_of k) words None (words_of k))

-- the command that is entered and the texts that it keeps, which are those of the request
pub record Entered (words : List Text) (sub : Option (Text × List Row)) : Type 0 where
  pub command : Wanted
  pub texts : List Named
  pub kept : sub ≡ Some (name_of command, rows texts)
  pub asks : request_of_texts words ≡ asked command (text_of texts)

taken_line : (words : List Text) → fault_of program words ≡ [] → Entered words (subcommand_of program words)
taken_line words none =
    go (from_line words) refl (subst (λ (b : Bool). LineFate b (subcommand_of program words) (from_line words)) (ap is_clean none) (line_goes words))
  where
    go : (want : Option (Wanted × List Named)) → from_line words ≡ want → LineFate true (subcommand_of program words) (from_line words) → Entered words (subcommand_of program words)
    go want same fate = record {
      command = fate.0;
      texts = fate.1;
      kept = fate.4;
      asks = request_is words ∙ ap asked_of fate.2 ∙ rw fate.3 refl;
    }

-- a parse that succeeds entered a command, and keeps the texts of the request
pub parsed_request : (p : App) (words : List Text) (own : List Row) (sub : Option (Text × List Row)) → p ≡ program
    → (is_simple_and_free p ≡ true → fault_of p words ≡ [])
    → (is_simple p ≡ true → (own ≡ matches_of p words) × (sub ≡ subcommand_of p words))
    → Entered words sub
parsed_request p words own sub is kinds matches =
    let none : fault_of program words ≡ [] = subst (λ (q : App). fault_of q words ≡ []) is (kinds (ap is_simple_and_free is ∙ is_free)) in
    let line = taken_line words none in
    record {
      command = line.command;
      texts = line.texts;
      kept = (matches (ap is_simple is ∙ is_plain)).1 ∙ (ap (λ (q : App). subcommand_of q words) is ∙ line.kept);
      asks = line.asks;
    }

-- the first of each two
pub name_is : {A : Type 0} (f : A → Text) (g : A → List Row) (o : Option A) → option_map f o ≡ option_map (λ (q : Text × List Row). q.0) (option_map (λ a. (f a, g a)) o)
name_is f g None = refl
name_is f g (Some a) = refl

named_command : (k : Wanted) → command_of (name_of k) ≡ Some k
named_command to_record = refl
named_command other = refl

-- what is read of them is the request
pub read_request : (words : List Text) (sub : Option (Text × List Row)) (name : Text) (found : Found) (result : Option Request)
    → Entered words sub → Some name ≡ option_map (λ q. q.0) sub → Some (rows_of found) ≡ option_map (λ q. q.1) sub → result ≡ asked_by name (first_value found) → result ≡ request_of_texts words
read_request words sub name found result entered called same read =
    let is : Some (rows_of found) ≡ Some (rows entered.texts) = same ∙ ap (option_map (λ (q : Text × List Row). q.1)) entered.kept in
    let kept : rows_of found ≡ rows entered.texts = cc in
    let name_is : Some name ≡ Some (name_of entered.command) = called ∙ ap (option_map (λ (q : Text × List Row). q.0)) entered.kept in
    let is_named : name ≡ name_of entered.command = cc in
    let texts : (name : Text) → first_value found name ≡ text_of entered.texts name =
    λ name. first_value-rows found name ∙ ap (first_of name) kept ∙ first_is entered.texts name in
    let command : command_of name ≡ Some entered.command = ap command_of is_named ∙ named_command entered.command in
    read ∙ ap (option_and_then (λ (k : Wanted). asked k (first_value found))) command ∙ asked_same entered.command (first_value found) (text_of entered.texts) texts ∙ sym entered.asks

-- a parse that fails, but for out of memory, had words that ask for nothing
pub refused_request : (p : App) (words : List Text) (e : Error) → p ≡ program
    → (is_simple_and_free p ≡ true → HasKind (fault_of p words) e) → (kind_of e ≡ OutOfMemory → ⊥) → request_of_texts words ≡ None
refused_request p words e is kinds memory =
    request_is words ∙ by_clean (is_clean (fault_of program words)) refl (line_goes words)
  where
    has : HasKind (fault_of program words) e
    has = subst (λ (q : App). HasKind (fault_of q words) e) is (kinds (ap is_simple_and_free is ∙ is_free))

    no_kind : (faults : Kinds) → is_clean faults ≡ true → HasKind faults e → ⊥
    no_kind [] clean (inl out) = memory out
    no_kind [] clean (inr among) = among
    no_kind (k ∷ faults) clean among = absurd (false≢true clean)

    by_clean : (b : Bool) → is_clean (fault_of program words) ≡ b → LineFate b (subcommand_of program words) (from_line words) → asked_of (from_line words) ≡ None
    by_clean true clean fate = absurd (no_kind (fault_of program words) clean has)
    by_clean false clean fate = elim (from_line words) as (λ want. LineRefused want → asked_of want ≡ None) [ None ↦ λ r. refl | Some p ↦ λ r. refused_none p.0 (Some p.1) r ] fate
