-- What `clap` makes of a whole list of words: a command and the texts that the definition names, or a fault.
use Rattle.std.proofs.Common.{subst, ◌≡◌, ◌||◌, ℕ, Bool, true, false, cond, List, [], ◌∷◌, length, Option, Some, None, is_some, refl, sym, ap, ap₂, ◌∙◌, codes, fold}
use Rattle.std.specs.Prelude.{slice_get, if◌then◌else◌, option_and_then, option_map}
use Rattle.std.specs.Option.{option_map_or}
use Rattle.std.specs.Str.{bytes_eq, chars}
use Rattle.clap.specs.Lexer.{long_of, short_of}
use Rattle.clap.specs.Kinds.{Kinds, or_else}
use Rattle.clap.specs.Faults.{walk_fault, settle_fault, defaults_fault, check_fault, flags_fault, step_fault, flag_word_fault, bundle_fault, bundle_step_fault, other_fault, entered_fault, fault_of}
use Rattle.clap.specs.Walk.{Held, Names, Row, Step, Text, Walk, bundle_met, finished, settled, walk_from, walked, after_flag, after_step, bundle_step, long_or_other, nothing_held, idle, trailing, short_or_plain, subcommand_or_other, plain as plain_outcome}
use Rattle.clap.specs.Simple.{Shape, built, entered, names_of, subcommand_of}
use Rattle.clap.proofs.WalkLemmas.{walk_stopped}
use Rattle.clap.proofs.FaultLemmas.{stopped_fault}
use Rattle.cmd_words.specs.Program.{program}
use Rattle.cmd_words.specs.Words.{Command, to_record, to_replay, to_show, to_make, to_run, to_load, to_copy, to_log, to_upgrade, name_of, words_of, options_of, command_of, Named, are_apart, named}
use Rattle.cmd_words.proofs.Apart.{rows}
use Rattle.cmd_words.proofs.Steps.{is_clean, unclean_first, or_else_nil, AsksNothing, Fate}
use Rattle.cmd_words.proofs.Walk.{faults_from, rows_from, none_yet, words_go}

abbrev top : Shape
top = (built program).top

abbrev names : Names
names = names_of (built program)

-- the faults of what the first word is followed by, where the walk ends
abbrev end_faults : Walk → Kinds
end_faults w = or_else (entered_fault (built program) w.stopped) (or_else (settle_fault top.rules false w.held)
    (or_else (defaults_fault (settled top.rules w.held).rows top.rules) (check_fault top (finished top.rules w.held) (is_some (entered (built program) w.stopped)))))

abbrev faults_behind : Kinds → Walk → List Text → Kinds
faults_behind turn next words = or_else (or_else turn (walk_fault top names next words)) (end_faults (fold (walked top.rules names) next words))

-- the texts that these words say behind the command
abbrev pub behind_command : List Text → Command → Option (Command × List Named)
behind_command words k = option_map (λ texts. (k, texts)) (named (options_of k) words None (words_of k))

-- the command and the texts that the words say
abbrev pub from_line : List Text → Option (Command × List Named)
from_line [] = None
from_line (word ∷ words) = option_and_then (behind_command words) (command_of word)

abbrev pub LineRefused : Option (Command × List Named) → Type 0
LineRefused None = Unit {0}
LineRefused (Some p) = AsksNothing p.0 p.1

-- the words have no fault, and a command is entered and keeps the texts that they say; or they have one, and say none, or some that ask for nothing
abbrev pub LineFate : Bool → Option (Text × List Row) → Option (Command × List Named) → Type 0
LineFate true entered want = (k : Command) × (texts : List Named) × (want ≡ Some (k, texts)) × (are_apart texts ≡ true) × (entered ≡ Some (name_of k, rows texts))
LineFate false entered want = LineRefused want

-- ---- a first word that names no command

refused-turn : (turn : Kinds) (next : Walk) (words : List Text) → is_clean turn ≡ false → is_clean (faults_behind turn next words) ≡ false
refused-turn turn next words bad = unclean_first (or_else turn (walk_fault top names next words)) _ (unclean_first turn _ bad)

-- where the walk begins
abbrev start : Walk
start = walk_from nothing_held

abbrev other_met : Bool → Text → Held × Step
other_met dashes word = if dashes then (nothing_held, trailing 1) else long_or_other top.rules idle word (long_of word) nothing_held

abbrev other_faults : Bool → Text → Kinds
other_faults dashes word = or_else (if dashes then [] else flag_word_fault top.rules false (long_of word) word nothing_held)
    (step_fault top 1 (other_met dashes word).0 (other_met dashes word).1)

abbrev other_next : Bool → Text → Walk
other_next dashes word = after_step top.rules word start (other_met dashes word).0 (other_met dashes word).1

-- no number is wanted here, and no option is known
no_option : (word : Text) → is_clean (other_faults false word) ≡ false
unfolding bundle_met flags_fault
no_option word = elim (long_of word) as (λ l. is_clean (or_else (flag_word_fault top.rules false l word nothing_held) (step_fault top 1 (met_long l).0 (met_long l).1)) ≡ false) [ Some p ↦ refl | None ↦ by_short (short_of word) ]
  where
    met_long : Option (Text × Option Text) → Held × Step
    met_long l = long_or_other top.rules idle word l nothing_held

    met_short : Option Text → Held × Step
    met_short f = short_or_plain top.rules idle word f nothing_held

    by_first : (f : ℕ) (fs : Text) (x : Option ℕ)
        → is_clean (or_else (bundle_step_fault top.rules false x (f ∷ fs) 0 nothing_held (flags_fault top.rules false (length fs)))
        (step_fault top 1 (after_flag top.rules idle word (bundle_step top.rules x (f ∷ fs) 0 plain_outcome nothing_held (bundle_met top.rules (length fs))).0 (bundle_step top.rules x (f ∷ fs) 0 plain_outcome nothing_held (bundle_met top.rules (length fs))).1).0
        (after_flag top.rules idle word (bundle_step top.rules x (f ∷ fs) 0 plain_outcome nothing_held (bundle_met top.rules (length fs))).0 (bundle_step top.rules x (f ∷ fs) 0 plain_outcome nothing_held (bundle_met top.rules (length fs))).1).1)) ≡ false
    by_first f fs None = refl
    by_first f fs (Some x) = refl

    by_short : (f : Option Text)
        → is_clean (or_else (option_map_or (λ flags. bundle_fault top.rules false flags nothing_held) f []) (step_fault top 1 (met_short f).0 (met_short f).1)) ≡ false
    by_short (Some (f ∷ fs)) = by_first f fs (slice_get (chars (f ∷ fs)) 0)
    by_short other = refl

other_refused : (dashes : Bool) (word : Text) (words : List Text) → is_clean (faults_behind (other_faults dashes word) (other_next dashes word) words) ≡ false
unfolding walk_fault walked defaults_fault
other_refused false word words = refused-turn (other_faults false word) (other_next false word) words (no_option word)
other_refused true word [] = refl
other_refused true word (next ∷ words) = refl

-- ---- a command

abbrev stopped_with : Command → List Text → Walk
stopped_with k words = record start { stopped = Some (name_of k, words) }

command_end : (k : Command) (words : List Text) → fold (walked top.rules names) (stopped_with k []) words ≡ stopped_with k words
command_end k words = sym (walk_stopped top.rules names start (name_of k) [] words)

-- the faults of the line where the walk has ended
abbrev ended_faults : Command → List Text → Kinds
ended_faults k words = or_else [] (end_faults (stopped_with k words))

-- the faults are those of the words behind it
end_is : (k : Command) (words : List Text) → ended_faults k words ≡ or_else (faults_from k none_yet words) []
unfolding defaults_fault
end_is to_record words = refl
end_is other words = refl

command_faults : (k : Command) (words : List Text) → is_clean (faults_behind [] (stopped_with k []) words) ≡ is_clean (faults_from k none_yet words)
command_faults k words =
    ap is_clean (ap₂ (λ (later : Kinds) (w : Walk). or_else later (end_faults w)) (stopped_fault top names start (name_of k, []) words) (command_end k words)
    ∙ end_is k words ∙ or_else_nil (faults_from k none_yet words))

-- and so is what is found
found_is : (k : Command) (words : List Text) → entered (built program) (Some (name_of k, words)) ≡ Some (name_of k, rows_from k none_yet words)
found_is to_record words = refl
found_is other words = refl

command_found : (k : Command) (words : List Text) → entered (built program) (fold (walked top.rules names) (stopped_with k []) words).stopped
    ≡ Some (name_of k, rows_from k none_yet words)
command_found k words = ap (λ (w : Walk). entered (built program) w.stopped) (command_end k words) ∙ found_is k words

-- ---- the line

pub line_goes : (words : List Text) → LineFate (is_clean (fault_of program words)) (subcommand_of program words) (from_line words)
unfolding walked walk_fault defaults_fault
line_goes [] = tt
line_goes (word ∷ words) =
    by_names (bytes_eq (codes "record") word) (bytes_eq (codes "replay") word) (bytes_eq (codes "tree") word)
    (bytes_eq (codes "mkfs") word) (bytes_eq (codes "run") word) (bytes_eq (codes "load") word) (bytes_eq (codes "copy") word)
    (bytes_eq (codes "applog") word) (bytes_eq (codes "upgrade") word)
  where
    name_by : Bool → Bool → Bool → Bool → Bool → Bool → Bool → Bool → Bool → Option Text
    name_by a b c d e f g h i = option_map (λ (s : Text × List Text). s.0)
        (cond (a || false) (Some (codes "record", [])) (cond (b || false) (Some (codes "replay", [])) (cond (c || false) (Some (codes "tree", []))
        (cond (d || false) (Some (codes "mkfs", [])) (cond (e || false) (Some (codes "run", [])) (cond (f || false) (Some (codes "load", []))
        (cond (g || false) (Some (codes "copy", [])) (cond (h || false) (Some (codes "applog", []))
        (cond (i || false) (Some (codes "upgrade", [])) None)))))))))

    command_by : Bool → Bool → Bool → Bool → Bool → Bool → Bool → Bool → Bool → Option Command
    command_by a b c d e f g h i =
        if a then Some to_record else if b then Some to_replay else if c then Some to_show
        else if d then Some to_make else if e then Some to_run else if f then Some to_load
        else if g then Some to_copy else if h then Some to_log else if i then Some to_upgrade else None

    met : Option Text → Held × Step
    met name = subcommand_or_other top.rules name idle 1 word nothing_held

    turn : Option Text → Kinds
    turn name = or_else (other_fault top name word nothing_held) (step_fault top 1 (met name).0 (met name).1)

    next : Option Text → Walk
    next name = after_step top.rules word start (met name).0 (met name).1

    LineGoes : Option Text → Option (Command × List Named) → Type 0
    LineGoes name want = LineFate (is_clean (faults_behind (turn name) (next name) words)) (entered (built program) (fold (walked top.rules names) (next name) words).stopped) want

    of_fate : (k : Command) (clean : Bool) (sub : Option (Text × List Row)) (found : List Row) (want : Option (List Named)) → sub ≡ Some (name_of k, found) → Fate k clean found want
        → LineFate clean sub (option_map (λ texts. (k, texts)) want)
    of_fate k true sub found want same fate = (k, fate.0, ap (option_map (λ texts. (k, texts))) fate.1, fate.2, same ∙ ap (λ (r : List Row). Some (name_of k, r)) fate.3)
    of_fate k false sub found None same fate = tt
    of_fate k false sub found (Some texts) same fate = fate

    command_goes : (k : Command) → LineFate (is_clean (faults_behind [] (stopped_with k []) words)) (entered (built program) (fold (walked top.rules names) (stopped_with k []) words).stopped) (behind_command words k)
    command_goes k =
        let sub : Option (Text × List Row) = entered (built program) (fold (walked top.rules names) (stopped_with k []) words).stopped in
        subst (λ (b : Bool). LineFate b sub (behind_command words k)) (sym (command_faults k words))
        (of_fate k (is_clean (faults_from k none_yet words)) sub (rows_from k none_yet words) (named (options_of k) words None (words_of k)) (command_found k words) (words_go k words))

    by_names : (a b c d e f g h i : Bool) → LineGoes (name_by a b c d e f g h i) (option_and_then (behind_command words) (command_by a b c d e f g h i))
    by_names true b c d e f g h i = command_goes to_record
    by_names false true c d e f g h i = command_goes to_replay
    by_names false false true d e f g h i = command_goes to_show
    by_names false false false true e f g h i = command_goes to_make
    by_names false false false false true f g h i = command_goes to_run
    by_names false false false false false true g h i = command_goes to_load
    by_names false false false false false false true h i = command_goes to_copy
    by_names false false false false false false false true i = command_goes to_log
    by_names false false false false false false false false true = command_goes to_upgrade
    by_names false false false false false false false false false =
        subst (λ (b : Bool). LineFate b (entered (built program) (fold (walked top.rules names) (next None) words).stopped) None)
        (sym (other_refused (bytes_eq word (codes "--")) word words)) tt
