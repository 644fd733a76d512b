-- What `clap` makes of the words behind the name of a command: it keeps the texts that the definition names, or it has a fault.
use Rattle.std.proofs.Common.{◌≡◌, ◌⊎◌, inl, inr, ◌==◌, ◌&&◌, ◌||◌, ℕ, Bool, true, false, cond, List, [], ◌∷◌, ◌++◌, length, Option, Some, None, refl, sym, ap, subst, ◌∙◌, codes, fold, bytes_eq}
use Rattle.std.specs.Prelude.{IfSome, find, is_some, slice_get, if◌then◌else◌, option_and_then}
use Rattle.std.specs.Option.{option_map_or}
use Rattle.std.specs.Str.{chars}
use Rattle.std.proofs.lemmas.Bool.{eqb-true}
use Rattle.std.proofs.lemmas.List.{append-nil, append_assoc}
use Rattle.std.proofs.lemmas.Slice.Eq.{bytes_eq-Decides}
use Rattle.clap.specs.Lexer.{long_of, long_of_rest, short_of, short_of_rest, strip_byte}
use Rattle.clap.specs.Kinds.{Kinds, or_else}
use Rattle.clap.specs.Faults.{turn_fault, walk_fault, positional_fault, repeat_fault, settle_fault, stray_fault, flags_fault, step_fault, flag_word_fault, long_fault, option_fault, react_fault, bundle_fault, bundle_step_fault}
use Rattle.clap.specs.Walk.{Held, Row, Rule, Step, Text, Waiting, Walk, bundle_met, finished, settled, walked, after_flag, after_step, arg_by_index, arg_by_long, arg_by_short, next_position, to_positional, with_values, without, bundle_step, long_met, long_or_other, idle, option, plain_word, pushed, value, trailing, short_or_plain, takes_values, plain as plain_outcome}
use Rattle.clap.specs.declared.builder.value_parser.Reading.TheVariants.{AsWritten}
use Rattle.clap.specs.declared.error.kind.ErrorKind.TheVariants.{TooManyValues}
use Rattle.clap.specs.declared.parser.matches.ValueSource.TheVariants.{CommandLine}
use Rattle.cmd_words.specs.Words.{Command, to_record, to_replay, to_show, to_make, to_run, to_load, to_copy, to_log, to_upgrade, words_of, options_of, Named, is_flag, before, with_next, with_option, with_word, placed, named, are_apart}
use Rattle.cmd_words.proofs.Apart.{rows}
use Rattle.cmd_words.proofs.Steps.{is_clean, unclean_first, unclean_second, clean_first, or_else_nil, or_else_assoc, shape, rules, held_at, at, pends, listed, IsArg, is_arg, at_place, by_name, rule_as, IsKept, IsRepeated, settles, end_faults, Refused, Fate, behind, ends}

-- ---- the words that are left

-- their faults, and those of the end
abbrev pub faults_from : Command → Walk → List Text → Kinds
faults_from k w words = or_else (walk_fault (shape k) [] w words) (end_faults k (fold (walked (rules k) []) w words).held)

abbrev pub rows_from : Command → Walk → List Text → List Row
rows_from k w words = finished (rules k) (fold (walked (rules k) []) w words).held

abbrev pub Goes : Command → Walk → List Text → Option (List Named) → Type 0
Goes k w words want = Fate k (is_clean (faults_from k w words)) (rows_from k w words) want

-- what a word does: its faults, and where the walk is behind it
abbrev Turn : Command → Kinds → Walk → List Text → Option (List Named) → Type 0
Turn k faults after words want = Fate k (is_clean (or_else faults (faults_from k after words))) (rows_from k after words) want

turn_goes : (k : Command) (w : Walk) (word : Text) (words : List Text) (want : Option (List Named))
    → Turn k (turn_fault (shape k) [] w word) (walked (rules k) [] w word) words want → Goes k w (word ∷ words) want
unfolding walk_fault
turn_goes k w word words want turn =
    let after : Walk = walked (rules k) [] w word in
    let all : is_clean (faults_from k w (word ∷ words)) ≡ is_clean (or_else (turn_fault (shape k) [] w word) (faults_from k after words)) =
    ap is_clean (or_else_assoc (turn_fault (shape k) [] w word) (walk_fault (shape k) [] after words) (end_faults k (fold (walked (rules k) []) after words).held)) in
    subst (λ (b : Bool). Fate k b (rows_from k after words) want) (sym all) turn

turn_clean : (k : Command) (faults : Kinds) (after : Walk) (words : List Text) (want : Option (List Named)) → is_clean faults ≡ true → Goes k after words want → Turn k faults after words want
turn_clean k faults after words want clean later =
    subst (λ (b : Bool). Fate k b (rows_from k after words) want) (sym (clean_first faults (faults_from k after words) clean)) later

turn_unclean : (k : Command) (faults : Kinds) (after : Walk) (words : List Text) (want : Option (List Named)) → is_clean faults ≡ false → Refused k want → Turn k faults after words want
turn_unclean k faults after words want bad refused =
    subst (λ (b : Bool). Fate k b (rows_from k after words) want) (sym (unclean_first faults (faults_from k after words) bad)) refused

-- ---- texts to come

behind_before : (texts : List Named) (text : Named) (rest : Option (List Named)) → behind (texts ++ text ∷ []) rest ≡ behind texts (before text rest)
behind_before texts text None = refl
behind_before texts text (Some more) = ap (λ (ts : List Named). Some ts) (append_assoc texts (text ∷ []) more)

refused_repeat : (k : Command) (texts : List Named) → ((more : List Named) → are_apart (texts ++ more) ≡ false) → (rest : Option (List Named)) → Refused k (behind texts rest)
refused_repeat k texts never None = tt
refused_repeat k texts never (Some more) = inl (never more)

-- ---- a word that must stand

-- which of them is next
data Place : Type 0 where
  first : Place
  second : Place
  third : Place
  fourth : Place
  fifth : Place
  past : Place

abbrev position : Place → ℕ
position first = 1
position second = 2
position third = 3
position fourth = 4
position fifth = 5
position past = 6

-- the names of the words that are still to come
abbrev names_from : Command → Place → List Text
names_from to_replay place = []
names_from to_load place = []
names_from k first = words_of k
names_from to_record second = codes "journal" ∷ codes "nodes" ∷ []
names_from to_record third = codes "nodes" ∷ []
names_from to_make second = codes "blocks" ∷ codes "journal" ∷ codes "nodes" ∷ []
names_from to_make third = codes "journal" ∷ codes "nodes" ∷ []
names_from to_make fourth = codes "nodes" ∷ []
names_from to_copy second = codes "other" ∷ []
names_from to_upgrade second = codes "other" ∷ codes "blocks" ∷ codes "journal" ∷ codes "nodes" ∷ []
names_from to_upgrade third = codes "blocks" ∷ codes "journal" ∷ codes "nodes" ∷ []
names_from to_upgrade fourth = codes "journal" ∷ codes "nodes" ∷ []
names_from to_upgrade fifth = codes "nodes" ∷ []
names_from k place = []

-- the walk over these words finds what `rest` says of them, wherever it stands
abbrev Later : Command → Bool → List Text → (List Text → Option (List Named)) → Type 0
Later k trails words rest = (place : Place) (texts : List Named) (pending : Option Named) → IfSome pending (λ text. IsArg k text.0) → are_apart texts ≡ true
    → Goes k (at trails idle texts (pends pending) (position place)) words (behind (texts ++ listed pending) (rest (names_from k place)))

-- no word is wanted at a place
record NoWord (k : Command) (place : Place) : Type 0 where
  there : arg_by_index (rules k) (position place) ≡ None
  names : names_from k place ≡ []

-- or one is, which has the first of the names that are still to come
record OneWord (k : Command) (place : Place) : Type 0 where
  name : Text
  next : Place
  is : IsArg k name
  there : arg_by_index (rules k) (position place) ≡ Some (rule_as (at_place (position place)) name)
  names : names_from k place ≡ name ∷ names_from k next
  leads : next_position (rule_as (at_place (position place)) name) (position place) ≡ position next

at_each : (k : Command) (place : Place) → NoWord k place ⊎ OneWord k place
at_each to_record first = inr record { name = codes "blocks"; next = second; is = is_arg to_record (codes "blocks") (at_place 1) refl; there = refl; names = refl; leads = refl }
at_each to_record second = inr record { name = codes "journal"; next = third; is = is_arg to_record (codes "journal") (at_place 2) refl; there = refl; names = refl; leads = refl }
at_each to_record third = inr record { name = codes "nodes"; next = fourth; is = is_arg to_record (codes "nodes") (at_place 3) refl; there = refl; names = refl; leads = refl }
at_each to_show first = inr record { name = codes "image"; next = second; is = is_arg to_show (codes "image") (at_place 1) refl; there = refl; names = refl; leads = refl }
at_each to_make first = inr record { name = codes "image"; next = second; is = is_arg to_make (codes "image") (at_place 1) refl; there = refl; names = refl; leads = refl }
at_each to_make second = inr record { name = codes "blocks"; next = third; is = is_arg to_make (codes "blocks") (at_place 2) refl; there = refl; names = refl; leads = refl }
at_each to_make third = inr record { name = codes "journal"; next = fourth; is = is_arg to_make (codes "journal") (at_place 3) refl; there = refl; names = refl; leads = refl }
at_each to_make fourth = inr record { name = codes "nodes"; next = fifth; is = is_arg to_make (codes "nodes") (at_place 4) refl; there = refl; names = refl; leads = refl }
at_each to_run first = inr record { name = codes "image"; next = second; is = is_arg to_run (codes "image") (at_place 1) refl; there = refl; names = refl; leads = refl }
at_each to_copy first = inr record { name = codes "image"; next = second; is = is_arg to_copy (codes "image") (at_place 1) refl; there = refl; names = refl; leads = refl }
at_each to_copy second = inr record { name = codes "other"; next = third; is = is_arg to_copy (codes "other") (at_place 2) refl; there = refl; names = refl; leads = refl }
at_each to_log first = inr record { name = codes "image"; next = second; is = is_arg to_log (codes "image") (at_place 1) refl; there = refl; names = refl; leads = refl }
at_each to_upgrade first = inr record { name = codes "image"; next = second; is = is_arg to_upgrade (codes "image") (at_place 1) refl; there = refl; names = refl; leads = refl }
at_each to_upgrade second = inr record { name = codes "other"; next = third; is = is_arg to_upgrade (codes "other") (at_place 2) refl; there = refl; names = refl; leads = refl }
at_each to_upgrade third = inr record { name = codes "blocks"; next = fourth; is = is_arg to_upgrade (codes "blocks") (at_place 3) refl; there = refl; names = refl; leads = refl }
at_each to_upgrade fourth = inr record { name = codes "journal"; next = fifth; is = is_arg to_upgrade (codes "journal") (at_place 4) refl; there = refl; names = refl; leads = refl }
at_each to_upgrade fifth = inr record { name = codes "nodes"; next = past; is = is_arg to_upgrade (codes "nodes") (at_place 5) refl; there = refl; names = refl; leads = refl }
at_each other place = inl record { there = refl; names = refl }

-- the faults of such a word, by the test whether the last word was this one's too, and where it leads
abbrev number_faults : Command → Bool → Held → Kinds
number_faults k b h = if b && false then [] else settle_fault (rules k) false h

abbrev number_next : Command → Bool → Bool → Text → Text → Held → ℕ → Walk
number_next k b trails name word h p = record {
  held = pushed name word (if b && false then h else settled (rules k) h);
  waiting = idle;
  position = p;
  is_trailing = trails;
  stopped = None;
}

number_goes : (k : Command) (trails : Bool) (name : Text) → IsArg k name → (place : Place) (texts : List Named) (pending : Option Named)
    → IfSome pending (λ text. IsArg k text.0) → are_apart texts ≡ true → (word : Text) (words : List Text) (rest : List Text → Option (List Named))
    → Later k trails words rest
    → Turn k (settle_fault (rules k) false (held_at texts (pends pending))) (number_next k false trails name word (held_at texts (pends pending)) (position place))
    words (behind (texts ++ listed pending) (before (name, word) (rest (names_from k place))))
number_goes k trails name is place texts pending arg apart word words rest later = go (settles k texts pending arg apart)
  where
    h : Held
    h = held_at texts (pends pending)

    all : List Named
    all = texts ++ listed pending

    want : Option (List Named)
    want = behind all (before (name, word) (rest (names_from k place)))

    go : IsKept k texts pending ⊎ IsRepeated k texts pending → Turn k (settle_fault (rules k) false h) (number_next k false trails name word h (position place)) words want
    go (inl one) =
        let goes : Goes k (at trails idle all (pends (Some (name, word))) (position place)) words want =
        subst (Goes k (at trails idle all (pends (Some (name, word))) (position place)) words) (behind_before all (name, word) (rest (names_from k place)))
        (later place all (Some (name, word)) is one.2) in
        subst (λ (s : Held). Turn k (settle_fault (rules k) false h)
        (record { held = pushed name word s; waiting = idle; position = position place; is_trailing = trails; stopped = None }) words want) (sym one.1)
        (turn_clean k (settle_fault (rules k) false h) (at trails idle all (pends (Some (name, word))) (position place)) words want one.0 goes)
    go (inr r) = turn_unclean k (settle_fault (rules k) false h) (number_next k false trails name word h (position place)) words want r.0
        (refused_repeat k all r.1 (before (name, word) (rest (names_from k place))))

-- where such a word leads, by the same test and by the argument that it goes to
abbrev number_behind : Command → Bool → Bool → Text → Text → Held → ℕ → Walk
number_behind k b trails name word h p = record {
  held = pushed name word (if b && false then h else settled (rules k) h);
  waiting = idle;
  position = p;
  is_trailing = trails || false;
  stopped = None;
}

by_pending : (k : Command) (b trails : Bool) (name : Text) (word : Text) (h : Held) (p : ℕ) (words : List Text) (want : Option (List Named))
    → Turn k (settle_fault (rules k) false h) (number_next k false trails name word h p) words want
    → Turn k (number_faults k b h) (number_behind k b trails name word h p) words want
by_pending k true true name word h p words want turn = turn
by_pending k false true name word h p words want turn = turn
by_pending k other rest name word h p words want turn = turn

abbrev is_last : Text → Option (Text × List Text) → Bool
is_last name pending = option_map_or (λ (q : Text × List Text). bytes_eq q.0 name) pending false

-- the faults of a word that goes to this argument, where one is wanted
abbrev word_faults : Command → Option Rule → Held → Kinds
word_faults k o h = option_map_or (λ a. positional_fault (rules k) false a h) o (stray_fault (shape k))

-- a word that goes to one of those that must stand
number_turn : (k : Command) (trails : Bool) (place : Place) (texts : List Named) (pending : Option Named)
    → IfSome pending (λ text. IsArg k text.0) → are_apart texts ≡ true → (word : Text) (words : List Text) (rest : List Text → Option (List Named))
    → Later k trails words rest
    → Turn k (step_fault (shape k) (position place) (held_at texts (pends pending)) value)
    (after_step (rules k) word (at trails idle texts (pends pending) (position place)) (held_at texts (pends pending)) value)
    words (behind (texts ++ listed pending) (with_next word (names_from k place) rest))
number_turn k trails place texts pending arg apart word words rest later = elim (at_each k place) as (λ _. TurnBy (arg_by_index (rules k) (position place)) (names_from k place)) [
  | inl none ↦ subst (λ (o : Option Rule). TurnBy o (names_from k place)) (sym none.there) (subst (TurnBy None) (sym none.names) tt)
  | inr one ↦ subst (λ (o : Option Rule). TurnBy o (names_from k place)) (sym one.there) (subst (TurnBy (Some (rule_as (at_place (position place)) one.name))) (sym one.names) (one_turn one))
]
  where
    h : Held
    h = held_at texts (pends pending)

    all : List Named
    all = texts ++ listed pending

    TurnBy : Option Rule → List Text → Type 0
    TurnBy o names = Turn k (word_faults k o h) (to_positional (rules k) o word (at trails idle texts (pends pending) (position place)) h) words (behind all (with_next word names rest))

    one_turn : (one : OneWord k place) → TurnBy (Some (rule_as (at_place (position place)) one.name)) (one.name ∷ names_from k one.next)
    one_turn one =
        let b : Bool = is_last one.name (pends pending) in
        let want : Option (List Named) = behind all (before (one.name, word) (rest (names_from k one.next))) in
        subst (λ (p : ℕ). Turn k (number_faults k b h) (number_behind k b trails one.name word h p) words want) (sym one.leads)
        (by_pending k b trails one.name word h (position one.next) words want
        (number_goes k trails one.name one.is one.next texts pending arg apart word words rest later))

-- behind `--` each word is one that must stand
behind_dashes : (k : Command) (words : List Text) → Later k true words (placed words)
unfolding walked walk_fault
behind_dashes k [] place texts pending arg apart = ends k texts pending arg apart
behind_dashes k (word ∷ words) place texts pending arg apart =
    turn_goes k (at true idle texts (pends pending) (position place)) word words _
    (number_turn k true place texts pending arg apart word words (placed words) (behind_dashes k words))

-- ---- an option

-- the walk over these words finds what `rest` says of them, where an option waits for its value
abbrev Waits : Command → List Text → (Text → List Text → Option (List Named)) → Type 0
Waits k words rest = (place : Place) (texts : List Named) (name : Text) → IsArg k name → are_apart texts ≡ true
    → Goes k (at false (option name) texts (Some (name, [])) (position place)) words (behind texts (rest name (names_from k place)))

-- an option with its value, as it is kept
abbrev valued : Text → Text → Held → Held
valued name word h = record { rows = h.rows; pending = Some (name, word ∷ []); skip = 0 }

abbrev value_faults : Command → Text → Text → Held → Kinds
value_faults k name word h = or_else (or_else (settle_fault (rules k) false h) (settle_fault (rules k) false (valued name word (settled (rules k) h)))) []

abbrev value_next : Command → Text → Text → Held → ℕ → Walk
value_next k name word h p = record {
  held = settled (rules k) (valued name word (settled (rules k) h));
  waiting = idle;
  position = p;
  is_trailing = false;
  stopped = None;
}

value_goes : (k : Command) (name : Text) → IsArg k name → (place : Place) (texts : List Named) (pending : Option Named)
    → IfSome pending (λ text. IsArg k text.0) → are_apart texts ≡ true → (word : Text) (words : List Text) (rest : List Text → Option (List Named))
    → Later k false words rest
    → Turn k (value_faults k name word (held_at texts (pends pending))) (value_next k name word (held_at texts (pends pending)) (position place))
    words (behind (texts ++ listed pending) (before (name, word) (rest (names_from k place))))
value_goes k name is place texts pending arg apart word words rest later = go (settles k texts pending arg apart)
  where
    h : Held
    h = held_at texts (pends pending)

    all : List Named
    all = texts ++ listed pending

    rest_here : Option (List Named)
    rest_here = rest (names_from k place)

    want : Option (List Named)
    want = behind all (before (name, word) rest_here)

    -- the faults and the walk where the text before is kept
    Settled : Held → Type 0
    Settled s = Turn k (or_else (or_else (settle_fault (rules k) false h) (settle_fault (rules k) false (valued name word s))) [])
        (record { held = settled (rules k) (valued name word s); waiting = idle; position = position place; is_trailing = false; stopped = None }) words want

    own : is_clean (settle_fault (rules k) false h) ≡ true → IsKept k all (Some (name, word)) ⊎ IsRepeated k all (Some (name, word)) → Settled (held_at all None)
    own clean (inl one) =
        let same : behind ((all ++ (name, word) ∷ []) ++ []) rest_here ≡ want =
        ap (λ (ts : List Named). behind ts rest_here) (append-nil (all ++ (name, word) ∷ [])) ∙ behind_before all (name, word) rest_here in
        let goes : Goes k (at false idle (all ++ (name, word) ∷ []) None (position place)) words want =
        subst (Goes k (at false idle (all ++ (name, word) ∷ []) None (position place)) words) same (later place (all ++ (name, word) ∷ []) None tt one.2) in
        let faults : Kinds = or_else (or_else (settle_fault (rules k) false h) (settle_fault (rules k) false (valued name word (held_at all None)))) [] in
        let no_fault : is_clean faults ≡ true =
        ap is_clean (or_else_nil _) ∙ clean_first (settle_fault (rules k) false h) _ clean ∙ one.0 in
        subst (λ (s : Held). Turn k faults (record { held = s; waiting = idle; position = position place; is_trailing = false; stopped = None }) words want) (sym one.1)
        (turn_clean k faults (at false idle (all ++ (name, word) ∷ []) None (position place)) words want no_fault goes)
    own clean (inr r) =
        let never : (more : List Named) → are_apart (all ++ (name, word) ∷ more) ≡ false = λ more. ap are_apart (sym (append_assoc all ((name, word) ∷ []) more)) ∙ r.1 more in
        turn_unclean k _ _ words want
        (unclean_first (or_else (settle_fault (rules k) false h) (settle_fault (rules k) false (valued name word (held_at all None)))) [] (unclean_second (settle_fault (rules k) false h) _ r.0))
        (by_rest never rest_here)
      where
        by_rest : ((more : List Named) → are_apart (all ++ (name, word) ∷ more) ≡ false) → (o : Option (List Named)) → Refused k (behind all (before (name, word) o))
        by_rest never None = tt
        by_rest never (Some more) = inl (never more)

    go : IsKept k texts pending ⊎ IsRepeated k texts pending → Turn k (value_faults k name word h) (value_next k name word h (position place)) words want
    go (inl one) = subst Settled (sym one.1) (own one.0 (settles k all (Some (name, word)) is one.2))
    go (inr r) = turn_unclean k (value_faults k name word h) (value_next k name word h (position place)) words want
        (unclean_first (or_else (settle_fault (rules k) false h) (settle_fault (rules k) false (valued name word (settled (rules k) h)))) []
        (unclean_first (settle_fault (rules k) false h) (settle_fault (rules k) false (valued name word (settled (rules k) h))) r.0))
        (refused_repeat k all r.1 (before (name, word) rest_here))

abbrev wait_next : Command → Text → Held → ℕ → Walk
wait_next k name h p = record {
  held = record (settled (rules k) h) { pending = Some (name, []) };
  waiting = option name;
  position = p;
  is_trailing = false;
  stopped = None;
}

wait_goes : (k : Command) (name : Text) → IsArg k name → (place : Place) (texts : List Named) (pending : Option Named)
    → IfSome pending (λ text. IsArg k text.0) → are_apart texts ≡ true → (words : List Text) (rest : Text → List Text → Option (List Named))
    → Waits k words rest
    → Turn k (or_else (settle_fault (rules k) false (held_at texts (pends pending))) []) (wait_next k name (held_at texts (pends pending)) (position place))
    words (behind (texts ++ listed pending) (rest name (names_from k place)))
wait_goes k name is place texts pending arg apart words rest later = go (settles k texts pending arg apart)
  where
    h : Held
    h = held_at texts (pends pending)

    all : List Named
    all = texts ++ listed pending

    want : Option (List Named)
    want = behind all (rest name (names_from k place))

    go : IsKept k texts pending ⊎ IsRepeated k texts pending → Turn k (or_else (settle_fault (rules k) false h) []) (wait_next k name h (position place)) words want
    go (inl one) =
        subst (λ (s : Held). Turn k (or_else (settle_fault (rules k) false h) [])
        (record { held = record s { pending = Some (name, []) }; waiting = option name; position = position place; is_trailing = false; stopped = None }) words want) (sym one.1)
        (turn_clean k _ (at false (option name) all (Some (name, [])) (position place)) words want (ap is_clean (or_else_nil _) ∙ one.0) (later place all name is one.2))
    go (inr r) = turn_unclean k (or_else (settle_fault (rules k) false h) []) (wait_next k name h (position place)) words want
        (unclean_first (settle_fault (rules k) false h) [] r.0) (refused_repeat k all r.1 (rest name (names_from k place)))

-- ---- `--name=value` and `--name`

-- the first of three by their tests
abbrev first_of_three : {A : Type 0} → A → A → A → Bool → Bool → Bool → Option A
first_of_three x y z a b c = cond a (Some x) (cond b (Some y) (cond c (Some z) None))

abbrev first_of_four : {A : Type 0} → A → A → A → A → Bool → Bool → Bool → Bool → Option A
first_of_four w x y z a b c d = cond a (Some w) (first_of_three x y z b c d)

-- a rule and a name are those of one option, or there is neither
abbrev IsOption : Command → Option Rule → Option Text → Type 0
IsOption k None None = Unit {0}
IsOption k None (Some name) = ⊥
IsOption k (Some a) None = ⊥
IsOption k (Some a) (Some name) = (required : Bool) × IsArg k name × (a ≡ rule_as (by_name required) name)

abbrev long_step : Command → Waiting → Text → Option Rule → Option Text → Held → Held × Step
long_step k waiting word rule given h = after_flag (rules k) waiting word (long_met (rules k) rule given h).0 (long_met (rules k) rule given h).1

abbrev long_faults : Command → Waiting → Text → Option Rule → Option Text → Held → ℕ → Kinds
long_faults k waiting word rule given h p =
    or_else (long_fault (rules k) false rule given h) (step_fault (shape k) p (long_step k waiting word rule given h).0 (long_step k waiting word rule given h).1)

-- what comes of an option with this rule, which the definition calls so
abbrev LongGoes : Command → Option Rule → Option Text → Option Text → Type 0
LongGoes k rule name given = (place : Place) (texts : List Named) (pending : Option Named)
    → IfSome pending (λ text. IsArg k text.0) → are_apart texts ≡ true → (word : Text) (words : List Text) (rest : Option Text → List Text → Option (List Named))
    → Later k false words (rest None) → Waits k words (λ name. rest (Some name))
    → Turn k (long_faults k idle word rule given (held_at texts (pends pending)) (position place))
    (after_step (rules k) word (at false idle texts (pends pending) (position place))
    (long_step k idle word rule given (held_at texts (pends pending))).0 (long_step k idle word rule given (held_at texts (pends pending))).1)
    words (behind (texts ++ listed pending) (with_option name given (λ waiting. rest waiting (names_from k place))))

-- an option with its value in the same word
value_turn : (k : Command) (name : Text) → IsArg k name → (place : Place) (texts : List Named) (pending : Option Named)
    → IfSome pending (λ text. IsArg k text.0) → are_apart texts ≡ true → (word : Text) (words : List Text) (rest : List Text → Option (List Named))
    → Later k false words rest
    → Turn k (or_else (or_else (settle_fault (rules k) false (held_at texts (pends pending))) (or_else (repeat_fault false name (settled (rules k) (held_at texts (pends pending))).rows) [])) [])
    (record {
      held = record { rows = with_values name AsWritten CommandLine (word ∷ []) (without name (settled (rules k) (held_at texts (pends pending))).rows); pending = None; skip = 0 };
      waiting = idle;
      position = position place;
      is_trailing = false;
      stopped = None;
    }) words (behind (texts ++ listed pending) (before (name, word) (rest (names_from k place))))
value_turn k name is place texts pending arg apart word words rest later =
    let h : Held = held_at texts (pends pending) in
    let rs : List Row = (settled (rules k) h).rows in
    let want : Option (List Named) = behind (texts ++ listed pending) (before (name, word) (rest (names_from k place))) in
    let next : List Row → Walk = λ found. record { held = record { rows = found; pending = None; skip = 0 }; waiting = idle; position = position place; is_trailing = false; stopped = None } in
    subst (λ (f : Kinds). Turn k (or_else (or_else (settle_fault (rules k) false h) f) []) (next (with_values name AsWritten CommandLine (word ∷ []) (without name rs))) words want) (is.fault word rs)
    (subst (λ (found : List Row). Turn k (value_faults k name word h) (next found) words want) (is.keeps word rs)
    (value_goes k name is place texts pending arg apart word words rest later))

long_goes : (k : Command) (rule : Option Rule) (name : Option Text) (given : Option Text) → IsOption k rule name → LongGoes k rule name given
long_goes k None None given is place texts pending arg apart word words rest later waits = tt
long_goes k (Some a) (Some name) (Some text) is place texts pending arg apart word words rest later waits =
    subst (λ (r : Rule). Turn k (long_faults k idle word (Some r) (Some text) (held_at texts (pends pending)) (position place))
    (after_step (rules k) word (at false idle texts (pends pending) (position place))
    (long_step k idle word (Some r) (Some text) (held_at texts (pends pending))).0 (long_step k idle word (Some r) (Some text) (held_at texts (pends pending))).1)
    words (behind (texts ++ listed pending) (before (name, text) (rest None (names_from k place))))) (sym is.2)
    (value_turn k name is.1 place texts pending arg apart text words (rest None) later)
long_goes k (Some a) (Some name) None is place texts pending arg apart word words rest later waits =
    subst (λ (r : Rule). Turn k (long_faults k idle word (Some r) None (held_at texts (pends pending)) (position place))
    (after_step (rules k) word (at false idle texts (pends pending) (position place))
    (long_step k idle word (Some r) None (held_at texts (pends pending))).0 (long_step k idle word (Some r) None (held_at texts (pends pending))).1)
    words (behind (texts ++ listed pending) (rest (Some name) (names_from k place)))) (sym is.2)
    (wait_goes k name is.1 place texts pending arg apart words (λ name. rest (Some name)) waits)
long_goes k other more given is place texts pending arg apart word words rest later waits = absurd is

record_option : (a b c d : Bool) → IsOption to_record
    (first_of_four (rule_as (by_name false) (codes "notices")) (rule_as (by_name false) (codes "room")) (rule_as (by_name false) (codes "fail"))
    (rule_as (by_name false) (codes "layout")) (a || false) (b || false) (c || false) (d || false))
    (first_of_four (codes "notices") (codes "room") (codes "fail") (codes "layout") a b c d)
record_option true b c d = (false, is_arg to_record (codes "notices") (by_name false) refl, refl)
record_option false true c d = (false, is_arg to_record (codes "room") (by_name false) refl, refl)
record_option false false true d = (false, is_arg to_record (codes "fail") (by_name false) refl, refl)
record_option false false false true = (false, is_arg to_record (codes "layout") (by_name false) refl, refl)
record_option false false false false = tt

replay_option : (a b c : Bool) → IsOption to_replay
    (first_of_three (rule_as (by_name true) (codes "at")) (rule_as (by_name false) (codes "stand")) (rule_as (by_name false) (codes "tear")) (a || false) (b || false) (c || false))
    (first_of_three (codes "at") (codes "stand") (codes "tear") a b c)
replay_option true b c = (true, is_arg to_replay (codes "at") (by_name true) refl, refl)
replay_option false true c = (false, is_arg to_replay (codes "stand") (by_name false) refl, refl)
replay_option false false true = (false, is_arg to_replay (codes "tear") (by_name false) refl, refl)
replay_option false false false = tt

make_option : (a : Bool) → IsOption to_make (cond (a || false) (Some (rule_as (by_name false) (codes "layout"))) None) (cond a (Some (codes "layout")) None)
make_option true = (false, is_arg to_make (codes "layout") (by_name false) refl, refl)
make_option false = tt

run_option : (a : Bool) → IsOption to_run (cond (a || false) (Some (rule_as (by_name false) (codes "mirror"))) None) (cond a (Some (codes "mirror")) None)
run_option true = (false, is_arg to_run (codes "mirror") (by_name false) refl, refl)
run_option false = tt

load_option : (a b : Bool) → IsOption to_load
    (cond (a || false) (Some (rule_as (by_name true) (codes "seed"))) (cond (b || false) (Some (rule_as (by_name true) (codes "count"))) None))
    (cond a (Some (codes "seed")) (cond b (Some (codes "count")) None))
load_option true b = (true, is_arg to_load (codes "seed") (by_name true) refl, refl)
load_option false true = (true, is_arg to_load (codes "count") (by_name true) refl, refl)
load_option false false = tt

is_option : (k : Command) (name : Text) → IsOption k (arg_by_long (rules k) name) (find (λ known. bytes_eq known name) (options_of k))
is_option to_record name = record_option (bytes_eq (codes "notices") name) (bytes_eq (codes "room") name) (bytes_eq (codes "fail") name) (bytes_eq (codes "layout") name)
is_option to_replay name = replay_option (bytes_eq (codes "at") name) (bytes_eq (codes "stand") name) (bytes_eq (codes "tear") name)
is_option to_make name = make_option (bytes_eq (codes "layout") name)
is_option to_run name = run_option (bytes_eq (codes "mirror") name)
is_option to_load name = load_option (bytes_eq (codes "seed") name) (bytes_eq (codes "count") name)
is_option other name = tt

long_turn : (k : Command) (name : Text) (given : Option Text) → LongGoes k (arg_by_long (rules k) name) (find (λ known. bytes_eq known name) (options_of k)) given
long_turn k name given = long_goes k (arg_by_long (rules k) name) (find (λ known. bytes_eq known name) (options_of k)) given (is_option k name)

-- ---- one word where `--` was not met yet

-- which words are taken for an option

minus_first : (xs : Text) → is_some (slice_get (chars (45 ∷ xs)) 0) ≡ true
unfolding chars
minus_first [] = refl
minus_first (x ∷ xs) = refl

long_flag : (word : Text) (l : Text × Option Text) → long_of word ≡ Some l → is_flag word ≡ true
long_flag [] l e = cc
long_flag (x ∷ xs) l e = go (x == 45) e
  where
    second : (ys : Text) → option_and_then long_of_rest (strip_byte 45 ys) ≡ Some l → is_some (slice_get (chars ys) 0) ≡ true
    second [] f = cc
    second (y ∷ ys) f = elim (y == 45) as (λ b. (y == 45) ≡ b → option_and_then long_of_rest (cond b (Some ys) None) ≡ Some l → is_some (slice_get (chars (y ∷ ys)) 0) ≡ true) [
      | true ↦ λ minus g. subst (λ (z : ℕ). is_some (slice_get (chars (z ∷ ys)) 0) ≡ true) (sym (eqb-true y 45 minus)) (minus_first ys)
      | false ↦ λ minus g. cc
    ] refl f

    go : (b : Bool) → option_and_then long_of_rest (option_and_then (strip_byte 45) (cond b (Some xs) None)) ≡ Some l → (b && is_some (slice_get (chars xs) 0)) ≡ true
    go true f = second xs f
    go false f = cc

dashes_flag : (word : Text) → bytes_eq word (codes "--") ≡ true → is_flag word ≡ true
dashes_flag word e = ap is_flag ((bytes_eq-Decides word (codes "--")).0 e) ∙ minus_first []

short_flag : (word : Text) (flags : Text) → short_of word ≡ Some flags → is_flag word ≡ is_some (slice_get (chars flags) 0)
short_flag [] flags e = cc
short_flag (x ∷ xs) flags e = go (x == 45) e
  where
    same : (ys : Text) → short_of_rest ys ≡ Some flags → ys ≡ flags
    same [] f = cc
    same (y ∷ ys) f = elim (y == 45) as (λ b. (if b then None else Some (y ∷ ys)) ≡ Some flags → (y ∷ ys) ≡ flags) [ true ↦ λ g. cc | false ↦ λ g. cc ] f

    go : (b : Bool) → option_and_then short_of_rest (cond b (Some xs) None) ≡ Some flags → (b && is_some (slice_get (chars xs) 0)) ≡ is_some (slice_get (chars flags) 0)
    go true f = ap (λ (ys : Text). is_some (slice_get (chars ys) 0)) (same xs f)
    go false f = cc

no_flag : (word : Text) → bytes_eq word (codes "--") ≡ false → long_of word ≡ None → short_of word ≡ None → is_flag word ≡ false
unfolding chars
no_flag [] dashes long short = refl
no_flag (x ∷ xs) dashes long short = go (x == 45) dashes long short
  where
    go : (b : Bool) → (b && bytes_eq xs (codes "-")) ≡ false → option_and_then long_of_rest (option_and_then (strip_byte 45) (cond b (Some xs) None)) ≡ None
        → option_and_then short_of_rest (cond b (Some xs) None) ≡ None → (b && is_some (slice_get (chars xs) 0)) ≡ false
    go false d l s = refl
    go true d l s = second xs d l s
      where
        second : (ys : Text) → bytes_eq ys (codes "-") ≡ false → option_and_then long_of_rest (strip_byte 45 ys) ≡ None → short_of_rest ys ≡ None → is_some (slice_get (chars ys) 0) ≡ false
        second [] d l s = refl
        second (y ∷ ys) d l s = elim (y == 45) as (λ b. (b && bytes_eq ys []) ≡ false → option_and_then long_of_rest (cond b (Some ys) None) ≡ None → (if b then None else Some (y ∷ ys)) ≡ None → is_some (slice_get (chars (y ∷ ys)) 0) ≡ false) [
          | true ↦ λ d l s. absurd (third ys d l)
          | false ↦ λ d l s. cc
        ] d l s
          where
            third : (zs : Text) → bytes_eq zs [] ≡ false → long_of_rest zs ≡ None → ⊥
            third [] d l = cc
            third (z ∷ zs) d l = cc

abbrev open_met : Command → Bool → Waiting → Held → ℕ → Text → Held × Step
open_met k dashes waiting h p word = if dashes then (h, trailing p) else long_or_other (rules k) waiting word (long_of word) h

-- the faults of the word, and where it leads, by the test whether it is `--`
abbrev open_turn : Command → Bool → Waiting → Held → ℕ → Text → Kinds
open_turn k dashes waiting h p word = or_else (if dashes then [] else flag_word_fault (rules k) false (long_of word) word h)
    (step_fault (shape k) p (open_met k dashes waiting h p word).0 (open_met k dashes waiting h p word).1)

abbrev open_next : Command → Bool → Walk → Waiting → Held → ℕ → Text → Walk
open_next k dashes w waiting h p word = after_step (rules k) word w (open_met k dashes waiting h p word).0 (open_met k dashes waiting h p word).1

no_short : (k : Command) (x : ℕ) → arg_by_short (rules k) x ≡ None
no_short to_record x = refl
no_short other x = refl

-- A word that is neither `--` nor an option's goes where words go, or is taken for an option that isn't there.
plain_turn : (k : Command) (waiting : Waiting) (texts : List Named) (pending : Option (Text × List Text)) (p : ℕ) (word : Text) (words : List Text) (want : Option (List Named))
    → (is_flag word ≡ true → Refused k want)
    → (is_flag word ≡ false → Turn k (step_fault (shape k) p (plain_word (rules k) waiting word (held_at texts pending)).0 (plain_word (rules k) waiting word (held_at texts pending)).1)
    (after_step (rules k) word (at false waiting texts pending p) (plain_word (rules k) waiting word (held_at texts pending)).0 (plain_word (rules k) waiting word (held_at texts pending)).1) words want)
    → bytes_eq word (codes "--") ≡ false → long_of word ≡ None → (f : Option Text) → short_of word ≡ f
    → Turn k (or_else (option_map_or (λ flags. bundle_fault (rules k) false flags (held_at texts pending)) f [])
    (step_fault (shape k) p (short_or_plain (rules k) waiting word f (held_at texts pending)).0 (short_or_plain (rules k) waiting word f (held_at texts pending)).1))
    (after_step (rules k) word (at false waiting texts pending p) (short_or_plain (rules k) waiting word f (held_at texts pending)).0 (short_or_plain (rules k) waiting word f (held_at texts pending)).1) words want
unfolding bundle_met flags_fault chars
plain_turn k waiting texts pending p word words want flagged plain dashes long None e = plain (no_flag word dashes long e)
plain_turn k waiting texts pending p word words want flagged plain dashes long (Some []) e = plain (short_flag word [] e)
plain_turn k waiting texts pending p word words want flagged plain dashes long (Some (f ∷ fs)) e = by_first (slice_get (chars (f ∷ fs)) 0) (short_flag word (f ∷ fs) e)
  where
    h : Held
    h = held_at texts pending

    met : Option ℕ → Held × Step
    met x = after_flag (rules k) waiting word (bundle_step (rules k) x (f ∷ fs) 0 plain_outcome h (bundle_met (rules k) (length fs))).0 (bundle_step (rules k) x (f ∷ fs) 0 plain_outcome h (bundle_met (rules k) (length fs))).1

    faults : Option ℕ → Kinds
    faults x = or_else (bundle_step_fault (rules k) false x (f ∷ fs) 0 h (flags_fault (rules k) false (length fs))) (step_fault (shape k) p (met x).0 (met x).1)

    bad : (x : ℕ) → is_clean (faults (Some x)) ≡ false
    bad x = unclean_first (bundle_step_fault (rules k) false (Some x) (f ∷ fs) 0 h (flags_fault (rules k) false (length fs))) _ (rw (no_short k x) refl)

    by_first : (x : Option ℕ) → is_flag word ≡ is_some x → Turn k (faults x) (after_step (rules k) word (at false waiting texts pending p) (met x).0 (met x).1) words want
    by_first None e = plain e
    by_first (Some x) e = turn_unclean k (faults (Some x)) (after_step (rules k) word (at false waiting texts pending p) (met (Some x)).0 (met (Some x)).1) words want (bad x) (flagged e)

-- ---- where nothing waits

idle_goes : (k : Command) (word : Text) (words : List Text) (rest : Option Text → List Text → Option (List Named)) → Later k false words (rest None) → Waits k words (λ name. rest (Some name))
    → Later k false (word ∷ words) (λ names. if bytes_eq word (codes "--") then placed words names else with_word (options_of k) word (long_of word) names rest)
unfolding walked
idle_goes k word words rest later waits place texts pending arg apart =
    turn_goes k (at false idle texts (pends pending) (position place)) word words _ (by_dashes (bytes_eq word (codes "--")) refl)
  where
    h : Held
    h = held_at texts (pends pending)

    p : ℕ
    p = position place

    w : Walk
    w = at false idle texts (pends pending) p

    all : List Named
    all = texts ++ listed pending

    next_want : Bool → Option (List Named)
    next_want flag = behind all (if flag then None else with_next word (names_from k place) (rest None))

    by_long : (l : Option (Text × Option Text)) → bytes_eq word (codes "--") ≡ false → long_of word ≡ l
        → Turn k (or_else (flag_word_fault (rules k) false l word h) (step_fault (shape k) p (long_or_other (rules k) idle word l h).0 (long_or_other (rules k) idle word l h).1))
        (after_step (rules k) word w (long_or_other (rules k) idle word l h).0 (long_or_other (rules k) idle word l h).1) words (behind all (with_word (options_of k) word l (names_from k place) rest))
    by_long (Some l) dashes e = long_turn k l.0 l.1 place texts pending arg apart word words rest later waits
    by_long None dashes e =
        plain_turn k idle texts (pends pending) p word words (next_want (is_flag word))
        (λ flag. subst (λ (b : Bool). Refused k (next_want b)) (sym flag) tt)
        (λ plain. subst (λ (b : Bool). Turn k (step_fault (shape k) p h value) (after_step (rules k) word w h value) words (next_want b)) (sym plain)
        (number_turn k false place texts pending arg apart word words (rest None) later))
        dashes e (short_of word) refl

    by_dashes : (d : Bool) → bytes_eq word (codes "--") ≡ d → Turn k (open_turn k d idle h p word) (open_next k d w idle h p word) words
        (behind all (if d then placed words (names_from k place) else with_word (options_of k) word (long_of word) (names_from k place) rest))
    by_dashes true e = turn_clean k [] (at true idle texts (pends pending) p) words (behind all (placed words (names_from k place))) refl
        (behind_dashes k words place texts pending arg apart)
    by_dashes false e = by_long (long_of word) e refl

-- ---- where an option waits for its value

number_refused : (k : Command) (b : Bool) (h : Held) → is_clean (settle_fault (rules k) false h) ≡ false → is_clean (number_faults k b h) ≡ false
number_refused k true h bad = bad
number_refused k false h bad = bad

step_refused : (k : Command) (name : Text) → IsArg k name → (place : Place) (texts : List Named) → is_clean (step_fault (shape k) (position place) (held_at texts (Some (name, []))) value) ≡ false
step_refused k name is place texts = go (at_each k place)
  where
    h : Held
    h = held_at texts (Some (name, []))

    go : NoWord k place ⊎ OneWord k place → is_clean (word_faults k (arg_by_index (rules k) (position place)) h) ≡ false
    go (inl none) = ap (λ (o : Option Rule). is_clean (word_faults k o h)) none.there
    go (inr one) = ap (λ (o : Option Rule). is_clean (word_faults k o h)) one.there ∙ number_refused k (bytes_eq name one.name) h (is.lacks (rows texts))

-- `--` has no value
dashes_refused : (k : Command) (name : Text) → IsArg k name → (place : Place) (texts : List Named) (words : List Text)
    → is_clean (faults_from k (at true (option name) texts (Some (name, [])) (position place)) words) ≡ false
unfolding walk_fault
dashes_refused k name is place texts [] = unclean_first (settle_fault (rules k) false (held_at texts (Some (name, [])))) _ (is.lacks (rows texts))
dashes_refused k name is place texts (word ∷ words) =
    unclean_first (walk_fault (shape k) [] (at true (option name) texts (Some (name, [])) (position place)) (word ∷ words)) _
    (unclean_first (turn_fault (shape k) [] (at true (option name) texts (Some (name, [])) (position place)) word) _ (step_refused k name is place texts))

-- and neither has an option that comes next
long_refused : (c : List Rule) (r : Option Rule) (given : Option Text) (h : Held) → is_clean (settle_fault c false h) ≡ false → is_clean (long_fault c false r given h) ≡ false
long_refused c None given h bad = refl
long_refused c (Some a) given h bad = go (takes_values a) given
  where
    go : (b : Bool) (v : Option Text) → is_clean (if b then option_fault c false a v h else (if is_some v then TooManyValues ∷ [] else react_fault c false a [] h)) ≡ false
    go true None = bad
    go false (Some v) = refl
    go other rest = unclean_first (settle_fault c false h) _ bad

waits_goes : (k : Command) (word : Text) (words : List Text) (rest : List Text → Option (List Named)) → Later k false words rest
    → Waits k (word ∷ words) (λ name names. if is_flag word then None else before (name, word) (rest names))
unfolding walked
waits_goes k word words rest later place texts name is apart =
    turn_goes k (at false (option name) texts (Some (name, [])) (position place)) word words _ (by_dashes (bytes_eq word (codes "--")) refl)
  where
    h : Held
    h = held_at texts (Some (name, []))

    p : ℕ
    p = position place

    w : Walk
    w = at false (option name) texts (Some (name, [])) p

    want_by : Bool → Option (List Named)
    want_by flag = behind texts (if flag then None else before (name, word) (rest (names_from k place)))

    want : Option (List Named)
    want = want_by (is_flag word)

    flagged : is_flag word ≡ true → Refused k want
    flagged flag = subst (λ (b : Bool). Refused k (want_by b)) (sym flag) tt

    taken : is_flag word ≡ false → Turn k (step_fault (shape k) p (plain_word (rules k) (option name) word h).0 (plain_word (rules k) (option name) word h).1)
        (after_step (rules k) word w (plain_word (rules k) (option name) word h).0 (plain_word (rules k) (option name) word h).1) words want
    taken plain =
        let goes : Goes k (at false idle texts (pends (Some (name, word))) p) words (want_by false) =
        subst (Goes k (at false idle texts (pends (Some (name, word))) p) words) (behind_before texts (name, word) (rest (names_from k place))) (later place texts (Some (name, word)) is apart) in
        subst (λ (b : Bool). Turn k (step_fault (shape k) p (plain_word (rules k) (option name) word h).0 (plain_word (rules k) (option name) word h).1)
        (after_step (rules k) word w (plain_word (rules k) (option name) word h).0 (plain_word (rules k) (option name) word h).1) words (want_by b)) (sym plain)
        (subst (λ (m : Held × Step). Turn k (step_fault (shape k) p m.0 m.1) (after_step (rules k) word w m.0 m.1) words (want_by false)) (sym (is.takes word (rows texts)))
        (turn_clean k [] (at false idle texts (pends (Some (name, word))) p) words (want_by false) refl goes))

    by_long : (l : Option (Text × Option Text)) → bytes_eq word (codes "--") ≡ false → long_of word ≡ l
        → Turn k (or_else (flag_word_fault (rules k) false l word h) (step_fault (shape k) p (long_or_other (rules k) (option name) word l h).0 (long_or_other (rules k) (option name) word l h).1))
        (after_step (rules k) word w (long_or_other (rules k) (option name) word l h).0 (long_or_other (rules k) (option name) word l h).1) words want
    by_long (Some l) dashes e =
        turn_unclean k _ _ words want
        (unclean_first (flag_word_fault (rules k) false (Some l) word h) _
        (long_refused (rules k) (arg_by_long (rules k) l.0) l.1 h (is.lacks (rows texts))))
        (flagged (long_flag word l e))
    by_long None dashes e = plain_turn k (option name) texts (Some (name, [])) p word words want flagged taken dashes e (short_of word) refl

    by_dashes : (d : Bool) → bytes_eq word (codes "--") ≡ d → Turn k (open_turn k d (option name) h p word) (open_next k d w (option name) h p word) words want
    by_dashes true e =
        subst (λ (b : Bool). Fate k b (rows_from k (at true (option name) texts (Some (name, [])) p) words) want) (sym (dashes_refused k name is place texts words))
        (flagged (dashes_flag word e))
    by_dashes false e = by_long (long_of word) e refl

waits_end : (k : Command) → Waits k [] (λ name names. None)
unfolding walk_fault
waits_end k place texts name is apart =
    let bad : is_clean (faults_from k (at false (option name) texts (Some (name, [])) (position place)) []) ≡ false =
    unclean_first (settle_fault (rules k) false (held_at texts (Some (name, [])))) _ (is.lacks (rows texts)) in
    subst (λ (b : Bool). Fate k b (rows_from k (at false (option name) texts (Some (name, [])) (position place)) []) None) (sym bad) tt

-- ---- all words

record Walks (k : Command) (words : List Text) : Type 0 where
  idly : Later k false words (named (options_of k) words None)
  waiting : Waits k words (λ name. named (options_of k) words (Some name))

walks : (k : Command) (words : List Text) → Walks k words
unfolding walk_fault
walks k [] = record { idly = λ place texts pending arg apart. ends k texts pending arg apart; waiting = waits_end k }
walks k (word ∷ words) =
    let later = walks k words in
    record {
      idly = idle_goes k word words (named (options_of k) words) later.idly later.waiting;
      waiting = waits_goes k word words (named (options_of k) words None) later.idly;
    }

-- where no word came yet
abbrev pub none_yet : Walk
none_yet = at false idle [] None 1

first_names : (k : Command) → names_from k first ≡ words_of k
first_names to_record = refl
first_names other = refl

pub words_go : (k : Command) (words : List Text) → Goes k none_yet words (named (options_of k) words None (words_of k))
words_go k words =
    let goes = (walks k words).idly first [] None tt refl in
    subst (λ (names : List Text). Goes k none_yet words (named (options_of k) words None names)) (first_names k)
    (subst (Goes k none_yet words) (elim (named (options_of k) words None (names_from k first)) as (λ o. behind [] o ≡ o) [ None ↦ refl | Some texts ↦ refl ]) goes)
