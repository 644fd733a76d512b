-- What `clap` makes of one word behind the name of a command, and of the end: which faults they have, and which rows are kept.
use Rattle.std.proofs.Common.{◌≡◌, ◌⊎◌, inl, inr, ◌&&◌, ◌||◌, ℕ, Bool, true, false, cond, List, [], ◌∷◌, ◌++◌, Option, Some, None, refl, sym, ap, ap₂, subst, ◌∙◌, arith, codes, fold, length}
use Rattle.std.specs.Prelude.{IfSome, find, not, if◌then◌else◌, nat_lt, option_map}
use Rattle.std.specs.Option.{option_map_or}
use Rattle.std.specs.List.{list_all}
use Rattle.std.specs.Str.{bytes_eq}
use Rattle.std.proofs.lemmas.Bool.{and_parts, eqb-true, false≢true}
use Rattle.std.proofs.lemmas.List.{append-nil, append_assoc}
use Rattle.std.proofs.lemmas.Slice.Eq.{bytes_eq-Decides}
use Rattle.clap.specs.Facts.{explicit_source}
use Rattle.clap.specs.Kinds.{Kinds, check_kinds, or_else}
use Rattle.clap.specs.Faults.{settle_fault, use_fault, default_fault, defaults_fault, given_default_fault, check_fault, repeat_fault}
use Rattle.clap.specs.Walk.{Held, Row, Rule, Step, Text, Waiting, Walk, arg_by_id, finished, most_values, option_word, settled, settled_rows, used_by_id, idle, option, next, plain_word, default_rows, reading_by, with_default, with_values, without, is_empty, has_row}
use Rattle.clap.specs.Simple.{App, Shape, filled, filled_from, new_shape, with_index}
use Rattle.clap.specs.Takes.{is_given}
use Rattle.clap.specs.declared.builder.value_parser.Reading.TheVariants.{AsWritten}
use Rattle.clap.specs.declared.error.kind.ErrorKind.TheVariants.{ArgumentConflict}
use Rattle.clap.specs.declared.parser.matches.ValueSource.TheVariants.{CommandLine}
use Rattle.cmd_words.specs.Program.{copying, loading, logging, making, recording, replaying, running, showing, upgrading, kept, word as word_rule, option as option_rule}
use Rattle.cmd_words.specs.Words.{Command, to_record, to_replay, to_show, to_make, to_run, to_load, to_copy, to_log, to_upgrade, name_of, Named, has_name, are_apart}
use Rattle.cmd_words.proofs.Apart.{rows, has_row_is, without_fresh, with_fresh, apart_repeat, apart_more}

-- ---- lists of kinds

abbrev pub is_clean : Kinds → Bool
is_clean [] = true
is_clean (k ∷ ks) = false

pub unclean_first : (a b : Kinds) → is_clean a ≡ false → is_clean (or_else a b) ≡ false
unclean_first [] b bad = cc
unclean_first (k ∷ a) b bad = refl

pub unclean_second : (a b : Kinds) → is_clean b ≡ false → is_clean (or_else a b) ≡ false
unclean_second [] b bad = bad
unclean_second (k ∷ a) b bad = refl

pub clean_first : (a b : Kinds) → is_clean a ≡ true → is_clean (or_else a b) ≡ is_clean b
clean_first [] b clean = refl
clean_first (k ∷ a) b clean = absurd (false≢true clean)

pub or_else_nil : (a : Kinds) → or_else a [] ≡ a
or_else_nil [] = refl
or_else_nil (k ∷ a) = refl

pub or_else_assoc : (a b c : Kinds) → or_else (or_else a b) c ≡ or_else a (or_else b c)
or_else_assoc [] b c = refl
or_else_assoc (k ∷ a) b c = refl

-- ---- the commands as `clap` builds them

abbrev pub made : Command → App
made to_record = recording
made to_replay = replaying
made to_show = showing
made to_make = making
made to_run = running
made to_load = loading
made to_copy = copying
made to_log = logging
made to_upgrade = upgrading

abbrev pub rules : Command → List Rule
rules k = filled_from 1 (made k).top.rules

abbrev pub shape : Command → Shape
shape k = record (new_shape (name_of k)) {
  rules = rules k;
  no_binary_name = true;
  disable_help_flag = true;
  disable_help_subcommand = true;
  is_built = true;
}

abbrev pub held_at : List Named → Option (Text × List Text) → Held
held_at texts pending = record { rows = rows texts; pending = pending; skip = 0 }

-- between two words: whether `--` came, what waits, the texts that are kept, the one whose word was the last, and the place of the next number
abbrev pub at : Bool → Waiting → List Named → Option (Text × List Text) → ℕ → Walk
at trails waiting texts pending position = record {
  held = held_at texts pending;
  waiting = waiting;
  position = position;
  is_trailing = trails;
  stopped = None;
}

abbrev pub pends : Option Named → Option (Text × List Text)
pends None = None
pends (Some text) = Some (text.0, text.1 ∷ [])

abbrev pub listed : Option Named → List Named
listed None = []
listed (Some text) = text ∷ []

-- ---- the names of the arguments

-- what `clap` makes of an argument that waits for its value, and of one that has it
pub record IsArg (k : Command) (name : Text) : Type 0 where
  pub fault : (word : Text) (rs : List Row)
      → settle_fault (rules k) false (record { rows = rs; pending = Some (name, word ∷ []); skip = 0 }) ≡ or_else (repeat_fault false name rs) []
  pub keeps : (word : Text) (rs : List Row)
      → settled_rows (rules k) (Some (name, word ∷ [])) rs ≡ with_values name AsWritten CommandLine (word ∷ []) (without name rs)
  pub lacks : (rs : List Row) → is_clean (settle_fault (rules k) false (record { rows = rs; pending = Some (name, []); skip = 0 })) ≡ false
  pub takes : (word : Text) (rs : List Row) → plain_word (rules k) (option name) word (record { rows = rs; pending = Some (name, []); skip = 0 })
      ≡ (record { rows = rs; pending = Some (name, word ∷ []); skip = 0 }, next idle)

-- the word behind an option that waits for its value, by what the command has under its name
abbrev word_behind : Text → Text → List Row → Option Rule → Held × Step
word_behind name text rs o =
    let h : Held = record { rows = rs; pending = Some (name, []); skip = 0 } in
    ((option_word o name text h).0, next (option_word o name text h).1)

-- the same by the test of the name, and by how many values the option has
abbrev value_behind : Text → Text → List Row → Bool → ℕ → Held × Step
value_behind name text rs b most = (record { rows = rs; pending = Some (name, text ∷ []); skip = 0 }, next (if nat_lt (if b then 1 else 0) most then option name else idle))

one_value : (name text : Text) (rs : List Row) (a : Rule) (o : Option Rule) → o ≡ Some a → bytes_eq name a.id ≡ bytes_eq name name → most_values a ≡ 1
    → word_behind name text rs o ≡ value_behind name text rs true 1
one_value name text rs a o found same one =
    ap (word_behind name text rs) found ∙ ap₂ (value_behind name text rs) (same ∙ (bytes_eq-Decides name name).1 refl) one

-- an argument takes its word by its place, or by its name; where it goes by its name, whether it must stand
pub data Form : Type 0 where
  at_place : ℕ → Form
  by_name : Bool → Form

-- the rule of an argument as `clap` builds it
abbrev pub rule_as : Form → Text → Rule
rule_as (at_place i) name = with_index i (filled (word_rule name))
rule_as (by_name required) name = filled (record (option_rule name) { required = required })

-- what a command has under a name is the argument of that name
pub is_arg : (k : Command) (name : Text) (form : Form) → arg_by_id (rules k) name ≡ Some (rule_as form name) → IsArg k name
is_arg k name (at_place i) found = record {
  fault = λ word rs. ap (λ (o : Option Rule). option_map_or (λ a. use_fault false a (word ∷ []) rs) o []) found;
  keeps = λ word rs. ap (λ (o : Option Rule). used_by_id o (word ∷ []) rs) found;
  lacks = λ rs. ap (λ (o : Option Rule). is_clean (option_map_or (λ a. use_fault false a [] rs) o [])) found;
  takes = λ word rs. one_value name word rs _ _ found refl refl;
}
is_arg k name (by_name required) found = record {
  fault = λ word rs. ap (λ (o : Option Rule). option_map_or (λ a. use_fault false a (word ∷ []) rs) o []) found;
  keeps = λ word rs. ap (λ (o : Option Rule). used_by_id o (word ∷ []) rs) found;
  lacks = λ rs. ap (λ (o : Option Rule). is_clean (option_map_or (λ a. use_fault false a [] rs) o [])) found;
  takes = λ word rs. one_value name word rs _ _ found refl refl;
}

-- ---- the text whose word was the last is kept, unless its name stands before

abbrev pub IsKept : Command → List Named → Option Named → Type 0
IsKept k texts pending = (is_clean (settle_fault (rules k) false (held_at texts (pends pending))) ≡ true)
    × (settled (rules k) (held_at texts (pends pending)) ≡ held_at (texts ++ listed pending) None)
    × (are_apart (texts ++ listed pending) ≡ true)

abbrev pub IsRepeated : Command → List Named → Option Named → Type 0
IsRepeated k texts pending = (is_clean (settle_fault (rules k) false (held_at texts (pends pending))) ≡ false)
    × ((rest : List Named) → are_apart ((texts ++ listed pending) ++ rest) ≡ false)

pub settles : (k : Command) (texts : List Named) (pending : Option Named) → IfSome pending (λ text. IsArg k text.0) → are_apart texts ≡ true
    → IsKept k texts pending ⊎ IsRepeated k texts pending
settles k texts None arg apart =
    inl (refl, ap (λ ts. held_at ts None) (sym (append-nil texts)), ap are_apart (append-nil texts) ∙ apart)
settles k texts (Some text) arg apart = go (has_name text.0 texts) refl
  where
    faults : (b : Bool) → has_name text.0 texts ≡ b
        → is_clean (settle_fault (rules k) false (held_at texts (Some (text.0, text.1 ∷ [])))) ≡ is_clean (or_else (if b && true then ArgumentConflict ∷ [] else []) [])
    faults b e = ap is_clean (arg.fault text.1 (rows texts)) ∙ ap (λ (c : Bool). is_clean (or_else (if c && true then ArgumentConflict ∷ [] else []) [])) (has_row_is text.0 texts ∙ e)

    go : (b : Bool) → has_name text.0 texts ≡ b → IsKept k texts (Some text) ⊎ IsRepeated k texts (Some text)
    go false e = inl (
      faults false e,
      ap (λ (rs : List Row). record { rows = rs; pending = None; skip = 0 })
          (arg.keeps text.1 (rows texts) ∙ ap (with_values text.0 AsWritten CommandLine (text.1 ∷ [])) (without_fresh text.0 texts e) ∙ with_fresh text.0 text.1 texts e),
      apart_more text texts apart e,
    )
    go true e = inr (faults true e, λ rest. ap are_apart (append_assoc texts (text ∷ []) rest) ∙ apart_repeat text texts rest e)

-- ---- the end

with_no_default : (rs : List Row) (a : Rule) → is_empty a.defaults ≡ true → with_default rs a ≡ rs
with_no_default rs a none = go (has_row a.id rs) a.defaults none
  where
    go : (b : Bool) (ds : List Text) → is_empty ds ≡ true → (if b then rs else default_rows a.id (reading_by a) ds rs) ≡ rs
    go false (d ∷ ds) none = absurd (omega (arith, eqb-true (length (d ∷ ds)) 0 none))
    go other ds none = refl

abbrev no_defaults : List Rule → Bool
no_defaults = list_all (λ a. is_empty a.defaults)

default_rows_same : (c : List Rule) (rs : List Row) → no_defaults c ≡ true → fold with_default rs c ≡ rs
default_rows_same [] rs none = refl
default_rows_same (a ∷ c) rs none =
    let parts = and_parts (is_empty a.defaults) (no_defaults c) none in
    ap (λ (r : List Row). fold with_default r c) (with_no_default rs a parts.0) ∙ default_rows_same c rs parts.1

default_no_fault : (rs : List Row) (a : Rule) → is_empty a.defaults ≡ true → default_fault rs a ≡ []
default_no_fault rs a none = rw none (elim (has_row a.id rs) as (λ b. (if b || true then [] else given_default_fault a a.defaults) ≡ []) [ true ↦ refl | false ↦ refl ])

defaults_no_fault : (c : List Rule) (rs : List Row) → no_defaults c ≡ true → defaults_fault rs c ≡ []
unfolding defaults_fault
defaults_no_fault [] rs none = refl
defaults_no_fault (a ∷ c) rs none =
    let parts = and_parts (is_empty a.defaults) (no_defaults c) none in
    ap₂ or_else (default_no_fault rs a parts.0)
    (ap (λ (r : List Row). defaults_fault r c) (with_no_default rs a parts.0) ∙ defaults_no_fault c rs parts.1)

given_is : (name : Text) (texts : List Named) → is_given name (rows texts) ≡ has_name name texts
given_is name [] = refl
given_is name (t ∷ texts) = go (given_is name texts) (bytes_eq t.0 name)
  where
    go : is_given name (rows texts) ≡ has_name name texts → (b : Bool)
        → option_map_or (λ (r : Row). explicit_source r.source) (cond b (Some (kept t)) (find (λ (r : Row). bytes_eq r.id name) (rows texts))) false ≡ (b || has_name name texts)
    go later true = refl
    go later false = later

-- the last check where one argument must stand
check_one : (a : Bool) → is_clean (check_kinds false false (not a || false)) ≡ a
check_one true = refl
check_one false = refl

-- and where two must
check_two : (a b : Bool) → is_clean (check_kinds false false (not a || (not b || false))) ≡ (a && b)
check_two true true = refl
check_two other b = refl

pub no_defaults_in : (k : Command) → no_defaults (rules k) ≡ true
no_defaults_in to_record = refl
no_defaults_in other = refl

-- what must stand is there
abbrev pub has_needed : Command → List Named → Bool
has_needed to_record texts = has_name (codes "blocks") texts && (has_name (codes "journal") texts && has_name (codes "nodes") texts)
has_needed to_replay texts = has_name (codes "at") texts
has_needed to_show texts = has_name (codes "image") texts
has_needed to_make texts = has_name (codes "image") texts && (has_name (codes "blocks") texts && (has_name (codes "journal") texts && has_name (codes "nodes") texts))
has_needed to_run texts = has_name (codes "image") texts
has_needed to_load texts = has_name (codes "seed") texts && has_name (codes "count") texts
has_needed to_copy texts = has_name (codes "image") texts && has_name (codes "other") texts
has_needed to_log texts = has_name (codes "image") texts
has_needed to_upgrade texts =
    has_name (codes "image") texts && (has_name (codes "other") texts && (has_name (codes "blocks") texts && (has_name (codes "journal") texts && has_name (codes "nodes") texts)))

check_is : (k : Command) (texts : List Named) → is_clean (check_fault (shape k) (rows texts) false) ≡ has_needed k texts
check_is to_record texts =
    go (is_given (codes "blocks") (rows texts)) (is_given (codes "journal") (rows texts)) (is_given (codes "nodes") (rows texts))
    ∙ rw (given_is (codes "blocks") texts, given_is (codes "journal") texts, given_is (codes "nodes") texts) refl
  where
    go : (a b c : Bool) → is_clean (check_kinds false false (not a || (not b || (not c || false)))) ≡ (a && (b && c))
    go true true true = refl
    go other b c = refl
check_is to_replay texts = check_one (is_given (codes "at") (rows texts)) ∙ given_is (codes "at") texts
check_is to_show texts = check_one (is_given (codes "image") (rows texts)) ∙ given_is (codes "image") texts
check_is to_make texts =
    go (is_given (codes "image") (rows texts)) (is_given (codes "blocks") (rows texts)) (is_given (codes "journal") (rows texts)) (is_given (codes "nodes") (rows texts))
    ∙ rw (given_is (codes "image") texts, given_is (codes "blocks") texts, given_is (codes "journal") texts, given_is (codes "nodes") texts) refl
  where
    go : (a b c d : Bool) → is_clean (check_kinds false false (not a || (not b || (not c || (not d || false))))) ≡ (a && (b && (c && d)))
    go true true true true = refl
    go other b c d = refl
check_is to_run texts = check_one (is_given (codes "image") (rows texts)) ∙ given_is (codes "image") texts
check_is to_load texts =
    check_two (is_given (codes "seed") (rows texts)) (is_given (codes "count") (rows texts))
    ∙ rw (given_is (codes "seed") texts, given_is (codes "count") texts) refl
check_is to_copy texts =
    check_two (is_given (codes "image") (rows texts)) (is_given (codes "other") (rows texts))
    ∙ rw (given_is (codes "image") texts, given_is (codes "other") texts) refl
check_is to_log texts = check_one (is_given (codes "image") (rows texts)) ∙ given_is (codes "image") texts
check_is to_upgrade texts =
    go (is_given (codes "image") (rows texts)) (is_given (codes "other") (rows texts)) (is_given (codes "blocks") (rows texts)) (is_given (codes "journal") (rows texts))
    (is_given (codes "nodes") (rows texts))
    ∙ rw (given_is (codes "image") texts, given_is (codes "other") texts, given_is (codes "blocks") texts, given_is (codes "journal") texts, given_is (codes "nodes") texts) refl
  where
    go : (a b c d e : Bool) → is_clean (check_kinds false false (not a || (not b || (not c || (not d || (not e || false)))))) ≡ (a && (b && (c && (d && e))))
    go true true true true true = refl
    go other b c d e = refl

-- the faults of the end
abbrev pub end_faults : Command → Held → Kinds
end_faults k h = or_else (settle_fault (rules k) false h)
    (or_else (defaults_fault (settled (rules k) h).rows (rules k)) (check_fault (shape k) (finished (rules k) h) false))

-- texts that ask for nothing: a name stands twice, or what must stand is missing
abbrev pub AsksNothing : Command → List Named → Type 0
AsksNothing k texts = (are_apart texts ≡ false) ⊎ (has_needed k texts ≡ false)

abbrev pub Refused : Command → Option (List Named) → Type 0
Refused k None = Unit {0}
Refused k (Some texts) = AsksNothing k texts

-- words without a fault say these texts, which `clap` keeps; and words with one say none, or some that ask for nothing
abbrev pub Fate : Command → Bool → List Row → Option (List Named) → Type 0
Fate k true found want = (texts : List Named) × (want ≡ Some texts) × (are_apart texts ≡ true) × (found ≡ rows texts)
Fate k false found want = Refused k want

-- the texts that were met, and those to come
abbrev pub behind : List Named → Option (List Named) → Option (List Named)
behind texts = option_map (λ more. texts ++ more)

pub ends : (k : Command) (texts : List Named) (pending : Option Named) → IfSome pending (λ text. IsArg k text.0) → are_apart texts ≡ true
    → Fate k (is_clean (end_faults k (held_at texts (pends pending)))) (finished (rules k) (held_at texts (pends pending))) (behind (texts ++ listed pending) (Some []))
ends k texts pending arg apart = go (settles k texts pending arg apart)
  where
    h : Held
    h = held_at texts (pends pending)

    all : List Named
    all = texts ++ listed pending

    by_needed : (found : List Row) → found ≡ rows all → are_apart all ≡ true → (b : Bool) → has_needed k all ≡ b → Fate k b found (Some (all ++ []))
    by_needed found same apart true e = (all, ap Some (append-nil all), apart, same)
    by_needed found same apart false e = inr (ap (has_needed k) (append-nil all) ∙ e)

    go : IsKept k texts pending ⊎ IsRepeated k texts pending → Fate k (is_clean (end_faults k h)) (finished (rules k) h) (Some (all ++ []))
    go (inl one) =
        let found : finished (rules k) h ≡ rows all = ap (λ (s : Held). fold with_default s.rows (rules k)) one.1 ∙ default_rows_same (rules k) (rows all) (no_defaults_in k) in
        let no_default : defaults_fault (settled (rules k) h).rows (rules k) ≡ [] = defaults_no_fault (rules k) (settled (rules k) h).rows (no_defaults_in k) in
        let clean : is_clean (end_faults k h) ≡ has_needed k all =
        clean_first (settle_fault (rules k) false h) _ one.0 ∙ ap is_clean (ap₂ or_else no_default (ap (λ (rs : List Row). check_fault (shape k) rs false) found)) ∙ check_is k all in
        subst (λ (b : Bool). Fate k b (finished (rules k) h) (Some (all ++ []))) (sym clean) (by_needed (finished (rules k) h) found one.2 (has_needed k all) refl)
    go (inr r) = subst (λ (b : Bool). Fate k b (finished (rules k) h) (Some (all ++ []))) (sym (unclean_first (settle_fault (rules k) false h) _ r.0)) (inl (r.1 []))
