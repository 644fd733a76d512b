-- The request of texts with their names: how it is read from what `clap` keeps, which texts ask for nothing, and the ranges.
use mathlib.Core.Path.{fun_ext}
use Rattle.std.proofs.Common.{◌≡◌, ◌≢◌, arith, inl, inr, ◌≤◌, ◌||◌, ℕ, Bool, true, false, cond, List, [], ◌∷◌, Option, Some, None, refl, sym, ap, ◌∙◌, codes, bytes_eq}
use Rattle.std.specs.Prelude.{IfSome, find, if◌then◌else◌, option_and_then, option_map, slice_get, unwrap_or}
use Rattle.std.proofs.lemmas.Bool.{false≢true}
use Rattle.std.proofs.lemmas.Slice.Eq.{bytes_eq-Decides}
use Rattle.clap.specs.Walk.{Row, Text, first_of}
use Rattle.base_types.specs.declared.layout.Layout.{Layout}
use Rattle.base_types.specs.declared.layout.Layout.TheVariants.{One}
use Rattle.disk_memory.specs.Choice.{ChoiceState}
use Rattle.cmd_words.specs.ChoiceTexts.{choice_of}
use Rattle.cmd_words.specs.declared.request.Request.TheVariants.{AppLog, Copy, RunMirrored, Tree, Upgrade}
use Rattle.cmd_words.specs.declared.request.Notices.{Notices}
use Rattle.cmd_words.specs.declared.request.Notices.TheVariants.{Silent, Fifo, Seed}
use Rattle.cmd_words.specs.Program.{kept}
use Rattle.cmd_words.specs.Words.{Command, to_record, to_replay, to_show, to_make, to_run, to_load, to_copy, to_log, to_upgrade, words_of, options_of, command_of, HasSeedInRange, IsInRange, Named, are_apart, copy_of, copy_with, upgrade_of, upgrade_with, has_name, layout_in, load_of, load_with, make_of, make_with, named, notices_of, number_in, record_of, recording_of, replay_at, run_with, asked, asked_apart, asked_with, request_of_texts, seed_of, text_of, value_or}
use Rattle.cmd_words.proofs.Apart.{rows}
use Rattle.cmd_words.proofs.Steps.{AsksNothing, Refused, has_needed}
use Rattle.cmd_words.proofs.Texts.{number_range, seed_range}

-- ---- what is read from the rows

pub first_is : (texts : List Named) (name : Text) → first_of name (rows texts) ≡ text_of texts name
first_is [] name = refl
first_is (t ∷ texts) name = go (first_is texts name) (bytes_eq t.0 name)
  where
    go : first_of name (rows texts) ≡ text_of texts name → (b : Bool)
        → option_and_then (λ (r : Row). slice_get r.values 0) (cond b (Some (kept t)) (find (λ (r : Row). bytes_eq r.id name) (rows texts)))
        ≡ option_map (λ (u : Named). u.1) (cond b (Some t) (find (λ (u : Named). bytes_eq u.0 name) texts))
    go later true = refl
    go later false = later

pub asked_same : (k : Command) (one other : Text → Option Text) → ((name : Text) → one name ≡ other name) → asked k one ≡ asked k other
asked_same k one other same = ap (asked k) (fun_ext same)

-- ---- texts that ask for nothing

-- a recording that lacks a part is none
lacks_journal : (a c : Option ℕ) (l : Option Layout) (d : Option Notices) (e : Option ℕ) (f : Option (Option ℕ)) → record_of a None c l d e f ≡ None
lacks_journal a c l d e f = grind arith

lacks_nodes : (a b : Option ℕ) (l : Option Layout) (d : Option Notices) (e : Option ℕ) (f : Option (Option ℕ)) → record_of a b None l d e f ≡ None
lacks_nodes a b l d e f = grind arith

-- and neither is a making, a load, a copying, or an upgrade
made_lacks_blocks : (a : Option Text) (c d : Option ℕ) (l : Option Layout) → make_with a None c d l ≡ None
made_lacks_blocks a c d l = grind arith

made_lacks_journal : (a : Option Text) (b d : Option ℕ) (l : Option Layout) → make_with a b None d l ≡ None
made_lacks_journal a b d l = grind arith

made_lacks_nodes : (a : Option Text) (b c : Option ℕ) (l : Option Layout) → make_with a b c None l ≡ None
made_lacks_nodes a b c l = grind arith

load_lacks_count : (a : Option ℕ) → load_with a None ≡ None
load_lacks_count a = grind arith

copy_lacks_other : (a : Option Text) → copy_with a None ≡ None
copy_lacks_other a = grind arith

upgrade_lacks_other : (a : Option Text) (c d e : Option ℕ) → upgrade_with a None c d e ≡ None
upgrade_lacks_other a c d e = grind arith

upgrade_lacks_blocks : (a b : Option Text) (d e : Option ℕ) → upgrade_with a b None d e ≡ None
upgrade_lacks_blocks a b d e = grind arith

upgrade_lacks_journal : (a b : Option Text) (c e : Option ℕ) → upgrade_with a b c None e ≡ None
upgrade_lacks_journal a b c e = grind arith

upgrade_lacks_nodes : (a b : Option Text) (c d : Option ℕ) → upgrade_with a b c d None ≡ None
upgrade_lacks_nodes a b c d = grind arith

-- the texts in their places
abbrev notices_in : Option Text → Option Notices
notices_in = value_or Silent notices_of

abbrev room_in : Option Text → Option ℕ
room_in = value_or 4096 (number_in 1 65536)

abbrev fail_in : Option Text → Option (Option ℕ)
fail_in = value_or None (λ t. option_map (λ write. Some write) (number_in 1 4294967295 t))

no_name : (texts : List Named) (name : Text) → has_name name texts ≡ false → text_of texts name ≡ None
no_name [] name none = refl
no_name (t ∷ texts) name none = go (no_name texts name) (bytes_eq t.0 name) none
  where
    go : (has_name name texts ≡ false → text_of texts name ≡ None) → (b : Bool) → (b || has_name name texts) ≡ false
        → option_map (λ (u : Named). u.1) (cond b (Some t) (find (λ (u : Named). bytes_eq u.0 name) texts)) ≡ None
    go later true h = absurd (false≢true (sym h))
    go later false h = later h

-- a part whose text isn't there is none
numbers_missing : (texts : List Named) → has_needed to_record texts ≡ false → recording_of (text_of texts) ≡ None
numbers_missing texts h = grind (arith, no_name texts (codes "blocks"), no_name texts (codes "journal"), no_name texts (codes "nodes"), lacks_journal, lacks_nodes)

made_missing : (texts : List Named) → has_needed to_make texts ≡ false → make_of (text_of texts) ≡ None
made_missing texts h =
    grind (arith, no_name texts (codes "image"), no_name texts (codes "blocks"), no_name texts (codes "journal"), no_name texts (codes "nodes"), made_lacks_blocks, made_lacks_journal, made_lacks_nodes)

load_missing : (texts : List Named) → has_needed to_load texts ≡ false → load_of (text_of texts) ≡ None
load_missing texts h = grind (arith, no_name texts (codes "seed"), no_name texts (codes "count"), load_lacks_count)

copy_missing : (texts : List Named) → has_needed to_copy texts ≡ false → copy_of (text_of texts) ≡ None
copy_missing texts h = grind (arith, no_name texts (codes "image"), no_name texts (codes "other"), copy_lacks_other)

upgrade_missing : (texts : List Named) → has_needed to_upgrade texts ≡ false → upgrade_of (text_of texts) ≡ None
upgrade_missing texts h =
    grind (
      arith,
      no_name texts (codes "image"),
      no_name texts (codes "other"),
      no_name texts (codes "blocks"),
      no_name texts (codes "journal"),
      no_name texts (codes "nodes"),
      upgrade_lacks_other,
      upgrade_lacks_blocks,
      upgrade_lacks_journal,
      upgrade_lacks_nodes,
    )

needed_missing : (k : Command) (texts : List Named) → has_needed k texts ≡ false → asked k (text_of texts) ≡ None
needed_missing to_record texts h = numbers_missing texts h
needed_missing to_replay texts h = rw (no_name texts (codes "at") h) refl
needed_missing to_make texts h = made_missing texts h
needed_missing to_load texts h = load_missing texts h
needed_missing to_copy texts h = copy_missing texts h
needed_missing to_upgrade texts h = upgrade_missing texts h
needed_missing other texts h = rw (no_name texts (codes "image") h) refl

pub refused_none : (k : Command) (want : Option (List Named)) → Refused k want → option_and_then (asked_apart k) want ≡ None
refused_none k None refused = refl
refused_none k (Some texts) refused = go (are_apart texts) refl refused
  where
    go : (b : Bool) → are_apart texts ≡ b → AsksNothing k texts → (if b then asked k (text_of texts) else None) ≡ None
    go false e refused = refl
    go true e (inl twice) = absurd (false≢true (sym twice ∙ e))
    go true e (inr missing) = needed_missing k texts missing

-- ---- the ranges

notices_range : (t : Text) → IfSome (notices_of t) HasSeedInRange
notices_range t = go (bytes_eq t (codes "none")) (bytes_eq t (codes "fifo")) (seed_of t) (seed_range t)
  where
    go : (a b : Bool) (seed : Option ℕ) → IfSome seed (λ n. (1 ≤ n) × (n ≤ 4294967295))
        → IfSome (if a then Some Silent else if b then Some Fifo else option_map (λ n. Seed n) seed) HasSeedInRange
    go false false (Some n) range = range
    go other b seed range = tt

given_range : (low high : ℕ) (text : Option Text) → IfSome (option_and_then (number_in low high) text) (λ n. (low ≤ n) × (n ≤ high))
given_range low high None = tt
given_range low high (Some t) = number_range low high t

notices_in_range : (text : Option Text) → IfSome (notices_in text) HasSeedInRange
notices_in_range None = tt
notices_in_range (Some t) = notices_range t

room_in_range : (text : Option Text) → IfSome (room_in text) (λ n. (1 ≤ n) × (n ≤ 65536))
room_in_range None = (omega arith, omega arith)
room_in_range (Some t) = number_range 1 65536 t

fail_in_range : (text : Option Text) → IfSome (fail_in text) (λ fail. IfSome fail (λ n. (1 ≤ n) × (n ≤ 4294967295)))
fail_in_range None = tt
fail_in_range (Some t) = elim (number_in 1 4294967295 t) as (λ n. IfSome n (λ n. (1 ≤ n) × (n ≤ 4294967295)) → IfSome (option_map (λ write. Some write) n) (λ fail. IfSome fail (λ n. (1 ≤ n) × (n ≤ 4294967295)))) [
  | None ↦ λ range. tt
  | Some n ↦ λ range. range
] (number_range 1 4294967295 t)

record_range : (a b c : Option ℕ) (l : Option Layout) (d : Option Notices) (e : Option ℕ) (f : Option (Option ℕ))
    → IfSome a (λ n. (64 ≤ n) × (n ≤ 1048576)) → IfSome b (λ n. (16 ≤ n) × (n ≤ 65536)) → IfSome c (λ n. (16 ≤ n) × (n ≤ 65536))
    → IfSome d HasSeedInRange → IfSome e (λ n. (1 ≤ n) × (n ≤ 65536)) → IfSome f (λ fail. IfSome fail (λ n. (1 ≤ n) × (n ≤ 4294967295)))
    → IsInRange (record_of a b c l d e f)
record_range (Some a) (Some b) (Some c) (Some l) (Some d) (Some e) (Some f) ha hb hc hd he hf = (ha.0, ha.1, hb.0, hb.1, hc.0, hc.1, hd, he.0, he.1, hf)
record_range other b c l d e f ha hb hc hd he hf = tt

replay_range : (moment : Option ℕ) (choice : Option ChoiceState) → IfSome moment (λ n. (0 ≤ n) × (n ≤ 4294967295)) → IsInRange (replay_at moment choice)
replay_range (Some n) (Some choice) range = range.1
replay_range other choice range = tt

make_range : (a : Option Text) (b c d : Option ℕ) (l : Option Layout) → IfSome b (λ n. (64 ≤ n) × (n ≤ 1048576)) → IfSome c (λ n. (16 ≤ n) × (n ≤ 65536)) → IfSome d (λ n. (16 ≤ n) × (n ≤ 65536))
    → IsInRange (make_with a b c d l)
make_range (Some a) (Some b) (Some c) (Some d) (Some l) hb hc hd = (hb.0, hb.1, hc.0, hc.1, hd.0, hd.1)
make_range other b c d l hb hc hd = tt

load_range : (a b : Option ℕ) → IfSome a (λ n. (0 ≤ n) × (n ≤ 4294967295)) → IfSome b (λ n. (0 ≤ n) × (n ≤ 2000)) → IsInRange (load_with a b)
load_range (Some a) (Some b) ha hb = (ha.1, hb.1)
load_range other b ha hb = tt

-- two names that a test tells apart
differ : (image other : Text) → bytes_eq image other ≡ false → image ≢ other
differ image other apart same = false≢true (sym apart ∙ (bytes_eq-Decides image other).1 same)

run_range : (image other : Option Text) → IsInRange (run_with image other)
run_range None other = tt
run_range (Some image) None = tt
run_range (Some image) (Some other) = elim (bytes_eq image other) as (λ b. bytes_eq image other ≡ b → IsInRange (if b then None else Some (RunMirrored image other))) [
  | true ↦ λ e. tt
  | false ↦ λ e. differ image other e
] refl

copy_range : (image other : Option Text) → IsInRange (copy_with image other)
copy_range (Some image) (Some other) = elim (bytes_eq image other) as (λ b. bytes_eq image other ≡ b → IsInRange (if b then None else Some (Copy image other))) [
  | true ↦ λ e. tt
  | false ↦ λ e. differ image other e
] refl
copy_range image other = tt

upgrade_range : (image other : Option Text) (b c d : Option ℕ) → IfSome b (λ n. (64 ≤ n) × (n ≤ 1048576)) → IfSome c (λ n. (16 ≤ n) × (n ≤ 65536)) → IfSome d (λ n. (16 ≤ n) × (n ≤ 65536))
    → IsInRange (upgrade_with image other b c d)
upgrade_range (Some image) (Some other) (Some b) (Some c) (Some d) hb hc hd = elim (bytes_eq image other) as (λ e. bytes_eq image other ≡ e → IsInRange (if e then None else Some (Upgrade image other b c d))) [
  | true ↦ λ e. tt
  | false ↦ λ e. (differ image other e, hb.0, hb.1, hc.0, hc.1, hd.0, hd.1)
] refl
upgrade_range image other b c d hb hc hd = tt

pub asked_range : (words : List Text) → IsInRange (request_of_texts words)
asked_range [] = tt
asked_range (name ∷ words) = elim (command_of name) as (λ o. IsInRange (option_and_then (asked_with words) o)) [ None ↦ tt | Some k ↦ by_texts k (named (options_of k) words None (words_of k)) ]
  where
    text_range : (k : Command) (text : Text → Option Text) → IsInRange (asked k text)
    text_range to_record text = record_range _ _ _ (value_or One layout_in (text (codes "layout"))) _ _ _ (given_range 64 1048576 (text (codes "blocks"))) (given_range 16 65536 (text (codes "journal")))
        (given_range 16 65536 (text (codes "nodes"))) (notices_in_range (text (codes "notices"))) (room_in_range (text (codes "room"))) (fail_in_range (text (codes "fail")))
    text_range to_replay text = replay_range (option_and_then (number_in 0 4294967295) (text (codes "at"))) (choice_of (unwrap_or (text (codes "stand")) (codes "none")) (text (codes "tear"))) (given_range 0 4294967295 (text (codes "at")))
    text_range to_show text = elim (text (codes "image")) as (λ o. IsInRange (option_map (λ image. Tree image) o)) [ None ↦ tt | Some image ↦ tt ]
    text_range to_make text = make_range (text (codes "image")) _ _ _ (value_or One layout_in (text (codes "layout"))) (given_range 64 1048576 (text (codes "blocks")))
        (given_range 16 65536 (text (codes "journal"))) (given_range 16 65536 (text (codes "nodes")))
    text_range to_run text = run_range (text (codes "image")) (text (codes "mirror"))
    text_range to_load text = load_range (option_and_then (number_in 0 4294967295) (text (codes "seed"))) (option_and_then (number_in 0 2000) (text (codes "count")))
        (given_range 0 4294967295 (text (codes "seed"))) (given_range 0 2000 (text (codes "count")))
    text_range to_copy text = copy_range (text (codes "image")) (text (codes "other"))
    text_range to_upgrade text = upgrade_range (text (codes "image")) (text (codes "other")) _ _ _ (given_range 64 1048576 (text (codes "blocks"))) (given_range 16 65536 (text (codes "journal")))
        (given_range 16 65536 (text (codes "nodes")))
    text_range to_log text = elim (text (codes "image")) as (λ o. IsInRange (option_map (λ image. AppLog image) o)) [ None ↦ tt | Some image ↦ tt ]

    apart_range : (k : Command) (b : Bool) (texts : List Named) → IsInRange (if b then asked k (text_of texts) else None)
    apart_range k true texts = text_range k (text_of texts)
    apart_range k false texts = tt

    by_texts : (k : Command) (want : Option (List Named)) → IsInRange (option_and_then (asked_apart k) want)
    by_texts k None = tt
    by_texts k (Some texts) = apart_range k (are_apart texts) texts
