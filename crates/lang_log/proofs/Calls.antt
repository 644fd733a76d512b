-- How calls of a log go on, and what runs of them leave.
use Rattle.std.proofs.Common.{◌≡◌, ◌≤◌, ◌<◌, ◌+◌, ◌-◌, ℕ, List, [], ◌∷◌, ◌++◌, length, refl, sym, ap, ◌∙◌, subst, arith, append_assoc, append-nil}
use Rattle.std.proofs.lemmas.List.{length-append, length-drop}
use Rattle.lang_log.specs.declared.call.LogCall.{LogCall}
use Rattle.lang_log.specs.declared.call.LogCall.TheVariants.{Append, Get, Trim, Count, Order, Sync, Bad}
use Rattle.lang_log.specs.declared.call.LogReply.{LogReply}
use Rattle.lang_log.specs.declared.call.LogReply.TheVariants.{Number, Bytes, Low, Range, Ordered, Durable, Bad as NotUnderstood, NoRecord, TooLong, LogEnd, Refused}
use Rattle.lang_log.specs.Answers.{AnswersLog, LogRun, MayBegin, after_call, after_calls, append_of, appends_of, trimmed_by}
use Rattle.lang_log.specs.Log.{Log, next_of}
use Rattle.lang_log.specs.History.{History, opened_with, trimmed_to}
use Rattle.lang_log.specs.Runs.{Appends, AreOf, all_kept, count, found_in, from_low, one_more}
use Rattle.lang_log.proofs.Runs.{appended_of, opened_of, synced_of, trimmed_of}

-- behind calls that led to a history, one more leads on
pub one_call_more : (h mid k : History) (calls : List LogCall) (replies : List LogReply) (call : LogCall) (reply : LogReply) → LogRun h calls replies mid
    → AnswersLog mid call reply k → LogRun h (calls ++ call ∷ []) (replies ++ reply ∷ []) k
one_call_more h mid k [] [] call reply is answers = (k, subst (λ (g : History). AnswersLog g call reply k) is answers, refl)
one_call_more h mid k [] (r ∷ replies) call reply run answers = absurd run
one_call_more h mid k (c ∷ calls) [] call reply run answers = absurd run
one_call_more h mid k (c ∷ calls) (r ∷ replies) call reply run answers = (run.0, run.1, one_call_more run.0 mid k calls replies call reply run.2 answers)

-- What was appended.

append_more : (call : LogCall) (reply : LogReply) (a : Appends) → (after_call call reply a).appends ≡ a.appends ++ append_of call reply
append_more (Append bytes) (Number n) a = refl
append_more (Append bytes) (Bytes bs) a = sym (append-nil a.appends)
append_more (Append bytes) (Low n) a = sym (append-nil a.appends)
append_more (Append bytes) (Range n m) a = sym (append-nil a.appends)
append_more (Append bytes) (Ordered n) a = sym (append-nil a.appends)
append_more (Append bytes) (Durable n) a = sym (append-nil a.appends)
append_more (Append bytes) NotUnderstood a = sym (append-nil a.appends)
append_more (Append bytes) (NoRecord n m) a = sym (append-nil a.appends)
append_more (Append bytes) TooLong a = sym (append-nil a.appends)
append_more (Append bytes) LogEnd a = sym (append-nil a.appends)
append_more (Append bytes) (Refused why) a = sym (append-nil a.appends)
append_more (Get n) r a = sym (append-nil a.appends)
append_more (Trim n) r a = sym (append-nil a.appends)
append_more Count r a = sym (append-nil a.appends)
append_more Order r a = sym (append-nil a.appends)
append_more Sync (Number n) a = sym (append-nil a.appends)
append_more Sync (Bytes bs) a = sym (append-nil a.appends)
append_more Sync (Low n) a = sym (append-nil a.appends)
append_more Sync (Range n m) a = sym (append-nil a.appends)
append_more Sync (Ordered n) a = sym (append-nil a.appends)
append_more Sync (Durable n) a = sym (append-nil a.appends)
append_more Sync NotUnderstood a = sym (append-nil a.appends)
append_more Sync (NoRecord n m) a = sym (append-nil a.appends)
append_more Sync TooLong a = sym (append-nil a.appends)
append_more Sync LogEnd a = sym (append-nil a.appends)
append_more Sync (Refused why) a = sym (append-nil a.appends)
append_more Bad r a = sym (append-nil a.appends)

pub appends_more : (calls : List LogCall) (replies : List LogReply) (a : Appends) → (after_calls calls replies a).appends ≡ a.appends ++ appends_of calls replies
appends_more [] replies a = sym (append-nil a.appends)
appends_more (call ∷ calls) [] a = sym (append-nil a.appends)
appends_more (call ∷ calls) (reply ∷ replies) a =
    appends_more calls replies (after_call call reply a) ∙ ap (λ xs. xs ++ appends_of calls replies) (append_more call reply a)
    ∙ append_assoc a.appends (append_of call reply) (appends_of calls replies)

-- Where the log begins is of no matter to what a call makes of the appends.

low_late : (low : ℕ) (call : LogCall) (reply : LogReply) (a : Appends) → after_call call reply (from_low low a) ≡ from_low low (after_call call reply a)
low_late low (Append bytes) (Number n) a = refl
low_late low (Append bytes) (Bytes bs) a = refl
low_late low (Append bytes) (Low n) a = refl
low_late low (Append bytes) (Range n m) a = refl
low_late low (Append bytes) (Ordered n) a = refl
low_late low (Append bytes) (Durable n) a = refl
low_late low (Append bytes) NotUnderstood a = refl
low_late low (Append bytes) (NoRecord n m) a = refl
low_late low (Append bytes) TooLong a = refl
low_late low (Append bytes) LogEnd a = refl
low_late low (Append bytes) (Refused why) a = refl
low_late low (Get n) r a = refl
low_late low (Trim n) r a = refl
low_late low Count r a = refl
low_late low Order r a = refl
low_late low Sync (Number n) a = refl
low_late low Sync (Bytes bs) a = refl
low_late low Sync (Low n) a = refl
low_late low Sync (Range n m) a = refl
low_late low Sync (Ordered n) a = refl
low_late low Sync (Durable n) a = refl
low_late low Sync NotUnderstood a = refl
low_late low Sync (NoRecord n m) a = refl
low_late low Sync TooLong a = refl
low_late low Sync LogEnd a = refl
low_late low Sync (Refused why) a = refl
low_late low Bad r a = refl

lows_late : (low mid : ℕ) (calls : List LogCall) (replies : List LogReply) (a : Appends) → from_low low (after_calls calls replies (from_low mid a)) ≡ from_low low (after_calls calls replies a)
lows_late low mid [] replies a = refl
lows_late low mid (call ∷ calls) [] a = refl
lows_late low mid (call ∷ calls) (reply ∷ replies) a =
    ap (λ b. from_low low (after_calls calls replies b)) (low_late mid call reply a) ∙ lows_late low mid calls replies (after_call call reply a)

-- What one call leaves.

-- the appends begin where the log does
low_is : (h : History) (a : Appends) → AreOf h a → a.low ≡ h.now.low
low_is h a of = sym (ap (λ (l : Log). l.low) of.now)

-- the next number is how many there are
pub next_is : (h : History) (a : Appends) → AreOf h a → next_of h.now ≡ count a
next_is h a of = ap next_of of.now ∙ omega (arith, of.lawful.from, of.lawful.upto, length-drop (a.low - a.first) a.appends)

-- nothing changed
same : (h k : History) (a : Appends) → k ≡ h → AreOf h a → AreOf k (from_low k.now.low a)
same h k a is of =
    subst (λ (g : History). AreOf g (from_low g.now.low a)) (sym is)
    (subst (λ (n : ℕ). AreOf h (from_low n a)) (low_is h a of) of)

trims : (upto : ℕ) (lows : List ℕ) (h : History) (a : Appends) → MayBegin upto h.now lows → AreOf h a → AreOf (trimmed_by lows h) (from_low (trimmed_by lows h).now.low a)
trims upto [] h a may of = same h h a refl of
trims upto (low ∷ lows) h a may of =
    trims upto lows (trimmed_to low h) (from_low low a) may.3
    (trimmed_of h a low of (omega (arith, low_is h a of, may.0)) (omega (arith, next_is h a of, may.1)))

trimmed_so : (upto : ℕ) (lows : List ℕ) (h k : History) (a : Appends) → MayBegin upto h.now lows → k ≡ trimmed_by lows h → AreOf h a → AreOf k (from_low k.now.low a)
trimmed_so upto lows h k a may is of = subst (λ (g : History). AreOf g (from_low g.now.low a)) (sym is) (trims upto lows h a may of)

changed : (k g : History) (b : Appends) → k ≡ g → g.now.low ≡ b.low → AreOf g b → AreOf k (from_low k.now.low b)
changed k g b is low of = subst (λ (f : History). AreOf f (from_low f.now.low b)) (sym is) (subst (λ (n : ℕ). AreOf g (from_low n b)) (sym low) of)

leaves : (h k : History) (a : Appends) (call : LogCall) (reply : LogReply) → AreOf h a → AnswersLog h call reply k → AreOf k (from_low k.now.low (after_call call reply a))
leaves h k a (Append bytes) (Number n) of is = changed k _ (one_more bytes a) is.3 (sym (low_is h a of)) (appended_of h a bytes of)
leaves h k a (Append bytes) (Bytes bs) of is = absurd is
leaves h k a (Append bytes) (Low n) of is = absurd is
leaves h k a (Append bytes) (Range n m) of is = absurd is
leaves h k a (Append bytes) (Ordered n) of is = absurd is
leaves h k a (Append bytes) (Durable n) of is = absurd is
leaves h k a (Append bytes) NotUnderstood of is = absurd is
leaves h k a (Append bytes) (NoRecord n m) of is = absurd is
leaves h k a (Append bytes) TooLong of is = same h k a is.1 of
leaves h k a (Append bytes) LogEnd of is = same h k a is.2 of
leaves h k a (Append bytes) (Refused why) of is = same h k a is.2 of
leaves h k a (Get n) (Number m) of is = absurd is
leaves h k a (Get n) (Bytes bs) of is = same h k a is.2 of
leaves h k a (Get n) (Low m) of is = absurd is
leaves h k a (Get n) (Range l m) of is = absurd is
leaves h k a (Get n) (Ordered m) of is = absurd is
leaves h k a (Get n) (Durable m) of is = absurd is
leaves h k a (Get n) NotUnderstood of is = absurd is
leaves h k a (Get n) (NoRecord l m) of is = same h k a is.3 of
leaves h k a (Get n) TooLong of is = absurd is
leaves h k a (Get n) LogEnd of is = absurd is
leaves h k a (Get n) (Refused why) of is = same h k a is.1 of
leaves h k a (Trim n) (Number m) of is = absurd is
leaves h k a (Trim n) (Bytes bs) of is = absurd is
leaves h k a (Trim n) (Low m) of is = trimmed_so n is.1.lows h k a is.1.may is.1.is of
leaves h k a (Trim n) (Range l m) of is = absurd is
leaves h k a (Trim n) (Ordered m) of is = absurd is
leaves h k a (Trim n) (Durable m) of is = absurd is
leaves h k a (Trim n) NotUnderstood of is = absurd is
leaves h k a (Trim n) (NoRecord l m) of is = absurd is
leaves h k a (Trim n) TooLong of is = absurd is
leaves h k a (Trim n) LogEnd of is = absurd is
leaves h k a (Trim n) (Refused why) of is = trimmed_so n is.lows h k a is.may is.is of
leaves h k a Count (Number m) of is = absurd is
leaves h k a Count (Bytes bs) of is = absurd is
leaves h k a Count (Low m) of is = absurd is
leaves h k a Count (Range l m) of is = same h k a is.2 of
leaves h k a Count (Ordered m) of is = absurd is
leaves h k a Count (Durable m) of is = absurd is
leaves h k a Count NotUnderstood of is = absurd is
leaves h k a Count (NoRecord l m) of is = absurd is
leaves h k a Count TooLong of is = absurd is
leaves h k a Count LogEnd of is = absurd is
leaves h k a Count (Refused why) of is = absurd is
leaves h k a Order (Number m) of is = absurd is
leaves h k a Order (Bytes bs) of is = absurd is
leaves h k a Order (Low m) of is = absurd is
leaves h k a Order (Range l m) of is = absurd is
leaves h k a Order (Ordered m) of is = same h k a is of
leaves h k a Order (Durable m) of is = absurd is
leaves h k a Order NotUnderstood of is = absurd is
leaves h k a Order (NoRecord l m) of is = absurd is
leaves h k a Order TooLong of is = absurd is
leaves h k a Order LogEnd of is = absurd is
leaves h k a Order (Refused why) of is = same h k a is of
leaves h k a Sync (Number m) of is = absurd is
leaves h k a Sync (Bytes bs) of is = absurd is
leaves h k a Sync (Low m) of is = absurd is
leaves h k a Sync (Range l m) of is = absurd is
leaves h k a Sync (Ordered m) of is = absurd is
leaves h k a Sync (Durable m) of is = changed k _ (all_kept a) is (sym (low_is h a of)) (synced_of h a of)
leaves h k a Sync NotUnderstood of is = absurd is
leaves h k a Sync (NoRecord l m) of is = absurd is
leaves h k a Sync TooLong of is = absurd is
leaves h k a Sync LogEnd of is = absurd is
leaves h k a Sync (Refused why) of is = same h k a is of
leaves h k a Bad (Number m) of is = absurd is
leaves h k a Bad (Bytes bs) of is = absurd is
leaves h k a Bad (Low m) of is = absurd is
leaves h k a Bad (Range l m) of is = absurd is
leaves h k a Bad (Ordered m) of is = absurd is
leaves h k a Bad (Durable m) of is = absurd is
leaves h k a Bad NotUnderstood of is = same h k a is of
leaves h k a Bad (NoRecord l m) of is = absurd is
leaves h k a Bad TooLong of is = absurd is
leaves h k a Bad LogEnd of is = absurd is
leaves h k a Bad (Refused why) of is = absurd is

-- What a run of calls leaves.

pub leave : (h k : History) (a : Appends) (calls : List LogCall) (replies : List LogReply) → AreOf h a → LogRun h calls replies k
    → AreOf k (from_low k.now.low (after_calls calls replies a))
leave h k a [] [] of is = same h k a is of
leave h k a [] (r ∷ replies) of run = absurd run
leave h k a (c ∷ calls) [] of run = absurd run
leave h k a (c ∷ calls) (r ∷ replies) of run =
    subst (AreOf k) (lows_late k.now.low run.0.now.low calls replies (after_call c r a))
    (leave run.0 k (from_low run.0.now.low (after_call c r a)) calls replies (leaves h run.0 a c r of run.1) run.2)

pub opened_leave : (l : Log) (calls : List LogCall) (replies : List LogReply) (k : History) → LogRun (opened_with l) calls replies k
    → AreOf k (from_low k.now.low (after_calls calls replies (found_in l)))
opened_leave l calls replies k run = leave (opened_with l) k (found_in l) calls replies (opened_of l) run

-- What was there at an answered sync stays kept.

kept_more : (call : LogCall) (reply : LogReply) (a : Appends) → a.kept ≤ count a → (a.kept ≤ (after_call call reply a).kept) × ((after_call call reply a).kept ≤ count (after_call call reply a))
kept_more (Append bytes) (Number n) a le = (omega arith, omega (arith, le, length-append a.appends (bytes ∷ [])))
kept_more (Append bytes) (Bytes bs) a le = (omega arith, le)
kept_more (Append bytes) (Low n) a le = (omega arith, le)
kept_more (Append bytes) (Range n m) a le = (omega arith, le)
kept_more (Append bytes) (Ordered n) a le = (omega arith, le)
kept_more (Append bytes) (Durable n) a le = (omega arith, le)
kept_more (Append bytes) NotUnderstood a le = (omega arith, le)
kept_more (Append bytes) (NoRecord n m) a le = (omega arith, le)
kept_more (Append bytes) TooLong a le = (omega arith, le)
kept_more (Append bytes) LogEnd a le = (omega arith, le)
kept_more (Append bytes) (Refused why) a le = (omega arith, le)
kept_more (Get n) r a le = (omega arith, le)
kept_more (Trim n) r a le = (omega arith, le)
kept_more Count r a le = (omega arith, le)
kept_more Order r a le = (omega arith, le)
kept_more Sync (Number n) a le = (omega arith, le)
kept_more Sync (Bytes bs) a le = (omega arith, le)
kept_more Sync (Low n) a le = (omega arith, le)
kept_more Sync (Range n m) a le = (omega arith, le)
kept_more Sync (Ordered n) a le = (omega arith, le)
kept_more Sync (Durable n) a le = (le, omega arith)
kept_more Sync NotUnderstood a le = (omega arith, le)
kept_more Sync (NoRecord n m) a le = (omega arith, le)
kept_more Sync TooLong a le = (omega arith, le)
kept_more Sync LogEnd a le = (omega arith, le)
kept_more Sync (Refused why) a le = (omega arith, le)
kept_more Bad r a le = (omega arith, le)

keeps_on : (calls : List LogCall) (replies : List LogReply) (a : Appends) → a.kept ≤ count a → a.kept ≤ (after_calls calls replies a).kept
keeps_on [] replies a le = omega arith
keeps_on (c ∷ calls) [] a le = omega arith
keeps_on (c ∷ calls) (r ∷ replies) a le = let one = kept_more c r a le in omega (arith, one.0, keeps_on calls replies (after_call c r a) one.1)

pub synced_stays : (calls later : List LogCall) (replies told : List LogReply) (a : Appends) (point : ℕ) → a.kept ≤ count a → length calls ≡ length replies
    → count (after_calls calls replies a) ≤ (after_calls (calls ++ Sync ∷ later) (replies ++ Durable point ∷ told) a).kept
synced_stays [] later [] told a point le is = keeps_on later told (all_kept a) (omega arith)
synced_stays [] later (r ∷ replies) told a point le is = absurd (omega (arith, is))
synced_stays (c ∷ calls) later [] told a point le is = absurd (omega (arith, is))
synced_stays (c ∷ calls) later (r ∷ replies) told a point le is =
    synced_stays calls later replies told (after_call c r a) point (kept_more c r a le).1 (omega (arith, is))
