-- What a log answers to its calls, and what its history is behind them.
use Rattle.std.specs.Prelude.{◌≡◌, ◌<◌, ◌≤◌, ◌-◌, ◌^◌, ℕ, ⊤, List, [], ◌∷◌, ◌++◌, length, slice_get, Some}
use Rattle.lang_log.specs.declared.call.LogCall.{LogCall}
use Rattle.lang_log.specs.declared.call.LogCall.TheVariants.{Append, Get, Trim, Count, Order, Sync, Bad}
use Rattle.lang_log.specs.declared.call.LogReply.{LogReply}
use Rattle.lang_log.specs.declared.call.LogReply.TheVariants.{Number, Bytes, Low, Range, Ordered, Durable, Bad as NotUnderstood, NoRecord, TooLong, LogEnd, Refused}
use Rattle.lang_log.specs.Spelling.{IsShort}
use Rattle.lang_log.specs.Log.{Log, next_of, trimmed}
use Rattle.lang_log.specs.History.{History, appended, synced, trimmed_to}
use Rattle.lang_log.specs.Runs.{Appends, all_kept, one_more}

-- the log has an append of the number
abbrev pub HasNumber : Log → ℕ → Type 0
HasNumber l number = (l.low ≤ number) × (number < next_of l)

-- An append is answered with the next number, and the log has it then. It is too long exactly where it has more than 65,536 bytes, and else the
-- numbers are used up exactly where the next one is 2^32 - 1. Where it is refused, the log is as it was.
abbrev pub AnswersAppend : List ℕ → History → LogReply → History → Type 0
AnswersAppend bytes h (Number number) k = IsShort bytes × (next_of h.now < 2 ^ 32 - 1) × (number ≡ next_of h.now) × (k ≡ appended bytes h)
AnswersAppend bytes h TooLong k = (65536 < length bytes) × (k ≡ h)
AnswersAppend bytes h LogEnd k = IsShort bytes × (next_of h.now ≡ 2 ^ 32 - 1) × (k ≡ h)
AnswersAppend bytes h (Refused why) k = IsShort bytes × (next_of h.now < 2 ^ 32 - 1) × (k ≡ h)
AnswersAppend bytes h _ k = ⊥

-- A get is answered with the bytes of the append, or that the log has none of this number, exactly where it hasn't; the log is as it was.
abbrev pub AnswersGet : ℕ → History → LogReply → History → Type 0
AnswersGet number h (Bytes bytes) k = HasNumber h.now number × (slice_get h.now.appends (number - h.now.low) ≡ Some bytes) × (k ≡ h)
AnswersGet number h (NoRecord low next) k = (HasNumber h.now number → ⊥) × (low ≡ h.now.low) × (next ≡ next_of h.now) × (k ≡ h)
AnswersGet number h (Refused why) k = HasNumber h.now number × (k ≡ h)
AnswersGet number h _ k = ⊥

-- The log may begin with these numbers, one after the other: none is lower than the one before or greater than the next append's number, nor
-- greater than the one up to which it is trimmed.
abbrev pub MayBegin : ℕ → Log → List ℕ → Type 0
MayBegin upto l [] = ⊤
MayBegin upto l (low ∷ lows) = (l.low ≤ low) × (low ≤ next_of l) × (low ≤ upto) × MayBegin upto (trimmed low l) lows

-- the history of a log that came to begin with these numbers, one after the other
abbrev pub trimmed_by : List ℕ → History → History
trimmed_by [] h = h
trimmed_by (low ∷ lows) h = trimmed_by lows (trimmed_to low h)

-- The log came to begin with some numbers, one after the other, none of them greater than the one up to which it was trimmed.
pub record IsTrimmedUpto (upto : ℕ) (h k : History) : Type 0 where
  pub lows : List ℕ
  pub may : MayBegin upto h.now lows
  pub is : k ≡ trimmed_by lows h

-- A trim is answered with the number with which the log begins then; where it is refused, the log may have come to begin later too.
abbrev pub AnswersTrim : ℕ → History → LogReply → History → Type 0
AnswersTrim upto h (Low low) k = (low ≡ k.now.low) × IsTrimmedUpto upto h k
AnswersTrim upto h (Refused why) k = IsTrimmedUpto upto h k
AnswersTrim upto h _ k = ⊥

-- A count is answered with the number with which the log begins and that of the next append.
abbrev pub AnswersCount : History → LogReply → History → Type 0
AnswersCount h (Range low next) k = (low ≡ h.now.low) × (next ≡ next_of h.now) × (k ≡ h)
AnswersCount h _ k = ⊥

-- An order is answered with a point, and promises nothing.
abbrev pub AnswersOrder : History → LogReply → History → Type 0
AnswersOrder h (Ordered point) k = k ≡ h
AnswersOrder h (Refused why) k = k ≡ h
AnswersOrder h _ k = ⊥

-- A sync is answered with a point, and the log is on the disk as it is; where it is refused, nothing is promised.
abbrev pub AnswersSync : History → LogReply → History → Type 0
AnswersSync h (Durable point) k = k ≡ synced h
AnswersSync h (Refused why) k = k ≡ h
AnswersSync h _ k = ⊥

-- What isn't understood is answered so.
abbrev pub AnswersBad : History → LogReply → History → Type 0
AnswersBad h NotUnderstood k = k ≡ h
AnswersBad h _ k = ⊥

-- A log with the first history answers the call so, and has the second one then.
abbrev pub AnswersLog : History → LogCall → LogReply → History → Type 0
AnswersLog h (Append bytes) reply k = AnswersAppend bytes h reply k
AnswersLog h (Get number) reply k = AnswersGet number h reply k
AnswersLog h (Trim upto) reply k = AnswersTrim upto h reply k
AnswersLog h Count reply k = AnswersCount h reply k
AnswersLog h Order reply k = AnswersOrder h reply k
AnswersLog h Sync reply k = AnswersSync h reply k
AnswersLog h Bad reply k = AnswersBad h reply k

-- The calls in order, each with its reply, lead from one history of a log to another.
abbrev pub LogRun : History → List LogCall → List LogReply → History → Type 0
LogRun h [] [] k = k ≡ h
LogRun h (call ∷ calls) (reply ∷ replies) k = (mid : History) × AnswersLog h call reply mid × LogRun mid calls replies k
LogRun h _ _ k = ⊥

-- What a call that was answered so makes of the appends of a log, but for where it begins: an append is one more, and a sync keeps all.
abbrev pub after_call : LogCall → LogReply → Appends → Appends
after_call (Append bytes) (Number number) a = one_more bytes a
after_call Sync (Durable point) a = all_kept a
after_call _ _ a = a

-- what calls in order, each with its reply, make of them
abbrev pub after_calls : List LogCall → List LogReply → Appends → Appends
after_calls (call ∷ calls) (reply ∷ replies) a = after_calls calls replies (after_call call reply a)
after_calls _ _ a = a

-- the bytes of an append that was answered with a number
abbrev pub append_of : LogCall → LogReply → List (List ℕ)
append_of (Append bytes) (Number number) = bytes ∷ []
append_of _ _ = []

-- the bytes of all appends that were answered with a number, in order
abbrev pub appends_of : List LogCall → List LogReply → List (List ℕ)
appends_of (call ∷ calls) (reply ∷ replies) = append_of call reply ++ appends_of calls replies
appends_of _ _ = []
