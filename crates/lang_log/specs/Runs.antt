-- What a crash leaves of a log, by the numbers of its appends.
use Rattle.std.specs.Prelude.{◌≡◌, ℕ, ◌+◌, ◌-◌, ◌≤◌, List, [], ◌∷◌, ◌++◌, length, take, drop}
use Rattle.lang_log.specs.Log.{Log, next_of}
use Rattle.lang_log.specs.History.{History, MayBeLeft}

-- The appends of a log since it was opened: the number of the first one that it had then; the bytes of each from there on, those that
-- were answered since among them; the number with which the log begins now, the greatest so far; and the number below which all was there
-- at the last answered sync.
pub record Appends : Type 0 where
  pub first : ℕ
  pub appends : List (List ℕ)
  pub low : ℕ
  pub kept : ℕ

-- the number that the next append will have
abbrev pub count : Appends → ℕ
count a = a.first + length a.appends

-- the log as it is now
abbrev pub log_now : Appends → Log
log_now a = record { low = a.low; appends = drop (a.low - a.first) a.appends }

-- those that a log has as it is opened, which are all on the disk
abbrev pub found_in : Log → Appends
found_in l = record { first = l.low; appends = l.appends; low = l.low; kept = next_of l }

-- one more was answered
abbrev pub one_more : List ℕ → Appends → Appends
one_more bytes a = record a { appends = a.appends ++ bytes ∷ [] }

-- the log begins with this number now
abbrev pub from_low : ℕ → Appends → Appends
from_low low a = record a { low = low }

-- a sync was answered
abbrev pub all_kept : Appends → Appends
all_kept a = record a { kept = count a }

-- The log begins at the first append or behind it, and keeps none that wasn't answered.
pub record AreLawful (a : Appends) : Type 0 where
  pub from : a.first ≤ a.low
  pub upto : a.low ≤ count a
  pub kept : a.kept ≤ count a

-- The log is a run of the appends, each under its number and with its bytes, and none is left out between two of them. It has each one that
-- was there at the last answered sync and isn't trimmed, and none that wasn't answered.
pub record IsRunOf (a : Appends) (l : Log) : Type 0 where
  pub from : a.first ≤ l.low
  pub low : l.low ≤ a.low
  pub kept : a.kept ≤ next_of l
  pub upto : next_of l ≤ count a
  pub appends : l.appends ≡ take (length l.appends) (drop (l.low - a.first) a.appends)

-- These are the appends of a log over time: it is theirs now, and all that a crash may leave are runs of them.
pub record AreOf (h : History) (a : Appends) : Type 0 where
  pub lawful : AreLawful a
  pub now : h.now ≡ log_now a
  pub runs : (l : Log) → MayBeLeft h l → IsRunOf a l
