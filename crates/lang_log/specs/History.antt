-- A log over time, and which logs a crash may leave of it.
use Rattle.std.specs.Prelude.{ℕ, List, [], ◌∷◌}
use Rattle.lang_tree.specs.Tree.{Tree}
use Rattle.lang_log.specs.Segments.{IsOneOf}
use Rattle.lang_log.specs.Log.{Log, IsLogOf, trimmed, with_append}

-- the log as it is now, and as it was at each earlier time since the last answered sync
pub record History : Type 0 where
  pub now : Log
  pub before : List Log

-- as it is opened, it is on the disk as it is
abbrev pub opened_with : Log → History
opened_with l = record { now = l; before = [] }

-- it is another log now
abbrev pub became : Log → History → History
became l h = record { now = l; before = h.now ∷ h.before }

-- it has one append more
abbrev pub appended : List ℕ → History → History
appended bytes h = became (with_append bytes h.now) h

-- it begins with a greater number
abbrev pub trimmed_to : ℕ → History → History
trimmed_to low h = became (trimmed low h.now) h

-- it is on the disk as it is
abbrev pub synced : History → History
synced h = opened_with h.now

-- A crash may leave the log as it is, or as it was at some time since the last answered sync.
abbrev pub MayBeLeft : History → Log → Type 0
MayBeLeft h l = IsOneOf l (h.now ∷ h.before)

-- The tree has a log that may be left.
pub record IsLeft (h : History) (t : Tree) : Type 0 where
  pub log : Log
  pub is : IsLogOf t log
  pub may : MayBeLeft h log
