-- Which refusals a log gives of its own.
use Rattle.std.specs.Prelude.{◌≡◌, ℕ, ⊤, Bool, true, false, Result, Err}
use Rattle.lang_tree.specs.declared.command.Reply.{Reply}
use Rattle.lang_tree.specs.declared.command.Reply.TheVariants.{Refused}
use Rattle.fs_log.specs.declared.refusal.LogRefusal.{LogRefusal}
use Rattle.fs_log.specs.declared.refusal.LogRefusal.TheVariants.{BadLog, TooLong, LogEnd, NoRecord, Fs as FsRefused}

-- whether the refusal is about an append or its number, not about what lies in the file system
abbrev pub is_own : LogRefusal → Bool
is_own TooLong = true
is_own LogEnd = true
is_own (NoRecord low next) = true
is_own _ = false

-- the reasons of its own for which an append is refused, those of a look, and none
abbrev pub is_of_append : LogRefusal → Bool
is_of_append TooLong = true
is_of_append LogEnd = true
is_of_append _ = false

abbrev pub is_of_look : LogRefusal → Bool
is_of_look (NoRecord low next) = true
is_of_look _ = false

abbrev pub is_of_none : LogRefusal → Bool
is_of_none _ = false

-- the refusal of a call whose command was answered otherwise than it asked for
abbrev pub refusal_for : Reply → LogRefusal
refusal_for (Refused why) = FsRefused why
refusal_for _ = BadLog

-- a refusal for an append that isn't there tells these numbers
abbrev pub IsOfRange : ℕ → ℕ → LogRefusal → Type 0
IsOfRange low next (NoRecord first behind) = (first ≡ low) × (behind ≡ next)
IsOfRange low next _ = ⊤

module _ {T : Type 0} where
  -- whether the append has more bytes than one may have
  abbrev pub is_too_long : Result T LogRefusal → Bool
  is_too_long (Err TooLong) = true
  is_too_long _ = false

  -- whether the numbers are used up
  abbrev pub is_log_end : Result T LogRefusal → Bool
  is_log_end (Err LogEnd) = true
  is_log_end _ = false

  -- whether the log has no such append
  abbrev pub is_no_record : Result T LogRefusal → Bool
  is_no_record (Err (NoRecord low next)) = true
  is_no_record _ = false
