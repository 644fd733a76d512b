-- What a crash at a moment leaves of a log, by the numbers of its appends: those of the calls that were answered and begun by then.
use Rattle.std.specs.Prelude.{ℕ, suc, max, nat_le, if◌then◌else◌, List, [], ◌∷◌, take}
use Rattle.base_types.specs.Seal.{Blocks}
use Rattle.lang_tree.specs.Tree.{Tree}
use Rattle.lang_log.specs.declared.call.LogCall.{LogCall}
use Rattle.lang_log.specs.declared.call.LogCall.TheVariants.{Trim}
use Rattle.lang_log.specs.declared.call.LogReply.{LogReply}
use Rattle.lang_log.specs.declared.call.LogReply.TheVariants.{Low, Refused}
use Rattle.lang_log.specs.Answers.{after_calls}
use Rattle.lang_log.specs.Log.{IsLogOf, Log}
use Rattle.lang_log.specs.Runs.{Appends, IsRunOf, found_in}
use Rattle.crash_stands.specs.Stands.{StandsFor}

-- how many calls were answered by the moment, where these are the marks of their replies, in order
abbrev pub answered_by : ℕ → List ℕ → ℕ
answered_by moment [] = 0
answered_by moment (mark ∷ marks) = if nat_le mark moment then suc (answered_by moment marks) else 0

-- The number with which a log begins at most, behind a call that was answered so: a trim that was refused may have gone as far as it was to go.
abbrev pub low_after : LogCall → LogReply → ℕ → ℕ
low_after (Trim upto) (Low number) low = number
low_after (Trim upto) (Refused why) low = max low upto
low_after _ _ low = low

-- and behind calls in order, each with its reply
abbrev pub low_after_all : List LogCall → List LogReply → ℕ → ℕ
low_after_all (call ∷ calls) (reply ∷ replies) low = low_after_all calls replies (low_after call reply low)
low_after_all _ _ low = low

-- The appends of a log by a moment, where i calls are answered by then: those of these calls and of the next one, which may have begun; and all are kept that were there at the last sync among the i.
abbrev pub appends_by : Log → List LogCall → List LogReply → ℕ → Appends
appends_by opened calls replies i = record (after_calls (take (suc i) calls) (take (suc i) replies) (found_in opened)) {
  low = low_after_all (take (suc i) calls) (take (suc i) replies) opened.low;
  kept = (after_calls (take i calls) (take i replies) (found_in opened)).kept;
}

-- The image of a disk of n blocks stands for a tree with a log that is a run of these appends: each under its number and with its bytes, none left out between two of them, and all that are kept and aren't trimmed.
pub record StandsForRun (n : ℕ) (img : Blocks) (a : Appends) : Type 0 where
  pub tree : Tree
  pub stands : StandsFor n img tree
  pub log : Log
  pub is : IsLogOf tree log
  pub run : IsRunOf a log
