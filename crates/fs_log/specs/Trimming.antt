-- What a trim makes of a log.
use Rattle.std.specs.Prelude.{◌≡◌, ◌≤◌, ℕ, false, List, [], ◌∷◌, ◌++◌}
use Rattle.lang_log.specs.Answers.{MayBegin, trimmed_by}
use Rattle.lang_log.specs.History.{History}
use Rattle.engine_blocks.specs.State.{State}
use Rattle.fs_log.specs.Keeping.{Keeps, TakesLog}
use Rattle.fs_log.specs.Open.{Open, may_go, state_in}

-- Segments went from the front of those that begin with these numbers, each while it might go in a trim to this number: the numbers with which the log came to begin, in turn, and the numbers of the segments that are left.
abbrev pub Went : ℕ → List ℕ → List ℕ → List ℕ → Type 0
Went number firsts [] left = left ≡ firsts
Went number (first ∷ second ∷ firsts) (low ∷ lows) left = (second ≡ low) × (low ≤ number) × Went number (second ∷ firsts) lows left
Went number _ (low ∷ lows) left = ⊥

-- Segments went from the front, and the log came to begin with the first number of each that was left then: none is lower than the one before, greater than the next append's, or greater than the one to which it was trimmed.
pub record TrimsTo {S : Type 0} (state : S → State) (number : ℕ) (old new : Open S) : Type 0 where
  pub lows : List ℕ
  pub went : Went number old.firsts lows new.firsts
  pub may : (h : History) → Keeps h (state_in state old) → MayBegin number h.now lows
  pub takes : TakesLog (trimmed_by lows) (state_in state old) (state_in state new)

-- No other segment may go.
abbrev pub IsTrimmed : {S : Type 0} → ℕ → Open S → Type 0
IsTrimmed number l = may_go number l.firsts ≡ false
