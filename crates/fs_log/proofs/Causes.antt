-- Why calls of a log are refused: the last command that was asked, and what is known of its reason.
use Rattle.std.proofs.Common.{◌≡◌, ◌⊎◌, inl, inr, ⊎_elim, ◌≤◌, Bool, IsTrue, Result, Ok, Err, refl, sym, ◌∙◌, subst, arith}
use Rattle.std.specs.Prelude.{IfErr, IsErrAnd, OnErr}
use Rattle.std.proofs.lemmas.Bool.{false≢true}
use Rattle.lang_tree.specs.declared.command.Cmd.{Cmd}
use Rattle.lang_tree.specs.declared.command.Cmd.TheVariants.{Osync}
use Rattle.lang_tree.specs.declared.command.Refusal.TheVariants.{NoMemory}
use Rattle.lang_tree.specs.declared.command.Reply.{Reply}
use Rattle.lang_tree.specs.declared.command.Reply.TheVariants.{Ok as Done, Bytes, Stat, Names, Synced, DurableAt, Known, Bad, Refused}
use Rattle.engine_blocks.specs.Crashes.{Advances}
use Rattle.engine_blocks.specs.State.{State}
use Rattle.fs_log.specs.declared.refusal.LogRefusal.{LogRefusal}
use Rattle.fs_log.specs.declared.refusal.LogRefusal.TheVariants.{BadLog, TooLong, LogEnd, NoRecord, Fs as FsRefused}
use Rattle.fs_log.specs.Asked.{Changed, IsAnswered, IsLate, TriedFirst}
use Rattle.fs_log.specs.Causes.{HasAsked, HasCallCause, WasAnswered}
use Rattle.fs_log.specs.Refusals.{is_of_none, refusal_for}
use Rattle.fs_log.proofs.Ways.{asks_later, asks_one, asks_so, ends_later, ends_so, ends_with}

-- a reason of a failed call gives another one
pub if_err_not : {T E : Type 0} (r : Result T E) (P Q : E → Type 0) (N : Type 0) → IfErr r P → OnErr r N → ((why : E) → P why → N → Q why) → IfErr r Q
if_err_not (Ok x) P Q N p n so = tt
if_err_not (Err why) P Q N p n so = so why p n

-- what holds of a reason holds where it is passed on
pub passed_on : {T E : Type 0} (r : Result T E) (why : E) (P : E → Type 0) → IsErrAnd r (λ w. w ≡ why) → P why → IfErr r P
passed_on (Ok x) why P is p = tt
passed_on (Err w) why P is p = subst P (sym is) p

-- where no reason of the log's own comes, each that comes is one of others
pub no_own : (more : LogRefusal → Bool) (why : LogRefusal) → IsTrue (is_of_none why) → IsTrue (more why)
no_own more why own = absurd (false≢true own)

-- one of these commands is one of those
pub was_so : {S : Type 0} (tells : Bool) (state : S → State) (cmds others : Cmd → Type 0) (reply : Reply) (old new : S) → ((c : Cmd) → cmds c → others c) → WasAnswered tells state cmds reply old new → WasAnswered tells state others reply old new
was_so tells state cmds others reply old new widens w = record { cmd = w.cmd; is = widens w.cmd w.is; before = w.before; answered = w.answered; begins = w.begins; session = w.session; way = λ told. ends_so tells state cmds others reply old new widens (w.way told) }

-- all that was asked, with the last command
pub asked_with : {S : Type 0} (tells : Bool) (state : S → State) (cmds : Cmd → Type 0) (reply : Reply) (old new : S) → WasAnswered tells state cmds reply old new → HasAsked tells state cmds old new
asked_with tells state cmds reply old new w told = (w.way told).way

module _ {S : Type 0} (tells : Bool) (state : S → State)
    (both : (old mid new : S) → Advances (state old) (state mid) → Advances (state mid) (state new) → Advances (state old) (state new))
    (now : IsTrue tells → (s : S) → Advances (state s) (state s)) where
  -- the one command that was asked
  pub was_asked : (cmds : Cmd → Type 0) (cmd : Cmd) (reply : Reply) (old new : S) → cmds cmd → IsAnswered tells state cmd reply old new → WasAnswered tells state cmds reply old new
  was_asked cmds cmd reply old new is x = record { cmd = cmd; is = is; before = old; answered = x.applies; begins = λ told. now told old; session = x.session; way = λ told. ends_with tells state cmds cmd reply old new is x.applies }

  -- the last one, where time went on before
  pub was_later : (cmds : Cmd → Type 0) (reply : Reply) (old mid new : S) → (IsTrue tells → Advances (state old) (state mid)) → HasAsked tells state cmds old mid → WasAnswered tells state cmds reply mid new → WasAnswered tells state cmds reply old new
  was_later cmds reply old mid new time asked w = record { cmd = w.cmd; is = w.is; before = w.before; answered = w.answered; begins = λ told. both old mid w.before (time told) (w.begins told); session = w.session; way = λ told. ends_later tells state cmds reply old mid new (asked told) (w.way told) }

  -- time goes on over a command
  pub time_of : (cmd : Cmd) (reply : Reply) (old new : S) → IsAnswered tells state cmd reply old new → IsTrue tells → Advances (state old) (state new)
  time_of cmd reply old new x told = let f = x.session told in (x.asked told f.0 f.1).time

  tried_time : (cmd : Cmd) (other : Reply) (old end : S) → TriedFirst tells state cmd other old end → IsTrue tells → Advances (state old) (state end)
  tried_time cmd other old end t told = both old t.mid end (time_of cmd t.first old t.mid t.tried told) (time_of Osync other t.mid end t.ordered told)

  -- what was tried first
  abbrev Tries : Cmd → Cmd → Type 0
  Tries cmd c = (c ≡ cmd) ⊎ (c ≡ Osync)

  tried_asked : (cmd : Cmd) (other : Reply) (old end : S) → TriedFirst tells state cmd other old end → HasAsked tells state (Tries cmd) old end
  tried_asked cmd other old end t told = asks_later tells state (Tries cmd) old t.mid end (asks_one tells state (Tries cmd) cmd t.first old t.mid (inl (inl refl)) t.tried.applies) (asks_one tells state (Tries cmd) Osync other t.mid end (inl (inr refl)) t.ordered.applies)

  pub changed_was : (cmd : Cmd) (reply : Reply) (old new : S) → Changed tells state cmd reply old new → WasAnswered tells state (λ c. (c ≡ cmd) ⊎ (c ≡ Osync)) reply old new
  changed_was cmd reply old new (inl (fit, x)) = was_asked (Tries cmd) cmd reply old new (inl refl) x
  changed_was cmd reply old new (inr (inl (other, end, made, t, x))) =
      was_later (Tries cmd) reply old end new (tried_time cmd other old end t) (tried_asked cmd other old end t) (was_asked (Tries cmd) cmd reply end new (inl refl) x)
  changed_was cmd reply old new (inr (inr (none, t))) =
      was_later (Tries cmd) reply old t.mid new (time_of cmd t.first old t.mid t.tried) (λ told. asks_one tells state (Tries cmd) cmd t.first old t.mid (inl (inl refl)) t.tried.applies) (was_asked (Tries cmd) Osync reply t.mid new (inr refl) t.ordered)

  pub changed_time : (cmd : Cmd) (reply : Reply) (old new : S) → Changed tells state cmd reply old new → IsTrue tells → Advances (state old) (state new)
  changed_time cmd reply old new (inl (fit, x)) told = time_of cmd reply old new x told
  changed_time cmd reply old new (inr (inl (other, end, made, t, x))) told = both old end new (tried_time cmd other old end t told) (time_of cmd reply end new x told)
  changed_time cmd reply old new (inr (inr (none, t))) told = tried_time cmd reply old new t told

  -- a cause over a part of the call is one of the whole
  pub cause_later : (own more : LogRefusal → Bool) (cmds others : Cmd → Type 0) (why : LogRefusal) (old mid new : S) → ((w : LogRefusal) → IsTrue (own w) → IsTrue (more w)) → ((c : Cmd) → cmds c → others c)
      → (IsTrue tells → Advances (state old) (state mid)) → HasAsked tells state others old mid → HasCallCause tells state own cmds why mid new → HasCallCause tells state more others why old new
  cause_later own more cmds others why old mid new wider widens time asked cause = by why cause
    where
      was : (reply : Reply) → WasAnswered tells state cmds reply mid new → WasAnswered tells state others reply old new
      was reply w = was_later others reply old mid new time asked (was_so tells state cmds others reply mid new widens w)

      all : HasAsked tells state cmds mid new → HasAsked tells state others old new
      all later told = asks_later tells state others old mid new (asked told) (asks_so tells state cmds others mid new widens (later told))

      by : (why : LogRefusal) → HasCallCause tells state own cmds why mid new → HasCallCause tells state more others why old new
      by (FsRefused r) c = record { cause = ⊎_elim (λ none. inl (none.0, all none.1)) (λ w. inr (was (Refused r) w)) c.cause; late = c.late; fits = c.fits }
      by BadLog c = (c.0, (c.1.0, c.1.1, was c.1.0 c.1.2))
      by TooLong c = (wider TooLong c.0, all c.1)
      by LogEnd c = (wider LogEnd c.0, all c.1)
      by (NoRecord low next) c = (wider (NoRecord low next) c.0, all c.1)

module _ {S : Type 0} (tells : Bool) (state : S → State) (own : LogRefusal → Bool) (cmds : Cmd → Type 0) (old new : S) where
  -- of a command that wasn't answered as it was asked for
  pub caused : (reply : Reply) → WasAnswered tells state cmds reply old new → (IsTrue tells → IsLate reply) → HasCallCause tells state own cmds (refusal_for reply) old new
  caused (Refused why) was late = record { cause = inr was; late = λ told. (late told).0; fits = λ told. (late told).1 }
  caused Done was late = (late, (Done, refl, was))
  caused (Bytes bytes) was late = (late, (Bytes bytes, refl, was))
  caused (Stat stat) was late = (late, (Stat stat, refl, was))
  caused (Names names) was late = (late, (Names names, refl, was))
  caused (Synced point) was late = (late, (Synced point, refl, was))
  caused (DurableAt point) was late = (late, (DurableAt point, refl, was))
  caused (Known point) was late = (late, (Known point, refl, was))
  caused Bad was late = (late, (Bad, refl, was))

  -- of the log's own want of memory
  pub lacking : HasAsked tells state cmds old new → HasCallCause tells state own cmds (FsRefused NoMemory) old new
  lacking asked = record { cause = inl (refl, asked); late = λ told. (omega arith, omega arith); fits = λ told. refl }
