-- A statement on all images of all moments since one: how it begins, and how it goes on while a block is written and waited for.
use Rattle.std.proofs.Common.{◌≡◌, ⊎_elim, ℕ, ◌≤◌, List, [], ◌∷◌, ◌++◌, length, Err, sym, ◌∙◌, ap, subst, arith, append-nil, append_assoc, length-append}
use Rattle.std.proofs.lemmas.List.{take-append-le, take_all}
use Rattle.std.proofs.lemmas.Bool.{cases_lt}
use Rattle.base_types.specs.Seal.{Blocks}
use Rattle.disk_contract.specs.declared.event.Event.{Event}
use Rattle.disk_contract.specs.declared.event.Event.TheVariants.{Wrote, Lost, Noticed}
use Rattle.disk_contract.specs.declared.disk.DiskFault.{DiskFault}
use Rattle.disk_contract.specs.Cell.{notices}
use Rattle.disk_contract.specs.Crash.{IsHonest, Window}
use Rattle.disk_contract.specs.Disk.{AddsWrite}
use Rattle.crash_argument.specs.Opening.{AddsWaited}
use Rattle.crash_argument.proofs.log.Adds.{Adds, adds_wrote, adds_lost}

-- a statement on each moment begins with the images of now
pub window_begins : (n : ℕ) (base : Blocks) (log : List Event) (P : Blocks → Type 0) → ((img : Blocks) → IsHonest n base log img → P img) → Window n base log (length log) P
window_begins n base log P now = record { each = λ k img from upto honest. now img (subst (λ (l : List Event). IsHonest n base l img) (take_all k log from) honest) }

-- and goes on with those after one more event
pub window_goes_on : (n : ℕ) (base : Blocks) (log : List Event) (e : Event) (t : ℕ) (P : Blocks → Type 0) → Window n base log t P → ((img : Blocks) → IsHonest n base (log ++ e ∷ []) img → P img) → Window n base (log ++ e ∷ []) t P
window_goes_on n base log e t P w now = record {
  each = λ k img from upto honest. ⊎_elim (λ late. now img (subst (λ (l : List Event). IsHonest n base l img) (take_all k (log ++ e ∷ []) (omega (arith, late, length-append log (e ∷ [])))) honest))
      (λ early. w.each k img from early (subst (λ (l : List Event). IsHonest n base l img) (take-append-le k log (e ∷ []) early) honest))
      (cases_lt (length log) k);
}

-- The moments of writing bytes to a block and waiting for them, where what is the case then, by the log, makes each honest image be of some kind.
module _ (n : ℕ) (base : Blocks) (block : ℕ) (x : List ℕ) (Being : List Event → Type 0) (Holds : Blocks → Type 0) (now : (later : List Event) (img : Blocks) → Being later → IsHonest n base later img → Holds img)
    (with_write : (log new : List Event) → Adds base log new block x → Being log → Being new) (with_notice : (log : List Event) (t : ℕ) → Being log → Being (log ++ Noticed t ∷ [])) where
  -- each moment since then
  record AreMoments (start later : List Event) : Type 0 where
    pub being : Being later
    pub window : Window n base later (length start) Holds

  -- so they begin
  begins : (log : List Event) → Being log → AreMoments log log
  begins log o = record { being = o; window = window_begins n base log Holds (λ img honest. now log img o honest) }

  -- they go on with one more event
  goes_on : (start later : List Event) (e : Event) → AreMoments start later → Being (later ++ e ∷ []) → AreMoments start (later ++ e ∷ [])
  goes_on start later e m o = record { being = o; window = window_goes_on n base later e (length start) Holds m.window (λ img honest. now (later ++ e ∷ []) img o honest) }

  -- and with notices
  noticed : (start later : List Event) (ts : List ℕ) → AreMoments start later → AreMoments start (later ++ notices ts)
  noticed start later [] m = subst (AreMoments start) (sym (append-nil later)) m
  noticed start later (t ∷ ts) m = subst (AreMoments start) (append_assoc later (Noticed t ∷ []) (notices ts)) (noticed start (later ++ Noticed t ∷ []) ts (goes_on start later (Noticed t) m (with_notice later t m.being)))

  -- after the write and the wait
  pub moments_waited : (log new : List Event) → Being log → AddsWaited block x log new → Being new × Window n base new (length log) Holds
  moments_waited log new o w =
      let wrote = goes_on log log (Wrote w.ticket block x) (begins log o) (with_write log _ (adds_wrote base log w.ticket block x) o) in
      let all = subst (AreMoments log) (sym w.waited.log) (noticed log (log ++ Wrote w.ticket block x ∷ []) w.waited.tickets wrote) in
      (all.being, all.window)

  -- and after a write that failed
  pub moments_failed : (log new : List Event) (y : List ℕ) (e : DiskFault) → y ≡ x → Being log → AddsWrite block y (Err e) log new → Being new × Window n base new (length log) Holds
  moments_failed log new y e same o adds =
      let lost = goes_on log log (Lost block x) (begins log o) (with_write log _ (adds_lost base log block x) o) in
      let all = ⊎_elim (λ none. subst (AreMoments log) (sym none) (begins log o)) (λ is. subst (AreMoments log) (sym (is ∙ ap (λ z. log ++ Lost block z ∷ []) same)) lost) adds in
      (all.being, all.window)
