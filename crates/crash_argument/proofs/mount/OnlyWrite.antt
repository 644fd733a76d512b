-- A call that writes one block and waits for it.
use Rattle.std.proofs.Common.{◌≡◌, inl, inr, ⊎_elim, ℕ, true, List, [], ◌∷◌, ◌++◌, Result, Ok, Err, IsErr, sym, ◌∙◌, ap, append_assoc}
use Rattle.std.proofs.lemmas.Bool.{false≢true}
use Rattle.disk_contract.specs.declared.event.Event.{Event}
use Rattle.disk_contract.specs.declared.event.Event.TheVariants.{Wrote}
use Rattle.disk_contract.specs.Cell.{notices}
use Rattle.disk_contract.specs.Manner.{Manner}
use Rattle.disk_contract.specs.Disk.{AddsWrite, AddsNotices}
use Rattle.crash_argument.specs.Opening.{WritesOne, WritesOnce}

-- the write was accepted, and a wait came behind it
pub one_written : (E : Type 0) (b t : ℕ) (x : List ℕ) (old mid new : List Event) → AddsWrite {E = E} b x (Ok t) old mid → AddsNotices mid new → WritesOne old new
one_written E b t x old mid new write wait = record {
  ticket = t;
  block = b;
  bytes = x;
  noticed = wait.tickets;
  log = wait.log ∙ (ap (λ (l : List Event). l ++ notices wait.tickets) write.2 ∙ append_assoc old (Wrote t b x ∷ []) (notices wait.tickets));
}

-- it failed at the write
pub stopped_writing : {T E F : Type 0} (m : Manner) (r : Result T F) (b : ℕ) (x : List ℕ) (old new : List Event) (e : E) → IsErr r → AddsWrite b x (Err e) old new → WritesOnce m r old new
stopped_writing m (Ok done) b x old new e is adds = absurd (false≢true is)
stopped_writing m (Err f) b x old new e is adds = ⊎_elim inl (λ lost. inr (inl (record { block = b; bytes = x; log = lost }))) adds

-- or at the wait
pub stopped_waiting : {T E : Type 0} (m n : Manner) (r : Result T E) (old new : List Event) → IsErr r → WritesOne old new → n ≡ m → n.stalls ≡ true → WritesOnce m r old new
stopped_waiting m n (Ok done) old new is one same stalls = absurd (false≢true is)
stopped_waiting m n (Err f) old new is one same stalls = inr (inr (one, sym (ap (λ (k : Manner). k.stalls) same) ∙ stalls))
