-- The sum stays within its bound at each kind of write.
use Rattle.std.proofs.Common.{◌≡◌, ◌⊎◌, inl, inr, ⊎_elim, ℕ, ◌+◌, ◌<◌, ◌≤◌, List, [], ◌∷◌, ◌++◌, length, take, drop, Option, Some, None, Result, Ok, Err, refl, sym, ◌∙◌, ap, arith, length-take, take-append-drop}
use Rattle.std.proofs.lemmas.List.{drop_all, drop-append-le}
use Rattle.disk_contract.specs.declared.event.Event.{Event}
use Rattle.disk_contract.specs.declared.event.Event.TheVariants.{Wrote, Lost, Noticed}
use Rattle.disk_contract.specs.Cell.{notices}
use Rattle.disk_contract.specs.Disk.{AddsWrite, AddsPoll, AddsNotices, writes_in}
pub use Rattle.disk_contract.specs.Logs.{writes_in-append as writes_behind}
use Rattle.crash_argument.specs.Counts.{WriteCounts, AreCounted, AreAtMost, AreWithinSum, counts_at_mount, with_point, with_part, with_home_write, without_payloads, with_header_write, MovesOn}

pub counts_begin : (last : ℕ) → AreWithinSum (counts_at_mount last)
counts_begin last = record { sure = omega arith; start = omega arith; bound = omega arith }

pub counts_point : (c : WriteCounts) (m n d : ℕ) → c.coming ≡ 0 → AreWithinSum c → AreWithinSum (with_point c m n d)
counts_point c m n d none w = record { sure = omega (arith, w.sure); start = omega (arith, w.start); bound = omega (arith, w.sure, w.start, w.bound, none) }

pub counts_part : (c : WriteCounts) → 0 < c.coming → AreWithinSum c → AreWithinSum (with_part c)
counts_part c some w = record { sure = w.sure; start = w.start; bound = omega (arith, w.bound, some) }

pub counts_home : (c : WriteCounts) (count : ℕ) → 0 < count → count ≤ c.away → AreWithinSum c → AreWithinSum (with_home_write c count)
counts_home c count some le w = record { sure = w.sure; start = w.start; bound = omega (arith, w.bound, some, le) }

pub counts_fewer : (c : WriteCounts) (count : ℕ) → AreWithinSum c → AreWithinSum (without_payloads c count)
counts_fewer c count w = record { sure = w.sure; start = w.start; bound = omega (arith, w.bound) }

pub counts_header : (c : WriteCounts) (sure start : ℕ) → MovesOn c sure start → AreWithinSum c → AreWithinSum (with_header_write c sure start)
counts_header c sure start on w = record { sure = on.sure_upto; start = on.start_upto; bound = ⊎_elim (λ lt. omega (arith, lt, on.sure_from, on.sure_upto, on.start_from, on.start_upto, w.bound, w.sure, w.start)) (λ lt. omega (arith, lt, on.sure_from, on.sure_upto, on.start_from, on.start_upto, w.bound, w.sure, w.start)) on.one }

no_writes : (ts : List ℕ) → writes_in (notices ts) ≡ 0
no_writes [] = refl
no_writes (t ∷ ts) = no_writes ts

pub one_write : {E : Type 0} (b : ℕ) (x : List ℕ) (r : Result ℕ E) (old new : List Event) → AddsWrite b x r old new → writes_in new ≤ writes_in old + 1
one_write b x (Ok t) old new a = omega (arith, ap writes_in a.2, writes_behind old (Wrote t b x ∷ []))
one_write b x (Err e) old new a = ⊎_elim (λ same. omega (arith, ap writes_in same)) (λ lost. omega (arith, ap writes_in lost, writes_behind old (Lost b x ∷ []))) a

pub no_write_polled : {E : Type 0} (r : Result (Option ℕ) E) (old new : List Event) → AddsPoll r old new → writes_in new ≡ writes_in old
no_write_polled (Ok (Some t)) old new a = omega (arith, ap writes_in a.1, writes_behind old (Noticed t ∷ []))
no_write_polled (Ok None) old new a = ap writes_in a
no_write_polled (Err e) old new a = ap writes_in a

pub no_write_waited : (old new : List Event) → AddsNotices old new → writes_in new ≡ writes_in old
no_write_waited old new a = omega (arith, ap writes_in a.log, writes_behind old (notices a.tickets), no_writes a.tickets)

-- the counts begin with those of the log
pub counted_at_first : (log : List Event) (last : ℕ) → AreCounted (length log) log (counts_at_mount last)
counted_at_first log last = sym (ap writes_in (drop_all (length log) log (omega arith)))

-- the writes since the mount, of a log that goes on
since : (mounted : ℕ) (log more : List Event) → mounted ≤ length log → writes_in (drop mounted (log ++ more)) ≡ writes_in (drop mounted log) + writes_in more
since mounted log more late = ap writes_in (drop-append-le mounted log more late) ∙ writes_behind (drop mounted log) more

-- so they go on
pub counted_on : (mounted : ℕ) (old new more : List Event) (c now : WriteCounts) → mounted ≤ length old → new ≡ old ++ more → now.writes ≡ c.writes + writes_in more → AreCounted mounted old c → AreCounted mounted new now
counted_on mounted old new more c now late is count k = omega (arith, count, k, ap (λ (l : List Event). writes_in (drop mounted l)) is, since mounted old more late)

pub counted_accepted : (mounted b t : ℕ) (x : List ℕ) (old new : List Event) (c now : WriteCounts) → mounted ≤ length old → new ≡ old ++ Wrote t b x ∷ [] → now.writes ≡ c.writes + 1 → AreCounted mounted old c → AreCounted mounted new now
counted_accepted mounted b t x old new c now late is count k = counted_on mounted old new (Wrote t b x ∷ []) c now late is count k

-- no event more
counted_still : (mounted : ℕ) (old new : List Event) (c : WriteCounts) → new ≡ old → AreCounted mounted old c → AreCounted mounted new c
counted_still mounted old new c is k = k ∙ sym (ap (λ (l : List Event). writes_in (drop mounted l)) is)

pub counted_failed : (mounted b : ℕ) (x : List ℕ) (old new : List Event) (c now : WriteCounts) → mounted ≤ length old → (new ≡ old) ⊎ (new ≡ old ++ Lost b x ∷ []) → now.writes ≡ c.writes + 1 → AreCounted mounted old c → AreCounted mounted new c ⊎ AreCounted mounted new now
counted_failed mounted b x old new c now late adds count k = ⊎_elim (λ same. inl (counted_still mounted old new c same k)) (λ lost. inr (counted_on mounted old new (Lost b x ∷ []) c now late lost count k)) adds

pub counted_polled : {E : Type 0} (mounted : ℕ) (r : Result (Option ℕ) E) (old new : List Event) (c : WriteCounts) → mounted ≤ length old → AddsPoll r old new → AreCounted mounted old c → AreCounted mounted new c
counted_polled mounted (Ok (Some t)) old new c late a k = counted_on mounted old new (Noticed t ∷ []) c c late a.1 (omega arith) k
counted_polled mounted (Ok None) old new c late a k = counted_still mounted old new c a k
counted_polled mounted (Err e) old new c late a k = counted_still mounted old new c a k

pub counted_waited : (mounted : ℕ) (old new : List Event) (c : WriteCounts) → mounted ≤ length old → AddsNotices old new → AreCounted mounted old c → AreCounted mounted new c
counted_waited mounted old new c late a k = counted_on mounted old new (notices a.tickets) c c late a.log (omega (arith, no_writes a.tickets)) k

-- at an earlier moment there were no more
pub counted_within : (mounted : ℕ) (log : List Event) (c : WriteCounts) → AreCounted mounted log c → AreWithinSum c → AreAtMost mounted log c.sum
counted_within mounted log c k w = record {
  each = λ i from upto. omega (arith, k, w.bound, ap (λ (l : List Event). writes_in (drop mounted l)) (sym (take-append-drop i log)), since mounted (take i log) (drop i log) (omega (arith, from, upto, length-take i log)));
}
