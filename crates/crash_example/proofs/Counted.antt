-- A record that is served keeps within its share of the writes.
use Rattle.std.proofs.Common.{◌≡◌, ◌⊎◌, inl, inr, ⊎_elim, ℕ, ◌+◌, ◌<◌, ◌≤◌, List, [], ◌∷◌, ◌++◌, length, Result, Ok, Err, refl, sym, ◌∙◌, ap, subst, arith, length-append}
use Rattle.disk_contract.specs.declared.event.Event.{Event}
use Rattle.disk_contract.specs.declared.event.Event.TheVariants.{Wrote, Lost, Noticed}
use Rattle.disk_contract.specs.Disk.{writes_in}
use Rattle.crash_argument.specs.Counts.{WriteCounts, AreCounted, AreAtMost, AreWithinSum, MovesOn, share, with_point, with_part, with_home_write, with_header_write}
use Rattle.crash_example.specs.declared.one_record.OneRecord.{OneRecord}
use Rattle.crash_example.specs.declared.one_record.Settling.{Settling}
use Rattle.crash_example.specs.OneRecord.{accepted_in, lost_in, AddsAmidNotices, AddsPrefix, AddsInOrder, writes_of_life, counts_after, KeepsCount}

-- writes are accepted or lost
all_writes : (es : List Event) → writes_in es ≡ length (accepted_in es) + length (lost_in es)
all_writes [] = refl
all_writes (Wrote t b x ∷ es) = omega (arith, all_writes es)
all_writes (Lost b x ∷ es) = omega (arith, all_writes es)
all_writes (Noticed t ∷ es) = all_writes es

-- so many are added
writes_added : (ws ls : List (ℕ × List ℕ)) (old new : List Event) (a : AddsAmidNotices ws ls old new) → writes_in a.more ≡ length ws + length ls
writes_added ws ls old new a = all_writes a.more ∙ ap (λ (l : List (ℕ × List ℕ)). length l + length (lost_in a.more)) a.are_accepted ∙ ap (λ (l : List (ℕ × List ℕ)). length ws + length l) a.are_lost

module _
    (point : (c : WriteCounts) (m n d : ℕ) → c.coming ≡ 0 → AreWithinSum c → AreWithinSum (with_point c m n d))
    (part : (c : WriteCounts) → 0 < c.coming → AreWithinSum c → AreWithinSum (with_part c))
    (home : (c : WriteCounts) (count : ℕ) → 0 < count → count ≤ c.away → AreWithinSum c → AreWithinSum (with_home_write c count))
    (header : (c : WriteCounts) (sure start : ℕ) → MovesOn c sure start → AreWithinSum c → AreWithinSum (with_header_write c sure start))
    (more : (mounted : ℕ) (old more : List Event) (c now : WriteCounts) → mounted ≤ length old → now.writes ≡ c.writes + writes_in more → AreCounted mounted old c → AreCounted mounted (old ++ more) now)
    (within : (mounted : ℕ) (log : List Event) (c : WriteCounts) → AreCounted mounted log c → AreWithinSum c → AreAtMost mounted log c.sum) where
  -- each write of the record, and each that settles it, keeps within the sum
  all_within : (c : WriteCounts) → c.coming ≡ 0 → AreWithinSum c → AreWithinSum (counts_after c)
  all_within c none w =
      let begun = point c 1 1 1 none w in
      let first = part _ (omega arith) begun in
      let second = part _ (omega arith) first in
      let third = part _ (omega arith) second in
      let fourth = part _ (omega arith) third in
      let sure = header _ (c.last + 1) c.start (record { sure_from = omega (arith, w.sure); sure_upto = omega arith; start_from = omega arith; start_upto = omega (arith, w.start); one = inl (omega (arith, w.sure)) }) fourth in
      let placed = home _ 1 (omega arith) (omega arith) sure in
      header _ (c.last + 1) (c.last + 2) (record { sure_from = omega arith; sure_upto = omega arith; start_from = omega (arith, w.start); start_upto = omega arith; one = inr (omega (arith, w.start)) }) placed

  -- so many writes more, with what the record accounts for
  abbrev with_writes : WriteCounts → ℕ → WriteCounts
  with_writes c k = record c { writes = c.writes + k; sum = c.sum + share 1 1 1 }

  -- at most seven are within it
  few_within : (mounted : ℕ) (old new : List Event) (c : WriteCounts) (ws ls : List (ℕ × List ℕ)) → mounted ≤ length old → AreWithinSum c → AreCounted mounted old c → length ws + length ls ≤ 7 → AddsAmidNotices ws ls old new → AreAtMost mounted new (c.sum + share 1 1 1)
  few_within mounted old new c ws ls late w k few a =
      within mounted new (with_writes c (writes_in a.more)) (subst (λ (l : List Event). AreCounted mounted l (with_writes c (writes_in a.more))) (sym a.log) (more mounted old a.more c (with_writes c (writes_in a.more)) late refl k))
      (record { sure = w.sure; start = w.start; bound = omega (arith, w.bound, few, writes_added ws ls old new a) })

  -- whatever comes of the calls
  pub keeps_count : {T E : Type 0} (mounted : ℕ) (c : WriteCounts) (o : OneRecord) (q : Settling) (r : Result T E) (old new : List Event) → mounted ≤ length old → c.coming ≡ 0 → AreWithinSum c → AreCounted mounted old c → AddsInOrder (writes_of_life o q) r old new → KeepsCount mounted c r new
  keeps_count mounted c o q (Ok done) old new late none w k a =
      let counted = subst (λ (l : List Event). AreCounted mounted l (counts_after c)) (sym a.log) (more mounted old a.more c (counts_after c) late (omega (arith, writes_added (writes_of_life o q) [] old new a)) k) in
      (all_within c none w, counted, within mounted new (counts_after c) counted (all_within c none w))
  keeps_count mounted c o q (Err e) old new late none w k a =
      ⊎_elim (λ p. few_within mounted old new c a.front [] late w k (omega (arith, split)) p) (λ p. few_within mounted old new c a.front (p.0 ∷ []) late w k (omega (arith, split, ap (λ (l : List (ℕ × List ℕ)). length l) p.2)) p.3) a.ends
    where
      split : 7 ≡ length a.front + length a.rest
      split = ap (λ (l : List (ℕ × List ℕ)). length l) a.split ∙ length-append a.front a.rest
