-- How many writes a record has, and what they add to a log's count.
use Rattle.std.proofs.Common.{◌≡◌, ℕ, ◌+◌, ◌≤◌, List, [], ◌∷◌, ◌++◌, length, ap, arith, length-append}
use Rattle.std.proofs.lemmas.Bool.Decides.{nat_tests}
use Rattle.std.proofs.lemmas.List.{length-map}
use Rattle.disk_contract.specs.declared.event.Event.{Event}
use Rattle.disk_contract.specs.declared.event.Event.TheVariants.{Wrote, Lost, Noticed}
use Rattle.layout_geometry.specs.Geometry.{Geometry}
use Rattle.layout_journal.specs.Layout.{descriptor_count}
use Rattle.disk_contract.specs.Disk.{writes_in}
use Rattle.engine_running.specs.declared.put.Put.{Put}
use Rattle.crash_argument.specs.Writes.{AddsWrites, AddsFront}
use Rattle.engine_running.specs.Writes.{record_writes}
use Rattle.engine_running.proofs.logs.Logs.{length_ring_writes}
use Rattle.engine_running.proofs.spelling.Spelled.{length_descriptor_blocks, entries_length}

-- n fresh blocks, d descriptors, m payloads, and the commit block
pub record_size : (g : Geometry) (epoch number place : ℕ) (paid laid : List Put) → length (record_writes g epoch number place paid laid) ≡ length laid + descriptor_count (length paid + length laid) + length paid + 1
record_size g epoch number place paid laid = grind (arith, nat_tests, length-append, length-map, length_ring_writes, length_descriptor_blocks, entries_length)

writes_more : (log : List Event) (t b : ℕ) (x : List ℕ) → writes_in (log ++ Wrote t b x ∷ []) ≡ writes_in log + 1
writes_more [] t b x = omega arith
writes_more (Wrote u c y ∷ log) t b x = omega (arith, writes_more log t b x)
writes_more (Lost c y ∷ log) t b x = omega (arith, writes_more log t b x)
writes_more (Noticed u ∷ log) t b x = writes_more log t b x

lost_more : (log : List Event) (b : ℕ) (x : List ℕ) → writes_in (log ++ Lost b x ∷ []) ≡ writes_in log + 1
lost_more [] b x = omega arith
lost_more (Wrote u c y ∷ log) b x = omega (arith, lost_more log b x)
lost_more (Lost c y ∷ log) b x = omega (arith, lost_more log b x)
lost_more (Noticed u ∷ log) b x = lost_more log b x

-- all of some writes add so many
pub all_counted : (ws : List (ℕ × List ℕ)) (ts : List ℕ) (old new : List Event) → AddsWrites ws ts old new → writes_in new ≡ writes_in old + length ws
all_counted [] [] old new a = omega (arith, ap writes_in a)
all_counted [] (t ∷ ts) old new a = absurd a
all_counted (w ∷ ws) [] old new a = absurd a
all_counted (w ∷ ws) (t ∷ ts) old new a = omega (arith, all_counted ws ts (old ++ Wrote t w.0 w.1 ∷ []) new a.2, writes_more old t w.0 w.1)

-- and a front of them no more
pub front_counted : (ws : List (ℕ × List ℕ)) (old new : List Event) → AddsFront ws old new → writes_in new ≤ writes_in old + length ws
front_counted ws old new f = grind (arith, nat_tests, all_counted, length-append, lost_more)
