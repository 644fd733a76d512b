-- A record that is written next goes to idle blocks, each of its own: so one write a block stays pending.
use Rattle.std.proofs.Common.{◌≡◌, ◌≢◌, ℕ, ◌+◌, ◌<◌, ◌≤◌, false, IsTrue, List, [], ◌∷◌, ◌++◌, length, map, slice_get, Some, refl, sym, subst, arith, option_map, ◌∙◌, ap}
use Rattle.std.proofs.lemmas.Option.{slice_get-map}
use Rattle.base_types.specs.Seal.{Blocks}
use Rattle.disk_contract.specs.declared.event.Event.{Event}
use Rattle.disk_contract.specs.declared.event.Event.TheVariants.{Wrote, Lost}
use Rattle.disk_contract.specs.Cell.{cell_of}
use Rattle.layout_geometry.specs.Geometry.{Geometry, ring_block, bitmap_start, data_start}
use Rattle.layout_journal.specs.declared.entry.Entry.{Entry}
use Rattle.layout_journal.specs.Run.{Record, place_after, all_places, entries_fit}
use Rattle.crash_argument.specs.Ledger.{Ledger, WrittenRecord, IsConsistentWith, all_say}
use Rattle.crash_argument.specs.Steps.{IsFreePlace, with_record}
use Rattle.crash_argument.specs.LastWrites.{FreshAreNew, IsDead}
use Rattle.crash_argument.specs.HomeTest.{is_one_of}
use Rattle.crash_argument.specs.OnePending.{IsIdle, HasOnePending, IsNotOnItsWay, AreOfRecord}
use Rattle.crash_argument.specs.PipelineData.{PipelineData, DataAgree, with_committed}
use Rattle.engine_running.specs.declared.put.Put.{Put}
use Rattle.engine_running.specs.Record.{record_of, written_of, fresh_entry, IsTransaction}
use Rattle.crash_argument.specs.Writes.{AddsWrites, AddsFront}
use Rattle.engine_running.specs.Writes.{record_writes}
use Rattle.engine_running.specs.Commits.{AreNotOnTheirWay}
use Rattle.engine_running.proofs.pending.OnePending.{AreIdle, AreUnlike, record_idle, record_unlike, record_own, one_all, one_front, under}

abbrev pub FitsFresh : Type 0
FitsFresh = (g : Geometry) (r : Record) (i : ℕ) (e : Entry) → IsTrue (entries_fit g r) → slice_get r.fresh i ≡ Some e → (data_start g ≤ e.block) × (e.block < g.n)

abbrev pub Ascends : Type 0
Ascends = (g : Geometry) (r : Record) (i k : ℕ) (e f : Entry) → IsTrue (entries_fit g r) → i < k → slice_get r.fresh i ≡ Some e → slice_get r.fresh k ≡ Some f → e.block < f.block

abbrev pub FreshIdle : Type 0
FreshIdle = (base : Blocks) (log : List Event) (l : Ledger) (p : PipelineData) (uw : List ℕ) (b : ℕ) → HasOnePending base log l p uw → IsConsistentWith base log l → FreshAreNew l → bitmap_start l.geom ≤ b → is_one_of b uw ≡ false → IsDead l b → IsNotOnItsWay log p b → IsIdle (cell_of base log b)

abbrev pub Behind : Type 0
Behind = (base : Blocks) (log : List Event) (l : Ledger) (k : ℕ) → IsConsistentWith base log l → all_places (all_say l.records) + k < l.geom.j → IsFreePlace l (place_after l.geom.j l.header.at (all_say l.records) + k)

abbrev pub Apart : Type 0
Apart = (g : Geometry) (place d : ℕ) → 0 < d → d < g.j → ring_block g place ≢ ring_block g (place + d)

abbrev pub UnderWay : Type 0
UnderWay = (base : Blocks) (log : List Event) (l : Ledger) (p : PipelineData) (uw : List ℕ) (t b : ℕ) (x : List ℕ) → HasOnePending base log l p uw → l.slot < 2 → 2 ≤ b → IsIdle (cell_of base log b) → HasOnePending base (log ++ Wrote t b x ∷ []) l p (b ∷ uw)

abbrev pub IsLost : Type 0
IsLost = (base : Blocks) (log : List Event) (b : ℕ) (x : List ℕ) → ((c : ℕ) → length (cell_of base log c).pending ≤ 1) → IsIdle (cell_of base log b) → (c : ℕ) → length (cell_of base (log ++ Lost b x ∷ []) c).pending ≤ 1

abbrev pub Joins : Type 0
Joins = (base : Blocks) (log : List Event) (l : Ledger) (p : PipelineData) (uw : List ℕ) (w : WrittenRecord) (m : Blocks) (tickets freed : List ℕ) → HasOnePending base log l p uw → AreOfRecord l w uw → 0 < l.geom.j → ((i : ℕ) (e : Entry) → slice_get w.says.fresh i ≡ Some e → bitmap_start l.geom ≤ e.block) → l.known ≤ w.says.number
    → HasOnePending base log (with_record l w m) (with_committed p l w tickets freed) []

module _ (fits : FitsFresh) (ascends : Ascends) (fresh_idle : FreshIdle) (behind : Behind) (apart : Apart) (under_way : UnderWay) (base : Blocks) (l : Ledger) (p : PipelineData) (epoch number next : ℕ) (paid laid : List Put) (m : Blocks) (old : List Event)
    (may : IsTransaction l epoch number next paid laid m) (known : DataAgree base old l p) (keeps : IsConsistentWith base old l) (o : HasOnePending base old l p []) (off : AreNotOnTheirWay old p laid) where
  in_data : (i : ℕ) (e : Entry) → slice_get (map fresh_entry laid) i ≡ Some e → bitmap_start l.geom ≤ e.block
  in_data i e is = omega (arith, (fits l.geom (record_of number next paid laid) i e may.fit is).0)

  laid_in_data : (i : ℕ) (q : Put) → slice_get laid i ≡ Some q → bitmap_start l.geom ≤ q.block
  laid_in_data i q is = in_data i (fresh_entry q) (slice_get-map fresh_entry laid i ∙ ap (option_map fresh_entry) is)

  idle : AreIdle base old (record_writes l.geom epoch number next paid laid)
  idle = record_idle l.geom epoch number next paid laid base old
      (λ i q is. (omega (arith, laid_in_data i q is), fresh_idle base old l p [] q.block o keeps known.new (laid_in_data i q is) refl (may.dead i q is) (off i q is)))
      (λ n less. o.ring (next + n) (subst (λ at. IsFreePlace l (at + n)) (sym may.is_place) (behind base old l n keeps (omega (arith, may.within, less)))) refl)

  unlike : AreUnlike (record_writes l.geom epoch number next paid laid)
  unlike = record_unlike l.geom epoch number next paid laid keeps.ring (omega (arith, may.within))
      (λ i k q r less is at. ascends l.geom (record_of number next paid laid) i k (fresh_entry q) (fresh_entry r) may.fit less (slice_get-map fresh_entry laid i ∙ ap (option_map fresh_entry) is) (slice_get-map fresh_entry laid k ∙ ap (option_map fresh_entry) at))
      laid_in_data apart

  pub keeps_one : Joins → (tickets freed : List ℕ) (new : List Event) → AddsWrites (record_writes l.geom epoch number next paid laid) tickets old new
      → HasOnePending base new (with_record l (written_of epoch number next paid laid) m) (with_committed p l (written_of epoch number next paid laid) tickets freed) []
  keeps_one joins tickets freed new adds = joins base new l p (under (record_writes l.geom epoch number next paid laid) []) (written_of epoch number next paid laid) m tickets freed
      (one_all base l p keeps.headers.is_slot under_way (record_writes l.geom epoch number next paid laid) tickets old new [] o idle unlike adds)
      (record_own l.geom epoch number next paid laid l refl) keeps.ring in_data (omega (arith, keeps.known, may.is_next))

  pub keeps_one_lost : IsLost → (new : List Event) → AddsFront (record_writes l.geom epoch number next paid laid) old new → (b : ℕ) → length (cell_of base new b).pending ≤ 1
  keeps_one_lost lost new adds = one_front base l p keeps.headers.is_slot under_way lost (record_writes l.geom epoch number next paid laid) old new o idle unlike adds
