-- Between records: what is known of the next one stays through all other events, and freed blocks may wait longer.
use Rattle.std.proofs.Common.{◌≡◌, ◌≢◌, inl, inr, ℕ, ◌+◌, ◌-◌, ◌%◌, ◌<◌, ◌≤◌, List, [], ◌∷◌, ◌++◌, length, take, drop, slice_get, Some, refl, ap, sym, ◌∙◌, subst, arith, length-drop, length-take}
use Rattle.std.proofs.lemmas.List.{take-append-drop, drop_more, take_at, drop_at}
use Rattle.std.proofs.lemmas.Option.{slice_get_within, get_or_from_slice_get}
use Rattle.layout_journal.specs.Run.{Record, AreConsecutive, place_after}
use Rattle.crash_argument.proofs.pipe.Agree.{knows_with}
use Rattle.crash_argument.proofs.log.Lists.{whole_list, consecutive_at, say_append}
use Rattle.crash_argument.proofs.log.Places.{apart}
use Rattle.base_types.specs.Seal.{Blocks}
use Rattle.disk_contract.specs.declared.event.Event.{Event}
use Rattle.disk_contract.specs.declared.event.Event.TheVariants.{Wrote, Lost}
use Rattle.disk_contract.specs.Cell.{cell_of}
use Rattle.layout_geometry.specs.Geometry.{Geometry, ring_block}
use Rattle.layout_journal.specs.declared.header.Header.{Header}
use Rattle.crash_argument.specs.Ledger.{Ledger, WrittenRecord, IsConsistentWith, next_number, all_say}
use Rattle.crash_argument.specs.Steps.{NoneIsBeingWritten, with_known, with_header, with_durable_header}
use Rattle.crash_argument.specs.PipelineData.{PipelineData, DataAgree, WaitMore, WaitAbove, with_waiting, SameNewTickets, with_tickets, with_sent}
use Rattle.crash_argument.proofs.log.Adds.{adds_wrote, adds_lost}
use Rattle.crash_argument.proofs.steps.Idle.{outside_idle}

pub idle_known : (base : Blocks) (log : List Event) (l : Ledger) (number : ℕ) → NoneIsBeingWritten (cell_of base log) l → NoneIsBeingWritten (cell_of base log) (with_known l number)
idle_known base log l number i = record { each = i.each }

pub idle_header : (base : Blocks) (log : List Event) (l : Ledger) (h : Header) → NoneIsBeingWritten (cell_of base log) l → NoneIsBeingWritten (cell_of base log) (with_header l h)
idle_header base log l h i = record { each = i.each }

-- the number of the next record stays as records are released
pub same_next : (base : Blocks) (log : List Event) (l : Ledger) (h : Header) → IsConsistentWith base log l → l.next ≡ Some h → next_number (with_durable_header l h) ≡ next_number l
same_next base log l h keeps is = let f = keeps.headers.fits h (inr is) in omega (arith, f.start, f.sure, f.last, length-drop (h.start - l.header.start) l.records)

pub idle_durable : (base : Blocks) (log : List Event) (l : Ledger) (h : Header) → IsConsistentWith base log l → l.next ≡ Some h → NoneIsBeingWritten (cell_of base log) l → NoneIsBeingWritten (cell_of base log) (with_durable_header l h)
idle_durable base log l h keeps is i = record { each = λ place x d st reads e. omega (arith, i.each place x d st reads e, same_next base log l h keeps is) }

pub idle_wrote : (base : Blocks) (log : List Event) (l : Ledger) (t b : ℕ) (x : List ℕ) → ((place : ℕ) → ring_block l.geom place ≢ b) → NoneIsBeingWritten (cell_of base log) l → NoneIsBeingWritten (cell_of base (log ++ Wrote t b x ∷ [])) l
idle_wrote base log l t b x apart i = outside_idle base log (log ++ Wrote t b x ∷ []) l b x (adds_wrote base log t b x) apart i

pub idle_lost : (base : Blocks) (log : List Event) (l : Ledger) (b : ℕ) (x : List ℕ) → ((place : ℕ) → ring_block l.geom place ≢ b) → NoneIsBeingWritten (cell_of base log) l → NoneIsBeingWritten (cell_of base (log ++ Lost b x ∷ [])) l
idle_lost base log l b x apart i = outside_idle base log (log ++ Lost b x ∷ []) l b x (adds_lost base log b x) apart i

-- more pairs may wait
pub knows_more : (base : Blocks) (log : List Event) (l : Ledger) (p : PipelineData) (many : List (ℕ × ℕ)) → DataAgree base log l p → WaitMore p.waiting many → DataAgree base log l (with_waiting p many)
knows_more base log l p many k more = knows_with k log p.tickets p.home p.sent many k.count k.tickets k.pending k.home k.at_home
    (record { each = λ b n low late upto on off. let o = k.waiting.each b n low late upto on off in let there = more.each o.0 b o.1 o.2 in (there.0, o.1, there.1, o.3) })

-- pairs that the durable `sure` has reached need not
pub knows_later : (base : Blocks) (log : List Event) (l : Ledger) (p : PipelineData) (few : List (ℕ × ℕ)) → DataAgree base log l p → WaitAbove l.header.sure p.waiting few → DataAgree base log l (with_waiting p few)
knows_later base log l p few k above = knows_with k log p.tickets p.home p.sent few k.count k.tickets k.pending k.home k.at_home
    (record { each = λ b n low late upto on off. let o = k.waiting.each b n low late upto on off in let there = above.each o.0 b o.1 o.2 (omega (arith, late, o.3)) in (there.0, o.1, there.1, o.3) })

-- tickets of known records may go
pub knows_fewer : (base : Blocks) (log : List Event) (l : Ledger) (p : PipelineData) (tickets : List (List ℕ)) → DataAgree base log l p → SameNewTickets l p.tickets tickets → DataAgree base log l (with_tickets p tickets)
knows_fewer base log l p tickets k same = knows_with k log tickets p.home p.sent p.waiting (same.count ∙ k.count) (λ i w ts is at late. k.tickets i w ts is (sym (same.each i w is late) ∙ at) late) k.pending k.home k.at_home k.waiting

pub record_at : (base : Blocks) (log : List Event) (l : Ledger) (k : ℕ) (w : WrittenRecord) → IsConsistentWith base log l → slice_get l.records k ≡ Some w → (w.says.number ≡ l.header.start + k) × (w.says.place ≡ place_after l.geom.j l.header.at (all_say (take k l.records)))
record_at base log l k w keeps is = let at = consecutive_at l.geom.j l.header.start l.header.at (take k l.records) w.says (all_say (drop (k + 1) l.records)) whole in (at.0 ∙ ap (λ n. l.header.start + n) size, at.1)
  where
    split : l.records ≡ take k l.records ++ w ∷ drop (k + 1) l.records
    split = sym (take-append-drop k l.records) ∙ ap (λ (ws : List WrittenRecord). take k l.records ++ ws) (drop_more l.records k w (slice_get_within l.records k w is) ∙ ap (λ (v : WrittenRecord). v ∷ drop (k + 1) l.records) (get_or_from_slice_get l.records k w w is))

    size : length (take k l.records) ≡ k
    size = omega (arith, length-take k l.records, slice_get_within l.records k w is)

    whole : AreConsecutive l.geom.j l.header.start l.header.at (all_say (take k l.records) ++ w.says ∷ all_say (drop (k + 1) l.records))
    whole = subst (λ (rs : List Record). AreConsecutive l.geom.j l.header.start l.header.at rs) (ap all_say (whole_list l ∙ split) ∙ say_append (take k l.records) (w ∷ drop (k + 1) l.records)) (keeps.headers.fits l.header (inl refl)).consecutive

-- fewer may be claimed to be sent
pub knows_less_sent : (base : Blocks) (log : List Event) (l : Ledger) (p : PipelineData) (n : ℕ) → DataAgree base log l p → n ≤ p.sent → DataAgree base log l (with_sent p n)
knows_less_sent base log l p n k le = knows_with k log p.tickets p.home n p.waiting k.count k.tickets k.pending (λ b x low. k.home b x (omega (arith, low, le))) k.at_home k.waiting

-- a front and what is behind it, by its length
pub placed_told : (base : Blocks) (log : List Event) (l : Ledger) (p : PipelineData) (k : DataAgree base log l p) → k.placed ≡ take p.placed l.records
placed_told base log l p k = sym (take_at k.placed (k.batch ++ k.rest) p.placed k.placed_is) ∙ ap (take p.placed) (sym k.is_batch.split)

behind_placed : (base : Blocks) (log : List Event) (l : Ledger) (p : PipelineData) (k : DataAgree base log l p) → k.batch ++ k.rest ≡ drop p.placed l.records
behind_placed base log l p k = sym (drop_at k.placed (k.batch ++ k.rest) p.placed k.placed_is) ∙ ap (drop p.placed) (sym k.is_batch.split)

pub batch_told : (base : Blocks) (log : List Event) (l : Ledger) (p : PipelineData) (k : DataAgree base log l p) → k.batch ≡ take p.batch (drop p.placed l.records)
batch_told base log l p k = sym (take_at k.batch k.rest p.batch k.batch_is) ∙ ap (take p.batch) (behind_placed base log l p k)

pub rest_told : (base : Blocks) (log : List Event) (l : Ledger) (p : PipelineData) (k : DataAgree base log l p) → k.rest ≡ drop p.batch (drop p.placed l.records)
rest_told base log l p k = sym (drop_at k.batch k.rest p.batch k.batch_is) ∙ ap (drop p.batch) (behind_placed base log l p k)

-- places of one ring that are less than its size apart are of unlike blocks
pub ring_apart : (g : Geometry) (place d : ℕ) → 0 < d → d < g.j → ring_block g place ≢ ring_block g (place + d)
ring_apart g place d some small same = apart place d g.j some small (omega arith)
