-- The due header is the ledger's next one.
use Rattle.std.proofs.Common.{◌≡◌, ◌-◌, ◌++◌, ◌∷◌, [], true, length, Some, None, option_map, ℕ, List, take, slice_get, refl, sym, ◌∙◌, ap, subst}
use Rattle.std.proofs.lemmas.Bool.{cond-true}
use Rattle.base_types.specs.Seal.{Blocks}
use Rattle.disk_contract.specs.declared.event.Event.{Event}
use Rattle.disk_contract.specs.declared.event.Event.TheVariants.{Wrote}
use Rattle.disk_contract.specs.declared.disk.DiskFault.{DiskFault}
use Rattle.layout_journal.specs.declared.header.Header.{Header}
use Rattle.layout_journal.specs.Layout.{header_of}
use Rattle.layout_journal.specs.Run.{place_after}
use Rattle.layout_journal.specs.Spelling.{header_block}
use Rattle.crash_argument.specs.Ledger.{Ledger, WrittenRecord, all_say}
use Rattle.crash_argument.specs.Points.{IsSafe}
use Rattle.crash_argument.specs.PipelineData.{next_header}
use Rattle.crash_argument.specs.Steps.{with_header}
use Rattle.engine_checkpoint.specs.declared.pipeline.Pipeline.{Pipeline}
use Rattle.engine_checkpoint.specs.Agree.{PipelineAgrees, data_of, header_in}
use Rattle.engine_checkpoint.specs.Turns.{is_header_due, due_header, header_made}
use Rattle.engine_checkpoint.proofs.DueHeaders.{none_pending, due_is, due_reads, adds_lost, adds_wrote, header_failed}
use Rattle.engine_checkpoint.proofs.NextHeaders.{agrees_header}
use Rattle.engine_checkpoint.proofs.header.write_next_header.Goals as goal

pub returns-in_err-ticket-clause-log : goal.returns-in_err-ticket-clause-log
returns-in_err-ticket-clause-log g c = λ tells. adds_lost _ c.from_residual.result c.in_err-ticket.field-0.0 c.args.pipeline.now _ c.args.ring.now c.other_slot.result c.write_header.new.into _ _ (sym c.is_header_due.ensures ∙ c.if-not-is_header_due.false) c.from_residual.ensures.0 c.other_slot.ensures (c.write_header.ensures ∙ ap header_block c.due_header-header.ensures.is) (c.in_err-ticket.ensures.log tells)

pub returns-clause-log : goal.returns-clause-log
returns-clause-log g c = λ tells. adds_wrote _ DiskFault DiskFault (is_header_due c.args.pipeline.now) _ c.args.pipeline.now _ c.args.ring.now c.other_slot.result c.in_ok-ticket.ticket c.write_header.new.into (record { header = c.due_header-header.result; ticket = c.in_ok-ticket.ticket }) _ _ (sym c.is_header_due.ensures ∙ c.if-not-is_header_due.false) refl refl c.other_slot.ensures (c.write_header.ensures ∙ ap header_block c.due_header-header.ensures.is) (c.in_ok-ticket.ensures.log tells)

pub returns-in_err-ticket-clause-agrees : goal.returns-in_err-ticket-clause-agrees
returns-in_err-ticket-clause-agrees g c = λ tells s l t floor waiting taken safe a.
    let v = c.args.pipeline.now in
    let base = (g.D.Disk.state c.args.disk.now).base in
    let log = (g.D.Disk.state c.args.disk.now).log in
    let x = c.write_header.new.into in
    let next = next_header l (length v.placed.items) in
    let none : l.next ≡ None = a.next ∙ ap (option_map header_in) (none_pending v (sym c.is_header_due.ensures ∙ c.if-not-is_header_due.false)) in
    let stand : (k : ℕ) (w : WrittenRecord) → slice_get l.records k ≡ Some w → w.says.place ≡ place_after l.geom.j l.header.at (all_say (take k l.records)) = λ k w. c.records_stand_in_order.ensures.places base log l k w safe.keeps in
    let is = due_is base log l v c.args.ring.now waiting taken a safe.keeps stand in
    let within = c.journal_blocks_keep_to_their_bounds.ensures.headers l.geom.n _ l.header safe.keeps.headers.durable in
    let reads : header_of l.geom.n x ≡ Some next = ap (header_of l.geom.n) (c.write_header.ensures ∙ ap header_block c.due_header-header.ensures.is) ∙ due_reads base log l v c.args.ring.now waiting taken a safe.keeps stand within c.requires.on.order c.due_header-header.ensures.epoch c.requires.turn c.requires.last c.journal_blocks_read_back.ensures.headers in
    let may = c.the_next_header_may_be_written.ensures.may base log l (data_of v c.args.ring.now waiting) x safe.keeps a.agree none reads in
    header_failed c.from_residual.result c.in_err-ticket.field-0.0 s (g.D.Disk.state c.args.disk.now) (g.D.Disk.state c.write_header-2.new.disk) l next t floor v _ c.args.ring.now waiting taken c.from_residual.ensures.0 is
    (c.in_err-ticket.ensures.safe tells s l next t floor (c.other_slot.ensures ∙ ap (λ n. 1 - n) a.slot) may safe)

pub returns-clause-agrees : goal.returns-clause-agrees
returns-clause-agrees g c = λ tells s l t floor waiting taken safe a.
    let v = c.args.pipeline.now in
    let base = (g.D.Disk.state c.args.disk.now).base in
    let log = (g.D.Disk.state c.args.disk.now).log in
    let x = c.write_header.new.into in
    let ticket = c.in_ok-ticket.ticket in
    let ring = c.args.ring.now in
    let next = next_header l (length v.placed.items) in
    let due : is_header_due v ≡ true = sym c.is_header_due.ensures ∙ c.if-not-is_header_due.false in
    let none : l.next ≡ None = a.next ∙ ap (option_map header_in) (none_pending v due) in
    let stand : (k : ℕ) (w : WrittenRecord) → slice_get l.records k ≡ Some w → w.says.place ≡ place_after l.geom.j l.header.at (all_say (take k l.records)) = λ k w. c.records_stand_in_order.ensures.places base log l k w safe.keeps in
    let due_next : due_header v ring ≡ next = due_is base log l v ring waiting taken a safe.keeps stand in
    let is : c.due_header-header.result ≡ next = c.due_header-header.ensures.is ∙ due_next in
    let within = c.journal_blocks_keep_to_their_bounds.ensures.headers l.geom.n _ l.header safe.keeps.headers.durable in
    let reads : header_of l.geom.n x ≡ Some next = ap (header_of l.geom.n) (c.write_header.ensures ∙ ap header_block c.due_header-header.ensures.is) ∙ due_reads base log l v ring waiting taken a safe.keeps stand within c.requires.on.order c.due_header-header.ensures.epoch c.requires.turn c.requires.last c.journal_blocks_read_back.ensures.headers in
    let may = c.the_next_header_may_be_written.ensures.may base log l (data_of v ring waiting) x safe.keeps a.agree none reads in
    let slot_is = c.other_slot.ensures ∙ ap (λ n. 1 - n) a.slot in
    let adds = c.in_ok-ticket.ensures.log tells in
    let after = log ++ Wrote ticket (1 - l.slot) x ∷ [] in
    let log_is : (g.D.Disk.state c.write_header-2.new.disk).log ≡ after = adds.2 ∙ ap (λ n. log ++ Wrote ticket n x ∷ []) slot_is in
    let safe_then = c.in_ok-ticket.ensures.safe tells s l next t floor slot_is may safe in
    let agrees = agrees_header base log l v ring waiting taken a safe.keeps ticket x c.expect.new.self c.expect.ensures.expected c.expect.ensures.noticed adds.0
    (c.the_next_header_may_be_written.ensures.knows base log l (data_of v ring waiting) x ticket safe.keeps a.agree none reads adds.0 adds.1)
    (c.a_write_to_an_idle_block_is_the_one.ensures.header base log l (data_of v ring waiting) [] ticket x next a.one safe.keeps.headers.is_slot none)
    (c.taken_blocks_stay_dead.ensures.events log (Wrote ticket (1 - l.slot) x ∷ []) (with_header l next) (data_of v ring waiting) taken (c.taken_blocks_stay_dead.ensures.header log l (data_of v ring waiting) taken next a.free))
    (λ b free. c.nothing_is_written_between_records.ensures.accepted base log l ticket b x free) in
    let made : header_made v ring l ≡ with_header l next = cond-true (is_header_due v) (with_header l (due_header v ring)) l due ∙ ap (with_header l) due_next in
    let now = (g.D.Disk.state c.write_header-2.new.disk).base in
    let new = (g.D.Disk.state c.write_header-2.new.disk).log in
    let with_next : Header → Pipeline = λ h. record v { next = Some (record { header = h; ticket = ticket }); written = h; notes = c.expect.new.self } in
    subst (λ (k : Ledger). IsSafe s now new k t floor × PipelineAgrees now new k (with_next c.due_header-header.result) ring waiting taken) (sym made) (
      safe_then,
      subst (λ (h : Header). PipelineAgrees now new (with_header l next) (with_next h) ring waiting taken) (sym is)
          (subst (λ (b : Blocks). PipelineAgrees b new (with_header l next) (with_next next) ring waiting taken) (sym c.write_header-2.ensures.spends.same.base)
          (subst (λ (lg : List Event). PipelineAgrees base lg (with_header l next) (with_next next) ring waiting taken) (sym log_is) agrees)),
    )
