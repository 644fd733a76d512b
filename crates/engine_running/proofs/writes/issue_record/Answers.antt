-- A record is issued part by part; whichever part fails, the disk is safe.
use Rattle.std.proofs.Common.{◌≡◌, ◌<◌, ◌+◌, ◌++◌, ◌∷◌, [], ℕ, List, map, length, vec_len, vec_capacity, ap, ◌∙◌, refl, sym, subst, arith}
use Rattle.std.proofs.lemmas.List.{length-map}
use Rattle.std.proofs.lemmas.Bool.{cond-true}
use Rattle.layout_geometry.specs.Geometry.{ring_block}
use Rattle.layout_journal.specs.Layout.{descriptor_count}
use Rattle.layout_journal.specs.Spelling.{commit_block}
use Rattle.layout_journal.specs.Run.{places, commit_says}
use Rattle.crash_argument.specs.Recording.{IsPartlyWritten, IsInLedger}
use Rattle.engine_running.specs.Record.{record_of, written_of, fresh_entry, stored_put, descriptor_blocks}
use Rattle.crash_argument.specs.Writes.{AddsFront, AddsWrites}
use Rattle.engine_running.specs.Writes.{fresh_write, ring_writes}
use Rattle.engine_running.proofs.logs.Logs.{then_all, front_first, front_behind, front_one, all_err}
use Rattle.engine_running.proofs.spelling.Parts.{nothing_issued, are_laid, are_descriptors, are_payloads, heads_is, ends_is, commit_is, first_block, left_safe, left_either, writes_are}
use Rattle.engine_running.proofs.writes.issue_record.Goals as goal

pub returns-in_err-issue_fresh-clause-leaves : goal.returns-in_err-issue_fresh-clause-leaves
returns-in_err-issue_fresh-clause-leaves g c = λ tells s l p m t floor next same idle known safe.
    let paid = c.args.paid.now in
    let laid = c.args.laid.now in
    let place = c.args.place in
    let w = written_of c.args.epoch c.args.number place paid laid in
    let start = nothing_issued (g.D.Disk.state c.args.disk.now).base (g.D.Disk.state c.args.disk.now).log l p w c.args.tickets.now.items idle known in
    left_safe s l p w m t floor _ _ _ _ c.from_residual.ensures.0 (c.issue_fresh.ensures.under_way tells s l p w m t floor 1 known.new next (are_laid c.args.epoch c.args.number place paid laid) safe start).0

pub returns-in_err-issue_descriptors-clause-leaves : goal.returns-in_err-issue_descriptors-clause-leaves
returns-in_err-issue_descriptors-clause-leaves g c = λ tells s l p m t floor next same idle known safe.
    let paid = c.args.paid.now in
    let laid = c.args.laid.now in
    let place = c.args.place in
    let w = written_of c.args.epoch c.args.number place paid laid in
    let start = nothing_issued (g.D.Disk.state c.args.disk.now).base (g.D.Disk.state c.args.disk.now).log l p w c.args.tickets.now.items idle known in
    let one = c.in_ok-issue_fresh.ensures.under_way tells s l p w m t floor 1 known.new next (are_laid c.args.epoch c.args.number place paid laid) safe start in
    left_safe s l p w m t floor _ _ _ _ c.from_residual-in_err-issue_descriptors.ensures.0 (c.issue_descriptors.ensures.under_way tells s l p w m t floor (length laid) known.new next same refl (are_descriptors c.args.epoch c.args.number place paid laid) (omega (arith, ends_is c.args.epoch c.args.number place paid laid (1 + descriptor_count (length paid + length laid)) refl)) one.0 one.1).0

pub returns-in_err-issue_payloads-clause-leaves : goal.returns-in_err-issue_payloads-clause-leaves
returns-in_err-issue_payloads-clause-leaves g c = λ tells s l p m t floor next same idle known safe.
    let paid = c.args.paid.now in
    let laid = c.args.laid.now in
    let place = c.args.place in
    let w = written_of c.args.epoch c.args.number place paid laid in
    let start = nothing_issued (g.D.Disk.state c.args.disk.now).base (g.D.Disk.state c.args.disk.now).log l p w c.args.tickets.now.items idle known in
    let one = c.in_ok-issue_fresh.ensures.under_way tells s l p w m t floor 1 known.new next (are_laid c.args.epoch c.args.number place paid laid) safe start in
    let two = c.in_ok-issue_descriptors.ensures.under_way tells s l p w m t floor (length laid) known.new next same refl (are_descriptors c.args.epoch c.args.number place paid laid) (omega (arith, ends_is c.args.epoch c.args.number place paid laid (1 + descriptor_count (length paid + length laid)) refl)) one.0 one.1 in
    let from = 1 + descriptor_count (length paid + length laid) in
    let at : c.args.place + 1 + c.descriptor_count-descriptors.result ≡ place + from = omega (arith, c.descriptor_count-descriptors.ensures) in
    let ends = ends_is c.args.epoch c.args.number place paid laid from refl in
    left_safe s l p w m t floor _ _ _ _ c.from_residual-in_err-issue_payloads.ensures.0 (c.issue_payloads.ensures.under_way tells s l p w m t floor (length laid) from known.new next same at (omega arith) (omega (arith, ends)) (are_payloads c.args.epoch c.args.number place paid laid from (heads_is c.args.epoch c.args.number place paid laid)) two.0 two.1).0

pub returns-in_err-ticket-clause-leaves : goal.returns-in_err-ticket-clause-leaves
returns-in_err-ticket-clause-leaves g c = λ tells s l p m t floor next same idle known safe.
    let paid = c.args.paid.now in
    let laid = c.args.laid.now in
    let place = c.args.place in
    let w = written_of c.args.epoch c.args.number place paid laid in
    let start = nothing_issued (g.D.Disk.state c.args.disk.now).base (g.D.Disk.state c.args.disk.now).log l p w c.args.tickets.now.items idle known in
    let one = c.in_ok-issue_fresh.ensures.under_way tells s l p w m t floor 1 known.new next (are_laid c.args.epoch c.args.number place paid laid) safe start in
    let two = c.in_ok-issue_descriptors.ensures.under_way tells s l p w m t floor (length laid) known.new next same refl (are_descriptors c.args.epoch c.args.number place paid laid) (omega (arith, ends_is c.args.epoch c.args.number place paid laid (1 + descriptor_count (length paid + length laid)) refl)) one.0 one.1 in
    let from = 1 + descriptor_count (length paid + length laid) in
    let at : c.args.place + 1 + c.descriptor_count-descriptors.result ≡ place + from = omega (arith, c.descriptor_count-descriptors.ensures) in
    let ends = ends_is c.args.epoch c.args.number place paid laid from refl in
    let three = c.in_ok-issue_payloads.ensures.under_way tells s l p w m t floor (length laid) from known.new next same at (omega arith) (omega (arith, ends)) (are_payloads c.args.epoch c.args.number place paid laid from (heads_is c.args.epoch c.args.number place paid laid)) two.0 two.1 in
    let all = subst (λ n. IsPartlyWritten (g.D.Disk.state c.issue_payloads.new.disk).base (g.D.Disk.state c.issue_payloads.new.disk).log l p w c.issue_payloads.new.tickets.items n (places w.says)) (sym (length-map laid fresh_entry))
    (subst (λ n. IsPartlyWritten (g.D.Disk.state c.issue_payloads.new.disk).base (g.D.Disk.state c.issue_payloads.new.disk).log l p w c.issue_payloads.new.tickets.items (length laid) n) ends three.1) in
    let bytes = c.write_commit.ensures ∙ ap commit_block (commit_is c.args.epoch c.args.number place paid laid c.descriptor_count-descriptors.result (length paid) (length laid) c.descriptor_count-descriptors.ensures refl refl) in
    let block = first_block c.args.geom.now l.geom place c.ring_block.result same c.ring_block.ensures.block in
    left_either s l p w m t floor _ _ _ _ _ c.from_residual-in_err-ticket.ensures.0 (c.in_err-ticket.ensures.recorded tells s l p w m t floor c.issue_payloads.new.tickets.items known.new next block bytes three.0 all)

pub returns-clause-leaves : goal.returns-clause-leaves
returns-clause-leaves g c = λ tells s l p m t floor next same idle known safe.
    let paid = c.args.paid.now in
    let laid = c.args.laid.now in
    let place = c.args.place in
    let w = written_of c.args.epoch c.args.number place paid laid in
    let start = nothing_issued (g.D.Disk.state c.args.disk.now).base (g.D.Disk.state c.args.disk.now).log l p w c.args.tickets.now.items idle known in
    let one = c.in_ok-issue_fresh.ensures.under_way tells s l p w m t floor 1 known.new next (are_laid c.args.epoch c.args.number place paid laid) safe start in
    let two = c.in_ok-issue_descriptors.ensures.under_way tells s l p w m t floor (length laid) known.new next same refl (are_descriptors c.args.epoch c.args.number place paid laid) (omega (arith, ends_is c.args.epoch c.args.number place paid laid (1 + descriptor_count (length paid + length laid)) refl)) one.0 one.1 in
    let from = 1 + descriptor_count (length paid + length laid) in
    let at : c.args.place + 1 + c.descriptor_count-descriptors.result ≡ place + from = omega (arith, c.descriptor_count-descriptors.ensures) in
    let ends = ends_is c.args.epoch c.args.number place paid laid from refl in
    let three = c.in_ok-issue_payloads.ensures.under_way tells s l p w m t floor (length laid) from known.new next same at (omega arith) (omega (arith, ends)) (are_payloads c.args.epoch c.args.number place paid laid from (heads_is c.args.epoch c.args.number place paid laid)) two.0 two.1 in
    let all = subst (λ n. IsPartlyWritten (g.D.Disk.state c.issue_payloads.new.disk).base (g.D.Disk.state c.issue_payloads.new.disk).log l p w c.issue_payloads.new.tickets.items n (places w.says)) (sym (length-map laid fresh_entry))
    (subst (λ n. IsPartlyWritten (g.D.Disk.state c.issue_payloads.new.disk).base (g.D.Disk.state c.issue_payloads.new.disk).log l p w c.issue_payloads.new.tickets.items (length laid) n) ends three.1) in
    let bytes = c.write_commit.ensures ∙ ap commit_block (commit_is c.args.epoch c.args.number place paid laid c.descriptor_count-descriptors.result (length paid) (length laid) c.descriptor_count-descriptors.ensures refl refl) in
    let block = first_block c.args.geom.now l.geom place c.ring_block.result same c.ring_block.ensures.block in
    let recorded = c.in_ok-ticket.ensures.recorded tells s l p w m t floor c.issue_payloads.new.tickets.items known.new next block bytes three.0 all in
    let room : vec_len c.issue_payloads.new.tickets < vec_capacity c.issue_payloads.new.tickets = omega (arith, c.requires.room, c.requires.none, c.args.tickets.now.ok.0, ap (λ (q : List ℕ). length q) c.requires.none, c.in_ok-issue_fresh.ensures.taken, c.in_ok-issue_descriptors.ensures.taken, c.in_ok-issue_payloads.ensures.taken, c.issue_fresh.ensures.capacity, c.issue_descriptors.ensures.capacity, c.issue_payloads.ensures.capacity, ends_is 0 0 0 paid laid from refl) in
    let items : c.push.new.self.items ≡ c.issue_payloads.new.tickets.items ++ c.in_ok-ticket.ticket ∷ [] = c.push.ensures.items ∙ cond-true _ _ _ (c.push.ensures.succeeds room) in
    subst (λ (ts : List ℕ). IsInLedger s (g.D.Disk.state c.write_last.new.disk).base (g.D.Disk.state c.write_last.new.disk).log l p w m t floor ts) (sym items) recorded

pub returns-in_err-issue_fresh-clause-log : goal.returns-in_err-issue_fresh-clause-log
returns-in_err-issue_fresh-clause-log g c = λ tells.
    let paid = c.args.paid.now in
    let laid = c.args.laid.now in
    let place = c.args.place in
    let now = c.args.tickets.now.items in
    let log = (g.D.Disk.state c.args.disk.now).log in
    let d = descriptor_count (length paid + length laid) in
    let block = ring_block c.args.geom.now place in
    let x = commit_block (commit_says c.args.epoch (record_of c.args.number place paid laid)) in
    let fs = map fresh_write laid in
    let bs = ring_writes c.args.geom.now (place + 1) (descriptor_blocks c.args.epoch (record_of c.args.number 0 paid laid)) in
    let cs = ring_writes c.args.geom.now (place + 1 + d) (map stored_put paid) in
    let ds = (block, x) ∷ [] in
    let are = writes_are c.args.geom.now c.args.epoch c.args.number place paid laid d block x refl refl refl in
    all_err _ _ _ _ _ _ c.from_residual.ensures.0 (subst (λ (l : List (ℕ × List ℕ)). AddsFront l log (g.D.Disk.state c.issue_fresh.new.disk).log) are (front_first fs (bs ++ (cs ++ ds)) log (g.D.Disk.state c.issue_fresh.new.disk).log (c.in_err-issue_fresh.ensures.log tells)))

pub returns-in_err-issue_descriptors-clause-log : goal.returns-in_err-issue_descriptors-clause-log
returns-in_err-issue_descriptors-clause-log g c = λ tells.
    let paid = c.args.paid.now in
    let laid = c.args.laid.now in
    let place = c.args.place in
    let now = c.args.tickets.now.items in
    let log = (g.D.Disk.state c.args.disk.now).log in
    let d = descriptor_count (length paid + length laid) in
    let block = ring_block c.args.geom.now place in
    let x = commit_block (commit_says c.args.epoch (record_of c.args.number place paid laid)) in
    let fs = map fresh_write laid in
    let bs = ring_writes c.args.geom.now (place + 1) (descriptor_blocks c.args.epoch (record_of c.args.number 0 paid laid)) in
    let cs = ring_writes c.args.geom.now (place + 1 + d) (map stored_put paid) in
    let ds = (block, x) ∷ [] in
    let are = writes_are c.args.geom.now c.args.epoch c.args.number place paid laid d block x refl refl refl in
    let one = c.in_ok-issue_fresh.ensures.log tells in
    all_err _ _ _ _ _ _ c.from_residual-in_err-issue_descriptors.ensures.0 (subst (λ (l : List (ℕ × List ℕ)). AddsFront l log (g.D.Disk.state c.issue_descriptors.new.disk).log) are (front_behind fs (bs ++ (cs ++ ds)) one.0 log (g.D.Disk.state c.issue_fresh.new.disk).log (g.D.Disk.state c.issue_descriptors.new.disk).log one.2 (front_first bs (cs ++ ds) (g.D.Disk.state c.issue_fresh.new.disk).log (g.D.Disk.state c.issue_descriptors.new.disk).log (c.in_err-issue_descriptors.ensures.log tells))))

pub returns-in_err-issue_payloads-clause-log : goal.returns-in_err-issue_payloads-clause-log
returns-in_err-issue_payloads-clause-log g c = λ tells.
    let paid = c.args.paid.now in
    let laid = c.args.laid.now in
    let place = c.args.place in
    let now = c.args.tickets.now.items in
    let log = (g.D.Disk.state c.args.disk.now).log in
    let d = descriptor_count (length paid + length laid) in
    let block = ring_block c.args.geom.now place in
    let x = commit_block (commit_says c.args.epoch (record_of c.args.number place paid laid)) in
    let fs = map fresh_write laid in
    let bs = ring_writes c.args.geom.now (place + 1) (descriptor_blocks c.args.epoch (record_of c.args.number 0 paid laid)) in
    let cs = ring_writes c.args.geom.now (place + 1 + c.descriptor_count-descriptors.result) (map stored_put paid) in
    let ds = (block, x) ∷ [] in
    let are = writes_are c.args.geom.now c.args.epoch c.args.number place paid laid c.descriptor_count-descriptors.result block x c.descriptor_count-descriptors.ensures refl refl in
    let one = c.in_ok-issue_fresh.ensures.log tells in
    let two = c.in_ok-issue_descriptors.ensures.log tells in
    all_err _ _ _ _ _ _ c.from_residual-in_err-issue_payloads.ensures.0 (subst (λ (l : List (ℕ × List ℕ)). AddsFront l log (g.D.Disk.state c.issue_payloads.new.disk).log) are (front_behind fs (bs ++ (cs ++ ds)) one.0 log (g.D.Disk.state c.issue_fresh.new.disk).log (g.D.Disk.state c.issue_payloads.new.disk).log one.2 (front_behind bs (cs ++ ds) two.0 (g.D.Disk.state c.issue_fresh.new.disk).log (g.D.Disk.state c.issue_descriptors.new.disk).log (g.D.Disk.state c.issue_payloads.new.disk).log two.2 (front_first cs ds (g.D.Disk.state c.issue_descriptors.new.disk).log (g.D.Disk.state c.issue_payloads.new.disk).log (c.in_err-issue_payloads.ensures.log tells)))))

pub returns-in_err-ticket-clause-log : goal.returns-in_err-ticket-clause-log
returns-in_err-ticket-clause-log g c = λ tells.
    let paid = c.args.paid.now in
    let laid = c.args.laid.now in
    let place = c.args.place in
    let now = c.args.tickets.now.items in
    let log = (g.D.Disk.state c.args.disk.now).log in
    let d = descriptor_count (length paid + length laid) in
    let block = ring_block c.args.geom.now place in
    let x = commit_block (commit_says c.args.epoch (record_of c.args.number place paid laid)) in
    let fs = map fresh_write laid in
    let bs = ring_writes c.args.geom.now (place + 1) (descriptor_blocks c.args.epoch (record_of c.args.number 0 paid laid)) in
    let cs = ring_writes c.args.geom.now (place + 1 + c.descriptor_count-descriptors.result) (map stored_put paid) in
    let ds = (c.ring_block.result, c.write_commit.new.into) ∷ [] in
    let are = writes_are c.args.geom.now c.args.epoch c.args.number place paid laid c.descriptor_count-descriptors.result c.ring_block.result c.write_commit.new.into c.descriptor_count-descriptors.ensures c.ring_block.ensures.block (c.write_commit.ensures ∙ ap commit_block (commit_is c.args.epoch c.args.number place paid laid c.descriptor_count-descriptors.result (length paid) (length laid) c.descriptor_count-descriptors.ensures refl refl)) in
    let one = c.in_ok-issue_fresh.ensures.log tells in
    let two = c.in_ok-issue_descriptors.ensures.log tells in
    let three = c.in_ok-issue_payloads.ensures.log tells in
    all_err _ _ _ _ _ _ c.from_residual-in_err-ticket.ensures.0 (subst (λ (l : List (ℕ × List ℕ)). AddsFront l log (g.D.Disk.state c.write_last.new.disk).log) are (front_behind fs (bs ++ (cs ++ ds)) one.0 log (g.D.Disk.state c.issue_fresh.new.disk).log (g.D.Disk.state c.write_last.new.disk).log one.2 (front_behind bs (cs ++ ds) two.0 (g.D.Disk.state c.issue_fresh.new.disk).log (g.D.Disk.state c.issue_descriptors.new.disk).log (g.D.Disk.state c.write_last.new.disk).log two.2 (front_behind cs ds three.0 (g.D.Disk.state c.issue_descriptors.new.disk).log (g.D.Disk.state c.issue_payloads.new.disk).log (g.D.Disk.state c.write_last.new.disk).log three.2 (front_one c.ring_block.result c.write_commit.new.into (g.D.Disk.state c.issue_payloads.new.disk).log (g.D.Disk.state c.write_last.new.disk).log (c.in_err-ticket.ensures.log tells))))))

pub returns-clause-log : goal.returns-clause-log
returns-clause-log g c = λ tells.
    let paid = c.args.paid.now in
    let laid = c.args.laid.now in
    let place = c.args.place in
    let now = c.args.tickets.now.items in
    let log = (g.D.Disk.state c.args.disk.now).log in
    let d = descriptor_count (length paid + length laid) in
    let block = ring_block c.args.geom.now place in
    let x = commit_block (commit_says c.args.epoch (record_of c.args.number place paid laid)) in
    let fs = map fresh_write laid in
    let bs = ring_writes c.args.geom.now (place + 1) (descriptor_blocks c.args.epoch (record_of c.args.number 0 paid laid)) in
    let cs = ring_writes c.args.geom.now (place + 1 + c.descriptor_count-descriptors.result) (map stored_put paid) in
    let ds = (c.ring_block.result, c.write_commit.new.into) ∷ [] in
    let are = writes_are c.args.geom.now c.args.epoch c.args.number place paid laid c.descriptor_count-descriptors.result c.ring_block.result c.write_commit.new.into c.descriptor_count-descriptors.ensures c.ring_block.ensures.block (c.write_commit.ensures ∙ ap commit_block (commit_is c.args.epoch c.args.number place paid laid c.descriptor_count-descriptors.result (length paid) (length laid) c.descriptor_count-descriptors.ensures refl refl)) in
    let one = c.in_ok-issue_fresh.ensures.log tells in
    let two = c.in_ok-issue_descriptors.ensures.log tells in
    let three = c.in_ok-issue_payloads.ensures.log tells in
    let last = c.in_ok-ticket.ensures.log tells in
    let from = 1 + descriptor_count (length paid + length laid) in
    let room : vec_len c.issue_payloads.new.tickets < vec_capacity c.issue_payloads.new.tickets = omega (arith, c.requires.room, c.requires.none, c.args.tickets.now.ok.0, ap (λ (q : List ℕ). length q) c.requires.none, c.in_ok-issue_fresh.ensures.taken, c.in_ok-issue_descriptors.ensures.taken, c.in_ok-issue_payloads.ensures.taken, c.issue_fresh.ensures.capacity, c.issue_descriptors.ensures.capacity, c.issue_payloads.ensures.capacity, ends_is 0 0 0 paid laid from refl) in
    let items : c.push.new.self.items ≡ c.issue_payloads.new.tickets.items ++ c.in_ok-ticket.ticket ∷ [] = c.push.ensures.items ∙ cond-true _ _ _ (c.push.ensures.succeeds room) in
    let joined = then_all fs (bs ++ (cs ++ ds)) now c.issue_fresh.new.tickets.items c.push.new.self.items log (g.D.Disk.state c.issue_fresh.new.disk).log (g.D.Disk.state c.write_last.new.disk).log one (then_all bs (cs ++ ds) c.issue_fresh.new.tickets.items c.issue_descriptors.new.tickets.items c.push.new.self.items (g.D.Disk.state c.issue_fresh.new.disk).log (g.D.Disk.state c.issue_descriptors.new.disk).log (g.D.Disk.state c.write_last.new.disk).log two (then_all cs ds c.issue_descriptors.new.tickets.items c.issue_payloads.new.tickets.items c.push.new.self.items (g.D.Disk.state c.issue_descriptors.new.disk).log (g.D.Disk.state c.issue_payloads.new.disk).log (g.D.Disk.state c.write_last.new.disk).log three (c.in_ok-ticket.ticket ∷ [], items, (last.0, last.1, last.2)))) in
    (joined.0, joined.1, subst (λ (l : List (ℕ × List ℕ)). AddsWrites l joined.0 log (g.D.Disk.state c.write_last.new.disk).log) are joined.2)
