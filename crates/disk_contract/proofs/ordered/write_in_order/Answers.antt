use Rattle.std.proofs.Common.{⊎_elim, List, [], ◌∷◌, ◌++◌, length, refl, sym, ◌∙◌, ap, subst}
use Rattle.disk_contract.specs.declared.event.Event.{Event}
use Rattle.disk_contract.specs.declared.event.Event.TheVariants.{Wrote, Lost}
use Rattle.disk_contract.specs.Cell.{IsNoticed, notices, cell_of, accepted}
use Rattle.disk_contract.specs.Crash.{Window}
use Rattle.disk_contract.proofs.TwoWrites.{InOrder, Early, early_start, early_wrote, early_lost, early_notices, first_there, late_wrote, late_lost, first_stays, second_there}
use Rattle.disk_contract.proofs.ordered.write_in_order.Goals as goal

pub returns-in_err-ticket-clause-window : goal.returns-in_err-ticket-clause-window
returns-in_err-ticket-clause-window g c = λ tells.
    let s = g.D.Disk.state c.args.disk.now in
    let E = Early s.blocks s.base c.args.a c.args.b c.requires.a_in c.requires.b_in c.args.first.now c.args.second.now c.requires.apart (length s.log) in
    let begun = early_start s.blocks s.base c.args.a c.args.b c.requires.a_in c.requires.b_in c.args.first.now c.args.second.now c.requires.apart (length s.log) s.log refl (c.requires.ready tells).idle_b (c.requires.ready tells).differs in
    ⊎_elim (λ same. (subst E (sym same) begun).window) (λ lost. (subst E (sym lost) (early_lost s.blocks s.base c.args.a c.args.b c.requires.a_in c.requires.b_in c.args.first.now c.args.second.now c.requires.apart (length s.log) s.log begun)).window)
    (c.in_err-ticket.ensures.log tells)

pub returns-in_err-wait-clause-window : goal.returns-in_err-wait-clause-window
returns-in_err-wait-clause-window g c = λ tells.
    let s = g.D.Disk.state c.args.disk.now in
    let E = Early s.blocks s.base c.args.a c.args.b c.requires.a_in c.requires.b_in c.args.first.now c.args.second.now c.requires.apart (length s.log) in
    let begun = early_start s.blocks s.base c.args.a c.args.b c.requires.a_in c.requires.b_in c.args.first.now c.args.second.now c.requires.apart (length s.log) s.log refl (c.requires.ready tells).idle_b (c.requires.ready tells).differs in
    let written = early_wrote s.blocks s.base c.args.a c.args.b c.requires.a_in c.requires.b_in c.args.first.now c.args.second.now c.requires.apart (length s.log) s.log _ begun in
    let adds = c.wait.ensures.log tells in
    let after_write = subst E (sym (c.in_ok-ticket.ensures.log tells).2) written in
    (subst E (sym adds.log) (early_notices s.blocks s.base c.args.a c.args.b c.requires.a_in c.requires.b_in c.args.first.now c.args.second.now c.requires.apart (length s.log) _ adds.tickets after_write)).window

pub returns-in_err-write-clause-window : goal.returns-in_err-write-clause-window
returns-in_err-write-clause-window g c = λ tells.
    let s = g.D.Disk.state c.args.disk.now in
    let a = c.args.a in let b = c.args.b in let first = c.args.first.now in let second = c.args.second.now in
    let E = Early s.blocks s.base a b c.requires.a_in c.requires.b_in first second c.requires.apart (length s.log) in
    let W = λ (l : List Event). Window s.blocks s.base l (length s.log) (InOrder a b first second) in
    let begun = early_start s.blocks s.base a b c.requires.a_in c.requires.b_in first second c.requires.apart (length s.log) s.log refl (c.requires.ready tells).idle_b (c.requires.ready tells).differs in
    let written = early_wrote s.blocks s.base a b c.requires.a_in c.requires.b_in first second c.requires.apart (length s.log) s.log _ begun in
    let adds = c.wait.ensures.log tells in
    let wrote = (c.in_ok-ticket.ensures.log tells).2 in
    let log_is = adds.log ∙ ap (λ (l : List Event). l ++ notices adds.tickets) wrote in
    let waited = early_notices s.blocks s.base a b c.requires.a_in c.requires.b_in first second c.requires.apart (length s.log) _ adds.tickets written in
    let there = first_there s.blocks s.base a b c.requires.a_in c.requires.b_in first second c.requires.apart (length s.log) s.log _ adds.tickets (c.requires.ready tells).idle_a (c.in_ok-ticket.ensures.log tells).1 (subst (λ (l : List Event). IsNoticed c.in_ok-ticket.ticket l) log_is (c.in_ok-wait.ensures.noticed tells)) in
    ⊎_elim (λ same. subst W (sym (same ∙ log_is)) waited.window)
    (λ lost. subst W (sym (lost ∙ ap (λ (l : List Event). l ++ Lost b second ∷ []) log_is)) (late_lost s.blocks s.base a b c.requires.a_in c.requires.b_in first second c.requires.apart (length s.log) _ there waited))
    (c.in_err-write.ensures.log tells)

pub returns-clause-window : goal.returns-clause-window
returns-clause-window g c = λ tells.
    let s = g.D.Disk.state c.args.disk.now in
    let a = c.args.a in let b = c.args.b in let first = c.args.first.now in let second = c.args.second.now in
    let W = λ (l : List Event). Window s.blocks s.base l (length s.log) (InOrder a b first second) in
    let begun = early_start s.blocks s.base a b c.requires.a_in c.requires.b_in first second c.requires.apart (length s.log) s.log refl (c.requires.ready tells).idle_b (c.requires.ready tells).differs in
    let written = early_wrote s.blocks s.base a b c.requires.a_in c.requires.b_in first second c.requires.apart (length s.log) s.log _ begun in
    let adds = c.wait.ensures.log tells in
    let wrote = (c.in_ok-ticket.ensures.log tells).2 in
    let log_is = adds.log ∙ ap (λ (l : List Event). l ++ notices adds.tickets) wrote in
    let waited = early_notices s.blocks s.base a b c.requires.a_in c.requires.b_in first second c.requires.apart (length s.log) _ adds.tickets written in
    let there = first_there s.blocks s.base a b c.requires.a_in c.requires.b_in first second c.requires.apart (length s.log) s.log _ adds.tickets (c.requires.ready tells).idle_a (c.in_ok-ticket.ensures.log tells).1 (subst (λ (l : List Event). IsNoticed c.in_ok-ticket.ticket l) log_is (c.in_ok-wait.ensures.noticed tells)) in
    let last = (c.in_ok-write.ensures.log tells).2 in
    subst W (sym (last ∙ ap (λ (l : List Event). l ++ Wrote c.in_ok-write.field-0 b second ∷ []) log_is)) (late_wrote s.blocks s.base a b c.requires.a_in c.requires.b_in first second c.requires.apart (length s.log) _ _ there waited)

pub returns-clause-first : goal.returns-clause-first
returns-clause-first g c = λ tells.
    let s = g.D.Disk.state c.args.disk.now in
    let adds = c.wait.ensures.log tells in
    let log_is = adds.log ∙ ap (λ (l : List Event). l ++ notices adds.tickets) (c.in_ok-ticket.ensures.log tells).2 in
    let there = first_there s.blocks s.base c.args.a c.args.b c.requires.a_in c.requires.b_in c.args.first.now c.args.second.now c.requires.apart (length s.log) s.log _ adds.tickets (c.requires.ready tells).idle_a (c.in_ok-ticket.ensures.log tells).1 (subst (λ (l : List Event). IsNoticed c.in_ok-ticket.ticket l) log_is (c.in_ok-wait.ensures.noticed tells)) in
    ap (λ (l : List Event). cell_of s.base l c.args.a) ((c.in_ok-write.ensures.log tells).2 ∙ ap (λ (l : List Event). l ++ Wrote c.in_ok-write.field-0 c.args.b c.args.second.now ∷ []) log_is)
    ∙ first_stays s.blocks s.base c.args.a c.args.b c.requires.a_in c.requires.b_in c.args.first.now c.args.second.now c.requires.apart (length s.log) ((s.log ++ Wrote c.in_ok-ticket.ticket c.args.a c.args.first.now ∷ []) ++ notices adds.tickets) c.in_ok-write.field-0 there

pub returns-clause-second : goal.returns-clause-second
returns-clause-second g c = λ tells.
    let s = g.D.Disk.state c.args.disk.now in
    let adds = c.wait.ensures.log tells in
    let log_is = adds.log ∙ ap (λ (l : List Event). l ++ notices adds.tickets) (c.in_ok-ticket.ensures.log tells).2 in
    ap (λ (l : List Event). accepted s.base l c.args.b) ((c.in_ok-write.ensures.log tells).2 ∙ ap (λ (l : List Event). l ++ Wrote c.in_ok-write.field-0 c.args.b c.args.second.now ∷ []) log_is)
    ∙ second_there s.blocks s.base c.args.a c.args.b c.requires.a_in c.requires.b_in c.args.first.now c.args.second.now c.requires.apart (length s.log) ((s.log ++ Wrote c.in_ok-ticket.ticket c.args.a c.args.first.now ∷ []) ++ notices adds.tickets) c.in_ok-write.field-0
