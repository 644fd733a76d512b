use Rattle.std.proofs.Common.{◌≡◌, ◌<◌, ◌||◌, ◌∙◌, ◌++◌, sym, ap, ap₂, subst, arith, [], ◌∷◌, ℕ, Err}
use Rattle.std.proofs.lemmas.Bool.{and_parts}
use Rattle.disk_contract.specs.declared.event.Event.TheVariants.{Wrote}
use Rattle.disk_contract.specs.Cell.{greatest_ticket, IsNoticed}
use Rattle.disk_contract.specs.Disk.{AddsWrite}
use Rattle.disk_mirror.specs.Half.{HalfWrites}
use Rattle.disk_mirror.specs.Order.{OrderState, log_of, has_failed}
use Rattle.disk_mirror.specs.Mirror.{AreGiven, IsMirror, KeepsRoom}
use Rattle.disk_mirror.specs.Turns.{accepted_in}
use Rattle.disk_mirror.proofs.Sound.{failed_accept}
use Rattle.disk_mirror.proofs.Mirrors.{accepted_log}
use Rattle.disk_mirror.proofs.Leaves.{found_now, next_above, next_unnoticed}
use Rattle.disk_mirror.proofs.Made.{keeps_accept, keeps_none}
use Rattle.disk_mirror.proofs.Causes.{causes_stay, causes_down}
use Rattle.disk_mirror.proofs.Calls.{accepts, falls, given_accept, given_live, given_none, none_log, none_first, none_second}
use Rattle.disk_mirror.proofs.mirror.Mirror.write_both.Goals as goal

pub invariant_of-self : goal.invariant_of-self
invariant_of-self g c =
    let m = c.args.self.now in
    let is = c.accept.ensures.state ∙ ap₂ (λ p q. accepted_in m.order p q c.came-came.result) c.ticket.ensures c.ticket-then-is_one_live.ensures in
    record {
      size = c.write-first.ensures.same.blocks ∙ m.size ∙ sym c.write-second.ensures.same.blocks;
      causes = causes_stay _ _ _ _ _ _ _ _ _ _ (λ on_it. (given_live g.A.Disk.tells _ _ _ _ _ _ _ _ _ _ c.write-first.ensures.step on_it).0) (λ on_it. (given_live g.B.Disk.tells _ _ _ _ _ _ _ _ _ _ c.write-second.ensures.step on_it).0) (λ _. c.requires.room) m.causes;
      roomed = subst (KeepsRoom m.most) (sym is) (keeps_accept m.most m.order _ _ c.came-came.result m.roomed);
      counted = λ none. ap (λ (o : OrderState). has_failed o.events) is ∙ failed_accept m.order.events _ _ _ ∙ m.counted none;
      given = subst (λ (o : OrderState). AreGiven o.pairs c.write-first.new.self.live c.write-second.new.self.live) (sym is)
          (given_accept g.A.Disk.tells g.B.Disk.tells m.order.pairs c.args.b c.args.from.now c.len-moment.result c.write-first.result c.write-second.result _ _ _ _ _ _ _ _ _ _ _ _ c.write-first.ensures.step c.write-second.ensures.step m.given);
      told = λ tells. let t = and_parts g.A.Disk.tells g.B.Disk.tells tells in
          subst (λ (o : OrderState). ∥ IsMirror (g.A.Disk.state c.write-first.new.self.disk) (g.B.Disk.state c.write-second.new.self.disk) c.write-first.new.self.live c.write-second.new.self.live c.write-first.new.self.end c.write-second.new.self.end o ∥₁) (sym is)
          (accepts (g.A.Disk.state m.a.disk) (g.B.Disk.state m.b.disk) (g.A.Disk.state c.write-first.new.self.disk) (g.B.Disk.state c.write-second.new.self.disk) m.a.live m.b.live c.write-first.new.self.live c.write-second.new.self.live m.a.end m.b.end c.write-first.new.self.end c.write-second.new.self.end c.len-moment.result m.order c.args.b c.args.from.now c.write-first.result c.write-second.result c.came-came.result c.write-first.ensures.same c.write-second.ensures.same c.len-moment.ensures c.requires.there c.a_block_has_its_bytes.ensures c.few.ensures.rows (omega (arith, c.requires.room, c.few.ensures.short)) (c.came-came.ensures.first t.0) (c.came-came.ensures.second t.1)
          (c.lawful.ensures t.0).log.lawful (c.lawful-2.ensures t.1).log.lawful (subst (λ v. HalfWrites v c.args.b c.args.from.now c.len-moment.result c.write-first.result m.a.live c.write-first.new.self.live m.a.end c.write-first.new.self.end (g.A.Disk.state m.a.disk).log (g.A.Disk.state c.write-first.new.self.disk).log) t.0 c.write-first.ensures.step) (subst (λ v. HalfWrites v c.args.b c.args.from.now c.len-moment.result c.write-second.result m.b.live c.write-second.new.self.live m.b.end c.write-second.new.self.end (g.B.Disk.state m.b.disk).log (g.B.Disk.state c.write-second.new.self.disk).log) t.1 c.write-second.ensures.step) (ap₂ (λ u v. u || v) (sym c.is_live.ensures) (sym c.is_live-2.ensures) ∙ sym c.is_one_live.ensures ∙ c.if-is_one_live.true) (m.told tells));
    }

pub returns-then-is_one_live-clause-log : goal.returns-then-is_one_live-clause-log
returns-then-is_one_live-clause-log g c = λ tells.
    let m = c.args.self.now in
    let t = and_parts g.A.Disk.tells g.B.Disk.tells tells in
    let is = c.accept.ensures.state ∙ ap₂ (λ p q. accepted_in m.order p q c.came-came.result) c.ticket.ensures c.ticket-then-is_one_live.ensures in
    let a = g.A.Disk.state m.a.disk in
    let b = g.B.Disk.state m.b.disk in
    let log = log_of a.log b.log m.order.events in (
      subst (λ (n : ℕ). greatest_ticket log < n) (sym c.accept.ensures.ticket) (next_above a.blocks a.base b.base a.log b.log m.a.live m.b.live m.a.end m.b.end m.order (m.told tells)),
      subst (λ (n : ℕ). IsNoticed n log → ⊥) (sym c.accept.ensures.ticket) (next_unnoticed a.blocks a.base b.base a.log b.log m.a.live m.b.live m.a.end m.b.end m.order (m.told tells) c.few.ensures.rows),
      ap (λ (o : OrderState). log_of (g.A.Disk.state c.write-first.new.self.disk).log (g.B.Disk.state c.write-second.new.self.disk).log o.events) is
          ∙ accepted_log c.args.b c.args.from.now c.len-moment.result c.write-first.result c.write-second.result m.a.live c.write-first.new.self.live m.b.live c.write-second.new.self.live m.a.end c.write-first.new.self.end m.b.end c.write-second.new.self.end a.log (g.A.Disk.state c.write-first.new.self.disk).log b.log (g.B.Disk.state c.write-second.new.self.disk).log m.order c.came-came.result (subst (λ v. HalfWrites v c.args.b c.args.from.now c.len-moment.result c.write-first.result m.a.live c.write-first.new.self.live m.a.end c.write-first.new.self.end (g.A.Disk.state m.a.disk).log (g.A.Disk.state c.write-first.new.self.disk).log) t.0 c.write-first.ensures.step) (subst (λ v. HalfWrites v c.args.b c.args.from.now c.len-moment.result c.write-second.result m.b.live c.write-second.new.self.live m.b.end c.write-second.new.self.end (g.B.Disk.state m.b.disk).log (g.B.Disk.state c.write-second.new.self.disk).log) t.1 c.write-second.ensures.step)
          (ap₂ (λ u v. u || v) (sym c.is_live.ensures) (sym c.is_live-2.ensures) ∙ sym c.is_one_live.ensures ∙ c.if-is_one_live.true) (found_now a.blocks a.base b.base a.log b.log m.a.live m.b.live m.a.end m.b.end m.order (m.told tells) c.requires.live)
          ∙ ap (λ (n : ℕ). log ++ Wrote n c.args.b c.args.from.now ∷ []) (sym c.accept.ensures.ticket),
    )

pub invariant_of-self-2 : goal.invariant_of-self-2
invariant_of-self-2 g c =
    let m = c.args.self.now in
    let none = ap₂ (λ u v. u || v) (sym c.is_live.ensures) (sym c.is_live-2.ensures) ∙ sym c.is_one_live.ensures ∙ c.if-is_one_live.false in
    let is_counted : c.saturating_add-self.result ≡ 0 → ⊥ = λ none. omega (arith, none, c.saturating_add-self.ensures) in
    record {
      size = c.write-first.ensures.same.blocks ∙ m.size ∙ sym c.write-second.ensures.same.blocks;
      roomed = subst (KeepsRoom m.most) (sym c.note_lost.ensures) (keeps_none m.most m.order c.write-first.result c.write-second.result c.came-came.result c.requires.room m.roomed);
      counted = λ none. absurd (is_counted none);
      causes = causes_down _ _ _ _ _ _ (none_first _ _ none) (none_second _ _ none);
      given = given_none c.note_lost.new.order.pairs c.write-first.new.self.live c.write-second.new.self.live (none_first _ _ none) (none_second _ _ none);
      told = λ tells. let t = and_parts g.A.Disk.tells g.B.Disk.tells tells in
          subst (λ (o : OrderState). ∥ IsMirror (g.A.Disk.state c.write-first.new.self.disk) (g.B.Disk.state c.write-second.new.self.disk) c.write-first.new.self.live c.write-second.new.self.live c.write-first.new.self.end c.write-second.new.self.end o ∥₁) (sym c.note_lost.ensures)
          (falls (g.A.Disk.state m.a.disk) (g.B.Disk.state m.b.disk) (g.A.Disk.state c.write-first.new.self.disk) (g.B.Disk.state c.write-second.new.self.disk) m.a.live m.b.live c.write-first.new.self.live c.write-second.new.self.live m.a.end m.b.end c.write-first.new.self.end c.write-second.new.self.end c.len-moment.result m.order c.args.b c.args.from.now c.write-first.result c.write-second.result c.came-came.result c.write-first.ensures.same c.write-second.ensures.same c.len-moment.ensures c.requires.there c.a_block_has_its_bytes.ensures (c.came-came.ensures.first t.0) (c.came-came.ensures.second t.1)
          (c.lawful.ensures t.0).log.lawful (c.lawful-2.ensures t.1).log.lawful (subst (λ v. HalfWrites v c.args.b c.args.from.now c.len-moment.result c.write-first.result m.a.live c.write-first.new.self.live m.a.end c.write-first.new.self.end (g.A.Disk.state m.a.disk).log (g.A.Disk.state c.write-first.new.self.disk).log) t.0 c.write-first.ensures.step) (subst (λ v. HalfWrites v c.args.b c.args.from.now c.len-moment.result c.write-second.result m.b.live c.write-second.new.self.live m.b.end c.write-second.new.self.end (g.B.Disk.state m.b.disk).log (g.B.Disk.state c.write-second.new.self.disk).log) t.1 c.write-second.ensures.step) (none_first _ _ none) (none_second _ _ none) (m.told tells));
    }

pub returns-clause-log : goal.returns-clause-log
returns-clause-log g c = λ tells.
    let m = c.args.self.now in
    let t = and_parts g.A.Disk.tells g.B.Disk.tells tells in
    let none = ap₂ (λ u v. u || v) (sym c.is_live.ensures) (sym c.is_live-2.ensures) ∙ sym c.is_one_live.ensures ∙ c.if-is_one_live.false in
    subst (λ (o : OrderState). AddsWrite {E = ℕ} c.args.b c.args.from.now (Err 0) (log_of (g.A.Disk.state m.a.disk).log (g.B.Disk.state m.b.disk).log m.order.events) (log_of (g.A.Disk.state c.write-first.new.self.disk).log (g.B.Disk.state c.write-second.new.self.disk).log o.events)) (sym c.note_lost.ensures)
    (none_log (g.A.Disk.state m.a.disk) (g.B.Disk.state m.b.disk) (g.A.Disk.state c.write-first.new.self.disk).log (g.B.Disk.state c.write-second.new.self.disk).log m.a.live m.b.live c.write-first.new.self.live c.write-second.new.self.live m.a.end m.b.end c.write-first.new.self.end c.write-second.new.self.end c.len-moment.result m.order c.args.b c.args.from.now c.write-first.result c.write-second.result c.came-came.result (subst (λ v. HalfWrites v c.args.b c.args.from.now c.len-moment.result c.write-first.result m.a.live c.write-first.new.self.live m.a.end c.write-first.new.self.end (g.A.Disk.state m.a.disk).log (g.A.Disk.state c.write-first.new.self.disk).log) t.0 c.write-first.ensures.step) (subst (λ v. HalfWrites v c.args.b c.args.from.now c.len-moment.result c.write-second.result m.b.live c.write-second.new.self.live m.b.end c.write-second.new.self.end (g.B.Disk.state m.b.disk).log (g.B.Disk.state c.write-second.new.self.disk).log) t.1 c.write-second.ensures.step) (none_first _ _ none) (none_second _ _ none) (m.told tells))
