use Rattle.std.proofs.Common.{◌≡◌, inr, true, ◌++◌, [], ◌∷◌, Err, sym, subst, ◌∙◌, rules}
use Rattle.std.proofs.lemmas.Bool.{false≢true}
use Rattle.base_types.specs.Counts.{next_count}
use Rattle.disk_contract.specs.declared.event.Event.TheVariants.{Noticed}
use Rattle.disk_contract.specs.Disk.{IsOpen}
use Rattle.disk_contract.specs.Manner.{HasFailedBy}
use Rattle.disk_memory.specs.declared.calls.DiskCall.TheVariants.{Poll}
use Rattle.disk_memory.specs.MemDisk.{GoesAsKnown, MemDiskState, fails_next, is_listed, manner_of, next_call}
use Rattle.disk_memory.proofs.disk_calls.Manners.{goes_unpolled, known_answer, poll_stalls}
use Rattle.disk_memory.proofs.disk_calls.PollTickets.{polled_open}
use Rattle.disk_memory.proofs.disk.MemDiskDisk.poll.Goals as goal

pub note-requires : goal.note-requires
note-requires c = subst (λ (d : MemDiskState). IsOpen c.in-Some.ticket d.log) (sym c.in-Some.ensures.state) (polled_open c.args.self.now.notices c.args.self.now.log c.in-Some.ticket (sym c.in-Some.ensures.answer))

pub returns-in-Some-clause-log : goal.returns-in-Some-clause-log
returns-in-Some-clause-log c =
    let more : c.note.new.self.log ≡ c.args.self.now.log ++ Noticed c.in-Some.ticket ∷ [] = search rules in
    (polled_open c.args.self.now.notices c.args.self.now.log c.in-Some.ticket (sym c.in-Some.ensures.answer), more)

pub invariant_of-self : goal.invariant_of-self
invariant_of-self c =
    let d = c.self.inside in
    let counted : c.saturating_add-self-inside.result ≡ next_count d.polls = search rules in
    let listed : is_listed Poll (next_call Poll c.args.self.now) d.fails.items ≡ true = search rules in
    (c.self.invariant.0, goes_unpolled d.log.room d.log.events d.notices d.fails.items d.read_faults d.polls d.known (next_call Poll c.args.self.now) _ counted listed c.self.invariant.1, c.self.invariant.2)

pub returns-then-fails_next-clause-reason : goal.returns-then-fails_next-clause-reason
returns-then-fails_next-clause-reason c =
    let d = c.self.inside in
    let listed : is_listed Poll (next_call Poll c.args.self.now) d.fails.items ≡ true = search rules in
    subst (λ (n : MemDiskState). HasFailedBy (manner_of n) n.log) (sym c.fault.ensures.state) (inr (inr (poll_stalls d.log.room d.fails.items d.known (next_call Poll c.args.self.now) listed)))

pub returns-then-fails_next-clause-known : goal.returns-then-fails_next-clause-known
returns-then-fails_next-clause-known c =
    let listed : fails_next Poll c.args.self.now ≡ true = search rules in
    known_answer c.args.self.now (Err c.fault.result) (subst (λ (v : MemDiskState). GoesAsKnown v.room v.log v.notices v.fails v.read_faults v.polls v.known) c.self.view_is c.self.invariant.1) (λ none. absurd (false≢true (sym none ∙ listed)))
