use Rattle.std.proofs.Common.{◌≡◌, ◌∙◌, ◌+◌, ◌<◌, ◌≤◌, ℕ, List, Some, None, length, option_map, ap, sym, subst}
use Rattle.disk_mirror.specs.declared.entry.Pair.{Pair}
use Rattle.disk_mirror.specs.Order.{OrderState}
use Rattle.disk_mirror.specs.Twin.{ticket_on, AreAscending}
use Rattle.disk_mirror.proofs.Ascending.{ticket_at, ticket_of}
use Rattle.disk_mirror.proofs.order.Order.ticket_with.Goals as goal

pub returns-in-None-clause-all : goal.returns-in-None-clause-all
returns-in-None-clause-all c =
    let is : c.as_slice.result.now ≡ c.args.self.now.pairs = c.as_slice.ensures.value ∙ ap (λ (s : OrderState). s.pairs) c.self.view_is in
    subst (λ (l : List Pair). AreAscending c.args.side l → (i : ℕ) → ticket_on c.args.side l (Some i) ≡ Some c.args.ticket → None ≡ Some i) is
    (λ up i own. sym (ap (option_map (λ (k : ℕ). k + 1)) c.in-None.is) ∙ ticket_of c.args.side c.as_slice.result.now c.args.ticket c.place_with.result (c.place_with.ensures.all up) i own)

pub returns-in-Some-clause-found : goal.returns-in-Some-clause-found
returns-in-Some-clause-found c =
    let is : c.as_slice.result.now ≡ c.args.self.now.pairs = c.as_slice.ensures.value ∙ ap (λ (s : OrderState). s.pairs) c.self.view_is in
    subst (λ (l : List Pair). (0 < c.in-Some.at + 1) × (c.in-Some.at + 1 ≤ length l) × (ticket_on c.args.side l (Some (c.in-Some.at + 1)) ≡ Some c.args.ticket)) is
    (ticket_at c.args.side c.as_slice.result.now c.in-Some.at c.args.ticket c.in-Some.ensures.found.0 c.in-Some.ensures.found.1)

pub returns-in-Some-clause-all : goal.returns-in-Some-clause-all
returns-in-Some-clause-all c =
    let is : c.as_slice.result.now ≡ c.args.self.now.pairs = c.as_slice.ensures.value ∙ ap (λ (s : OrderState). s.pairs) c.self.view_is in
    subst (λ (l : List Pair). AreAscending c.args.side l → (i : ℕ) → ticket_on c.args.side l (Some i) ≡ Some c.args.ticket → Some (c.in-Some.at + 1) ≡ Some i) is
    (λ up i own. sym (ap (option_map (λ (k : ℕ). k + 1)) c.in-Some.is) ∙ ticket_of c.args.side c.as_slice.result.now c.args.ticket c.place_with.result (c.place_with.ensures.all up) i own)
