use Rattle.std.proofs.Common.{◌≡◌, ◌∙◌, ◌+◌, ◌<◌, ◌≤◌, ℕ, List, false, ap, subst, arith}
use Rattle.disk_mirror.specs.declared.entry.Ripe.{Ripe}
use Rattle.disk_mirror.specs.Order.{OrderState}
use Rattle.disk_mirror.specs.Ripe.{is_ripe, ripe_at, IsFirstRipe}
use Rattle.disk_mirror.specs.Rows.{first_ready}
use Rattle.disk_mirror.proofs.Ready.{ready_none, ready_some}
use Rattle.disk_mirror.proofs.order.Order.first_ready.Goals as goal

pub returns-in-None : goal.returns-in-None
returns-in-None c =
    let o = c.self.inside in
    let kept = c.self.invariant in
    let none = subst (λ (l : List Ripe). (i : ℕ) → i < o.size → is_ripe c.args.first c.args.second (ripe_at l (o.size + i)) ≡ false) c.as_slice.ensures.value (c.first_ripe.ensures.none c.in-None.is) in
    ready_none c.args.first c.args.second o.nodes.items o.size o.room o.heard.items c.requires (omega (arith, kept.fits.rows, kept.fits.few)) kept.tree none
    ∙ ap (λ (s : OrderState). first_ready c.args.first c.args.second s.heard) c.self.view_is

pub returns-in-Some : goal.returns-in-Some
returns-in-Some c =
    let o = c.self.inside in
    let kept = c.self.invariant in
    let first = subst (λ (l : List Ripe). IsFirstRipe c.args.first c.args.second l o.size c.in-Some.at) c.as_slice.ensures.value c.in-Some.ensures.some in
    (ready_some c.args.first c.args.second o.nodes.items o.size o.room c.in-Some.at o.heard.items c.requires kept.tree first).1
    ∙ ap (λ (s : OrderState). first_ready c.args.first c.args.second s.heard) c.self.view_is

pub overflow_add-result : goal.overflow_add-result
overflow_add-result c =
    let o = c.self.inside in
    let kept = c.self.invariant in
    let first = subst (λ (l : List Ripe). IsFirstRipe c.args.first c.args.second l o.size c.in-Some.at) c.as_slice.ensures.value c.in-Some.ensures.some in
    omega (arith, (ready_some c.args.first c.args.second o.nodes.items o.size o.room c.in-Some.at o.heard.items c.requires kept.tree first).0, kept.fits.rows, kept.fits.few, kept.fits.short)
