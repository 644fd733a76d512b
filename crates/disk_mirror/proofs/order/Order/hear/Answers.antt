use Rattle.std.proofs.Common.{◌≡◌, ◌∙◌, ◌+◌, ◌-◌, ap, subst, sym, arith, rules, List, length, get_or}
use Rattle.std.proofs.lemmas.List.{with_items_is}
use Rattle.disk_mirror.specs.declared.entry.Ripe.{Ripe}
use Rattle.disk_mirror.specs.Ripe.{ripe_at, ripe_of, IsTree}
use Rattle.disk_mirror.specs.Twin.{unheard}
use Rattle.disk_mirror.specs.Rows.{set_heard}
use Rattle.disk_mirror.proofs.Kept.{tree_set}
use Rattle.disk_mirror.proofs.Rooms.{room_hear, flag-heard}
use Rattle.disk_mirror.proofs.order.Order.hear.Goals as goal

pub invariant_of-self : goal.invariant_of-self
invariant_of-self c =
    let o = c.self.inside in
    let at = c.args.ticket - 1 in
    let row = set_heard c.args.side (get_or o.heard.items at unheard) in
    let new = c.set_leaf.new.nodes in
    let old : c.as_mut_slice.result.now ≡ o.nodes.items = c.as_mut_slice.ensures.value in
    let long : length new ≡ length o.nodes.items = c.set_leaf.ensures.length ∙ ap (λ (l : List Ripe). length l) old in
    let is = with_items_is o.nodes new (omega (arith, long, o.nodes.ok)) in
    let ripe : c.ripe_of-ripe.result ≡ ripe_of row = search rules in
    record {
      fits = room_hear o.events.items o.times.items o.pairs.items o.heard.items c.hear_at.new.rows.items at row o.room _ _ _ _ _ c.self.invariant.fits (search rules) (flag-heard c.args.side (get_or o.heard.items at unheard)) c.hear_at.ensures.rows c.hear_at.ensures.capacity;
      tree = subst (λ (l : List Ripe). IsTree l o.size c.hear_at.new.rows.items o.room) (sym is)
          (tree_set o.nodes.items new o.size o.room at o.heard.items c.hear_at.new.rows.items row c.ripe_of-ripe.result (search rules) c.hear_at.ensures.rows ripe long c.set_leaf.ensures.joins c.set_leaf.ensures.leaf
          (λ n apart. c.set_leaf.ensures.others n apart ∙ ap (λ (l : List Ripe). ripe_at l (o.size + n)) old) c.self.invariant.tree);
    }
