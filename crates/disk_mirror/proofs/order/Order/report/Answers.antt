use Rattle.std.proofs.Common.{rules, arith, ◌≡◌, ◌<◌, ◌+◌, ◌-◌, List, length, false, get_or, sym, ap, subst, ◌∙◌}
use Rattle.std.proofs.lemmas.List.{with_items_is}
use Rattle.disk_mirror.specs.declared.entry.Entry.TheVariants.{Reported}
use Rattle.disk_mirror.specs.declared.entry.Ripe.{Ripe}
use Rattle.disk_mirror.specs.Order.{OrderState}
use Rattle.disk_mirror.specs.Ripe.{ripe_at, ripe_of, IsTree}
use Rattle.disk_mirror.specs.Twin.{unheard, heard_of}
use Rattle.disk_mirror.specs.Rows.{set_reported}
use Rattle.disk_mirror.proofs.Kept.{tree_set}
use Rattle.disk_mirror.proofs.Rooms.{flag, flag_none, row_at, room_report, report_fits}
use Rattle.disk_mirror.proofs.order.Order.report.Goals as goal

pub add-requires : goal.add-requires
add-requires c =
    let o = c.self.inside in
    let fresh = subst (λ (s : OrderState). (heard_of s.heard c.args.ticket).reported ≡ false) (sym c.self.view_is) c.requires.fresh in
    let none = ap flag (sym (row_at o.heard.items c.args.ticket c.requires.positive)) ∙ flag_none (heard_of o.heard.items c.args.ticket) fresh in
    let low : c.args.ticket - 1 < length o.heard.items = search rules in
    omega (arith, (report_fits o.events.items o.times.items o.pairs.items o.heard.items (c.args.ticket - 1) o.room _ _ _ _ c.self.invariant.fits low none).0, o.events.ok)

pub add-requires-2 : goal.add-requires-2
add-requires-2 c =
    let o = c.self.inside in
    let fresh = subst (λ (s : OrderState). (heard_of s.heard c.args.ticket).reported ≡ false) (sym c.self.view_is) c.requires.fresh in
    let none = ap flag (sym (row_at o.heard.items c.args.ticket c.requires.positive)) ∙ flag_none (heard_of o.heard.items c.args.ticket) fresh in
    let low : c.args.ticket - 1 < length o.heard.items = search rules in
    omega (arith, (report_fits o.events.items o.times.items o.pairs.items o.heard.items (c.args.ticket - 1) o.room _ _ _ _ c.self.invariant.fits low none).1, o.times.ok)

pub invariant_of-self : goal.invariant_of-self
invariant_of-self c =
    let o = c.self.inside in
    let at = c.args.ticket - 1 in
    let row = set_reported (get_or o.heard.items at unheard) in
    let fresh = subst (λ (s : OrderState). (heard_of s.heard c.args.ticket).reported ≡ false) (sym c.self.view_is) c.requires.fresh in
    let none = ap flag (sym (row_at o.heard.items c.args.ticket c.requires.positive)) ∙ flag_none (heard_of o.heard.items c.args.ticket) fresh in
    let new = c.set_leaf.new.nodes in
    let old : c.as_mut_slice.result.now ≡ o.nodes.items = c.as_mut_slice.ensures.value in
    let long : length new ≡ length o.nodes.items = c.set_leaf.ensures.length ∙ ap (λ (l : List Ripe). length l) old in
    let is = with_items_is o.nodes new (omega (arith, long, o.nodes.ok)) in
    let ripe : c.ripe_of-ripe.result ≡ ripe_of row = search rules in
    record {
      fits = room_report o.events.items c.add.new.row.items o.times.items c.add-2.new.row.items o.pairs.items o.heard.items c.report_at.new.rows.items at row (Reported c.args.ticket) c.args.came o.room _ _ _ _ _ _ _ c.self.invariant.fits (search rules) (search rules) none c.add.ensures.items c.add-2.ensures.items c.report_at.ensures.rows c.add.ensures.capacity c.add-2.ensures.capacity c.report_at.ensures.capacity;
      tree = subst (λ (l : List Ripe). IsTree l o.size c.report_at.new.rows.items o.room) (sym is)
          (tree_set o.nodes.items new o.size o.room at o.heard.items c.report_at.new.rows.items row c.ripe_of-ripe.result (search rules) c.report_at.ensures.rows ripe long c.set_leaf.ensures.joins c.set_leaf.ensures.leaf
          (λ n apart. c.set_leaf.ensures.others n apart ∙ ap (λ (l : List Ripe). ripe_at l (o.size + n)) old) c.self.invariant.tree);
    }
