use Rattle.std.proofs.Common.{◌≡◌, ◌<◌, ◌^◌, false, Some, subst, ap, ◌∙◌}
use Rattle.base_types.specs.declared.layout.Layout.{Layout}
use Rattle.base_types.specs.Layouts.{slots_held}
use Rattle.layout_geometry.specs.Geometry.{Geometry}
use Rattle.layout_bytes.specs.declared.node.NodeKind.TheVariants.{Dir}
use Rattle.fs_files.specs.Calls.{IsUsed}
use Rattle.fs_dirs.proofs.reading.Kinds.{counts, facts_are, if_any}
use Rattle.fs_dirs.proofs.reading.Looks.{same_layout}
use Rattle.fs_dirs.proofs.lookup.count_slots.Goals as goal

pub returns-clause-count : goal.returns-clause-count
returns-clause-count g c = λ told x is.
    let s = g.S.Blocks.state c.args.blocks.now in
    let o = (g.N.Nodes.nodes s c.args.files.now).files c.args.number in
    let l = s.books.geom.layout in
    let same : c.layout.result ≡ l = c.layout.ensures ∙ ap (λ (h : Geometry). h.layout) c.geom.ensures ∙ same_layout g.S.Blocks.tells false s (g.S.Blocks.state c.look.new.blocks) c.in_ok-facts.ensures.looks in
    counts l o x c.in-Some.facts c.slots_of.result is (facts_are o c.in_ok-facts.field-0 c.in-Some.facts (c.in_ok-facts.ensures.facts told) c.in-Some.is) c.slots_of.ensures.file
    (subst (λ (y : Layout). c.in-Some.facts.kind ≡ Dir → slots_held y c.in-Some.facts.size < 2 ^ 24 → c.slots_of.result ≡ Some (slots_held y c.in-Some.facts.size)) same c.slots_of.ensures.dir)
    (λ file slots at kind reads. c.slots_follow_the_bytes.ensures.count l file slots reads (c.laws.ensures.slots told c.requires.may c.args.number file at kind))
    (λ file at. c.laws.ensures.few told c.requires.may c.args.number file at)

pub returns-clause-used : goal.returns-clause-used
returns-clause-used g c = λ told.
    let f = (g.N.Nodes.nodes (g.S.Blocks.state c.args.blocks.now) c.args.files.now).files in
    let r = facts_are (f c.args.number) c.in_ok-facts.field-0 c.in-Some.facts (c.in_ok-facts.ensures.facts told) c.in-Some.is in
    if_any c.slots_of.result (IsUsed f c.args.number) (r.0, r.1)
