use Rattle.std.proofs.Common.{◌≡◌, ◌<◌, ◌^◌, false, All, Some, option_map, refl, sym, subst, ap, ◌∙◌}
use Rattle.base_types.specs.declared.layout.Layout.{Layout}
use Rattle.base_types.specs.Layouts.{slots_held}
use Rattle.layout_geometry.specs.Geometry.{Geometry}
use Rattle.layout_bytes.specs.declared.node.NodeKind.TheVariants.{Dir}
use Rattle.engine_blocks.specs.Puts.{IsData}
use Rattle.fs_files.specs.declared.node_blocks.OpenFile.{OpenFile}
use Rattle.fs_dirs.proofs.reading.Kinds.{counts, facts_are}
use Rattle.fs_dirs.proofs.reading.Looks.{of_found, opened_stays, same_layout}
use Rattle.fs_dirs.proofs.lookup.open_directory.Goals as goal

pub returns-in_default-slots_of : goal.returns-in_default-slots_of
returns-in_default-slots_of g c = record {
  opened = tt;
  none = λ told x is.
      let o = (g.N.Nodes.nodes (g.S.Blocks.state c.args.blocks.now) c.args.files.now).files in
      let l = (g.S.Blocks.state c.args.blocks.now).books.geom.layout in
      let same : c.layout-layout.result ≡ l = c.layout-layout.ensures ∙ ap (λ (h : Geometry). h.layout) c.geom.ensures ∙ same_layout g.S.Blocks.tells false (g.S.Blocks.state c.args.blocks.now) (g.S.Blocks.state c.open.new.blocks) c.in_ok-file.ensures.looks in
      sym c.in_default-slots_of.is
      ∙ counts l (o c.args.number) x c.in-Some.file.facts c.slots_of.result is
      (facts_are (o c.args.number) _ c.in-Some.file.facts (c.in_ok-file.ensures.facts told) (ap (option_map (λ (f : OpenFile). f.facts)) c.in-Some.is))
      c.slots_of.ensures.file (subst (λ (y : Layout). c.in-Some.file.facts.kind ≡ Dir → slots_held y c.in-Some.file.facts.size < 2 ^ 24 → c.slots_of.result ≡ Some (slots_held y c.in-Some.file.facts.size)) same c.slots_of.ensures.dir)
      (λ file slots at kind reads. c.slots_follow_the_bytes.ensures.count l file slots reads (c.laws.ensures.slots told c.requires.may c.args.number file at kind))
      (λ file at. c.laws.ensures.few told c.requires.may c.args.number file at);
  looks = c.in_ok-file.ensures.looks;
}

pub returns : goal.returns
returns g c =
    let s = g.S.Blocks.state c.args.blocks.now in
    let t = g.S.Blocks.state c.open.new.blocks in
    let v = g.N.Nodes.nodes s c.args.files.now in
    let o = v.files in
    let l = s.books.geom.layout in
    let same : c.layout-layout.result ≡ l = c.layout-layout.ensures ∙ ap (λ (h : Geometry). h.layout) c.geom.ensures ∙ same_layout g.S.Blocks.tells false (g.S.Blocks.state c.args.blocks.now) (g.S.Blocks.state c.open.new.blocks) c.in_ok-file.ensures.looks in
    record {
      opened = (
        refl,
        opened_stays g.S.Blocks.tells false s t c.in_ok-file.ensures.looks v _ _ (c.laws.ensures.same false c.args.blocks.now c.open.new.blocks c.in_ok-file.ensures.looks) (record {
          number = record { from = c.requires.from; upto = c.requires.upto };
          count = λ told x is.
              sym c.in-Some-slots_of.is
              ∙ counts l (o c.args.number) x c.in-Some.file.facts c.slots_of.result is
              (facts_are (o c.args.number) _ c.in-Some.file.facts (c.in_ok-file.ensures.facts told) (ap (option_map (λ (f : OpenFile). f.facts)) c.in-Some.is))
              c.slots_of.ensures.file (subst (λ (y : Layout). c.in-Some.file.facts.kind ≡ Dir → slots_held y c.in-Some.file.facts.size < 2 ^ 24 → c.slots_of.result ≡ Some (slots_held y c.in-Some.file.facts.size)) same c.slots_of.ensures.dir)
              (λ file slots at kind reads. c.slots_follow_the_bytes.ensures.count l file slots reads (c.laws.ensures.slots told c.requires.may c.args.number file at kind))
              (λ file at. c.laws.ensures.few told c.requires.may c.args.number file at);
          few = of_found (λ n. n < 2 ^ 24) _ _ c.in-Some-slots_of.is c.slots_of.ensures.few;
          blocks = λ told. of_found (λ (f : OpenFile). f.blocks ≡ v.places c.args.number) _ _ c.in-Some.is (c.in_ok-file.ensures.places told);
          inside = of_found (λ (f : OpenFile). All (IsData s.books.geom) f.blocks) _ _ c.in-Some.is c.in_ok-file.ensures.data;
        }),
      );
      none = λ told. tt;
      looks = c.in_ok-file.ensures.looks;
    }
