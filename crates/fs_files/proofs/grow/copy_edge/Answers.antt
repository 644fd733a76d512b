use Rattle.std.proofs.Common.{ℕ, ◌≡◌, ◌/◌, get_or, Option, sym, subst}
use Rattle.std.proofs.lemmas.Option.{get_or_from_slice_get}
use Rattle.base_types.specs.declared.words.Class.{Class}
use Rattle.fs_files.specs.Drafts.{PutsBlock}
use Rattle.fs_files.specs.Growing.{CopiesEdge}
use Rattle.fs_files.specs.Nodes.{class_of}
use Rattle.fs_files.proofs.grow.copy_edge.Goals as goal

pub returns-clause-copies : goal.returns-clause-copies
returns-clause-copies g c =
    let tells = g.S.Blocks.tells in
    let m = (g.S.Blocks.state c.args.blocks.now).map in
    let class = class_of c.args.node.now.kind in
    let ps = c.args.node.now.places in
    let at : c.place-place.result ≡ get_or ps (c.args.at / 1024) 0 = sym (get_or_from_slice_get ps (c.args.at / 1024) c.place-place.result 0 c.place-place.ensures.value) in
    subst (λ (o : Option ℕ). CopiesEdge tells m class (get_or ps (c.args.at / 1024) 0) o c.args.draft.now c.put.new.self) (sym c.in-Some.is)
    (record {
      bytes = c.read.new.into;
      puts = subst (λ b. PutsBlock b (record { class = class; bytes = c.read.new.into }) c.args.draft.now c.put.new.self) at
          (subst (λ (x : Class). PutsBlock c.place-place.result (record { class = x; bytes = c.read.new.into }) c.args.draft.now c.put.new.self) c.class_of.ensures c.in_ok-put.ensures.ok);
      same = λ told whole. c.in_ok-read.ensures.block told whole;
    })
