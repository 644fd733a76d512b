use Rattle.std.proofs.Common.{◌≡◌, ℕ, ◌+◌, ◌<◌, false, [], ◌∷◌, ◌++◌, length, option_map, sym, ap, ◌∙◌, subst, arith}
use Rattle.std.proofs.lemmas.Result.{err_from_is_err_and}
use Rattle.std.proofs.lemmas.List.{length_push}
use Rattle.layout_geometry.specs.Geometry.{Geometry}
use Rattle.engine_blocks.specs.State.{Bookkeeping}
use Rattle.crash_stands.specs.Bounds.{bounds_of}
use Rattle.fs_files.specs.Calls.{facts_of}
use Rattle.fs_check.specs.declared.looked.Looked.TheVariants.{Unused}
use Rattle.fs_check.specs.Looked.{seen, IsSeen}
use Rattle.fs_check.proofs.FirstLook.{first_seen, seen_push, zero_push, all_seen, link_broken}
use Rattle.fs_check.proofs.Looking.{looks_none, looks_more, same_files}
use Rattle.fs_check.proofs.census.look_at_nodes.Goals as goal

pub loop-node-init : goal.loop-node-init
loop-node-init g c =
    let s = g.S.Blocks.state c.args.blocks.now in
    let items : c.keep.new.nodes.items ≡ Unused ∷ [] = c.in_ok-keep.ensures ∙ ap (λ xs. xs ++ Unused ∷ []) c.new-nodes.ensures.items in
    record {
      looks = looks_none g.S.Blocks.tells s;
      count = ap length items;
      zero = ap (λ xs. seen xs 0) items;
      seen = λ tells. subst (λ xs. (k : ℕ) → k < 1 → IsSeen ((g.N.Nodes.nodes s c.args.files.now).files k) (seen xs k)) (sym items) (first_seen (g.N.Nodes.nodes s c.args.files.now).files c.laws.ensures.zero);
    }

pub look-requires : goal.look-requires
look-requires g c =
    let looks = c.loop-node.invariant.looks in
    record {
      going = ap (λ (b : Bookkeeping). b.stopped) looks.books ∙ c.requires.read.going;
      from = omega (arith, c.loop-node.auto.node);
      upto = omega (arith, c.loop-node-test.true, c.i-node-end.ensures, ap (λ (h : Geometry). h.i) c.geom-geom.ensures, ap (λ (b : Bookkeeping). b.geom.i) looks.books);
      may = c.laws.ensures.stays false c.args.blocks.now c.loop-node.blocks looks c.requires.read.may;
    }

pub returns-in_err-look_of-clause-broken : goal.returns-in_err-look_of-clause-broken
returns-in_err-look_of-clause-broken g c = λ tells.
    let s = g.S.Blocks.state c.args.blocks.now in
    let t = g.S.Blocks.state c.loop-node.blocks in
    let node = c.loop-node.node in
    let facts = c.in_ok-found.ensures.facts tells ∙ ap (λ f. option_map facts_of (f node)) (same_files _ _ (c.laws.ensures.same false c.args.blocks.now c.loop-node.blocks c.loop-node.invariant.looks tells)) in
    let p = err_from_is_err_and c.from_residual-in_err-look_of.result c.from_residual-in_err-look_of.ensures.1 in
    rw (p.1, p.2) (link_broken (bounds_of s.books.geom) node (g.N.Nodes.nodes s c.args.files.now).files c.in_ok-found.found c.in_err-look_of.field-0.0 facts c.in_err-look_of.ensures.broken)

pub loop-node-preserved : goal.loop-node-preserved
loop-node-preserved g c =
    let s = g.S.Blocks.state c.args.blocks.now in
    let t = g.S.Blocks.state c.loop-node.blocks in
    let u = g.S.Blocks.state c.look.new.blocks in
    let node = c.loop-node.node in
    let nodes = c.loop-node.nodes.items in
    let look = c.in_ok-look_of.field-0 in
    let items = c.in_ok-keep-2.ensures in
    record {
      looks = looks_more g.S.Blocks.tells false s t u c.loop-node.invariant.looks c.in_ok-found.ensures.looks;
      count = ap length items ∙ length_push nodes look ∙ ap (λ n. n + 1) c.loop-node.invariant.count;
      zero = ap (λ xs. seen xs 0) items ∙ zero_push nodes node look c.loop-node.invariant.count c.loop-node.auto.node c.loop-node.invariant.zero;
      seen = λ tells.
          let facts = c.in_ok-found.ensures.facts tells ∙ ap (λ f. option_map facts_of (f node)) (same_files _ _ (c.laws.ensures.same false c.args.blocks.now c.loop-node.blocks c.loop-node.invariant.looks tells)) in
          subst (λ xs. (k : ℕ) → k < node + 1 → IsSeen ((g.N.Nodes.nodes s c.args.files.now).files k) (seen xs k)) (sym items)
          (seen_push (g.N.Nodes.nodes s c.args.files.now).files nodes node c.in_ok-found.found look c.loop-node.invariant.count (c.loop-node.invariant.seen tells) facts c.in_ok-look_of.ensures.look);
    }

pub returns-clause-seen : goal.returns-clause-seen
returns-clause-seen g c = λ tells.
    let s = g.S.Blocks.state c.args.blocks.now in
    let most : s.books.geom.i < c.loop-node.node = omega (arith, c.loop-node-test.false, c.i-node-end.ensures, ap (λ (h : Geometry). h.i) c.geom-geom.ensures) in
    all_seen s.books.geom.i (g.N.Nodes.nodes s c.args.files.now).files c.laws.ensures.none c.loop-node.nodes.items c.loop-node.node c.loop-node.invariant.count most (c.loop-node.invariant.seen tells)
