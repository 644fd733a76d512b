use Rattle.std.proofs.Common.{false, length, sym, subst}
use Rattle.std.proofs.lemmas.Result.{err_from_is_err_and}
use Rattle.engine_blocks.specs.State.{Bookkeeping}
use Rattle.crash_stands.specs.Bounds.{bounds_of}
use Rattle.crash_stands.specs.Inodes.{inodes_of}
use Rattle.fs_check.specs.Judged.{Agree, IsWrong}
use Rattle.fs_check.specs.Looked.{seen}
use Rattle.fs_check.specs.Marks.{AreReached}
use Rattle.fs_check.specs.Slots.{IsGoodDir}
use Rattle.fs_check.proofs.Going.{good_all}
use Rattle.fs_check.proofs.Looking.{same_files}
use Rattle.fs_check.proofs.Ruled.{HasFound, tree_files, wrong_broken}
use Rattle.fs_check.proofs.tree.judge_nodes.Goals as goal

pub reach-requires-clause-good : goal.reach-requires-clause-good
reach-requires-clause-good g c = λ tells k.
    let s = g.S.Blocks.state c.args.blocks.now in
    let t = g.S.Blocks.state c.check_directories.new.blocks in
    let nodes = c.args.nodes.now in
    subst (λ (b : Bookkeeping). IsGoodDir nodes (inodes_of b.geom.layout (g.N.Nodes.nodes t c.args.files.now).files) k (seen nodes k)) (sym c.in_ok-named.ensures.looks.books)
    (subst (λ f. IsGoodDir nodes (inodes_of s.books.geom.layout f) k (seen nodes k)) (sym (same_files _ _ (c.laws.ensures.same false c.args.blocks.now c.check_directories.new.blocks c.in_ok-named.ensures.looks tells)))
    (good_all nodes (inodes_of s.books.geom.layout (g.N.Nodes.nodes s c.args.files.now).files) c.in_ok-named.named.items (c.in_ok-named.ensures.went tells) k))

pub returns-in_err-judge-clause-broken : goal.returns-in_err-judge-clause-broken
returns-in_err-judge-clause-broken g c = λ tells.
    let s = g.S.Blocks.state c.args.blocks.now in
    let t = g.S.Blocks.state c.check_directories.new.blocks in
    let files = (g.N.Nodes.nodes s c.args.files.now).files in
    let nodes = c.args.nodes.now in
    let named = c.in_ok-named.named.items in
    let marks = c.in_ok-marks.marks.items in
    let found : HasFound (bounds_of s.books.geom) files nodes named marks = record {
      seen_all = c.requires.seen tells;
      places = c.requires.places;
      went = c.in_ok-named.ensures.went tells;
      reached = subst (λ f. AreReached (inodes_of s.books.geom.layout f) marks) (same_files _ _ (c.laws.ensures.same false c.args.blocks.now c.check_directories.new.blocks c.in_ok-named.ensures.looks tells))
          (subst (λ (b : Bookkeeping). AreReached (inodes_of b.geom.layout (g.N.Nodes.nodes t c.args.files.now).files) marks) c.in_ok-named.ensures.looks.books (c.in_ok-marks.ensures.reached tells));
    } in
    let why = c.in_err-judge.field-0.0 in
    let p = err_from_is_err_and c.from_residual-in_err-judge.result c.from_residual-in_err-judge.ensures.1 in
    rw (p.1, p.2)
    (wrong_broken (bounds_of s.books.geom) files nodes named marks why found
    (subst (λ xs. IsWrong nodes xs marks why) c.as_slice.ensures.value (subst (λ ys. IsWrong nodes c.as_slice.result.now ys why) c.as_slice-2.ensures.value c.in_err-judge.ensures.wrong)))

pub returns-clause-rules : goal.returns-clause-rules
returns-clause-rules g c = λ tells.
    let s = g.S.Blocks.state c.args.blocks.now in
    let t = g.S.Blocks.state c.check_directories.new.blocks in
    let files = (g.N.Nodes.nodes s c.args.files.now).files in
    let nodes = c.args.nodes.now in
    let named = c.in_ok-named.named.items in
    let marks = c.in_ok-marks.marks.items in
    let found : HasFound (bounds_of s.books.geom) files nodes named marks = record {
      seen_all = c.requires.seen tells;
      places = c.requires.places;
      went = c.in_ok-named.ensures.went tells;
      reached = subst (λ f. AreReached (inodes_of s.books.geom.layout f) marks) (same_files _ _ (c.laws.ensures.same false c.args.blocks.now c.check_directories.new.blocks c.in_ok-named.ensures.looks tells))
          (subst (λ (b : Bookkeeping). AreReached (inodes_of b.geom.layout (g.N.Nodes.nodes t c.args.files.now).files) marks) c.in_ok-named.ensures.looks.books (c.in_ok-marks.ensures.reached tells));
    } in
    tree_files (bounds_of s.books.geom) files nodes named marks found c.requires.root
    (subst (λ xs. Agree nodes xs marks (length nodes)) c.as_slice.ensures.value (subst (λ ys. Agree nodes c.as_slice.result.now ys (length nodes)) c.as_slice-2.ensures.value c.in_ok-judge.ensures.agree))
