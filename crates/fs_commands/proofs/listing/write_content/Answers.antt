use Rattle.std.proofs.Common.{false, ap, ◌∙◌, arith}
use Rattle.engine_blocks.specs.State.{Bookkeeping}
use Rattle.fs_files.specs.NodeMaps.{NodeMap}
use Rattle.fs_commands.proofs.looking.Found.{looks_more}
use Rattle.fs_commands.proofs.listed.Texts.{on_err}
use Rattle.fs_commands.proofs.listed.Contents.{blank_front, stays_front, digits_front, digits_more, digits_done}
use Rattle.fs_commands.proofs.listing.write_content.Goals as goal

pub returns-in_err-push_all-clause-front : goal.returns-in_err-push_all-clause-front
returns-in_err-push_all-clause-front g c = λ told.
    on_err _ _ (blank_front (g.N.Nodes.nodes (g.S.Blocks.state c.args.blocks.now) c.args.files.now).files c.args.number c.args.size _ _ c.prefixes_join.ensures.first c.if-size-eq0.false c.in_err-push_all.ensures.front)

pub read_at-requires-clause-look : goal.read_at-requires-clause-look
read_at-requires-clause-look g c =
    let looks = c.loop-at.invariant.looks in
    record {
      going = ap (λ (b : Bookkeeping). b.stopped) looks.books ∙ c.requires.read.look.going;
      from = c.requires.read.look.from;
      upto = omega (arith, c.requires.read.look.upto, ap (λ (b : Bookkeeping). b.geom.i) looks.books);
      may = c.laws.ensures.stays false c.args.blocks.now c.loop-at.blocks looks c.requires.read.look.may;
    }

pub read_at-requires-clause-used : goal.read_at-requires-clause-used
read_at-requires-clause-used g c = λ told.
    let used = c.requires.read.used told in
    (used.0, ap (λ (n : NodeMap). n.files c.args.number) (c.laws.ensures.same false c.args.blocks.now c.loop-at.blocks c.loop-at.invariant.looks told) ∙ used.1)

pub returns-in_err-bytes-clause-front : goal.returns-in_err-bytes-clause-front
returns-in_err-bytes-clause-front g c = λ told.
    on_err _ _ (stays_front (g.N.Nodes.nodes (g.S.Blocks.state c.args.blocks.now) c.args.files.now).files c.args.number c.args.size _ c.loop-at.at _ (c.loop-at.invariant.text told))

pub returns-in_err-write_digits-clause-front : goal.returns-in_err-write_digits-clause-front
returns-in_err-write_digits-clause-front g c = λ told.
    let old = g.S.Blocks.state c.args.blocks.now in
    let files = (g.N.Nodes.nodes old c.args.files.now).files in
    let same = c.laws.ensures.same false c.args.blocks.now c.loop-at.blocks c.loop-at.invariant.looks told in
    on_err _ _ (digits_front files c.args.number c.args.size _ c.loop-at.at c.min-count.result c.as_slice.result.now _ _ (c.loop-at.invariant.text told)
    (λ x at. c.as_slice.ensures ∙ c.in_ok-bytes.ensures.bytes told x (ap (λ (n : NodeMap). n.files c.args.number) same ∙ at))
    c.prefixes_join.ensures.first c.prefixes_join.ensures.second c.in_err-write_digits.ensures.front)

pub loop-at-preserved : goal.loop-at-preserved
loop-at-preserved g c =
    let old = g.S.Blocks.state c.args.blocks.now in
    let mid = g.S.Blocks.state c.loop-at.blocks in
    record {
      looks = looks_more g.S.Blocks.tells false old mid (g.S.Blocks.state c.read_at.new.blocks) c.loop-at.invariant.looks c.in_ok-bytes.ensures.looks;
      faults = c.in_ok-write_digits.ensures.cause.1 ∙ c.loop-at.invariant.faults;
      within = omega (arith, c.min-count.ensures, c.loop-at-test.true);
      text = λ told.
          let same = c.laws.ensures.same false c.args.blocks.now c.loop-at.blocks c.loop-at.invariant.looks told in
          digits_more (g.N.Nodes.nodes old c.args.files.now).files c.args.number c.args.size _ c.loop-at.at c.min-count.result c.as_slice.result.now _ _ (c.loop-at.invariant.text told)
          (λ x at. c.as_slice.ensures ∙ c.in_ok-bytes.ensures.bytes told x (ap (λ (n : NodeMap). n.files c.args.number) same ∙ at))
          c.in_ok-write_digits.ensures.all;
    }

pub returns-clause-all : goal.returns-clause-all
returns-clause-all g c = λ told.
    digits_done (g.N.Nodes.nodes (g.S.Blocks.state c.args.blocks.now) c.args.files.now).files c.args.number c.args.size _ c.loop-at.at _ c.loop-at-test.false (c.loop-at.invariant.text told)
