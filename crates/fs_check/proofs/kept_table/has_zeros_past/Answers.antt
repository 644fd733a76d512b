use Rattle.std.proofs.Common.{◌≡◌, ◌-◌, ◌%◌, rules, refl, sym, ◌∙◌, arith, length}
use Rattle.fs_check.proofs.sound.Tails.{nothing_past, tail_read}
use Rattle.fs_check.proofs.kept_table.has_zeros_past.Goals as goal

pub returns-then-used-eq0-clause-zeros : goal.returns-then-used-eq0-clause-zeros
returns-then-used-eq0-clause-zeros g c = λ tells whole count.
    sym (nothing_past (g.S.Blocks.state c.args.blocks.now).map c.args.places.now c.args.size whole (omega (arith, count, c.if-used-eq0.true)))

pub returns-clause-zeros : goal.returns-clause-zeros
returns-clause-zeros g c = λ tells whole count.
    let last : c.in-Some.last ≡ length c.args.places.now - 1 = search rules in
    c.are_zeros.ensures
    ∙ tail_read (g.S.Blocks.state c.args.blocks.now).map c.args.places.now c.args.size (c.args.size % 1024) c.in-Some.last c.read_block_at.new.into whole count refl (omega (arith, c.if-used-eq0.false)) last
    (c.in_ok-read_block_at.ensures.block tells)
