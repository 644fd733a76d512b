use Rattle.std.proofs.Common.{◌+◌, ◌-◌, take, drop, get_or, refl, sym, ◌∙◌, arith, length-take, length-drop}
use Rattle.std.proofs.lemmas.Bool.{both_ways}
use Rattle.fs_snapshots.specs.Nodes.{short_name}
use Rattle.fs_check.proofs.keeping.Names.{spelled, zeros_behind}
use Rattle.fs_check.proofs.named.name_in.Goals as goal

pub returns-then-not-are_zeros-clause-unnamed : goal.returns-then-not-are_zeros-clause-unnamed
returns-then-not-are_zeros-clause-unnamed c = λ name lawful is.
    both_ways _ (sym c.are_zeros.ensures ∙ c.if-not-are_zeros.true) (zeros_behind c.args.block.now name _ lawful is refl)

pub returns-clause-named : goal.returns-clause-named
returns-clause-named c =
    spelled c.fields_tell_their_bytes.ensures.zeros c.args.block.now c.in_ok-name.name _ c.told-block refl
    (omega (arith, c.told-block, short_name (take (1 + get_or c.args.block.now 0 0 - 1) (drop 1 c.args.block.now)) (c.in_ok-name.ensures.found.0 refl), length-take (1 + get_or c.args.block.now 0 0 - 1) (drop 1 c.args.block.now), length-drop 1 c.args.block.now)) c.in_ok-name.ensures.value (sym c.are_zeros.ensures ∙ c.if-not-are_zeros.false)
