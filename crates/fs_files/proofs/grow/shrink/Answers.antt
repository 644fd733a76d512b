use Rattle.std.proofs.Common.{◌≡◌, ◌-◌, ◌+◌, take, drop, sym, ap, subst, ◌∙◌, arith}
use Rattle.fs_files.specs.Drafts.{DraftState, FreesBlocks}
use Rattle.fs_files.specs.Growing.{alone}
use Rattle.fs_files.specs.Shared.{is_kept}
use Rattle.fs_files.proofs.drafts.Listed.{frees_next, frees_past}
use Rattle.fs_files.proofs.grow.shrink.Goals as goal
use Rattle.fs_files.proofs.grow.shrink.Goals.{then-not-keeps+in_ok-free, else-not-keeps}

pub loop-i-preserved : goal.loop-i-preserved
loop-i-preserved c =
    let kept = is_kept c.args.draft.now.kept in
    let told : c.keeps.result ≡ kept c.place-block.result = c.keeps.ensures ∙ ap (λ ks. is_kept ks c.place-block.result) c.loop-i.invariant.1.kept in (
      omega (arith, c.loop-i.invariant.0),
      elim c.if-not-keeps.branch [
        | then-not-keeps+in_ok-free w ↦ subst (λ (e : DraftState). FreesBlocks (alone kept (take (c.loop-i.i + 1 - c.args.count) (drop c.args.count c.args.node.now.places))) c.args.draft.now e) (sym w.draft-is)
            (frees_next kept c.args.node.now.places c.args.count c.loop-i.i c.place-block.result c.args.draft.now c.loop-i.draft w.free.new.self c.loop-i.invariant.0 c.place-block.ensures.value (sym told ∙ w.if-not-keeps.true) c.loop-i.invariant.1 w.in_ok-free.ensures)
        | else-not-keeps w ↦ subst (λ (e : DraftState). FreesBlocks (alone kept (take (c.loop-i.i + 1 - c.args.count) (drop c.args.count c.args.node.now.places))) c.args.draft.now e) (sym w.draft-is)
            (frees_past kept c.args.node.now.places c.args.count c.loop-i.i c.place-block.result c.args.draft.now c.loop-i.draft c.loop-i.invariant.0 c.place-block.ensures.value (sym told ∙ w.if-not-keeps.false) c.loop-i.invariant.1)
      ],
    )
