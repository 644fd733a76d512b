use Rattle.std.proofs.Common.{◌∙◌, ap, arith, ◌++◌, take}
use Rattle.lang_tree.specs.Listing.{listing}
use Rattle.cmd_replay.specs.Comparing.{ComparingState, taken_by}
use Rattle.cmd_replay.proofs.Comparisons.{broken_tells, whole_tells}
use Rattle.cmd_replay.proofs.comparing.is_listed.Goals as goal

pub returns-in-Ok : goal.returns-in-Ok
returns-in-Ok c = c.is_whole.ensures ∙ whole_tells c.args.text.now (listing c.args.tree.now.tree) c.listing-listed.new.out (c.in-Ok.ensures.all ∙ ap (λ s. taken_by s ++ listing c.args.tree.now.tree) c.new-out.ensures)

pub returns-in-Err : goal.returns-in-Err
returns-in-Err c =
    let told = c.in-Err.ensures in
    broken_tells c.args.text.now (listing c.args.tree.now.tree) told.front.0 c.listing-listed.new.out c.lawful.ensures (omega (arith, told.cause.1, ap (λ (s : ComparingState). s.faults) c.new-out.ensures))
    (told.front.1 ∙ ap (λ s. taken_by s ++ take told.front.0 (listing c.args.tree.now.tree)) c.new-out.ensures)
