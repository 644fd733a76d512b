use Rattle.std.proofs.Common.{◌∷◌, ◌<◌, ◌∙◌, length, arith}
use Rattle.fs_commands.proofs.listed.Texts.{wrote_more, wrote_front, slashed_next, on_err}
use Rattle.fs_commands.proofs.lines.write_path.Goals as goal

pub loop-name-preserved : goal.loop-name-preserved
loop-name-preserved g c =
    let within : c.loop-name.name-index < length c.args.path.now = omega arith in
    record {
      text = wrote_more _ _ _ _ (47 ∷ c.name-item.result) _ _ c.loop-name.invariant.text
          (slashed_next c.args.path.now c.loop-name.name-index c.name-item.result within c.name-item.is) c.in_ok-write_name.ensures.all;
      faults = c.in_ok-write_name.ensures.cause.1 ∙ c.loop-name.invariant.faults;
    }

pub returns-in_err-write_name-clause-front : goal.returns-in_err-write_name-clause-front
returns-in_err-write_name-clause-front g c =
    let within : c.loop-name.name-index < length c.args.path.now = omega arith in
    on_err _ _ (wrote_front _ _ _ _ (47 ∷ c.name-item.result) _ _ c.loop-name.invariant.text
    (slashed_next c.args.path.now c.loop-name.name-index c.name-item.result within c.name-item.is)
    (c.prefixes_join.ensures.second _ _ _ c.loop-name.invariant.text.done _ c.loop-name.invariant.text.taken (c.prefixes_join.ensures.first _ _ (47 ∷ c.name-item.result) _ c.in_err-write_name.ensures.front)))
