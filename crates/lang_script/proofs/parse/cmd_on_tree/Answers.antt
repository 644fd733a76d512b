use Rattle.std.proofs.Common.{◌≤◌, length}
use Rattle.lang_script.proofs.Steps.{many_parts, texts, length_texts}
use Rattle.lang_script.proofs.parse.cmd_on_tree.Goals as goal

pub returns-in-len6-up : goal.returns-in-len6-up
returns-in-len6-up c =
    let many : 6 ≤ length (texts c.args.parts.now) = rw (length_texts c.args.parts.now) c.in-len6-up.len_at_least in
    many_parts (texts c.args.parts.now) many
