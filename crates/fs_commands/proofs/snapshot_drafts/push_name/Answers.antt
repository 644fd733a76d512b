use Rattle.std.proofs.Common.{◌∙◌, ◌-◌, ◌++◌, length, ap, arith}
use Rattle.std.proofs.lemmas.List.{take-replicate}
use Rattle.fs_commands.proofs.snapped.Bytes.{name_pieces}
use Rattle.fs_commands.proofs.snapshot_drafts.push_name.Goals as goal

pub returns-clause-bytes : goal.returns-clause-bytes
returns-clause-bytes c =
    name_pieces c.args.bytes.now.items c.extend_from_slice.new.self.items c.extend_from_slice-2.new.self.items c.extend_from_slice-3.new.self.items c.as_bytes-name.result.now c.args.name.now c.as_bytes-name.ensures.value
    c.in_ok-extend_from_slice.ensures.items c.in_ok-extend_from_slice-2.ensures.items
    (c.in_ok-extend_from_slice-3.ensures.items ∙ ap (λ xs. c.extend_from_slice-2.new.self.items ++ xs) (take-replicate (1023 - length c.as_bytes-name.result.now) 1023 0 (omega arith)))
