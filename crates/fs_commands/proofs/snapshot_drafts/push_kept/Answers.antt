use Rattle.std.proofs.Common.{◌+◌, ◌-◌, ◌++◌, suc, take, drop, append_assoc, sym, ap, ◌∙◌, arith}
use Rattle.std.specs.List.{range_with_len}
use Rattle.base_types.specs.Layouts.{node_size}
use Rattle.crash_stands.specs.Files.{joined}
use Rattle.crash_snapshots.specs.Kept.{kept_bytes}
use Rattle.fs_commands.specs.Gathering.{kept_at_rank}
use Rattle.fs_commands.proofs.snapped.Bytes.{pieces_more}
use Rattle.fs_commands.proofs.snapshot_drafts.push_kept.Goals as goal

pub loop-rank-preserved : goal.loop-rank-preserved
loop-rank-preserved c =
    let l = c.args.layout in
    let table = c.args.table.now in
    let r = c.loop-rank.rank in
    let old = c.args.bytes.now.items in
    let before = joined (kept_at_rank l table) (range_with_len 0 r) in
    record {
      bytes = c.in_ok-push_node.ensures.bytes
          ∙ ap (λ n. c.loop-rank.bytes.items ++ kept_bytes l (take n (drop c.rank_byte-at.result table))) {x = c.rank_byte-at.result + c.node_length.result - c.rank_byte-at.result} {y = node_size l} (omega (arith, c.node_length.ensures))
          ∙ ap (λ n. c.loop-rank.bytes.items ++ kept_bytes l (take (node_size l) (drop n table))) c.rank_byte-at.ensures
          ∙ ap (λ xs. xs ++ kept_at_rank l table r) c.loop-rank.invariant.bytes
          ∙ append_assoc old before (kept_at_rank l table r)
          ∙ ap (λ n. old ++ (before ++ kept_at_rank l table n)) {x = r} {y = 0 + r} (omega arith)
          ∙ ap (λ xs. old ++ xs) (sym (pieces_more (kept_at_rank l table) 0 r))
          ∙ ap (λ n. old ++ joined (kept_at_rank l table) (range_with_len 0 n)) {x = suc r} {y = r + 1} (omega arith);
    }

pub returns-clause-bytes : goal.returns-clause-bytes
returns-clause-bytes c = c.loop-rank.invariant.bytes
    ∙ ap (λ n. c.args.bytes.now.items ++ joined (kept_at_rank c.args.layout c.args.table.now) (range_with_len 0 n)) (omega (arith, c.loop-rank-test.false, c.loop-rank.auto.rank-end, c.nodes_in_block-rank-end.ensures))
