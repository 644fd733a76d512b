-- Each turn reads one more run.
use Rattle.std.proofs.Common.{◌≡◌, ◌+◌, ◌-◌, ◌*◌, ◌<◌, [], ◌∷◌, ◌++◌, length, drop, refl, ap, sym, ◌∙◌, arith}
use Rattle.layout_bytes.specs.Bytes.{field}
use Rattle.layout_bytes.specs.Node.{runs_in}
use Rattle.layout_node.proofs.ReadRuns.{one_more, run_at, length_one_more}
use Rattle.layout_node.proofs.read.runs_in.Goals as goal

pub loop-k-preserved : goal.loop-k-preserved
loop-k-preserved c =
    let b = c.args.bytes.now in
    let k = c.loop-k.k in
    let more : k < c.args.count = omega (arith, c.loop-k-test.true, c.loop-k.auto.k-end) in
    let run : c.run_in.result ≡ record { first = field b (8 * k) 4; count = field b (8 * k + 4) 4 } = run_at (8 * k + 8 - 8 * k) (8 * k) b c.run_in.result (omega arith) c.run_in.ensures in (
      ap length c.push.ensures ∙ length_one_more c.loop-k.runs _ ∙ ap (λ n. n + 1) c.loop-k.invariant.0,
      c.loop-k.invariant.1
          ∙ one_more c.args.count b k c.loop-k.runs (field b (8 * k) 4) (field b (8 * k + 4) 4) more refl refl
          ∙ ap (λ rs. rs ++ runs_in (c.args.count - (k + 1)) (drop (8 * (k + 1)) b)) (sym (c.push.ensures ∙ ap (λ r. c.loop-k.runs ++ r ∷ []) run)),
    )
