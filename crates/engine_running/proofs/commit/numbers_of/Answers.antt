use Rattle.std.proofs.Common.{◌∙◌, ◌++◌, ◌∷◌, [], List, ℕ, map, ap, refl}
use Rattle.std.proofs.lemmas.List.{take_all}
use Rattle.std.proofs.lemmas.Option.{slice_get_read}
use Rattle.engine_running.specs.declared.put.Put.{Put}
use Rattle.engine_running.specs.Record.{block_of}
use Rattle.engine_running.proofs.spelling.Forms.{push_map}
use Rattle.engine_running.proofs.commit.numbers_of.Goals as goal

pub loop-put-preserved : goal.loop-put-preserved
loop-put-preserved c = record {
  items = c.in_ok-push.ensures.items ∙ ap (λ (l : List ℕ). l ++ c.put-item.result.block ∷ []) c.loop-put.invariant.items
      ∙ push_map block_of c.args.puts.now c.loop-put.put-index c.put-item.result (slice_get_read c.args.puts.now _ c.loop-put.put-index c.put-item.result refl c.loop-put-test.true c.put-item.is);
}

pub returns : goal.returns
returns c = c.loop-put.invariant.items ∙ ap (λ (l : List Put). map block_of l) (take_all c.loop-put.put-index c.args.puts.now c.loop-put-test.false)
