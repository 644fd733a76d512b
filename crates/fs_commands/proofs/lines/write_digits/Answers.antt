use Rattle.std.proofs.Common.{◌∙◌}
use Rattle.std.specs.Slice.Iter.{chunks_rest}
use Rattle.hex.specs.Hex.{encode_lower}
use Rattle.fs_commands.proofs.listed.Texts.{wrote_more, wrote_front, wrote_all, digits_next, no_digits, on_err}
use Rattle.fs_commands.proofs.lines.write_digits.Goals as goal

pub loop-chunk-preserved : goal.loop-chunk-preserved
loop-chunk-preserved g c =
    record {
      text = wrote_more _ _ _ _ (encode_lower c.in-Some.chunk.now) _ _ c.loop-chunk.invariant.text
          (digits_next (chunks_rest c.loop-chunk.chunk-iterator) c.in-Some.chunk.now (chunks_rest c.next.new.self) c.in-Some.ensures.steps.1.0) c.in_ok-write_chunk.ensures.all;
      size = c.next.ensures.steps.0 ∙ c.loop-chunk.invariant.size;
      faults = c.in_ok-write_chunk.ensures.cause.1 ∙ c.loop-chunk.invariant.faults;
    }

pub returns-in_err-write_chunk-clause-front : goal.returns-in_err-write_chunk-clause-front
returns-in_err-write_chunk-clause-front g c =
    on_err _ _ (wrote_front _ _ _ _ (encode_lower c.in-Some.chunk.now) _ _ c.loop-chunk.invariant.text
    (digits_next (chunks_rest c.loop-chunk.chunk-iterator) c.in-Some.chunk.now (chunks_rest c.next.new.self) c.in-Some.ensures.steps.1.0)
    (c.prefixes_join.ensures.second _ _ _ c.loop-chunk.invariant.text.done _ c.loop-chunk.invariant.text.taken (c.prefixes_join.ensures.first _ _ (encode_lower c.in-Some.chunk.now) _ c.in_err-write_chunk.ensures.front)))

pub returns-clause-all : goal.returns-clause-all
returns-clause-all g c = wrote_all _ _ _ _ c.loop-chunk.invariant.text (no_digits (chunks_rest c.loop-chunk.chunk-iterator) c.in-None.ensures.steps.1.0)
