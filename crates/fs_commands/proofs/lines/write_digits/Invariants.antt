use Rattle.std.proofs.Common.{◌≡◌}
use Rattle.std.specs.Slice.Iter.{chunks_rest, chunks_size}
use Rattle.hex.specs.Hex.{encode_lower}
use Rattle.fs_commands.proofs.listed.Texts.{Wrote}
use Rattle.fs_commands.proofs.lines.write_digits.Given as goal

abbrev pub invariant-loop-chunk : goal.invariant-loop-chunk
invariant-loop-chunk g l = record {
  text : Wrote (g.K.Sink.taken l.fn.out) (g.K.Sink.taken l.out) (encode_lower (chunks_rest l.chunk-iterator)) (encode_lower l.bytes);
  size : chunks_size l.chunk-iterator ≡ 512;
  faults : g.K.Sink.faults l.out ≡ g.K.Sink.faults l.fn.out;
}
