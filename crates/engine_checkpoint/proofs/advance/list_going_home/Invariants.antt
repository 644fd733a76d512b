use Rattle.std.proofs.Common.{◌≡◌, ◌≤◌, take, vec_len, vec_capacity}
use Rattle.engine_checkpoint.specs.Turns.{going_home}
use Rattle.engine_checkpoint.proofs.advance.list_going_home.Given as goal

abbrev pub invariant-loop-write : goal.invariant-loop-write
invariant-loop-write l = record {
  items : l.into.items ≡ going_home (take l.write-index l.home) l.notes.notes;
  len : vec_len l.into ≤ l.write-index;
  capacity : vec_capacity l.fn.into ≤ vec_capacity l.into;
}
