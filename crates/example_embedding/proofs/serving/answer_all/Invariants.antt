use Rattle.std.proofs.Common.{◌≡◌, ◌+◌, ◌≤◌, ℕ, [], length, take, IsTrue, vec_len, vec_capacity}
use Rattle.layout_geometry.specs.Geometry.{Geometry}
use Rattle.lang_tree.specs.Tree.{Tree}
use Rattle.engine_store.specs.StoreOf.{state_of}
use Rattle.fs_commands.specs.Opened.{blocks_in}
use Rattle.cmd_session.specs.Serving.{HasServed}
use Rattle.example_embedding.proofs.serving.answer_all.Given as goal

-- so many commands were answered
abbrev pub invariant-loop-place : goal.invariant-loop-place
invariant-loop-place g l = record {
  served : IsTrue g.D.Disk.tells → (k : Geometry) (t : Tree) (mounted : ℕ) → HasServed k t mounted [] [] [] (state_of g.D.Disk.state (blocks_in l.fn.files))
      → HasServed k t mounted (take l.place l.cmds) l.replies.items l.marks.items (state_of g.D.Disk.state (blocks_in l.files));
  base : IsTrue g.D.Disk.tells → (state_of g.D.Disk.state (blocks_in l.files)).crash.base ≡ (state_of g.D.Disk.state (blocks_in l.fn.files)).crash.base;
  replies : vec_len l.replies ≡ vec_len l.fn.replies + l.place;
  replies_room : vec_capacity l.replies ≡ vec_capacity l.fn.replies;
  marks : vec_len l.marks ≡ vec_len l.fn.marks + l.place;
  marks_room : vec_capacity l.marks ≡ vec_capacity l.fn.marks;
  upto : l.place ≤ length l.cmds;
}
