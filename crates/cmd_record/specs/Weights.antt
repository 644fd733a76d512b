-- What the commands of a run may have taken of the ring and of the data blocks at most, by what they weigh and need, as if nothing had come back. It is described in docs/PROMISES.md.
use Rattle.std.specs.Prelude.{ℕ, ◌+◌, if◌then◌else◌, List, [], ◌∷◌}
use Rattle.layout_geometry.specs.Geometry.{Geometry, bitmap_blocks}
use Rattle.lang_tree.specs.declared.command.Cmd.{Cmd}
use Rattle.lang_tree.specs.declared.command.Reply.{Reply}
use Rattle.lang_tree.specs.Points.{after_reply, is_refusal, is_sync}
use Rattle.lang_tree.specs.Step.{Session}
use Rattle.cmd_session.specs.Budget.{most_need, sync_places, weight_by}

-- the ring places that the records of all syncs may have, each by what the transaction weighs at most
abbrev pub places_by_weight : Geometry → Session → ℕ → List Cmd → List Reply → ℕ
places_by_weight g f w [] replies = 0
places_by_weight g f w (cmd ∷ cmds) [] = 0
places_by_weight g f w (cmd ∷ cmds) (reply ∷ replies) =
    (if is_sync cmd then sync_places w else 0) + places_by_weight g (after_reply f cmd reply) (weight_by (bitmap_blocks g) f w cmd reply) cmds replies

-- the data blocks that all commands need at most, whatever blocks snapshots keep
abbrev pub blocks_needed : Geometry → Session → List Cmd → List Reply → ℕ
blocks_needed g f [] replies = 0
blocks_needed g f (cmd ∷ cmds) [] = 0
blocks_needed g f (cmd ∷ cmds) (reply ∷ replies) = (if is_refusal reply then 0 else most_need (bitmap_blocks g) f cmd) + blocks_needed g (after_reply f cmd reply) cmds replies
