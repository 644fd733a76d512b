-- The sync points of a run with a dsync, and which of them crashes may leave, moment by moment.
use Rattle.std.proofs.Common.{◌≡◌, ℕ, true, false, List, [], ◌∷◌, map, ap, arith}
use Rattle.std.specs.List.{range_with_len}
use Rattle.std.specs.FinMap.{insert, empty}
use Rattle.lang_tree.specs.declared.command.Cmd.{Cmd}
use Rattle.lang_tree.specs.declared.command.Cmd.TheVariants.{Create, Write, Osync, Dsync}
use Rattle.lang_tree.specs.declared.command.Reply.{Reply}
use Rattle.lang_tree.specs.declared.command.Reply.TheVariants.{Ok as Done, Synced, DurableAt}
use Rattle.lang_tree.specs.Tree.{Dir, File, alone, in_layout_one}
use Rattle.lang_tree.specs.Step.{Session, start, step}
use Rattle.lang_tree.specs.Points.{Point, points_after, begun_by, top}
use Rattle.lang_tree.proofs.runs.Examples.{a, with_a, create_a, name_at, node_at}

abbrev pub asked : List Cmd
asked = Create a ∷ Osync ∷ Write a 0 (104 ∷ 105 ∷ []) ∷ Osync ∷ Dsync ∷ []

abbrev pub answered : List Reply
answered = Done ∷ Synced 1 ∷ Done ∷ Synced 2 ∷ DurableAt 2 ∷ []

abbrev pub marks : List ℕ
marks = 2 ∷ 5 ∷ 6 ∷ 9 ∷ 13 ∷ []

abbrev synced : Session
synced = record with_a { points = 1; changed = false }

abbrev written : Session
written = record synced {
  tree = alone (insert (insert empty [] 1) a 2) (insert (insert (insert empty 1 Dir) 2 (File [])) 2 (File (104 ∷ 105 ∷ [])));
  changed = true;
}

write_a : step synced (Write a 0 (104 ∷ 105 ∷ [])) ≡ (written, Done)
write_a = simp (name_at, node_at)

abbrev point_1 : Point
point_1 = record { tree = with_a.tree; begun = 2 }

abbrev point_2 : Point
point_2 = record { tree = written.tree; begun = 6 }

points_are : points_after (start (in_layout_one 16)) 2 asked answered marks ≡ point_1 ∷ point_2 ∷ []
points_are = grind (arith, a, create_a, write_a)

pub tops : map (λ k. top k (start (in_layout_one 16)) 2 asked answered marks) (range_with_len 0 14) ≡ 0 ∷ 0 ∷ 1 ∷ 1 ∷ 1 ∷ 1 ∷ 2 ∷ 2 ∷ 2 ∷ 2 ∷ 2 ∷ 2 ∷ 2 ∷ 2 ∷ []
tops = ap (λ points. map (λ k. begun_by k points) (range_with_len 0 14)) points_are
