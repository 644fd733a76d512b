use Rattle.std.proofs.Common.{◌≡◌, ◌≤◌, ◌-◌, ◌++◌, length, map, drop}
use Rattle.std.specs.Prelude.{reverse}
use Rattle.std.specs.List.{filter}
use Rattle.cmd_upgrade.proofs.walk.add_dirs.Given as goal

abbrev pub invariant-loop-place : goal.invariant-loop-place
invariant-loop-place l = record {
  from : l.before ≤ l.place;
  upto : l.place ≤ length l.plan.entries.items;
  dirs : l.todo.items ≡ l.fn.todo.items ++ reverse (map (λ e. e.path) (filter (λ e. e.is_dir) (drop l.place l.plan.entries.items)));
}

-- the entries that are left
abbrev pub decreases-loop-place : goal.decreases-loop-place
decreases-loop-place l = l.place - l.before
