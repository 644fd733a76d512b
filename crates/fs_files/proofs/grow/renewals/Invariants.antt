use Rattle.std.proofs.Common.{◌≡◌, ◌≤◌, take}
use Rattle.layout_extent.specs.Renew.{makes_way, renewals}
use Rattle.fs_files.specs.Shared.{is_kept}
use Rattle.fs_files.proofs.grow.renewals.Given as goal

abbrev pub invariant-loop-place : goal.invariant-loop-place
invariant-loop-place l = (l.count ≤ l.place) × (l.count ≡ renewals (makes_way l.from l.past (is_kept l.draft.kept) l.places) 0 (take l.place l.places))
