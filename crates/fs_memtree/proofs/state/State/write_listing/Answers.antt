use Rattle.std.proofs.Common.{◌≡◌, ◌∙◌, ◌++◌, ℕ, List, Some, ap, sym, subst, rules}
use Rattle.std.specs.List.{AllByRecursion}
use Rattle.std.specs.FinMap.{get, entries}
use Rattle.base_io.specs.Prefix.{TakesPrefix}
use Rattle.lang_tree.specs.Listing.{path_lines, snapshot_lines}
use Rattle.fs_memtree.specs.declared.snapshots.Snapshot.{Snapshot}
use Rattle.fs_memtree.specs.Kept.{tree_of}
use Rattle.fs_memtree.specs.Snapshots.{kept_by}
use Rattle.fs_memtree.proofs.keys.Snaps.{each_there, entries_there}
use Rattle.fs_memtree.proofs.outputs.Pieces.{wrote_first, wrote_more, wrote_all, wrote_front, on_err}
use Rattle.fs_memtree.proofs.outputs.SnapshotLines.{kept_lines, listing_is}
use Rattle.fs_memtree.proofs.state.State.write_listing.Goals as goal

pub write_nodes-requires : goal.write_nodes-requires
write_nodes-requires g c = (c.args.self.now.limit, c.requires.map)

pub returns-in_err-write_nodes-clause-front : goal.returns-in_err-write_nodes-clause-front
returns-in_err-write_nodes-clause-front g c =
    let s = c.args.self.now in
    on_err _ _ (subst (TakesPrefix _ _) (listing_is s)
    (c.prefixes_join.ensures.first _ _ (path_lines (tree_of s.nodes).names (tree_of s.nodes).nodes) _ c.in_err-write_nodes.ensures.front))

pub loop-name-init : goal.loop-name-init
loop-name-init g c =
    let s = c.args.self.now in
    let started = c.into_iter-name-iterator.ensures.into_iter_gives in
    let es = c.entries-name-items.result.now.entries in
    let all : c.into_iter-name-iterator.result ≡ entries s.kept = started.0 ∙ sym (entries_there es s.kept started.5 c.entries-name-items.ensures) in
    record {
      text = wrote_first _ _ (path_lines (tree_of s.nodes).names (tree_of s.nodes).nodes) _ _ c.in_ok-write_nodes.ensures.all
          (ap (λ (es : List (List ℕ × Snapshot)). path_lines (tree_of s.nodes).names (tree_of s.nodes).nodes ++ kept_lines es) all ∙ listing_is s);
      faults = c.in_ok-write_nodes.ensures.cause.1;
      found = subst (AllByRecursion (λ e. get s.kept e.0 ≡ Some e.1)) (sym started.0) (each_there es s.kept started.5 c.entries-name-items.ensures);
    }

pub write_snapshot-requires : goal.write_snapshot-requires
write_snapshot-requires g c =
    let s = c.args.self.now in
    let found = (subst (AllByRecursion (λ e. get s.kept e.0 ≡ Some e.1)) c.in-Some.ensures.steps c.loop-name.invariant.found).0 in
    (s.limit, c.requires.snapshots c.in-Some.name.now c.in-Some.snapshot.now found)

pub loop-name-preserved : goal.loop-name-preserved
loop-name-preserved g c =
    let s = c.args.self.now in
    record {
      text = wrote_more _ _ _ _ (snapshot_lines c.in-Some.name.now (kept_by c.in-Some.snapshot.now)) _ _ c.loop-name.invariant.text
          (ap kept_lines c.in-Some.ensures.steps) c.in_ok-write_snapshot.ensures.all;
      faults = c.in_ok-write_snapshot.ensures.cause.1 ∙ c.loop-name.invariant.faults;
      found = (subst (AllByRecursion (λ e. get s.kept e.0 ≡ Some e.1)) c.in-Some.ensures.steps c.loop-name.invariant.found).1;
    }

pub returns-in_err-write_snapshot-clause-front : goal.returns-in_err-write_snapshot-clause-front
returns-in_err-write_snapshot-clause-front g c =
    let piece = snapshot_lines c.in-Some.name.now (kept_by c.in-Some.snapshot.now) in
    on_err _ _ (wrote_front _ _ _ _ piece _ _ c.loop-name.invariant.text (ap kept_lines c.in-Some.ensures.steps)
    (c.prefixes_join.ensures.second _ _ _ c.loop-name.invariant.text.done _ c.loop-name.invariant.text.taken (c.prefixes_join.ensures.first _ _ piece _ c.in_err-write_snapshot.ensures.front)))
