use Rattle.std.proofs.Common.{◌≡◌, ◌∙◌, ◌++◌, ◌∷◌, ◌-◌, ◌<◌, [], ℕ, List, length, Some, None, ap, sym, subst, rules}
use Rattle.std.specs.FinMap.{get, entries, len}
use Rattle.base_io.specs.Prefix.{TakesPrefix}
use Rattle.std.specs.Io.KnownBytes.{Appends}
use Rattle.lang_tree.specs.Listing.{line_of}
use Rattle.fs_inodes.specs.Listing.{lines_below}
use Rattle.crash_stands.specs.Walks.{LeadsTo}
use Rattle.fs_memtree.specs.Kept.{DirNames, KeptDir, KeptFile, map_of, tree_of}
use Rattle.fs_memtree.specs.Trails.{path_on}
use Rattle.fs_memtree.proofs.keys.InOrder.{tree_in_order}
use Rattle.fs_memtree.proofs.outputs.Lines.{AllFound, all_found, below, child, deeper, seen, front, of_dir, of_file, of_none}
use Rattle.fs_memtree.proofs.outputs.Pieces.{wrote_first, wrote_more, wrote_front, on_err}
use Rattle.fs_memtree.proofs.listing.+write_below.Goals as goal

pub returns-in_err-write_line-clause-front : goal.returns-in_err-write_line-clause-front
returns-in_err-write_line-clause-front g n c =
    let nodes = c.args.nodes.now in
    let path = path_on c.args.path.now in
    let law = c.a_listing_goes_down.ensures.lines c.requires.map.0 (map_of nodes) (tree_of nodes) path c.args.number c.requires.map.1 c.requires.leads in
    let whole = front c.requires.map.0 nodes c.requires.map.1 path c.args.number c.requires.leads law c.at-node.result c.at-node.ensures in
    on_err _ _ (subst (TakesPrefix _ _) (sym whole) (c.prefixes_join.ensures.first _ _ (line_of path c.args.number (seen c.at-node.result)) _ c.in_err-write_line.ensures.front))

pub returns-in-None-clause-all : goal.returns-in-None-clause-all
returns-in-None-clause-all g n c =
    let nodes = c.args.nodes.now in
    let path = path_on c.args.path.now in
    let law = c.a_listing_goes_down.ensures.lines c.requires.map.0 (map_of nodes) (tree_of nodes) path c.args.number c.requires.map.1 c.requires.leads in
    let there : None ≡ get nodes c.args.number = search rules in
    let whole = of_none c.requires.map.0 nodes c.requires.map.1 path c.args.number c.requires.leads law c.at-node.result c.at-node.ensures there in
    subst (Appends _ _) (sym whole) c.in_ok-write_line.ensures.all

pub returns-in-Some-File-clause-all : goal.returns-in-Some-File-clause-all
returns-in-Some-File-clause-all g n c =
    let nodes = c.args.nodes.now in
    let path = path_on c.args.path.now in
    let law = c.a_listing_goes_down.ensures.lines c.requires.map.0 (map_of nodes) (tree_of nodes) path c.args.number c.requires.map.1 c.requires.leads in
    let there : Some (KeptFile c.in-Some-File.field-0-0 c.in-Some-File.field-0-1.items) ≡ get nodes c.args.number = search rules in
    let whole = of_file c.requires.map.0 nodes c.requires.map.1 path c.args.number c.requires.leads law c.at-node.result c.at-node.ensures _ _ there in
    subst (Appends _ _) (sym whole) c.in_ok-write_line.ensures.all

pub loop-name-init : goal.loop-name-init
loop-name-init g n c =
    let nodes = c.args.nodes.now in
    let path = path_on c.args.path.now in
    let names : DirNames = c.in-Some-Dir.names in
    let law = c.a_listing_goes_down.ensures.lines c.requires.map.0 (map_of nodes) (tree_of nodes) path c.args.number c.requires.map.1 c.requires.leads in
    let there : Some (KeptDir names) ≡ get nodes c.args.number = search rules in
    let whole = of_dir c.requires.map.0 nodes c.requires.map.1 path c.args.number c.requires.leads law c.at-node.result c.at-node.ensures names there in
    let started = c.into_iter-name-iterator.ensures.into_iter_gives in
    let all : c.into_iter-name-iterator.result ≡ entries names = started.0 ∙ sym (tree_in_order c.entries-name-items.result.now.entries started.5) ∙ ap entries c.entries-name-items.ensures in
    record {
      text = wrote_first _ _ (line_of path c.args.number (seen c.at-node.result)) _ _ c.in_ok-write_line.ensures.all
          (ap (λ (es : List (List ℕ × ℕ)). line_of path c.args.number (seen c.at-node.result) ++ below (tree_of nodes) path es) all ∙ sym whole);
      faults = c.in_ok-write_line.ensures.cause.1;
      found = subst (AllFound nodes c.args.number) (sym all) (all_found nodes c.args.number names there);
    }

pub loop-name-preserved : goal.loop-name-preserved
loop-name-preserved g n c =
    let nodes = c.args.nodes.now in
    let path = path_on c.args.path.now in
    record {
      text = wrote_more _ _ _ _ (lines_below (tree_of nodes) (path ++ c.in-Some.name.now ∷ [])) _ _ c.loop-name.invariant.text
          (ap (below (tree_of nodes) path) c.in-Some.ensures.steps) c.in_ok-write_below-in-Some-Dir.ensures.all;
      faults = c.in_ok-write_below-in-Some-Dir.ensures.cause.1 ∙ c.loop-name.invariant.faults;
      found = (subst (AllFound nodes c.args.number) c.in-Some.ensures.steps c.loop-name.invariant.found).1;
    }

pub write_below-requires : goal.write_below-requires
write_below-requires g n c =
    let nodes = c.args.nodes.now in
    let path = path_on c.args.path.now in
    let name = c.in-Some.name.now in
    let law = c.a_listing_goes_down.ensures.lines c.requires.map.0 (map_of nodes) (tree_of nodes) path c.args.number c.requires.map.1 c.requires.leads in
    let entry = (subst (AllFound nodes c.args.number) c.in-Some.ensures.steps c.loop-name.invariant.found).0 in
    let leads : LeadsTo (map_of nodes) (path ++ name ∷ []) c.in-Some.below.now =
    child c.requires.map.0 nodes c.requires.map.1 path c.args.number c.requires.leads law c.at-node.result c.at-node.ensures name c.in-Some.below.now entry in
    let smaller : len nodes - length (path ++ name ∷ []) < len nodes - length path =
    deeper c.requires.map.0 nodes c.requires.map.1 path c.args.number c.requires.leads law c.at-node.result c.at-node.ensures name in
    search rules

pub returns-in_err-write_below-in-Some-Dir-clause-front : goal.returns-in_err-write_below-in-Some-Dir-clause-front
returns-in_err-write_below-in-Some-Dir-clause-front g n c =
    let nodes = c.args.nodes.now in
    let path = path_on c.args.path.now in
    let piece = lines_below (tree_of nodes) (path ++ c.in-Some.name.now ∷ []) in
    on_err _ _ (wrote_front _ _ _ _ piece _ _ c.loop-name.invariant.text (ap (below (tree_of nodes) path) c.in-Some.ensures.steps)
    (c.prefixes_join.ensures.second _ _ _ c.loop-name.invariant.text.done _ c.loop-name.invariant.text.taken (c.prefixes_join.ensures.first _ _ piece _ c.in_err-write_below-in-Some-Dir.ensures.front)))
