use Rattle.std.proofs.Common.{◌≡◌, ◌∙◌, ap, rules, None}
use Rattle.std.specs.FinMap.{get}
use Rattle.crash_stands.specs.Walks.{entry_in}
use Rattle.fs_memtree.specs.Kept.{KeptNodes, map_of, changed_at, with_name, without_name}
use Rattle.fs_memtree.proofs.serving.Changed.{none_kept, undone}
use Rattle.fs_memtree.proofs.nodes.Nodes.make.Goals as goal

pub add-requires : goal.add-requires
add-requires c = (
  ap (λ (nodes : KeptNodes). get nodes c.args.number) c.in_ok-grow.ensures.ok
      ∙ none_kept c.args.self.now c.in-Some.directory c.args.number (with_name c.in-Some.name.now c.args.number) c.requires.unused.0,
  c.requires.unused.1,
)

pub returns-in-Err-clause-err : goal.returns-in-Err-clause-err
returns-in-Err-clause-err c =
    let here : entry_in (map_of c.args.self.now c.in-Some.directory) c.in-Some.name.now ≡ c.args.end.number = search rules in
    c.settle.ensures ∙ ap (λ (nodes : KeptNodes). changed_at nodes c.in-Some.directory (without_name c.in-Some.name.now)) (c.in-Err.ensures.err ∙ c.in_ok-grow.ensures.ok)
    ∙ undone c.args.self.now c.in-Some.directory c.args.number c.in-Some.name.now (here ∙ c.requires.absent)
