use Rattle.std.proofs.Common.{◌∙◌, sym, rules, tests}
use Rattle.fs_memtree.specs.Kept.{map_of}
use Rattle.fs_memtree.proofs.serving.Reasons.{no_parent_reason, looked_up}
use Rattle.fs_memtree.proofs.nodes.Nodes.look.Goals as goal

pub returns-clause-reason : goal.returns-clause-reason
returns-clause-reason c = sym (no_parent_reason (map_of c.args.self.now) c.args.path.now c.in-Some.up.now c.in-Some.name.now c.in_ok-directory.directory
    c.in-Some.ensures.cases.0 (search rules) (search (rules, tests)))

pub returns-clause-end : goal.returns-clause-end
returns-clause-end c =
    let r = looked_up (map_of c.args.self.now) c.args.path.now c.in-Some.up.now c.in-Some.name.now c.in_ok-directory.directory c.in-Some.ensures.cases.0 (search rules) in
    (r.0, r.1 ∙ sym c.entry-number.ensures)
