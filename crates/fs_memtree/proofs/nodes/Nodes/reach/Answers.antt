use Rattle.std.proofs.Common.{◌≡◌, ◌∙◌, None, Some, Err, ap, refl, rules}
use Rattle.std.specs.Result.{result_err}
use Rattle.fs_memtree.specs.Kept.{map_of}
use Rattle.fs_memtree.proofs.serving.Reasons.{reached}
use Rattle.fs_memtree.proofs.nodes.Nodes.reach.Goals as goal

pub returns-in_err-end-clause-reason : goal.returns-in_err-end-clause-reason
returns-in_err-end-clause-reason c =
    let said : c.from_residual.result ≡ Err c.in_err-end.field-0.0 = search rules in
    ap result_err said ∙ reached (map_of c.args.self.now) c.args.path.now (Some c.in_err-end.field-0.0) _ (search rules) refl

pub returns-in-None-clause-reason : goal.returns-in-None-clause-reason
returns-in-None-clause-reason c = reached (map_of c.args.self.now) c.args.path.now None None (search rules) (search rules)

pub returns-in-Some-clause-reason : goal.returns-in-Some-clause-reason
returns-in-Some-clause-reason c = reached (map_of c.args.self.now) c.args.path.now None (Some c.in-Some.number) (search rules) (search rules)
