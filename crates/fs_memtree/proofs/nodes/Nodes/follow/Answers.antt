use Rattle.std.proofs.Common.{◌∙◌, true, false, None, Some, refl, sym, arith, rules, tests}
use Rattle.fs_memtree.specs.Kept.{map_of}
use Rattle.fs_memtree.proofs.maps.Walking.{next_step}
use Rattle.fs_memtree.proofs.nodes.Nodes.follow.Goals as goal

pub returns-then-not-is_dir : goal.returns-then-not-is_dir
returns-then-not-is_dir c = sym (next_step (map_of c.args.self.now) c.loop-name.number c.args.path.now c.loop-name.name-index c.name-item.result false _
    (omega arith) c.name-item.is (search (rules, tests)) refl) ∙ c.loop-name.invariant

pub returns-in-None : goal.returns-in-None
returns-in-None c = sym (next_step (map_of c.args.self.now) c.loop-name.number c.args.path.now c.loop-name.name-index c.name-item.result true None
    (omega arith) c.name-item.is (search (rules, tests)) (search rules)) ∙ c.loop-name.invariant

pub loop-name-preserved : goal.loop-name-preserved
loop-name-preserved c = sym (next_step (map_of c.args.self.now) c.loop-name.number c.args.path.now c.loop-name.name-index c.name-item.result true (Some c.in-Some.next)
    (omega arith) c.name-item.is (search (rules, tests)) (search rules)) ∙ c.loop-name.invariant
