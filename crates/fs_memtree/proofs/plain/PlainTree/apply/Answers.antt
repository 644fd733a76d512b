use Rattle.std.proofs.Common.{◌≡◌, Ok, sym, subst, refl, rules}
use Rattle.lang_tree.specs.declared.command.Reply.TheVariants.{Refused}
use Rattle.lang_tree.specs.declared.command.Refusal.TheVariants.{NoMemory}
use Rattle.fs_memtree.specs.Kept.{map_of, tree_of}
use Rattle.fs_memtree.specs.Snapshots.{snapshots_of}
use Rattle.fs_memtree.specs.Serving.{whole_tree}
use Rattle.fs_memtree.proofs.maps.TreeOf.{aside}
use Rattle.fs_memtree.proofs.serving.Kept.{IsReply, answered, result_sound}
use Rattle.fs_memtree.proofs.serving.Served.{small_tree}
use Rattle.fs_memtree.proofs.plain.PlainTree.apply.Goals.{in-Ok, in-Err}
use Rattle.fs_memtree.proofs.plain.PlainTree.apply.Goals as goal

pub invariant_of-self : goal.invariant_of-self
invariant_of-self c =
    result_sound c.the_maps_are_lawful.ensures c.self.inside.state c.answer.new.self c.args.cmd.now c.answer.result c.self.invariant c.answer.ensures.ok c.answer.ensures.err

pub returns-clause-answer : goal.returns-clause-answer
returns-clause-answer c =
    let reply : IsReply c.answer.result c.match-answer.result = elim c.match-answer.branch [
      | in-Ok w ↦ let said : c.answer.result ≡ Ok c.match-answer.result = search rules in subst (λ r. IsReply r c.match-answer.result) (sym said) refl
      | in-Err w ↦ let said : c.match-answer.result ≡ Refused NoMemory = search rules in subst (λ r. IsReply r c.match-answer.result) (sym w.in-Err.is) said
    ] in
    answered c.the_maps_are_lawful.ensures c.self.inside.state c.answer.new.self c.args.self.now c.args.cmd.now c.answer.result c.match-answer.result c.self.view_is c.self.invariant.kept
    c.answer.ensures.ok c.answer.ensures.err reply

pub returns-clause-sound : goal.returns-clause-sound
returns-clause-sound c =
    let s = c.answer.new.self in
    c.the_maps_are_lawful.ensures.sound s.limit (map_of s.nodes) (whole_tree s) (aside s.limit (map_of s.nodes) (tree_of s.nodes) (snapshots_of s.kept) (invariant_of-self c).kept.map)

pub returns-clause-snapshots : goal.returns-clause-snapshots
returns-clause-snapshots c = (invariant_of-self c).snapshots

pub returns-clause-small : goal.returns-clause-small
returns-clause-small c =
    let s = c.answer.new.self in
    small_tree s.limit (map_of s.nodes) (whole_tree s) (aside s.limit (map_of s.nodes) (tree_of s.nodes) (snapshots_of s.kept) (invariant_of-self c).kept.map) (invariant_of-self c).kept.small
