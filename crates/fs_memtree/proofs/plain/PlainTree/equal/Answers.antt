use Rattle.std.proofs.Common.{◌≡◌, ◌∙◌, ap, ap₂, sym, true≢false}
use Rattle.lang_tree.specs.Step.{Session}
use Rattle.fs_memtree.specs.Kept.{KeptNodes, tree_of}
use Rattle.fs_memtree.specs.Snapshots.{KeptSnapshots, snapshots_of}
use Rattle.fs_memtree.proofs.serving.Kept.{same_nodes, same_kept}
use Rattle.fs_memtree.proofs.plain.PlainTree.equal.Goals as goal

pub returns-then-not-is_same : goal.returns-then-not-is_same
returns-then-not-is_same c =
    let one = ap (λ (s : Session). s.tree) c.self.view_is in
    let two = ap (λ (s : Session). s.tree) c.other.view_is in (
      λ e. absurd (true≢false (sym e)),
      λ same. sym c.if-not-is_same.true ∙ c.is_same.ensures.1 (same_nodes c.self.inside.state c.other.inside.state c.self.invariant.kept c.other.invariant.kept (one ∙ same ∙ sym two)),
    )

pub returns : goal.returns
returns c =
    let one = ap (λ (s : Session). s.tree) c.self.view_is in
    let two = ap (λ (s : Session). s.tree) c.other.view_is in (
      λ e. sym one
          ∙ ap₂ (λ (nodes : KeptNodes) (kept : KeptSnapshots). record (tree_of nodes) { snapshots = snapshots_of kept }) (c.is_same.ensures.0 c.if-not-is_same.false) (c.is_same-2.ensures.0 e)
          ∙ two,
      λ same. c.is_same-2.ensures.1 (same_kept c.self.inside.state c.other.inside.state c.self.invariant.kept c.other.invariant.kept (one ∙ same ∙ sym two)),
    )
