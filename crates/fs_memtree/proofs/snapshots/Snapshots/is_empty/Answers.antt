use Rattle.std.proofs.Common.{◌∙◌, sym, eqb-true, eq-eqb}
use Rattle.fs_memtree.proofs.keys.Snaps.{empty_there, none_there}
use Rattle.fs_memtree.proofs.snapshots.Snapshots.is_empty.Goals as goal

pub returns : goal.returns
returns c =
    let es = c.self.inside.entries.entries in (
      λ e. empty_there es c.args.self.now c.len.ensures.ordered c.self.view_is (sym c.len.ensures.len ∙ eqb-true c.len.result 0 e),
      λ same. eq-eqb c.len.result 0 (c.len.ensures.len ∙ none_there es c.args.self.now c.len.ensures.ordered c.self.view_is same),
    )
