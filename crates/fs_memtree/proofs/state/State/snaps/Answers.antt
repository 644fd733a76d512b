use Rattle.std.proofs.Common.{◌≡◌, ◌∙◌, List, ℕ, ap, sym, rules}
use Rattle.std.specs.FinMap.{keys}
use Rattle.lang_tree.specs.declared.command.Reply.TheVariants.{Names as NamesReply}
use Rattle.fs_memtree.proofs.serving.Snapshots.{keys_shown}
use Rattle.fs_memtree.proofs.state.State.snaps.Goals as goal

pub returns : goal.returns
returns c =
    let names : c.from_names.result ≡ keys c.args.self.now.kept = search rules in
    ap (λ (names : List (List ℕ)). (c.args.self.now, NamesReply names)) (keys_shown c.args.self.now.kept ∙ sym names)
