use Rattle.std.proofs.Common.{◌≡◌, ◌∙◌, true, false, is_none, ap, sym, rules}
use Rattle.std.specs.FinMap.{get}
use Rattle.fs_memtree.specs.Serving.{unsnapped}
use Rattle.fs_memtree.proofs.serving.Snapped.{none_now, unsnap_none, unsnap_gone}
use Rattle.fs_memtree.proofs.state.State.unsnap.Goals as goal

pub returns-then-is_none : goal.returns-then-is_none
returns-then-is_none c =
    let s = c.args.self.now in
    let none : is_none c.get.result ≡ true = search rules in
    unsnap_none s c.args.name.now (unsnapped s c.args.name.now) (ap is_none (sym c.get.ensures) ∙ none_now c.get.result ∙ none)

pub returns : goal.returns
returns c =
    let s = c.args.self.now in
    let there : is_none c.get.result ≡ false = search rules in
    unsnap_gone s c.args.name.now (unsnapped s c.args.name.now) (ap is_none (sym c.get.ensures) ∙ none_now c.get.result ∙ there) ∙ search rules
