use Rattle.std.proofs.Common.{◌≡◌, ◌∙◌, true, false, is_some, None, Some, ap, sym, rules}
use Rattle.fs_memtree.specs.Serving.{least, snapped}
use Rattle.fs_memtree.proofs.serving.Snapped.{some_now, snap_there, snap_full, snap_made}
use Rattle.fs_memtree.proofs.state.State.snap.Goals as goal

pub returns-then-is_some-clause-ok : goal.returns-then-is_some-clause-ok
returns-then-is_some-clause-ok c =
    let s = c.args.self.now in
    let there : is_some c.get.result ≡ true = search rules in
    snap_there s c.args.name.now (snapped s c.args.name.now (least s)) (least s) (ap is_some (sym c.get.ensures) ∙ some_now c.get.result ∙ there)

pub returns-in_default-clause-ok : goal.returns-in_default-clause-ok
returns-in_default-clause-ok c =
    let s = c.args.self.now in
    let free : is_some c.get.result ≡ false = search rules in
    let none : c.least.result ≡ None = search rules in
    snap_full s c.args.name.now (snapped s c.args.name.now (least s)) (least s) (ap is_some (sym c.get.ensures) ∙ some_now c.get.result ∙ free) (sym c.least.ensures ∙ none)

pub returns-clause-ok : goal.returns-clause-ok
returns-clause-ok c =
    let s = c.args.self.now in
    let free : is_some c.get.result ≡ false = search rules in
    let some : c.least.result ≡ Some c.in-Some.number = search rules in
    snap_made s c.args.name.now (snapped s c.args.name.now (least s)) (least s) c.in-Some.number (ap is_some (sym c.get.ensures) ∙ some_now c.get.result ∙ free) (sym c.least.ensures ∙ some)
    ∙ ap (snapped s c.args.name.now) (sym c.least.ensures ∙ some) ∙ search rules
