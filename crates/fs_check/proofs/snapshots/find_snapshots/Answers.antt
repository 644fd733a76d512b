use Rattle.std.proofs.Common.{◌+◌, false, List, ℕ, length, sym, ap, subst, ◌∙◌}
use Rattle.std.proofs.lemmas.Result.{err_from_is_err_and}
use Rattle.base_types.specs.Seal.{Blocks}
use Rattle.fs_check.specs.Meeting.{AreBits}
use Rattle.fs_check.specs.SnapshotCalls.{AreSoundNodes}
use Rattle.fs_check.specs.Snapshots.{AreCheckedBelow, AreFirm, numbers_in}
use Rattle.fs_check.specs.Whole.{IsDamaged, OnDamage, fails_by}
use Rattle.fs_check.proofs.Looking.{looks_more}
use Rattle.fs_check.proofs.keeping.Finding.{known_begins, may_still, none_found}
use Rattle.fs_check.proofs.sound.Whole.{written_back}
use Rattle.fs_check.proofs.snapshots.find_snapshots.Goals as goal

pub returns-then-not-found-clause-known : goal.returns-then-not-found-clause-known
returns-then-not-found-clause-known g c = λ tells.
    none_found c.what_is_known_of_snapshots_is_so.ensures.each c.args.geom.now (g.S.Blocks.state c.args.blocks.now).map (c.args.geom.now.i + 1) c.no_snapshots.result.numbers.entries c.no_snapshots.result.shared
    (c.requires.none tells c.if-not-found.true) c.no_snapshots.ensures.numbers c.no_snapshots.ensures.counts

pub check_snapshots-requires-clause-may : goal.check_snapshots-requires-clause-may
check_snapshots-requires-clause-may g c =
    let s = g.S.Blocks.state c.args.blocks.now in
    let u = g.S.Blocks.state c.set_firm.new.blocks in
    let h = c.args.geom.now in
    let there = written_back c.in_ok-maps.field-0.len c.set_firm.new.firm c.in_ok-maps.field-0.items (c.in_ok-set_firm.ensures.size ∙ c.as_mut_slice.ensures.len) in
    may_still g.S.Blocks.tells false h s u c.args.maps.now.marked.items _ c.in_ok-set_firm.ensures.looks (record {
      going = c.requires.going;
      none_bare = c.requires.none_bare;
      geom = c.requires.geom;
      bits_size = c.requires.bits;
      firm_size = ap (λ (xs : List (List ℕ)). length xs) there ∙ c.in_ok-set_firm.ensures.size ∙ ap (λ (xs : List (List ℕ)). length xs) c.as_mut_slice.ensures.value ∙ c.in_ok-maps.ensures.size;
    })

pub check_snapshots-requires-clause-known : goal.check_snapshots-requires-clause-known
check_snapshots-requires-clause-known g c = λ tells.
    let u = g.S.Blocks.state c.set_firm.new.blocks in
    let h = c.args.geom.now in
    let there = written_back c.in_ok-maps.field-0.len c.set_firm.new.firm c.in_ok-maps.field-0.items (c.in_ok-set_firm.ensures.size ∙ c.as_mut_slice.ensures.len) in
    let same = c.in_ok-set_firm.ensures.looks.map tells in
    let are = subst (λ (m : Blocks). AreBits h m c.args.maps.now.marked.items) (sym same) (c.requires.are tells) in
    let own = subst (AreFirm h u.map) (sym there) (subst (λ (m : Blocks). AreFirm h m c.set_firm.new.firm) (sym same) (c.in_ok-set_firm.ensures.firm tells)) in
    known_begins c.what_is_known_of_snapshots_is_so.ensures.each h u.map _ c.in_ok-all.all (subst (AreSoundNodes h) (sym same) (c.requires.nodes tells)) (record { are = are; own = own }) c.in_ok-all.ensures.numbers c.in_ok-all.ensures.none

pub returns-in_err-check_snapshots-clause-damage : goal.returns-in_err-check_snapshots-clause-damage
returns-in_err-check_snapshots-clause-damage g c = λ tells.
    let why = c.in_err-check_snapshots.field-0.0 in
    let p = err_from_is_err_and c.from_residual-in_err-check_snapshots.result c.from_residual-in_err-check_snapshots.ensures.1 in
    rw (p.1, p.2) (subst (λ (m : Blocks). OnDamage why (IsDamaged c.args.geom.now m)) (c.in_ok-set_firm.ensures.looks.map tells) (c.in_err-check_snapshots.ensures.damage tells))

pub returns-in_err-check_snapshots-clause-looks : goal.returns-in_err-check_snapshots-clause-looks
returns-in_err-check_snapshots-clause-looks g c =
    let p = err_from_is_err_and c.from_residual-in_err-check_snapshots.result c.from_residual-in_err-check_snapshots.ensures.1 in
    rw (p.1, p.2) (looks_more g.S.Blocks.tells (fails_by c.in_err-check_snapshots.field-0.0) (g.S.Blocks.state c.args.blocks.now) (g.S.Blocks.state c.set_firm.new.blocks) (g.S.Blocks.state c.check_snapshots.new.blocks)
    c.in_ok-set_firm.ensures.looks c.in_err-check_snapshots.ensures.looks)

pub returns-clause-known : goal.returns-clause-known
returns-clause-known g c = λ tells.
    let h = c.args.geom.now in
    let known = c.in_ok-check_snapshots.ensures.known tells in
    subst (λ (m : Blocks). AreCheckedBelow h m (h.i + 1) (numbers_in c.check_snapshots.new.found.numbers.entries) c.check_snapshots.new.found.tally.counts) (c.in_ok-set_firm.ensures.looks.map tells) known.below

pub returns-clause-looks : goal.returns-clause-looks
returns-clause-looks g c =
    looks_more g.S.Blocks.tells false (g.S.Blocks.state c.args.blocks.now) (g.S.Blocks.state c.set_firm.new.blocks) (g.S.Blocks.state c.check_snapshots.new.blocks) c.in_ok-set_firm.ensures.looks c.in_ok-check_snapshots.ensures.looks
