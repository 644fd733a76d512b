use Rattle.std.proofs.Common.{◌+◌, false, sym, subst, ◌∙◌}
use Rattle.std.proofs.lemmas.Result.{err_from_is_err_and}
use Rattle.base_types.specs.Seal.{Blocks, blocks_of}
use Rattle.crash_stands.specs.Bounds.{bounds_of}
use Rattle.crash_stands.specs.Kept.{kept_files}
use Rattle.fs_check.specs.declared.kept_table.SnapshotIn.{SnapshotIn}
use Rattle.fs_check.specs.declared.snapshots.Found.{Found}
use Rattle.fs_check.specs.KeptGoing.{IsKeptTo}
use Rattle.fs_check.specs.Rules.{AreTreeFiles}
use Rattle.fs_check.specs.SnapshotCalls.{IsNamed, IsMisnamed, IsOpened}
use Rattle.fs_check.specs.Snapshots.{numbers_in}
use Rattle.fs_check.specs.Whole.{OnDamage, fails_by}
use Rattle.fs_check.proofs.Looking.{looks_more}
use Rattle.fs_check.proofs.keeping.Snapshot.{known_more, misnamed, opened, own_whole}
use Rattle.fs_check.proofs.sound.Tails.{AreWhole}
use Rattle.fs_check.proofs.snapshot.check_snapshot.Goals as goal

pub open_snapshot-requires-clause-whole : goal.open_snapshot-requires-clause-whole
open_snapshot-requires-clause-whole g c = λ tells.
    own_whole (g.S.Blocks.state c.args.blocks.now) c.args.geom.now c.args.number c.args.file c.requires.may.geom c.requires.may.none_bare (g.met.S.Blocks.is_told c.args.blocks.now tells) c.requires.«data» (c.requires.known tells).nodes
    (c.requires.node tells)

pub returns-in_err-add_name-clause-damage : goal.returns-in_err-add_name-clause-damage
returns-in_err-add_name-clause-damage g c = λ tells.
    let s = g.S.Blocks.state c.args.blocks.now in
    let t = g.S.Blocks.state c.open_snapshot.new.blocks in
    let same = c.in_ok-kept.ensures.looks.map tells in
    let snapshot : SnapshotIn = record { number = c.args.number; places = c.args.file.blocks } in
    let are_whole = own_whole s c.args.geom.now c.args.number c.args.file c.requires.may.geom c.requires.may.none_bare (g.met.S.Blocks.is_told c.args.blocks.now tells) c.requires.«data» (c.requires.known tells).nodes (c.requires.node tells) in
    let why = c.in_err-add_name.field-0.0 in
    let p = err_from_is_err_and c.from_residual-in_err-add_name.result c.from_residual-in_err-add_name.ensures.1 in
    rw (p.1, p.2) (misnamed c.args.geom.now s.map c.args.maps.now c.args.number c.args.found.now c.args.file why (c.requires.known tells) (c.requires.node tells) c.requires.kind
    (subst (λ (m : Blocks). OnDamage why (IsMisnamed m snapshot (numbers_in c.args.found.now.numbers.entries))) same
    (c.in_err-add_name.ensures.damage tells (subst (λ (m : Blocks). AreWhole m c.args.file.blocks) (sym same) are_whole))))

pub returns-in_err-add_name-clause-looks : goal.returns-in_err-add_name-clause-looks
returns-in_err-add_name-clause-looks g c =
    let p = err_from_is_err_and c.from_residual-in_err-add_name.result c.from_residual-in_err-add_name.ensures.1 in
    rw (p.1, p.2) (looks_more g.S.Blocks.tells (fails_by c.in_err-add_name.field-0.0) (g.S.Blocks.state c.args.blocks.now) (g.S.Blocks.state c.open_snapshot.new.blocks) (g.S.Blocks.state c.add_name.new.blocks)
    c.in_ok-kept.ensures.looks c.in_err-add_name.ensures.looks)

pub check_kept-requires-clause-whole : goal.check_kept-requires-clause-whole
check_kept-requires-clause-whole g c = λ tells.
    let s = g.S.Blocks.state c.args.blocks.now in
    let same = c.in_ok-add_name.ensures.looks.map tells ∙ c.in_ok-kept.ensures.looks.map tells in
    let are_whole = own_whole s c.args.geom.now c.args.number c.args.file c.requires.may.geom c.requires.may.none_bare (g.met.S.Blocks.is_told c.args.blocks.now tells) c.requires.«data» (c.requires.known tells).nodes (c.requires.node tells) in
    subst (λ (m : Blocks). AreWhole m c.args.file.blocks) (sym same) are_whole

pub check_kept-requires-clause-opened : goal.check_kept-requires-clause-opened
check_kept-requires-clause-opened g c = λ tells.
    let s = g.S.Blocks.state c.args.blocks.now in
    let same = c.in_ok-add_name.ensures.looks.map tells ∙ c.in_ok-kept.ensures.looks.map tells in
    let snapshot : SnapshotIn = record { number = c.args.number; places = c.args.file.blocks } in
    subst (λ (m : Blocks). IsOpened c.args.geom.now m c.args.maps.now snapshot) (sym same)
    (opened c.args.geom.now s.map c.args.maps.now c.args.number c.args.found.now c.args.file (c.requires.known tells) (c.requires.node tells) c.requires.kind (c.in_ok-kept.ensures.parts tells))

pub returns-clause-known : goal.returns-clause-known
returns-clause-known g c = λ tells.
    let s = g.S.Blocks.state c.args.blocks.now in
    let h = c.args.geom.now in
    let first = c.in_ok-kept.ensures.looks.map tells in
    let same = c.in_ok-add_name.ensures.looks.map tells ∙ first in
    let snapshot : SnapshotIn = record { number = c.args.number; places = c.args.file.blocks } in
    let later : Found = record { numbers = c.add_name.new.numbers; tally = c.check_kept.new.tally } in
    let are_whole = own_whole s h c.args.number c.args.file c.requires.may.geom c.requires.may.none_bare (g.met.S.Blocks.is_told c.args.blocks.now tells) c.requires.«data» (c.requires.known tells).nodes (c.requires.node tells) in
    let named = subst (λ (m : Blocks). IsNamed m snapshot (numbers_in c.args.found.now.numbers.entries) (numbers_in c.add_name.new.numbers.entries)) first
    (c.in_ok-add_name.ensures.named tells (subst (λ (m : Blocks). AreWhole m c.args.file.blocks) (sym first) are_whole)) in
    let sound = subst (λ (m : Blocks). IsKeptTo h m c.args.maps.now c.check_kept.new.tally snapshot (h.i + 1)) same (c.in_ok-check_kept.ensures.sound tells) in
    let rules = subst (λ (m : Blocks). AreTreeFiles (bounds_of h) (kept_files h m c.args.file.blocks)) same (c.in_ok-check_kept.ensures.rules tells) in
    known_more c.what_is_known_of_snapshots_is_so.ensures.each c.files_have_one_map.ensures.read c.the_rules_make_a_tree.ensures.tree h s.map c.args.maps.now c.args.number c.args.found.now later c.args.file c.check_kept.new.tally.dirs
    (blocks_of c.check_kept.new.tally.met.items) (c.requires.node tells) c.requires.kind
    (record { parts = c.in_ok-kept.ensures.parts tells; below = sound.below; rules = rules; links = c.in_ok-kept.ensures.links; size = c.in_ok-kept.ensures.size }) named c.in_ok-check_kept.ensures.counts (c.requires.known tells)

pub returns-clause-looks : goal.returns-clause-looks
returns-clause-looks g c =
    let s = g.S.Blocks.state c.args.blocks.now in
    let u = g.S.Blocks.state c.add_name.new.blocks in
    looks_more g.S.Blocks.tells false s u (g.S.Blocks.state c.check_kept.new.blocks) (looks_more g.S.Blocks.tells false s (g.S.Blocks.state c.open_snapshot.new.blocks) u c.in_ok-kept.ensures.looks c.in_ok-add_name.ensures.looks) c.in_ok-check_kept.ensures.looks
