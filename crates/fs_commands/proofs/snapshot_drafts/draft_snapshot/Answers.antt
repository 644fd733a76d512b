use Rattle.std.proofs.Common.{rules, ◌≡◌, ◌++◌, false, length, IsTrue, tests, All, IfErr, ◌+◌, ◌*◌, ◌<◌, ◌≤◌, Err, [], sym, ap, subst, ◌∙◌, arith}
use Rattle.layout_geometry.specs.Geometry.{IsGeometry}
use Rattle.engine_blocks.specs.Puts.{IsData}
use Rattle.engine_blocks.specs.Calls.{HasTurns}
use Rattle.engine_blocks.specs.State.{Bookkeeping}
use Rattle.fs_files.specs.Calls.{GrowthRefused}
use Rattle.fs_files.specs.Content.{fails_reading, fails_settling}
use Rattle.fs_files.specs.Effects.{LooksOnly, LooksAndSettles}
use Rattle.fs_files.specs.Places.{looks_more}
use Rattle.fs_commands.specs.Gathering.{snapshot_bytes, snapshot_count}
use Rattle.fs_commands.proofs.looking.Found.{draft_begun, draft_stays}
use Rattle.fs_commands.proofs.planning.Looking.{advances, calm_on, looked, looked_calmly, quiet_settling, settled_after}
use Rattle.fs_commands.proofs.snapped.Drafting.{HasBareNode, bare_node, bare_snapshot, below_used, fits, growth_is, snapshot_no_dir, takes_few, drafts_snapshot}
use Rattle.fs_commands.proofs.snapped.Sizes.{bytes_long}
use Rattle.fs_commands.proofs.snapshot_drafts.draft_snapshot.Given as given
use Rattle.fs_commands.proofs.snapshot_drafts.draft_snapshot.Goals as goal
use Rattle.fs_commands.proofs.snapshot_drafts.draft_snapshot.Goals.{After-from_residual-in_err-write_at, In_ok-_made}

pub new_node-requires-clause-draft : goal.new_node-requires-clause-draft
new_node-requires-clause-draft g c =
    draft_stays g.S.Blocks.tells false (g.S.Blocks.state c.args.blocks.now) (g.S.Blocks.state c.bytes_to_keep.new.blocks) c.beside-draft.result c.in_ok-bytes.ensures.looks
    (draft_begun g.S.Blocks.tells (g.S.Blocks.state c.args.blocks.now) c.beside-draft.result c.beside-draft.ensures c.requires.may.begin c.a_draft_may_begin.ensures)

pub new_node-requires-clause-below : goal.new_node-requires-clause-below
new_node-requires-clause-below g c = λ told.
    below_used g.S.Blocks.tells (g.S.Blocks.state c.args.blocks.now) (g.S.Blocks.state c.bytes_to_keep.new.blocks) (g.S.Blocks.state c.bytes_to_keep.new.blocks) c.args.shared.now c.beside-draft.result c.beside-draft.result c.args.number c.beside-draft.ensures told c.in_ok-bytes.ensures.looks (c.requires.least told) c.requires.number.from c.requires.number.upto

-- the node is there, without bytes
bare : (g : given.Over) (c : In_ok-_made g) → IsTrue g.S.Blocks.tells → HasBareNode (g.S.Blocks.state c.args.blocks.now) (g.S.Blocks.state c.new_node.new.blocks) c.args.number c.args.shared.now c.new_node.new.self
bare g c told =
    let made = c.in_ok-_made.ensures in
    bare_node g.S.Blocks.tells (g.S.Blocks.state c.args.blocks.now) (g.S.Blocks.state c.bytes_to_keep.new.blocks) (g.S.Blocks.state c.new_node.new.blocks) c.args.shared.now c.beside-draft.result c.new_node.new.self c.args.number c.beside-draft.ensures told
    c.in_ok-bytes.ensures.looks (c.requires.least told) c.requires.number.from c.requires.number.upto c.in_ok-_made._made (made.node told) (made.places told) (made.none told) made.among

-- the blocks were only read so far
read : (g : given.Over) (c : In_ok-_made g) → LooksOnly g.S.Blocks.tells false (g.S.Blocks.state c.args.blocks.now) (g.S.Blocks.state c.new_node.new.blocks)
read g c = looks_more g.S.Blocks.tells false (g.S.Blocks.state c.args.blocks.now) (g.S.Blocks.state c.bytes_to_keep.new.blocks) (g.S.Blocks.state c.new_node.new.blocks) c.in_ok-bytes.ensures.looks c.in_ok-_made.ensures.looks

-- so many bytes are written
bytes_are : (g : given.Over) (c : In_ok-_made g) → IsTrue g.S.Blocks.tells → c.in_ok-bytes.bytes.items ≡ snapshot_bytes (g.S.Blocks.state c.args.blocks.now).books.geom (g.S.Blocks.state c.args.blocks.now).map c.args.name.now
bytes_are g c told = c.in_ok-bytes.ensures.bytes told

long : (g : given.Over) (c : In_ok-_made g) → IsTrue g.S.Blocks.tells → length c.in_ok-bytes.bytes.items ≡ 1024 * snapshot_count (g.S.Blocks.state c.args.blocks.now).books.geom (g.S.Blocks.state c.args.blocks.now).map
long g c told =
    let s = g.S.Blocks.state c.args.blocks.now in
    ap length (bytes_are g c told)
    ∙ bytes_long s.books.geom s.map (c.requires.may.begin.sound told) (subst IsGeometry c.geom.ensures c.lawful.ensures.limits) c.args.name.now c.a_name_is_lawful.ensures (subst (All (IsData s.books.geom)) (c.requires.dirs told) c.requires.«data»)

pub write_at-requires-clause-used : goal.write_at-requires-clause-used
write_at-requires-clause-used g c = λ told. (bare_snapshot, (bare g (goal.at.write_at-requires-clause-used g c).In_ok-_made told).file.own)

pub write_at-requires-clause-slots : goal.write_at-requires-clause-slots
write_at-requires-clause-slots g c = λ told x is dir. absurd (snapshot_no_dir x (sym (bare g (goal.at.write_at-requires-clause-slots g c).In_ok-_made told).file.own ∙ is) dir)

pub write_at-requires-clause-grows : goal.write_at-requires-clause-grows
write_at-requires-clause-grows g c =
    record {
      turns = subst HasTurns (sym (read g (goal.at.write_at-requires-clause-grows g c).In_ok-_made).books) c.requires.may.turns;
      size = fits (length c.deref.result.now) c.len.result (search rules) c.if-len-gt-LARGEST_FILE.false;
      once = λ told x is more some. (bare g (goal.at.write_at-requires-clause-grows g c).In_ok-_made told).sets.taken;
    }

pub returns-in_err-bytes-clause-settles : goal.returns-in_err-bytes-clause-settles
returns-in_err-bytes-clause-settles g c =
    let s = g.S.Blocks.state c.args.blocks.now in
    let t = g.S.Blocks.state c.bytes_to_keep.new.blocks in
    let looks : LooksOnly g.S.Blocks.tells (fails_reading c.from_residual.result) s t = search (rules, tests) in
    let is : c.from_residual.result ≡ Err c.in_err-bytes.field-0.0 = search (rules, tests) in
    let quiet : fails_settling c.from_residual.result ≡ false = subst (λ r. fails_settling r ≡ false) (sym is) (quiet_settling c.in_err-bytes.field-0.0 c.in_err-bytes.ensures.refused) in
    subst (λ b. LooksAndSettles g.S.Blocks.tells (fails_reading c.from_residual.result) b s t) (sym quiet)
    (looked g.S.Blocks.tells (fails_reading c.from_residual.result) s t c.requires.may.begin.going looks
    (advances g.S.Blocks.tells g.S.Blocks.state c.calls_compose.ensures.rests (fails_reading c.from_residual.result) c.args.blocks.now c.bytes_to_keep.new.blocks looks))

pub returns-in_err-_made-clause-settles : goal.returns-in_err-_made-clause-settles
returns-in_err-_made-clause-settles g c =
    let s = g.S.Blocks.state c.args.blocks.now in
    let t = g.S.Blocks.state c.bytes_to_keep.new.blocks in
    let u = g.S.Blocks.state c.new_node.new.blocks in
    let made : LooksOnly g.S.Blocks.tells (fails_reading c.from_residual-in_err-_made.result) t u = search (rules, tests) in
    let looks = looks_more g.S.Blocks.tells (fails_reading c.from_residual-in_err-_made.result) s t u c.in_ok-bytes.ensures.looks made in
    let is : c.from_residual-in_err-_made.result ≡ Err c.in_err-_made.field-0.0 = search (rules, tests) in
    let quiet : fails_settling c.from_residual-in_err-_made.result ≡ false = subst (λ r. fails_settling r ≡ false) (sym is) (quiet_settling c.in_err-_made.field-0.0 c.in_err-_made.ensures.refused) in
    subst (λ b. LooksAndSettles g.S.Blocks.tells (fails_reading c.from_residual-in_err-_made.result) b s u) (sym quiet)
    (looked g.S.Blocks.tells (fails_reading c.from_residual-in_err-_made.result) s u c.requires.may.begin.going looks
    (advances g.S.Blocks.tells g.S.Blocks.state c.calls_compose.ensures.rests (fails_reading c.from_residual-in_err-_made.result) c.args.blocks.now c.new_node.new.blocks looks))

pub returns-then-len-gt-LARGEST_FILE-clause-settles : goal.returns-then-len-gt-LARGEST_FILE-clause-settles
returns-then-len-gt-LARGEST_FILE-clause-settles g c =
    looked g.S.Blocks.tells false (g.S.Blocks.state c.args.blocks.now) (g.S.Blocks.state c.bytes_to_keep.new.blocks) c.requires.may.begin.going c.in_ok-bytes.ensures.looks
    (advances g.S.Blocks.tells g.S.Blocks.state c.calls_compose.ensures.rests false c.args.blocks.now c.bytes_to_keep.new.blocks c.in_ok-bytes.ensures.looks)

-- the error of the write is answered
write_error : (g : given.Over) (c : After-from_residual-in_err-write_at g) → c.from_residual-in_err-write_at.result ≡ Err c.in_err-write_at.field-0.0
write_error g c = search (rules, tests)

pub returns-in_err-write_at-clause-refused : goal.returns-in_err-write_at-clause-refused
returns-in_err-write_at-clause-refused g c = λ told.
    let s = g.S.Blocks.state c.args.blocks.now in
    let u = g.S.Blocks.state c.new_node.new.blocks in
    let v = g.S.Blocks.state c.write_at.new.blocks in
    let m = (goal.at.returns-in_err-write_at-clause-refused g c).In_ok-_made in
    let there = bare g m told in
    let size = ap length c.deref.ensures.value ∙ long g m told in
    subst (λ r. IfErr r (GrowthRefused (snapshot_count s.books.geom s.map) (λ more. more) s.books v.books)) (sym (write_error g (goal.at.returns-in_err-write_at-clause-refused g c).After-from_residual-in_err-write_at))
    (growth_is s u c.args.number 0 (0 + length c.deref.result.now) c.args.shared.now c.new_node.new.self there (omega (arith, size)) (read g m).books v.books c.in_err-write_at.field-0.0 (c.in_err-write_at.ensures.refused told bare_snapshot there.file.own))

pub returns-in_err-write_at-clause-quiet : goal.returns-in_err-write_at-clause-quiet
returns-in_err-write_at-clause-quiet g c = λ told enough.
    let s = g.S.Blocks.state c.args.blocks.now in
    let u = g.S.Blocks.state c.new_node.new.blocks in
    let v = g.S.Blocks.state c.write_at.new.blocks in
    let m = (goal.at.returns-in_err-write_at-clause-quiet g c).In_ok-_made in
    let there = bare g m told in
    let size = ap length c.deref.ensures.value ∙ long g m told in
    let looks = c.in_err-write_at.ensures.looks told bare_snapshot there.file.own (takes_few s u c.args.number 0 (0 + length c.deref.result.now) c.args.shared.now c.new_node.new.self there (omega (arith, size)) (read g m).books enough) in
    calm_on s u v (looked_calmly g.S.Blocks.tells false s u (read g m) told) (looks.books, (looks.crash told).log)

pub returns-in_err-write_at-clause-settles : goal.returns-in_err-write_at-clause-settles
returns-in_err-write_at-clause-settles g c =
    settled_after g.S.Blocks.tells (fails_reading c.from_residual-in_err-write_at.result) (fails_settling c.from_residual-in_err-write_at.result) (g.S.Blocks.state c.args.blocks.now) (g.S.Blocks.state c.new_node.new.blocks) (g.S.Blocks.state c.write_at.new.blocks)
    (read g (goal.at.returns-in_err-write_at-clause-settles g c).In_ok-_made) (search (rules, tests))
    (λ told. c.calls_compose.ensures.advances c.args.blocks.now c.new_node.new.blocks c.write_at.new.blocks
    (advances g.S.Blocks.tells g.S.Blocks.state c.calls_compose.ensures.rests false c.args.blocks.now c.new_node.new.blocks (read g (goal.at.returns-in_err-write_at-clause-settles g c).In_ok-_made) told) (c.in_err-write_at.ensures.settles.crash told))

pub returns-clause-drafts : goal.returns-clause-drafts
returns-clause-drafts g c = λ told.
    let s = g.S.Blocks.state c.args.blocks.now in
    let u = g.S.Blocks.state c.new_node.new.blocks in
    let v = g.S.Blocks.state c.write_at.new.blocks in
    let m = (goal.at.returns-clause-drafts g c).In_ok-_made in
    let wrote = c.in_ok-write_at.ensures in
    let there = (bare g m told).file.own in
    let size = ap length c.deref.ensures.value ∙ long g m told in
    let some : 0 < length c.deref.result.now = omega (arith, size) in
    drafts_snapshot s u v c.args.number 0 (0 + length c.deref.result.now) c.args.shared.now c.deref.result.now c.args.name.now c.new_node.new.self c.write_at.new.self (bare g m told) (ap (λ (b : Bookkeeping). b.geom) (read g m).books) c.in_ok-write_at.ensures.settles.pipeline.geom
    (c.deref.ensures.value ∙ bytes_are g m told) (omega (arith, size)) some (wrote.file told bare_snapshot there) (wrote.places told bare_snapshot there some) (wrote.grows told bare_snapshot there some) (wrote.among told bare_snapshot there some) (wrote.changes told some)

pub returns-clause-quiet : goal.returns-clause-quiet
returns-clause-quiet g c = λ told enough.
    let s = g.S.Blocks.state c.args.blocks.now in
    let u = g.S.Blocks.state c.new_node.new.blocks in
    let v = g.S.Blocks.state c.write_at.new.blocks in
    let m = (goal.at.returns-clause-quiet g c).In_ok-_made in
    let there = bare g m told in
    let size = ap length c.deref.ensures.value ∙ long g m told in
    let looks = c.in_ok-write_at.ensures.looks told bare_snapshot there.file.own (takes_few s u c.args.number 0 (0 + length c.deref.result.now) c.args.shared.now c.new_node.new.self there (omega (arith, size)) (read g m).books enough) in
    calm_on s u v (looked_calmly g.S.Blocks.tells false s u (read g m) told) (looks.books, (looks.crash told).log)

pub returns-clause-settles : goal.returns-clause-settles
returns-clause-settles g c =
    settled_after g.S.Blocks.tells false false (g.S.Blocks.state c.args.blocks.now) (g.S.Blocks.state c.new_node.new.blocks) (g.S.Blocks.state c.write_at.new.blocks) (read g (goal.at.returns-clause-settles g c).In_ok-_made) c.in_ok-write_at.ensures.settles
    (λ told. c.calls_compose.ensures.advances c.args.blocks.now c.new_node.new.blocks c.write_at.new.blocks
    (advances g.S.Blocks.tells g.S.Blocks.state c.calls_compose.ensures.rests false c.args.blocks.now c.new_node.new.blocks (read g (goal.at.returns-clause-settles g c).In_ok-_made) told) (c.in_ok-write_at.ensures.settles.crash told))

pub returns-in_err-bytes-clause-quiet : goal.returns-in_err-bytes-clause-quiet
returns-in_err-bytes-clause-quiet g c = λ told enough. (c.in_err-bytes.ensures.looks.books, (c.in_err-bytes.ensures.looks.crash told).log)

pub returns-then-len-gt-LARGEST_FILE-clause-quiet : goal.returns-then-len-gt-LARGEST_FILE-clause-quiet
returns-then-len-gt-LARGEST_FILE-clause-quiet g c = λ told enough. (c.in_ok-bytes.ensures.looks.books, (c.in_ok-bytes.ensures.looks.crash told).log)
