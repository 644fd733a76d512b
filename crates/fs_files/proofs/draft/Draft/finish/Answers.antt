use Rattle.std.proofs.Common.{◌≡◌, ◌≢◌, ℕ, AllPairs, sym, ap, subst, length, arith}
use Rattle.layout_geometry.specs.Geometry.{IsGeometry}
use Rattle.fs_files.specs.declared.changes.Changed.{Changed}
use Rattle.fs_files.specs.Drafts.{DraftState}
use Rattle.fs_files.specs.Sound.{IsDraftOf}
use Rattle.fs_files.specs.Finish.{BooksFinished}
use Rattle.fs_files.proofs.finishing.Basics.{leaves_on}
use Rattle.fs_files.proofs.finishing.Sync.{Grows}
use Rattle.fs_files.proofs.finishing.Finished.{same_draft, draft_ready, finish_books, finish_map, few_changes, few_contents, few_taken}
use Rattle.fs_files.proofs.draft.Draft.finish.Goals as goal

pub overflow_cast-puts : goal.overflow_cast-puts
overflow_cast-puts g c =
    let s = g.S.Blocks.state c.args.blocks.now in
    let parts = c.into_parts-changed.ensures in
    let changed = few_changes s.books c.args.self c.requires.draft.fits (subst (AllPairs (λ (a b : ℕ × Changed). a.0 ≢ b.0)) parts.changed c.lawful-2.ensures.once) in
    let fresh = few_contents s.books c.args.self c.requires.draft.fits (subst (AllPairs (λ (a b : ℕ × Changed). a.0 ≢ b.0)) parts.fresh c.lawful-3.ensures.once) in
    omega (arith, changed, fresh, c.len-2.ensures, c.len-3.ensures, ap length parts.changed, ap length parts.fresh, ap (λ h. h.n) c.geom.ensures, c.lawful.ensures.limits.most_blocks)

pub overflow_cast-len : goal.overflow_cast-len
overflow_cast-len g c =
    let s = g.S.Blocks.state c.args.blocks.now in
    omega (arith, few_taken s.books c.args.self c.requires.draft.fits, c.len-4.ensures, ap length c.into_parts-changed.ensures.taken, ap (λ h. h.n) c.geom.ensures, c.lawful.ensures.limits.most_blocks)

pub make_changes-requires-clause-draft : goal.make_changes-requires-clause-draft
make_changes-requires-clause-draft g c =
    let d : DraftState = c.args.self in
    let parts = c.into_parts-changed.result in
    let e : DraftState = record { kept = d.kept; changed = parts.0; fresh = parts.1; taken = parts.2; freed = parts.3 } in
    let same : e ≡ d = same_draft d parts.0 parts.1 parts.2 parts.3 c.into_parts-changed.ensures.changed c.into_parts-changed.ensures.fresh c.into_parts-changed.ensures.taken c.into_parts-changed.ensures.freed in
    let s = g.S.Blocks.state c.args.blocks.now in
    let one = g.S.Blocks.state c.prepare.new.self in
    (d.kept, subst (IsDraftOf g.S.Blocks.tells one) (sym same) (draft_ready g.S.Blocks.tells s one d c.requires.draft c.prepare.ensures.books c.prepare.ensures.map))

pub returns-clause-books : goal.returns-clause-books
returns-clause-books g c =
    let d : DraftState = c.args.self in
    let parts = c.into_parts-changed.result in
    let e : DraftState = record { kept = d.kept; changed = parts.0; fresh = parts.1; taken = parts.2; freed = parts.3 } in
    let same : e ≡ d = same_draft d parts.0 parts.1 parts.2 parts.3 c.into_parts-changed.ensures.changed c.into_parts-changed.ensures.fresh c.into_parts-changed.ensures.taken c.into_parts-changed.ensures.freed in
    let s = g.S.Blocks.state c.args.blocks.now in
    let one = g.S.Blocks.state c.prepare.new.self in
    let new = g.S.Blocks.state c.make_changes.new.blocks in
    let laws = c.a_commit_grows_by_each_call.ensures in
    let grows : Grows = record { put = laws.put; fresh = laws.fresh; take = laws.take; frees = laws.frees } in
    finish_books grows g.S.Blocks.tells s one new d e c.requires.draft c.lawful-2.ensures.once same c.prepare.ensures.books (c.make_changes.ensures.made d.kept)

pub returns-clause-map : goal.returns-clause-map
returns-clause-map g c =
    let d : DraftState = c.args.self in
    let parts = c.into_parts-changed.result in
    let e : DraftState = record { kept = d.kept; changed = parts.0; fresh = parts.1; taken = parts.2; freed = parts.3 } in
    let same : e ≡ d = same_draft d parts.0 parts.1 parts.2 parts.3 c.into_parts-changed.ensures.changed c.into_parts-changed.ensures.fresh c.into_parts-changed.ensures.taken c.into_parts-changed.ensures.freed in
    let s = g.S.Blocks.state c.args.blocks.now in
    let one = g.S.Blocks.state c.prepare.new.self in
    let new = g.S.Blocks.state c.make_changes.new.blocks in
    let books : BooksFinished d s.books new.books = returns-clause-books g c in
    λ t. finish_map g.S.Blocks.tells s one new d e c.requires.draft (subst IsGeometry c.geom.ensures c.lawful.ensures.limits) same c.prepare.ensures.books c.prepare.ensures.map (c.make_changes.ensures.made d.kept) books t (g.met.S.Blocks.is_told c.args.blocks.now t) (g.met.S.Blocks.is_told c.make_changes.new.blocks t) (g.met.S.Blocks.is_sound c.args.blocks.now)

pub returns-clause-disk : goal.returns-clause-disk
returns-clause-disk g c =
    let made = (c.make_changes.ensures.made c.args.self.kept).disk in
    leaves_on g.S.Blocks.tells (g.S.Blocks.state c.args.blocks.now) (g.S.Blocks.state c.prepare.new.self) (g.S.Blocks.state c.make_changes.new.blocks) c.prepare.ensures.disk made
